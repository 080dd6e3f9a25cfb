-- What the normal form of a text's reading gives the printer: its trees, their nesting, and the order of its offsets.
use Rattle.std.proofs.Common.{◌≡◌, ◌≢◌, ℕ, suc, ◌<◌, Bool, true, false, not, List, [], ◌∷◌, ◌++◌, length, map, Option, refl, sym, ap, ◌∙◌, subst, arith}
use Rattle.std.specs.Prelude.{◌==◌, nat_lt, nat_le, slice_index_or}
use Rattle.std.specs.List.{list_all}
use Rattle.std.proofs.lemmas.Bool.{and_from, and_parts}
use Rattle.std.proofs.lemmas.Bool.Decides.{nat_tests}
use Rattle.std.proofs.lemmas.List.{length-map}
use Rattle.yf_chars.specs.Text.{code}
use Rattle.yf_comments.specs.Comment.{CommentValue}
use Rattle.yf_events.specs.Tree.{Node, Items, Pairs, DocumentTree, TreesOf, leaves, leaves_of_items, leaves_of_pairs, spans_of_leaf}
use Rattle.yf_events.specs.declared.document.Doc.{Doc}
use Rattle.yf_events.specs.declared.event.Span.{Span}
use Rattle.yf_events.specs.declared.lists.Lists.{Lists}
use Rattle.yf_events.specs.declared.reading.TheConstants.{DEPTH}
use Rattle.yf_events.proofs.TreeLemmas.{trees_unique}
use Rattle.yf_grammar.specs.Productions.Meaning.{from_to}
use Rattle.yf_grammar.proofs.Ends.GapLemmas.{Visible}
use Rattle.yf_grammar.proofs.NodesInText.NodePlaces.{NodeIsAt, is_at_nowhere, scalar_is_at, alias_is_at, sequence_is_at, mapping_is_at, ItemsStand, no_items_stand, item_is_at, PairsStand, no_pairs_stand, pair_is_at}
use Rattle.yf_stream.proofs.PlaceLawsHold.{comments_of_readings_ascend_strictly, comments_of_readings_have_signs}
use Rattle.yf_stream.proofs.Offsets.ReadingTrees.{TreesStand, no_trees_stand, tree_is_at, reading_is_at}
use Rattle.yf_forms.specs.declared.style.Style.{Style}
use Rattle.yf_laws.proofs.OfTexts.KeyEntries.{keys_begin_in_documents}
use Rattle.yf_forms.specs.NormalForms.Forms.{documents_are_placed}
use Rattle.yf_forms.specs.NormalForms.Normal.{LayoutSetting, normal_document, root_margins, setting_of, styled}
use Rattle.yf_laws.specs.NormalForms.NormalForm.{NormalForm}
use Rattle.yf_laws.proofs.Trails.DocumentTrails.{leaves_of}
use Rattle.yf_laws.proofs.Printer.DocumentsPrinted.{AreNormal, no_documents, one_more}
use Rattle.yf_laws.proofs.Printer.FeedLemmas.{ascend}
use Rattle.yf_laws.proofs.OfTexts.KeysBegin.{trees_begin}
use Rattle.yf_laws.proofs.OfTexts.LeavesRise.{leaves_rise}
use Rattle.yf_laws.proofs.OfTexts.NestsRun.{documents_nest, trees_nest}
use Rattle.yf_laws.proofs.NormalForms.NormalSame.{root_same}
use Rattle.yf_laws.proofs.Printer.PrintNodes.{nests}
use Rattle.yf_laws.proofs.OfTexts.ReadingsOfTexts.{trees_placed}
use Rattle.yf_laws.proofs.NormalForms.SettledTwice.{settled_twice}
use Rattle.yf_laws.proofs.NormalForms.StyledTwice.{normal_house}
use Rattle.yf_laws.proofs.Trails.TrailChoice.{none_at, rising}
use Rattle.yf_laws.proofs.Trails.TrailOthers.{strict}
use Rattle.yf_laws.proofs.Trails.TrailsAgree.{none_at_starts}
use Rattle.yf_laws.proofs.Trails.TrailsHold.{Placing}
use Rattle.yf_chars.proofs.Tests.{below}

-- The order of comments.

abbrev OneAfterOther : List CommentValue → Type 0
OneAfterOther cs = (i j : ℕ) (d : CommentValue) → i < j → j < length cs → (slice_index_or cs i d).offset < (slice_index_or cs j d).offset

not_above : (a b : ℕ) → nat_lt a b ≡ true → nat_le a b ≡ true
not_above a b e = grind (arith, nat_tests)

all_later : (n : ℕ) (cs : List CommentValue) → ((k : ℕ) (d : CommentValue) → k < length cs → n < (slice_index_or cs k d).offset) → list_all (λ d. nat_lt n d.offset) cs ≡ true
all_later n [] h = refl
all_later n (c ∷ cs) h = and_from _ _ (below n c.offset (h 0 c (omega arith))) (all_later n cs (λ k d l. h (suc k) d (omega (arith, l))))

strictly : (cs : List CommentValue) → OneAfterOther cs → strict cs ≡ true
strictly [] h = refl
strictly (c ∷ cs) h =
    and_from _ _ (all_later c.offset cs (λ k d l. h 0 (suc k) d (omega arith) (omega (arith, l))))
    (strictly cs (λ i j d l m. h (suc i) (suc j) d (omega (arith, l)) (omega (arith, m))))

all_not_above : (n : ℕ) (cs : List CommentValue) → list_all (λ (d : CommentValue). nat_lt n d.offset) cs ≡ true → list_all (λ (d : CommentValue). nat_le n d.offset) cs ≡ true
all_not_above n [] e = refl
all_not_above n (c ∷ cs) e =
    let parts = and_parts (nat_lt n c.offset) (list_all (λ (d : CommentValue). nat_lt n d.offset) cs) e in
    and_from _ _ (not_above n c.offset parts.0) (all_not_above n cs parts.1)

ascend_from : (cs : List CommentValue) → strict cs ≡ true → ascend cs ≡ true
ascend_from [] e = refl
ascend_from (c ∷ cs) e =
    let parts = and_parts (list_all (λ (d : CommentValue). nat_lt c.offset d.offset) cs) (strict cs) e in
    and_from _ _ (all_not_above c.offset cs parts.0) (ascend_from cs parts.1)

-- No comment begins at the start of a leaf.

differ : (n m : ℕ) → (n ≡ m → ⊥) → not (n == m) ≡ true
differ n m h = by (n == m) refl where
  by : (b : Bool) → (n == m) ≡ b → not b ≡ true
  by false e = refl
  by true e = absurd (h (grind (arith, nat_tests)))

signs_apart : (t : List ℕ) (i : ℕ) (cs : List CommentValue) → code t i ≢ 35 → ((k : ℕ) (d : CommentValue) → k < length cs → code t (slice_index_or cs k d).offset ≡ 35) → none_at i cs ≡ true
signs_apart t i [] n h = refl
signs_apart t i (c ∷ cs) n h =
    and_from _ _ (differ c.offset i (λ e. n (ap (code t) (sym e) ∙ h 0 c (omega arith)))) (signs_apart t i cs n (λ k d l. h (suc k) d (omega (arith, l))))

starts_append : (cs : List CommentValue) (xs ys : List Span) → none_at_starts cs xs ≡ true → none_at_starts cs ys ≡ true → none_at_starts cs (xs ++ ys) ≡ true
starts_append cs [] ys e f = f
starts_append cs (x ∷ xs) ys e f =
    let parts = and_parts (none_at x.start cs) (none_at_starts cs xs) e in and_from _ _ parts.0 (starts_append cs xs ys parts.1 f)

module _ {t : List ℕ} (cs : List CommentValue) (apart : (i : ℕ) → Visible t i → none_at i cs ≡ true) where
  leaf_apart : (a b : ℕ) (o : Option Span) → o ≡ from_to a b → Visible t a → none_at_starts cs (spans_of_leaf o) ≡ true
  unfolding from_to
  leaf_apart a b o e v = ap (λ w. none_at_starts cs (spans_of_leaf w)) e ∙ and_from _ _ (apart a v) refl

  mutual
    node_apart : {i j : ℕ} {x : Node} → NodeIsAt t i j x → none_at_starts cs (leaves x) ≡ true
    node_apart (is_at_nowhere {at = at} m e) = ap (λ w. none_at_starts cs (spans_of_leaf w)) e
    node_apart (scalar_is_at {at = at} e b l m w s) = leaf_apart _ _ at.span e b.visible
    node_apart (alias_is_at {at = at} e b l m s) = leaf_apart _ _ at.span e b.visible
    node_apart (sequence_is_at {at = at} e b (no_items_stand l) m s) = leaf_apart _ _ at.span e b.visible
    node_apart (sequence_is_at e b (item_is_at {x = x} {xs = xs} f q l a c) m s) = starts_append cs (leaves x) (leaves_of_items xs) (node_apart a) (items_apart c)
    node_apart (mapping_is_at {at = at} e b (no_pairs_stand l) m s) = leaf_apart _ _ at.span e b.visible
    node_apart (mapping_is_at e b (pair_is_at {k = k} {v = v} {ps = ps} f q l a c d g) m s) =
        starts_append cs (leaves k) (leaves v ++ leaves_of_pairs ps) (node_apart a) (starts_append cs (leaves v) (leaves_of_pairs ps) (node_apart d) (pairs_apart g))

    items_apart : {i j : ℕ} {xs : Items} → ItemsStand t i j xs → none_at_starts cs (leaves_of_items xs) ≡ true
    items_apart (no_items_stand l) = refl
    items_apart (item_is_at {x = x} {xs = xs} f q l a c) = starts_append cs (leaves x) (leaves_of_items xs) (node_apart a) (items_apart c)

    pairs_apart : {i j : ℕ} {ps : Pairs} → PairsStand t i j ps → none_at_starts cs (leaves_of_pairs ps) ≡ true
    pairs_apart (no_pairs_stand l) = refl
    pairs_apart (pair_is_at {k = k} {v = v} {ps = ps} f q l a c d g) =
        starts_append cs (leaves k) (leaves v ++ leaves_of_pairs ps) (node_apart a) (starts_append cs (leaves v) (leaves_of_pairs ps) (node_apart d) (pairs_apart g))

  trees_apart : {i : ℕ} {ds : List Doc} {trees : List DocumentTree} → TreesStand t i ds trees → none_at_starts cs (leaves_of trees) ≡ true
  trees_apart (no_trees_stand l) = refl
  trees_apart (tree_is_at {tree = tree} {trees = trees} d a b z) = starts_append cs (leaves tree.root) (leaves_of trees) (node_apart a) (trees_apart b)

-- The trees of a normal form.

pub normal_placed : (t : List ℕ) (c : LayoutSetting) (ds : List DocumentTree) → documents_are_placed (map (normal_document t c) ds) ≡ documents_are_placed ds
normal_placed t c [] = refl
normal_placed t c (d ∷ ds) = rw ((root_same t c d).placed, normal_placed t c ds) refl

normal_begin : (t : List ℕ) (c : LayoutSetting) (ds : List DocumentTree) → keys_begin_in_documents (map (normal_document t c) ds) ≡ keys_begin_in_documents ds
normal_begin t c [] = refl
normal_begin t c (d ∷ ds) = rw ((root_same t c d).begins, normal_begin t c ds) refl

pub normal_leaves : (t : List ℕ) (c : LayoutSetting) (ds : List DocumentTree) → leaves_of (map (normal_document t c) ds) ≡ leaves_of ds
normal_leaves t c [] = refl
normal_leaves t c (d ∷ ds) = rw ((root_same t c d).leaves, normal_leaves t c ds) refl

are_normal : (t : List ℕ) (c : LayoutSetting) (n : ℕ) (ds : List DocumentTree) → documents_nest n (map (normal_document t c) ds) ≡ true → AreNormal c n (map (normal_document t c) ds)
are_normal t c n [] h = no_documents
are_normal t c n (d ∷ ds) h =
    let parts = and_parts (nests n (normal_document t c d).root) (documents_nest n (map (normal_document t c) ds)) h in
    one_more (record {
      house = normal_house t c (root_margins c.style) d.root;
      settled = settled_twice c (root_margins c.style) (root_margins c.style) (styled t c d.root) (record { entries = refl; column = λ e. refl });
      nests = parts.0;
    }) (are_normal t c n ds parts.1)

-- for the reading r of a text
abbrev pub trees_in : {m : Lists} {s : Style} → NormalForm m s → List DocumentTree
trees_in {m} {s} f = map (normal_document f.text (setting_of f.reading s)) f.is.trees

pub trees_of : {m : Lists} {s : Style} (f : NormalForm m s) → TreesOf m (trees_in f)
trees_of {m} {s} f = record {
  events = ap (λ (w : Lists). w.events) f.is.is;
  documents = ap (λ (w : Lists). length w.documents) f.is.is
      ∙ (f.is.of_reading.documents ∙ sym (length-map f.is.trees (normal_document f.text (setting_of f.reading s))));
}

pub record Laid (m : Lists) (s : Style) (ds : List DocumentTree) : Type 0 where
  pub begin : keys_begin_in_documents ds ≡ true
  pub placing : Placing m s DEPTH ds

laid_in : {m : Lists} {s : Style} (f : NormalForm m s) → Laid m s (trees_in f)
laid_in {m} {s} f =
    let t : List ℕ = f.text in
    let r : Lists = f.reading in
    let c : LayoutSetting = setting_of r s in
    let w = reading_is_at f.utf8 f.reads in
    let same : w.trees ≡ f.is.trees = trees_unique r w.trees f.is.trees w.of_reading f.is.of_reading in
    let comments : m.comments ≡ r.comments = ap (λ (v : Lists). v.comments) f.is.is in
    let setting : setting_of m s ≡ c = ap (λ (v : Lists). setting_of v s) f.is.is in
    let sharp : strict r.comments ≡ true = strictly r.comments (comments_of_readings_ascend_strictly t r f.reads) in
    let apart : none_at_starts r.comments (leaves_of w.trees) ≡ true =
    trees_apart r.comments (λ i v. signs_apart t i r.comments v.no_hash (comments_of_readings_have_signs t r f.reads)) w.stand in
    record {
      begin = normal_begin t c f.is.trees ∙ (ap keys_begin_in_documents (sym same) ∙ trees_begin w.stand);
      placing = record {
        of_reading = trees_of f;
        placed = normal_placed t c f.is.trees ∙ (ap documents_are_placed (sym same) ∙ trees_placed w.stand);
        normal = subst (λ b. AreNormal b DEPTH (trees_in f)) (sym setting) (are_normal t c DEPTH f.is.trees (trees_nest m DEPTH (trees_in f) (trees_of f) f.nested));
        ascend = ap ascend comments ∙ ascend_from r.comments sharp;
        strict = ap strict comments ∙ sharp;
        noted = ap (λ (v : Lists). length v.on_leaf_line) f.is.is
            ∙ (ap length f.reads.notes ∙ (length-map r.comments _ ∙ sym (ap length comments)));
        rises = ap rising (normal_leaves t c f.is.trees ∙ ap leaves_of (sym same)) ∙ leaves_rise w.stand;
        apart = ap (λ cs. none_at_starts cs (leaves_of (trees_in f))) comments
            ∙ (ap (none_at_starts r.comments) (normal_leaves t c f.is.trees ∙ ap leaves_of (sym same)) ∙ apart);
      };
    }

-- whatever its trees
pub laid_out : {m : Lists} {s : Style} (f : NormalForm m s) (ds : List DocumentTree) → TreesOf m ds → Laid m s ds
laid_out {m} {s} f ds a = subst (λ w. Laid m s w) (trees_unique m (trees_in f) ds (trees_of f) a) (laid_in f)
