-- The trees of the reading of a formatted text are set: the entries of each block collection and the content of each
-- block scalar are at their columns.
use Rattle.std.proofs.Common.{◌≡◌, ℕ, suc, ◌+◌, List, [], ◌∷◌, ◌++◌, length, flat_map, Option, Some, None, refl, sym, ap, ◌∙◌, subst}
use Rattle.std.specs.Str.{IsUtf8}
use Rattle.yf_chars.specs.Class.{is_white_or_end}
use Rattle.yf_chars.specs.Text.{code}
use Rattle.std.specs.Prelude.{not, ◌&&◌, if◌then◌else◌}
use Rattle.std.proofs.lemmas.Option.{same_Some}
use Rattle.std.proofs.lemmas.List.{length-map}
use Rattle.yf_events.specs.Event.{EventInText, document_starts, document_ends, stream_starts, stream_ends, scalar_node}
use Rattle.yf_events.specs.Tree.{Node, Items, Pairs, DocumentTree, TreesOf, unplaced, flat, flat_document, standing}
use Rattle.yf_events.specs.declared.event.Entry.{Entry}
use Rattle.yf_events.specs.declared.lists.Lists.{Lists}
use Rattle.yf_grammar.specs.Productions.ReadParts.{Noting}
use Rattle.yf_grammar.proofs.WrittenTexts.KeptNodes.{SameEntry, no_entry, same_entry, Kept, kept_scalar, kept_alias, kept_sequence, kept_mapping, KeptItems, kept_no_items, kept_item, KeptPairs, kept_no_pairs, kept_pair, kept_standing, kept_node}
use Rattle.yf_grammar.proofs.NodesInText.NotedNodes.{noted_plain}
use Rattle.yf_stream.specs.ReadingOf.{DocumentEvents, no_document, one_document, ReadingOf, doc_of}
use Rattle.yf_stream.specs.Stream.{Document, Documents}
use Rattle.yf_stream.proofs.Offsets.ReadingTrees.{enclosed, joined, nothing_noted, parted}
use Rattle.yf_laws.specs.Layouts.Decorated.{body_then}
use Rattle.yf_laws.specs.Format.{IsFormatting}
use Rattle.yf_forms.specs.declared.style.Style.{Style}
use Rattle.yf_forms.specs.NormalForms.Normal.{is_implicit, value_entries}
use Rattle.yf_laws.proofs.SecondRun.AlikeLemmas.{same_implicit, same_sequence}
use Rattle.yf_laws.proofs.Derived.FormatsRead.{formats_laid}
use Rattle.yf_laws.proofs.OutputLines.HeldLemmas.{ScalarAt}
use Rattle.yf_laws.proofs.ReadAgain.RowsWithNotes.{kept_alike}
use Rattle.yf_laws.proofs.Columns.SetMeant.{BlockAt, block_at, SetAt}
use Rattle.yf_laws.proofs.Columns.SetNodes.{Blockless, BlocklessItems, BlocklessPairs, ColumnAt, entries_after, EntryOn, Questioned, SetDocuments, no_set_documents, set_document, SetItems, no_set_items, set_item, set_line, set_scalar, set_sequence, set_mapping, SetPairs, no_set_pairs, set_pair, Unquestioned}
use Rattle.yf_laws.proofs.Columns.SetStreams.{SetAll, none_set, some_set}

-- Kept nodes.

mutual
  kept_line : {x y : Node} → Kept x y → Blockless x → Blockless y
  kept_line (kept_scalar s) b = b
  kept_line (kept_alias s) b = b
  kept_line (kept_sequence s a) b = (b.0, kept_line_items a b.1)
  kept_line (kept_mapping s a) b = (b.0, kept_line_pairs a b.1)

  kept_line_items : {xs ys : Items} → KeptItems xs ys → BlocklessItems xs → BlocklessItems ys
  kept_line_items kept_no_items b = tt
  kept_line_items (kept_item a more) b = (kept_line a b.0, kept_line_items more b.1)

  kept_line_pairs : {ps qs : Pairs} → KeptPairs ps qs → BlocklessPairs ps → BlocklessPairs qs
  kept_line_pairs kept_no_pairs b = tt
  kept_line_pairs (kept_pair a c more) b = (kept_line a b.0, (kept_line c b.1.0, kept_line_pairs more b.1.1))

after_same : {k l v w : Node} (s : Style) (m : ℕ) → Kept k l → Kept v w → entries_after s m k v ≡ entries_after s m l w
after_same {l = l} {v = v} s m k a =
    ap (λ b. if b then value_entries s m v else m + s.indent) (same_implicit s m (kept_alike k)) ∙ ap (λ b. if is_implicit s m l then (if b && not s.seq_indent then m else m + s.indent) else m + s.indent) (same_sequence (kept_alike a))

module _ {t : List ℕ} where
  on_kept : {m : ℕ} {x y : Node} → Kept x y → EntryOn t m x → EntryOn t m y
  on_kept {m} {x} {y} k o = go (kept_standing k).entry where
    go : SameEntry (standing x).entry (standing y).entry → EntryOn t m y
    go (no_entry e f) = let no : None ≡ Some o.entry = sym e ∙ o.is in absurd cc
    go (same_entry e b f g) =
        let one : o.entry ≡ e = same_Some _ _ (sym o.is ∙ f) in
        let start : o.entry.start ≡ e.start = ap (λ (w : Entry). w.start) one in
        record { entry = record e { blank_before = b }; is = g; column = subst (λ i. ColumnAt t m i) start o.column }

  unquestioned_kept : {x y : Node} → Kept x y → Unquestioned t x → Unquestioned t y
  unquestioned_kept {x} {y} k o = go (kept_standing k).entry where
    go : SameEntry (standing x).entry (standing y).entry → Unquestioned t y
    go (no_entry e f) = let no : None ≡ Some o.entry = sym e ∙ o.is in absurd cc
    go (same_entry e b f g) =
        let one : o.entry ≡ e = same_Some _ _ (sym o.is ∙ f) in
        let start : o.entry.start ≡ e.start = ap (λ (w : Entry). w.start) one in
        record { entry = record e { blank_before = b }; is = g; none = λ c d. o.none (ap (code t) start ∙ c) (ap (λ i. is_white_or_end (code t (i + 1))) start ∙ d) }

  questioned_kept : {x y : Node} → Kept x y → Questioned t x → Questioned t y
  questioned_kept {x} {y} k o = go (kept_standing k).entry where
    go : SameEntry (standing x).entry (standing y).entry → Questioned t y
    go (no_entry e f) = let no : None ≡ Some o.entry = sym e ∙ o.is in absurd cc
    go (same_entry e b f g) =
        let one : o.entry ≡ e = same_Some _ _ (sym o.is ∙ f) in
        let start : e.start ≡ o.entry.start = ap (λ (w : Entry). w.start) (sym one) in
        record { entry = record e { blank_before = b }; is = g; sign = ap (code t) start ∙ o.sign; white = ap (λ i. is_white_or_end (code t (i + 1))) start ∙ o.white }

module _ {t : List ℕ} {s : Style} where
  mutual
    set_kept : {m l : ℕ} {x y : Node} → Kept x y → SetAt t s m l x → SetAt t s m l y
    set_kept k (set_line b) = set_line (kept_line k b)
    set_kept {l = l} (kept_scalar {props = props} {style = style} {text = text} st) (set_scalar f (block_at body z n a)) =
        set_scalar f (block_at body z n (subst (λ w. ScalarAt t (scalar_node props style text) w l body (body_then body z)) st.span a))
    set_kept (kept_sequence st (kept_item k more)) (set_sequence o a) = set_sequence (on_kept k o) (items_kept (kept_item k more) a)
    set_kept (kept_mapping st (kept_pair k v more)) (set_mapping o a) = set_mapping (on_kept k o) (pairs_kept (kept_pair k v more) a)

    items_kept : {m : ℕ} {xs ys : Items} → KeptItems xs ys → SetItems t s (BlockAt t) m xs → SetItems t s (BlockAt t) m ys
    items_kept kept_no_items no_set_items = no_set_items
    items_kept (kept_item k more) (set_item o a b) = set_item (on_kept k o) (set_kept k a) (items_kept more b)

    pairs_kept : {m : ℕ} {ps qs : Pairs} → KeptPairs ps qs → SetPairs t s (BlockAt t) m ps → SetPairs t s (BlockAt t) m qs
    pairs_kept kept_no_pairs no_set_pairs = no_set_pairs
    pairs_kept {m} (kept_pair {w = w} k v more) (set_pair o free marked a b c) =
        let same = same_implicit s m (kept_alike k) in
        set_pair (on_kept k o) (λ e. unquestioned_kept k (free (same ∙ e))) (λ e. questioned_kept k (marked (same ∙ e))) (set_kept k a)
        (subst (λ n. SetAt t s n (m + s.indent) w) (after_same s m k v) (set_kept v b)) (pairs_kept more c)

-- Documents.

record SetTrees (t : List ℕ) (s : Style) (ds : List Document) (rest ys : List EventInText) : Type 0 where
  trees : List DocumentTree
  set : SetDocuments t s (BlockAt t) trees
  count : length ds ≡ length trees
  more : List EventInText
  floor : ℕ
  is : ys ≡ flat_map flat_document trees ++ more
  noting : Noting t floor rest more

module _ {t : List ℕ} {style : Style} where
  set_trees : {ds : List Document} {floor : ℕ} {x rest ys : List EventInText} {tags : List (Option (List ℕ))} → SetAll t style ds → DocumentEvents t ds x tags → Noting t floor (x ++ rest) ys
      → SetTrees t style ds rest ys
  set_trees none_set no_document n = record { trees = []; set = no_set_documents; count = refl; more = _; floor = _; is = refl; noting = n }
  set_trees {floor = floor} {rest = rest} {ys = ys} (some_set a b) (one_document {d = d} {x = x} {closed = closed} tags ends marked others) n =
      let s : EventInText = unplaced (document_starts d.marked) in
      let e : EventInText = unplaced (document_ends closed) in
      let events : List EventInText = flat a.node in
      let same : (s ∷ (d.events ++ (e ∷ x))) ++ rest ≡ s ∷ (events ++ (e ∷ (x ++ rest))) =
      ap (λ z. (s ∷ (z ++ (e ∷ x))) ++ rest) a.events ∙ parted s e events x rest in
      let first = noted_plain refl (subst (λ z. Noting t floor z ys) same n) in
      let root = kept_node a.node first.noting in
      let last = noted_plain refl root.noting in
      let more = set_trees b others last.noting in
      record {
        trees = record { marked = d.marked; closed = closed; root = root.node } ∷ more.trees;
        set = set_document (set_kept root.kept a.set) more.set;
        count = ap suc more.count;
        more = more.more;
        floor = more.floor;
        is = joined ys first.more root.more last.more more.more (flat root.node) (flat_map flat_document more.trees) s e first.is root.is last.is more.is;
        noting = more.noting;
      }

-- the trees of a reading of a formatted text
pub record ReadingSet (u : List ℕ) (s : Style) (q : Lists) : Type 0 where
  pub trees : List DocumentTree
  pub of_reading : TreesOf q trees
  pub set : SetDocuments u s (BlockAt u) trees

pub reading_set : {t u : List ℕ} {s : Style} {q : Lists} → IsUtf8 t → IsFormatting t s u → ReadingOf u q → ReadingSet u s q
reading_set {t} {u} {s} {q} utf8 f a =
    let all = formats_laid t u s utf8 f in
    let shapes = a.reads.shapes in
    let derived : a.derived ≡ all.well.documents = all.well.reads.shapes.only shapes.height a.derived shapes.derived shapes.within in
    let set : SetAll u s a.derived.documents = subst (λ (x : Documents). SetAll u s x.documents) (sym derived) all.set in
    let first = noted_plain refl a.noted in
    let inner = set_trees set a.events first.noting in
    let last = noted_plain refl inner.noting in
    record {
      trees = inner.trees;
      of_reading = record {
        events = enclosed q.events first.more inner.more last.more (flat_map flat_document inner.trees) (unplaced stream_starts) (unplaced stream_ends) first.is inner.is last.is (nothing_noted last.noting);
        documents = ap length a.documents ∙ (length-map a.derived.documents doc_of ∙ inner.count);
      };
      set = inner.set;
    }
