-- The trees of each reading of a formatted text are found as they were laid out.
use Rattle.std.proofs.Common.{◌≡◌, ℕ, Bool, false, List, [], ◌∷◌, ◌++◌, length, map, flat_map, Option, refl, sym, ap, ◌∙◌, subst, arith, append_assoc, true}
use Rattle.yf_comments.specs.Comment.{CommentValue}
use Rattle.yf_events.specs.Alike.{Alike}
use Rattle.yf_events.specs.Event.{EventInText, document_starts, document_ends}
use Rattle.yf_events.specs.Tree.{Node, DocumentTree, flat, flat_document, unplaced}
use Rattle.yf_events.specs.declared.document.Doc.{Doc}
use Rattle.yf_grammar.specs.Productions.TreesOfMeaning.{Anywhere}
use Rattle.yf_stream.specs.ReadingOf.{DocumentEvents, no_document, one_document, doc_of}
use Rattle.yf_stream.specs.Stream.{Document}
use Rattle.yf_laws.specs.Layouts.FitDocuments.{DocumentsMeant, no_documents_meant, document_meant}
use Rattle.yf_laws.specs.Preservation.FoundTrees.{FoundTrees, none_found, one_found}
use Rattle.yf_forms.specs.NormalForms.Normal.{LayoutSetting, normal_document, root_margins, settled, styled}
use Rattle.yf_laws.proofs.RowNodes.BareNodes.{bare, bare_tree}
use Rattle.yf_laws.proofs.RowNodes.BareTrees.{blocks_renoted, undisturbed_renoted}
use Rattle.yf_laws.proofs.RowNodes.FoundAgree.{rows_undisturbed}
use Rattle.yf_laws.proofs.RowNodes.FoundKeys.{blocks_found}
use Rattle.yf_laws.proofs.RowNodes.FoundNodes.{NodeRows}
use Rattle.yf_laws.proofs.RowNodes.FoundStreams.{FoundDocuments, no_documents_found, document_found, AllFound, all_marked, bare_first, begun_placed}
use Rattle.yf_laws.proofs.RowNodes.HeadRows.{HeadRows, heads_before}
use Rattle.yf_laws.proofs.RowNodes.PlacedRows.{PlacedRow}
use Rattle.yf_laws.proofs.RowNodes.QuietPlaces.{AllQuiet, Linked, quiet_left, quiet_right, linked_left, linked_right, quiet_row, linked_row, TrailsTo, trails_nothing, trails_to}
use Rattle.yf_laws.proofs.NormalForms.SettledTwice.{settled_twice}

-- the trees of documents that are found, with the markers of their events
pub data FoundRoots (t : List ℕ) (c : LayoutSetting) : Bool → List Doc → List DocumentTree → List DocumentTree → List PlacedRow → Type 0 where
  no_roots : {is_first : Bool} → FoundRoots t c is_first [] [] [] []
  one_root : {is_first : Bool} {d : Doc} {ds : List Doc} {x z : DocumentTree} {xs zs : List DocumentTree} {inner qs : List PlacedRow} (heads : List PlacedRow) → HeadRows d.start (heads_before is_first d.directives) heads
      → Alike Anywhere x.root z.root → NodeRows t c (root_margins c.style) x.root z.root inner → FoundRoots t c false ds xs zs qs → FoundRoots t c is_first (d ∷ ds) (x ∷ xs) (z ∷ zs) ((heads ++ inner) ++ qs)

pub record RootsFound (t : List ℕ) (c : LayoutSetting) (is_first : Bool) (ds : List Doc) (xs : List DocumentTree) (es : List EventInText) (ps : List PlacedRow) (n : ℕ) : Type 0 where
  pub trees : List DocumentTree
  pub events : es ≡ flat_map flat_document trees
  pub count : n ≡ length trees
  pub roots : FoundRoots t c is_first ds xs trees ps

pub roots_found : {u t : List ℕ} {c : LayoutSetting} {is_first : Bool} {xs : List DocumentTree} {ms : List Document} {ps : List PlacedRow} {es : List EventInText} {tags : List (Option (List ℕ))} → FoundDocuments t c is_first xs ms ps → DocumentEvents u ms es tags
    → RootsFound t c is_first (map doc_of ms) xs es ps (length ms)
roots_found no_documents_found no_document = record { trees = []; events = refl; count = refl; roots = no_roots }
roots_found {t = t} {c = c} {is_first = is_first} (document_found {x = x} {xs = xs} {ms = ms} {qs = qs} a more) (one_document {d = d} {x = rest} {closed = closed} tags end marked others) =
    let w = roots_found more others in
    let z : DocumentTree = record { marked = d.marked; closed = closed; root = a.node } in
    let last : List EventInText = unplaced (document_ends closed) ∷ [] in
    record {
      trees = z ∷ w.trees;
      events = ap (λ v. unplaced (document_starts d.marked) ∷ (v ++ (unplaced (document_ends closed) ∷ rest))) a.events
          ∙ (ap (λ v. unplaced (document_starts d.marked) ∷ (flat a.node ++ (unplaced (document_ends closed) ∷ v))) w.events
          ∙ ap (λ v. unplaced (document_starts d.marked) ∷ v) (sym (append_assoc (flat a.node) last (flat_map flat_document w.trees))));
      count = let n = w.count in omega (arith, n);
      roots = subst (λ v. FoundRoots t c is_first (doc_of d ∷ map doc_of ms) (x ∷ xs) (z ∷ w.trees) (v ++ qs)) (sym a.are) (one_root a.heads a.head a.alike a.rows w.roots);
    }

-- this holds for all documents
pub data AllRoots (t : List ℕ) (c : LayoutSetting) : Bool → List Doc → List DocumentTree → List DocumentTree → List PlacedRow → Type 0 where
  marked_roots : {ds : List Doc} {xs zs : List DocumentTree} {ps : List PlacedRow} → FoundRoots t c true ds xs zs ps → AllRoots t c false ds xs zs ps
  bare_root : {d : Doc} {ds : List Doc} {x z : DocumentTree} {xs zs : List DocumentTree} {inner qs : List PlacedRow} → Alike Anywhere x.root z.root → NodeRows t c (root_margins c.style) x.root z.root inner → FoundRoots t c false ds xs zs qs
      → AllRoots t c true (d ∷ ds) (x ∷ xs) (z ∷ zs) (begun_placed d.start inner ++ qs)

pub record AllRead (t : List ℕ) (c : LayoutSetting) (bare : Bool) (ds : List Doc) (xs : List DocumentTree) (es : List EventInText) (ps : List PlacedRow) (n : ℕ) : Type 0 where
  pub trees : List DocumentTree
  pub events : es ≡ flat_map flat_document trees
  pub count : n ≡ length trees
  pub roots : AllRoots t c bare ds xs trees ps

pub all_roots_found : {u t : List ℕ} {c : LayoutSetting} {bare : Bool} {xs : List DocumentTree} {ms : List Document} {ps : List PlacedRow} {es : List EventInText} {tags : List (Option (List ℕ))} → AllFound t c bare xs ms ps → DocumentEvents u ms es tags
    → AllRead t c bare (map doc_of ms) xs es ps (length ms)
all_roots_found (all_marked found) events = let w = roots_found found events in record { trees = w.trees; events = w.events; count = w.count; roots = marked_roots w.roots }
all_roots_found {t = t} {c = c} (bare_first {x = x} {xs = xs} {ms = ms} {qs = qs} a more) (one_document {d = d} {x = rest} {closed = closed} tags end marked others) =
    let w = roots_found more others in
    let z : DocumentTree = record { marked = d.marked; closed = closed; root = a.node } in
    let last : List EventInText = unplaced (document_ends closed) ∷ [] in
    record {
      trees = z ∷ w.trees;
      events = ap (λ v. unplaced (document_starts d.marked) ∷ (v ++ (unplaced (document_ends closed) ∷ rest))) a.events
          ∙ (ap (λ v. unplaced (document_starts d.marked) ∷ (flat a.node ++ (unplaced (document_ends closed) ∷ v))) w.events
          ∙ ap (λ v. unplaced (document_starts d.marked) ∷ v) (sym (append_assoc (flat a.node) last (flat_map flat_document w.trees))));
      count = let n = w.count in omega (arith, n);
      roots = subst (λ v. AllRoots t c true (doc_of d ∷ map doc_of ms) (x ∷ xs) (z ∷ w.trees) (v ++ qs)) (sym a.are) (bare_root a.alike a.rows w.roots);
    }

-- each root is settled
pub data Settled (c : LayoutSetting) : List DocumentTree → Type 0 where
  none_settled : Settled c []
  one_settled : {x : DocumentTree} {xs : List DocumentTree} → settled c (root_margins c.style) x.root ≡ x.root → Settled c xs → Settled c (x ∷ xs)

pub normal_settled : (t : List ℕ) (c : LayoutSetting) (read : List DocumentTree) → Settled c (map (normal_document t c) read)
normal_settled t c [] = none_settled
normal_settled t c (z ∷ read) =
    one_settled (settled_twice c (root_margins c.style) (root_margins c.style) (styled t c z.root) (record { entries = refl; column = λ q. refl })) (normal_settled t c read)

abbrev first_root : DocumentTree → List DocumentTree → Node
first_root other [] = other.root
first_root other (w ∷ ws) = w.root

abbrev other_trees : List DocumentTree → List DocumentTree
other_trees [] = []
other_trees (w ∷ ws) = ws

pub trees_found : {u : List ℕ} {c : LayoutSetting} {is_first : Bool} {cs : List CommentValue} {bare : Bool} {ds es : List Doc} {xs zs : List DocumentTree} {ms : List Document} {ps : List PlacedRow} (ys : List DocumentTree) → DocumentsMeant bare ds xs ms → FoundRoots u c is_first es xs zs ps
    → map bare_tree zs ≡ map bare_tree ys → Settled c xs → AllQuiet cs ps → Linked cs ps → FoundTrees c.style c.comments u cs ds xs (map doc_of ms) ys
trees_found [] no_documents_meant no_roots e h q l = none_found
trees_found (y ∷ ys) no_documents_meant no_roots e h q l = absurd cc
trees_found [] (document_meant a more) (one_root heads hr b r others) e h q l = absurd cc
trees_found {u} {c} {cs} (y ∷ ys) (document_meant a more) (one_root {z = z} {zs = zs} {inner = inner} {qs = qs} heads hr b r others) e (one_settled h hs) q l =
    let root : bare z.root ≡ bare y.root = ap (first_root (bare_tree z)) e in
    let rest : map bare_tree zs ≡ map bare_tree ys = ap other_trees e in
    let quiet = quiet_right heads inner (quiet_left (heads ++ inner) qs q) in
    let linked = linked_right heads inner (linked_left (heads ++ inner) qs l) in
    one_found (sym a.words) (blocks_renoted y.root root (blocks_found (root_margins c.style) refl h b r quiet linked)) (undisturbed_renoted y.root root (rows_undisturbed r quiet))
    (trees_found ys more others rest hs (quiet_right (heads ++ inner) qs q) (linked_right (heads ++ inner) qs l))

pub begun_quiet : {cs : List CommentValue} {ps : List PlacedRow} (start : ℕ) → AllQuiet cs (begun_placed start ps) → AllQuiet cs ps
begun_quiet {ps = []} start q = q
begun_quiet {ps = p ∷ ps} start (quiet_row q a) = quiet_row q a

pub begun_linked : {cs : List CommentValue} {ps : List PlacedRow} (start : ℕ) → Linked cs (begun_placed start ps) → Linked cs ps
begun_linked {ps = []} start q = q
begun_linked {cs = cs} {ps = p ∷ ps} start (linked_row f a) = linked_row (λ e. by (f e)) a where
  by : {q : PlacedRow} {qs : List PlacedRow} → TrailsTo cs q qs → TrailsTo cs (record q { items = p.items }) qs
  by trails_nothing = trails_nothing
  by (trails_to d i l m) = trails_to d i l m

pub all_trees_found : {u : List ℕ} {c : LayoutSetting} {bare : Bool} {cs : List CommentValue} {ds es : List Doc} {xs zs : List DocumentTree} {ms : List Document} {ps : List PlacedRow} (ys : List DocumentTree) → DocumentsMeant bare ds xs ms → AllRoots u c bare es xs zs ps
    → map bare_tree zs ≡ map bare_tree ys → Settled c xs → AllQuiet cs ps → Linked cs ps → FoundTrees c.style c.comments u cs ds xs (map doc_of ms) ys
all_trees_found ys meant (marked_roots roots) e h q l = trees_found ys meant roots e h q l
all_trees_found [] (document_meant a more) (bare_root b r others) e h q l = absurd cc
all_trees_found {u} {c} {cs = cs} (y ∷ ys) (document_meant a more) (bare_root {d = d} {z = z} {zs = zs} {inner = inner} {qs = qs} b r others) e (one_settled h hs) q l =
    let root : bare z.root ≡ bare y.root = ap (first_root (bare_tree z)) e in
    let rest : map bare_tree zs ≡ map bare_tree ys = ap other_trees e in
    let quiet = begun_quiet d.start (quiet_left (begun_placed d.start inner) qs q) in
    let linked = begun_linked d.start (linked_left (begun_placed d.start inner) qs l) in
    one_found (sym a.words) (blocks_renoted y.root root (blocks_found (root_margins c.style) refl h b r quiet linked)) (undisturbed_renoted y.root root (rows_undisturbed r quiet))
    (trees_found ys more others rest hs (quiet_right (begun_placed d.start inner) qs q) (linked_right (begun_placed d.start inner) qs l))
