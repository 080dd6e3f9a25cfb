-- The reading of a text has trees, whose documents and nodes are in order, and which have the derived meaning.
use Rattle.std.proofs.Common.{◌≡◌, ℕ, suc, ◌≤◌, List, [], ◌∷◌, ◌++◌, map, flat_map, length, Option, refl, sym, ap, ◌∙◌, subst, append_assoc}
use Rattle.std.specs.Str.{IsUtf8}
use Rattle.yf_events.specs.Event.{EventInText, document_starts, document_ends, stream_starts, stream_ends}
use Rattle.yf_events.specs.Alike.{Alike}
use Rattle.yf_events.specs.Tree.{Node, DocumentTree, TreesOf, unplaced, flat, flat_document, flat_stream}
use Rattle.yf_events.specs.declared.document.Doc.{Doc}
use Rattle.yf_events.specs.declared.lists.Lists.{Lists}
use Rattle.yf_grammar.specs.Productions.TreesOfMeaning.{Anywhere}
use Rattle.yf_grammar.specs.Productions.ReadParts.{Noting, no_event}
use Rattle.yf_grammar.proofs.NodesInText.NodePlaces.{NodeIsAt}
use Rattle.yf_grammar.proofs.NodesInText.NotedNodes.{noted_node, noted_plain}
use Rattle.yf_stream.specs.ReadingOf.{DocumentEvents, no_document, one_document, ReadingOf, doc_of}
use Rattle.yf_stream.specs.Stream.{Document, Documents, Stream}
use Rattle.yf_stream.proofs.Offsets.BrokenEnds.{DocumentBounds}
use Rattle.yf_stream.proofs.Offsets.DirectiveOrder.{DirectivesStand}
use Rattle.yf_stream.proofs.Offsets.DocumentPlaces.{DocumentsStand, no_documents_stand, document_is_at, stream_is_at}

-- documents in order, each with its tree: directives, the beginning, the nodes, and their bounds
pub data TreesStand (t : List ℕ) : ℕ → List Doc → List DocumentTree → Type 0 where
  no_trees_stand : {i : ℕ} → i ≤ length t → TreesStand t i [] []
  tree_is_at : {i j : ℕ} {d : Doc} {ds : List Doc} {tree : DocumentTree} {trees : List DocumentTree} → DirectivesStand i d.directives d.start
      → NodeIsAt t d.start j tree.root → TreesStand t j ds trees → DocumentBounds t d.start j → TreesStand t i (d ∷ ds) (tree ∷ trees)

-- the trees of derived documents: they have one meaning, but for notes on blank lines
pub data TreesMeant : List Document → List DocumentTree → Type 0 where
  no_trees_meant : TreesMeant [] []
  tree_meant : {d : Document} {ds : List Document} {x : Node} {tree : DocumentTree} {trees : List DocumentTree} → d.events ≡ flat x → Alike Anywhere x tree.root
      → TreesMeant ds trees → TreesMeant (d ∷ ds) (tree ∷ trees)

pub record ReadingIsAt (t : List ℕ) (ds : List Document) (r : Lists) : Type 0 where
  pub trees : List DocumentTree
  pub of_reading : TreesOf r trees
  pub stand : TreesStand t 0 r.documents trees
  pub meant : TreesMeant ds trees

record NotedTrees (t : List ℕ) (i : ℕ) (ds : List Document) (rest ys : List EventInText) : Type 0 where
  trees : List DocumentTree
  stand : TreesStand t i (map doc_of ds) trees
  meant : TreesMeant ds trees
  count : length ds ≡ length trees
  more : List EventInText
  floor : ℕ
  is : ys ≡ flat_map flat_document trees ++ more
  noting : Noting t floor rest more

-- the joined events of documents

pub parted : (s e : EventInText) (root x rest : List EventInText) → (s ∷ (root ++ (e ∷ x))) ++ rest ≡ s ∷ (root ++ (e ∷ (x ++ rest)))
parted s e root x rest = ap (λ z. s ∷ z) (append_assoc root (e ∷ x) rest)

document_joined : (s e : EventInText) (root x rest : List EventInText) → ((s ∷ (root ++ (e ∷ []))) ++ x) ++ rest ≡ s ∷ (root ++ (e ∷ (x ++ rest)))
document_joined s e root x rest = ap (λ z. s ∷ z) (append_assoc (root ++ (e ∷ [])) x rest ∙ append_assoc root (e ∷ []) (x ++ rest))

pub joined : (ys more more2 more3 more4 root x : List EventInText) (s e : EventInText) → ys ≡ s ∷ more → more ≡ root ++ more2 → more2 ≡ e ∷ more3
    → more3 ≡ x ++ more4 → ys ≡ ((s ∷ (root ++ (e ∷ []))) ++ x) ++ more4
joined ys more more2 more3 more4 root x s e p q f g =
    let whole : ys ≡ s ∷ (root ++ (e ∷ (x ++ more4))) = cc in whole ∙ sym (document_joined s e root x more4)

pub enclosed : (ys more more2 more3 x : List EventInText) (s e : EventInText) → ys ≡ s ∷ more → more ≡ x ++ more2 → more2 ≡ e ∷ more3 → more3 ≡ []
    → ys ≡ s ∷ (x ++ (e ∷ []))
enclosed ys more more2 more3 x s e p q f g = cc

pub nothing_noted : {t : List ℕ} {floor : ℕ} {ys : List EventInText} → Noting t floor [] ys → ys ≡ []
nothing_noted no_event = refl

module _ {t : List ℕ} where
  noted_trees : {i floor : ℕ} {ds : List Document} {x rest ys : List EventInText} {tags : List (Option (List ℕ))} → DocumentsStand t i ds
      → DocumentEvents t ds x tags → Noting t floor (x ++ rest) ys → NotedTrees t i ds rest ys
  noted_trees (no_documents_stand l) no_document n =
      record { trees = []; stand = no_trees_stand l; meant = no_trees_meant; count = refl; more = _; floor = _; is = refl; noting = n }
  noted_trees {floor = floor} {rest = rest} {ys = ys} (document_is_at a b) (one_document {d = d} {x = x} {closed = closed} tags ends marked others) n =
      let s : EventInText = unplaced (document_starts d.marked) in
      let e : EventInText = unplaced (document_ends closed) in
      let events : List EventInText = flat a.node in
      let same : (s ∷ (d.events ++ (e ∷ x))) ++ rest ≡ s ∷ (events ++ (e ∷ (x ++ rest))) =
      ap (λ z. (s ∷ (z ++ (e ∷ x))) ++ rest) a.events ∙ parted s e events x rest in
      let first = noted_plain refl (subst (λ z. Noting t floor z ys) same n) in
      let root = noted_node a.is_there first.noting in
      let last = noted_plain refl root.noting in
      let follows = noted_trees b others last.noting in
      record {
        trees = record { marked = d.marked; closed = closed; root = root.node } ∷ follows.trees;
        stand = tree_is_at a.directives root.is_there follows.stand a.bounds;
        meant = tree_meant a.events root.alike follows.meant;
        count = ap suc follows.count;
        more = follows.more;
        floor = follows.floor;
        is = joined ys first.more root.more last.more follows.more (flat root.node) (flat_map flat_document follows.trees) s e first.is root.is last.is follows.is;
        noting = follows.noting;
      }

-- the trees of the events of derived documents, with their notes filled in
pub record EventTrees (t : List ℕ) (ds : List Document) (noted : List EventInText) : Type 0 where
  pub trees : List DocumentTree
  pub events : noted ≡ flat_stream trees
  pub documents : length (map doc_of ds) ≡ length trees
  pub stand : TreesStand t 0 (map doc_of ds) trees
  pub meant : TreesMeant ds trees

count_map : (f : Document → Doc) (ds : List Document) → length (map f ds) ≡ length ds
count_map f [] = refl
count_map f (d ∷ ds) = ap suc (count_map f ds)

pub trees_stand : {t : List ℕ} {h : ℕ} {x : Documents} {derived events : List EventInText} {tags : List (Option (List ℕ))} → IsUtf8 t → Stream t h x
    → DocumentEvents t x.documents derived tags → Noting t 0 (unplaced stream_starts ∷ (derived ++ (unplaced stream_ends ∷ []))) events
    → EventTrees t x.documents events
trees_stand {x = x} {events = events} u derived are noted =
    let first = noted_plain refl noted in
    let inner = noted_trees (stream_is_at u derived) are first.noting in
    let last = noted_plain refl inner.noting in
    record {
      trees = inner.trees;
      events = enclosed events first.more inner.more last.more (flat_map flat_document inner.trees) (unplaced stream_starts) (unplaced stream_ends) first.is
          inner.is last.is (nothing_noted last.noting);
      documents = count_map doc_of x.documents ∙ inner.count;
      stand = inner.stand;
      meant = inner.meant;
    }

-- the trees of a reading
pub reading_is_at : {t : List ℕ} {r : Lists} → IsUtf8 t → (a : ReadingOf t r) → ReadingIsAt t a.derived.documents r
reading_is_at {t} {r} u a =
    let s = trees_stand u a.reads.shapes.derived a.events a.noted in
    record {
      trees = s.trees;
      of_reading = record { events = s.events; documents = ap length a.documents ∙ s.documents };
      stand = subst (λ z. TreesStand t 0 z s.trees) (sym a.documents) s.stand;
      meant = s.meant;
    }
