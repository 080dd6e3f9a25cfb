-- The events of a reading are those of trees, if they have no offsets and no lines but those of trees.
use Rattle.std.proofs.Common.{◌≡◌, ℕ, zero, suc, ◌+◌, Bool, true, false, List, [], ◌∷◌, ◌++◌, length, map, flat_map, refl, sym, ap, subst, ◌∙◌, append_assoc, arith, true≢false}
use Rattle.std.specs.Prelude.{All, cond, count_by}
use Rattle.std.proofs.lemmas.List.Sums.{sum_by-append}
use Rattle.yf_props.specs.Props.{PropsValue}
use Rattle.yf_events.specs.Event.{EventValue, EventInText, stream_starts, stream_ends, document_starts, document_ends, sequence_starts, sequence_ends, mapping_starts, mapping_ends, scalar_node, alias_node}
use Rattle.yf_events.specs.Nested.{Shape, one_node, many_nodes, many_pairs, many_documents, NestsWithin, a_scalar, an_alias, a_sequence, a_mapping, no_nodes, more_nodes, no_pairs as no_pairs_nested, more_pairs, no_documents, more_documents, IsStream, a_stream}
use Rattle.yf_events.specs.Reading.{events_of}
use Rattle.yf_events.specs.declared.event.ScalarStyle.{ScalarStyle}
use Rattle.yf_events.specs.declared.lists.Lists.{Lists}
use Rattle.yf_events.specs.Tree.{NodeOffsets, Node, scalar, alias, sequence, mapping, Items, no_items, item, Pairs, no_pairs, pair, DocumentTree, TreesOf, placed, unplaced, flat, flat_items, flat_pairs, flat_document, flat_stream}
use Rattle.yf_events.specs.WellPlaced.{IsWellPlaced, WellPlaced, begins_node, is_scalar, begins_document}

-- each event of a list is well placed, one by one

data Each : List EventInText → Type 0 where
  none : Each []
  each : {e : EventInText} {es : List EventInText} → IsWellPlaced e → Each es → Each (e ∷ es)

each_of : (es : List EventInText) → All IsWellPlaced es → Each es
each_of [] a = none
each_of (e ∷ es) a = each (a 0 e (omega arith)) (each_of es (λ k d l. a (suc k) d (omega arith)))

-- The parts of a list of events that are two lists of values, one after the other

record Parts (es : List EventInText) (x y : List EventValue) : Type 0 where
  front : List EventInText
  back : List EventInText
  is : es ≡ front ++ back
  front_is : map (λ e. e.event) front ≡ x
  back_is : map (λ e. e.event) back ≡ y
  front_placed : Each front
  back_placed : Each back

split : (x y : List EventValue) (es : List EventInText) → map (λ e. e.event) es ≡ x ++ y → Each es → Parts es x y
split [] y es e w = record { front = []; back = es; is = refl; front_is = refl; back_is = e; front_placed = none; back_placed = w }
split (v ∷ x) y [] e w = absurd cc
split (v ∷ x) y (d ∷ es) e (each p w) =
    let first : d.event ≡ v = cc in
    let rest : map (λ e. e.event) es ≡ x ++ y = cc in
    let parts = split x y es rest w in
    record {
      front = d ∷ parts.front;
      back = parts.back;
      is = ap (λ z. d ∷ z) parts.is;
      front_is = ap (λ z. d.event ∷ z) parts.front_is ∙ ap (λ z. z ∷ x) first;
      back_is = parts.back_is;
      front_placed = each p parts.front_placed;
      back_placed = parts.back_placed;
    }

-- and for one event and the others after it
record First (es : List EventInText) (v : EventValue) (x : List EventValue) : Type 0 where
  first : EventInText
  rest : List EventInText
  is : es ≡ first ∷ rest
  first_is : first.event ≡ v
  rest_is : map (λ e. e.event) rest ≡ x
  first_placed : IsWellPlaced first
  rest_placed : Each rest

one : (v : EventValue) (x : List EventValue) (es : List EventInText) → map (λ e. e.event) es ≡ v ∷ x → Each es → First es v x
one v x [] e w = absurd cc
one v x (d ∷ es) e (each p w) =
    record { first = d; rest = es; is = refl; first_is = cc; rest_is = cc; first_placed = p; rest_placed = w }

nothing : (es : List EventInText) → map (λ e. e.event) es ≡ [] → es ≡ []
nothing [] e = refl
nothing (d ∷ es) e = absurd cc

-- One event

standing_in : EventInText → NodeOffsets
standing_in e = record { span = e.span; tag_offset = e.tag_offset; entry = e.entry }

scalar_is : (d : EventInText) (props : PropsValue) (style : ScalarStyle) (text : List ℕ) → d.event ≡ scalar_node props style text
    → d ≡ placed (standing_in d) (scalar_node props style text) d.folded
unfolding standing_in
scalar_is d props style text e = λ i. record { event = e i; span = d.span; tag_offset = d.tag_offset; entry = d.entry; folded = d.folded }

node_is : (d : EventInText) (v : EventValue) → d.event ≡ v → is_scalar v ≡ false → IsWellPlaced d → d ≡ placed (standing_in d) v []
unfolding standing_in
node_is d v e s p =
    let lines : d.folded ≡ [] = p.lines (ap is_scalar e ∙ s) in
    λ i. record { event = e i; span = d.span; tag_offset = d.tag_offset; entry = d.entry; folded = lines i }

end_is : (d : EventInText) (v : EventValue) → d.event ≡ v → begins_node v ≡ false → IsWellPlaced d → d ≡ unplaced v
end_is d v e b p = p.place (ap begins_node e ∙ b) ∙ ap unplaced e

-- Lists of events put together

alone : (es rest : List EventInText) (d first : EventInText) → es ≡ d ∷ rest → d ≡ first → rest ≡ [] → es ≡ first ∷ []
alone es rest d first e f g = cc

two : (es front back x y : List EventInText) → es ≡ front ++ back → front ≡ x → back ≡ y → es ≡ x ++ y
two es front back x y e f g = cc

three : (es front back middle rest x y z : List EventInText) → es ≡ front ++ back → back ≡ middle ++ rest → front ≡ x → middle ≡ y → rest ≡ z
    → es ≡ x ++ (y ++ z)
three es front back middle rest x y z e f g h k = cc

enclosed : (es rest front back inner : List EventInText) (d first last : EventInText) → es ≡ d ∷ rest → d ≡ first → rest ≡ front ++ back → front ≡ inner
    → back ≡ last ∷ [] → es ≡ first ∷ (inner ++ (last ∷ []))
enclosed es rest front back inner d first last e f g h k = cc

enclosed_before : (es rest front back follows inner more : List EventInText) (d l first last : EventInText) → es ≡ d ∷ rest → d ≡ first → rest ≡ front ++ back
    → front ≡ inner → back ≡ l ∷ follows → l ≡ last → follows ≡ more → es ≡ first ∷ ((inner ++ (last ∷ [])) ++ more)
enclosed_before es rest front back follows inner more d l first last e f g h k m n =
    let whole : es ≡ first ∷ (inner ++ (last ∷ more)) = cc in
    whole ∙ ap (λ z. first ∷ z) (sym (append_assoc inner (last ∷ []) more))

last_is : (back : List EventInText) (v : EventValue) → begins_node v ≡ false → First back v [] → back ≡ unplaced v ∷ []
last_is back v b f =
    alone back f.rest f.first (unplaced v) f.is (end_is f.first v f.first_is b f.first_placed) (nothing f.rest f.rest_is)

-- The trees of a part of a stream

abbrev Trees : Shape → List EventInText → Type 0
Trees one_node es = (x : Node) × (es ≡ flat x)
Trees many_nodes es = (xs : Items) × (es ≡ flat_items xs)
Trees many_pairs es = (ps : Pairs) × (es ≡ flat_pairs ps)
Trees many_documents es = (ds : List DocumentTree) × (es ≡ flat_map flat_document ds)

abbrev HasTrees : Shape → List EventValue → Type 0
HasTrees s x = (es : List EventInText) → map (λ e. e.event) es ≡ x → Each es → Trees s es

scalar_tree : (props : PropsValue) (style : ScalarStyle) (text : List ℕ) → HasTrees one_node (scalar_node props style text ∷ [])
scalar_tree props style text = λ es e w.
    let f = one (scalar_node props style text) [] es e w in (
      scalar (standing_in f.first) props style text f.first.folded,
      alone es f.rest f.first _ f.is (scalar_is f.first props style text f.first_is) (nothing f.rest f.rest_is),
    )

alias_tree : (name : List ℕ) → HasTrees one_node (alias_node name ∷ [])
alias_tree name = λ es e w.
    let f = one (alias_node name) [] es e w in (
      alias (standing_in f.first) name,
      alone es f.rest f.first _ f.is (node_is f.first (alias_node name) f.first_is refl f.first_placed) (nothing f.rest f.rest_is),
    )

sequence_tree : (flow : Bool) (props : PropsValue) (x : List EventValue) → HasTrees many_nodes x
    → HasTrees one_node (sequence_starts flow props ∷ (x ++ (sequence_ends ∷ [])))
sequence_tree flow props x h = λ es e w.
    let f = one (sequence_starts flow props) (x ++ (sequence_ends ∷ [])) es e w in
    let p = split x (sequence_ends ∷ []) f.rest f.rest_is f.rest_placed in
    let inner = h p.front p.front_is p.front_placed in
    let l = one sequence_ends [] p.back p.back_is p.back_placed in (
      sequence (standing_in f.first) flow props inner.0,
      enclosed es f.rest p.front p.back (flat_items inner.0) f.first (placed (standing_in f.first) (sequence_starts flow props) []) (unplaced sequence_ends) f.is
          (node_is f.first (sequence_starts flow props) f.first_is refl f.first_placed) p.is inner.1 (last_is p.back sequence_ends refl l),
    )

mapping_tree : (flow : Bool) (props : PropsValue) (x : List EventValue) → HasTrees many_pairs x
    → HasTrees one_node (mapping_starts flow props ∷ (x ++ (mapping_ends ∷ [])))
mapping_tree flow props x h = λ es e w.
    let f = one (mapping_starts flow props) (x ++ (mapping_ends ∷ [])) es e w in
    let p = split x (mapping_ends ∷ []) f.rest f.rest_is f.rest_placed in
    let inner = h p.front p.front_is p.front_placed in
    let l = one mapping_ends [] p.back p.back_is p.back_placed in (
      mapping (standing_in f.first) flow props inner.0,
      enclosed es f.rest p.front p.back (flat_pairs inner.0) f.first (placed (standing_in f.first) (mapping_starts flow props) []) (unplaced mapping_ends) f.is
          (node_is f.first (mapping_starts flow props) f.first_is refl f.first_placed) p.is inner.1 (last_is p.back mapping_ends refl l),
    )

items_tree : (x y : List EventValue) → HasTrees one_node x → HasTrees many_nodes y → HasTrees many_nodes (x ++ y)
items_tree x y h k = λ es e w.
    let p = split x y es e w in
    let first = h p.front p.front_is p.front_placed in
    let rest = k p.back p.back_is p.back_placed in
    (item first.0 rest.0, two es p.front p.back (flat first.0) (flat_items rest.0) p.is first.1 rest.1)

pairs_tree : (k v y : List EventValue) → HasTrees one_node k → HasTrees one_node v → HasTrees many_pairs y → HasTrees many_pairs (k ++ (v ++ y))
pairs_tree k v y h g r = λ es e w.
    let p = split k (v ++ y) es e w in
    let q = split v y p.back p.back_is p.back_placed in
    let key = h p.front p.front_is p.front_placed in
    let value = g q.front q.front_is q.front_placed in
    let rest = r q.back q.back_is q.back_placed in (
      pair key.0 value.0 rest.0,
      three es p.front p.back q.front q.back (flat key.0) (flat value.0) (flat_pairs rest.0) p.is q.is key.1 value.1 rest.1,
    )

document_of : Bool → Bool → Node → DocumentTree
document_of marked closed x = record { marked = marked; closed = closed; root = x }

documents_tree : (marked closed : Bool) (x y : List EventValue) → HasTrees one_node x → HasTrees many_documents y
    → HasTrees many_documents (document_starts marked ∷ (x ++ (document_ends closed ∷ y)))
unfolding document_of
documents_tree marked closed x y h k = λ es e w.
    let f = one (document_starts marked) (x ++ (document_ends closed ∷ y)) es e w in
    let p = split x (document_ends closed ∷ y) f.rest f.rest_is f.rest_placed in
    let l = one (document_ends closed) y p.back p.back_is p.back_placed in
    let root = h p.front p.front_is p.front_placed in
    let rest = k l.rest l.rest_is l.rest_placed in (
      document_of marked closed root.0 ∷ rest.0,
      enclosed_before es f.rest p.front p.back l.rest (flat root.0) (flat_map flat_document rest.0) f.first l.first (unplaced (document_starts marked))
          (unplaced (document_ends closed)) f.is (end_is f.first (document_starts marked) f.first_is refl f.first_placed) p.is root.1 l.is
          (end_is l.first (document_ends closed) l.first_is refl l.first_placed) rest.1,
    )

trees : {s : Shape} {d : ℕ} {x : List EventValue} → NestsWithin s d x → HasTrees s x
trees a_scalar = scalar_tree _ _ _
trees an_alias = alias_tree _
trees (a_sequence {x = x} n) = sequence_tree _ _ x (trees n)
trees (a_mapping {x = x} n) = mapping_tree _ _ x (trees n)
trees no_nodes = λ es e w. (no_items, nothing es e)
trees (more_nodes {x = x} {y = y} n m) = items_tree x y (trees n) (trees m)
trees no_pairs_nested = λ es e w. (no_pairs, nothing es e)
trees (more_pairs {k = k} {v = v} {y = y} n m o) = pairs_tree k v y (trees n) (trees m) (trees o)
trees no_documents = λ es e w. ([], nothing es e)
trees (more_documents {marked = marked} {x = x} {y = y} closed n m) = documents_tree marked closed x y (trees n) (trees m)

stream_tree : (x : List EventValue) → HasTrees many_documents x → (es : List EventInText)
    → map (λ e. e.event) es ≡ stream_starts ∷ (x ++ (stream_ends ∷ [])) → Each es → (ds : List DocumentTree) × (es ≡ flat_stream ds)
stream_tree x h es e w =
    let f = one stream_starts (x ++ (stream_ends ∷ [])) es e w in
    let p = split x (stream_ends ∷ []) f.rest f.rest_is f.rest_placed in
    let inner = h p.front p.front_is p.front_placed in
    let l = one stream_ends [] p.back p.back_is p.back_placed in (
      inner.0,
      enclosed es f.rest p.front p.back (flat_map flat_document inner.0) f.first (unplaced stream_starts) (unplaced stream_ends) f.is
          (end_is f.first stream_starts f.first_is refl f.first_placed) p.is inner.1 (last_is p.back stream_ends refl l),
    )

stream_trees : {d : ℕ} {x : List EventValue} → IsStream d x → (es : List EventInText) → map (λ e. e.event) es ≡ x → Each es
    → (ds : List DocumentTree) × (es ≡ flat_stream ds)
stream_trees (a_stream {x = x} n) = λ es e w. stream_tree x (trees n) es e w

-- The number of documents that begin in the events of trees

begun : List EventInText → ℕ
begun es = count_by (λ e. begins_document e.event) es

begun_both : (x y : List EventInText) → begun (x ++ y) ≡ begun x + begun y
unfolding begun
begun_both x y = sum_by-append (λ e. cond (begins_document e.event) 1 0) x y

none_begun : (e : EventInText) → begins_document e.event ≡ false → begun (e ∷ []) ≡ 0
unfolding begun
none_begun e p = rw p refl

one_begun : (marked : Bool) → begun (unplaced (document_starts marked) ∷ []) ≡ 1
unfolding begun
one_begun marked = refl

nothing_begun : begun [] ≡ 0
unfolding begun
nothing_begun = refl

begun_enclosed : (d last : EventInText) (x : List EventInText) → begun (d ∷ (x ++ (last ∷ []))) ≡ begun (d ∷ []) + (begun x + begun (last ∷ []))
begun_enclosed d last x = begun_both (d ∷ []) (x ++ (last ∷ [])) ∙ ap (λ n. begun (d ∷ []) + n) (begun_both x (last ∷ []))

none_enclosed : (d last : EventInText) (x : List EventInText) → begins_document d.event ≡ false → begins_document last.event ≡ false → begun x ≡ 0
    → begun (d ∷ (x ++ (last ∷ []))) ≡ 0
none_enclosed d last x p q e = omega (arith, begun_enclosed d last x, none_begun d p, none_begun last q)

none_both : (x y : List EventInText) → begun x ≡ 0 → begun y ≡ 0 → begun (x ++ y) ≡ 0
none_both x y e h = omega (arith, begun_both x y)

mutual
  none_in_node : (x : Node) → begun (flat x) ≡ 0
  none_in_node (scalar at props style text lines) = none_begun _ refl
  none_in_node (alias at name) = none_begun _ refl
  none_in_node (sequence at flow props xs) = none_enclosed _ _ (flat_items xs) refl refl (none_in_items xs)
  none_in_node (mapping at flow props ps) = none_enclosed _ _ (flat_pairs ps) refl refl (none_in_pairs ps)

  none_in_items : (xs : Items) → begun (flat_items xs) ≡ 0
  none_in_items no_items = nothing_begun
  none_in_items (item x xs) = none_both (flat x) (flat_items xs) (none_in_node x) (none_in_items xs)

  none_in_pairs : (ps : Pairs) → begun (flat_pairs ps) ≡ 0
  none_in_pairs no_pairs = nothing_begun
  none_in_pairs (pair k v ps) =
      none_both (flat k) (flat v ++ flat_pairs ps) (none_in_node k) (none_both (flat v) (flat_pairs ps) (none_in_node v) (none_in_pairs ps))

one_in_document : (d : DocumentTree) → begun (flat_document d) ≡ 1
one_in_document d =
    begun_enclosed (unplaced (document_starts d.marked)) (unplaced (document_ends d.closed)) (flat d.root)
    ∙ ap (λ n. n + (begun (flat d.root) + begun (unplaced (document_ends d.closed) ∷ []))) (one_begun d.marked)
    ∙ ap (λ n. 1 + (n + begun (unplaced (document_ends d.closed) ∷ []))) (none_in_node d.root)
    ∙ ap (λ n. 1 + (0 + n)) (none_begun (unplaced (document_ends d.closed)) refl)

documents_begun : (ds : List DocumentTree) → begun (flat_map flat_document ds) ≡ length ds
documents_begun [] = nothing_begun
documents_begun (d ∷ ds) =
    let first : begun (flat_document d) ≡ 1 = one_in_document d in
    let rest : begun (flat_map flat_document ds) ≡ length ds = documents_begun ds in
    omega (arith, begun_both (flat_document d) (flat_map flat_document ds))

stream_begun : (ds : List DocumentTree) → begun (flat_stream ds) ≡ length ds
stream_begun ds =
    begun_enclosed (unplaced stream_starts) (unplaced stream_ends) (flat_map flat_document ds)
    ∙ ap (λ n. n + (begun (flat_map flat_document ds) + begun (unplaced stream_ends ∷ []))) (none_begun (unplaced stream_starts) refl)
    ∙ ap (λ n. 0 + (begun (flat_map flat_document ds) + n)) (none_begun (unplaced stream_ends) refl)
    ∙ plain_sum (begun (flat_map flat_document ds)) (length ds) (documents_begun ds) where
      plain_sum : (m n : ℕ) → m ≡ n → 0 + (m + 0) ≡ n
      plain_sum m n e = omega arith

-- so each well nested and well placed reading has trees
pub has_trees : {d : ℕ} (r : Lists) → IsStream d (events_of r) → WellPlaced r → (ds : List DocumentTree) × TreesOf r ds
unfolding begun
has_trees r n w =
    let found = stream_trees n r.events refl (each_of r.events w.events) in
    (found.0, record { events = found.1; documents = w.documents ∙ ap begun found.1 ∙ stream_begun found.0 })

-- and each reading that has trees is well placed

each_both : (x y : List EventInText) → Each x → Each y → Each (x ++ y)
each_both [] y none w = w
each_both (e ∷ x) y (each p v) w = each p (each_both x y v w)

each_enclosed : (d last : EventInText) (x : List EventInText) → IsWellPlaced d → Each x → IsWellPlaced last → Each (d ∷ (x ++ (last ∷ [])))
each_enclosed d last x p w q = each p (each_both x (last ∷ []) w (each q none))

scalar_placed : (at : NodeOffsets) (props : PropsValue) (style : ScalarStyle) (text : List ℕ) (lines : List (List ℕ))
    → IsWellPlaced (placed at (scalar_node props style text) lines)
scalar_placed at props style text lines = record { place = λ n. absurd (true≢false n); lines = λ n. absurd (true≢false n) }

node_placed : (at : NodeOffsets) (v : EventValue) → begins_node v ≡ true → IsWellPlaced (placed at v [])
node_placed at v b = record { place = λ n. absurd (true≢false (sym b ∙ n)); lines = λ n. refl }

end_placed : (v : EventValue) → IsWellPlaced (unplaced v)
end_placed v = record { place = λ n. refl; lines = λ n. refl }

mutual
  each_in_node : (x : Node) → Each (flat x)
  each_in_node (scalar at props style text lines) = each (scalar_placed at props style text lines) none
  each_in_node (alias at name) = each (node_placed at (alias_node name) refl) none
  each_in_node (sequence at flow props xs) =
      each_enclosed _ _ (flat_items xs) (node_placed at (sequence_starts flow props) refl) (each_in_items xs) (end_placed sequence_ends)
  each_in_node (mapping at flow props ps) =
      each_enclosed _ _ (flat_pairs ps) (node_placed at (mapping_starts flow props) refl) (each_in_pairs ps) (end_placed mapping_ends)

  each_in_items : (xs : Items) → Each (flat_items xs)
  each_in_items no_items = none
  each_in_items (item x xs) = each_both (flat x) (flat_items xs) (each_in_node x) (each_in_items xs)

  each_in_pairs : (ps : Pairs) → Each (flat_pairs ps)
  each_in_pairs no_pairs = none
  each_in_pairs (pair k v ps) =
      each_both (flat k) (flat v ++ flat_pairs ps) (each_in_node k) (each_both (flat v) (flat_pairs ps) (each_in_node v) (each_in_pairs ps))

each_in_documents : (ds : List DocumentTree) → Each (flat_map flat_document ds)
each_in_documents [] = none
each_in_documents (d ∷ ds) =
    each_both (flat_document d) (flat_map flat_document ds)
    (each_enclosed _ _ (flat d.root) (end_placed (document_starts d.marked)) (each_in_node d.root) (end_placed (document_ends d.closed)))
    (each_in_documents ds)

one_more : (e : EventInText) (es : List EventInText) → IsWellPlaced e → All IsWellPlaced es → All IsWellPlaced (e ∷ es)
one_more e es p a zero d l = p
one_more e es p a (suc k) d l = a k d (omega (arith, l))

none_at_all : All IsWellPlaced []
none_at_all k d l = absurd (omega (arith, l))

all_of : (es : List EventInText) → Each es → All IsWellPlaced es
all_of [] none = none_at_all
all_of (e ∷ es) (each p w) = one_more e es p (all_of es w)

pub trees_well_placed : (r : Lists) (ds : List DocumentTree) → TreesOf r ds → WellPlaced r
unfolding begun
trees_well_placed r ds t = record {
  events = subst (λ es. All IsWellPlaced es) (sym t.events)
      (all_of (flat_stream ds) (each_enclosed _ _ (flat_map flat_document ds) (end_placed stream_starts) (each_in_documents ds) (end_placed stream_ends)));
  documents = t.documents ∙ sym (stream_begun ds) ∙ ap begun (sym t.events);
}
