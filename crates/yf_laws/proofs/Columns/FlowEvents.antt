-- A flow node means only flow collections and scalars that are not in a block style, so its tree has no blocks.
use Rattle.std.proofs.Common.{◌≡◌, ℕ, Bool, true, false, List, [], ◌∷◌, ◌++◌, Option, Some, None, refl}
use Rattle.yf_comments.specs.Comment.{CommentValue}
use Rattle.yf_props.specs.Props.{PropsValue}
use Rattle.yf_events.specs.declared.event.Entry.{Entry}
use Rattle.yf_events.specs.declared.event.ScalarStyle.{ScalarStyle}
use Rattle.yf_events.specs.declared.event.ScalarStyle.TheVariants.{Plain, Single, Double}
use Rattle.yf_events.specs.Event.{EventValue, EventInText, stream_starts, stream_ends, document_starts, document_ends, sequence_starts, sequence_ends, mapping_starts, mapping_ends, scalar_node, alias_node}
use Rattle.yf_events.specs.Tree.{Node, scalar, alias, sequence, mapping, Items, no_items, item, Pairs, no_pairs, pair, flat, flat_items, flat_pairs, unplaced}
use Rattle.yf_grammar.specs.Productions.Grammar.{Derives, Production, BlockNode, BlockEntries, BlockEntry, BlockIndented, BlockValue}
use Rattle.yf_grammar.specs.Productions.Grammar.Derives.{flow_node, an_alias, a_plain, a_plain_with, properties_alone, a_json, a_json_with, a_single, a_double, an_empty_collection, a_collection, last_entry, last_entry_with_comma, more_entries, a_node_entry, a_pair_entry, an_explicit_entry, an_implicit_entry, an_explicit_pair, a_keyed_pair, an_unkeyed_pair, explicit_with, explicit_without, key_alone, key_and_value, value_alone, empty_value, a_value, a_key, a_block_scalar, a_block_scalar_with, a_block_collection, a_block_collection_with, flow_in_block, a_last_entry, an_entry_before, a_dash_entry, an_explicit_entry_with, an_explicit_key_alone, a_keyed_entry, an_unkeyed_entry, a_block_value, an_empty_block_value, a_compact_collection, an_indented_node, nothing_indented}
use Rattle.yf_grammar.specs.Productions.Meaning.{Meaning, ◌⊕◌, alias_to, meaning_after, collection, empty_node, entering, event_with, first_entering, first_with, noting, plain_event, scalar as scalar_meaning, start_of, end_of, with_props}
use Rattle.yf_laws.specs.Layouts.ReadableTrees.{is_block_style}
use Rattle.yf_laws.proofs.Columns.SetNodes.{Blockless, BlocklessItems, BlocklessPairs}

-- Events.

abbrev pub IsFlowEvent : EventValue → Type 0
IsFlowEvent (sequence_starts flow props) = flow ≡ true
IsFlowEvent (mapping_starts flow props) = flow ≡ true
IsFlowEvent (scalar_node props style text) = is_block_style style ≡ false
IsFlowEvent _ = Unit {0}

abbrev pub AllFlow : List EventInText → Type 0
AllFlow [] = Unit {0}
AllFlow (e ∷ es) = IsFlowEvent e.event × AllFlow es

pub flow_append : (xs ys : List EventInText) → AllFlow xs → AllFlow ys → AllFlow (xs ++ ys)
flow_append [] ys a b = b
flow_append (x ∷ xs) ys a b = (a.0, flow_append xs ys a.1 b)

pub flow_left : (xs ys : List EventInText) → AllFlow (xs ++ ys) → AllFlow xs
flow_left [] ys a = tt
flow_left (x ∷ xs) ys a = (a.0, flow_left xs ys a.1)

pub flow_right : (xs ys : List EventInText) → AllFlow (xs ++ ys) → AllFlow ys
flow_right [] ys a = a
flow_right (x ∷ xs) ys a = flow_right xs ys a.1

with_flow : (props : PropsValue) (e : EventValue) → IsFlowEvent e → IsFlowEvent (event_with props e)
with_flow props stream_starts a = tt
with_flow props stream_ends a = tt
with_flow props (document_starts b) a = tt
with_flow props (document_ends b) a = tt
with_flow props (sequence_starts flow p) a = a
with_flow props sequence_ends a = tt
with_flow props (mapping_starts flow p) a = a
with_flow props mapping_ends a = tt
with_flow props (scalar_node p style text) a = a
with_flow props (alias_node name) a = tt

first_with_flow : (props : PropsValue) (tag : Option ℕ) (i j : ℕ) (es : List EventInText) → AllFlow es → AllFlow (first_with props tag i j es)
first_with_flow props tag i j [] a = tt
first_with_flow props tag i j (e ∷ es) a = (with_flow props e.event a.0, a.1)

first_entering_flow : (entry : Entry) (es : List EventInText) → AllFlow es → AllFlow (first_entering entry es)
first_entering_flow entry [] a = tt
first_entering_flow entry (e ∷ es) a = (a.0, a.1)

-- Meanings.

pub record MeansFlow (x : Meaning) : Type 0 where
  pub all : AllFlow x.events

scalar_flow : (style : ScalarStyle) (text escapes : List ℕ) (i j : ℕ) → is_block_style style ≡ false → MeansFlow (scalar_meaning style text escapes i j)
unfolding scalar_meaning plain_event
scalar_flow style text escapes i j e = record { all = (e, tt) }

alias_flow : (name : List ℕ) (i j : ℕ) → MeansFlow (alias_to name i j)
unfolding alias_to plain_event
alias_flow name i j = record { all = (tt, tt) }

pub empty_flow : (i : ℕ) → MeansFlow (empty_node i)
unfolding empty_node plain_event
empty_flow i = record { all = (refl, tt) }

both_flow : (x y : Meaning) → MeansFlow x → MeansFlow y → MeansFlow (x ⊕ y)
unfolding ◌⊕◌
both_flow x y a b = record { all = flow_append x.events y.events a.all b.all }

after_flow : (cs : List CommentValue) (x : Meaning) → MeansFlow x → MeansFlow (meaning_after cs x)
unfolding meaning_after
after_flow cs x a = record { all = a.all }

noting_flow : (x : Meaning) (cs : List CommentValue) → MeansFlow x → MeansFlow (noting x cs)
unfolding noting
noting_flow x cs a = record { all = a.all }

props_flow : (props : PropsValue) (tag : Option ℕ) (i j : ℕ) (x : Meaning) → MeansFlow x → MeansFlow (with_props props tag i j x)
unfolding with_props
props_flow props tag i j x a = record { all = first_with_flow props tag i j x.events a.all }

entering_flow : (i : ℕ) (colon : Option ℕ) (x : Meaning) → MeansFlow x → MeansFlow (entering i colon x)
unfolding entering
entering_flow i colon x a = record { all = first_entering_flow (record { start = i; colon = colon; blank_before = false }) x.events a.all }

start_flow : (series : Bool) → IsFlowEvent (start_of series true)
start_flow true = refl
start_flow false = refl

end_flow : (series : Bool) → IsFlowEvent (end_of series)
end_flow true = tt
end_flow false = tt

collection_flow : (series : Bool) (i j : ℕ) (x : Meaning) → MeansFlow x → MeansFlow (collection series true i j x)
unfolding collection plain_event
collection_flow series i j x a = record { all = (start_flow series, flow_append x.events (plain_event (end_of series) None ∷ []) a.all (end_flow series, tt)) }

-- Productions of flow nodes.

abbrev pub IsFlow : Production → Type 0
IsFlow (BlockNode n c) = ⊥
IsFlow (BlockEntries series m) = ⊥
IsFlow (BlockEntry series m) = ⊥
IsFlow (BlockIndented m c) = ⊥
IsFlow (BlockValue m) = ⊥
IsFlow _ = Unit {0}

pub flow_means : {t : List ℕ} {h i j : ℕ} {p : Production} {x : Meaning} → Derives t h p i j x → IsFlow p → MeansFlow x
flow_means (flow_node a) f = flow_means a tt
flow_means (an_alias {i = i} {j = j} {name = name} b a) f = alias_flow name i j
flow_means (a_plain a) f = scalar_flow Plain _ [] _ _ refl
flow_means (a_plain_with {p = p} {cs = cs} q s a) f = after_flow (p.comments ++ cs) _ (props_flow p.props p.tag_offset _ _ _ (scalar_flow Plain _ [] _ _ refl))
flow_means (properties_alone {p = p} b q) f = after_flow p.comments _ (props_flow p.props p.tag_offset _ _ _ (empty_flow _))
flow_means (a_json a) f = flow_means a tt
flow_means (a_json_with {p = p} {cs = cs} q s a) f = after_flow (p.comments ++ cs) _ (props_flow p.props p.tag_offset _ _ _ (flow_means a tt))
flow_means (a_single a) f = scalar_flow Single _ [] _ _ refl
flow_means (a_double a) f = scalar_flow Double _ _ _ _ refl
flow_means (an_empty_collection series b o s e) f = collection_flow series _ _ _ (record { all = tt })
flow_means (a_collection series {cs = cs} b o s a e) f = collection_flow series _ _ _ (after_flow cs _ (flow_means a tt))
flow_means (last_entry {cs = cs} a s) f = noting_flow _ cs (flow_means a tt)
flow_means (last_entry_with_comma {cs = cs} {ds = ds} a s e r) f = noting_flow _ (cs ++ ds) (flow_means a tt)
flow_means (more_entries {cs = cs} {ds = ds} a s e r b) f = both_flow _ _ (noting_flow _ (cs ++ ds) (flow_means a tt)) (flow_means b tt)
flow_means (a_node_entry a) f = entering_flow _ None _ (flow_means a tt)
flow_means (a_pair_entry a) f = entering_flow _ None _ (collection_flow false _ _ _ (flow_means a tt))
flow_means (an_explicit_entry {cs = cs} e s a) f = after_flow cs _ (flow_means a tt)
flow_means (an_implicit_entry a) f = flow_means a tt
flow_means (an_explicit_pair {cs = cs} e s a) f = after_flow cs _ (flow_means a tt)
flow_means (a_keyed_pair {k = k} a b) f = both_flow _ _ (entering_flow _ (Some k) _ (flow_means a tt)) (flow_means b tt)
flow_means (an_unkeyed_pair {i = i} a) f = both_flow _ _ (entering_flow _ (Some i) _ (empty_flow _)) (flow_means a tt)
flow_means (explicit_with a) f = flow_means a tt
flow_means (explicit_without b) f = both_flow _ _ (entering_flow _ None _ (empty_flow _)) (empty_flow _)
flow_means (key_alone a) f = both_flow _ _ (entering_flow _ None _ (flow_means a tt)) (empty_flow _)
flow_means (key_and_value {k = k} {cs = cs} a s b) f = both_flow _ _ (noting_flow _ cs (entering_flow _ (Some k) _ (flow_means a tt))) (flow_means b tt)
flow_means (value_alone {i = i} a) f = both_flow _ _ (entering_flow _ (Some i) _ (empty_flow _)) (flow_means a tt)
flow_means (empty_value b e c) f = empty_flow _
flow_means (a_value cs e c s a) f = after_flow cs _ (flow_means a tt)
flow_means (a_key a s l) f = flow_means a tt
flow_means (a_block_scalar b s a) f = absurd f
flow_means (a_block_scalar_with b s q r a) f = absurd f
flow_means (a_block_collection b s a e m) f = absurd f
flow_means (a_block_collection_with b s q r a e m) f = absurd f
flow_means (flow_in_block b s a e) f = absurd f
flow_means (a_last_entry a) f = absurd f
flow_means (an_entry_before a s b) f = absurd f
flow_means (a_dash_entry e n a) f = absurd f
flow_means (an_explicit_entry_with e w a c b) f = absurd f
flow_means (an_explicit_key_alone e w a n) f = absurd f
flow_means (a_keyed_entry a b) f = absurd f
flow_means (an_unkeyed_entry a) f = absurd f
flow_means (a_block_value e a) f = absurd f
flow_means (an_empty_block_value e l) f = absurd f
flow_means (a_compact_collection b s a) f = absurd f
flow_means (an_indented_node a) f = absurd f
flow_means (nothing_indented b l) f = absurd f

-- Trees.

mutual
  pub blockless : (x : Node) → AllFlow (flat x) → Blockless x
  blockless (scalar at props style text lines) a = a.0
  blockless (alias at name) a = tt
  blockless (sequence at flow props xs) a = (a.0, blockless_items xs (flow_left (flat_items xs) (unplaced sequence_ends ∷ []) a.1))
  blockless (mapping at flow props ps) a = (a.0, blockless_pairs ps (flow_left (flat_pairs ps) (unplaced mapping_ends ∷ []) a.1))

  pub blockless_items : (xs : Items) → AllFlow (flat_items xs) → BlocklessItems xs
  blockless_items no_items a = tt
  blockless_items (item x xs) a = (blockless x (flow_left (flat x) (flat_items xs) a), blockless_items xs (flow_right (flat x) (flat_items xs) a))

  pub blockless_pairs : (ps : Pairs) → AllFlow (flat_pairs ps) → BlocklessPairs ps
  blockless_pairs no_pairs a = tt
  blockless_pairs (pair k v ps) a =
      let rest = flow_right (flat k) (flat v ++ flat_pairs ps) a in
      (blockless k (flow_left (flat k) (flat v ++ flat_pairs ps) a), (blockless v (flow_left (flat v) (flat_pairs ps) rest), blockless_pairs ps (flow_right (flat v) (flat_pairs ps) rest)))
