-- A block node has characters: the first of its events has a span. So the root of a document without `---` has a row.
use Rattle.std.proofs.Common.{◌≡◌, ℕ, ◌+◌, ℤ, Bool, true, false, List, [], ◌∷◌, ◌++◌, Option, None, refl, sym, ap, ◌∙◌, encode_utf8_all}
use Rattle.std.specs.Prelude.{is_some}
use Rattle.yf_quoted.specs.Quoted.{text_of, bad_escapes}
use Rattle.yf_comments.specs.Comment.{CommentValue}
use Rattle.yf_props.specs.Props.{PropsValue}
use Rattle.yf_events.specs.Alike.{Alike, alike_scalars, alike_aliases, alike_sequences, alike_mappings}
use Rattle.yf_events.specs.Event.{EventInText}
use Rattle.yf_events.specs.declared.event.ScalarStyle.{ScalarStyle}
use Rattle.yf_events.specs.declared.event.ScalarStyle.TheVariants.{Plain, Single, Double}
use Rattle.yf_events.specs.Tree.{Node, scalar, alias, sequence, mapping, flat, standing}
use Rattle.yf_grammar.specs.Productions.BlockScalar.{BlockScalar}
use Rattle.yf_grammar.specs.Productions.BlockScalar.BlockScalar.{block_scalar}
use Rattle.yf_grammar.specs.Productions.Grammar.{Production, FlowNode, NodeOf, JsonContent, BlockNode, Derives}
use Rattle.yf_grammar.specs.Productions.Grammar.Derives.{flow_node, an_alias, a_plain, a_plain_with, properties_alone, a_json, a_json_with, a_single, a_double, an_empty_collection, a_collection, last_entry, last_entry_with_comma, more_entries, a_node_entry, a_pair_entry, an_explicit_entry, an_implicit_entry, an_explicit_pair, a_keyed_pair, an_unkeyed_pair, explicit_with, explicit_without, key_alone, key_and_value, value_alone, empty_value, a_value, a_key, a_block_scalar, a_block_scalar_with, a_block_collection, a_block_collection_with, flow_in_block, a_last_entry, an_entry_before, a_dash_entry, an_explicit_entry_with, an_explicit_key_alone, a_keyed_entry, an_unkeyed_entry, a_block_value, an_empty_block_value, a_compact_collection, an_indented_node, nothing_indented}
use Rattle.yf_grammar.specs.Productions.Meaning.{Meaning, scalar as scalar_meaning, alias_to, collection, plain_event, from_to, first_with, with_props, meaning_after, noting, empty_node}
use Rattle.yf_grammar.specs.Productions.TreesOfMeaning.{MeansTrees}
use Rattle.yf_laws.proofs.Writable.ReadParts.{since}

abbrev pub has_span : List EventInText → Bool
has_span [] = false
has_span (e ∷ es) = is_some e.span

pub spanned_node : (x : Node) → has_span (flat x) ≡ is_some (standing x).span
spanned_node (scalar at props style text lines) = refl
spanned_node (alias at name) = refl
spanned_node (sequence at flow props items) = refl
spanned_node (mapping at flow props pairs) = refl

pub alike_spanned : {K : Node → Node → Node → Node → Type 0} {x y : Node} → Alike K x y → is_some (standing x).span ≡ is_some (standing y).span
alike_spanned (alike_scalars e) = e
alike_spanned (alike_aliases e) = e
alike_spanned (alike_sequences e a) = e
alike_spanned (alike_mappings e a) = e

-- the node that an empty node means has no span
pub meant_none : {x : Node} (i : ℕ) → MeansTrees x (empty_node i) → is_some (standing x).span ≡ false
unfolding empty_node plain_event
meant_none i a = alike_spanned a.alike ∙ (sym (spanned_node a.node) ∙ ap has_span (sym a.events))

abbrev SpanClaim : Production → Meaning → Type 0
SpanClaim (FlowNode n c) x = has_span x.events ≡ true
SpanClaim (NodeOf json n c) x = has_span x.events ≡ true
SpanClaim (JsonContent n c) x = has_span x.events ≡ true
SpanClaim (BlockNode n c) x = has_span x.events ≡ true
SpanClaim p x = Unit {0}

with_some : (props : PropsValue) (tag : Option ℕ) (i j : ℕ) (x : Meaning) → has_span x.events ≡ true → has_span (with_props props tag i j x).events ≡ true
unfolding with_props
with_some props tag i j x e = by x.events e where
  by : (es : List EventInText) → has_span es ≡ true → has_span (first_with props tag i j es) ≡ true
  by [] f = f
  by (v ∷ es) f = since i j v.span

empty_some : (props : PropsValue) (tag : Option ℕ) (i j k : ℕ) → has_span (with_props props tag i j (empty_node k)).events ≡ true
unfolding with_props empty_node plain_event from_to
empty_some props tag i j k = since i j None

scalar_some : (style : ScalarStyle) (text escapes : List ℕ) (i j : ℕ) → has_span (scalar_meaning style text escapes i j).events ≡ true
unfolding scalar_meaning plain_event from_to
scalar_some style text escapes i j = refl

alias_some : (name : List ℕ) (i j : ℕ) → has_span (alias_to name i j).events ≡ true
unfolding alias_to plain_event from_to
alias_some name i j = refl

collection_some : (kind flow : Bool) (i j : ℕ) (x : Meaning) → has_span (collection kind flow i j x).events ≡ true
unfolding collection plain_event from_to
collection_some kind flow i j x = refl

after_some : (cs : List CommentValue) (x : Meaning) → has_span x.events ≡ true → has_span (meaning_after cs x).events ≡ true
unfolding meaning_after
after_some cs x e = e

noting_some : (cs : List CommentValue) (x : Meaning) → has_span x.events ≡ true → has_span (noting x cs).events ≡ true
unfolding noting
noting_some cs x e = e

block_spanned : {t : List ℕ} {n : ℤ} {i j : ℕ} {x : Meaning} → BlockScalar t n i j x → has_span x.events ≡ true
unfolding from_to
block_spanned (block_scalar a b l) = refl

pub spanned : {t : List ℕ} {h i j : ℕ} {p : Production} {x : Meaning} → Derives t h p i j x → SpanClaim p x
spanned (flow_node d) = spanned d
spanned (an_alias {i = i} {j = j} {name = name} f a) = alias_some name i j
spanned (a_plain {i = i} {j = j} {x = x} p) = scalar_some Plain (encode_utf8_all x) [] i j
spanned (a_plain_with {i = i} {g = g} {k = k} {j = j} {p = v} {cs = cs} {x = x} p s q) =
    after_some (v.comments ++ cs) _ (with_some v.props v.tag_offset i g (scalar_meaning Plain (encode_utf8_all x) [] k j) (scalar_some Plain (encode_utf8_all x) [] k j))
spanned (properties_alone {i = i} {j = j} {p = v} f p) = after_some v.comments _ (empty_some v.props v.tag_offset i j j)
spanned (a_json d) = spanned d
spanned (a_json_with {i = i} {g = g} {p = v} {cs = cs} {x = x} p s d) = after_some (v.comments ++ cs) _ (with_some v.props v.tag_offset i g x (spanned d))
spanned (a_single {i = i} {j = j} {x = x} q) = scalar_some Single (encode_utf8_all x) [] i j
spanned (a_double {i = i} {j = j} {x = x} q) = scalar_some Double (encode_utf8_all (text_of x)) (bad_escapes x) i j
spanned (an_empty_collection {i = i} {j = j} s {cs = cs} f e o g) = collection_some s true i (j + 1) _
spanned (a_collection {i = i} {j = j} s {cs = cs} {x = x} f e o d g) = collection_some s true i (j + 1) (meaning_after cs x)
spanned (last_entry d o) = tt
spanned (last_entry_with_comma d o e q) = tt
spanned (more_entries d o e q r) = tt
spanned (a_node_entry d) = tt
spanned (a_pair_entry d) = tt
spanned (an_explicit_entry e s d) = tt
spanned (an_implicit_entry d) = tt
spanned (an_explicit_pair e s d) = tt
spanned (a_keyed_pair d v) = tt
spanned (an_unkeyed_pair v) = tt
spanned (explicit_with d) = tt
spanned (explicit_without f) = tt
spanned (key_alone d) = tt
spanned (key_and_value d o v) = tt
spanned (value_alone v) = tt
spanned (empty_value f e o) = tt
spanned (a_value cs e o s d) = tt
spanned (a_key d s o) = tt
spanned (a_block_scalar {cs = cs} {x = x} b s d) = after_some cs x (block_spanned d)
spanned (a_block_scalar_with {f = f} {g = g} {cs = cs} {ds = ds} {p = v} {x = x} b s q r d) =
    after_some (cs ++ v.comments ++ ds) _ (with_some v.props v.tag_offset f g x (block_spanned d))
spanned (a_block_collection {k = k} {m = m} {sequence = s} {cs = cs} {x = x} b e p o d) = after_some cs _ (collection_some s false (k + m) x.finish x)
spanned (a_block_collection_with {f = f} {g = g} {k = k} {m = m} {sequence = s} {cs = cs} {ds = ds} {p = v} {x = x} b a q e r o d) =
    after_some (cs ++ v.comments ++ ds) _ (with_some v.props v.tag_offset f g _ (collection_some s false (k + m) x.finish x))
spanned (flow_in_block {cs = cs} {ds = ds} {x = x} b s d e) = after_some cs _ (noting_some ds x (spanned d))
spanned (a_last_entry d) = tt
spanned (an_entry_before d s e) = tt
spanned (a_dash_entry e n d) = tt
spanned (an_explicit_entry_with e w d c r) = tt
spanned (an_explicit_key_alone e w d c) = tt
spanned (a_keyed_entry d v) = tt
spanned (an_unkeyed_entry v) = tt
spanned (a_block_value e d) = tt
spanned (an_empty_block_value e d) = tt
spanned (a_compact_collection b s d) = tt
spanned (an_indented_node d) = tt
spanned (nothing_indented b d) = tt
