-- If a tag of a node has an offset, a character begins there.
use Rattle.std.proofs.Common.{◌≡◌, ℕ, ◌+◌, ◌<◌, ℤ, Bool, true, false, List, [], ◌∷◌, ◌++◌, Option, Some, None, arith}
use Rattle.yf_chars.specs.declared.context.Ctx.{Ctx}
use Rattle.yf_chars.specs.Text.{code, no_char}
use Rattle.yf_props.specs.Names.{Handle, Properties, PropertiesValue, ShorthandTag, TagProperty, VerbatimTag}
use Rattle.yf_props.specs.Names.Handle.{named_handle, primary_handle, secondary_handle}
use Rattle.yf_props.specs.Names.Properties.{anchor_first, by_anchor, by_tag, tag_first}
use Rattle.yf_props.specs.Names.ShorthandTag.{handle_suffix}
use Rattle.yf_props.specs.Names.TagProperty.{non_specific_tag, shorthand_tag, verbatim_tag}
use Rattle.yf_props.specs.Names.VerbatimTag.{in_brackets}
use Rattle.yf_props.specs.Props.{PropsValue, TagValue}
use Rattle.yf_events.specs.Event.{EventInText}
use Rattle.yf_events.specs.declared.event.Entry.{Entry}
use Rattle.yf_grammar.specs.Productions.BlockScalar.{BlockScalar}
use Rattle.yf_grammar.specs.Productions.BlockScalar.BlockScalar.{block_scalar}
use Rattle.yf_grammar.specs.Productions.Grammar.{Production, Derives}
use Rattle.yf_grammar.specs.Productions.Grammar.Derives.{flow_node, an_alias, a_plain, a_plain_with, properties_alone, a_json, a_json_with, a_single, a_double, an_empty_collection, a_collection, last_entry, last_entry_with_comma, more_entries, a_node_entry, a_pair_entry, an_explicit_entry, an_implicit_entry, an_explicit_pair, a_keyed_pair, an_unkeyed_pair, explicit_with, explicit_without, key_alone, key_and_value, value_alone, empty_value, a_value, a_key, a_block_scalar, a_block_scalar_with, a_block_collection, a_block_collection_with, flow_in_block, a_last_entry, an_entry_before, a_dash_entry, an_explicit_entry_with, an_explicit_key_alone, a_keyed_entry, an_unkeyed_entry, a_block_value, an_empty_block_value, a_compact_collection, an_indented_node, nothing_indented}
use Rattle.yf_grammar.specs.Productions.Meaning.{Meaning, ◌⊕◌, alias_to, meaning_after, collection, empty_node, entering, first_entering, first_with, noting, plain_event, scalar, with_props}

abbrev pub OffsetAt : List ℕ → Option ℕ → Type 0
OffsetAt t None = Unit {0}
OffsetAt t (Some i) = code t i < no_char

abbrev pub OffsetsAt : List ℕ → List EventInText → Type 0
OffsetsAt t [] = Unit {0}
OffsetsAt t (e ∷ es) = OffsetAt t e.tag_offset × OffsetsAt t es

module _ (t : List ℕ) where
  sign_at : (i : ℕ) → code t i ≡ 33 → code t i < no_char
  sign_at i e = omega arith

  handle_at : {i j : ℕ} → Handle t i j → code t i < no_char
  handle_at (primary_handle {i = i} e) = sign_at i e
  handle_at (secondary_handle {i = i} e f) = sign_at i e
  handle_at (named_handle {i = i} e r f) = sign_at i e

  verbatim_at : {i j : ℕ} {x : List ℕ} → VerbatimTag t i j x → code t i < no_char
  verbatim_at (in_brackets {i = i} e f r g) = sign_at i e

  shorthand_at : {i j : ℕ} {x : TagValue} → ShorthandTag t i j x → code t i < no_char
  shorthand_at (handle_suffix h r) = handle_at h

  tag_at : {i j : ℕ} {x : TagValue} → TagProperty t i j x → code t i < no_char
  tag_at (verbatim_tag d) = verbatim_at d
  tag_at (shorthand_tag d) = shorthand_at d
  tag_at (non_specific_tag {i = i} e s) = sign_at i e

  props_at : {n : ℤ} {c : Ctx} {i j : ℕ} {p : PropertiesValue} → Properties t n c i j p → OffsetAt t p.tag_offset
  props_at (by_tag d) = tag_at d
  props_at (by_anchor d) = tt
  props_at (tag_first d s a) = tag_at d
  props_at (anchor_first a s d) = tag_at d

  both_at : (xs ys : List EventInText) → OffsetsAt t xs → OffsetsAt t ys → OffsetsAt t (xs ++ ys)
  both_at [] ys a b = b
  both_at (x ∷ xs) ys a b = (a.0, both_at xs ys a.1 b)

  first_at : (es : List EventInText) (p : PropsValue) (o : Option ℕ) (i j : ℕ) → OffsetAt t o → OffsetsAt t es → OffsetsAt t (first_with p o i j es)
  first_at [] p o i j a b = tt
  first_at (e ∷ es) p o i j a b = (a, b.1)

  entered_at : (es : List EventInText) (e : Entry) → OffsetsAt t es → OffsetsAt t (first_entering e es)
  entered_at [] e a = tt
  entered_at (x ∷ es) e a = a

  round_at : (s f : Bool) (i j : ℕ) (x : Meaning) → OffsetsAt t x.events → OffsetsAt t (collection s f i j x).events
  unfolding collection plain_event
  round_at s f i j x a = (tt, both_at x.events _ a (tt, tt))

  pair_at : (x y : Meaning) → OffsetsAt t x.events → OffsetsAt t y.events → OffsetsAt t (x ⊕ y).events
  unfolding ◌⊕◌
  pair_at x y a b = both_at x.events y.events a b

  opened_at : (i : ℕ) (k : Option ℕ) (x : Meaning) → OffsetsAt t x.events → OffsetsAt t (entering i k x).events
  unfolding entering
  opened_at i k x a = entered_at x.events _ a

  propertied_at : (p : PropertiesValue) (i j : ℕ) (x : Meaning) → OffsetAt t p.tag_offset → OffsetsAt t x.events → OffsetsAt t (with_props p.props p.tag_offset i j x).events
  unfolding with_props
  propertied_at p i j x a b = first_at x.events p.props p.tag_offset i j a b

  nothing_at : (i : ℕ) → OffsetsAt t (empty_node i).events
  unfolding empty_node plain_event
  nothing_at i = (tt, tt)

  scalar_at : {n : ℤ} {i j : ℕ} {x : Meaning} → BlockScalar t n i j x → OffsetsAt t x.events
  scalar_at (block_scalar h b l) = (tt, tt)

  pub offsets_at : {h i j : ℕ} {p : Production} {x : Meaning} → Derives t h p i j x → OffsetsAt t x.events
  unfolding meaning_after noting scalar alias_to plain_event
  offsets_at (flow_node d) = offsets_at d
  offsets_at (an_alias b a) = (tt, tt)
  offsets_at (a_plain d) = (tt, tt)
  offsets_at (a_plain_with {i = i} {g = g} {k = k} {j = j} {p = p} q s d) = propertied_at p i g (scalar _ _ [] k j) (props_at q) (tt, tt)
  offsets_at (properties_alone {i = i} {j = j} {p = p} b q) = propertied_at p i j (empty_node j) (props_at q) (nothing_at j)
  offsets_at (a_json d) = offsets_at d
  offsets_at (a_json_with {i = i} {g = g} {p = p} {x = x} q s d) = propertied_at p i g x (props_at q) (offsets_at d)
  offsets_at (a_single d) = (tt, tt)
  offsets_at (a_double d) = (tt, tt)
  offsets_at (an_empty_collection {i = i} {j = j} s {cs = cs} b e m f) = round_at s true i (j + 1) (record { events = []; comments = cs; escapes = []; finish = j }) tt
  offsets_at (a_collection {i = i} {j = j} s {cs = cs} {x = x} b e m d f) = round_at s true i (j + 1) (meaning_after cs x) (offsets_at d)
  offsets_at (last_entry d m) = offsets_at d
  offsets_at (last_entry_with_comma d m e n) = offsets_at d
  offsets_at (more_entries {cs = cs} {ds = ds} {x = x} {y = y} d m e n r) = pair_at (noting x (cs ++ ds)) y (offsets_at d) (offsets_at r)
  offsets_at (a_node_entry {i = i} {x = x} d) = opened_at i None x (offsets_at d)
  offsets_at (a_pair_entry {i = i} {x = x} d) = opened_at i None (collection false true i x.finish x) (round_at false true i x.finish x (offsets_at d))
  offsets_at (an_explicit_entry e s d) = offsets_at d
  offsets_at (an_implicit_entry d) = offsets_at d
  offsets_at (an_explicit_pair e s d) = offsets_at d
  offsets_at (a_keyed_pair {i = i} {k = k} {x = x} {y = y} d v) = pair_at (entering i (Some k) x) y (opened_at i (Some k) x (offsets_at d)) (offsets_at v)
  offsets_at (an_unkeyed_pair {i = i} {x = x} v) = pair_at (entering i (Some i) (empty_node i)) x (opened_at i (Some i) (empty_node i) (nothing_at i)) (offsets_at v)
  offsets_at (explicit_with d) = offsets_at d
  offsets_at (explicit_without {s = s} b) = pair_at (entering s None (empty_node (s + 1))) (empty_node (s + 1)) (opened_at s None (empty_node (s + 1)) (nothing_at (s + 1))) (nothing_at (s + 1))
  offsets_at (key_alone {s = s} {x = x} d) = pair_at (entering s None x) (empty_node x.finish) (opened_at s None x (offsets_at d)) (nothing_at x.finish)
  offsets_at (key_and_value {s = s} {k = k} {cs = cs} {x = x} {y = y} d m v) = pair_at (noting (entering s (Some k) x) cs) y (opened_at s (Some k) x (offsets_at d)) (offsets_at v)
  offsets_at (value_alone {s = s} {i = i} {x = x} v) = pair_at (entering s (Some i) (empty_node i)) x (opened_at s (Some i) (empty_node i) (nothing_at i)) (offsets_at v)
  offsets_at (empty_value {i = i} b e m) = nothing_at (i + 1)
  offsets_at (a_value cs e m s d) = offsets_at d
  offsets_at (a_key d m l) = offsets_at d
  offsets_at (a_block_scalar b s d) = scalar_at d
  offsets_at (a_block_scalar_with {f = f} {g = g} {p = p} {x = x} b s q r d) = propertied_at p f g x (props_at q) (scalar_at d)
  offsets_at (a_block_collection {k = k} {m = m} {sequence = q} {x = x} b e s l d) = round_at q false (k + m) x.finish x (offsets_at d)
  offsets_at (a_block_collection_with {f = f} {g = g} {k = k} {m = m} {sequence = v} {p = p} {x = x} b s q e r l d) =
      propertied_at p f g (collection v false (k + m) x.finish x) (props_at q) (round_at v false (k + m) x.finish x (offsets_at d))
  offsets_at (flow_in_block b s d e) = offsets_at d
  offsets_at (a_last_entry d) = offsets_at d
  offsets_at (an_entry_before {x = x} {y = y} d s e) = pair_at x y (offsets_at d) (offsets_at e)
  offsets_at (a_dash_entry {i = i} {x = x} a b d) = opened_at i None x (offsets_at d)
  offsets_at (an_explicit_entry_with {m = m} {i = i} {k = k} {x = x} {y = y} a b d g e) = pair_at (entering i (Some (k + m)) x) y (opened_at i (Some (k + m)) x (offsets_at d)) (offsets_at e)
  offsets_at (an_explicit_key_alone {i = i} {x = x} a b d g) = pair_at (entering i None x) (empty_node x.finish) (opened_at i None x (offsets_at d)) (nothing_at x.finish)
  offsets_at (a_keyed_entry {i = i} {k = k} {x = x} {y = y} d e) = pair_at (entering i (Some k) x) y (opened_at i (Some k) x (offsets_at d)) (offsets_at e)
  offsets_at (an_unkeyed_entry {i = i} {x = x} d) = pair_at (entering i (Some i) (empty_node i)) x (opened_at i (Some i) (empty_node i) (nothing_at i)) (offsets_at d)
  offsets_at (a_block_value e d) = offsets_at d
  offsets_at (an_empty_block_value {i = i} e d) = nothing_at (i + 1)
  offsets_at (a_compact_collection {l = l} {i = i} {sequence = q} {x = x} b s d) = round_at q false (i + l) x.finish x (offsets_at d)
  offsets_at (an_indented_node d) = offsets_at d
  offsets_at (nothing_indented {i = i} b d) = nothing_at i
