-- Flow nodes (7.4 and 7.5): from the relation `Node` of `Grammar` to the standard's productions.
use Rattle.std.proofs.Common.{◌≡◌, ℕ, ◌+◌, ◌<◌, ◌≤◌, ℤ, pos, Bool, true, false, true≢false, List, refl, sym, ap, ◌∙◌, subst, arith}
use Rattle.yf_chars.specs.declared.context.Ctx.{Ctx}
use Rattle.yf_chars.specs.declared.context.Ctx.TheVariants.{FlowKey}
use Rattle.yf_chars.specs.Text.{code}
use Rattle.yf_chars.specs.Class.{is_plain_safe}
use Rattle.yf_lines.specs.Basic.{is_block}
use Rattle.yf_comments.specs.Comment.{CommentValue}
use Rattle.yf_grammar.specs.Productions.Meaning.{Meaning}
use Rattle.yf_grammar.specs.Productions.Grammar.{Production, Derives, MaySeparate, MaySeparateInLine, characters_between, in_flow as flow_within}
use Rattle.yf_grammar.specs.Productions.Grammar.Production.{FlowNode, NodeOf, JsonContent, Entries, Entry, Pair, Explicit, Implicit, ValueOf, KeyOf, BlockNode, BlockEntries, BlockEntry, BlockIndented, BlockValue}
use Rattle.yf_grammar.specs.Productions.Grammar.MaySeparate.{unseparated, separated}
use Rattle.yf_grammar.specs.Productions.Grammar.MaySeparateInLine.{unseparated_in_line, separated_in_line}
use Rattle.yf_grammar.specs.Productions.Grammar.Derives.{a_block_scalar, a_block_scalar_with, a_block_collection, a_block_collection_with, flow_in_block, a_last_entry, an_entry_before, a_dash_entry, an_explicit_entry_with, an_explicit_key_alone, a_keyed_entry, an_unkeyed_entry, a_block_value, an_empty_block_value, a_compact_collection, an_indented_node, nothing_indented, flow_node, an_alias, a_plain, a_plain_with, properties_alone, a_json, a_json_with, a_single, a_double, an_empty_collection, a_collection, last_entry, last_entry_with_comma, more_entries, a_node_entry, a_pair_entry, an_explicit_entry, an_implicit_entry, an_explicit_pair, a_keyed_pair, an_unkeyed_pair, explicit_with, explicit_without, key_alone, key_and_value, value_alone, empty_value, a_value, a_key}
use Rattle.yf_standard.specs.Characters.{ns-plain-safe, c-mapping-key, c-mapping-value, c-collect-entry, c-sequence-start, c-sequence-end, c-mapping-start, c-mapping-end}
use Rattle.yf_standard.specs.Notation.{Form}
use Rattle.yf_standard.specs.Notation.Form.{◌⁇, s-separate, s-separate-in-line, in-flow, ns-s-flow-seq-entries, ns-flow-seq-entry, ns-s-flow-map-entries, ns-flow-map-entry, ns-flow-map-explicit-entry, ns-flow-map-implicit-entry, c-ns-flow-map-separate-value, c-ns-flow-map-adjacent-value, ns-flow-pair, ns-s-implicit-yaml-key, c-s-implicit-json-key, c-flow-json-content, ns-flow-yaml-node, c-flow-json-node, ns-flow-node}
use Rattle.std.proofs.lemmas.Int.{ints}
use Rattle.std.proofs.Common.{◌+ℤ◌, ◌-ℤ◌, ◌≤ℤ◌, nat_abs}
use Rattle.yf_chars.specs.declared.context.Ctx.TheVariants.{BlockOut, BlockIn, FlowOut, FlowIn, BlockKey}
use Rattle.yf_lines.specs.Basic.{Spaces}
use Rattle.yf_chars.specs.Class.{is_white_or_end}
use Rattle.yf_grammar.specs.Productions.Grammar.{ColonLine, least_column}
use Rattle.yf_standard.specs.Characters.{c-sequence-entry}
use Rattle.yf_standard.specs.Rules.{ValueLine}
use Rattle.yf_standard.proofs.BasicsMade.{indent_made, comments_made}
use Rattle.yf_standard.proofs.Sets.{ns_char_is}
use Rattle.yf_standard.specs.Notation.Form.{◌∙◌ as ◌then◌, ◌⁺, ◌⋆, ◌∣◌, s-indent, l+block-sequence, l+block-mapping, c-l-block-seq-entry, ns-l-block-map-entry, s-l+block-indented, ns-l-compact-sequence, ns-l-compact-mapping, c-l-block-map-implicit-value, s-l+block-node, seq-space}
use Rattle.yf_standard.specs.Productions.{rule, in-flow-context, plus}
use Rattle.yf_standard.specs.Rules.{read}
use Rattle.yf_standard.specs.Literal.{kind}
use Rattle.yf_standard.specs.Literal.Derived.{for_some_m, by_rule, by_collection, nothing, one_then, in_left, in_right, absent, present, no_more, one_more, at_least_one, where_holds, within}
use Rattle.yf_standard.proofs.BasicsMade.{Read, one_char, separate_made, in_line_made}
use Rattle.yf_standard.proofs.Plains.{plain_made}
use Rattle.yf_standard.proofs.Reading.{no_operator, no_operator_opens}
use Rattle.yf_standard.proofs.PropertiesMade.{alias_made, properties_made}
use Rattle.yf_standard.proofs.QuotedMade.{single_made, double_made}
use Rattle.yf_standard.proofs.ScalarsMade.{scalar_made}
use Rattle.yf_standard.proofs.Sets.{plain_safe_is}
use Rattle.yf_standard.proofs.Flows.{flow_same}

-- the standard's production
abbrev form : Production → Form
form (FlowNode n c) = ns-flow-node n c
form (NodeOf true n c) = c-flow-json-node n c
form (NodeOf false n c) = ns-flow-yaml-node n c
form (JsonContent n c) = c-flow-json-content n c
form (Entries true n c) = ns-s-flow-seq-entries n c
form (Entries false n c) = ns-s-flow-map-entries n c
form (Entry true n c) = ns-flow-seq-entry n c
form (Entry false n c) = ns-flow-map-entry n c
form (Pair n c) = rule (ns-flow-pair n c)
form (Explicit n c s) = ns-flow-map-explicit-entry n c
form (Implicit n c s) = ns-flow-map-implicit-entry n c
form (ValueOf true n c) = c-ns-flow-map-adjacent-value n c
form (ValueOf false n c) = c-ns-flow-map-separate-value n c
form (KeyOf true c) = c-s-implicit-json-key c
form (KeyOf false c) = ns-s-implicit-yaml-key c
form (BlockNode n c) = s-l+block-node n c
form (BlockEntries true m) = c-l-block-seq-entry (pos m) then (s-indent (pos m) then c-l-block-seq-entry (pos m)) ⋆
form (BlockEntries false m) = ns-l-block-map-entry (pos m) then (s-indent (pos m) then ns-l-block-map-entry (pos m)) ⋆
form (BlockEntry true m) = c-l-block-seq-entry (pos m)
form (BlockEntry false m) = ns-l-block-map-entry (pos m)
form (BlockIndented m c) = s-l+block-indented (pos m) c
form (BlockValue m) = c-l-block-map-implicit-value (pos m)

-- the parts of a sequence of two
record Parts (t : List ℕ) (room : ℕ) (a b : Form) (i j : ℕ) : Type 0 where
  at : ℕ
  first : Read t room a i at
  second : Read t room b at j

parts : {room : ℕ} {t : List ℕ} {a b : Form} {i j : ℕ} → Read t room (a then b) i j → Parts t room a b i j
unfolding kind
parts {room = room} (by_rule e d) = no_operator e
parts {room = room} (by_collection e l d) = no_operator_opens e
parts {room = room} (one_then {k = k} d e) = record { at = k; first = d; second = e }

-- the entries of a collection, by their kind
abbrev entry : Bool → ℤ → Form
entry true n = c-l-block-seq-entry n
entry false n = ns-l-block-map-entry n

-- one more entry before them
before_made : {room : ℕ} {t : List ℕ} (s : Bool) (m : ℕ) {i k j : ℕ} → Read t room (entry s (pos m)) i k → Spaces t k m → Read t room (entry s (pos m) then (s-indent (pos m) then entry s (pos m)) ⋆) (k + m) j
    → Read t room (entry s (pos m) then (s-indent (pos m) then entry s (pos m)) ⋆) i j
before_made {room = room} {t = t} s m {k = k} d w r = let p = parts r in one_then d (one_more (one_then (indent_made t k m w) p.first) p.second)

-- n + 1 and more, as n + 1 + m
more_than : (n : ℤ) (m : ℕ) → (n +ℤ pos 1) ≤ℤ pos m → (d : ℕ) × (plus n (1 + d) ≡ pos m)
more_than n m l = (nat_abs (pos m -ℤ (n +ℤ pos 1)), grind (arith, ints))

-- [183] and [187]
collection_form : Bool → ℤ → Form
collection_form true n = l+block-sequence n
collection_form false n = l+block-mapping n

column_made : {room h : ℕ} (t : List ℕ) (s : Bool) (n : ℤ) (k m j : ℕ) → Spaces t k m → (n +ℤ pos 1) ≤ℤ pos m
    → h < room → Read t h (entry s (pos m) then (s-indent (pos m) then entry s (pos m)) ⋆) (k + m) j → Read t room (collection_form s n) k j
unfolding rule kind collection_form
column_made {h = h} t true n k m j w l le r =
    let p = parts r in
    let d = more_than n m l in
    by_collection refl le (for_some_m d.0 (subst (λ z. Read t h ((s-indent z then entry true z) ⁺) k j) (sym d.1) (at_least_one (one_then (indent_made t k m w) p.first) p.second)))
column_made {h = h} t false n k m j w l le r =
    let p = parts r in
    let d = more_than n m l in
    by_collection refl le (for_some_m d.0 (subst (λ z. Read t h ((s-indent z then entry false z) ⁺) k j) (sym d.1) (at_least_one (one_then (indent_made t k m w) p.first) p.second)))

columns_made : {room h : ℕ} (t : List ℕ) (s : Bool) (n : ℤ) (c : Ctx) (k m j : ℕ) → is_block c ≡ true → Spaces t k m → least_column s n c ≤ℤ pos m
    → h < room → Read t h (entry s (pos m) then (s-indent (pos m) then entry s (pos m)) ⋆) (k + m) j → Read t room (seq-space n c ∣ l+block-mapping n) k j
unfolding rule kind collection_form
columns_made t true n BlockOut k m j b w l le r = let low : ((n -ℤ pos 1) +ℤ pos 1) ≤ℤ pos m = omega (arith, ints, l) in in_left (by_rule refl (column_made t true (n -ℤ pos 1) k m j w low le r))
columns_made t true n BlockIn k m j b w l le r = in_left (by_rule refl (column_made t true n k m j w l le r))
columns_made t true n FlowOut k m j b w l le r = absurd (true≢false (sym b))
columns_made t true n FlowIn k m j b w l le r = absurd (true≢false (sym b))
columns_made t true n BlockKey k m j b w l le r = absurd (true≢false (sym b))
columns_made t true n FlowKey k m j b w l le r = absurd (true≢false (sym b))
columns_made t false n c k m j b w l le r = in_right (column_made t false n k m j w l le r)

value_line : {t : List ℕ} {m i : ℕ} → ValueLine t (pos m) i → ColonLine t m i
value_line {t = t} {m = m} {i = i} v =
    let e : v.m ≡ m = sym (ap nat_abs v.column) in
    record {
      indent = subst (λ z. Spaces t i z) e v.indent;
      colon = ap (λ z. code t (i + z)) (sym e) ∙ v.colon;
      follows = ap (λ z. is_white_or_end (code t (i + z + 1))) (sym e) ∙ v.follows;
    }

may_made : {room : ℕ} {t : List ℕ} {n : ℤ} {c : Ctx} {i j : ℕ} {cs : List CommentValue} → MaySeparate t n c i j cs → Read t room (s-separate n c ⁇) i j
may_made {room = room} unseparated = absent
may_made {room = room} (separated s) = present (separate_made s)

may_in_line_made : {room : ℕ} {t : List ℕ} {i j : ℕ} → MaySeparateInLine t i j → Read t room (s-separate-in-line ⁇) i j
may_in_line_made {room = room} unseparated_in_line = absent
may_in_line_made {room = room} (separated_in_line s) = present (in_line_made s)

no_plain : (t : List ℕ) (i : ℕ) (c : Ctx) → is_plain_safe (code t i) c ≡ false → ns-plain-safe c (code t i) ≡ false
no_plain t i c e = plain_safe_is c (code t i) ∙ e

in_flow_made : {t : List ℕ} {h : ℕ} {n : ℤ} {k j : ℕ} (c : Ctx) → is_block c ≡ false → Read t h (ns-s-flow-seq-entries n (flow_within c)) k j → Read t h (in-flow n c) k j
unfolding rule kind
in_flow_made BlockOut b d = absurd (true≢false b)
in_flow_made BlockIn b d = absurd (true≢false b)
in_flow_made FlowOut b d = by_rule refl d
in_flow_made FlowIn b d = by_rule refl d
in_flow_made BlockKey b d = by_rule refl d
in_flow_made FlowKey b d = by_rule refl d

module _ (t : List ℕ) where
  pub made : {h : ℕ} {p : Production} {i j : ℕ} {m : Meaning} → Derives t h p i j m → {room : ℕ} → h ≤ room → Read t room (form p) i j
  unfolding rule kind read characters_between c-mapping-key c-mapping-value c-collect-entry c-sequence-start c-sequence-end c-mapping-start c-mapping-end c-sequence-entry
  made (flow_node (an_alias b a)) {room = room} le = by_rule refl (in_left (alias_made a))
  made (flow_node (a_plain p)) {room = room} le = by_rule refl (in_right (in_left (by_rule refl (in_left (by_rule refl (plain_made p))))))
  made (flow_node (a_plain_with p s q)) {room = room} le =
      by_rule refl (in_right (in_right (one_then (properties_made p) (in_left (one_then (separate_made s) (by_rule refl (in_left (by_rule refl (plain_made q)))))))))
  made (flow_node (properties_alone b p)) {room = room} le = by_rule refl (in_right (in_right (one_then (properties_made p) (in_right (by_rule refl nothing)))))
  made (flow_node (a_json d)) {room = room} le = by_rule refl (in_right (in_left (by_rule refl (in_right (made d (omega (arith, le)))))))
  made (flow_node (a_json_with p s d)) {room = room} le =
      by_rule refl (in_right (in_right (one_then (properties_made p) (in_left (one_then (separate_made s) (by_rule refl (in_right (made d (omega (arith, le))))))))))
  made (an_alias b a) {room = room} le = by_rule refl (in_left (alias_made a))
  made (a_plain p) {room = room} le = by_rule refl (in_right (in_left (by_rule refl (plain_made p))))
  made (a_plain_with p s q) {room = room} le = by_rule refl (in_right (in_right (one_then (properties_made p) (in_left (one_then (separate_made s) (by_rule refl (plain_made q)))))))
  made (properties_alone b p) {room = room} le = by_rule refl (in_right (in_right (one_then (properties_made p) (in_right (by_rule refl nothing)))))
  made (a_json d) {room = room} le = by_rule refl (one_then absent (made d (omega (arith, le))))
  made (a_json_with p s d) {room = room} le = by_rule refl (one_then (present (one_then (properties_made p) (separate_made s))) (made d (omega (arith, le))))
  made (a_single q) {room = room} le = by_rule refl (in_right (in_right (in_left (single_made q))))
  made (a_double q) {room = room} le = by_rule refl (in_right (in_right (in_right (double_made q))))
  made (an_empty_collection {i = i} {j = j} true b o s e) {room = room} le =
      by_rule refl (in_left (by_collection {d = 0} refl (omega (arith, le)) (one_then (one_char t i 91 (omega arith) o) (one_then (may_made s) (one_then absent (one_char t j 93 (omega arith) e))))))
  made (an_empty_collection {i = i} {j = j} false b o s e) {room = room} le =
      by_rule refl (in_right (in_left (by_collection {d = 0} refl (omega (arith, le)) (one_then (one_char t i 123 (omega arith) o) (one_then (may_made s) (one_then absent (one_char t j 125 (omega arith) e)))))))
  made (a_collection {h = h} {i = i} {k = k} {j = j} true {n = n} {c = c} b o s d e) {room = room} le =
      let q : Read t h (in-flow n c) k j = in_flow_made c b (made d (omega arith)) in
      by_rule refl (in_left (by_collection {d = h} refl (omega (arith, le)) (one_then (one_char t i 91 (omega arith) o) (one_then (may_made s) (one_then (present q) (one_char t j 93 (omega arith) e))))))
  made (a_collection {h = h} {i = i} {k = k} {j = j} false {n = n} {c = c} b o s d e) {room = room} le =
      let q : Read t h (ns-s-flow-map-entries n (in-flow-context c)) k j = subst (λ z. Read t h (ns-s-flow-map-entries n z) k j) (sym (flow_same c)) (made d (omega arith)) in
      by_rule refl (in_right (in_left (by_collection {d = h} refl (omega (arith, le)) (one_then (one_char t i 123 (omega arith) o) (one_then (may_made s) (one_then (present q) (one_char t j 125 (omega arith) e)))))))
  made (last_entry {sequence = true} d s) {room = room} le = by_rule refl (one_then (made d (omega (arith, le))) (one_then (may_made s) absent))
  made (last_entry {sequence = false} d s) {room = room} le = by_rule refl (one_then (made d (omega (arith, le))) (one_then (may_made s) absent))
  made (last_entry_with_comma {l = k} {sequence = true} d s e r) {room = room} le =
      by_rule refl (one_then (made d (omega (arith, le))) (one_then (may_made s) (present (one_then (one_char t k 44 (omega arith) e) (one_then (may_made r) absent)))))
  made (last_entry_with_comma {l = k} {sequence = false} d s e r) {room = room} le =
      by_rule refl (one_then (made d (omega (arith, le))) (one_then (may_made s) (present (one_then (one_char t k 44 (omega arith) e) (one_then (may_made r) absent)))))
  made (more_entries {l = k} {sequence = true} d s e r f) {room = room} le =
      by_rule refl (one_then (made d (omega (arith, le))) (one_then (may_made s) (present (one_then (one_char t k 44 (omega arith) e) (one_then (may_made r) (present (made f (omega (arith, le)))))))))
  made (more_entries {l = k} {sequence = false} d s e r f) {room = room} le =
      by_rule refl (one_then (made d (omega (arith, le))) (one_then (may_made s) (present (one_then (one_char t k 44 (omega arith) e) (one_then (may_made r) (present (made f (omega (arith, le)))))))))
  made (a_node_entry d) {room = room} le = by_rule refl (in_right (made d (omega (arith, le))))
  made (a_pair_entry {h = h} d) {room = room} le = by_rule refl (in_left (by_collection {d = h} refl (omega (arith, le)) (made d (omega arith))))
  made (an_explicit_entry {i = i} e s d) {room = room} le = by_rule refl (in_left (one_then (one_char t i 63 (omega arith) e) (one_then (separate_made s) (made d (omega (arith, le))))))
  made (an_implicit_entry d) {room = room} le = by_rule refl (in_right (made d (omega (arith, le))))
  made (an_explicit_pair {i = i} e s d) {room = room} le = in_left (one_then (one_char t i 63 (omega arith) e) (one_then (separate_made s) (made d (omega (arith, le)))))
  made (a_keyed_pair {json = true} d e) {room = room} le = in_right (by_rule refl (in_right (in_right (by_rule refl (one_then (made d (omega (arith, le))) (made e (omega (arith, le))))))))
  made (a_keyed_pair {json = false} d e) {room = room} le = in_right (by_rule refl (in_left (by_rule refl (one_then (made d (omega (arith, le))) (made e (omega (arith, le)))))))
  made (an_unkeyed_pair d) {room = room} le = in_right (by_rule refl (in_right (in_left (by_rule refl (one_then (by_rule refl (by_rule refl nothing)) (made d (omega (arith, le))))))))
  made (explicit_with d) {room = room} le = by_rule refl (in_left (made d (omega (arith, le))))
  made (explicit_without b) {room = room} le = by_rule refl (in_right (one_then (by_rule refl (by_rule refl nothing)) (by_rule refl (by_rule refl nothing))))
  made (key_alone {json = true} d) {room = room} le = by_rule refl (in_right (in_right (by_rule refl (one_then (made d (omega (arith, le))) (in_right (by_rule refl (by_rule refl nothing)))))))
  made (key_alone {json = false} d) {room = room} le = by_rule refl (in_left (by_rule refl (one_then (made d (omega (arith, le))) (in_right (by_rule refl (by_rule refl nothing))))))
  made (key_and_value {json = true} d s e) {room = room} le = by_rule refl (in_right (in_right (by_rule refl (one_then (made d (omega (arith, le))) (in_left (one_then (may_made s) (made e (omega (arith, le)))))))))
  made (key_and_value {json = false} d s e) {room = room} le = by_rule refl (in_left (by_rule refl (one_then (made d (omega (arith, le))) (in_left (one_then (may_made s) (made e (omega (arith, le))))))))
  made (value_alone d) {room = room} le = by_rule refl (in_right (in_left (by_rule refl (one_then (by_rule refl (by_rule refl nothing)) (made d (omega (arith, le)))))))
  made (empty_value {i = i} {json = true} b e f) {room = room} le = by_rule refl (one_then (one_char t i 58 (omega arith) e) (in_right (by_rule refl (by_rule refl nothing))))
  made (empty_value {i = i} {json = false} {c = c} b e f) {room = room} le =
      by_rule refl (one_then (one_char t i 58 (omega arith) e) (one_then (where_holds (no_plain t (i + 1) c f)) (in_right (by_rule refl (by_rule refl nothing)))))
  made (a_value {i = i} {json = true} cs e f s d) {room = room} le = by_rule refl (one_then (one_char t i 58 (omega arith) e) (in_left (one_then (may_made s) (made d (omega (arith, le))))))
  made (a_value {i = i} {json = false} {c = c} cs e f s d) {room = room} le =
      by_rule refl (one_then (one_char t i 58 (omega arith) e) (one_then (where_holds (no_plain t (i + 1) c f)) (in_left (one_then (separate_made s) (made d (omega (arith, le)))))))
  made (a_key {json = true} d s b) {room = room} le = by_rule refl (within (one_then (made d (omega (arith, le))) (may_in_line_made s)) b)
  made (a_key {json = false} d s b) {room = room} le = by_rule refl (within (one_then (made d (omega (arith, le))) (may_in_line_made s)) b)
  made (a_block_scalar b s q) {room = room} le = by_rule refl (in_left (by_rule refl (in_left (by_rule refl (one_then (separate_made s) (one_then absent (scalar_made q)))))))
  made (a_block_scalar_with b s p r q) {room = room} le =
      by_rule refl (in_left (by_rule refl (in_left (by_rule refl (one_then (separate_made s) (one_then (present (one_then (properties_made p) (separate_made r))) (scalar_made q)))))))
  made (a_block_collection {h = h} {k = k} {m = m} {j = j} {sequence = true} {n = n} {c = c} b e w o d) {room = room} le =
      by_rule refl (in_left (by_rule refl (in_right (by_rule refl (one_then absent (one_then (comments_made e) (columns_made {h = h} t true n c k m j b w o (omega (arith, le)) (made d (omega arith)))))))))
  made (a_block_collection {h = h} {k = k} {m = m} {j = j} {sequence = false} {n = n} {c = c} b e w o d) {room = room} le =
      by_rule refl (in_left (by_rule refl (in_right (by_rule refl (one_then absent (one_then (comments_made e) (columns_made {h = h} t false n c k m j b w o (omega (arith, le)) (made d (omega arith)))))))))
  made (a_block_collection_with {h = h} {k = k} {m = m} {j = j} {sequence = true} {n = n} {c = c} b s p e w o d) {room = room} le =
      by_rule refl (in_left (by_rule refl (in_right (by_rule refl
      (one_then (present (one_then (separate_made s) (properties_made p))) (one_then (comments_made e) (columns_made {h = h} t true n c k m j b w o (omega (arith, le)) (made d (omega arith)))))))))
  made (a_block_collection_with {h = h} {k = k} {m = m} {j = j} {sequence = false} {n = n} {c = c} b s p e w o d) {room = room} le =
      by_rule refl (in_left (by_rule refl (in_right (by_rule refl
      (one_then (present (one_then (separate_made s) (properties_made p))) (one_then (comments_made e) (columns_made {h = h} t false n c k m j b w o (omega (arith, le)) (made d (omega arith)))))))))
  made (flow_in_block b s d e) {room = room} le = by_rule refl (in_right (by_rule refl (one_then (separate_made s) (one_then (made d (omega (arith, le))) (comments_made e)))))
  made (a_last_entry {sequence = true} d) {room = room} le = one_then (made d (omega (arith, le))) no_more
  made (a_last_entry {sequence = false} d) {room = room} le = one_then (made d (omega (arith, le))) no_more
  made (an_entry_before {m = m} {sequence = true} d w r) {room = room} le = before_made true m (made d (omega (arith, le))) w (made r (omega (arith, le)))
  made (an_entry_before {m = m} {sequence = false} d w r) {room = room} le = before_made false m (made d (omega (arith, le))) w (made r (omega (arith, le)))
  made (a_dash_entry {i = i} e f d) {room = room} le = by_rule refl (one_then (one_char t i 45 (omega arith) e) (one_then (where_holds (ns_char_is (code t (i + 1)) ∙ f)) (made d (omega (arith, le)))))
  made (an_explicit_entry_with {m = m} {i = i} {k = k} e w d c r) {room = room} le =
      by_rule refl (in_left (by_rule refl (one_then (by_rule refl (one_then (one_char t i 63 (omega arith) e) (one_then (where_holds w) (made d (omega (arith, le))))))
      (in_left (by_rule refl (one_then (indent_made t k m c.indent) (one_then (one_char t (k + m) 58 (omega arith) c.colon) (one_then (where_holds c.follows) (made r (omega (arith, le)))))))))))
  made (an_explicit_key_alone {i = i} e w d n) {room = room} le =
      by_rule refl (in_left (by_rule refl (one_then (by_rule refl (one_then (one_char t i 63 (omega arith) e) (one_then (where_holds w) (made d (omega (arith, le))))))
      (in_right (one_then (where_holds (λ v. n (value_line v))) (by_rule refl (by_rule refl nothing)))))))
  made (a_keyed_entry {json = true} d e) {room = room} le = by_rule refl (in_right (by_rule refl (one_then (in_left (by_rule refl (in_left (made d (omega (arith, le)))))) (made e (omega (arith, le))))))
  made (a_keyed_entry {json = false} d e) {room = room} le = by_rule refl (in_right (by_rule refl (one_then (in_left (by_rule refl (in_right (made d (omega (arith, le)))))) (made e (omega (arith, le))))))
  made (an_unkeyed_entry d) {room = room} le = by_rule refl (in_right (by_rule refl (one_then (in_right (by_rule refl (by_rule refl nothing))) (made d (omega (arith, le))))))
  made (a_block_value {i = i} e d) {room = room} le = by_rule refl (one_then (one_char t i 58 (omega arith) e) (in_left (made d (omega (arith, le)))))
  made (an_empty_block_value {i = i} e r) {room = room} le = by_rule refl (one_then (one_char t i 58 (omega arith) e) (in_right (one_then (by_rule refl (by_rule refl nothing)) (comments_made r))))
  made (a_compact_collection {h = h} {l = k} {m = m} {i = i} {j = j} {sequence = true} b w d) {room = room} le =
      let q : plus (pos m) (1 + k) ≡ pos (m + 1 + k) = omega (arith, ints) in
      by_rule refl (in_left (for_some_m k (one_then (indent_made t i k w) (in_left (subst (λ z. Read t room (ns-l-compact-sequence z) (i + k) j) (sym q) (by_collection {d = h} refl (omega (arith, le)) (made d (omega arith))))))))
  made (a_compact_collection {h = h} {l = k} {m = m} {i = i} {j = j} {sequence = false} b w d) {room = room} le =
      let q : plus (pos m) (1 + k) ≡ pos (m + 1 + k) = omega (arith, ints) in
      by_rule refl (in_left (for_some_m k (one_then (indent_made t i k w) (in_right (subst (λ z. Read t room (ns-l-compact-mapping z) (i + k) j) (sym q) (by_collection {d = h} refl (omega (arith, le)) (made d (omega arith))))))))
  made (an_indented_node d) {room = room} le = by_rule refl (in_right (in_left (made d (omega (arith, le)))))
  made (nothing_indented b e) {room = room} le = by_rule refl (in_right (in_right (one_then (by_rule refl (by_rule refl nothing)) (comments_made e))))
