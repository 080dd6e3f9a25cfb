-- Each derived node is a tree that is read: its plain scalars were plain in their contexts, and its literal and folded
-- ones have the lines of their texts.
use Rattle.std.proofs.Common.{◌≡◌, ℕ, ◌+◌, ℤ, Bool, true, false, List, [], ◌++◌, Some, None, refl, arith, encode_utf8_all}
use Rattle.std.specs.Prelude.{◌||◌}
use Rattle.std.specs.Str.{IsUtf8}
use Rattle.yf_chars.specs.declared.context.Ctx.{Ctx}
use Rattle.yf_lines.specs.Basic.{is_block}
use Rattle.yf_plain.specs.Kept.{is_inside}
use Rattle.yf_plain.specs.Plain.{PlainText}
use Rattle.yf_plain.proofs.KeptLemmas.{plain_kept}
use Rattle.yf_quoted.specs.Quoted.{text_of, bad_escapes}
use Rattle.yf_block_scalar.specs.Content.{content_of}
use Rattle.yf_props.specs.Names.{Alias}
use Rattle.yf_props.specs.Props.{no_props}
use Rattle.yf_props.proofs.NamesMade.{alias_made, props_made}
use Rattle.yf_events.specs.declared.event.ScalarStyle.{ScalarStyle}
use Rattle.yf_events.specs.declared.event.ScalarStyle.TheVariants.{Plain, Single, Double}
use Rattle.yf_events.specs.Tree.{scalar as scalar_tree, alias as alias_tree}
use Rattle.yf_grammar.specs.Productions.BlockScalar.{BlockScalar, style_of, kept_lines}
use Rattle.yf_grammar.specs.Productions.BlockScalar.BlockScalar.{block_scalar}
use Rattle.yf_grammar.specs.Productions.Grammar.{Production, FlowNode, NodeOf, JsonContent, Entries, Entry, Pair, Explicit, Implicit, ValueOf, KeyOf, BlockNode, BlockEntries, BlockEntry, BlockIndented, BlockValue, Derives}
use Rattle.yf_grammar.specs.Productions.Grammar.Derives.{flow_node, an_alias, a_plain, a_plain_with, properties_alone, a_json, a_json_with, a_single, a_double, an_empty_collection, a_collection, last_entry, last_entry_with_comma, more_entries, a_node_entry, a_pair_entry, an_explicit_entry, an_implicit_entry, an_explicit_pair, a_keyed_pair, an_unkeyed_pair, explicit_with, explicit_without, key_alone, key_and_value, value_alone, empty_value, a_value, a_key, a_block_scalar, a_block_scalar_with, a_block_collection, a_block_collection_with, flow_in_block, a_last_entry, an_entry_before, a_dash_entry, an_explicit_entry_with, an_explicit_key_alone, a_keyed_entry, an_unkeyed_entry, a_block_value, an_empty_block_value, a_compact_collection, an_indented_node, nothing_indented}
use Rattle.yf_grammar.specs.Productions.Meaning.{Meaning, scalar, alias_to, plain_event}
use Rattle.yf_grammar.proofs.Ends.WiderLemmas.{inside_not_block, in_flow_inside}
use Rattle.yf_laws.specs.Layouts.ReadableTrees.{FitScalar, no_fit_props}
use Rattle.yf_laws.proofs.Writable.ReadTrees.{ReadText, read_scalar, read_alias}
use Rattle.yf_forms.specs.Nodes.ScalarStyles.{has_block_content}
use Rattle.yf_laws.proofs.Writable.BlockFits.{read_block_fits}
use Rattle.yf_laws.proofs.Writable.LeafTexts.{plain_utf8, single_utf8, double_utf8, block_utf8}
use Rattle.yf_laws.proofs.Writable.PropsFits.{props_some}
use Rattle.yf_laws.proofs.Writable.ReadParts.{NodeRead, PairRead, EntryRead, an_item, a_pair, EntriesRead, spanned, some_span, node_next, node_noting, pair_after, entry_noting, entries_after, node_entering, nothing_read, pair_of, last_of, more_of, none_of, collection_read, node_with}
use Rattle.yf_laws.proofs.Writable.ReadFits.{outside}

-- in a flow collection a node is known to be in one; elsewhere there is no condition
abbrev pub ReadClaim : ℕ → Production → Meaning → Type 0
ReadClaim h (FlowNode n c) x = is_block c ≡ false → (b : Bool) → (b ≡ true → is_inside c ≡ true) → NodeRead h b x
ReadClaim h (NodeOf json n c) x = is_block c ≡ false → (b : Bool) → (b ≡ true → is_inside c ≡ true) → NodeRead h b x
ReadClaim h (JsonContent n c) x = is_block c ≡ false → (b : Bool) → (b ≡ true → is_inside c ≡ true) → NodeRead h b x
ReadClaim h (KeyOf json c) x = is_block c ≡ false → (b : Bool) → (b ≡ true → is_inside c ≡ true) → NodeRead h b x
ReadClaim h (Entries s n c) x = is_inside c ≡ true → (b : Bool) → EntriesRead h b s x
ReadClaim h (Entry s n c) x = is_inside c ≡ true → (b : Bool) → EntryRead h b s x
ReadClaim h (Pair n c) x = is_inside c ≡ true → (b : Bool) → PairRead h b x
ReadClaim h (Explicit n c s) x = is_inside c ≡ true → (b : Bool) → PairRead h b x
ReadClaim h (Implicit n c s) x = is_inside c ≡ true → (b : Bool) → PairRead h b x
ReadClaim h (ValueOf json n c) x = is_inside c ≡ true → (b : Bool) → NodeRead h b x
ReadClaim h (BlockNode n c) x = NodeRead h false x
ReadClaim h (BlockEntries s m) x = EntriesRead h false s x
ReadClaim h (BlockEntry s m) x = EntryRead h false s x
ReadClaim h (BlockIndented m c) x = NodeRead h false x
ReadClaim h (BlockValue m) x = NodeRead h false x

-- Leaves.

scalar_read : {b : Bool} (style : ScalarStyle) (text bad : List ℕ) (i j : ℕ) → IsUtf8 text → ReadText b style text [] → NodeRead 0 b (scalar style text bad i j)
unfolding scalar plain_event
scalar_read style text bad i j u r = record { node = scalar_tree (spanned i j) no_props style text []; low = omega arith; events = refl; read = read_scalar (some_span i j) no_fit_props u r }

module _ {t : List ℕ} (u : IsUtf8 t) where
  alias_read : {b : Bool} {i j : ℕ} {name : List ℕ} → Alias t i j name → NodeRead 0 b (alias_to name i j)
  unfolding alias_to plain_event
  alias_read {i = i} {j = j} {name = name} a = record { node = alias_tree (spanned i j) name; low = omega arith; events = refl; read = read_alias (some_span i j) (alias_made u a) }

  plain_read : {n : ℤ} {c : Ctx} {i j : ℕ} {x : List ℕ} (b : Bool) → (b ≡ true → is_inside c ≡ true) → PlainText t n c i j x
      → NodeRead 0 b (scalar Plain (encode_utf8_all x) [] i j)
  plain_read {i = i} {j = j} {x = x} b m p =
      scalar_read Plain (encode_utf8_all x) [] i j (plain_utf8 p)
      (record { stays = λ d k e s. plain_kept d u p (record { flow = k; inside = λ h. m (e h) }) s })

  block_read : {n : ℤ} {i j : ℕ} {x : Meaning} → BlockScalar t n i j x → NodeRead 0 false x
  block_read {i = i} (block_scalar {e = e} {h = h} {b = v} a d g) = record {
    node = scalar_tree (spanned i e) no_props (style_of h.header.folded) text (kept_lines h.header.folded v.lines);
    low = omega arith;
    events = refl;
    read = read_scalar (some_span i e) no_fit_props (block_utf8 u d) (by h.header.folded (λ k. read_block_fits u d k));
  } where
    text : List ℕ
    text = content_of h.header v.lines v.tail v.open_end

    by : (f : Bool) → (has_block_content text ≡ true → FitScalar (style_of f) text (kept_lines f v.lines)) → ReadText false (style_of f) text (kept_lines f v.lines)
    by true r = r
    by false r = r

  -- Nodes.

  pub reads : {h i j : ℕ} {p : Production} {x : Meaning} → Derives t h p i j x → ReadClaim h p x
  reads (flow_node d) = λ k b m. reads d k b m
  reads (an_alias f a) = λ k b m. alias_read a
  reads (a_plain p) = λ k b m. plain_read b m p
  reads (a_plain_with {i = i} {g = g} {p = v} {cs = cs} p s q) = λ k b m.
      node_next (v.comments ++ cs) (node_with v.tag_offset i g (props_made u p) (props_some p) (plain_read b m q))
  reads (properties_alone {i = i} {j = j} {p = v} f p) = λ k b m.
      node_next v.comments (node_with v.tag_offset i j (props_made u p) (props_some p) (nothing_read b j))
  reads (a_json d) = λ k b m. reads d k b m
  reads (a_json_with {i = i} {g = g} {p = v} {cs = cs} p s d) = λ k b m.
      node_next (v.comments ++ cs) (node_with v.tag_offset i g (props_made u p) (props_some p) (reads d k b m))
  reads (a_single {i = i} {j = j} {x = x} q) = λ k b m. scalar_read Single (encode_utf8_all x) [] i j (single_utf8 u q) tt
  reads (a_double {i = i} {j = j} {x = x} q) = λ k b m. scalar_read Double (encode_utf8_all (text_of x)) (bad_escapes x) i j (double_utf8 u q) tt
  reads (an_empty_collection {i = i} {j = j} s {cs = cs} f e o g) = λ k b m. collection_read true i (j + 1) (none_of (b || true) s cs j)
  reads (a_collection {i = i} {j = j} s {c = c} {cs = cs} f e o d g) = λ k b m.
      collection_read true i (j + 1) (entries_after cs (reads d (in_flow_inside c k) (b || true)))
  reads (last_entry {cs = cs} d o) = λ k b. last_of (entry_noting cs (reads d k b))
  reads (last_entry_with_comma {cs = cs} {ds = ds} d o e q) = λ k b. last_of (entry_noting (cs ++ ds) (reads d k b))
  reads (more_entries {cs = cs} {ds = ds} d o e q r) = λ k b. more_of (entry_noting (cs ++ ds) (reads d k b)) (reads r k b)
  reads (a_node_entry {i = i} {c = c} d) = λ k b. an_item (node_entering i None (reads d (inside_not_block c k) b (λ _. k)))
  reads (a_pair_entry {i = i} {x = x} d) = λ k b. an_item (node_entering i None (collection_read true i x.finish (last_of (a_pair (reads d k (b || true))))))
  reads (an_explicit_entry {cs = cs} e s d) = λ k b. a_pair (pair_after cs (reads d k b))
  reads (an_implicit_entry d) = λ k b. a_pair (reads d k b)
  reads (an_explicit_pair {cs = cs} e s d) = λ k b. pair_after cs (reads d k b)
  reads (a_keyed_pair {i = i} {k = g} d v) = λ k b. pair_of (node_entering i (Some g) (reads d refl b (λ _. refl))) (reads v k b) (omega arith)
  reads (an_unkeyed_pair {i = i} v) = λ k b. pair_of (node_entering i (Some i) (nothing_read b i)) (reads v k b) (omega arith)
  reads (explicit_with d) = λ k b. reads d k b
  reads (explicit_without {s = s} f) = λ k b. pair_of (node_entering s None (nothing_read b (s + 1))) (nothing_read b (s + 1)) (omega arith)
  reads (key_alone {s = s} {c = c} {x = x} d) = λ k b. pair_of (node_entering s None (reads d (inside_not_block c k) b (λ _. k))) (nothing_read b x.finish) (omega arith)
  reads (key_and_value {s = s} {k = g} {c = c} {cs = cs} d o v) = λ k b.
      pair_of (node_noting cs (node_entering s (Some g) (reads d (inside_not_block c k) b (λ _. k)))) (reads v k b) (omega arith)
  reads (value_alone {s = s} {i = i} v) = λ k b. pair_of (node_entering s (Some i) (nothing_read b i)) (reads v k b) (omega arith)
  reads (empty_value {i = i} f e o) = λ k b. nothing_read b (i + 1)
  reads (a_value {c = c} cs e o s d) = λ k b. node_next cs (reads d (inside_not_block c k) b (λ _. k))
  reads (a_key d s o) = λ k b m. reads d k b m
  reads (a_block_scalar {cs = cs} b s d) = node_next cs (block_read d)
  reads (a_block_scalar_with {f = f} {g = g} {cs = cs} {ds = ds} {p = v} b s q r d) =
      node_next (cs ++ v.comments ++ ds) (node_with v.tag_offset f g (props_made u q) (props_some q) (block_read d))
  reads (a_block_collection {k = k} {m = m} {cs = cs} {x = x} b e s o d) = node_next cs (collection_read false (k + m) x.finish (reads d))
  reads (a_block_collection_with {f = f} {g = g} {k = k} {m = m} {cs = cs} {ds = ds} {p = v} {x = x} b s q e r o d) =
      node_next (cs ++ v.comments ++ ds) (node_with v.tag_offset f g (props_made u q) (props_some q) (collection_read false (k + m) x.finish (reads d)))
  reads (flow_in_block {cs = cs} {ds = ds} b s d e) = node_next cs (node_noting ds (reads d refl false (outside false)))
  reads (a_last_entry d) = last_of (reads d)
  reads (an_entry_before d s e) = more_of (reads d) (reads e)
  reads (a_dash_entry {i = i} e n d) = an_item (node_entering i None (reads d))
  reads (an_explicit_entry_with {m = m} {i = i} {k = k} e w d c r) = a_pair (pair_of (node_entering i (Some (k + m)) (reads d)) (reads r) (omega arith))
  reads (an_explicit_key_alone {i = i} {x = x} e w d c) = a_pair (pair_of (node_entering i None (reads d)) (nothing_read false x.finish) (omega arith))
  reads (a_keyed_entry {i = i} {k = k} d v) = a_pair (pair_of (node_entering i (Some k) (reads d refl false (outside false))) (reads v) (omega arith))
  reads (an_unkeyed_entry {i = i} v) = a_pair (pair_of (node_entering i (Some i) (nothing_read false i)) (reads v) (omega arith))
  reads (a_block_value e d) = reads d
  reads (an_empty_block_value {i = i} {cs = cs} e d) = node_noting cs (nothing_read false (i + 1))
  reads (a_compact_collection {l = l} {i = i} {x = x} b s d) = collection_read false (i + l) x.finish (reads d)
  reads (an_indented_node d) = reads d
  reads (nothing_indented {i = i} {cs = cs} b d) = node_noting cs (nothing_read false i)
