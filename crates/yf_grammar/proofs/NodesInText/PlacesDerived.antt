-- Each derived node is a tree whose nodes are in order in the text, and whose scalars are spelled there.
use Rattle.std.proofs.Common.{◌≡◌, ℕ, ℤ, ◌+◌, ◌<◌, ◌≤◌, Bool, true, false, List, [], ◌++◌, Some, None, refl, sym, ap, ◌∙◌, true≢false, arith}
use Rattle.std.specs.Prelude.{encode_utf8_all}
use Rattle.std.specs.Str.{IsUtf8}
use Rattle.yf_chars.specs.declared.context.Ctx.{Ctx}
use Rattle.yf_chars.specs.Text.{code}
use Rattle.yf_lines.specs.Basic.{is_block}
use Rattle.yf_comments.specs.Comment.{CommentValue}
use Rattle.yf_comments.specs.Comments.{Separate}
use Rattle.yf_props.specs.Names.{Properties, PropertiesValue}
use Rattle.yf_props.proofs.SeparationEnds.{separate_forward}
use Rattle.yf_quoted.specs.Quoted.{text_of, bad_escapes}
use Rattle.yf_events.specs.declared.event.ScalarStyle.TheVariants.{Plain, Single, Double}
use Rattle.yf_grammar.specs.Productions.Meaning.{Meaning, meaning_after, collection, with_props, entering}
use Rattle.yf_grammar.specs.Productions.Grammar.{Production, FlowNode, NodeOf, JsonContent, Entries, Entry, Pair, Explicit, Implicit, ValueOf, KeyOf, BlockNode, BlockEntries, BlockEntry, BlockIndented, BlockValue, Derives, opening}
use Rattle.yf_grammar.specs.Productions.Grammar.Derives.{flow_node, an_alias, a_plain, a_plain_with, properties_alone, a_json, a_json_with, a_single, a_double, an_empty_collection, a_collection, last_entry, last_entry_with_comma, more_entries, a_node_entry, a_pair_entry, an_explicit_entry, an_implicit_entry, an_explicit_pair, a_keyed_pair, an_unkeyed_pair, explicit_with, explicit_without, key_alone, key_and_value, value_alone, empty_value, a_value, a_key, a_block_scalar, a_block_scalar_with, a_block_collection, a_block_collection_with, flow_in_block, a_last_entry, an_entry_before, a_dash_entry, an_explicit_entry_with, an_explicit_key_alone, a_keyed_entry, an_unkeyed_entry, a_block_value, an_empty_block_value, a_compact_collection, an_indented_node, nothing_indented}
use Rattle.yf_grammar.proofs.BlockOutcomes.BlockStarts.{block_starts, line_end_forward}
use Rattle.yf_grammar.proofs.NodesInText.FinishLater.{finish_later}
use Rattle.yf_grammar.proofs.FlowReader.FlowStarts.{flow_starts, in_flow_not_block, may_forward, value_forward, may_line_forward, opening_begins}
use Rattle.yf_grammar.proofs.Ends.GapLemmas.{Visible}
use Rattle.yf_grammar.proofs.NodesInText.NodePlaces.{Begins, content_after, no_colon, a_colon}
use Rattle.yf_grammar.proofs.NodesInText.PlacedLeaves.{content_visible, properties_visible, plain_characters, single_plain, double_plain, properties_written, nothing_spelled, properties_spelled, block_properties_spelled, scalar_at, scalar_with, properties_at, alias_at}
use Rattle.yf_grammar.proofs.NodesInText.PlacedNodes.{NodeAt, PairAt, EntryAt, an_item, a_pair, EntriesAt, node_wider, node_next, node_noting, nothing_at, item_of, pair_of, pair_after, last_of, more_of, entry_noting, entries_after, entries_none, collection_at, collection_with, node_narrow, pair_narrow, pair_key_noting, entries_narrow, entries_end, entries_wider}
use Rattle.yf_grammar.proofs.NodesInText.PlacedScalars.{scalar_visible, block_scalar_at, block_scalar_with}
use Rattle.yf_grammar.proofs.FlowReader.PropertiesEnds.{properties_begin}
use Rattle.yf_grammar.proofs.FlowReader.QuotedEnds.{single_later, double_later}
use Rattle.yf_grammar.specs.FlowReader.Parser.{begins_content}
use Rattle.yf_grammar.proofs.NodesInText.NodePlaces.{by_style}
use Rattle.yf_props.proofs.NameOrder.{properties_forward}

-- a quoted scalar or a flow collection, without properties or with them
pub record ContentAt (t : List ℕ) (n : ℤ) (c : Ctx) (i j : ℕ) (x : Meaning) : Type 0 where
  pub alone : NodeAt t i j x
  pub propertied : (f g : ℕ) (p : PropertiesValue) (cs : List CommentValue) → Properties t n c f g p → Separate t n c g i cs
      → NodeAt t f j (meaning_after (p.comments ++ cs) (with_props p.props p.tag_offset f g x))

-- a block node, from its first character
pub record VisibleAt (t : List ℕ) (i j : ℕ) (x : Meaning) : Type 0 where
  pub from : ℕ
  pub begins : Begins t i from
  pub node : NodeAt t from j x

abbrev pub PlacesClaim : List ℕ → Production → ℕ → ℕ → Meaning → Type 0
PlacesClaim t (FlowNode n c) i j x = is_block c ≡ false → NodeAt t i j x
PlacesClaim t (NodeOf json n c) i j x = is_block c ≡ false → NodeAt t i j x
PlacesClaim t (JsonContent n c) i j x = is_block c ≡ false → ContentAt t n c i j x
PlacesClaim t (Entries s n c) i j x = is_block c ≡ false → EntriesAt t s i j x
PlacesClaim t (Entry s n c) i j x = is_block c ≡ false → EntryAt t s i j x
PlacesClaim t (Pair n c) i j x = is_block c ≡ false → PairAt t i j x
PlacesClaim t (Explicit n c s) i j x = is_block c ≡ false → s < i → Visible t s → PairAt t s j x
PlacesClaim t (Implicit n c s) i j x = is_block c ≡ false → s ≤ i → Visible t s → PairAt t s j x
PlacesClaim t (ValueOf json n c) i j x = is_block c ≡ false → NodeAt t i j x
PlacesClaim t (KeyOf json c) i j x = is_block c ≡ false → NodeAt t i j x
PlacesClaim t (BlockNode n c) i j x = VisibleAt t i j x
PlacesClaim t (BlockEntries s m) i j x = EntriesAt t s i j x
PlacesClaim t (BlockEntry s m) i j x = EntryAt t s i j x
PlacesClaim t (BlockIndented m c) i j x = NodeAt t i j x
PlacesClaim t (BlockValue m) i j x = NodeAt t i j x

module _ {t : List ℕ} where
  here : {i : ℕ} → Visible t i → Begins t i i
  here v = record { order = omega arith; visible = v }

  seen_before : {n : ℤ} {c : Ctx} {i j : ℕ} {p : PropertiesValue} → Properties t n c i j p → Visible t i
  seen_before p = properties_visible (properties_begin p)

  opening_seen : {i : ℕ} (s : Bool) → code t i ≡ opening s → Visible t i
  opening_seen s e = content_visible (ap begins_content e ∙ opening_begins s)

module _ {t : List ℕ} (u : IsUtf8 t) where
  -- flow collections, with properties or without
  brackets_at : {i k j : ℕ} {n : ℤ} {c : Ctx} {s : Bool} {x : Meaning} → is_block c ≡ false → code t i ≡ opening s → i ≤ k → i ≤ j → EntriesAt t s k j x
      → ContentAt t n c i (j + 1) (collection s true i (j + 1) x)
  brackets_at {i = i} {k = k} {s = s} b e l w a = record {
    alone = collection_at true nothing_spelled (here (opening_seen s e)) l (omega arith) (entries_wider a (omega arith)) (omega arith);
    propertied = λ f g p cs q r.
        let m = properties_forward q in
        let o = separate_forward r in
        node_next (p.comments ++ cs)
        (collection_with true p.props p.tag_offset g i (properties_spelled u b q) (here (seen_before q)) (omega arith) (omega arith)
        (λ z. content_after q r (ap begins_content e ∙ opening_begins s)) l (entries_wider a (omega arith)) (omega arith));
  }

  pub places : {h i j : ℕ} {p : Production} {x : Meaning} → Derives t h p i j x → PlacesClaim t p i j x
  places (flow_node d) = λ b. places d b
  places (an_alias {n = n} {c = c} f a) = λ b. let s = flow_starts (an_alias {n = n} f a) b in alias_at n c u f a s.starts.visible (omega (arith, s.starts.later))
  places (a_plain {n = n} {c = c} {x = x} p) = λ b.
      let s = (flow_starts (a_plain p) b).starts in scalar_at Plain (encode_utf8_all x) [] u (a_plain p) s.visible (omega (arith, s.later)) (plain_characters p)
  places (a_plain_with {g = g} {k = k} {p = v} {cs = cs} {x = x} p s q) = λ b.
      let f = (flow_starts (a_plain_with p s q) b).starts in
      scalar_with g k Plain (encode_utf8_all x) [] v.tag_offset (v.comments ++ cs) u (a_plain_with p s q) f.visible (omega (arith, f.later)) (properties_written p)
  places (properties_alone f p) = λ b. let l = properties_forward p in properties_at u f p (seen_before p) (omega arith)
  places (a_json d) = λ b. (places d b).alone
  places (a_json_with {i = i} {g = g} {p = v} {cs = cs} p s d) = λ b. (places d b).propertied i g v cs p s
  places (a_single {i = i} {j = j} {n = n} {c = c} {x = x} q) = λ b.
      let l = single_later b q in
      let v : Visible t i = content_visible (flow_starts (a_single q) b).content in
      record {
        alone = scalar_at Single (encode_utf8_all x) [] u (a_single q) v (omega arith) (by_style single_plain);
        propertied = λ f g p cs m r.
            let y = properties_forward m in
            let z = separate_forward r in
            scalar_with g i Single (encode_utf8_all x) [] p.tag_offset (p.comments ++ cs) u (a_json_with m r (a_single q)) (seen_before m) (omega arith) (properties_written m);
      }
  places (a_double {i = i} {j = j} {n = n} {c = c} {x = x} q) = λ b.
      let l = double_later b q in
      let v : Visible t i = content_visible (flow_starts (a_double q) b).content in
      record {
        alone = scalar_at Double (encode_utf8_all (text_of x)) (bad_escapes x) u (a_double q) v (omega arith) (by_style double_plain);
        propertied = λ f g p cs m r.
            let y = properties_forward m in
            let z = separate_forward r in
            scalar_with g i Double (encode_utf8_all (text_of x)) (bad_escapes x) p.tag_offset (p.comments ++ cs) u (a_json_with m r (a_double q)) (seen_before m) (omega arith) (properties_written m);
      }
  places (an_empty_collection {i = i} {j = j} s {cs = cs} f e m g) = λ b. let l = may_forward m in brackets_at {k = i + 1} b e (omega arith) (omega arith) (entries_none s cs (omega arith))
  places (a_collection s {c = c} {cs = cs} f e m d g) = λ b. let l = may_forward m in let w = (flow_starts d (in_flow_not_block c b)).later in brackets_at b e (omega arith) (omega arith) (entries_after cs (places d (in_flow_not_block c b)))
  places (last_entry {cs = cs} d m) = λ b. last_of (entry_noting cs (places d b)) (may_forward m)
  places (last_entry_with_comma {cs = cs} {ds = ds} d m e o) = λ b. let f = may_forward m in let g = may_forward o in last_of (entry_noting (cs ++ ds) (places d b)) (omega arith)
  places (more_entries {cs = cs} {ds = ds} d m e o r) = λ b. let f = may_forward m in let g = may_forward o in more_of (entry_noting (cs ++ ds) (places d b)) (omega arith) (places r b)
  places (a_node_entry d) = λ b. an_item (item_of (omega arith) (flow_starts d b).starts.visible (places d b))
  places (a_pair_entry d) = λ b.
      let a = places d b in
      an_item (item_of (omega arith) (flow_starts d b).visible (collection_at true nothing_spelled (here (flow_starts d b).visible) (omega arith) (finish_later u d b) (last_of (a_pair (pair_narrow a)) (omega arith)) a.ends))
  places (an_explicit_entry {cs = cs} e s d) = λ b. let l = separate_forward s in a_pair (pair_after cs (places d b (omega arith) (flow_starts (an_explicit_entry e s d) b).visible))
  places (an_implicit_entry d) = λ b. a_pair (places d b (omega arith) (flow_starts d b).visible)
  places (an_explicit_pair {cs = cs} e s d) = λ b. let l = separate_forward s in pair_after cs (places d b (omega arith) (flow_starts (an_explicit_pair e s d) b).visible)
  places (a_keyed_pair {k = k} d v) = λ b. pair_of (Some k) (omega arith) (flow_starts d refl).visible (places d refl) (a_colon (omega arith) (flow_starts v b).colon (omega arith)) (places v b)
  places (an_unkeyed_pair {i = i} v) = λ b. pair_of {k = i} (Some i) (omega arith) (flow_starts (an_unkeyed_pair v) b).visible (nothing_at (omega arith)) (a_colon (omega arith) (flow_starts v b).colon (omega arith)) (places v b)
  places (explicit_with d) = λ b l w. places d b (omega arith) w
  places (explicit_without {s = s} f) = λ b l w. pair_of {k = s + 1} None (omega arith) w (nothing_at (omega arith)) (no_colon (omega arith)) (nothing_at (omega arith))
  places (key_alone d) = λ b l w. let a = places d b in pair_of None l w (node_narrow a) (no_colon (omega arith)) (nothing_at a.ends)
  places (key_and_value {s = s} {k = k} {cs = cs} {x = x} {y = y} d m v) = λ b l w. let f = may_forward m in pair_key_noting (entering s (Some k) x) y cs (pair_of (Some k) l w (places d b) (a_colon f (flow_starts v b).colon (omega arith)) (places v b))
  places (value_alone {i = i} v) = λ b l w. pair_of {k = i} (Some i) l w (nothing_at (omega arith)) (a_colon (omega arith) (flow_starts v b).colon (omega arith)) (places v b)
  places (empty_value {i = i} f e m) = λ b. node_wider {j = i + 1} (omega arith) (nothing_at (omega arith)) (omega arith)
  places (a_value {i = i} {k = k} {json = json} {n = n} {c = c} cs e m s d) = λ b.
      let f = value_forward t n c (i + 1) k cs json s in node_next cs (node_wider (omega arith) (places d b) (omega arith))
  places (a_key d s l) = λ b. node_wider (omega arith) (places d b) (may_line_forward s)
  places (a_block_scalar {k = k} {cs = cs} b s d) =
      record { from = k; begins = record { order = separate_forward s; visible = scalar_visible d }; node = block_scalar_at u cs d (a_block_scalar b s d) }
  places (a_block_scalar_with {f = f} {g = g} {cs = cs} {ds = ds} {p = p} b s q r d) =
      let l = properties_forward q in
      let m = separate_forward r in
      record {
        from = f;
        begins = record { order = separate_forward s; visible = seen_before q };
        node = block_scalar_with u p.tag_offset g (cs ++ p.comments ++ ds) d (a_block_scalar_with b s q r d) (seen_before q) (omega arith) (properties_written q);
      }
  places (a_block_collection {k = k} {m = m} {cs = cs} b e s l d) =
      let f = line_end_forward e in
      let v = (block_starts d).visible in
      let a = places d in
      record {
        from = k + m;
        begins = record { order = omega arith; visible = v };
        node = node_next cs (collection_at false nothing_spelled (here v) (omega arith) (finish_later u d) (entries_narrow a) (entries_end a));
      }
  places (a_block_collection_with {f = f} {g = g} {k = k} {m = m} {cs = cs} {ds = ds} {p = p} b s q e r l d) =
      let x = properties_forward q in
      let y = line_end_forward e in
      let a = places d in
      record {
        from = f;
        begins = record { order = separate_forward s; visible = seen_before q };
        node = node_next (cs ++ p.comments ++ ds)
            (collection_with false p.props p.tag_offset g (k + m) (block_properties_spelled u b q) (here (seen_before q)) (omega arith) (finish_later u d)
            (λ z. absurd (true≢false (sym z))) (omega arith) (entries_narrow a) (entries_end a));
      }
  places (flow_in_block {k = k} {cs = cs} {ds = ds} b s d e) = record {
    from = k;
    begins = record { order = separate_forward s; visible = (flow_starts d refl).starts.visible };
    node = node_next cs (node_noting ds (node_wider (omega arith) (places d refl) (line_end_forward e)));
  }
  places (a_last_entry d) = last_of (places d) (omega arith)
  places (an_entry_before d s e) = more_of (places d) (omega arith) (places e)
  places (a_dash_entry e n d) = an_item (item_of (omega arith) (block_starts (a_dash_entry e n d)).visible (places d))
  places (an_explicit_entry_with {m = m} {k = k} e w d c r) =
      a_pair (pair_of (Some (k + m)) (omega arith) (block_starts (an_explicit_entry_with e w d c r)).visible (places d) (a_colon (omega arith) c.colon (omega arith)) (places r))
  places (an_explicit_key_alone e w d c) =
      let a = places d in a_pair (pair_of None (omega arith) (block_starts (an_explicit_key_alone e w d c)).visible (node_narrow a) (no_colon (omega arith)) (nothing_at a.ends))
  places (a_keyed_entry {k = k} d v) = a_pair (pair_of (Some k) (omega arith) (flow_starts d refl).visible (places d refl) (a_colon (omega arith) (block_starts v).colon (omega arith)) (places v))
  places (an_unkeyed_entry {i = i} v) = a_pair (pair_of {k = i} (Some i) (omega arith) (block_starts (an_unkeyed_entry v)).visible (nothing_at (omega arith)) (a_colon (omega arith) (block_starts v).colon (omega arith)) (places v))
  places (a_block_value e d) = let a = places d in node_wider (omega (arith, a.begins.order)) a.node (omega arith)
  places (an_empty_block_value {cs = cs} e d) = node_noting cs (node_wider (omega arith) (nothing_at (line_end_forward d)) (omega arith))
  places (a_compact_collection {l = l} {i = i} b s d) =
      let a = places d in
      collection_at false nothing_spelled (record { order = omega arith; visible = (block_starts d).visible }) (omega arith) (finish_later u d) (entries_narrow a) (entries_end a)
  places (an_indented_node d) = let a = places d in node_wider a.begins.order a.node (omega arith)
  places (nothing_indented {cs = cs} b d) = node_noting cs (nothing_at (line_end_forward d))
