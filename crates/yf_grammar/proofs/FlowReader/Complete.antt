-- The recursive reader is complete inside of flow collections: it finds each part that is derived there, before text
-- that can follow it.
use Rattle.std.proofs.Common.{◌≡◌, ℕ, ℤ, pos, suc, ◌+◌, Bool, true, false, List, Option, Some, None, refl, sym, ap, ◌∙◌, subst, arith}
use Rattle.std.specs.Str.{IsUtf8}
use Rattle.yf_chars.specs.declared.context.Ctx.{Ctx}
use Rattle.yf_chars.specs.declared.context.Ctx.TheVariants.{FlowKey}
use Rattle.yf_chars.specs.Text.{code}
use Rattle.yf_chars.proofs.Tests.{none_some}
use Rattle.yf_lines.specs.Basic.{is_block, is_key}
use Rattle.yf_lines.proofs.BasicLemmas.{clear_front, clear_back}
use Rattle.yf_props.proofs.SeparationEnds.{separate_forward}
use Rattle.yf_plain.specs.Kept.{is_inside}
use Rattle.yf_grammar.specs.Productions.Meaning.{Meaning, ◌⊕◌, entering, empty_node, collection}
use Rattle.yf_grammar.specs.Productions.Grammar.{Production, Derives, in_flow}
use Rattle.yf_grammar.specs.Productions.Grammar.Derives.{flow_node, an_alias, a_plain, a_plain_with, properties_alone, a_json, a_json_with, a_single, a_double, an_empty_collection, a_collection, last_entry, last_entry_with_comma, more_entries, a_node_entry, a_pair_entry, an_explicit_entry, an_implicit_entry, an_explicit_pair, a_keyed_pair, an_unkeyed_pair, explicit_with, explicit_without, key_alone, key_and_value, value_alone, empty_value, a_value, a_key, a_block_scalar, a_block_scalar_with, a_block_collection, a_block_collection_with, flow_in_block, a_last_entry, an_entry_before, a_dash_entry, an_explicit_entry_with, an_explicit_key_alone, a_keyed_entry, an_unkeyed_entry, a_block_value, an_empty_block_value, a_compact_collection, an_indented_node, nothing_indented}
use Rattle.yf_grammar.specs.FlowReader.Parser.{ParsedNode, found, ColonAt}
use Rattle.yf_grammar.proofs.FlowReader.FlowStarts.{flow_starts, in_flow_not_block, may_forward, value_forward}
use Rattle.yf_grammar.proofs.FlowReader.KeyLines.{key_line}
use Rattle.yf_grammar.proofs.FlowReader.ParserLemmas.{empty_collection}
use Rattle.yf_grammar.proofs.Ends.WiderLemmas.{inside_not_block, in_flow_inside, Wider, from_key, wider_in, wider_safe, wider_colon, wider_separate, wider_may, wider_properties, wider_plain, wider_single, wider_double, wider_value}
use Rattle.yf_grammar.proofs.Ends.NodeExits.{node_alias, node_content}
use Rattle.yf_grammar.proofs.FlowReader.NodeExact.{ending_followed, end_no_colon, stop_visible, plain_exact, plain_with_exact, alone_exact}
use Rattle.yf_grammar.proofs.FlowReader.ContentExact.{EntriesFound, reaches, single_exact, double_exact, collection_exact, no_entries}
use Rattle.yf_grammar.proofs.FlowReader.EntriesExact.{last_exact, more_exact}
use Rattle.yf_grammar.proofs.FlowReader.EntryExact.{exact_entry, mapping_entry, item_exact, pair_value_exact}
use Rattle.yf_grammar.proofs.FlowReader.ValueExact.{empty_exact}
use Rattle.yf_grammar.proofs.FlowReader.KeyExact.{lone_exact, key_alone_exact, key_value_exact, something_implicit}
use Rattle.yf_grammar.proofs.FlowReader.PairKeys.{no_key_before_end}
use Rattle.yf_grammar.proofs.FlowReader.CompleteSteps.{wider_not_block, stop_of_colon, closing_end, not_closing, comma_end, end_visible, wider_node, node_no_colon, sign_stuck, implicit_question, value_colon, no_node_at_end, json_with_exact, reaches_exact, nothing_found, comma_found, noting_twice, a_value_exact}
use Rattle.yf_grammar.proofs.FlowReader.CompleteClaims.{Claim, ending_at, followed_at, explicit_entry, explicit_pair, keyed_entry, entry_goes_on, nothing_is_at}
use Rattle.yf_props.proofs.NameOrder.{properties_forward}

wider_flow : {n m : ℤ} {c : Ctx} (d : Ctx) → is_inside d ≡ true → Wider n c m d → is_block c ≡ false
wider_flow d s w = wider_not_block w (inside_not_block d s)

wider_value_colon : {t : List ℕ} {n m : ℤ} {c d : Ctx} {json : Bool} {i : ℕ} → Wider n c m d → ColonAt t json c i → ColonAt t json d i
wider_value_colon {t} {json = json} {i = i} w q = record { colon = q.colon; follows = wider_colon json t (i + 1) w q.follows }

key_wider : {n : ℤ} {c : Ctx} (m : ℤ) (d : Ctx) → c ≡ FlowKey → is_inside d ≡ true → Wider n c m d
key_wider {n} m d e s = subst (λ v. Wider n v m d) (sym e) (from_key s)

key_flow : {c : Ctx} → c ≡ FlowKey → is_block c ≡ false
key_flow e = ap is_block e

key_key : {c : Ctx} → c ≡ FlowKey → is_key c ≡ true
key_key e = ap is_key e

entries_again : {o : Option ParsedNode} {j h : ℕ} {x y : Meaning} (z : Meaning) → x ≡ y → EntriesFound o j h (x ⊕ z) → EntriesFound o j h (y ⊕ z)
entries_again {o} {j} {h} z e f = subst (λ w. EntriesFound o j h (w ⊕ z)) e f

module _ {t : List ℕ} (u : IsUtf8 t) where
  pub complete : {h i j : ℕ} {p : Production} {x : Meaning} → Derives t h p i j x → Claim t h p i j x
  complete (flow_node {json = json} d) = λ m b s w k f e l o r. (json, complete d m b s w k (ending_followed json f) e l o r)
  complete (an_alias y a) = λ m b s w k f e l o r. node_alias a r
  complete (a_plain p) = λ m b s w k f e l o r. plain_exact u s (wider_plain w p) k f r
  complete (a_plain_with q z p) = λ m b s w k f e l o r.
      let a = properties_forward q in
      let g = separate_forward z in
      plain_with_exact u s (wider_properties w q) (wider_separate w z) (wider_plain w p) (clear_back (omega arith) k) f r
  complete (properties_alone y q) = λ m b s w k f e l o r. alone_exact u (wider_properties w q) f r
  complete (a_json {h = h} {j = j} {x = x} d) = λ m b s w k f e l o r.
      node_content (λ q. q ≡ found j h true x) (flow_starts d (wider_flow b s w)).content
      (λ q p. reaches_exact f (complete d m b (inside_not_block b s) w k e l q p)) r
  complete (a_json_with {h = h} {j = j} {x = x} q z d) = λ m b s w k f e l o r.
      let a = properties_forward q in
      let g = separate_forward z in
      let c = wider_flow b s w in
      json_with_exact j h x u (wider_properties w q) (wider_separate w z) (flow_starts (a_json d) c).starts.visible (flow_starts d c).content
      (λ y p. reaches_exact f (complete d m b (inside_not_block b s) w (clear_back (omega arith) k) e l y p)) r
  complete (a_single q) = λ m b s w k e l o r. single_exact s (wider_single u w q) r
  complete (a_double q) = λ m b s w k e l o r. double_exact s (wider_double u w q) r
  complete (an_empty_collection {i = i} {j = j} a {cs = cs} y q z g) = λ m b s w k e l o r.
      reaches (collection_exact a q (wider_may w z) (end_visible j (closing_end a (code t j) g)) l (λ v o n p. nothing_found j (no_entries g p)) r
      ∙ ap (found (j + 1) 1 true) (sym (empty_collection a i (j + 1) j cs)))
  complete (a_collection a {c = c} y q z d g) = λ m b s w k e l o r.
      let f = may_forward z in
      let st = flow_starts d (in_flow_not_block c (wider_not_block w s)) in
      let n = st.later in
      reaches (collection_exact a q (wider_may w z) st.visible l
      (λ v o n p. complete d m (in_flow b) (in_flow_inside b s) (wider_in w) (clear_front (omega arith) (clear_back (omega arith) k)) g v n o p) r)
  complete (last_entry {i = i} {j = j} {sequence = a} {cs = cs} d y) = λ m b s w k g e l o r.
      last_exact (not_closing a (code t i) (flow_starts d (wider_flow b s w)).no_end) g
      (λ q p. complete d m b s w (clear_front (may_forward y) k) j cs (wider_may w y) (closing_end a (code t j) g) e l q p) r
  complete (last_entry_with_comma {i = i} {l = v} {j = j} {sequence = a} {cs = cs} {ds = ds} {x = x} d y z n) = λ m b s w k g e l o r.
      let f = may_forward y in
      let follows = may_forward n in
      comma_found x cs ds (more_exact (not_closing a (code t i) (flow_starts d (wider_flow b s w)).no_end) z (wider_may w n) (end_visible j (closing_end a (code t j) g))
      (λ q p. complete d m b s w (clear_front (omega arith) k) v cs (wider_may w y) (comma_end (code t v) z) e l q p)
      (λ q p. nothing_found j (no_entries g p)) r)
  complete (more_entries {i = i} {l = v} {sequence = a} {cs = cs} {ds = ds} {x = x} {y = last} d y z n r') = λ m b s w k g e l o r.
      let f = may_forward y in
      let follows = may_forward n in
      let c = wider_flow b s w in
      let st = flow_starts r' c in
      let first = (flow_starts d c).later in
      let others = st.later in
      entries_again last (noting_twice x cs ds) (more_exact (not_closing a (code t i) (flow_starts d c).no_end) z (wider_may w n) st.visible
      (λ q p. complete d m b s w (clear_front (omega arith) k) v cs (wider_may w y) (comma_end (code t v) z) e (omega arith) q p)
      (λ q p. complete r' m b s w (clear_back (omega arith) k) g e (omega arith) q p) r)
  complete (a_node_entry {h = h} {i = i} {j = j} {x = x} d) = λ m b s w k l cs y v e n o r.
      let st = wider_node w (flow_starts d (wider_flow b s w)) in
      let a = item_exact j h x (sign_stuck b i u st.question) (node_no_colon st) (λ f z q p. no_key_before_end y v q p)
      (λ q p. complete d m b s w k (ending_at y v) e n q p) r in
      exact_entry j h a.0 (entering i None x) y (end_visible l v) a.1
  complete (a_pair_entry d) = λ m b s w k l cs y v e n o r. complete d m b s w k l cs y v e n o r
  complete (an_explicit_entry q z d) = λ m b s w k l cs y v e n o r.
      let f = separate_forward z in
      explicit_entry u (complete d m b s w) q (wider_separate w z) (clear_back (omega arith) k) y v n r
  complete (an_implicit_entry {h = h} {i = i} {j = j} {x = x} d) = λ m b s w k l cs y v e n o r.
      let c = wider_flow b s w in
      let a = complete d m b s w k (ending_at y v) e n o
      (mapping_entry (sign_stuck b i u (λ q. sym (wider_safe (code t (i + 1)) w) ∙ implicit_question c d q)) r) in
      exact_entry j h a.0 x y (end_visible l v) a.1
  complete (an_explicit_pair q z d) = λ m b s w k l cs y v e n o r.
      let f = separate_forward z in
      explicit_pair u (complete d m b s w) q (wider_separate w z) (clear_back (omega arith) k) y v n r
  complete (a_keyed_pair {g = g} {j = j} {y = y} d v) = λ m b s w k l cs z f e n o r.
      let c = wider_flow b s w in
      let first = (flow_starts d refl).later in
      let last = (flow_starts v c).later in
      keyed_entry u j g y s (complete d refl) (wider_value_colon w (value_colon v)) (clear_front (omega arith) k)
      (λ a q o p. complete v m b s w (clear_back (omega arith) k) (ending_at z f) a q o p) z f n r
  complete (an_unkeyed_pair {h = h} {i = i} {j = j} {x = x} v) = λ m b s w k l cs z f e n o r.
      let y = entering i (Some i) (empty_node i) ⊕ x in
      let p = pair_value_exact j h x (wider_value_colon w (value_colon v)) n (λ a o q p. complete v m b s w k (ending_at z f) a q o p) r in
      exact_entry j (suc h) false (entering i None (collection false true i y.finish y)) z (end_visible l f) p
  complete (explicit_with d) = λ m b s w.
      let st = flow_starts d (wider_flow b s w) in
      entry_goes_on st.visible st.no_end (λ k f e l o r. complete d m b s w k f e l o (something_implicit st.no_end r))
  complete (explicit_without y) = λ m b s w. nothing_is_at
  complete (key_alone {h = h} {j = j} {json = json} {x = x} d) = λ m b s w k f e l o r.
      let st = wider_node w (flow_starts d (wider_flow b s w)) in
      key_alone_exact j h json x (node_no_colon st) f.gap (end_visible f.place f.ends) (end_no_colon (code t f.place) f.ends)
      (λ q p. complete d m b s w k (ending_followed json f) e l q p) r
  complete (key_and_value {h = h} {g = g} {k = a} {j = j} {json = json} {x = x} {y = y} d z v) = λ m b s w k f e l o r.
      let c = wider_flow b s w in
      let st = wider_node w (flow_starts d c) in
      let q = wider_value_colon w (value_colon v) in
      let first = st.starts.later in
      let between = may_forward z in
      let last = (flow_starts v c).later in (
        false,
        key_value_exact j h g json x y (node_no_colon st) (wider_may w z) (stop_visible a (stop_of_colon (code t a) q.colon)) q
            (λ n p. complete d m b s w (clear_front (omega arith) k) (followed_at (wider_may w z) q) e (omega arith) n p)
            (λ n p. complete v m b s w (clear_back (omega arith) k) f e (omega arith) n p) r,
      )
  complete (value_alone {h = h} {j = j} {x = x} v) = λ m b s w k f e l o r.
      lone_exact j h x (wider_value_colon w (value_colon v)) (λ n p. complete v m b s w k f e l n p) r
  complete (empty_value y q z) = λ m b s w k f e l o r.
      (false, empty_exact f.gap (end_visible f.place f.ends) (λ g p. none_some (sym (no_node_at_end f.ends p))) r)
  complete (a_value {h = h} {i = i} {k = a} {j = j} {json = json} {n = n} {c = c} cs {x = x} q z y d) = λ m b s w k f e l o r.
      let g = value_forward t n c (i + 1) a cs json y in
      a_value_exact json cs j h x u q (wider_value t (i + 1) a cs json w y) (flow_starts d (wider_flow b s w)).starts.visible
      (λ v p. complete d m b s w (clear_back (omega arith) k) f e l v p) r
  complete (a_key {k = k} d y z) = λ q. record {
    node_end = k;
    separation = y;
    short = z;
    line = key_line u (a_key d y z) (key_key q);
    starts = λ m b s. wider_node (key_wider {n = pos 0} m b q s) (flow_starts d (key_flow q));
    exact = λ m b s c f e l o r. complete d m b s (key_wider m b q s) c f e l o r;
  }
  complete (a_block_scalar _ _ _) = tt
  complete (a_block_scalar_with _ _ _ _ _) = tt
  complete (a_block_collection _ _ _ _ _) = tt
  complete (a_block_collection_with _ _ _ _ _ _ _) = tt
  complete (flow_in_block _ _ _ _) = tt
  complete (a_last_entry _) = tt
  complete (an_entry_before _ _ _) = tt
  complete (a_dash_entry _ _ _) = tt
  complete (an_explicit_entry_with _ _ _ _ _) = tt
  complete (an_explicit_key_alone _ _ _ _) = tt
  complete (a_keyed_entry _ _) = tt
  complete (an_unkeyed_entry _) = tt
  complete (a_block_value _ _) = tt
  complete (an_empty_block_value _ _) = tt
  complete (a_compact_collection _ _ _) = tt
  complete (an_indented_node _) = tt
  complete (nothing_indented _ _) = tt
