-- Flow nodes with properties, and so all flow nodes, as block nodes: the reader's outcomes for them, and how far it
-- reaches.
use Rattle.std.proofs.Common.{◌≡◌, ℕ, ◌<◌, ◌≤◌, ℤ, pos, ◌+ℤ◌, Bool, true, false, List, ◌++◌, Option, refl, sym, ap, ◌∙◌, arith, append_assoc}
use Rattle.std.specs.Str.{IsUtf8}
use Rattle.yf_chars.specs.declared.context.Ctx.{Ctx}
use Rattle.yf_chars.specs.declared.context.Ctx.TheVariants.{FlowOut, FlowKey}
use Rattle.yf_lines.specs.Basic.{Clear}
use Rattle.yf_lines.proofs.BasicLemmas.{clear_front, clear_back}
use Rattle.yf_comments.specs.Comment.{CommentValue}
use Rattle.yf_comments.specs.Comments.{LineEnd, Separate}
use Rattle.yf_props.specs.Names.{Properties, PropertiesValue}
use Rattle.yf_props.proofs.SeparationEnds.{separate_forward}
use Rattle.yf_props.specs.Props.{PropsValue}
use Rattle.yf_grammar.specs.Productions.Meaning.{Meaning, meaning_after, noting, with_props, empty_node}
use Rattle.yf_grammar.specs.Productions.Grammar.{NodeOf, FlowNode, Derives}
use Rattle.yf_grammar.specs.Productions.Grammar.Derives.{flow_node, an_alias, a_plain, a_plain_with, properties_alone, a_json, a_json_with}
use Rattle.yf_grammar.specs.FlowReader.Parser.{found}
use Rattle.yf_grammar.specs.BlockReader.BlockParser.{PropertiesHeld, Props, headed, alone, MayLeaf}
use Rattle.yf_grammar.proofs.Ends.BlankRuns.{no_start_past}
use Rattle.yf_grammar.proofs.BlockOutcomes.NodesAfter.{properties_after}
use Rattle.yf_grammar.proofs.FlowReader.PropertiesEnds.{properties_begin}
use Rattle.yf_grammar.proofs.Ends.WiderLemmas.{key_properties}
use Rattle.yf_grammar.proofs.BlockOutcomes.BlockClaims.{NodeExact, NodeHaltsReach}
use Rattle.yf_grammar.proofs.BlockOutcomes.BlockEmpty.{MayBeAlone, alone_exact, alone_reached}
use Rattle.yf_grammar.proofs.BlockOutcomes.BlockGaps.{rows_order}
use Rattle.yf_grammar.proofs.BlockOutcomes.BlockItems.{never_none, longest_some}
use Rattle.yf_grammar.proofs.BlockContent.BlockLeaves.{gap_exact, gap_longest}
use Rattle.yf_grammar.proofs.BlockContent.FlowLeaves.{BareNode, bare_alias, bare_plain, bare_content, bare_no_properties, bare_leaf, plain_may_leaf, content_may_leaf}
use Rattle.yf_grammar.proofs.BlockContent.LeafHalts.{bare_leaf_reached}
use Rattle.yf_grammar.proofs.BlockContent.BareNodes.{bare_starts, bare_no_sign, bare_not_key, bare_owed, bare_halting}
use Rattle.yf_grammar.proofs.BlockContent.InlineViews.{NotKey, whole_reads, halts_reads}
use Rattle.yf_grammar.proofs.BlockContent.LeafKeys.{node_no_key}
use Rattle.yf_grammar.proofs.BlockOutcomes.OutcomeMade.{found_moved, longest_moved, headed_unheld}
use Rattle.yf_grammar.proofs.BlockContent.PropertiesLines.{held}
use Rattle.yf_grammar.proofs.BlockContent.PropertiesWalk.{begins_visible, to_line_end, to_leaf}
use Rattle.yf_grammar.proofs.FlowStack.AwaitEntries.{found_is}
use Rattle.yf_props.proofs.NameOrder.{properties_forward}

-- comments after a node with properties are those after the node
pub noting_with : (es ds : List CommentValue) (props : PropsValue) (tag : Option ℕ) (f g : ℕ) (x : Meaning)
    → noting (meaning_after es (with_props props tag f g x)) ds ≡ meaning_after es (with_props props tag f g (noting x ds))
unfolding noting meaning_after with_props
noting_with es ds props tag f g x = ap (λ w. record (with_props props tag f g x) { comments = w }) (append_assoc es x.comments ds)

alone_held : (p : PropertiesValue) (f g k : ℕ) (ds : List CommentValue)
    → alone (Props (held p f g)) k ds ≡ found k 0 false (noting (meaning_after p.comments (with_props p.props p.tag_offset f g (empty_node g))) ds)
unfolding alone headed
alone_held p f g k ds = refl

held_alone : (p : PropertiesValue) (f g : ℕ) → MayBeAlone (Props (held p f g)) (λ ds. noting (meaning_after p.comments (with_props p.props p.tag_offset f g (empty_node g))) ds)
held_alone p f g = record {
  answer = λ k ds. record { end = k; height = 0; json = false; meaning = noting (meaning_after p.comments (with_props p.props p.tag_offset f g (empty_node g))) ds };
  is = λ k ds. alone_held p f g k ds ∙ found_is k 0 false (noting (meaning_after p.comments (with_props p.props p.tag_offset f g (empty_node g))) ds);
  ends = λ k ds. refl;
  means = λ k ds. refl;
}

-- a bare node that may follow properties, and is a node with them
record Propertied (t : List ℕ) (n : ℤ) (h g m l : ℕ) (x : Meaning) : Type 0 where
  bare : BareNode t n h m l x
  may : (v : PropertiesHeld) → MayLeaf t (Props v) m
  with : (k : ℕ) (p : PropertiesValue) → Properties t n FlowOut k g p → (json : Bool) × (y : Meaning) × Derives t h (NodeOf json n FlowOut) k l y

module _ {t : List ℕ} (u : IsUtf8 t) where
  not_key_from : {e h g m l j f : ℕ} {n : ℤ} {x : Meaning} {ds : List CommentValue} → Propertied t (n +ℤ pos 1) h g m l x → LineEnd t l j ds → Clear t f l → h ≤ e
      → (k : ℕ) (q : PropertiesValue) → f ≤ k → Properties t (pos 0) FlowKey k g q → NotKey t e n k
  not_key_from {n = n} b d c le k q fk p = node_no_key u (b.with k q (key_properties (n +ℤ pos 1) FlowOut refl p)).2 d (clear_back fk c) le

  with_owed : {h i k g m l j : ℕ} {n : ℤ} {c : Ctx} {cs es ds : List CommentValue} {p : PropertiesValue} {x : Meaning} → Separate t (n +ℤ pos 1) FlowOut i k cs
      → Properties t (n +ℤ pos 1) FlowOut k g p → Separate t (n +ℤ pos 1) FlowOut g m es → Propertied t (n +ℤ pos 1) h g m l x → LineEnd t l j ds
      → NodeExact t false h n c i j (meaning_after cs (noting (meaning_after (p.comments ++ es) (with_props p.props p.tag_offset k g x)) ds))
  with_owed {h} {i} {k} {g} {m} {l} {j} {n} {c} {cs} {es} {ds} {p} {x} s q v b d e le z follow flag a y o r =
      let body = noting (meaning_after (p.comments ++ es) (with_props p.props p.tag_offset k g x)) ds in
      let x1 : i ≤ k = separate_forward s in
      let x2 : k < g = properties_forward q in
      let x3 : g ≤ m = separate_forward v in
      let st = bare_starts b.bare in
      let x4 : m < l = st.later in
      let x5 : l ≤ j = rows_order d in
      let all = clear_back x1 z in
      let inner = clear_front x5 all in
      let leaf = clear_back {i = k} {j = m} {k = l} (omega arith) inner in
      gap_exact body FlowOut refl s (begins_visible (properties_begin q)) z (omega arith) y
      (λ cols a' n' r' w'. to_leaf u (whole_reads (λ i. never_none i)) FlowOut refl q v st.visible (bare_no_properties b.bare) (bare_no_sign b.bare) (bare_not_key u b.bare leaf le d)
      (λ k' q' m' p'. not_key_from b d inner le k' q' m' p') n' all (omega arith) w'
      (λ w i r'' l'. found_moved refl (i.is (noting x ds) ∙ sym (noting_with (p.comments ++ es) ds p.props p.tag_offset k g x) ∙ sym (headed_unheld body n'))
      (bare_leaf u b.bare leaf le d (follow.still refl) follow.shallow (b.may w) l'))) r

  with_halting : {h i k g m l j : ℕ} {n : ℤ} {c : Ctx} {cs es ds : List CommentValue} {p : PropertiesValue} {x : Meaning} → Separate t (n +ℤ pos 1) FlowOut i k cs
      → Properties t (n +ℤ pos 1) FlowOut k g p → Separate t (n +ℤ pos 1) FlowOut g m es → Propertied t (n +ℤ pos 1) h g m l x → LineEnd t l j ds
      → NodeHaltsReach t h n c i j (meaning_after cs (noting (meaning_after (p.comments ++ es) (with_props p.props p.tag_offset k g x)) ds))
  with_halting {h} {i} {k} {g} {m} {l} {j} {n} {c} {cs} {es} {ds} {p} {x} s q v b d e le z flag a y ws allowed o r =
      let body = noting (meaning_after (p.comments ++ es) (with_props p.props p.tag_offset k g x)) ds in
      let x1 : i ≤ k = separate_forward s in
      let x2 : k < g = properties_forward q in
      let x3 : g ≤ m = separate_forward v in
      let st = bare_starts b.bare in
      let x4 : m < l = st.later in
      let x5 : l ≤ j = rows_order d in
      let all = clear_back x1 z in
      let inner = clear_front x5 all in
      let leaf = clear_back {i = k} {j = m} {k = l} (omega arith) inner in
      gap_longest body FlowOut refl s (begins_visible (properties_begin q)) z (omega arith) y
      (λ cols a' n' r' w'. to_leaf u (halts_reads (λ i. longest_some i refl) ws) FlowOut refl q v st.visible (bare_no_properties b.bare) (bare_no_sign b.bare) (bare_not_key u b.bare leaf le d)
      (λ k' q' m' p'. not_key_from b d inner le k' q' m' p') n' all (omega arith) w'
      (λ w i r'' l'. longest_moved (i.is (noting x ds) ∙ sym (noting_with (p.comments ++ es) ds p.props p.tag_offset k g x) ∙ sym (headed_unheld body n'))
      (bare_leaf_reached u b.bare leaf le (record { line = d; allowed = allowed }) (b.may w) l'))) r

  alone_owed : {i k l j : ℕ} {n : ℤ} {c : Ctx} {cs ds : List CommentValue} {p : PropertiesValue} → Separate t (n +ℤ pos 1) FlowOut i k cs
      → Properties t (n +ℤ pos 1) FlowOut k l p → LineEnd t l j ds
      → NodeExact t false 0 n c i j (meaning_after cs (noting (meaning_after p.comments (with_props p.props p.tag_offset k l (empty_node l))) ds))
  alone_owed {i} {k} {l} {j} {n} {c} {cs} {ds} {p} s q d e le z follow flag a y o r =
      let body = noting (meaning_after p.comments (with_props p.props p.tag_offset k l (empty_node l))) ds in
      let x1 : i ≤ k = separate_forward s in
      let x2 : k < l = properties_forward q in
      let x5 : l ≤ j = rows_order d in
      gap_exact body FlowOut refl s (begins_visible (properties_begin q)) z (omega arith) y
      (λ cols a' n' r' w'. to_line_end u (whole_reads (λ i. never_none i)) FlowOut refl q d n' (clear_back x1 z) x5 w'
      (λ r'' l'. found_moved refl (sym (headed_unheld body n'))
      (record { is = alone_exact (λ g. no_start_past u (properties_after u q) g) d follow l' ∙ alone_held p k l j ds }))) r

  alone_halting : {i k l j : ℕ} {n : ℤ} {c : Ctx} {cs ds : List CommentValue} {p : PropertiesValue} → Separate t (n +ℤ pos 1) FlowOut i k cs
      → Properties t (n +ℤ pos 1) FlowOut k l p → LineEnd t l j ds
      → NodeHaltsReach t 0 n c i j (meaning_after cs (noting (meaning_after p.comments (with_props p.props p.tag_offset k l (empty_node l))) ds))
  alone_halting {i} {k} {l} {j} {n} {c} {cs} {ds} {p} s q d e le z flag a y ws allowed o r =
      let body = noting (meaning_after p.comments (with_props p.props p.tag_offset k l (empty_node l))) ds in
      let x1 : i ≤ k = separate_forward s in
      let x2 : k < l = properties_forward q in
      let x5 : l ≤ j = rows_order d in
      gap_longest body FlowOut refl s (begins_visible (properties_begin q)) z (omega arith) y
      (λ cols a' n' r' w'. to_line_end u (halts_reads (λ i. longest_some i refl) ws) FlowOut refl q d n' (clear_back x1 z) x5 w'
      (λ r'' l'. longest_moved (sym (headed_unheld body n')) (alone_reached (held_alone p k l) d allowed l'))) r

  -- all flow nodes
  node_owed : {h i k l j : ℕ} {n : ℤ} {c : Ctx} {cs ds : List CommentValue} {json : Bool} {x : Meaning} → Separate t (n +ℤ pos 1) FlowOut i k cs
      → Derives t h (NodeOf json (n +ℤ pos 1) FlowOut) k l x → LineEnd t l j ds → NodeExact t false h n c i j (meaning_after cs (noting x ds))
  node_owed s (an_alias b a) d = bare_owed u s (bare_alias a) d
  node_owed s (a_plain p) d = bare_owed u s (bare_plain p) d
  node_owed s (a_plain_with q v p) d = with_owed s q v (record { bare = bare_plain p; may = λ w. plain_may_leaf (Props w) p; with = λ k z y. (false, _, a_plain_with y v p) }) d
  node_owed s (properties_alone b q) d = alone_owed s q d
  node_owed s (a_json b) d = bare_owed u s (bare_content b) d
  node_owed s (a_json_with q v b) d = with_owed s q v (record { bare = bare_content b; may = λ w. content_may_leaf (Props w) b; with = λ k z y. (true, _, a_json_with y v b) }) d

  node_halting : {h i k l j : ℕ} {n : ℤ} {c : Ctx} {cs ds : List CommentValue} {json : Bool} {x : Meaning} → Separate t (n +ℤ pos 1) FlowOut i k cs
      → Derives t h (NodeOf json (n +ℤ pos 1) FlowOut) k l x → LineEnd t l j ds → NodeHaltsReach t h n c i j (meaning_after cs (noting x ds))
  node_halting s (an_alias b a) d = bare_halting u s (bare_alias a) d
  node_halting s (a_plain p) d = bare_halting u s (bare_plain p) d
  node_halting s (a_plain_with q v p) d = with_halting s q v (record { bare = bare_plain p; may = λ w. plain_may_leaf (Props w) p; with = λ k z y. (false, _, a_plain_with y v p) }) d
  node_halting s (properties_alone b q) d = alone_halting s q d
  node_halting s (a_json b) d = bare_halting u s (bare_content b) d
  node_halting s (a_json_with q v b) d = with_halting s q v (record { bare = bare_content b; may = λ w. content_may_leaf (Props w) b; with = λ k z y. (true, _, a_json_with y v b) }) d

  pub flow_owed : {h i k l j : ℕ} {n : ℤ} {c : Ctx} {cs ds : List CommentValue} {x : Meaning} → Separate t (n +ℤ pos 1) FlowOut i k cs
      → Derives t h (FlowNode (n +ℤ pos 1) FlowOut) k l x → LineEnd t l j ds → NodeExact t false h n c i j (meaning_after cs (noting x ds))
  flow_owed s (flow_node b) d = node_owed s b d

  pub flow_halting : {h i k l j : ℕ} {n : ℤ} {c : Ctx} {cs ds : List CommentValue} {x : Meaning} → Separate t (n +ℤ pos 1) FlowOut i k cs
      → Derives t h (FlowNode (n +ℤ pos 1) FlowOut) k l x → LineEnd t l j ds → NodeHaltsReach t h n c i j (meaning_after cs (noting x ds))
  flow_halting s (flow_node b) d = node_halting s b d
