-- Block scalars and block collections with properties: the reader's outcomes for them, and how far it reaches.
use Rattle.std.proofs.Common.{◌≡◌, ℕ, suc, ◌+◌, ◌<◌, ◌≤◌, ℤ, pos, ◌+ℤ◌, ◌≤ℤ◌, Bool, true, false, List, ◌++◌, Option, Some, refl, sym, ap, ◌∙◌, subst, arith, append_assoc, true≢false}
use Rattle.std.specs.Str.{IsUtf8}
use Rattle.yf_chars.specs.declared.context.Ctx.{Ctx}
use Rattle.yf_chars.specs.declared.context.Ctx.TheVariants.{FlowOut, FlowKey}
use Rattle.yf_chars.specs.Text.{code}
use Rattle.yf_chars.specs.Class.{is_white}
use Rattle.yf_chars.specs.Chain.{Many}
use Rattle.yf_chars.proofs.ChainLemmas.{many_unique}
use Rattle.yf_lines.specs.Basic.{is_block, is_key, Spaces}
use Rattle.yf_lines.proofs.BasicLemmas.{clear_back}
use Rattle.yf_comments.specs.Comment.{CommentValue}
use Rattle.yf_comments.specs.Comments.{LineEnd, Separate, SeparateLines}
use Rattle.yf_comments.specs.Comments.Separate.{in_node}
use Rattle.yf_comments.specs.Comments.SeparateLines.{in_line, over_lines}
use Rattle.yf_comments.proofs.RowLemmas.{separate_whites}
use Rattle.yf_props.specs.Names.{Properties, PropertiesValue}
use Rattle.yf_props.proofs.SeparationEnds.{separate_forward}
use Rattle.yf_grammar.specs.Productions.BlockScalar.{BlockScalar}
use Rattle.yf_grammar.specs.Productions.Meaning.{Meaning, meaning_after, with_props, collection}
use Rattle.yf_grammar.specs.Productions.Grammar.{BlockEntries, Derives, least_column}
use Rattle.yf_grammar.specs.Productions.Grammar.MaySeparate.{separated}
use Rattle.yf_grammar.specs.FlowReader.Parser.{ParsedNode, Parses, ANode, begins_properties, begins_content}
use Rattle.yf_grammar.specs.BlockReader.BlockParser.{KeyBefore, Props, headed, past}
use Rattle.yf_grammar.proofs.Ends.GapLemmas.{Visible, separate_is}
use Rattle.yf_grammar.proofs.FlowReader.Longest.{Longest}
use Rattle.yf_grammar.proofs.Ends.NodeExits.{some_found, past_properties, PastProperties, past_to_content, past_to_plain, past_to_nothing, past_to_broken, past_to_other}
use Rattle.yf_grammar.proofs.FlowReader.NodeExact.{lone_is}
use Rattle.yf_grammar.proofs.BlockOutcomes.NodesAfter.{properties_after}
use Rattle.yf_grammar.proofs.FlowReader.PlainEnds.{plain_leaps}
use Rattle.yf_grammar.proofs.FlowReader.PropertiesEnds.{properties_before, properties_begin}
use Rattle.yf_grammar.proofs.Ends.WiderLemmas.{key_properties}
use Rattle.yf_grammar.proofs.BlockOutcomes.BlockClaims.{IsFound, NodeExact, NodeHaltsReach, EntriesExact, EntryHaltsReach, visible_white}
use Rattle.yf_grammar.proofs.BlockOutcomes.BlockFirst.{colon_visible, no_line_end_before}
use Rattle.yf_grammar.proofs.BlockOutcomes.BlockGaps.{block_no_key, rows_order}
use Rattle.yf_grammar.proofs.BlockOutcomes.BlockItems.{never_none, longest_some}
use Rattle.yf_grammar.proofs.BlockContent.BlockLeaves.{gap_exact, gap_longest, longest_found}
use Rattle.yf_grammar.proofs.BlockOutcomes.BlockNodes.{OutcomeAfter, ToldLongest, below_collection, below_collection_reached}
use Rattle.yf_grammar.proofs.BlockContent.BlockScalars.{is_bar_sign, sign_begins, sign_others, sign_no_first, scalar_sign, no_flow_node, scalar_visible, scalar_leaf, scalar_leaf_halts}
use Rattle.yf_grammar.proofs.BlockOutcomes.BlockStarts.{block_starts, scalar_later}
use Rattle.yf_grammar.proofs.BlockContent.InlineViews.{NotKey, NoSignAt, whole_reads, halts_reads, past_props, told_props}
use Rattle.yf_grammar.proofs.BlockOutcomes.OutcomeMade.{found_moved, longest_moved, headed_unheld}
use Rattle.yf_grammar.proofs.BlockContent.PropertiesLines.{held, in_lines}
use Rattle.yf_grammar.proofs.BlockContent.PropertiesWalk.{held_with, begins_visible, to_line_end, to_leaf}
use Rattle.yf_chars.proofs.Tests.{not_true, none_some}
use Rattle.yf_props.proofs.NameOrder.{properties_forward}

-- comments before comments
pub after_after : (cs ds : List CommentValue) (x : Meaning) → meaning_after cs (meaning_after ds x) ≡ meaning_after (cs ++ ds) x
unfolding meaning_after
after_after cs ds x = ap (λ w. record x { comments = w }) (sym (append_assoc cs ds x.comments))

pub three_after : (cs ps ds : List CommentValue) (x : Meaning) → meaning_after cs (meaning_after (ps ++ ds) x) ≡ meaning_after (cs ++ ps ++ ds) x
three_after cs ps ds x = after_after cs (ps ++ ds) x ∙ ap (λ w. meaning_after w x) (sym (append_assoc cs ps ds))

module _ {t : List ℕ} where
  -- a separation outside of keys, in each context
  pub any_context : {n : ℤ} {i j : ℕ} {x : List CommentValue} (c d : Ctx) → is_key c ≡ false → is_key d ≡ false → Separate t n c i j x → Separate t n d i j x
  any_context c d e f s = in_node f (in_lines c e s)

module _ {t : List ℕ} (u : IsUtf8 t) where
  -- at the sign of a block scalar
  bar_facts : {k : ℕ} → is_bar_sign (code t k) ≡ true → (begins_properties (code t k) ≡ false) × (begins_content (code t k) ≡ false) × NoSignAt t k
  bar_facts {k} b = (
    not_true (begins_properties (code t k)) (sign_begins (code t k) b).1,
    not_true (begins_content (code t k)) (sign_begins (code t k) b).2,
    record {
      no_dash = λ d. (sign_others (code t k) b).1 d.dash;
      no_question = λ s. (sign_others (code t k) b).3 s.sign_is_at;
      no_colon = λ s. (sign_others (code t k) b).2 s.sign_is_at;
    },
  )

  bar_no_key : {e k : ℕ} {n : ℤ} → is_bar_sign (code t k) ≡ true → NotKey t e n k
  bar_no_key b = record { none = λ r q. none_some (sym (no_flow_node b r)) }

  -- a flow node there has only the properties before it
  only_properties : {e h g k : ℕ} {n : ℤ} {q : PropertiesValue} {ds : List CommentValue} {v : ParsedNode} → is_bar_sign (code t k) ≡ true → Visible t k → Separate t n FlowOut g k ds
      → PastProperties t e n FlowOut h g q (Some v) → v.end ≡ g
  only_properties {k = k} b w s (past_to_content m cs f c i r x) =
      let same = separate_is w (separated s) c in absurd (true≢false (sym i ∙ ap (λ z. begins_content (code t z)) same.0 ∙ (bar_facts b).1))
  only_properties {k = k} b w s (past_to_plain m j cs y c i r x) =
      let same = separate_is w (separated s) c in
      absurd (true≢false (sym (plain_leaps r.derived.text).0 ∙ sign_no_first t FlowOut m (ap (λ z. is_bar_sign (code t z)) same.0 ∙ b)))
  only_properties {k = k} {ds = ds} b w s (past_to_nothing c x) = absurd (c.none k ds s)
  only_properties {h = h} {g = g} {q = q} b w s (past_to_broken m cs c i r x) = ap (λ z. z.end) (some_found g 0 false _ (x ∙ lone_is q h g))
  only_properties {h = h} {g = g} {q = q} b w s (past_to_other m cs c i r x) = ap (λ z. z.end) (some_found g 0 false _ (x ∙ lone_is q h g))

  lines_no_colon : {n : ℤ} {h g k z : ℕ} {q : PropertiesValue} {ds : List CommentValue} {w : List ℕ} → Properties t (pos 0) FlowKey h g q → is_bar_sign (code t k) ≡ true → Visible t k
      → SeparateLines t n g k ds → Many t is_white g z w → Visible t z → code t z ≡ 58 → ⊥
  lines_no_colon {k = k} {z = z} q b v (in_line s) m y e =
      let same = (many_unique t is_white (separate_whites s).1 (visible_white v) m (visible_white y)).0 in
      (sign_others (code t k) b).2 (ap (code t) same ∙ e)
  lines_no_colon q b v (over_lines d f) m y e = no_line_end_before u (properties_after u q) m y d

  propertied_bar_no_key : {e h g k : ℕ} {n : ℤ} {c : Ctx} {q : PropertiesValue} {ds : List CommentValue} → is_key c ≡ false → is_bar_sign (code t k) ≡ true → Visible t k
      → Separate t (n +ℤ pos 1) c g k ds → Properties t (pos 0) FlowKey h g q → NotKey t e n h
  propertied_bar_no_key {e} {h} {g} {k} {n} {c} {q} {ds} key b v s d = record { none = λ r y. go r y } where
    p : Properties t (n +ℤ pos 1) FlowOut h g q
    p = key_properties (n +ℤ pos 1) FlowOut refl d

    s' : Separate t (n +ℤ pos 1) FlowOut g k ds
    s' = any_context c FlowOut key refl s

    go : {v' : ParsedNode} {z : ℕ} → Parses t e (ANode (n +ℤ pos 1) FlowOut h) (Some v') → KeyBefore t h v' z → ⊥
    go {v'} {z} r y =
        let a = past_properties p (λ m w i. properties_before u p s' v (bar_facts b).0 i) r in
        let same = only_properties b v s' a in
        lines_no_colon d b v (in_lines c key s) (subst (λ m. Many t is_white m z y.whites) same y.run) (colon_visible u y.colon) y.colon.sign_is_at

  pub scalar_with_owed : {i f g k j : ℕ} {n : ℤ} {c : Ctx} {cs ds : List CommentValue} {p : PropertiesValue} {x : Meaning} → is_block c ≡ true
      → Separate t (n +ℤ pos 1) c i f cs → Properties t (n +ℤ pos 1) c f g p → Separate t (n +ℤ pos 1) c g k ds → BlockScalar t n k j x
      → NodeExact t true 0 n c i j (meaning_after (cs ++ p.comments ++ ds) (with_props p.props p.tag_offset f g x))
  scalar_with_owed {i} {f} {g} {k} {j} {n} {c} {cs} {ds} {p} {x} b s q v d e l z w b' a y o r =
      let key = block_no_key c b in
      let m = with_props p.props p.tag_offset f g x in
      let body = meaning_after (p.comments ++ ds) m in
      let x1 : i ≤ f = separate_forward s in
      let x2 : f < g = properties_forward q in
      let x3 : g ≤ k = separate_forward v in
      let x4 : k < j = scalar_later d in
      let bar = scalar_sign d in
      let facts = bar_facts bar in
      found_moved refl (three_after cs p.comments ds m)
      (gap_exact body c key s (begins_visible (properties_begin q)) z (omega arith) y
      (λ cols y' v' r' w'. to_leaf u (whole_reads (λ i. never_none i)) c key q v (scalar_visible d) facts.0 facts.2 (bar_no_key bar) (λ h q' m' d'. propertied_bar_no_key key bar (scalar_visible d) v d') v'
      (clear_back x1 z) x4 w' (λ h i r'' l'. found_moved refl (i.is x ∙ sym (headed_unheld body v')) (scalar_leaf u d l'))) r)

  pub scalar_with_halting : {i f g k j : ℕ} {n : ℤ} {c : Ctx} {cs ds : List CommentValue} {p : PropertiesValue} {x : Meaning} → is_block c ≡ true
      → Separate t (n +ℤ pos 1) c i f cs → Properties t (n +ℤ pos 1) c f g p → Separate t (n +ℤ pos 1) c g k ds → BlockScalar t n k j x
      → NodeHaltsReach t 0 n c i j (meaning_after (cs ++ p.comments ++ ds) (with_props p.props p.tag_offset f g x))
  scalar_with_halting {i} {f} {g} {k} {j} {n} {c} {cs} {ds} {p} {x} b s q v d e l z b' a y ws allowed o r =
      let key = block_no_key c b in
      let m = with_props p.props p.tag_offset f g x in
      let body = meaning_after (p.comments ++ ds) m in
      let x1 : i ≤ f = separate_forward s in
      let x2 : f < g = properties_forward q in
      let x3 : g ≤ k = separate_forward v in
      let x4 : k < j = scalar_later d in
      let bar = scalar_sign d in
      let facts = bar_facts bar in
      longest_moved (three_after cs p.comments ds m)
      (gap_longest body c key s (begins_visible (properties_begin q)) z (omega arith) y
      (λ cols y' v' r' w'. to_leaf u (halts_reads (λ i. longest_some i refl) ws) c key q v (scalar_visible d) facts.0 facts.2 (bar_no_key bar) (λ h q' m' d'. propertied_bar_no_key key bar (scalar_visible d) v d') v'
      (clear_back x1 z) x4 w' (λ h i r'' l'. longest_moved (i.is x ∙ sym (headed_unheld body v')) (longest_found (scalar_leaf_halts u d allowed l')))) r)

-- the outcome after properties that are held
told_held : (p : PropertiesValue) (f g : ℕ) (ds : List CommentValue) {j h : ℕ} (x : Meaning) {o : Option ParsedNode} → OutcomeAfter (Props (held p f g)) ds j h (headed (past (Props (held p f g)) ds) x) o
    → IsFound o j h (meaning_after (p.comments ++ ds) (with_props p.props p.tag_offset f g x))
told_held p f g ds {j} {h} x {o} w =
    let v = held p f g in
    let same : headed (past (Props v) ds) x ≡ meaning_after (p.comments ++ ds) (with_props p.props p.tag_offset f g x) = ap (λ a. headed a x) (past_props v ds) ∙ (held_with p ds f g).is x in
    subst (λ r. IsFound r j h (meaning_after (p.comments ++ ds) (with_props p.props p.tag_offset f g x))) (sym (w.is ∙ told_props v ds w.inner)) (found_moved refl same w.found)

told_held_longest : (p : PropertiesValue) (f g : ℕ) (ds : List CommentValue) {j : ℕ} (x : Meaning) {o : Option ParsedNode}
    → ToldLongest (Props (held p f g)) ds j (headed (past (Props (held p f g)) ds) x) o → Longest o j (meaning_after (p.comments ++ ds) (with_props p.props p.tag_offset f g x))
told_held_longest p f g ds {j} x {o} w =
    let v = held p f g in
    let same : headed (past (Props v) ds) x ≡ meaning_after (p.comments ++ ds) (with_props p.props p.tag_offset f g x) = ap (λ a. headed a x) (past_props v ds) ∙ (held_with p ds f g).is x in
    subst (λ r. Longest r j (meaning_after (p.comments ++ ds) (with_props p.props p.tag_offset f g x))) (sym (w.is ∙ told_props v ds w.inner)) (longest_moved same w.reached)

module _ {t : List ℕ} (u : IsUtf8 t) where
  pub collection_with_owed : {h i f g k m j : ℕ} {s : Bool} {n : ℤ} {c : Ctx} {cs ds : List CommentValue} {p : PropertiesValue} {x : Meaning} {ends : Bool} → is_block c ≡ true
      → Separate t (n +ℤ pos 1) c i f cs → Properties t (n +ℤ pos 1) c f g p → LineEnd t g k ds → Spaces t k m → least_column s n c ≤ℤ pos m
      → Derives t h (BlockEntries s m) (k + m) j x → EntriesExact t ends h s m (k + m) j x
      → NodeExact t ends (suc h) n c i j (meaning_after (cs ++ p.comments ++ ds) (with_props p.props p.tag_offset f g (collection s false (k + m) x.finish x)))
  collection_with_owed {h} {i} {f} {g} {k} {m} {j} {s} {n} {c} {cs} {ds} {p} {x} b q v d y l w claim e le z follow b' a y' o r =
      let key = block_no_key c b in
      let whole = collection s false (k + m) x.finish x in
      let body = meaning_after (p.comments ++ ds) (with_props p.props p.tag_offset f g whole) in
      let x1 : i ≤ f = separate_forward q in
      let x2 : f < g = properties_forward v in
      let x3 : g ≤ k = rows_order d in
      let x4 : k + m < j = (block_starts w).later in
      let clear = clear_back x1 z in
      let clear' = clear_back {i = f} {j = g} {k = j} (omega arith) clear in
      found_moved refl (three_after cs p.comments ds (with_props p.props p.tag_offset f g whole))
      (gap_exact body c key q (begins_visible (properties_begin v)) z (omega arith) y'
      (λ cols a' n' r' w'. to_line_end u (whole_reads (λ i. never_none i)) c key v d n' clear (omega arith) w'
      (λ r'' l'. found_moved refl (sym (headed_unheld body n')) (told_held p f g ds whole (below_collection u d y l w claim le clear' follow l')))) r)

  pub collection_with_halting : {h i f g k m j : ℕ} {s : Bool} {n : ℤ} {c : Ctx} {cs ds : List CommentValue} {p : PropertiesValue} {x : Meaning} → is_block c ≡ true
      → Separate t (n +ℤ pos 1) c i f cs → Properties t (n +ℤ pos 1) c f g p → LineEnd t g k ds → Spaces t k m → least_column s n c ≤ℤ pos m
      → Derives t h (BlockEntries s m) (k + m) j x → EntryHaltsReach t h s m (k + m) j x
      → NodeHaltsReach t (suc h) n c i j (meaning_after (cs ++ p.comments ++ ds) (with_props p.props p.tag_offset f g (collection s false (k + m) x.finish x)))
  collection_with_halting {h} {i} {f} {g} {k} {m} {j} {s} {n} {c} {cs} {ds} {p} {x} b q v d y l w claim e le z b' a y' ws allowed o r =
      let key = block_no_key c b in
      let whole = collection s false (k + m) x.finish x in
      let body = meaning_after (p.comments ++ ds) (with_props p.props p.tag_offset f g whole) in
      let x1 : i ≤ f = separate_forward q in
      let x2 : f < g = properties_forward v in
      let x3 : g ≤ k = rows_order d in
      let x4 : k + m < j = (block_starts w).later in
      let clear = clear_back x1 z in
      let clear' = clear_back {i = f} {j = g} {k = j} (omega arith) clear in
      longest_moved (three_after cs p.comments ds (with_props p.props p.tag_offset f g whole))
      (gap_longest body c key q (begins_visible (properties_begin v)) z (omega arith) y'
      (λ cols a' n' r' w'. to_line_end u (halts_reads (λ i. longest_some i refl) ws) c key v d n' clear (omega arith) w'
      (λ r'' l'. longest_moved (sym (headed_unheld body n')) (told_held_longest p f g ds whole (below_collection_reached u d y l w claim le clear' allowed l')))) r)
