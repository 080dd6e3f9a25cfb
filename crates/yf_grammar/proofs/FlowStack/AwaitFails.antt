-- If a node of an entry is not derived, its flow collection is not: properties without the content after them are a
-- node, but neither a comma nor a bracket follows them.
use Rattle.std.proofs.Common.{◌≡◌, ◌≢◌, ℕ, suc, ℤ, Bool, true, false, List, [], ◌++◌, Some, None, refl, sym, ap, ◌∙◌, subst, arith, append-nil, true≢false}
use Rattle.std.proofs.lemmas.Bool.Decides.{nat_tests}
use Rattle.std.specs.Str.{IsUtf8}
use Rattle.yf_chars.specs.declared.context.Ctx.{Ctx}
use Rattle.yf_chars.specs.declared.context.Ctx.TheVariants.{BlockOut, BlockIn, FlowOut, FlowIn, BlockKey, FlowKey}
use Rattle.yf_chars.specs.Text.{code}
use Rattle.yf_chars.specs.Class.{is_ns_char}
use Rattle.yf_lines.specs.Basic.{is_key, SeparateInLine}
use Rattle.yf_comments.specs.Comment.{CommentValue}
use Rattle.yf_comments.specs.Comments.{Separate, in_key, in_node}
use Rattle.yf_comments.specs.Comments.SeparateLines.{in_line}
use Rattle.yf_grammar.specs.Productions.Grammar.{in_flow, closing}
use Rattle.yf_props.specs.Names.{PropertiesValue}
use Rattle.yf_grammar.specs.Productions.Meaning.{Meaning, meaning_after, with_props, empty_node}
use Rattle.yf_grammar.specs.FlowReader.Parser.{begins_plain, begins_alias, begins_properties}
use Rattle.yf_grammar.specs.FlowReader.Parser.{ParsedNode, Gap, PairKey, ANode, AContent, Parses, begins_content, propertied}
use Rattle.yf_grammar.specs.FlowReader.Parser.Gap.{longest_gap, no_gap}
use Rattle.yf_grammar.specs.FlowReader.Parser.Parses.{plain_missed, content_read, properties_content, properties_before_broken}
use Rattle.yf_grammar.specs.FlowReader.FlowContinuations.{EntriesAwaited, with_pair, NodeAwaited, as_item, as_key, as_value, Before, over, NodeOver, bare_there, properties_there, Within, not_yet, gap_past, is_entry_end}
use Rattle.yf_grammar.proofs.FlowStack.AwaitEntries.{read_as, found_is, entry_fails, entry_stays_open}
use Rattle.yf_grammar.proofs.FlowStack.AwaitValues.{key_fails, key_alone, item_fails, item_alone}
use Rattle.yf_grammar.proofs.Ends.GapLemmas.{Visible, separate_still, separate_join, gap_is}
use Rattle.yf_grammar.proofs.FlowReader.ParserLemmas.{whites_in_line}
use Rattle.yf_grammar.proofs.FlowReader.NodeExact.{lone_is, stop_no_first, end_stop, end_no_colon}
use Rattle.yf_grammar.proofs.FlowReader.PlainEnds.{plain_leaps}
use Rattle.yf_grammar.proofs.FlowReader.FlowStarts.{is_end}
use Rattle.yf_props.proofs.SeparationEnds.{separate_forward}
use Rattle.yf_grammar.proofs.Ends.Ways.{gap_one}
use Rattle.yf_grammar.proofs.Ends.WiderLemmas.{may_line_separate}
use Rattle.yf_chars.proofs.CharFacts.{colon_ns}

-- a collection's context and the one within it have equal separations
same_keys : (c : Ctx) → is_key (in_flow c) ≡ is_key c
same_keys BlockOut = refl
same_keys BlockIn = refl
same_keys FlowOut = refl
same_keys FlowIn = refl
same_keys BlockKey = refl
same_keys FlowKey = refl

module _ {t : List ℕ} {n : ℤ} where
  separate_as : {c d : Ctx} {i j : ℕ} {x : List CommentValue} → is_key d ≡ is_key c → Separate t n c i j x → Separate t n d i j x
  separate_as q (in_key e s) = in_key (q ∙ e) s
  separate_as q (in_node e s) = in_node (q ∙ e) s

  gap_as : {c d : Ctx} {i j : ℕ} {x : List CommentValue} → is_key d ≡ is_key c → Gap t n c i j x → Gap t n d i j x
  gap_as q (longest_gap s) = longest_gap (record {
    derived = separate_as q s.derived;
    longest = λ k y r. s.longest k y (separate_as (sym q) r);
    only = λ y r. s.only y (separate_as (sym q) r);
  })
  gap_as q (no_gap s) = no_gap (record { none = λ j x r. s.none j x (separate_as (sym q) r) })

  -- the gap after the bracket that opens a collection is read as within it
  pub gap_outside : {c : Ctx} {i j : ℕ} {x : List CommentValue} → Gap t n (in_flow c) i j x → Gap t n c i j x
  gap_outside {c} g = gap_as (sym (same_keys c)) g

module _ {t : List ℕ} {n : ℤ} {d : Ctx} where
  -- if no separation begins, the gap is empty
  pub gap_still : {j k : ℕ} {ds : List CommentValue} → Visible t j → Gap t n d j k ds → (k ≡ j) × (ds ≡ [])
  gap_still v (longest_gap s) = separate_still v s.derived
  gap_still v (no_gap s) = (refl, refl)

  -- after the longest separation no further one begins
  pub gap_twice : {i j k : ℕ} {cs ds : List CommentValue} → IsUtf8 t → Gap t n d i j cs → Gap t n d j k ds → Visible t k → (k ≡ j) × (ds ≡ [])
  gap_twice u (no_gap s) g v = gap_one (no_gap s) g
  gap_twice u (longest_gap s) (no_gap r) v = (refl, refl)
  gap_twice {i} {j} {k} {cs} {ds} u (longest_gap s) (longest_gap r) v =
      let m = separate_join u v s.derived r.derived in
      let a = s.longest k (cs ++ ds) m in
      let b = separate_forward r.derived in
      let e : k ≡ j = omega arith in
      let v' : Visible t j = subst (λ w. Visible t w) e v in
      separate_still v' r.derived

  pub within_gap : {j p k : ℕ} {cs ds : List CommentValue} → IsUtf8 t → Within t n d j p cs → Gap t n d p k ds → Visible t k → Gap t n d j k (cs ++ ds)
  within_gap u not_yet g v = g
  within_gap {j} {p} {k} {cs} {ds} u (gap_past w) g v =
      let e = gap_twice u w g v in
      let x : cs ≡ cs ++ ds = sym (append-nil cs) ∙ ap (λ z. cs ++ z) (sym e.1) in
      let a : Gap t n d j k cs = subst (λ z. Gap t n d j z cs) (sym e.0) w in
      subst (λ z. Gap t n d j k z) x a

sign_visible : {t : List ℕ} {k : ℕ} (c : ℕ) → code t k ≡ c → is_ns_char c ≡ true → c ≢ 35 → Visible t k
sign_visible c e n h = record { ns = ap is_ns_char e ∙ n; no_hash = λ q. h (sym e ∙ q) }

-- neither a comma nor a bracket
pub not_ended : (s : Bool) (c : ℕ) → is_entry_end c ≡ false → (c ≢ closing s) × (c ≢ 44)
not_ended true c e = (λ q. true≢false (sym (ap is_entry_end q) ∙ e), λ q. true≢false (sym (ap is_entry_end q) ∙ e))
not_ended false c e = (λ q. true≢false (sym (ap is_entry_end q) ∙ e), λ q. true≢false (sym (ap is_entry_end q) ∙ e))

content_not_ended : (c : ℕ) → begins_content c ≡ true → (is_entry_end c ≡ false) × (c ≢ 58)
unfolding begins_content
content_not_ended c e = (grind (arith, nat_tests), grind (arith, nat_tests))

in_line_separate : {t : List ℕ} {n : ℤ} (d : Ctx) {i j : ℕ} → SeparateInLine t i j → (b : Bool) → is_key d ≡ b → Separate t n d i j []
in_line_separate d s true e = in_key e s
in_line_separate d s false e = in_node e (in_line s)

-- no key ends before content
no_key_before_content : {t : List ℕ} {n : ℤ} {d : Ctx} {s k : ℕ} {cs : List CommentValue} {f : ParsedNode} → Gap t n d f.end k cs → begins_content (code t k) ≡ true
    → (m : ℕ) → PairKey t d s f m → ⊥
no_key_before_content {t} {n} {d} {k = k} {f = f} g b m q =
    let v : Visible t m = record { ns = ap is_ns_char q.colon.colon ∙ colon_ns; no_hash = λ z. absurd (omega (arith, q.colon)) } in
    let e = gap_is v (may_line_separate _ _ (whites_in_line q.run)) g in
    let z : code t k ≡ 58 = ap (code t) e.0 ∙ q.colon.colon in
    (content_not_ended (code t k) b).1 z

module _ {t : List ℕ} {n : ℤ} {c d : Ctx} {i h : ℕ} {x : Meaning} {s : ℕ} where
  -- the node is missing
  pub node_fails : {sequence pair : Bool} {e p g : ℕ} {y : Meaning} → NodeAwaited t n d s sequence e pair p g y → EntriesAwaited t (with_pair pair e) sequence n c d i h x s
      → code t s ≢ closing sequence → Parses t e (ANode n d p) None → Parses t (suc (with_pair pair e)) (AContent n c i) None
  node_fails (as_item w) a z r = entry_fails a z (item_fails w r)
  node_fails (as_key w q) a z r = entry_fails a z (key_fails w q r)
  node_fails {sequence} {p = p} (as_value w q) a z r =
      let l = w.none r in
      let m = not_ended sequence (code t p) q in
      entry_stays_open a z l.3 l.4 m.0 m.1

  -- the node is found, but content follows it that belongs to no entry
  pub lone_fails : {sequence pair : Bool} {e p g k : ℕ} {y : Meaning} {cs : List CommentValue} (f : ParsedNode) → NodeAwaited t n d s sequence e pair p g y
      → EntriesAwaited t (with_pair pair e) sequence n c d i h x s → code t s ≢ closing sequence → Parses t e (ANode n d p) (Some f) → Gap t n d f.end k cs
      → begins_content (code t k) ≡ true → Parses t (suc (with_pair pair e)) (AContent n c i) None
  lone_fails {sequence} {k = k} f (as_item w) a z r q b =
      let l = content_not_ended (code t k) b in
      let m = not_ended sequence (code t k) l.0 in
      entry_stays_open a z (item_alone w f r (no_key_before_content q b)) q m.0 m.1
  lone_fails {sequence} {k = k} f (as_key w v) a z r q b =
      let l = content_not_ended (code t k) b in
      let m = not_ended sequence (code t k) l.0 in
      entry_stays_open a z (key_alone w v f r q (λ u. l.1 u.colon)) q m.0 m.1
  lone_fails {sequence} {k = k} f (as_value w v) a z r q b =
      let l = content_not_ended (code t k) b in
      let m = not_ended sequence (code t k) l.0 in
      entry_stays_open a z (w.some f r) q m.0 m.1

propertied_is : (p : PropertiesValue) (cs : List CommentValue) (i g : ℕ) (f : ParsedNode)
    → propertied p cs i g f ≡ Some (record f { meaning = meaning_after (p.comments ++ cs) (with_props p.props p.tag_offset i g f.meaning) })
unfolding propertied
propertied_is p cs i g f = refl

-- a node from its content
module _ {t : List ℕ} {n : ℤ} {d : Ctx} where
  pub over_some : {e p k : ℕ} {b : Before} (f : ParsedNode) → NodeOver t n d p k b → Parses t e (AContent n d k) (Some f)
      → Parses t e (ANode n d p) (Some (record f { meaning = over b f.meaning }))
  over_some f (bare_there b) r = content_read b r
  over_some f (properties_there {i = i} {g = g} {p = p} {cs = cs} q s b) r = read_as (propertied_is p cs i g f) (properties_content q s b r)

pub content_fails : {t : List ℕ} {n : ℤ} {c d : Ctx} {i h : ℕ} {x : Meaning} {s : ℕ} {sequence pair : Bool} {e p g k : ℕ} {y : Meaning} {b : Before}
    → NodeOver t n d p k b → EntriesAwaited t (with_pair pair e) sequence n c d i h x s → code t s ≢ closing sequence → NodeAwaited t n d s sequence e pair p g y
    → Parses t e (AContent n d k) None → Parses t (suc (with_pair pair e)) (AContent n c i) None
content_fails (bare_there b) a z w r = node_fails w a z (content_read b r)
content_fails (properties_there {i = i} {g = g} {p = p} q s b) a z w r =
    lone_fails (record { end = g; height = 0; json = false; meaning = meaning_after p.comments (with_props p.props p.tag_offset i g (empty_node g)) }) w a z
    (read_as (lone_is p i g ∙ found_is g 0 false (meaning_after p.comments (with_props p.props p.tag_offset i g (empty_node g)))) (properties_before_broken q s b r)) (longest_gap s) b

-- at the end of an entry no node is derived
as_end : (c : ℕ) → is_entry_end c ≡ true → is_end c ≡ true
unfolding is_end
as_end c e = e

end_plain : (c : ℕ) → is_entry_end c ≡ true → begins_plain c ≡ true
unfolding begins_plain begins_alias begins_properties begins_content
end_plain c e = grind (arith, nat_tests)

pub end_missed : {t : List ℕ} {e i : ℕ} {n : ℤ} {c : Ctx} → is_entry_end (code t i) ≡ true → Parses t e (ANode n c i) None
end_missed {t} {i = i} {c = c} q =
    let z = as_end (code t i) q in
    plain_missed (end_plain (code t i) q) (record { none = λ j x p. stop_no_first t c i (end_stop (code t i) z) (λ e. absurd (end_no_colon (code t i) z e)) (plain_leaps p.text).0 })
