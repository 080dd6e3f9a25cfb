-- The longest part of a plain scalar at whose end all nodes may end: the whole scalar, or the scalar without its last
-- line if they may not end after it. A scalar of one line has no shorter part.
use Rattle.std.proofs.Common.{◌≡◌, ◌≢◌, ℕ, ℤ, ◌+◌, ◌-◌, ◌<◌, ◌≤◌, true, false, ◌⊎◌, inl, inr, ⊎_elim, List, [], ◌∷◌, refl, sym, ap, ◌∙◌, subst, arith, true≢false, encode_utf8_all}
use Rattle.std.proofs.lemmas.Bool.{cases_lt}
use Rattle.std.specs.Str.{IsUtf8}
use Rattle.yf_chars.specs.declared.context.Ctx.{Ctx}
use Rattle.yf_chars.specs.declared.context.Ctx.TheVariants.{FlowOut}
use Rattle.yf_chars.specs.Text.{code}
use Rattle.yf_chars.specs.Class.{is_white, is_ns_char, is_plain_safe}
use Rattle.yf_chars.specs.Chain.{Chain, Chosen, Stuck}
use Rattle.yf_chars.specs.Chain.Chain.{done, step}
use Rattle.yf_chars.proofs.ChainLemmas.{chain_more, many_unique}
use Rattle.yf_chars.proofs.TextLemmas.{next_later}
use Rattle.yf_lines.specs.Basic.{Break, is_flow}
use Rattle.yf_lines.specs.Basic.Break.{cr_lf, lone_cr, lone_lf}
use Rattle.yf_lines.specs.Basic.LineStart.{after_break}
use Rattle.yf_lines.proofs.BasicLemmas.{break_forward, break_end, clear_front}
use Rattle.yf_lines.proofs.ClearLemmas.{Quiet, quiet_join, quiet_whites}
use Rattle.yf_comments.specs.Comment.{CommentValue}
use Rattle.yf_comments.specs.Comments.{LineEnd}
use Rattle.yf_comments.proofs.SeparateLemmas.{spaces_whites}
use Rattle.yf_events.specs.declared.event.ScalarStyle.TheVariants.{Plain as PlainStyle}
use Rattle.yf_plain.specs.Plain.{is_plain_char, PlainLine, PlainNext, PlainText, Plain}
use Rattle.yf_plain.specs.Plain.PlainLine.{one_line}
use Rattle.yf_plain.specs.Plain.PlainNext.{next_line}
use Rattle.yf_plain.specs.Plain.PlainText.{as_key, as_lines}
use Rattle.yf_plain.proofs.PlainLemmas.{plain_is_ns, first_is_ns, plain_colon, quiet_ns, items_quiet, ns_not_white, safe_is_ns}
use Rattle.yf_plain.proofs.LineLemmas.{plain_unique, folds_to}
use Rattle.yf_grammar.specs.Productions.Grammar.{ColonLine}
use Rattle.yf_grammar.specs.BlockReader.Halts.{NoColonAt, none_open, one_open, MayEnd, PlainPart, plain_part}
use Rattle.yf_grammar.specs.Productions.Meaning.{Meaning, noting, scalar}
use Rattle.yf_grammar.proofs.BlockOutcomes.BlockHalts.{WholePlain, may_end_chosen}
use Rattle.yf_grammar.proofs.BlockOutcomes.BlockKeys.{end_not_ns}
use Rattle.yf_grammar.proofs.BlockOutcomes.BlockStarts.{line_end_forward}
use Rattle.yf_grammar.proofs.Ends.Forward.{whites_forward}
use Rattle.yf_grammar.proofs.Ends.GapLemmas.{Visible}
use Rattle.yf_grammar.proofs.FlowReader.PlainEnds.{plain_later}
use Rattle.yf_grammar.proofs.BlockContent.PlainTails.{FoldEnd, fold_end, fold_chosen, next_visible, tail_of, tail_before}
use Rattle.yf_plain.proofs.PlainOrder.{items_forward}

-- the last end of a break that begins at the first offset or after it, before the other offset
pub record LastLine (t : List ℕ) (i l j : ℕ) : Type 0 where
  pub from : ℕ
  pub ends : Break t from j
  pub first : i ≤ from
  pub inside : j < l
  pub last : (g h : ℕ) → j ≤ g → Break t g h → l ≤ h

module _ {t : List ℕ} where
  -- two breaks do not overlap
  break_inside : {g k : ℕ} (j : ℕ) → (code t (j - 1) ≡ 10) ⊎ ((code t (j - 1) ≡ 13) × (code t j ≢ 10)) → Break t g k → g < j → j < k → ⊥
  break_inside j e (cr_lf {i = g} a b) l m =
      let p : j - 1 ≡ g = omega arith in
      let q : j ≡ g + 1 = omega arith in
      let c : code t (j - 1) ≡ 13 = ap (code t) p ∙ a in
      let d : code t j ≡ 10 = ap (code t) q ∙ b in
      ⊎_elim (λ (f : code t (j - 1) ≡ 10). absurd (omega arith)) (λ (f : (code t (j - 1) ≡ 13) × (code t j ≢ 10)). f.1 d) e
  break_inside j e (lone_cr a b) l m = omega arith
  break_inside j e (lone_lf a b) l m = omega arith

  breaks_apart : {f g j k : ℕ} → Break t f j → Break t g k → j < k → j ≤ g
  breaks_apart {g = g} {j = j} a b l = ⊎_elim (λ (s : g < j). absurd (break_inside j (break_end a) b s l)) (λ (s : j ≤ g). s) (cases_lt g j)

  pub last_line_one : {i l j k : ℕ} → LastLine t i l j → LastLine t i l k → j ≡ k
  last_line_one {j = j} {k = k} a b = ⊎_elim
      (λ (l : j < k). let f = a.last b.from k (breaks_apart a.ends b.ends l) b.ends in let g = b.inside in absurd (omega arith))
      (λ (m : k ≤ j). ⊎_elim
      (λ (l : k < j). let f = b.last a.from j (breaks_apart b.ends a.ends l) a.ends in let g = a.inside in absurd (omega arith))
      (λ (n : j ≤ k). omega arith) (cases_lt k j))
      (cases_lt j k)

-- all nodes may end at a line that begins with no `:` of an entry
pub allowed_all : {t : List ℕ} {j : ℕ} → ((w : ℕ) → ColonLine t w j → ⊥) → (ws : List ℕ) → NoColonAt t j ws
allowed_all f [] = none_open
allowed_all f (w ∷ ws) = one_open (f w) (allowed_all f ws)

-- a plain scalar, split before its last line
data LastOf (t : List ℕ) (n : ℤ) (c : Ctx) (i l : ℕ) : Type 0 where
  on_first_line : {x : List ℕ} → PlainLine t c i l x → LastOf t n c i l
  on_next_line : {k : ℕ} {x z : List ℕ} → PlainText t n c i k x → PlainNext t n c k l z → LastOf t n c i l

last_next : {t : List ℕ} {n : ℤ} {c : Ctx} {i h k m l : ℕ} {x y z w : List ℕ} → is_flow c ≡ true → PlainLine t c i h x → Chain (PlainNext t n c) h k y → PlainNext t n c k m z
    → Chain (PlainNext t n c) m l w → LastOf t n c i l
last_next f a b s done = on_next_line (as_lines f a b) s
last_next f a b s (step r d) = last_next f a (chain_more b s) r d

last_of_lines : {t : List ℕ} {n : ℤ} {c : Ctx} {i h l : ℕ} {x y : List ℕ} → is_flow c ≡ true → PlainLine t c i h x → Chain (PlainNext t n c) h l y → LastOf t n c i l
last_of_lines f a done = on_first_line a
last_of_lines f a (step s d) = last_next f a done s d

last_of : {t : List ℕ} {n : ℤ} {c : Ctx} {i l : ℕ} {x : List ℕ} → PlainText t n c i l x → LastOf t n c i l
last_of (as_key e d) = on_first_line d
last_of (as_lines f a d) = last_of_lines f a d

pub colon_no_white : (c : ℕ) → c ≡ 58 → is_white c ≡ false
unfolding is_white
colon_no_white c e = ap is_white e

-- no line begins from the start of the last line on
record LastStart (t : List ℕ) (n : ℤ) (c : Ctx) (k l : ℕ) : Type 0 where
  pub place : ℕ
  pub end : FoldEnd t n k place
  pub visible : Visible t place
  pub char : is_plain_char t c place ≡ true
  pub best : Chosen (LineEnd t k) end.line []
  pub inside : place < l
  pub quiet : Quiet t end.line l

module _ {t : List ℕ} (u : IsUtf8 t) where
  first_quiet : {c : Ctx} {i l : ℕ} {x : List ℕ} → PlainLine t c i l x → Quiet t i l
  first_quiet {c} (one_line {i = i} e d) = quiet_join (quiet_ns u (first_is_ns t c i e)) (items_quiet u d)

  last_start : {n : ℤ} {c : Ctx} {k l : ℕ} {x : List ℕ} → PlainNext t n c k l x → LastStart t n c k l
  last_start {c = c} (next_line {h = h} f e d) =
      let end = fold_end f in
      let v = next_visible u c (folds_to f (plain_is_ns t c h e)) e in
      let a = next_later t h in
      let b = items_forward d in
      record {
        place = h;
        end = end;
        visible = v;
        char = e;
        best = fold_chosen u end v;
        inside = omega arith;
        quiet = quiet_join (quiet_whites u end.whites) (quiet_join (quiet_ns u (plain_is_ns t c h e)) (items_quiet u d));
      }

  -- that line has no `:` of an entry at its start
  last_no_colon : {n : ℤ} {c : Ctx} {k l : ℕ} (s : LastStart t n c k l) (w : ℕ) → ColonLine t w s.end.line → ⊥
  last_no_colon {c = c} s w a =
      let run = spaces_whites t s.end.line w a.indent in
      let same = (many_unique t is_white run.1 (colon_no_white (code t (s.end.line + w)) a.colon) s.end.whites (ns_not_white (code t s.place) s.visible.ns)).0 in
      let here : code t s.place ≡ 58 = ap (code t) (sym same) ∙ a.colon in
      let follows : is_ns_char (code t (s.end.line + w + 1)) ≡ false = end_not_ns (code t (s.end.line + w + 1)) a.follows in
      let safe : is_plain_safe (code t (s.place + 1)) c ≡ true = sym (plain_colon t c s.place here) ∙ s.char in
      true≢false (sym (safe_is_ns (code t (s.place + 1)) c safe) ∙ ap (λ k. is_ns_char (code t (k + 1))) (sym same) ∙ follows)

  last_line : {n : ℤ} {c : Ctx} {i k l : ℕ} (s : LastStart t n c k l) → i ≤ k → LastLine t i l s.end.line
  last_line {l = l} s m =
      let e = s.end in
      let f = whites_forward e.whites in
      let g = s.inside in
      let o = e.first in
      record {
        from = e.from;
        ends = e.ends;
        first = omega arith;
        inside = omega arith;
        last = λ g h a b. ⊎_elim (λ (q : h < l). let r = break_forward b in absurd (s.quiet.none h (omega arith) (omega arith) (after_break b))) (λ (q : l ≤ h). q) (cases_lt h l);
      }

abbrev shown : ℕ → ℕ → List ℕ → List CommentValue → Meaning
shown i k x ds = noting (scalar PlainStyle (encode_utf8_all x) [] i k) ds

shown_same : {k l : ℕ} {x y : List ℕ} {ds es : List CommentValue} (i : ℕ) → k ≡ l → x ≡ y → ds ≡ es → shown i k x ds ≡ shown i l y es
shown_same {k} {l} {x} {y} {ds} {es} i a b c = ap (λ w. shown i w x ds) a ∙ ap (λ w. shown i l w ds) b ∙ ap (shown i l y) c

-- the scalar without its last line, which ends at `place`
pub record WithoutLast (t : List ℕ) (n : ℤ) (ws : List ℕ) (i j : ℕ) : Type 0 where
  pub place : ℕ
  pub text : List ℕ
  pub derived : Plain t n FlowOut i place text
  pub end : LineEnd t place j []
  pub best : Chosen (PlainPart t n ws i) j (noting (scalar PlainStyle (encode_utf8_all text) [] i place) [])

module _ {t : List ℕ} (u : IsUtf8 t) where
  -- no shorter scalar ends on the last line
  between : {n : ℤ} {i k h l m : ℕ} {x y z : List ℕ} {ds : List CommentValue} → Plain t n FlowOut i k x → Plain t n FlowOut i h y → Plain t n FlowOut i l z → k < h → h < l
      → LineEnd t h m ds → LastStart t n FlowOut k l → ⊥
  between {l = l} p q r a b d s =
      let e = tail_of u refl p q a s.end.end in
      let f = tail_of u refl q r b d in
      let g = e.best.longest s.end.line [] s.best.derived in
      let o = whites_forward e.end.whites in
      let v = e.inside in
      let w = break_forward f.end.ends in
      let c = f.end.first in
      let z = whites_forward f.end.whites in
      let o' = f.inside in
      s.quiet.none f.end.line (omega arith) (omega arith) (after_break f.end.ends)

  none_inside : {c : Ctx} {i l j : ℕ} {x : List ℕ} → PlainLine t c i l x → LastLine t i l j → ⊥
  none_inside {l = l} {j = j} d a =
      let f = a.first in
      let g = break_forward a.ends in
      let h = a.inside in
      (first_quiet u d).none j (omega arith) (omega arith) (after_break a.ends)

module _ {t : List ℕ} (u : IsUtf8 t) {n : ℤ} {ws : List ℕ} {i : ℕ} where
  -- all nodes may end after the whole scalar
  whole_far : {l j k : ℕ} {y : List ℕ} {ds : List CommentValue} {z : Meaning} → Chosen (Plain t n FlowOut i) l y → Chosen (MayEnd t ws l) j ds → PlainPart t n ws i k z → k ≤ j
  whole_far {l} {k = k} d m (plain_part {l = h} {x = x} {ds = es} q r) =
      let f = d.longest h x q in
      let g = line_end_forward m.derived.line in
      ⊎_elim (λ (a : h < l). let b = tail_before u (tail_of u refl q d.derived a r.line) r.line in omega arith)
      (λ (a : l ≤ h). let same : h ≡ l = omega arith in m.longest k es (subst (λ w. MayEnd t ws w k es) same r))
      (cases_lt h l)

  whole_only : {l j k : ℕ} {y : List ℕ} {ds : List CommentValue} {z : Meaning} → Chosen (Plain t n FlowOut i) l y → Chosen (MayEnd t ws l) j ds → PlainPart t n ws i k z → k ≡ j
      → z ≡ noting (scalar PlainStyle (encode_utf8_all y) [] i l) ds
  whole_only {l} {j} {k} d m (plain_part {l = h} {x = x} {ds = es} q r) e =
      let f = d.longest h x q in
      let g = line_end_forward m.derived.line in
      ⊎_elim (λ (a : h < l). let b = tail_before u (tail_of u refl q d.derived a r.line) r.line in absurd (omega arith))
      (λ (a : l ≤ h).
      let same : h ≡ l = omega arith in
      let text = d.only x (subst (λ w. Plain t n FlowOut i w x) same q) in
      let r' : MayEnd t ws l k es = subst (λ w. MayEnd t ws w k es) same r in
      shown_same i same text (m.only es (subst (λ w. MayEnd t ws l w es) e r')))
      (cases_lt h l)

  pub whole_plain : {l j : ℕ} {y : List ℕ} {ds : List CommentValue} → Chosen (Plain t n FlowOut i) l y → Chosen (MayEnd t ws l) j ds
      → Chosen (PlainPart t n ws i) j (noting (scalar PlainStyle (encode_utf8_all y) [] i l) ds)
  whole_plain d m = record {
    derived = plain_part d.derived m.derived;
    longest = λ k z p. whole_far d m p;
    only = λ z p. whole_only d m p refl;
  }

  -- they may end nowhere after the whole scalar, which has several lines
  cut_far : {k l m : ℕ} {x y : List ℕ} {z : Meaning} → Plain t n FlowOut i k x → Chosen (Plain t n FlowOut i) l y → Stuck (MayEnd t ws l) → (s : LastStart t n FlowOut k l)
      → PlainPart t n ws i m z → (m < s.end.line) ⊎ ((m ≡ s.end.line) × (z ≡ noting (scalar PlainStyle (encode_utf8_all x) [] i k) []))
  cut_far {k} {l} {m} {x} p d stuck s (plain_part {l = h} {x = y} {ds = ds} q r) = ⊎_elim
      (λ (a : h < k).
      let b = tail_before u (tail_of u refl q p a r.line) r.line in
      let c = s.end.first in
      let e = break_forward s.end.ends in
      inl (omega arith))
      (λ (a : k ≤ h). ⊎_elim
      (λ (b : k < h). ⊎_elim
      (λ (c : h < l). absurd (between u p q d.derived b c r.line s))
      (λ (c : l ≤ h).
      let f = d.longest h y q in
      let same : h ≡ l = omega arith in
      absurd (stuck.none m ds (subst (λ w. MayEnd t ws w m ds) same r)))
      (cases_lt h l))
      (λ (b : h ≤ k).
      let same : h ≡ k = omega arith in
      let q' : Plain t n FlowOut i k y = subst (λ w. Plain t n FlowOut i w y) same q in
      let line : LineEnd t k m ds = subst (λ w. LineEnd t w m ds) same r.line in
      let f = s.best.longest m ds line in
      ⊎_elim
      (λ (g : m < s.end.line). inl g)
      (λ (g : s.end.line ≤ m).
      let e : m ≡ s.end.line = omega arith in
      inr (e, shown_same i same (plain_unique refl p q') (s.best.only ds (subst (λ w. LineEnd t k w ds) e line))))
      (cases_lt m s.end.line))
      (cases_lt k h))
      (cases_lt h k)

  cut_chosen : {k l : ℕ} {x y : List ℕ} → Plain t n FlowOut i k x → Chosen (Plain t n FlowOut i) l y → Stuck (MayEnd t ws l) → (s : LastStart t n FlowOut k l)
      → Chosen (PlainPart t n ws i) s.end.line (noting (scalar PlainStyle (encode_utf8_all x) [] i k) [])
  cut_chosen p d stuck s = record {
    derived = plain_part p (record { line = s.end.end; allowed = allowed_all (last_no_colon u s) ws });
    longest = λ m z q. ⊎_elim (λ (a : m < s.end.line). omega arith) (λ (a : (m ≡ s.end.line) × _). let e = a.0 in omega arith) (cut_far p d stuck s q);
    only = λ z q. ⊎_elim (λ (a : s.end.line < s.end.line). absurd (omega arith)) (λ (a : (s.end.line ≡ s.end.line) × _). a.1) (cut_far p d stuck s q);
  }

  pub plain_without_last : {l j : ℕ} {y : List ℕ} → Chosen (Plain t n FlowOut i) l y → Stuck (MayEnd t ws l) → LastLine t i l j → WithoutLast t n ws i j
  plain_without_last {l} {j} {y} d stuck a = go (last_of d.derived.text) where
    made : {k : ℕ} {x : List ℕ} → PlainText t n FlowOut i k x → (s : LastStart t n FlowOut k l) → WithoutLast t n ws i s.end.line
    made {k} {x} p s =
        let f = s.end.first in
        let g = break_forward s.end.ends in
        let h = whites_forward s.end.whites in
        let o = s.inside in
        let p' : Plain t n FlowOut i k x = record { text = p; clear = clear_front (omega arith) d.derived.clear } in
        record { place = k; text = x; derived = p'; end = s.end.end; best = cut_chosen p' d stuck s }

    go : LastOf t n FlowOut i l → WithoutLast t n ws i j
    go (on_first_line b) = absurd (none_inside u b a)
    go (on_next_line p b) =
        let s = last_start u b in
        let m = plain_later p in
        subst (λ w. WithoutLast t n ws i w) (last_line_one (last_line u s (omega arith)) a) (made p s)

  -- a scalar of one line
  pub plain_one_line : {l : ℕ} {y : List ℕ} → Chosen (Plain t n FlowOut i) l y → Stuck (MayEnd t ws l) → ((j : ℕ) → LastLine t i l j → ⊥) → Stuck (PlainPart t n ws i)
  plain_one_line {l} {y} d stuck none = go (last_of d.derived.text) where
    no_part : {j : ℕ} {x : List ℕ} {z : Meaning} → PlainLine t FlowOut i l x → PlainPart t n ws i j z → ⊥
    no_part {j} a (plain_part {l = h} {x = x} {ds = ds} q r) = ⊎_elim
        (λ (b : h < l).
        let e = tail_of u refl q d.derived b r.line in
        let f = e.end.first in
        let g = break_forward e.end.ends in
        let m = plain_later q.text in
        let w = whites_forward e.end.whites in
        let v = e.inside in
        (first_quiet u a).none e.end.line (omega arith) (omega arith) (after_break e.end.ends))
        (λ (b : l ≤ h).
        let f = d.longest h x q in
        let same : h ≡ l = omega arith in
        stuck.none j ds (subst (λ w. MayEnd t ws w j ds) same r))
        (cases_lt h l)

    go : LastOf t n FlowOut i l → Stuck (PlainPart t n ws i)
    go (on_first_line a) = record { none = λ j z p. no_part a p }
    go (on_next_line p b) =
        let s = last_start u b in
        let m = plain_later p in
        absurd (none s.end.line (last_line u s (omega arith)))

  -- if no plain scalar is derived, no part is one
  pub no_plain_part : Stuck (Plain t n FlowOut i) → Stuck (PlainPart t n ws i)
  no_plain_part s = record { none = λ j z p. go p } where
    go : {j : ℕ} {z : Meaning} → PlainPart t n ws i j z → ⊥
    go (plain_part {l = h} {x = x} q r) = s.none h x q

-- with the whole end of its last line it is the longest part
pub whole_plains : {t : List ℕ} → IsUtf8 t → WholePlain t
whole_plains u = record { whole = λ d e a. whole_plain u d (may_end_chosen e a) }
