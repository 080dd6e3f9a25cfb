-- The span of a detail is not empty, unless something is missing there or the text ends there.
use Rattle.std.proofs.Common.{◌≡◌, ◌≢◌, ℕ, ◌+◌, ◌<◌, ◌≤◌, true, false, List, [], ◌∷◌, length, sym, subst, ◌∙◌, ⊎_elim, arith, eqb, if◌then◌else◌, true≢false}
use Rattle.std.specs.List.{Contains}
use Rattle.std.specs.Str.{IsCharBoundary, IsUtf8}
use Rattle.std.proofs.lemmas.Bool.{cases_Bool, cases_eq, cases_lt, eqb-true}
use Rattle.std.proofs.lemmas.List.Elements.{Contains-push_cases}
use Rattle.std.proofs.lemmas.Option.{same_Some}
use Rattle.yf_chars.specs.Class.{is_break_char, is_white}
use Rattle.yf_chars.specs.Text.{code}
use Rattle.yf_chars.proofs.ChainLemmas.{chain_forward, one_functional}
use Rattle.yf_chars.proofs.TextLemmas.{code_at_boundary}
use Rattle.yf_events.specs.declared.lists.Lists.{Lists}
use Rattle.yf_forms.specs.declared.style.Style.{Style}
use Rattle.yf_lines.specs.Basic.{Break}
use Rattle.yf_lines.specs.Basic.Break.{cr_lf, lone_cr}
use Rattle.yf_lines.specs.Lines.{AreLines, IsLine, LineEnd, Table, is_char}
use Rattle.yf_lines.specs.Lines.LineEnd.{at_break, at_end}
use Rattle.yf_lines.specs.declared.line.Line.{Line}
use Rattle.yf_lines.proofs.BasicLemmas.{break_forward}
use Rattle.yf_lines.proofs.MarkLemmas.{marks_order}
use Rattle.yf_lines.proofs.TableLemmas.{table_line}
use Rattle.yf_ranges.specs.Details.{DetailOf, HiddenDetail, MarkerDetail, is_missing}
use Rattle.yf_ranges.specs.Details.HiddenDetail.{one as hidden_one, none as hidden_none}
use Rattle.yf_ranges.specs.Details.MarkerDetail.{text_after, no_marker}
use Rattle.yf_ranges.specs.Spans.{BlankSpan, BreakSpan, LineRest, WhiteSpan}
use Rattle.yf_ranges.specs.Spans.BlankSpan.{blank as blank_span}
use Rattle.yf_ranges.specs.Spans.BreakSpan.{one as one_break, none as no_break}
use Rattle.yf_ranges.specs.declared.detail.Detail.{Detail}
use Rattle.yf_ranges.specs.declared.detail.Message.{Message}
use Rattle.yf_ranges.proofs.SpanLemmas.{character_filled}
use Rattle.yf_rule_sets.specs.RuleOf.{definition_of}
use Rattle.yf_rule_sets.specs.RuleSets.BlankLines.{MisplacedBlank}
use Rattle.yf_rule_sets.specs.RuleSets.BlankLines.MisplacedBlank.{misplaced}
use Rattle.yf_rule_sets.specs.RuleSets.ByLine.{BeyondLimit, TrailingBlank}
use Rattle.yf_rule_sets.specs.RuleSets.ByLine.BeyondLimit.{beyond}
use Rattle.yf_rule_sets.specs.RuleSets.ByLine.BlankEnd.{at_line_end}
use Rattle.yf_rule_sets.specs.RuleSets.ByLine.TrailingBlank.{trailing}
use Rattle.yf_rule_sets.specs.RuleSets.Whites.{WhitesEnd}
use Rattle.yf_rule_sets.specs.Sets.{first_return}
use Rattle.yf_rule_sets.specs.declared.rules.StyleRule.{StyleRule}
use Rattle.yf_rule_sets.specs.declared.rules.StyleRule.TheVariants.{TrailingBlanks, Indentation, Quoting, DocumentStart, FinalBreak, LineBreaks, ByteOrderMark, BlankLines, FlowLayout, CommentSpace, LineLength, RepeatedKeys, KeyMark, HiddenCharacter}
use Rattle.yf_rule_sets.proofs.Texts.WhitesLemmas.{white_within}

hidden_filled : {t : List ℕ} {d : Detail} → IsUtf8 t → IsCharBoundary t d.span.start → d.span.start < length t → HiddenDetail t d → d.span.start < d.span.end
hidden_filled u b l (hidden_one r m) = r.later
hidden_filled {t} {d} u b l (hidden_none n e m) = let h = code_at_boundary t d.span.start u b l in absurd (omega (arith, h, n))

-- white space
white_filled : {t : List ℕ} {s e : ℕ} → is_white (code t s) ≡ true → s ≤ e → WhiteSpan t s e → s < e
white_filled {t} {s} {e} h o w =
    ⊎_elim (λ (l : s < e). l)
    (λ (l : e ≤ s). absurd (true≢false (sym h ∙ subst (λ k. is_white (code t k) ≡ false) (omega (arith, o, l)) w.stops)))
    (cases_lt s e)

trailing_white : {src : Table} {r : Lists} {k o : ℕ} → TrailingBlank src r k o → is_white (code src.text o) ≡ true
trailing_white {o = o} (trailing (at_line_end e w h) n) = white_within o w.run (omega arith) h

-- breaks
break_order : {t : List ℕ} {s e : ℕ} → BreakSpan t s e → s ≤ e
break_order (one_break b) = let h = break_forward b in omega (arith, h)
break_order (no_break f) = omega arith

break_there : {t : List ℕ} {s e : ℕ} (j : ℕ) → Break t s j → BreakSpan t s e → s < e
break_there j b (one_break c) = break_forward c
break_there j b (no_break f) = absurd (f j b)

return_filled : (t : List ℕ) (s e : ℕ) → code t s ≡ 13 → BreakSpan t s e → s < e
return_filled t s e h b =
    ⊎_elim (λ (f : code t (s + 1) ≡ 10). break_there (s + 2) (cr_lf h f) b)
    (λ (n : code t (s + 1) ≢ 10). break_there (s + 1) (lone_cr h n) b)
    (cases_eq (code t (s + 1)) 10)

no_element : {o : ℕ} → Contains {X = ℕ} [] o → ⊥
no_element c = omega (arith, c.1)

one_element : (x o : ℕ) → Contains (x ∷ []) o → x ≡ o
one_element x o c = ⊎_elim (λ (n : Contains {X = ℕ} [] o). absurd (no_element n)) (λ (e : x ≡ o). e) (Contains-push_cases [] x o c)

return_code : (t : List ℕ) (ls : List Line) (o : ℕ) → Contains (first_return t ls) o → code t o ≡ 13
return_code t [] o c = absurd (no_element c)
return_code t (l ∷ ls) o c =
    ⊎_elim
    (λ (h : eqb (code t l.end) 13 ≡ true).
    let at : l.end ≡ o = one_element l.end o (subst (λ b. Contains (if b then l.end ∷ [] else first_return t ls) o) h c) in
    subst (λ k. code t k ≡ 13) at (eqb-true (code t l.end) 13 h))
    (λ (h : eqb (code t l.end) 13 ≡ false).
    return_code t ls o (subst (λ b. Contains (if b then l.end ∷ [] else first_return t ls) o) h c))
    (cases_Bool (eqb (code t l.end) 13))

-- blank lines
broken : {t : List ℕ} {i j : ℕ} → LineEnd t i j → i < j → Break t i j
broken (at_break b) l = b
broken (at_end e) l = absurd (omega (arith, l))

module _ (t : List ℕ) (m : Line) (line : IsLine t m) (white : WhitesEnd t m.start m.end m.start) where
  no_white : {e : ℕ} → is_white (code t m.start) ≡ false → BreakSpan t m.start e → m.start < e
  no_white {e} n b =
      ⊎_elim
      (λ (l : m.start < m.end). absurd (true≢false (sym (white_within m.start white.run (omega arith) l) ∙ n)))
      (λ (l : m.end ≤ m.start).
      let o = line.unbroken.order in
      let h : m.end ≡ m.start = omega (arith, o, l) in
      let next = line.order in
      break_there m.next (subst (λ k. Break t k m.next) h (broken line.ends (omega (arith, h, next)))) b)
      (cases_lt m.start m.end)

  blank_filled : {e : ℕ} → BlankSpan t m.start e → m.start < e
  blank_filled {e} (blank_span {middle = middle} w b) =
      let o : m.start ≤ middle = chain_forward (one_functional t is_white) w.run in
      ⊎_elim
      (λ (l : m.start < middle). let h = break_order b in omega (arith, l, h))
      (λ (l : middle ≤ m.start).
      let h : middle ≡ m.start = omega (arith, o, l) in
      no_white (subst (λ k. is_white (code t k) ≡ false) h w.stops) (subst (λ k. BreakSpan t k e) h b))
      (cases_lt m.start middle)

misplaced_filled : {src : Table} {r : Lists} {k s e : ℕ} → AreLines src.text src.lines → MisplacedBlank src r k s → BlankSpan src.text s e → s < e
misplaced_filled {src} {k = k} {e = e} lines (misplaced {l} at blank wrong) b =
    let same : blank.line ≡ l = same_Some _ _ (sym blank.at ∙ at) in
    let w : WhitesEnd src.text l.start l.end l.start = subst (λ (x : Line). WhitesEnd src.text x.start x.end x.start) same blank.white in
    blank_filled src.text l (table_line src.text src.lines k l lines at) w b

-- the rest of a line
rest_filled : {t : List ℕ} {s e count : ℕ} → is_break_char (code t s) ≡ false → s < length t → LineRest t s e count → s < e
rest_filled {t} {s} {e} n l r =
    let o = r.unbroken.order in
    ⊎_elim (λ (h : s < e). h)
    (λ (h : e ≤ s).
    let q : e ≡ s = omega (arith, o, h) in
    ⊎_elim (λ (y : is_break_char (code t e) ≡ true). absurd (true≢false (sym y ∙ subst (λ k. is_break_char (code t k) ≡ false) (sym q) n)))
    (λ (y : e ≡ length t). absurd (omega (arith, y, q, l))) r.stops)
    (cases_lt s e)

beyond_no_break : {src : Table} {max k o : ℕ} → AreLines src.text src.lines → BeyondLimit src max k o → is_break_char (code src.text o) ≡ false
beyond_no_break {src} {k = k} {o = o} lines (beyond {l} {start} at marks after) =
    let line : IsLine src.text l = table_line src.text src.lines k l lines at in
    let first = marks_order src.text l.start start marks in
    let second : start ≤ o = chain_forward (one_functional src.text is_char) after.run in
    line.unbroken.none o (omega (arith, first, second)) after.before

-- markers
marker_filled : {t : List ℕ} {d : Detail} → MarkerDetail t d → is_missing d.message ≡ false → d.span.start < d.span.end
marker_filled (text_after f e m) h = omega (arith, e)
marker_filled (no_marker f e m) h = absurd (true≢false (subst (λ (v : Message). is_missing v ≡ false) m h))

module _ (src : Table) (r : Lists) (style : Style) (u : IsUtf8 src.text) (lines : AreLines src.text src.lines) (os : List ℕ) (d : Detail)
    (among : Contains os d.span.start) (b : IsCharBoundary src.text d.span.start) (order : d.span.start ≤ d.span.end) where
  -- at an offset that a rule finds
  pub filled : (rule : StyleRule) → (definition_of rule).faults src r style os → DetailOf rule src.text style d
      → d.span.start < length src.text → is_missing d.message ≡ false → d.span.start < d.span.end
  filled TrailingBlanks e x l m = white_filled (trailing_white (e.only d.span.start among).1) order x.end
  filled Indentation e x l m = character_filled u b l x.end
  filled Quoting e x l m = character_filled u b l x.end
  filled DocumentStart e x l m = marker_filled x m
  filled FinalBreak e x l m = absurd (true≢false (subst (λ (v : Message). is_missing v ≡ false) x.says m))
  filled LineBreaks e x l m =
      return_filled src.text d.span.start d.span.end (return_code src.text src.lines d.span.start (subst (λ v. Contains v d.span.start) e among)) x.end
  filled ByteOrderMark e x l m = character_filled u b l x.end
  filled BlankLines e x l m = misplaced_filled lines (e.only d.span.start among).1 x.end
  filled FlowLayout e x l m = character_filled u b l x.end
  filled CommentSpace e x l m = character_filled u b l x.end
  filled LineLength e x l m = rest_filled (beyond_no_break lines (e.only d.span.start among).1) l x.rest
  filled RepeatedKeys e x l m = character_filled u b l x.end
  filled KeyMark e x l m = character_filled u b l x.end
  filled HiddenCharacter e x l m = hidden_filled u b l x
