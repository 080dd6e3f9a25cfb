-- In a formatted text, two spaces are before each comment that doesn't begin its line.
use Rattle.std.proofs.Common.{◌≡◌, ◌≢◌, ℕ, ◌-◌, ◌⊎◌, inl, inr, ⊎_elim, true, false, List, sym, ap, ◌∙◌, subst, arith, add-zero}
use Rattle.std.specs.Str.{IsUtf8}
use Rattle.std.proofs.lemmas.Bool.{cases_Bool, cases_eq}
use Rattle.yf_chars.specs.Class.{is_white}
use Rattle.yf_chars.specs.Text.{code}
use Rattle.yf_lines.specs.Basic.{LineStart}
use Rattle.yf_lines.specs.Lines.{Table}
use Rattle.yf_lines.proofs.BasicLemmas.{reads_white, white_cases}
use Rattle.yf_lines.proofs.ClearLemmas.{quiet_char}
use Rattle.yf_comments.proofs.GapLinesLemmas.{spaces_whites}
use Rattle.yf_events.specs.declared.lists.Lists.{Lists}
use Rattle.yf_forms.specs.declared.style.Style.{Style}
use Rattle.yf_laws.proofs.OutputLines.FormattedHeld.{reading_held}
use Rattle.yf_laws.proofs.OutputLines.FormattedLines.{formed}
use Rattle.yf_laws.proofs.OutputLines.WellSet.{WellSet, at_line, after_two}
use Rattle.yf_laws.specs.Mended.{FormatsAreMended, IsFormatted}
use Rattle.yf_rule_sets.specs.Rules.{comment_space}
use Rattle.yf_rule_sets.specs.RuleSets.Whites.{CloseComment, IsClose, WhitesEnd}
use Rattle.yf_rule_sets.specs.RuleSets.Whites.CloseComment.{of_comment}
use Rattle.yf_laws.proofs.Formatted.MendedLines.{exactly_none}
use Rattle.yf_rule_sets.proofs.Texts.WhitesLemmas.{at_line_start, at_two_spaces}

-- no white space is before the start of a line
start_no_white : {t : List ℕ} {k : ℕ} → IsUtf8 t → LineStart t k → (k ≡ 0) ⊎ (is_white (code t (k - 1)) ≡ false)
start_no_white {t} {k} u s =
    ⊎_elim (λ (z : k ≡ 0). inl z)
    (λ (n : k ≢ 0). ⊎_elim (λ (w : is_white (code t (k - 1)) ≡ true).
    let c = white_cases (code t (k - 1)) w in
    let quiet = quiet_char u (reads_white t (k - 1) u w) (λ e. omega (arith, c, e)) (λ e. omega (arith, c, e)) (λ e. omega (arith, c, e)) in
    absurd (quiet.none k (omega (arith, n)) (omega (arith, n)) s))
    (λ (w : is_white (code t (k - 1)) ≡ false). inr w) (cases_Bool (is_white (code t (k - 1)))))
    (cases_eq k 0)

-- a comment that is well set is not at fault
not_close : {t : List ℕ} {o : ℕ} → IsUtf8 t → WellSet t o → IsClose t o → ⊥
not_close {t} {o} u (at_line {k = k} {x = x} s m) c = at_line_start t o k (record { whites = x; run = m; first = start_no_white u s; from = omega arith }) s c
not_close {t} {o} u (after_two {k = k} n s e) c =
    let run = spaces_whites 2 k s in
    let whole : WhitesEnd t 0 o k = subst (λ j. WhitesEnd t 0 j k) (sym e) (record { whites = run.0; run = run.1; first = inr n; from = omega arith }) in
    at_two_spaces t o k whole (record { two = e; first = ap (code t) (sym (add-zero k)) ∙ s.each 0 (omega arith); second = s.each 1 (omega arith) }) c

none_close : {src : Table} {r : Lists} {s : Style} → IsFormatted src r s → (k x : ℕ) → CloseComment src.text r k x → ⊥
none_close w k x (of_comment {c = c} e near) = not_close (formed w.utf8 w.formats).utf8 ((reading_held w.utf8 w.formats w.reads).comments k c e) near

pub comment_space_mended : FormatsAreMended comment_space
comment_space_mended fixable src r s w offsets e = exactly_none offsets (none_close w) e
