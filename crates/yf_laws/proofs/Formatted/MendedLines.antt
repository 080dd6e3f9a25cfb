-- In a formatted text, line breaks are line feeds, the last line ends with one, and no byte order mark occurs.
use Rattle.std.proofs.Common.{◌≡◌, ℕ, ◌<◌, ◌≤◌, ◌⊎◌, inl, inr, ⊎_elim, List, [], ◌∷◌, length, refl, sym, ap, ◌∙◌, subst, arith}
use Rattle.std.specs.Prelude.{◌==◌, if◌then◌else◌}
use Rattle.std.specs.Str.{IsUtf8}
use Rattle.std.proofs.lemmas.Bool.{cases_lt}
use Rattle.yf_chars.specs.Text.{code}
use Rattle.yf_chars.proofs.TextLemmas.{within_from_code}
use Rattle.yf_chars.proofs.CharFacts.{mark_no_nb}
use Rattle.yf_lines.specs.Basic.{Break}
use Rattle.yf_lines.specs.declared.line.Line.{Line}
use Rattle.yf_lines.specs.Lines.{Table}
use Rattle.yf_lines.proofs.TableLemmas.{Follow, follow, line_of}
use Rattle.yf_events.specs.declared.lists.Lists.{Lists}
use Rattle.yf_forms.specs.declared.style.Style.{Style}
use Rattle.yf_laws.proofs.OutputLines.FormattedLines.{formed, formed_are, formed_lines}
use Rattle.yf_laws.proofs.OutputLines.LaidLines.{LinesAre, no_lines, more_lines, line_break, line_char, line_feed, line_text, nb_no}
use Rattle.yf_rule_sets.specs.RuleSets.Exact.{Exactly}
use Rattle.yf_laws.specs.Mended.{FormatsAreMended, IsFormatted}
use Rattle.yf_rule_sets.specs.Rules.{byte_order_mark, final_break, line_breaks}
use Rattle.yf_rule_sets.specs.RuleSets.Scalars.{LooseMark}
use Rattle.yf_rule_sets.specs.RuleSets.Scalars.LooseMark.{in_no_scalar}
use Rattle.yf_rule_sets.specs.Sets.{WithoutFinalBreak, first_return}
use Rattle.yf_rule_sets.specs.Sets.WithoutFinalBreak.{has_break, no_break, of_empty_text}

-- The facts about a formatted text.

pub record LinesOfFormatted (src : Table) : Type 0 where
  pub utf8 : IsUtf8 src.text
  pub texts : List (List ℕ)
  pub are : LinesAre src.text src.lines texts

pub lines_of_formatted : {src : Table} {r : Lists} {s : Style} → IsFormatted src r s → LinesOfFormatted src
lines_of_formatted {src} w =
    let a = formed w.utf8 w.formats in
    record { utf8 = a.utf8; texts = formed_lines w.formats; are = formed_are src.lines w.formats a w.lines }

-- a list that holds exactly the offsets of a definition that has none
pub exactly_none : {P : ℕ → ℕ → Type 0} (xs : List ℕ) → ((k x : ℕ) → P k x → ⊥) → Exactly P xs → xs ≡ []
exactly_none [] n e = refl
exactly_none (x ∷ xs) n e = let w = e.only x (0, omega arith, refl) in absurd (n w.0 x w.1)

-- Line breaks.

no_return : {t : List ℕ} {ls : List Line} {xs : List (List ℕ)} → IsUtf8 t → LinesAre t ls xs → first_return t ls ≡ []
no_return u no_lines = refl
no_return {t} u (more_lines {l = l} {ls = ls} a e more) = ap (λ c. if c == 13 then l.end ∷ [] else first_return t ls) (line_feed u a) ∙ no_return u more

pub line_breaks_mended : FormatsAreMended line_breaks
line_breaks_mended fixable src r s w offsets e = let a = lines_of_formatted w in e ∙ no_return a.utf8 a.are

-- The last line.

ends_with_break : {t : List ℕ} {q : ℕ} {ls : List Line} {xs : List (List ℕ)} → IsUtf8 t → LinesAre t ls xs → Follow t q (length t) ls → (q ≡ length t) ⊎ ((i : ℕ) × Break t i (length t))
ends_with_break u no_lines f = inl f
ends_with_break {t} u (more_lines {l = l} a e more) f =
    ⊎_elim (λ (e : l.next ≡ length t). inr (l.end, subst (λ k. Break t l.end k) e (line_break u a))) (λ (b : (i : ℕ) × Break t i (length t)). inr b) (ends_with_break u more f.2)

break_found : {t : List ℕ} {offsets : List ℕ} → (0 ≡ length t) ⊎ ((i : ℕ) × Break t i (length t)) → WithoutFinalBreak t offsets → offsets ≡ []
break_found a (of_empty_text e) = refl
break_found a (has_break b) = refl
break_found {t} a (no_break n f) = ⊎_elim (λ (e : 0 ≡ length t). absurd (n (sym e))) (λ (b : (i : ℕ) × Break t i (length t)). absurd (f b.0 b.1)) a

pub final_break_mended : FormatsAreMended final_break
final_break_mended fixable src r s w offsets e = let a = lines_of_formatted w in break_found (ends_with_break a.utf8 a.are (follow w.lines)) e

-- Byte order marks.

pub no_mark_there : {src : Table} {r : Lists} {s : Style} → IsFormatted src r s → (k : ℕ) → code src.text k ≡ 0xFEFF → ⊥
no_mark_there {src} w k e =
    let a = lines_of_formatted w in
    let at = line_of src.text src.lines k w.lines (within_from_code src.text k (omega (arith, e))) in
    let line = line_text at.index at.line a.are at.is in
    ⊎_elim (λ (l : k < at.line.end). nb_no 0xFEFF (code src.text k) (omega arith) mark_no_nb (line_char a.utf8 line.is k at.from l) e)
    (λ (l : at.line.end ≤ k).
    let last : k ≡ at.line.end = let n = line.is.next in let b = at.before in omega (arith, l, n, b) in
    let feed : code src.text k ≡ 10 = ap (code src.text) last ∙ line_feed a.utf8 line.is in
    omega (arith, feed, e))
    (cases_lt k at.line.end)

marked_there : {t : List ℕ} {r : Lists} {k x : ℕ} → LooseMark t r k x → code t k ≡ 0xFEFF
marked_there (in_no_scalar e n) = e

pub byte_order_mark_mended : FormatsAreMended byte_order_mark
byte_order_mark_mended fixable src r s w offsets e = exactly_none offsets (λ k x m. no_mark_there w k (marked_there m)) e
