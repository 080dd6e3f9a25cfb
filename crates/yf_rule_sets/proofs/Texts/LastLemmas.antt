-- The last bytes of a line decide whether its text ends with white space.
use Rattle.std.proofs.Common.{◌≡◌, ℕ, ◌+◌, ◌-◌, ◌<◌, ◌≤◌, Bool, true, false, List, Some, length, get_or, sym, subst, ◌∙◌, ⊎_elim, arith, true≢false}
use Rattle.std.specs.Prelude.{slice_get}
use Rattle.std.specs.Str.{IsUtf8}
use Rattle.std.proofs.lemmas.Bool.{cases_Bool}
use Rattle.std.proofs.lemmas.Option.{same_Some}
use Rattle.yf_chars.specs.Class.{is_white}
use Rattle.yf_chars.specs.Text.{code}
use Rattle.yf_chars.proofs.TextLemmas.{byte_from_code, code_from_byte}
use Rattle.yf_lines.specs.Basic.Break.{cr_lf, lone_cr, lone_lf}
use Rattle.yf_lines.specs.Lines.{IsLine, LineEnd, Table, NoBreakIn}
use Rattle.yf_lines.specs.Lines.LineEnd.{at_break, at_end}
use Rattle.yf_lines.specs.declared.line.Line.{Line}
use Rattle.yf_lines.proofs.BasicLemmas.{white_cases}
use Rattle.yf_lines.proofs.LineLemmas.{lf_breaks}
use Rattle.yf_rule_sets.specs.RuleSets.ByLine.{BlankEnd}
use Rattle.yf_rule_sets.specs.RuleSets.ByLine.BlankEnd.{at_line_end}
use Rattle.yf_rule_sets.specs.RuleSets.Whites.{WhitesEnd}
use Rattle.yf_rule_sets.proofs.Texts.WhitesLemmas.{white_within}

-- a line's text ends before a line feed and after a byte above the space
text_before_feed : {t : List ℕ} {e n : ℕ} (s : ℕ) → IsUtf8 t → LineEnd t e n → NoBreakIn t s e → s + 2 ≤ n → code t (n - 1) ≡ 10 → 32 < get_or t (n - 2) 0 → e + 1 ≡ n
text_before_feed {t} s u (at_break (cr_lf {i} a b)) w l c d =
    let x = byte_from_code t i u (omega (arith, a)) in
    let same : i + 2 - 2 ≡ i = omega arith in
    let y : 32 < get_or t i 0 = subst (λ k. 32 < get_or t k 0) same d in
    absurd (omega (arith, x.1, y, a))
text_before_feed {t} s u (at_break (lone_cr {i} a b)) w l c d =
    let same : i + 1 - 1 ≡ i = omega arith in
    let y : code t i ≡ 10 = subst (λ k. code t k ≡ 10) same c in
    absurd (omega (arith, y, a))
text_before_feed s u (at_break (lone_lf a b)) w l c d = omega arith
text_before_feed {t} s u (at_end {i} e) w l c d = absurd (true≢false (sym (lf_breaks t (i - 1) c) ∙ w.none (i - 1) (omega (arith, l)) (omega (arith, l))))

-- a byte above the space is not white space
not_white : (t : List ℕ) (i : ℕ) → IsUtf8 t → 32 < get_or t i 0 → is_white (code t i) ≡ false
not_white t i u d =
    ⊎_elim (λ (e : is_white (code t i) ≡ true).
    absurd (⊎_elim (λ (h : code t i ≡ 32). let x = byte_from_code t i u (omega (arith, h)) in omega (arith, x.1, h, d))
    (λ (h : code t i ≡ 9). let x = byte_from_code t i u (omega (arith, h)) in omega (arith, x.1, h, d)) (white_cases (code t i) e)))
    (λ (e : is_white (code t i) ≡ false). e)
    (cases_Bool (is_white (code t i)))

pub line_in_text : (t : List ℕ) (l : Line) → IsUtf8 t → IsLine t l → l.start + 2 ≤ l.next → l.next ≤ length t → get_or t (l.next - 1) 0 ≡ 10 → 32 < get_or t (l.next - 2) 0
    → (l.start < l.end) × (is_white (code t (l.end - 1)) ≡ false)
line_in_text t l u is w n a b =
    let c : code t (l.next - 1) ≡ 10 = code_from_byte t (l.next - 1) u (omega (arith, w, n)) (omega (arith, a)) ∙ a in
    let e : l.end + 1 ≡ l.next = text_before_feed l.start u is.ends is.unbroken w c b in
    let same : l.next - 2 ≡ l.end - 1 = omega (arith, e) in
    (omega (arith, e, w), subst (λ k. is_white (code t k) ≡ false) same (not_white t (l.next - 2) u b))

-- the line of an index is unique
pub same_line : (src : Table) (k : ℕ) (a b : Line) → slice_get src.lines k ≡ Some a → slice_get src.lines k ≡ Some b
    → (a.start < a.end) × (is_white (code src.text (a.end - 1)) ≡ false) → (b.start < b.end) × (is_white (code src.text (b.end - 1)) ≡ false)
same_line src k a b e f h = subst (λ (l : Line). (l.start < l.end) × (is_white (code src.text (l.end - 1)) ≡ false)) (same_Some _ _ (sym e ∙ f)) h

-- no such line ends with white space
pub no_white_end : (t : List ℕ) (start end o : ℕ) → is_white (code t (end - 1)) ≡ false → WhitesEnd t start end o → o < end → ⊥
no_white_end t start end o f w l = true≢false (sym (white_within (end - 1) w.run (omega (arith, l)) (omega (arith, l))) ∙ f)

abbrev pub EndsInText : Table → ℕ → Type 0
EndsInText src k = (l : Line) → slice_get src.lines k ≡ Some l → (l.start < l.end) × (is_white (code src.text (l.end - 1)) ≡ false)

pub text_no_blank_end : (src : Table) (k : ℕ) (b : Bool) → EndsInText src k → (o : ℕ) → BlankEnd src k b o → ⊥
text_no_blank_end src k b f o (at_line_end {l} e w h) = no_white_end src.text l.start l.end o (f l e).1 w h

-- the line of that index has no text, or a last character that is not white space
pub empty_no_blank_end : (src : Table) (k : ℕ) (l : Line) → slice_get src.lines k ≡ Some l → l.end ≤ l.start → (o : ℕ) → BlankEnd src k false o → ⊥
empty_no_blank_end src k l e n o (at_line_end {l = m} f w h) =
    let same : l ≡ m = same_Some _ _ (sym e ∙ f) in
    let z : m.end ≤ m.start = subst (λ (x : Line). x.end ≤ x.start) same n in
    let from = w.from in
    omega (arith, from, h, z)

pub last_no_blank_end : (src : Table) (k : ℕ) (l : Line) → slice_get src.lines k ≡ Some l → is_white (code src.text (l.end - 1)) ≡ false
    → (o : ℕ) → BlankEnd src k false o → ⊥
last_no_blank_end src k l e n o (at_line_end {l = m} f w h) =
    let same : l ≡ m = same_Some _ _ (sym e ∙ f) in
    no_white_end src.text m.start m.end o (subst (λ (x : Line). is_white (code src.text (x.end - 1)) ≡ false) same n) w h
