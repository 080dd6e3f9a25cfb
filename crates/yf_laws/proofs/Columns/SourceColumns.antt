-- The columns of offsets after spaces, or after spaces and signs, on their line.
use Rattle.std.proofs.Common.{◌≡◌, ℕ, zero, suc, ◌+◌, ◌-◌, ◌<◌, ◌≤◌, Bool, true, false, List, Option, Some, None, refl, sym, ap, ◌∙◌, arith, add-one, add-zero}
use Rattle.std.proofs.lemmas.Bool.Decides.{nat_tests}
use Rattle.std.specs.Char.{len_utf8}
use Rattle.std.specs.Str.{IsUtf8}
use Rattle.yf_chars.proofs.TextLemmas.{next_ascii}
use Rattle.yf_comments.proofs.BlankLemmas.{same_place}
use Rattle.std.specs.Prelude.{◌==◌, if◌then◌else◌, option_map}
use Rattle.yf_chars.specs.Class.{is_break_char, is_white}
use Rattle.yf_chars.specs.Signs.{BYTE_ORDER_MARK}
use Rattle.yf_chars.specs.Text.{code, next}
use Rattle.yf_lines.specs.Basic.{Break, LineStart, Spaces}
use Rattle.yf_lines.specs.Basic.LineStart.{after_break, after_mark, at_text}
use Rattle.yf_lines.specs.Basic.Break.{cr_lf, lone_cr, lone_lf}
use Rattle.yf_print.specs.Layouts.SourceColumns.{column_after, column_by, is_white_or_sign}

-- after one character
column_step : (t : List ℕ) (i : ℕ) {c : ℕ} (p : ℕ → Bool) → code t i ≡ c → column_by p t (i + 1) ≡ column_after p c (code t (i - 2)) (column_by p t i)
unfolding column_by
column_step t i p e = ap (column_by p t) (add-one i) ∙ ap (λ z. column_after p z (code t (i - 2)) (column_by p t i)) e

pub text_column : (p : ℕ → Bool) (t : List ℕ) → column_by p t 0 ≡ Some 0
unfolding column_by
text_column p t = refl

feed_breaks : is_break_char 10 ≡ true
unfolding is_break_char
feed_breaks = refl

return_breaks : is_break_char 13 ≡ true
unfolding is_break_char
return_breaks = refl

break_column : (p : ℕ → Bool) (c mark : ℕ) (o : Option ℕ) → is_break_char c ≡ true → column_after p c mark o ≡ Some 0
break_column p c mark o e = ap (λ b. if b then Some 0 else if p c then option_map suc o else if mark == BYTE_ORDER_MARK then Some 0 else None) e

-- at the start of a line
pub column_break : {t : List ℕ} {h k : ℕ} (p : ℕ → Bool) → Break t h k → column_by p t k ≡ Some 0
column_break {t} p (cr_lf {i = i} e f) =
    let there : i + 2 ≡ i + 1 + 1 = omega arith in
    ap (column_by p t) there ∙ (column_step t (i + 1) p f ∙ break_column p 10 (code t (i + 1 - 2)) (column_by p t (i + 1)) feed_breaks)
column_break {t} p (lone_cr {i = i} e f) = column_step t i p e ∙ break_column p 13 (code t (i - 2)) (column_by p t i) return_breaks
column_break {t} p (lone_lf {i = i} e f) = column_step t i p e ∙ break_column p 10 (code t (i - 2)) (column_by p t i) feed_breaks

class_column : (p : ℕ → Bool) (c mark n : ℕ) → is_break_char c ≡ false → p c ≡ true → column_after p c mark (Some n) ≡ Some (suc n)
class_column p c mark n e f =
    ap (λ b. if b then Some 0 else if p c then Some (suc n) else if mark == BYTE_ORDER_MARK then Some 0 else None) e
    ∙ ap (λ b. if b then Some (suc n) else if mark == BYTE_ORDER_MARK then Some 0 else None) f

-- after that many characters of the class
pub column_run : (t : List ℕ) (p : ℕ → Bool) (i m n : ℕ) → ((k : ℕ) → k < n → (is_break_char (code t (i + k)) ≡ false) × (p (code t (i + k)) ≡ true)) → column_by p t i ≡ Some m → column_by p t (i + n) ≡ Some (m + n)
column_run t p i m zero f e = ap (column_by p t) (add-zero i) ∙ (e ∙ ap Some (sym (add-zero m)))
column_run t p i m (suc n) f e =
    let there : i + suc n ≡ i + n + 1 = omega arith in
    let sum : suc (m + n) ≡ m + suc n = omega arith in
    let here = f n (omega arith) in
    ap (column_by p t) there
    ∙ (column_step t (i + n) p refl
    ∙ (ap (λ o. column_after p (code t (i + n)) (code t (i + n - 2)) o) (column_run t p i m n (λ k l. f k (omega (arith, l))) e)
    ∙ (class_column p (code t (i + n)) (code t (i + n - 2)) (m + n) here.0 here.1 ∙ ap Some sum)))

space_breaks : is_break_char 32 ≡ false
unfolding is_break_char
space_breaks = refl

-- after spaces
pub column_spaces : {t : List ℕ} {i m n : ℕ} (p : ℕ → Bool) → p 32 ≡ true → Spaces t i n → column_by p t i ≡ Some m → column_by p t (i + n) ≡ Some (m + n)
column_spaces {t} {i} {m} {n} p q s e = column_run t p i m n (λ k l. (ap is_break_char (s.each k l) ∙ space_breaks, ap p (s.each k l) ∙ q)) e

pub space_signs : is_white_or_sign 32 ≡ true
unfolding is_white
space_signs = refl

-- one more
pub column_one : (t : List ℕ) (i : ℕ) {m c : ℕ} (p : ℕ → Bool) → code t i ≡ c → is_break_char c ≡ false → p c ≡ true → column_by p t i ≡ Some m → column_by p t (i + 1) ≡ Some (m + 1)
column_one t i {m} {c} p e f g h =
    let sum : suc m ≡ m + 1 = omega arith in
    column_step t i p e ∙ (ap (λ o. column_after p c (code t (i - 2)) o) h ∙ (class_column p c (code t (i - 2)) m f g ∙ ap Some sum))

pub sign_breaks : (c : ℕ) → 32 ≤ c → is_break_char c ≡ false
unfolding is_break_char
sign_breaks c l = grind (arith, nat_tests)

pub signs_low : (c : ℕ) → is_white_or_sign c ≡ true → c < 128
unfolding is_white
signs_low c e = grind (arith, nat_tests)

-- a line begins after a mark
column_mark : {t : List ℕ} (i : ℕ) → IsUtf8 t → (p : ℕ → Bool) → ((c : ℕ) → p c ≡ true → c < 128) → code t i ≡ BYTE_ORDER_MARK → column_by p t (next t i) ≡ Some 0
unfolding next
column_mark {t} i u p low e =
    let three : i + len_utf8 (code t i) ≡ i + 2 + 1 = ap (λ c. i + len_utf8 c) e ∙ wide i in
    let back : i + 2 - 2 ≡ i = omega arith in
    ap (column_by p t) three
    ∙ (column_step t (i + 2) p refl ∙ (ap (λ k. column_after p (code t (i + 2)) (code t k) (column_by p t (i + 2))) back ∙ go (is_break_char (code t (i + 2))) (p (code t (i + 2))) refl)) where
      wide : (i : ℕ) → i + len_utf8 BYTE_ORDER_MARK ≡ i + 2 + 1
      wide i = omega arith

      inside : p (code t (i + 2)) ≡ true → ⊥
      inside f =
          let small : code t (i + 2) < 128 = low (code t (i + 2)) f in
          let here : next t (i + 2) ≡ i + 2 + 1 = next_ascii t (i + 2) small in
          let there : next t i ≡ i + 2 + 1 = ap (λ c. i + len_utf8 c) e ∙ wide i in
          let same : i ≡ i + 2 = same_place t i (i + 2) u (omega (arith, e)) (omega (arith, small)) (there ∙ sym here) in
          omega (arith, same)

      go : (b d : Bool) → p (code t (i + 2)) ≡ d → (if b then Some 0 else if d then option_map suc (column_by p t (i + 2)) else if code t i == BYTE_ORDER_MARK then Some 0 else None) ≡ Some 0
      go true d f = refl
      go false true f = absurd (inside f)
      go false false f = ap (λ c. if c == BYTE_ORDER_MARK then Some 0 else None) e

pub column_line : {t : List ℕ} {i : ℕ} → IsUtf8 t → (p : ℕ → Bool) → ((c : ℕ) → p c ≡ true → c < 128) → LineStart t i → column_by p t i ≡ Some 0
column_line {t} u p low at_text = text_column p t
column_line u p low (after_break b) = column_break p b
column_line u p low (after_mark {i = i} s e) = column_mark i u p low e

pub dash_sign : is_white_or_sign 45 ≡ true
unfolding is_white
dash_sign = refl

pub question_sign : is_white_or_sign 63 ≡ true
unfolding is_white
question_sign = refl

pub colon_sign : is_white_or_sign 58 ≡ true
unfolding is_white
colon_sign = refl
