-- A column counts the units of characters.
use Rattle.std.proofs.Common.{◌≡◌, ℕ, zero, suc, ◌+◌, ◌-◌, ◌<◌, ◌≤◌, false, List, [], ◌∷◌, length, take, drop, get_or, sum_by, refl, sym, ap, ◌∙◌, arith}
use Rattle.std.proofs.lemmas.List.{get_or-drop, length-drop}
use Rattle.std.proofs.lemmas.List.Sums.{sum_by-cons}
use Rattle.std.proofs.lemmas.Str.{IsUtf8-between, encodes-chars}
use Rattle.std.specs.Str.{IsCharBoundary, IsUtf8, chars}
use Rattle.yf_positions.specs.declared.encoding.Encoding.{Encoding}
use Rattle.yf_positions.specs.Units.{byte_units, char_units, is_break}
use Rattle.yf_positions.specs.Lines.{IsUnbroken}
use Rattle.yf_positions.specs.Offsets.{units_before, column_at}
use Rattle.yf_positions.proofs.ColumnLemmas.{units_of, units_chars}

-- up to a break all units count
units_taken : (e : Encoding) (t : List ℕ) (i : ℕ) → i ≤ length t → ((k : ℕ) → k < i → is_break (get_or t k 0) ≡ false)
    → units_before e t i ≡ units_of e (take i t)
units_taken e [] zero l h = refl
units_taken e [] (suc i) l h = absurd (omega arith)
units_taken e (c ∷ t) zero l h = refl
units_taken e (c ∷ t) (suc i) l h =
    let here : units_before e (c ∷ t) (suc i) ≡ byte_units e c + units_before e t i = rw (h 0 (omega arith)) refl in
    here
    ∙ ap (λ z. byte_units e c + z) (units_taken e t i (omega arith) (λ k a. h (suc k) (omega arith)))
    ∙ sym (sum_by-cons (byte_units e) c (take i t))

pub columns_count : (e : Encoding) (t : List ℕ) (start i : ℕ) → IsUtf8 t → IsCharBoundary t start → IsCharBoundary t i
    → IsUnbroken t start i → column_at e t start i ≡ sum_by (char_units e) (chars (take (i - start) (drop start t)))
columns_count e t start i u a b n =
    let part = take (i - start) (drop start t) in
    let text : IsUtf8 (take (i - start) (drop start t)) = IsUtf8-between t start i u n.order a b in
    units_taken e (drop start t) (i - start) (omega (arith, length-drop start t, n.bound))
    (λ k h. ap is_break (get_or-drop start t k 0) ∙ n.none (start + k) (omega arith) (omega arith))
    ∙ ap (units_of e) (sym (encodes-chars (take (i - start) (drop start t)) text))
    ∙ units_chars e (chars (take (i - start) (drop start t)))
