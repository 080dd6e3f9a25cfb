-- The offsets at which lines begin: how they are found, and looked up.
use Rattle.std.proofs.Common.{◌≡◌, ℕ, suc, ◌+◌, ◌-◌, ◌<◌, ◌≤◌, false, ⊎_elim, List, [], ◌∷◌, ◌++◌, length, drop, get_or, refl, sym, ap, ◌∙◌, subst, arith, get_or-drop, length-drop}
use Rattle.std.proofs.lemmas.Bool.{cases_lt, false_from_ne_true}
use Rattle.std.proofs.lemmas.List.{get_or_append_left, get_or_push, length_push}
use Rattle.memchr.specs.Find.{NoneBefore, Nowhere, Passes, is_byte2}
use Rattle.yf_positions.specs.Units.{is_break}
use Rattle.yf_positions.specs.Lines.{lines_before, line_start, AreLineStarts, IsUnbroken, FirstBreak, LineEndsAt}
use Rattle.yf_positions.proofs.LineLemmas.{lines_before-zero, line_start-zero, lines_most, start_above, start_below, unbroken_same}

-- the result of a search of the rest of a text
none_between : (t : List ℕ) (from n : ℕ) → Nowhere (Passes (is_byte2 10 13) (drop from t)) 0 n → (k : ℕ) → from ≤ k
    → k < from + n → is_break (get_or t k 0) ≡ false
none_between t from n none k a b =
    let place : from + (k - from) ≡ k = omega arith in
    let same : get_or (drop from t) (k - from) 0 ≡ get_or t k 0 = get_or-drop from t (k - from) 0
    ∙ ap (λ z. get_or t z 0) place in
    false_from_ne_true (is_break (get_or t k 0)) (λ yes. none (k - from) (omega arith) (omega arith) (ap is_break same
    ∙ yes))

pub found_break : (t : List ℕ) (from k : ℕ) → from ≤ length t
    → NoneBefore (Passes (is_byte2 10 13) (drop from t)) 0 (length (drop from t)) k
    → Passes (is_byte2 10 13) (drop from t) k → FirstBreak t from (from + k)
found_break t from k l first here =
    let size : length (drop from t) ≡ length t - from = length-drop from t in
    let high : k < length (drop from t) = first.high in
    record {
      before = record { order = omega arith; bound = omega arith; none = none_between t from k first.before };
      within = omega arith;
      here = ap is_break (sym (get_or-drop from t k 0)) ∙ here;
    }

pub found_none : (t : List ℕ) (from : ℕ) → from ≤ length t
    → Nowhere (Passes (is_byte2 10 13) (drop from t)) 0 (length (drop from t)) → IsUnbroken t from (length t)
found_none t from l none =
    let size : length (drop from t) ≡ length t - from = length-drop from t in
    record {
      order = l;
      bound = omega arith;
      none =
          λ k a b. none_between t from (length (drop from t)) none k a (omega arith);
    }

-- the starts of the lines that begin up to an offset
pub record StartsTo (starts t : List ℕ) (at : ℕ) : Type 0 where
  pub bound : at ≤ length t
  pub count : length starts ≡ suc (lines_before t at)
  pub each : (k : ℕ) → k < length starts → get_or starts k 0 ≡ line_start t k

pub starts_first : (starts t : List ℕ) → starts ≡ 0 ∷ [] → StartsTo starts t 0
starts_first starts t e = subst (λ z. StartsTo z t 0) (sym e) (record {
  bound = omega arith;
  count = ap suc (sym (lines_before-zero t));
  each = λ k h. let first : k ≡ 0 = omega arith in subst (λ n. get_or (0 ∷ []) n 0 ≡ line_start t n) (sym first)
      (sym (line_start-zero t));
})

pub starts_more : (starts after t : List ℕ) (at end next : ℕ) → StartsTo starts t at → FirstBreak t at end
    → LineEndsAt t end next → after ≡ starts ++ next ∷ [] → StartsTo after t next
starts_more starts after t at end next s f ends made =
    let same : lines_before t end ≡ lines_before t at = unbroken_same t at end f.before in
    let count : length starts ≡ suc (lines_before t at) = s.count in
    let more : lines_before t next ≡ suc (lines_before t end) = ends.count in
    let size : length (starts ++ next ∷ []) ≡ length starts + 1 = length_push starts next in
    let last : line_start t (length starts) ≡ next = ap (line_start t) (count ∙ ap suc (sym same)) ∙ ends.begins in
    subst (λ z. StartsTo z t next) (sym made) (record {
      bound = ends.bound;
      count = omega arith;
      each = λ k h.
          ⊎_elim (λ (l : k < length starts). get_or_append_left starts (next ∷ []) 0 k l ∙ s.each k l)
          (λ (l : length starts ≤ k).
          let is : k ≡ length starts = omega arith in
          subst (λ n. get_or (starts ++ next ∷ []) n 0 ≡ line_start t n) (sym is)
          (get_or_push starts next 0 (length starts) refl ∙ sym last))
          (cases_lt k (length starts));
    })

pub starts_done : (starts t : List ℕ) (at : ℕ) → StartsTo starts t at → IsUnbroken t at (length t)
    → AreLineStarts starts t
starts_done starts t at s u = record { count = s.count ∙ ap suc (sym (unbroken_same t at (length t) u)); each = s.each }

-- the line that is left when the search has halved often enough
pub found_line : (starts t : List ℕ) (low high offset : ℕ) → AreLineStarts starts t → high ≤ low + 1 → low < high
    → high ≤ length starts → line_start t low ≤ offset → (high < length starts → offset < line_start t high)
    → low ≡ lines_before t offset
found_line starts t low high offset s e o h a b =
    let count : length starts ≡ suc (lines_before t (length t)) = s.count in
    let most : lines_before t offset ≤ lines_before t (length t) = lines_most t offset in
    let low_ok : low ≤ lines_before t offset =
    ⊎_elim (λ (c : lines_before t offset < low). absurd (let above : offset < line_start t low =
    start_above t low offset c (omega arith) in omega arith))
    (λ (c : low ≤ lines_before t offset). c)
    (cases_lt (lines_before t offset) low) in
    let high_ok : lines_before t offset < high =
    ⊎_elim (λ (c : lines_before t offset < high). c)
    (λ (c : high ≤ lines_before t offset).
    let below : line_start t high ≤ offset = start_below t high offset c in
    let inside : high < length starts = omega arith in
    let over : offset < line_start t high = b inside in
    absurd (omega arith))
    (cases_lt (lines_before t offset) high) in
    omega arith
