-- The walk of `is_blank_after` back over spaces, and over a line feed, to a visible character meets no blank line.
use Rattle.std.proofs.Common.{◌≡◌, ◌≢◌, ℕ, zero, suc, ◌+◌, ◌-◌, ◌<◌, ◌≤◌, Bool, true, false, ⊎_elim, List, length, get_or, MatchBool, sym, ap, ◌∙◌, subst, arith}
use Rattle.std.proofs.lemmas.Bool.{cases_lt, cases_Bool}
use Rattle.std.specs.Bool.{⊤}
use Rattle.std.specs.Str.{IsUtf8}
use Rattle.yf_chars.specs.Class.{is_white}
use Rattle.yf_chars.specs.Text.{code}
use Rattle.yf_chars.proofs.TextLemmas.{code_from_byte, bytes_from_mark}
use Rattle.yf_lines.specs.Basic.{Break, Spaces}
use Rattle.yf_lines.specs.Basic.Break.{lone_lf}
use Rattle.yf_lines.proofs.BasicLemmas.{break_end, white_cases, white_of_space}
use Rattle.yf_block.specs.WalksBack.{WalksBack, white_passed, break_passed, nothing_passed}

not_white : (c : ℕ) → c ≢ 32 → c ≢ 9 → is_white c ≡ false
not_white c m n =
    ⊎_elim (λ (e : is_white c ≡ true). ⊎_elim (λ (h : c ≡ 32). absurd (m h)) (λ (h : c ≡ 9). absurd (n h)) (white_cases c e))
    (λ (e : is_white c ≡ false). e)
    (cases_Bool (is_white c))

module _ (t : List ℕ) (u : IsUtf8 t) where
  no_mark : (j : ℕ) → get_or t (j - 1) 0 < 128 → 3 ≤ j → code t (j - 3) ≢ 0xFEFF
  no_mark j b l e =
      let same : j - 3 + 2 ≡ j - 1 = omega arith in
      let last : get_or t (j - 1) 0 ≡ 191 = ap (λ v. get_or t v 0) (sym same) ∙ (bytes_from_mark t (j - 3) u e).3 in
      omega arith

  module _ (floor : ℕ) where
    -- a visible character ends there
    module _ (j : ℕ) (z : floor < j) (w : j ≤ length t) (a : 32 < get_or t (j - 1) 0) (b : get_or t (j - 1) 0 ≤ 126) where
      visible : code t (j - 1) ≡ get_or t (j - 1) 0
      visible = code_from_byte t (j - 1) u (omega arith) (omega arith)

      no_break_there : (i : ℕ) → Break t i j → ⊥
      no_break_there i k =
          let c = visible in
          ⊎_elim (λ (h : code t (j - 1) ≡ 10). omega arith) (λ (h : (code t (j - 1) ≡ 13) × (code t j ≢ 10)). let l = h.0 in omega arith) (break_end k)

      visible_back : (blank : Bool) → WalksBack t floor j blank false
      visible_back blank =
          let c = visible in
          nothing_passed z (not_white (code t (j - 1)) (λ e. omega arith) (λ e. omega arith)) no_break_there (no_mark j (omega arith))

    spaces_back : (j k : ℕ) {b r : Bool} → floor ≤ j → Spaces t j k → WalksBack t floor j b r → WalksBack t floor (j + k) b r
    spaces_back j zero {b} {r} l s d = subst (λ i. WalksBack t floor i b r) (omega arith) d
    spaces_back j (suc k) {b} {r} l s d =
        let same : j + k ≡ j + suc k - 1 = omega arith in
        white_passed (omega arith) (white_of_space _ (ap (code t) (sym same) ∙ s.each k (omega arith)))
        (subst (λ i. WalksBack t floor i b r) same (spaces_back j k l (record { each = λ m o. s.each m (omega arith) }) d))

  module _ (w : List ℕ) (e : w ≡ t) where
    char_of : (i : ℕ) → i < length t → get_or w i 0 < 128 → code t i ≡ get_or w i 0
    char_of i l m = code_from_byte t i u l (subst (λ z. get_or z i 0 < 128) e m) ∙ ap (λ z. get_or z i 0) (sym e)

    pub space_more : (i k n : ℕ) → 0 < i → i ≤ length t → get_or w (i - 1) 0 ≡ 32 → n ≡ k + 1 → Spaces t i k → Spaces t (i - 1) n
    space_more i k n z l b f s = record {
      each = λ m o. ⊎_elim
          (λ (p : m < 1). let same : i - 1 + m ≡ i - 1 = omega arith in ap (code t) same ∙ char_of (i - 1) (omega arith) (omega arith) ∙ b)
          (λ (p : 1 ≤ m). let same : i - 1 + m ≡ i + (m - 1) = omega arith in ap (code t) same ∙ s.each (m - 1) (omega arith))
          (cases_lt m 1);
    }

    module _ (floor i at : ℕ) (l : i ≤ at) (r : at ≤ length t) (s : Spaces t i (at - i)) where
      from_spaces : {a : Bool} → floor ≤ i → WalksBack t floor i false a → WalksBack t floor at false a
      from_spaces {a} z d = subst (λ k. WalksBack t floor k false a) (omega arith) (spaces_back floor i (at - i) z s d)

      -- a visible character is before the spaces
      pub after_text : (b : Bool) → floor + 2 ≤ i → MatchBool b ((32 < get_or w (i - 1) 0) × (get_or w (i - 1) 0 ≤ 126)) ⊤ → MatchBool b (WalksBack t floor at false false) ⊤
      after_text false z v = tt
      after_text true z v = from_spaces (omega arith)
          (visible_back floor i (omega arith) (omega arith) (subst (λ k. 32 < get_or k (i - 1) 0) e v.0) (subst (λ k. get_or k (i - 1) 0 ≤ 126) e v.1) false)

      -- a line feed is before the spaces, and a visible character before it
      pub after_line : (b : Bool) → floor + 2 ≤ i → get_or w (i - 1) 0 ≡ 10 → MatchBool b ((32 < get_or w (i - 2) 0) × (get_or w (i - 2) 0 ≤ 126)) ⊤
          → MatchBool b (WalksBack t floor at false false) ⊤
      after_line false z f v = tt
      after_line true z f v =
          let same : i - 1 - 1 ≡ i - 2 = omega arith in
          let low = subst (λ (k : ℕ). 32 < get_or t k 0) (sym same) (subst (λ k. 32 < get_or k (i - 2) 0) e v.0) in
          let high = subst (λ (k : ℕ). get_or t k 0 ≤ 126) (sym same) (subst (λ k. get_or k (i - 2) 0 ≤ 126) e v.1) in
          let c = visible floor (i - 1) (omega arith) (omega arith) low high in
          let line : code t (i - 1) ≡ 10 = char_of (i - 1) (omega arith) (omega arith) ∙ f in
          let there : i - 1 + 1 ≡ i = omega arith in
          let feed : Break t (i - 1) i = subst (λ k. Break t (i - 1) k) there (lone_lf line (λ (g : code t (i - 1 - 1) ≡ 13). omega (arith, c, g, low))) in
          from_spaces (omega arith)
          (break_passed (omega arith) (not_white (code t (i - 1)) (λ g. omega arith) (λ g. omega arith)) feed (visible_back floor (i - 1) (omega arith) (omega arith) low high true))
