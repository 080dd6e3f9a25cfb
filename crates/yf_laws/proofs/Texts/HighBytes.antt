-- The bytes of a character outside ASCII are outside ASCII.
use Rattle.std.proofs.Common.{◌≡◌, ℕ, zero, suc, ◌+◌, ◌<◌, ◌≤◌, ◌/◌, ◌%◌, Bool, true, false, List, [], ◌∷◌, ◌++◌, length, get_or, take, sym, ap, ◌∙◌, arith, ltb, length-append}
use Rattle.std.specs.Prelude.{if◌then◌else◌}
use Rattle.std.proofs.lemmas.Bool.{le-ltb}
use Rattle.std.proofs.lemmas.List.{get_or-take, get_or-append-add, length-take}
use lib.Utf8.{encode}
use Rattle.yf_chars.specs.Text.{CharAt}

abbrev pub AllHigh : List ℕ → Type 0
AllHigh [] = Unit {0}
AllHigh (b ∷ bs) = (128 ≤ b) × AllHigh bs

pub all_high : (c : ℕ) → 128 ≤ c → AllHigh (encode c)
unfolding encode
all_high c l = rw (le-ltb c 128 l) (go (ltb c 2048) (ltb c 65536)) where
  go : (p q : Bool) → AllHigh (if p then (192 + c / 64) ∷ (128 + c % 64) ∷ [] else if q then (224 + c / 4096) ∷ (128 + c / 64 % 64) ∷ (128 + c % 64) ∷ []
      else (240 + c / 262144) ∷ (128 + c / 4096 % 64) ∷ (128 + c / 64 % 64) ∷ (128 + c % 64) ∷ [])
  go true q = (omega arith, (omega arith, tt))
  go false true = (omega arith, (omega arith, (omega arith, tt)))
  go false false = (omega arith, (omega arith, (omega arith, (omega arith, tt))))

high_at : (xs : List ℕ) (k : ℕ) → AllHigh xs → k < length xs → 128 ≤ get_or xs k 0
high_at [] k a l = absurd (omega arith)
high_at (x ∷ xs) zero a l = a.0
high_at (x ∷ xs) (suc k) a l = high_at xs k a.1 (omega (arith, l))

-- and those of such a character in a text
pub high_there : {t : List ℕ} {i c j : ℕ} → CharAt t i c j → 128 ≤ c → (k : ℕ) → i + k < j → 128 ≤ get_or t (i + k) 0
high_there {t} {i} {c} {j} r h k l =
    let back : length (take i t) ≡ i = let a = r.later in let b = r.within in omega (arith, length-take i t, a, b) in
    let whole : length (take j t) ≡ length (take i t) + length (encode c) = ap length r.bytes ∙ length-append (take i t) (encode c) in
    let size : length (take j t) ≡ j = let b = r.within in omega (arith, length-take j t, b) in
    let at : get_or t (i + k) 0 ≡ get_or (encode c) k 0 =
    sym (get_or-take j t (i + k) 0 l) ∙ (ap (λ w. get_or w (i + k) 0) r.bytes
    ∙ (ap (λ z. get_or (take i t ++ encode c) (z + k) 0) (sym back) ∙ get_or-append-add (take i t) (encode c) k 0)) in
    let high = high_at (encode c) k (all_high c h) (omega (arith, back, whole, size, l)) in
    omega (arith, at, high)
