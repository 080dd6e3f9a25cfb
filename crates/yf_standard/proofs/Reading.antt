-- A form read as a relation; K gives the relation of each production. A derivation satisfies this relation, if K is
-- closed under the productions.
use Rattle.std.proofs.Common.{◌≡◌, ℕ, ◌≤◌, ◌-◌, ℤ, Bool, true, false, true≢false, List, length, take, drop, refl, ap, ◌<◌, ◌⊎◌, inl, inr, arith}
use Rattle.yf_standard.proofs.Monotone.{forward}
use Rattle.std.specs.Str.{chars}
use Rattle.yf_chars.specs.Text.{code, next}
use Rattle.yf_lines.specs.Basic.{Clear}
use Rattle.yf_standard.specs.Notation.{Form, Condition}
use Rattle.yf_standard.specs.Notation.Form.{ε, never, ‹◌›, ◌∣◌, ◌⁇, ◌⋆, ◌⁺, ◌less◌, ⟨◌⟩, some-m, some-k, at-most, excluding-c-forbidden, ◌∙◌ as ◌then◌}
use Rattle.yf_standard.specs.Productions.{rule}
use Rattle.yf_standard.specs.Literal.{Derived, Kind, kind}
use Rattle.yf_standard.specs.Literal.Kind.{OPERATOR, PRODUCTION, COLLECTION}
use Rattle.yf_standard.specs.Literal.Derived.{by_rule, by_collection, nothing, one_of, one_then, in_left, in_right, absent, present, no_more, one_more, at_least_one, without, where_holds, for_some_m, for_some_k, within, clear_of_markers}

-- any number of steps
pub data Star (R : ℕ → ℕ → Type 0) : ℕ → ℕ → Type 0 where
  none : {i : ℕ} → Star R i i
  more : {i k j : ℕ} → R i k → Star R k j → Star R i j

abbrev pub FormRead : (List ℕ) → (Condition → ℕ → Type 0) → (ℕ → Form → ℕ → ℕ → Type 0) → ℕ → Form → ℕ → ℕ → Type 0
FormRead t L K e ε i j = i ≡ j
FormRead t L K e never i j = ⊥
FormRead t L K e (‹ s ›) i j = (s (code t i) ≡ true) × (next t i ≡ j)
FormRead t L K e (a then b) i j = (k : ℕ) × (FormRead t L K e a i k × FormRead t L K e b k j)
FormRead t L K e (a ∣ b) i j = FormRead t L K e a i j ⊎ FormRead t L K e b i j
FormRead t L K e (a ⁇) i j = (i ≡ j) ⊎ FormRead t L K e a i j
FormRead t L K e (a ⋆) i j = Star (FormRead t L K e a) i j
FormRead t L K e (a ⁺) i j = (k : ℕ) × (FormRead t L K e a i k × Star (FormRead t L K e a) k j)
FormRead t L K e (a less s) i j = FormRead t L K e a i j × (s (code t i) ≡ false)
FormRead t L K e (⟨ c ⟩) i j = L c i × (i ≡ j)
FormRead t L K e (some-m f) i j = (m : ℕ) × FormRead t L K e (f m) i j
FormRead t L K e (some-k f) i j = (k : ℤ) × FormRead t L K e (f k) i j
FormRead t L K e (at-most k a) i j = FormRead t L K e a i j × (length (chars (take (j - i) (drop i t))) ≤ k)
FormRead t L K e (excluding-c-forbidden a) i j = Derived L t e a i j × Clear t i j
FormRead t L K e f i j = K e f i j

-- K holds for a production's derivation between two offsets, if K holds for its parts
pub record Closed (t : List ℕ) (L : Condition → ℕ → Type 0) (low high : ℕ) (K : ℕ → Form → ℕ → ℕ → Type 0) : Type 0 where
  pub by : (e : ℕ) (f : Form) (i j : ℕ) → kind f ≡ PRODUCTION → low ≤ i → j ≤ high → FormRead t L K e (rule f) i j → K e f i j
  pub by_open : (d e : ℕ) (f : Form) (i j : ℕ) → kind f ≡ COLLECTION → d < e → FormRead t L K d (rule f) i j → K e f i j

is_operator : Kind → Bool
is_operator OPERATOR = true
is_operator PRODUCTION = false
is_operator COLLECTION = false

pub no_operator : {A : Type 0} → OPERATOR ≡ PRODUCTION → A
unfolding is_operator
no_operator e = absurd (true≢false (ap is_operator e))

pub no_operator_opens : {A : Type 0} → OPERATOR ≡ COLLECTION → A
unfolding is_operator
no_operator_opens e = absurd (true≢false (ap is_operator e))

-- a production is read as its relation
as_known : (t : List ℕ) (L : Condition → ℕ → Type 0) (K : ℕ → Form → ℕ → ℕ → Type 0) (e : ℕ) (f : Form) (i j : ℕ) → kind f ≡ PRODUCTION → K e f i j → FormRead t L K e f i j
unfolding kind
as_known t L K e ε i j q k = no_operator q
as_known t L K e never i j q k = no_operator q
as_known t L K e (‹ s ›) i j q k = no_operator q
as_known t L K e (a then b) i j q k = no_operator q
as_known t L K e (a ∣ b) i j q k = no_operator q
as_known t L K e (a ⁇) i j q k = no_operator q
as_known t L K e (a ⋆) i j q k = no_operator q
as_known t L K e (a ⁺) i j q k = no_operator q
as_known t L K e (a less s) i j q k = no_operator q
as_known t L K e (⟨ c ⟩) i j q k = no_operator q
as_known t L K e (some-m f) i j q k = no_operator q
as_known t L K e (some-k f) i j q k = no_operator q
as_known t L K e (at-most n a) i j q k = no_operator q
as_known t L K e (excluding-c-forbidden a) i j q k = no_operator q
as_known t L K e f i j q k = k

as_opened : (t : List ℕ) (L : Condition → ℕ → Type 0) (K : ℕ → Form → ℕ → ℕ → Type 0) (e : ℕ) (f : Form) (i j : ℕ) → kind f ≡ COLLECTION → K e f i j → FormRead t L K e f i j
unfolding kind
as_opened t L K e ε i j q k = no_operator_opens q
as_opened t L K e never i j q k = no_operator_opens q
as_opened t L K e (‹ s ›) i j q k = no_operator_opens q
as_opened t L K e (a then b) i j q k = no_operator_opens q
as_opened t L K e (a ∣ b) i j q k = no_operator_opens q
as_opened t L K e (a ⁇) i j q k = no_operator_opens q
as_opened t L K e (a ⋆) i j q k = no_operator_opens q
as_opened t L K e (a ⁺) i j q k = no_operator_opens q
as_opened t L K e (a less s) i j q k = no_operator_opens q
as_opened t L K e (⟨ c ⟩) i j q k = no_operator_opens q
as_opened t L K e (some-m f) i j q k = no_operator_opens q
as_opened t L K e (some-k f) i j q k = no_operator_opens q
as_opened t L K e (at-most n a) i j q k = no_operator_opens q
as_opened t L K e (excluding-c-forbidden a) i j q k = no_operator_opens q
as_opened t L K e f i j q k = k

-- the derivation between the two offsets satisfies the relation
pub known : {t : List ℕ} {L : Condition → ℕ → Type 0} {low high : ℕ} {K : ℕ → Form → ℕ → ℕ → Type 0} {e : ℕ} {f : Form} {i j : ℕ} → Closed t L low high K → low ≤ i → j ≤ high
    → Derived L t e f i j → FormRead t L K e f i j
known {t} {L} {low} {high} {K} {e} {f} {i} {j} c l h (by_rule q d) = as_known t L K e f i j q (c.by e f i j q l h (known c l h d))
known {t} {L} {low} {high} {K} {e} {f} {i} {j} c l h (by_collection {d = r} q w d) = as_opened t L K e f i j q (c.by_open r e f i j q w (known c l h d))
known c l h nothing = refl
known c l h (one_of e) = (e, refl)
known {low = low} {high = high} {i = i} {j = j} c l h (one_then {k = k} d e) =
    let a : i ≤ k = forward d in let b : k ≤ j = forward e in
    let p : k ≤ high = omega (arith, b, h) in let q : low ≤ k = omega (arith, a, l) in
    (k, (known c l p d, known c q h e))
known c l h (in_left d) = inl (known c l h d)
known c l h (in_right d) = inr (known c l h d)
known c l h absent = inl refl
known c l h (present d) = inr (known c l h d)
known c l h no_more = none
known {low = low} {high = high} {i = i} {j = j} c l h (one_more {k = k} d e) =
    let a : i ≤ k = forward d in let b : k ≤ j = forward e in
    let p : k ≤ high = omega (arith, b, h) in let q : low ≤ k = omega (arith, a, l) in
    more (known c l p d) (known c q h e)
known {low = low} {high = high} {i = i} {j = j} c l h (at_least_one {k = k} d e) =
    let a : i ≤ k = forward d in let b : k ≤ j = forward e in
    let p : k ≤ high = omega (arith, b, h) in let q : low ≤ k = omega (arith, a, l) in
    (k, (known c l p d, known c q h e))
known c l h (without d e) = (known c l h d, e)
known c l h (where_holds w) = (w, refl)
known c l h (for_some_m m d) = (m, known c l h d)
known c l h (for_some_k m d) = (m, known c l h d)
known c l h (within d e) = (known c l h d, e)
known c l h (clear_of_markers d e) = (d, e)
