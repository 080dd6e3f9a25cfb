-- The meaning of a form, as a relation between offsets and a list; K gives the meaning of each production. A derivation
-- has this meaning, if K is closed under the productions.
use Rattle.std.proofs.Common.{◌≡◌, ℕ, ℤ, ◌≤◌, ◌<◌, ◌-◌, true, false, List, [], ◌++◌, length, take, drop, refl, arith}
use Rattle.std.specs.Str.{chars}
use Rattle.yf_chars.specs.Text.{code, next}
use Rattle.yf_chars.specs.Chain.{Chain}
use Rattle.yf_chars.specs.Chain.Chain.{done, step}
use Rattle.yf_lines.specs.Basic.{Clear}
use Rattle.yf_standard.specs.Notation.{Form, Condition}
use Rattle.yf_standard.specs.Notation.Form.{ε, never, ‹◌›, ◌∣◌, ◌⁇, ◌⋆, ◌⁺, ◌less◌, ⟨◌⟩, some-m, some-k, at-most, excluding-c-forbidden, ◌∙◌ as ◌then◌}
use Rattle.yf_standard.specs.Productions.{rule}
use Rattle.yf_standard.specs.Literal.{Derived, kind}
use Rattle.yf_standard.specs.Literal.Kind.{PRODUCTION, COLLECTION}
use Rattle.yf_standard.specs.Literal.Derived.{by_rule, by_collection, nothing, one_of, one_then, in_left, in_right, absent, present, no_more, one_more, at_least_one, without, where_holds, for_some_m, for_some_k, within, clear_of_markers}
use Rattle.yf_standard.specs.Characters.{Set}
use Rattle.yf_standard.specs.Contents.{Making, meant}
use Rattle.yf_standard.proofs.Monotone.{forward}
use Rattle.yf_standard.proofs.Reading.{no_operator, no_operator_opens}

-- the parts of forms
pub data Empty {A : Type 0} : ℕ → ℕ → List A → Type 0 where
  empty : {i : ℕ} → Empty i i []

pub data Character {A : Type 0} (t : List ℕ) (single : ℕ → List A) (s : Set) : ℕ → ℕ → List A → Type 0 where
  character : {i : ℕ} → s (code t i) ≡ true → Character t single s i (next t i) (single (code t i))

pub data Then {A : Type 0} (P Q : ℕ → ℕ → List A → Type 0) : ℕ → ℕ → List A → Type 0 where
  both : {i k j : ℕ} {x y : List A} → P i k x → Q k j y → Then P Q i j (x ++ y)

pub data Either {A : Type 0} (P Q : ℕ → ℕ → List A → Type 0) (i j : ℕ) (x : List A) : Type 0 where
  left : P i j x → Either P Q i j x
  right : Q i j x → Either P Q i j x

pub data Perhaps {A : Type 0} (P : ℕ → ℕ → List A → Type 0) : ℕ → ℕ → List A → Type 0 where
  missing : {i : ℕ} → Perhaps P i i []
  given : {i j : ℕ} {x : List A} → P i j x → Perhaps P i j x

pub data Several {A : Type 0} (P : ℕ → ℕ → List A → Type 0) : ℕ → ℕ → List A → Type 0 where
  several : {i k j : ℕ} {x y : List A} → P i k x → Chain P k j y → Several P i j (x ++ y)

pub data Here {A : Type 0} (C : ℕ → Type 0) : ℕ → ℕ → List A → Type 0 where
  here : {i : ℕ} → C i → Here C i i []

abbrev pub FormMeans : {A : Type 0} (t : List ℕ) (L : Condition → ℕ → Type 0) → (ℕ → List A) → (ℕ → Form → ℕ → ℕ → List A → Type 0) → ℕ → Form → ℕ → ℕ → List A → Type 0
FormMeans t L w K e ε i j x = Empty i j x
FormMeans t L w K e never i j x = ⊥
FormMeans t L w K e (‹ s ›) i j x = Character t w s i j x
FormMeans t L w K e (a then b) i j x = Then (FormMeans t L w K e a) (FormMeans t L w K e b) i j x
FormMeans t L w K e (a ∣ b) i j x = Either (FormMeans t L w K e a) (FormMeans t L w K e b) i j x
FormMeans t L w K e (a ⁇) i j x = Perhaps (FormMeans t L w K e a) i j x
FormMeans t L w K e (a ⋆) i j x = Chain (FormMeans t L w K e a) i j x
FormMeans t L w K e (a ⁺) i j x = Several (FormMeans t L w K e a) i j x
FormMeans t L w K e (a less s) i j x = FormMeans t L w K e a i j x × (s (code t i) ≡ false)
FormMeans t L w K e (⟨ c ⟩) i j x = Here (L c) i j x
FormMeans t L w K e (some-m f) i j x = (m : ℕ) × FormMeans t L w K e (f m) i j x
FormMeans t L w K e (some-k f) i j x = (k : ℤ) × FormMeans t L w K e (f k) i j x
FormMeans t L w K e (at-most k a) i j x = FormMeans t L w K e a i j x × (length (chars (take (j - i) (drop i t))) ≤ k)
FormMeans t L w K e (excluding-c-forbidden a) i j x = Derived L t e a i j × Clear t i j
FormMeans t L w K e f i j x = K e f i j x

-- K holds for a production's derivation between two offsets and for its meaning, if K holds for its parts
pub record Meanings {A : Type 0} (t : List ℕ) (L : Condition → ℕ → Type 0) (low high : ℕ) (single : ℕ → List A) (made : Making L t A)
    (K : ℕ → Form → ℕ → ℕ → List A → Type 0) : Type 0 where
  pub by : (e : ℕ) (f : Form) (i j : ℕ) (x : List A) → kind f ≡ PRODUCTION → low ≤ i → j ≤ high → (d : Derived L t e (rule f) i j)
      → x ≡ meant single made d → FormMeans t L single K e (rule f) i j x → K e f i j (made e f i j d x)
  pub by_open : (r e : ℕ) (f : Form) (i j : ℕ) (x : List A) → kind f ≡ COLLECTION → r < e → low ≤ i → j ≤ high → (d : Derived L t r (rule f) i j)
      → FormMeans t L single K r (rule f) i j x → K e f i j (made r f i j d x)

-- a production has the meaning that K gives
as_meant : {A : Type 0} (t : List ℕ) (L : Condition → ℕ → Type 0) (w : ℕ → List A) (K : ℕ → Form → ℕ → ℕ → List A → Type 0) (e : ℕ) (f : Form) (i j : ℕ) (x : List A)
    → kind f ≡ PRODUCTION → K e f i j x → FormMeans t L w K e f i j x
unfolding kind
as_meant t L w K e ε i j x q k = no_operator q
as_meant t L w K e never i j x q k = no_operator q
as_meant t L w K e (‹ s ›) i j x q k = no_operator q
as_meant t L w K e (a then b) i j x q k = no_operator q
as_meant t L w K e (a ∣ b) i j x q k = no_operator q
as_meant t L w K e (a ⁇) i j x q k = no_operator q
as_meant t L w K e (a ⋆) i j x q k = no_operator q
as_meant t L w K e (a ⁺) i j x q k = no_operator q
as_meant t L w K e (a less s) i j x q k = no_operator q
as_meant t L w K e (⟨ c ⟩) i j x q k = no_operator q
as_meant t L w K e (some-m f) i j x q k = no_operator q
as_meant t L w K e (some-k f) i j x q k = no_operator q
as_meant t L w K e (at-most n a) i j x q k = no_operator q
as_meant t L w K e (excluding-c-forbidden a) i j x q k = no_operator q
as_meant t L w K e f i j x q k = k

as_opened : {A : Type 0} (t : List ℕ) (L : Condition → ℕ → Type 0) (w : ℕ → List A) (K : ℕ → Form → ℕ → ℕ → List A → Type 0) (e : ℕ) (f : Form) (i j : ℕ) (x : List A)
    → kind f ≡ COLLECTION → K e f i j x → FormMeans t L w K e f i j x
unfolding kind
as_opened t L w K e ε i j x q k = no_operator_opens q
as_opened t L w K e never i j x q k = no_operator_opens q
as_opened t L w K e (‹ s ›) i j x q k = no_operator_opens q
as_opened t L w K e (a then b) i j x q k = no_operator_opens q
as_opened t L w K e (a ∣ b) i j x q k = no_operator_opens q
as_opened t L w K e (a ⁇) i j x q k = no_operator_opens q
as_opened t L w K e (a ⋆) i j x q k = no_operator_opens q
as_opened t L w K e (a ⁺) i j x q k = no_operator_opens q
as_opened t L w K e (a less s) i j x q k = no_operator_opens q
as_opened t L w K e (⟨ c ⟩) i j x q k = no_operator_opens q
as_opened t L w K e (some-m f) i j x q k = no_operator_opens q
as_opened t L w K e (some-k f) i j x q k = no_operator_opens q
as_opened t L w K e (at-most n a) i j x q k = no_operator_opens q
as_opened t L w K e (excluding-c-forbidden a) i j x q k = no_operator_opens q
as_opened t L w K e f i j x q k = k

-- the derivation between the two offsets has that meaning
pub means : {A : Type 0} {t : List ℕ} {L : Condition → ℕ → Type 0} {low high : ℕ} {w : ℕ → List A} {made : Making L t A} {K : ℕ → Form → ℕ → ℕ → List A → Type 0} {e : ℕ} {f : Form} {i j : ℕ}
    → Meanings t L low high w made K → low ≤ i → j ≤ high → (d : Derived L t e f i j) → FormMeans t L w K e f i j (meant w made d)
unfolding meant
means {t = t} {L = L} {w = w} {made = made} {K = K} {e = e} {f = f} {i = i} {j = j} c l h (by_rule q d) =
    as_meant t L w K e f i j (made e f i j d (meant w made d)) q (c.by e f i j (meant w made d) q l h d refl (means c l h d))
means {t = t} {L = L} {w = w} {made = made} {K = K} {e = e} {f = f} {i = i} {j = j} c l h (by_collection {d = r} q room d) =
    as_opened t L w K e f i j (made r f i j d (meant w made d)) q (c.by_open r e f i j (meant w made d) q room l h d (means c l h d))
means c l h nothing = empty
means c l h (one_of e) = character e
means {low = low} {high = high} {i = i} {j = j} c l h (one_then {k = k} d e) =
    let a : i ≤ k = forward d in let b : k ≤ j = forward e in
    let p : k ≤ high = omega (arith, b, h) in let q : low ≤ k = omega (arith, a, l) in
    both (means c l p d) (means c q h e)
means c l h (in_left d) = left (means c l h d)
means c l h (in_right d) = right (means c l h d)
means c l h absent = missing
means c l h (present d) = given (means c l h d)
means c l h no_more = done
means {low = low} {high = high} {i = i} {j = j} c l h (one_more {k = k} d e) =
    let a : i ≤ k = forward d in let b : k ≤ j = forward e in
    let p : k ≤ high = omega (arith, b, h) in let q : low ≤ k = omega (arith, a, l) in
    step (means c l p d) (means c q h e)
means {low = low} {high = high} {i = i} {j = j} c l h (at_least_one {k = k} d e) =
    let a : i ≤ k = forward d in let b : k ≤ j = forward e in
    let p : k ≤ high = omega (arith, b, h) in let q : low ≤ k = omega (arith, a, l) in
    several (means c l p d) (means c q h e)
means c l h (without d e) = (means c l h d, e)
means c l h (where_holds a) = here a
means c l h (for_some_m m d) = (m, means c l h d)
means c l h (for_some_k m d) = (m, means c l h d)
means c l h (within d e) = (means c l h d, e)
means c l h (clear_of_markers d e) = (d, e)
