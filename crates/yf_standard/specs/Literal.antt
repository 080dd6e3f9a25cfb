-- Derivations of forms: `Derived L t e f i j` says that the form f derives the text t from byte i to byte j with at
-- most e collections open in it at once; L gives the meaning of a condition at an offset.
use Rattle.std.specs.Prelude.{◌≡◌, ℕ, ◌<◌, ◌≤◌, ◌-◌, ℤ, true, false, List, length, take, drop}
use Rattle.std.specs.Str.{chars}
use Rattle.yf_chars.specs.Text.{code, next}
use Rattle.yf_lines.specs.Basic.{Clear}
use Rattle.yf_standard.specs.Characters.{Set}
use Rattle.yf_standard.specs.Notation.{Form, Condition}
use Rattle.yf_standard.specs.Notation.Form.{ε, never, ‹◌›, ◌∙◌, ◌∣◌, ◌⁇, ◌⋆, ◌⁺, ◌less◌, ⟨◌⟩, some-m, some-k, at-most, excluding-c-forbidden, c-flow-sequence, c-flow-mapping, ns-flow-pair, l+block-sequence, ns-l-compact-sequence, l+block-mapping, ns-l-compact-mapping}
use Rattle.yf_standard.specs.Productions.{rule}

-- a form made of others, a production, and a production that is a collection
pub data Kind : Type 0 where
  OPERATOR : Kind
  PRODUCTION : Kind
  COLLECTION : Kind

unfoldable pub kind : Form → Kind
kind ε = OPERATOR
kind never = OPERATOR
kind (‹ s ›) = OPERATOR
kind (a ∙ b) = OPERATOR
kind (a ∣ b) = OPERATOR
kind (a ⁇) = OPERATOR
kind (a ⋆) = OPERATOR
kind (a ⁺) = OPERATOR
kind (a less s) = OPERATOR
kind (⟨ c ⟩) = OPERATOR
kind (some-m f) = OPERATOR
kind (some-k f) = OPERATOR
kind (at-most k a) = OPERATOR
kind (excluding-c-forbidden a) = OPERATOR
kind (c-flow-sequence n c) = COLLECTION
kind (c-flow-mapping n c) = COLLECTION
kind (ns-flow-pair n c) = COLLECTION
kind (l+block-sequence n) = COLLECTION
kind (ns-l-compact-sequence n) = COLLECTION
kind (l+block-mapping n) = COLLECTION
kind (ns-l-compact-mapping n) = COLLECTION
kind f = PRODUCTION

pub data Derived (L : Condition → ℕ → Type 0) (t : List ℕ) : ℕ → Form → ℕ → ℕ → Type 0 where
  by_rule : {e : ℕ} {f : Form} {i j : ℕ} → kind f ≡ PRODUCTION → Derived L t e (rule f) i j → Derived L t e f i j
  by_collection : {d e : ℕ} {f : Form} {i j : ℕ} → kind f ≡ COLLECTION → d < e → Derived L t d (rule f) i j → Derived L t e f i j
  nothing : {e i : ℕ} → Derived L t e ε i i
  one_of : {s : Set} {e i : ℕ} → s (code t i) ≡ true → Derived L t e (‹ s ›) i (next t i)
  one_then : {a b : Form} {e i k j : ℕ} → Derived L t e a i k → Derived L t e b k j → Derived L t e (a ∙ b) i j
  in_left : {a b : Form} {e i j : ℕ} → Derived L t e a i j → Derived L t e (a ∣ b) i j
  in_right : {a b : Form} {e i j : ℕ} → Derived L t e b i j → Derived L t e (a ∣ b) i j
  absent : {a : Form} {e i : ℕ} → Derived L t e (a ⁇) i i
  present : {a : Form} {e i j : ℕ} → Derived L t e a i j → Derived L t e (a ⁇) i j
  no_more : {a : Form} {e i : ℕ} → Derived L t e (a ⋆) i i
  one_more : {a : Form} {e i k j : ℕ} → Derived L t e a i k → Derived L t e (a ⋆) k j → Derived L t e (a ⋆) i j
  at_least_one : {a : Form} {e i k j : ℕ} → Derived L t e a i k → Derived L t e (a ⋆) k j → Derived L t e (a ⁺) i j
  without : {a : Form} {s : Set} {e i j : ℕ} → Derived L t e a i j → s (code t i) ≡ false → Derived L t e (a less s) i j
  where_holds : {c : Condition} {e i : ℕ} → L c i → Derived L t e (⟨ c ⟩) i i
  for_some_m : {f : ℕ → Form} {e i j : ℕ} (m : ℕ) → Derived L t e (f m) i j → Derived L t e (some-m f) i j
  for_some_k : {f : ℤ → Form} {e i j : ℕ} (k : ℤ) → Derived L t e (f k) i j → Derived L t e (some-k f) i j
  within : {a : Form} {k e i j : ℕ} → Derived L t e a i j → length (chars (take (j - i) (drop i t))) ≤ k → Derived L t e (at-most k a) i j
  clear_of_markers : {a : Form} {e i j : ℕ} → Derived L t e a i j → Clear t i j → Derived L t e (excluding-c-forbidden a) i j
