-- Tests of numbers, options and lists: facts that everything above uses.
use Rattle.std.proofs.Common.{◌≡◌, ℕ, ◌<◌, ◌≤◌, Bool, true, false, List, [], ◌∷◌, ◌++◌, append_assoc, Option, Some, None, refl, ap, ◌∙◌, arith}
use Rattle.std.specs.Prelude.{is_some, nat_lt, not}
use Rattle.std.specs.List.{slice_get}
use Rattle.std.proofs.lemmas.Bool.{true≢false}
use Rattle.std.proofs.lemmas.Bool.Decides.{nat_tests}

pub below : (m n : ℕ) → m < n → nat_lt m n ≡ true
below m n l = grind (arith, nat_tests)

pub not_below : (m n : ℕ) → n ≤ m → nat_lt m n ≡ false
not_below m n l = grind (arith, nat_tests)

pub is_less : (m n : ℕ) → nat_lt m n ≡ true → m < n
is_less m n e = grind (arith, nat_tests)

pub none_some : {A : Type 0} {a : A} → None ≡ Some a → ⊥
none_some e = cc

pub some_none : {A : Type 0} {a : A} → Some a ≡ None → ⊥
some_none e = cc

pub no_item : {A : Type 0} (k : ℕ) (a : A) → slice_get [] k ≡ Some a → ⊥
no_item k a e = cc

pub no_cons : {A : Type 0} {a : A} {x : List A} → [] ≡ a ∷ x → ⊥
no_cons e = cc

pub no_nil : {A : Type 0} {a : A} {x : List A} → a ∷ x ≡ [] → ⊥
no_nil e = cc

pub same_head : {A : Type 0} {a b : A} {x y : List A} → a ∷ x ≡ b ∷ y → a ≡ b
same_head e = cc

pub same_tail : {A : Type 0} {a b : A} {x y : List A} → a ∷ x ≡ b ∷ y → x ≡ y
same_tail e = cc

pub none_there : {A : Type 0} (o : Option A) → is_some o ≡ false → o ≡ None
none_there None e = refl
none_there (Some x) e = absurd (true≢false e)

pub same_value : {A : Type 0} {a b : A} {o : Option A} → o ≡ Some a → o ≡ Some b → a ≡ b
same_value e f = cc

pub not_true : (b : Bool) → (b ≡ true → ⊥) → b ≡ false
not_true true n = absurd (n refl)
not_true false n = refl

pub turned_false : (b : Bool) → not b ≡ true → b ≡ false
turned_false true e = absurd cc
turned_false false e = refl

-- two pieces that are appended one after another
pub glue_more : {A : Type 0} {d e : List A} (a z w : List A) → d ≡ a ++ z → e ≡ d ++ w → e ≡ a ++ (z ++ w)
glue_more a z w p q = q ∙ ap (λ v. v ++ w) p ∙ append_assoc a z w
