-- A last call with a result that is returned unchanged: properties of its success.
use Rattle.std.proofs.Common.{◌≡◌, refl, Result, Ok, Err, IfOk, is_ok, if◌then◌else◌}

pub if_worked : {T E A : Type 0} (r : Result T E) {x : A} (y z : A) → x ≡ (if is_ok r then y else z) → IfOk r (λ _. x ≡ y)
if_worked (Ok t) y z q = q
if_worked (Err e) y z q = tt

pub where_worked : {T E : Type 0} (r : Result T E) {P : T → Type 0} → ((x : T) → r ≡ Ok x → P x) → IfOk r P
where_worked (Ok x) f = f x refl
where_worked (Err e) f = tt
