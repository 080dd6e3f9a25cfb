-- One more step in order.
use Rattle.std.proofs.Common.{◌≡◌, Bool, false, not, ◌&&◌, List, [], ◌∷◌, ◌++◌, refl, sym, ap, ◌∙◌}
use Rattle.std.proofs.Math.Bool.{and-true, and-false, and_assoc}
use Rattle.yf_diff.specs.Script.{Edit, is_dropped, is_added, in_order_after, in_order, came_last}

order_after : (came : Bool) (done : List Edit) (x : Edit) → in_order_after came (done ++ x ∷ []) ≡ (in_order_after came done && not (came_last came done && is_dropped x))
order_after came [] x = and-true (not (came && is_dropped x))
order_after came (y ∷ done) x = ap (λ z. not (came && is_dropped y) && z) (order_after (is_added y) done x) ∙ sym (and_assoc (not (came && is_dropped y)) (in_order_after (is_added y) done) (not (came_last (is_added y) done && is_dropped x)))

last_after : (came : Bool) (done : List Edit) (x : Edit) → came_last came (done ++ x ∷ []) ≡ is_added x
last_after came [] x = refl
last_after came (y ∷ done) x = last_after (is_added y) done x

-- a kept or an added line may be anywhere
pub order_kept : (done after : List Edit) (x : Edit) → after ≡ done ++ x ∷ [] → is_dropped x ≡ false → in_order after ≡ in_order done
order_kept done after x made is = rw (made, order_after false done x, is, and-false (came_last false done)) (and-true (in_order done))

-- a dropped line may follow one that isn't added
pub order_dropped : (done after : List Edit) (x : Edit) → after ≡ done ++ x ∷ [] → came_last false done ≡ false → in_order after ≡ in_order done
order_dropped done after x made is = rw (made, order_after false done x, is) (and-true (in_order done))

pub last_made : (done after : List Edit) (x : Edit) → after ≡ done ++ x ∷ [] → is_added x ≡ false → came_last false after ≡ false
last_made done after x made is = rw (made, last_after false done x) is
