-- Each part of an event that is looked up is that part of the event.
use Rattle.std.proofs.Common.{◌≡◌, ℕ, zero, suc, ◌<◌, List, [], ◌∷◌, get_or, length, map, Some, refl, arith}
use Rattle.std.specs.Prelude.{slice_get}
use Rattle.yf_events.specs.Event.{EventInText}

pub part_at : {X : Type 0} (f : EventInText → X) (es : List EventInText) (i : ℕ) (d : EventInText) (y : X) → slice_get (map f es) i ≡ Some y → y ≡ f (get_or es i d)
part_at f [] i d y h = absurd cc
part_at f (e ∷ es) zero d y h = cc
part_at f (e ∷ es) (suc i) d y h = part_at f es i d y h

pub is_there : (es : List EventInText) (i : ℕ) (d : EventInText) → i < length es → slice_get es i ≡ Some (get_or es i d)
is_there [] i d l = absurd (omega arith)
is_there (x ∷ es) zero d l = refl
is_there (x ∷ es) (suc i) d l = is_there es i d (omega arith)
