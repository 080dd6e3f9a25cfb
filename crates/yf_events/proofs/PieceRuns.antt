-- Pieces that are written one after another.
use Rattle.std.proofs.Common.{ℕ, zero, suc, arith, refl, Some, ◌+◌, ◌<◌, ◌≤◌, ◌≡◌, Bool, List, [], ◌∷◌, ◌++◌, Option, length, drop, get_or, ap, ◌∙◌, subst, drop-cons, add-one}
use Rattle.std.specs.List.{flat_map, zip}
use Rattle.std.specs.Prelude.{slice_get}
use Rattle.std.proofs.lemmas.List.{length-map}
use Rattle.std.proofs.lemmas.Option.{same_Some, slice_get-get_or}
use Rattle.yf_lines.specs.Output.{Wrote}
use Rattle.yf_events.specs.Event.{EventValue, stream_starts}
use Rattle.yf_events.specs.Notation.{event_line, notation, notation_of}
use Rattle.yf_events.specs.Reading.{events_of}
use Rattle.yf_events.specs.declared.lists.Lists.{Lists}
use Rattle.yf_lines.proofs.OutputLemmas.{Progress, progress_done}

-- the rest is the next item and the ones after it
pub next_item : {X : Type 0} (f : X → List ℕ) (old new : Option (List ℕ)) (before after : Bool) (text : List ℕ) (xs : List X) (i : ℕ) (d : X)
    → i < length xs → Progress old new before after text (flat_map f (drop i xs))
    → Progress old new before after text (f (get_or xs i d) ++ flat_map f (drop (i + 1) xs))
next_item f old new before after text xs i d within p =
    let cut : drop i xs ≡ get_or xs i d ∷ drop (i + 1) xs = rw add-one (drop-cons xs i d within) in
    subst (Progress old new before after text) (ap (flat_map f) cut) p

-- Events, each with its resolved tag

drop_nil : {X : Type 0} (i : ℕ) → drop i (let none : List X = [] in none) ≡ []
drop_nil zero = refl
drop_nil (suc i) = refl

pub zip_at : {X Y : Type 0} (xs : List X) (ys : List Y) (i : ℕ) (x : X) (y : Y) → slice_get xs i ≡ Some x → slice_get ys i ≡ Some y
    → drop i (zip xs ys) ≡ (x, y) ∷ drop (suc i) (zip xs ys)
zip_at [] ys i x y p q = cc
zip_at (a ∷ xs) [] i x y p q = cc
zip_at (a ∷ xs) (b ∷ ys) zero x y p q = ap (λ w. (w, b) ∷ zip xs ys) (same_Some _ _ p) ∙ ap (λ w. (x, w) ∷ zip xs ys) (same_Some _ _ q)
zip_at (a ∷ xs) (b ∷ ys) (suc i) x y p q = zip_at xs ys i x y p q

pub zip_past : {X Y : Type 0} (xs : List X) (ys : List Y) (i : ℕ) → length xs ≤ i → drop i (zip xs ys) ≡ []
zip_past [] ys i l = drop_nil i
zip_past (a ∷ xs) [] i l = drop_nil i
zip_past (a ∷ xs) (b ∷ ys) zero l = absurd (omega arith)
zip_past (a ∷ xs) (b ∷ ys) (suc i) l = zip_past xs ys i (omega arith)

pub next_event : (old new : Option (List ℕ)) (before after : Bool) (text : List ℕ) (r : Lists) (i : ℕ) (e : EventValue) (tag : Option (List ℕ))
    → slice_get (events_of r) i ≡ Some e → slice_get r.resolved i ≡ Some tag
    → Progress old new before after text (notation (drop i (zip (events_of r) r.resolved)))
    → Progress old new before after text (event_line e tag ++ notation (drop (i + 1) (zip (events_of r) r.resolved)))
unfolding notation
next_event old new before after text r i e tag p q progress =
    let cut : drop i (zip (events_of r) r.resolved) ≡ (e, tag) ∷ drop (i + 1) (zip (events_of r) r.resolved) = rw add-one (zip_at (events_of r) r.resolved i e tag p q) in
    subst (Progress old new before after text) (ap notation cut) progress

-- the rest after the line of the event at an index
pub there_is_event : (r : Lists) (i : ℕ) → i < length r.events → slice_get (events_of r) i ≡ Some (get_or (events_of r) i stream_starts)
there_is_event r i l = slice_get-get_or (events_of r) i stream_starts (omega (arith, l, length-map r.events (λ e. e.event)))

pub no_event : (old new : Option (List ℕ)) (before after : Bool) (text : List ℕ) (r : Lists) (i : ℕ) → length r.events ≤ i
    → Progress old new before after text (notation (drop i (zip (events_of r) r.resolved))) → Wrote old new before after text
unfolding notation
no_event old new before after text r i past progress =
    let none = zip_past (events_of r) r.resolved i (omega (arith, length-map r.events (λ e. e.event))) in
    progress_done old new before after text (subst (Progress old new before after text) (ap notation none) progress)

pub all_events : (r : Lists) → notation_of r ≡ notation (drop 0 (zip (events_of r) r.resolved))
unfolding notation_of
all_events r = refl
