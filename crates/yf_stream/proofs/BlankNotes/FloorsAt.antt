-- The floor that events set at an offset, and the floor after all of them.
use Rattle.std.proofs.Common.{◌≡◌, ℕ, ◌≤◌, ◌⊎◌, inl, inr, ⊎_elim, List, Some, refl, sym, ap, ◌∙◌, arith}
use Rattle.yf_events.specs.Event.{EventInText}
use Rattle.yf_events.specs.declared.event.Span.{Span}
use Rattle.yf_grammar.specs.Productions.ReadParts.{Noting, end_or, floor_after_event, no_event, with_entry, without_entry}
use Rattle.yf_stream.specs.ReadingOf.{end_before, floor_at}
use Rattle.yf_stream.proofs.BlankNotes.CommentNotes.{Each, no_element, one_element}
use Rattle.yf_stream.proofs.BlankNotes.FloorWalk.{FloorIn, end_taken, floor_kept, floor_set, set_end}
use Rattle.yf_stream.proofs.BlankNotes.NotingLemmas.{floor_of}

-- notes of blank lines keep the floor
pub noting_floor : {t : List ℕ} {g : ℕ} {xs ys : List EventInText} (o f : ℕ) → Noting t g xs ys → floor_at o f xs ≡ floor_at o f ys
noting_floor o f no_event = refl
noting_floor o f (without_entry {e = e} n r) = noting_floor o (end_before o f (floor_after_event f e e.event)) r
noting_floor o f (with_entry {e = e} entry n s r) = noting_floor o (end_before o f (floor_after_event f e e.event)) r

pub noting_last : {t : List ℕ} {g : ℕ} {xs ys : List EventInText} (f : ℕ) → Noting t g xs ys → floor_of f xs ≡ floor_of f ys
noting_last f no_event = refl
noting_last f (without_entry {e = e} n r) = noting_last (floor_after_event f e e.event) r
noting_last f (with_entry {e = e} entry n s r) = noting_last (floor_after_event f e e.event) r

-- if all events end at the offset or before it
pub floor_late : {i j : ℕ} {es : List EventInText} (o f : ℕ) → f ≤ o → j ≤ o → Each (FloorIn i j) es → floor_at o f es ≡ floor_of f es
floor_late o f l m no_element = refl
floor_late o f l m (one_element {x = e} {xs = es} (floor_kept k) r) =
    let same = k f e in
    ap (λ (z : ℕ). floor_at o z es) (end_taken o f (floor_after_event f e e.event) (omega (arith, same)))
    ∙ floor_late o (floor_after_event f e e.event) (omega (arith, same)) m r
floor_late o f l m (one_element {x = e} {xs = es} (floor_set s q k a b) r) =
    let same = set_end e f s q k in
    ap (λ (z : ℕ). floor_at o z es) (end_taken o f (floor_after_event f e e.event) (omega (arith, same)))
    ∙ floor_late o (floor_after_event f e e.event) (omega (arith, same)) m r

-- the floor after them doesn't depend on the floor before, or they keep it
pub floor_sets : {i j : ℕ} {es : List EventInText} → Each (FloorIn i j) es → ((f g : ℕ) → floor_of f es ≡ floor_of g es) ⊎ ((f : ℕ) → floor_of f es ≡ f)
floor_sets no_element = inr (λ f. refl)
floor_sets (one_element {x = e} {xs = es} (floor_kept k) r) =
    ⊎_elim (λ c. inl (λ f g. c (floor_after_event f e e.event) (floor_after_event g e e.event))) (λ c. inr (λ f. c (floor_after_event f e e.event) ∙ k f e)) (floor_sets r)
floor_sets (one_element {x = e} {xs = es} (floor_set s q k a b) r) =
    inl (λ f g. ap (λ z. floor_of z es) (set_end e f s q k ∙ sym (set_end e g s q k)))
