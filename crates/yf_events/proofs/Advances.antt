-- One event of the pass, by its effect on the awaited state.
use Rattle.std.proofs.Common.{ℕ, suc, zero, ◌+◌, ◌-◌, ◌<◌, ◌≤◌, ◌≡◌, false, List, [], ◌∷◌, ◌++◌, Option, Some, None, Bool, length, refl, sym, ap, ◌∙◌, arith, length-append, map, drop, ◌==◌}
use Rattle.std.specs.Prelude.{reverse, slice_get}
use Rattle.std.proofs.lemmas.Bool.Decides.{nat_tests}
use Rattle.std.proofs.lemmas.List.{reverse-append, length-reverse, drop_all}
use Rattle.yf_events.specs.Event.{EventValue, EventInText}
use Rattle.yf_events.specs.Nesting.{NestingStep, move_at, run, runs_on, is_over}
use Rattle.yf_events.specs.declared.nesting.NestingState.{NestingState}
use Rattle.yf_events.specs.declared.nesting.NestingState.TheVariants.{Stream, Documents, Root, Closing, Items, Keys, Values, Nothing}
use Rattle.yf_events.proofs.LeafRuns.{events_cut}
use Rattle.yf_events.specs.declared.nesting.Move.TheVariants.{Refuse, Stay, Open, Close}

refused_at : (r : ℕ) (f : NestingState) (b : List NestingState) (e : EventValue) (es : List EventValue) → move_at f e ≡ Refuse → run r f b (e ∷ es) ≡ false
unfolding run
refused_at r f b e es m = rw m refl

stays_at : (r : ℕ) (f g : NestingState) (b : List NestingState) (e : EventValue) (es : List EventValue) → move_at f e ≡ Stay g → run r f b (e ∷ es) ≡ run r g b es
unfolding run
stays_at r f g b e es m = rw m refl

full_at : (f t u : NestingState) (b : List NestingState) (e : EventValue) (es : List EventValue) → move_at f e ≡ Open t u → run zero f b (e ∷ es) ≡ false
unfolding run
full_at f t u b e es m = rw m refl

opens_at : (r : ℕ) (f t u : NestingState) (b : List NestingState) (e : EventValue) (es : List EventValue) → move_at f e ≡ Open t u
    → run (suc r) f b (e ∷ es) ≡ run r u (t ∷ b) es
unfolding run
opens_at r f t u b e es m = rw m refl

closes_at : (r : ℕ) (f t : NestingState) (b : List NestingState) (e : EventValue) (es : List EventValue) → move_at f e ≡ Close
    → run r f (t ∷ b) (e ∷ es) ≡ run (suc r) t b es
unfolding run
closes_at r f t b e es m = rw m refl

bare_at : (r : ℕ) (f : NestingState) (e : EventValue) (es : List EventValue) → move_at f e ≡ Close → run r f [] (e ∷ es) ≡ false
unfolding run
bare_at r f e es m = rw m refl

pub refused : (limit : ℕ) (f : NestingState) (b : List NestingState) (e : EventValue) → move_at f e ≡ Refuse → NestingStep limit f b e None b
refused limit f b e m = record { same = λ es. refused_at _ f _ e es m }

pub stays : (limit : ℕ) (f g : NestingState) (b : List NestingState) (e : EventValue) → move_at f e ≡ Stay g → NestingStep limit f b e (Some g) b
stays limit f g b e m = record { same = λ es. stays_at _ f g _ e es m }

pub full : (limit : ℕ) (f t u : NestingState) (b : List NestingState) (e : EventValue) → move_at f e ≡ Open t u → length b ≡ limit → NestingStep limit f b e None b
full limit f t u b e m l =
    let none : limit - length b ≡ zero = omega (arith, l) in
    record { same = λ es. rw none (full_at f t u (reverse b) e es m) }

turned : (b : List NestingState) (t : NestingState) → reverse (b ++ (t ∷ [])) ≡ t ∷ reverse b
turned b t = reverse-append b (t ∷ [])

pub opens : (limit : ℕ) (f t u : NestingState) (b a : List NestingState) (e : EventValue) → move_at f e ≡ Open t u → length b < limit → a ≡ b ++ (t ∷ [])
    → NestingStep limit f b e (Some u) a
opens limit f t u b a e m l is =
    let longer : length a ≡ length b + 1 = ap length is ∙ length-append b (t ∷ []) in
    let more : limit - length b ≡ suc (limit - length a) = omega (arith, longer, l) in
    record { same = λ es. rw more (opens_at (limit - length a) f t u (reverse b) e es m ∙ ap (λ w. run (limit - length a) u w es) (sym (ap reverse is ∙ turned b t))) }

pub closes : (limit : ℕ) (f t : NestingState) (b a : List NestingState) (e : EventValue) → move_at f e ≡ Close → length b ≤ limit → b ≡ a ++ (t ∷ [])
    → NestingStep limit f b e (Some t) a
closes limit f t b a e m l is =
    let longer : length b ≡ length a + 1 = ap length is ∙ length-append a (t ∷ []) in
    let more : suc (limit - length b) ≡ limit - length a = omega (arith, longer, l) in
    record { same = λ es. ap (λ w. run (limit - length b) f w (e ∷ es)) (ap reverse is ∙ turned a t) ∙ closes_at (limit - length b) f t (reverse a) e es m ∙ ap (λ n. run n t (reverse a) es) more }

pub bare : (limit : ℕ) (f : NestingState) (b a : List NestingState) (e : EventValue) → move_at f e ≡ Close → b ≡ a ++ [] → length b ≡ 0 → NestingStep limit f b e None a
bare limit f [] a e m is n = record { same = λ es. bare_at (limit - 0) f e es m }
bare limit f (x ∷ b) a e m is n = absurd (omega (arith, n))

-- The end of the pass

pub not_zero : (n : ℕ) → (suc n == 0) ≡ false
not_zero n = grind (arith, nat_tests)

over_is : (b : List NestingState) → is_over Nothing b ≡ (length b == 0)
over_is [] = refl
over_is (x ∷ b) = sym (not_zero (length b))

pub over_at : (r : ℕ) (b : List NestingState) → run r Nothing (reverse b) [] ≡ (length b == 0)
unfolding run
over_at r b = over_is (reverse b) ∙ ap (λ n. n == 0) (length-reverse b)

not_over : (f : NestingState) (b : List NestingState) → (f ≡ Nothing → ⊥) → is_over f b ≡ false
not_over Nothing b h = absurd (h refl)
not_over Stream b h = refl
not_over Documents b h = refl
not_over Root b h = refl
not_over Closing b h = refl
not_over Items b h = refl
not_over Keys b h = refl
not_over Values b h = refl

pub not_over_at : (r : ℕ) (f : NestingState) (b : List NestingState) → (f ≡ Nothing → ⊥) → run r f b [] ≡ false
unfolding run
not_over_at r f b h = not_over f b h

pub past_end : {X : Type 0} (g : X → EventValue) (i : ℕ) (xs : List X) → length xs ≤ i → map g (drop i xs) ≡ []
past_end g i xs l = ap (map g) (drop_all i xs l)

-- one more event of a list

pub goes_on : (limit : ℕ) (f : NestingState) (b a : List NestingState) (v : EventValue) (next : Option NestingState) (es : List EventInText) (i : ℕ) (all : Bool)
    → NestingStep limit f b v next a → slice_get (map (λ e. e.event) es) i ≡ Some v
    → run (limit - length b) f (reverse b) (map (λ e. e.event) (drop i es)) ≡ all
    → runs_on next (limit - length a) (reverse a) (map (λ e. e.event) (drop (suc i) es)) ≡ all
goes_on limit f b a v next es i all adv at e =
    sym (adv.same (map (λ x. x.event) (drop (suc i) es))) ∙ ap (run (limit - length b) f (reverse b)) (sym (events_cut es i v at)) ∙ e
