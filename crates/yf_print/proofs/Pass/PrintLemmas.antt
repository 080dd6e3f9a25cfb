-- The steps of the printer in the code.
use Rattle.std.proofs.Common.{◌≡◌, ℕ, zero, suc, ◌+◌, ◌<◌, ◌≤◌, Bool, true, false, List, [], ◌∷◌, ◌++◌, length, map, get_or, drop, Some, refl, sym, ap, ◌∙◌, arith, append_assoc, append-nil, add-one}
use Rattle.std.specs.Prelude.{nat_le, slice_get, if◌then◌else◌}
use Rattle.std.proofs.lemmas.Bool.Decides.{nat_tests}
use Rattle.std.proofs.lemmas.List.{drop_all, drop_more}
use Rattle.yf_events.specs.Event.{EventInText}
use Rattle.yf_print.specs.Passes.Drafts.{Draft}
use Rattle.yf_print.specs.Passes.PrintPass.{PrintState, event_noted, events_noted, more_words, next, pass, space_text, words_from}
use Rattle.yf_print.specs.Passes.PrintWork.{Work}

-- words

words_after : (b : Bool) (w : List ℕ) (ws : List (List ℕ)) → words_from b (w ∷ ws) ≡ space_text b ++ (w ++ more_words ws)
words_after true w ws = refl
words_after false w [] = sym (append-nil w)
words_after false w (v ∷ ws) = ap (λ u. w ++ (32 ∷ u)) (words_after false v ws)

pub words_on : (b : Bool) (w : List ℕ) (ws : List (List ℕ)) (text mid new all : List ℕ) → mid ≡ text ++ space_text b → new ≡ mid ++ w
    → text ++ words_from b (w ∷ ws) ≡ all → new ++ words_from true ws ≡ all
words_on b w ws text mid new all m n h =
    ap (λ u. u ++ more_words ws) (n ∙ ap (λ u. u ++ w) m)
    ∙ (append_assoc (text ++ space_text b) w (more_words ws)
    ∙ (append_assoc text (space_text b) (w ++ more_words ws) ∙ (ap (λ u. text ++ u) (sym (words_after b w ws)) ∙ h)))

pub words_each : {X : Type 0} (f : X → List ℕ) (xs : List X) (i : ℕ) (e : X) (b : Bool) (text mid new all : List ℕ) → i < length xs
    → mid ≡ text ++ space_text b → new ≡ mid ++ f (get_or xs i e) → text ++ words_from b (map f (drop i xs)) ≡ all
    → new ++ words_from true (map f (drop (i + 1) xs)) ≡ all
words_each f xs i e b text mid new all l m n h =
    words_on b (f (get_or xs i e)) (map f (drop (i + 1) xs)) text mid new all m n
    (ap (λ w. text ++ words_from b (map f w)) (sym (drop_more xs i e l)) ∙ h)

-- events

pub at_most : (a b : ℕ) → a ≤ b → nat_le a b ≡ true
at_most a b l = grind (arith, nat_tests)

not_at_most : (a b : ℕ) → b < a → nat_le a b ≡ false
not_at_most a b l = grind (arith, nat_tests)

cut_at : (es : List EventInText) (k : ℕ) (e : EventInText) → slice_get es k ≡ Some e → drop k es ≡ e ∷ drop (suc k) es
cut_at [] k e h = absurd cc
cut_at (d ∷ es) zero e h = let same : d ≡ e = cc in ap (λ w. w ∷ es) same
cut_at (d ∷ es) (suc k) e h = cut_at es k e h

pub noted_on : (g : Work) (last k : ℕ) (es : List EventInText) (e : EventInText) (d new all : Draft) → slice_get es k ≡ Some e → k ≤ last
    → new ≡ event_noted g k e d → events_noted g last k (drop k es) d ≡ all → events_noted g last (k + 1) (drop (k + 1) es) new ≡ all
unfolding events_noted
noted_on g last k es e d new all h l n i =
    ap (events_noted g last (k + 1) (drop (k + 1) es)) n
    ∙ (ap (λ w. events_noted g last (k + 1) (drop w es) (event_noted g k e d)) (add-one k)
    ∙ (ap (λ b. if b then events_noted g last (k + 1) (drop (suc k) es) (event_noted g k e d) else d) (sym (at_most k last l))
    ∙ (ap (λ w. events_noted g last k w d) (sym (cut_at es k e h)) ∙ i)))

pub stopped : (g : Work) (last k : ℕ) (es : List EventInText) (d : Draft) → last < k → events_noted g last k es d ≡ d
unfolding events_noted
stopped g last k [] d l = refl
stopped g last k (e ∷ es) d l =
    ap (λ b. if b then events_noted g last (k + 1) es (event_noted g k e d) else d) (not_at_most k last l)

pub noted_last : (g : Work) (last k : ℕ) (es : List EventInText) (d all : Draft) → last < k → events_noted g last k (drop k es) d ≡ all → d ≡ all
noted_last g last k es d all l h = sym (stopped g last k (drop k es) d l) ∙ h

pub noted_end : (g : Work) (last k : ℕ) (es : List EventInText) (d all : Draft) → length es ≤ k → events_noted g last k (drop k es) d ≡ all → d ≡ all
unfolding events_noted
noted_end g last k es d all l h = ap (λ w. events_noted g last k w d) (sym (drop_all k es l)) ∙ h

pub passed_on : (g : Work) (k : ℕ) (es : List EventInText) (e : EventInText) (w new all : PrintState) → slice_get es k ≡ Some e
    → new ≡ next g k e w → pass g k (drop k es) w ≡ all → pass g (k + 1) (drop (k + 1) es) new ≡ all
unfolding pass
passed_on g k es e w new all h n i =
    ap (pass g (k + 1) (drop (k + 1) es)) n
    ∙ (ap (λ m. pass g (k + 1) (drop m es) (next g k e w)) (add-one k)
    ∙ (ap (λ v. pass g k v w) (sym (cut_at es k e h)) ∙ i))

pub passed_end : (g : Work) (k : ℕ) (es : List EventInText) (w all : PrintState) → length es ≤ k → pass g k (drop k es) w ≡ all → w ≡ all
unfolding pass
passed_end g k es w all l h = ap (λ v. pass g k v w) (sym (drop_all k es l)) ∙ h
