-- One step of the passes that find unused and repeated anchors.
use Rattle.std.proofs.Common.{◌≡◌, ℕ, ◌+◌, Bool, List, [], ◌∷◌, ◌++◌, Option, Some, drop, reverse, refl, sym, subst, ap, ◌∙◌, append_assoc}
use Rattle.std.specs.Borrow.{Bor}
use Rattle.std.specs.BTreeSet.{BTreeSet}
use Rattle.std.specs.Prelude.{slice_get}
use Rattle.yf_events.specs.Event.{EventInText, EventValue}
use Rattle.yf_events.specs.Reading.{events_of, spans_of}
use Rattle.yf_events.specs.declared.event.Span.{Span}
use Rattle.yf_events.specs.declared.lists.Lists.{Lists}
use Rattle.yf_guard.proofs.StepLemmas.{event_is, first_event, span_is}
use Rattle.yf_lint.specs.Anchors.{anchor_of, has, is_used, names_after, repeated, repeated_at, start_of, unused, unused_at, used_from}
use Rattle.yf_lint.specs.NameSets.{IsNameSet}

module _ (r : Lists) (i : ℕ) (x : EventInText) (v : EventValue) (s : Option Span) (e : slice_get r.events i ≡ Some x)
    (ev : slice_get (events_of r) i ≡ Some v) (sp : slice_get (spans_of r) i ≡ Some s) (names new : BTreeSet (Bor (List ℕ))) (os ns : List ℕ) where
  pub back_step : IsNameSet (is_used (drop (i + 1) r.events)) names → reverse os ≡ unused (drop (i + 1) r.events)
      → ((later : List ℕ → Bool) → IsNameSet later names → IsNameSet (used_from v later) new × (reverse ns ≡ unused_at (anchor_of v) (start_of s) later ++ reverse os))
      → IsNameSet (is_used (drop i r.events)) new × (reverse ns ≡ unused (drop i r.events))
  back_step h o f =
      let later = drop (i + 1) r.events in
      let d = first_event r.events i x e in
      let w = f (is_used later) h in (
        subst (λ es. IsNameSet (is_used es) new) (sym d) (subst (λ y. IsNameSet (used_from y (is_used later)) new) (sym (event_is r i x v ev e)) w.0),
        w.1 ∙ ap (λ ys. unused_at (anchor_of v) (start_of s) (is_used later) ++ ys) o
            ∙ ap (λ y. unused_at (anchor_of y) (start_of s) (is_used later) ++ unused later) (sym (event_is r i x v ev e))
            ∙ ap (λ y. unused_at (anchor_of x.event) (start_of y) (is_used later) ++ unused later) (sym (span_is r i x s sp e))
            ∙ ap unused (sym d),
      )

  pub on_step : (before : List (List ℕ)) (all : List ℕ) → IsNameSet (has before) names → os ++ repeated before (drop i r.events) ≡ all
      → ((seen : List (List ℕ)) → IsNameSet (has seen) names → IsNameSet (has (names_after v seen)) new × (ns ≡ os ++ repeated_at seen (anchor_of v) (start_of s)))
      → IsNameSet (has (names_after v before)) new × (ns ++ repeated (names_after v before) (drop (i + 1) r.events) ≡ all)
  on_step before all h o f =
      let later = drop (i + 1) r.events in
      let d = first_event r.events i x e in
      let w = f before h in
      let g = event_is r i x v ev e in (
        w.0,
        ap (λ ys. ys ++ repeated (names_after v before) later) w.1
            ∙ append_assoc os (repeated_at before (anchor_of v) (start_of s)) (repeated (names_after v before) later)
            ∙ ap (λ y. os ++ (repeated_at before (anchor_of y) (start_of s) ++ repeated (names_after y before) later)) (sym g)
            ∙ ap (λ y. os ++ (repeated_at before (anchor_of x.event) (start_of y) ++ repeated (names_after x.event before) later)) (sym (span_is r i x s sp e))
            ∙ ap (λ es. os ++ repeated before es) (sym d) ∙ o,
      )
