-- One step of the pass that finds keys and items without a value.
use Rattle.std.proofs.Common.{◌≡◌, ℕ, ◌+◌, ◌≤◌, List, [], ◌∷◌, ◌++◌, Option, Some, length, drop, refl, sym, ap, ◌∙◌, append_assoc}
use Rattle.std.specs.Prelude.{flat_map, option_map, slice_get}
use Rattle.std.proofs.lemmas.List.{append-nil, drop_all}
use Rattle.std.proofs.lemmas.Option.{same_Some, slice_get-map}
use Rattle.yf_events.specs.Event.{EventInText, EventValue}
use Rattle.yf_events.specs.Reading.{entries_of, events_of, spans_of}
use Rattle.yf_events.specs.Tree.{DocumentTree, TreesOf}
use Rattle.yf_events.specs.declared.event.Entry.{Entry}
use Rattle.yf_events.specs.declared.event.Span.{Span}
use Rattle.yf_events.specs.declared.lists.Lists.{Lists}
use Rattle.yf_guard.proofs.StepLemmas.{event_is, first_event, span_is}
use Rattle.yf_lint.specs.EmptyPass.{found_by, next, run}
use Rattle.yf_lint.specs.EmptyValues.{empty_values_of, start_of}
use Rattle.yf_lint.specs.declared.empty_values.OpenEntries.{OpenEntries}
use Rattle.yf_lint.proofs.EmptyRuns.{run_stream}

entry_is : (r : Lists) (i : ℕ) (e : EventInText) (n : Option Entry) → slice_get (entries_of r) i ≡ Some n → slice_get r.events i ≡ Some e → e.entry ≡ n
entry_is r i e n h g =
    same_Some _ _ (sym (slice_get-map (λ (x : EventInText). x.entry) r.events i ∙ ap (option_map (λ (x : EventInText). x.entry)) g) ∙ h)

pub pass_step : (r : Lists) (i : ℕ) (x : EventInText) (v : EventValue) (s : Option Span) (n : Option Entry) → slice_get r.events i ≡ Some x
    → slice_get (events_of r) i ≡ Some v → slice_get (spans_of r) i ≡ Some s → slice_get (entries_of r) i ≡ Some n
    → (st after : List OpenEntries) (os ns all : List ℕ) (start : ℕ) → start ≡ start_of s n → os ++ run st (drop i r.events) ≡ all
    → after ≡ next v start st → ns ≡ os ++ found_by v start st → ns ++ run after (drop (i + 1) r.events) ≡ all
pass_step r i x v s n e ev sp en st after os ns all start o inv p q =
    let d = first_event r.events i x e in
    let rest = drop (i + 1) r.events in
    let w : start ≡ start_of x.span x.entry = o ∙ ap (λ y. start_of y n) (sym (span_is r i x s sp e)) ∙ ap (λ y. start_of x.span y) (sym (entry_is r i x n en e)) in
    ap (λ y. ns ++ run y rest) p ∙ ap (λ ys. ys ++ run (next v start st) rest) q
    ∙ append_assoc os (found_by v start st) (run (next v start st) rest)
    ∙ ap (λ y. os ++ (found_by y start st ++ run (next y start st) rest)) (sym (event_is r i x v ev e))
    ∙ ap (λ y. os ++ (found_by x.event y st ++ run (next x.event y st) rest)) w
    ∙ ap (λ es. os ++ run st es) (sym d) ∙ inv

pub pass_done : (r : Lists) (i : ℕ) (st : List OpenEntries) (os : List ℕ) → length r.events ≤ i → os ++ run st (drop i r.events) ≡ run [] r.events
    → (trees : List DocumentTree) → TreesOf r trees → os ≡ flat_map empty_values_of trees
pass_done r i st os h inv trees w =
    sym (append-nil os) ∙ ap (λ es. os ++ run st es) (sym (drop_all i r.events h)) ∙ inv ∙ ap (run []) w.events ∙ run_stream trees
