-- One step of the pass that finds ambiguous plain scalars.
use Rattle.std.proofs.Common.{◌≡◌, ℕ, ◌+◌, ◌≤◌, Bool, List, [], ◌++◌, Option, Some, length, drop, sym, ap}
use Rattle.std.proofs.Common.{◌∙◌, append_assoc}
use Rattle.std.specs.Prelude.{flat_map, slice_get}
use Rattle.std.proofs.lemmas.List.{append-nil, drop_all}
use Rattle.yf_events.specs.Event.{EventInText, EventValue}
use Rattle.yf_events.specs.Reading.{events_of, spans_of}
use Rattle.yf_events.specs.Tree.{DocumentTree, TreesOf}
use Rattle.yf_events.specs.declared.event.Span.{Span}
use Rattle.yf_events.specs.declared.lists.Lists.{Lists}
use Rattle.yf_guard.proofs.StepLemmas.{event_is, first_event, span_is}
use Rattle.yf_lint.specs.AmbiguousPlains.{ambiguous_plains_of}
use Rattle.yf_lint.specs.Anchors.{start_of}
use Rattle.yf_lint.specs.PlainPass.{found_by, next, run}
use Rattle.yf_lint.specs.declared.ambiguous_plains.NextNode.{NextNode}
use Rattle.yf_lint.proofs.PlainRuns.{run_stream}

module _ (keys : Bool) (r : Lists) (i : ℕ) where
  pub pass_step : (x : EventInText) (v : EventValue) (s : Option Span) → slice_get r.events i ≡ Some x
      → slice_get (events_of r) i ≡ Some v → slice_get (spans_of r) i ≡ Some s
      → (st after : List NextNode) (os ns all : List ℕ) (start : ℕ) → start ≡ start_of s
      → os ++ run keys st (drop i r.events) ≡ all
      → after ≡ next v st → ns ≡ os ++ found_by keys v start st → ns ++ run keys after (drop (i + 1) r.events) ≡ all
  pass_step x v s e ev sp st after os ns all start o inv p q =
      let d = first_event r.events i x e in
      let rest = drop (i + 1) r.events in
      let w : start ≡ start_of x.span = o ∙ ap start_of (sym (span_is r i x s sp e)) in
      ap (λ y. ns ++ run keys y rest) p ∙ ap (λ ys. ys ++ run keys (next v st) rest) q
      ∙ append_assoc os (found_by keys v start st) (run keys (next v st) rest)
      ∙ ap (λ y. os ++ (found_by keys y start st ++ run keys (next y st) rest)) (sym (event_is r i x v ev e))
      ∙ ap (λ y. os ++ (found_by keys x.event y st ++ run keys (next x.event st) rest)) w
      ∙ ap (λ es. os ++ run keys st es) (sym d) ∙ inv

  pub pass_done : (st : List NextNode) (os : List ℕ) → length r.events ≤ i
      → os ++ run keys st (drop i r.events) ≡ run keys [] r.events
      → (trees : List DocumentTree) → TreesOf r trees → os ≡ flat_map (ambiguous_plains_of keys) trees
  pass_done st os h inv trees w =
      sym (append-nil os) ∙ ap (λ es. os ++ run keys st es) (sym (drop_all i r.events h)) ∙ inv
      ∙ ap (run keys []) w.events ∙ run_stream keys trees
