-- One step of the pass that finds the parts of nodes.
use Rattle.std.proofs.Common.{◌≡◌, ℕ, ◌+◌, ◌≤◌, List, [], ◌++◌, Option, Some, length, drop, sym, ap, ◌∙◌, append_assoc}
use Rattle.std.specs.Prelude.{flat_map, slice_get}
use Rattle.std.proofs.lemmas.List.{append-nil, drop_all}
use Rattle.yf_events.specs.Event.{EventInText, EventValue}
use Rattle.yf_events.specs.Reading.{entries_of, events_of, spans_of}
use Rattle.yf_events.specs.Tree.{DocumentTree, TreesOf}
use Rattle.yf_events.specs.declared.event.Entry.{Entry}
use Rattle.yf_events.specs.declared.event.Span.{Span}
use Rattle.yf_events.specs.declared.lists.Lists.{Lists}
use Rattle.yf_guard.proofs.StepLemmas.{event_is, first_event, span_is}
use Rattle.yf_outline.proofs.OutlineSteps.{entry_is}
use Rattle.yf_problems.specs.FoldPass.{found_by, next, run}
use Rattle.yf_problems.specs.Folds.{document_parts}
use Rattle.yf_problems.proofs.FoldRuns.{run_stream}
use Rattle.yf_server.specs.declared.analysis.Foldable.{Foldable}

pub pass_step : (t : List ℕ) (r : Lists) (i : ℕ) (x : EventInText) (v : EventValue) (s : Option Span) (n : Option Entry)
    → slice_get r.events i ≡ Some x → slice_get (events_of r) i ≡ Some v → slice_get (spans_of r) i ≡ Some s
    → slice_get (entries_of r) i ≡ Some n → (st after : List (Option ℕ)) (ps ns all : List Foldable)
    → ps ++ run t st (drop i r.events) ≡ all → after ≡ next v n st → ns ≡ ps ++ found_by t v s n st
    → ns ++ run t after (drop (i + 1) r.events) ≡ all
pass_step t r i x v s n e ev sp en st after ps ns all inv p q =
    let d = first_event r.events i x e in
    let rest = drop (i + 1) r.events in
    ap (λ y. ns ++ run t y rest) p ∙ ap (λ ys. ys ++ run t (next v n st) rest) q
    ∙ append_assoc ps (found_by t v s n st) (run t (next v n st) rest)
    ∙ ap (λ y. ps ++ (found_by t y s n st ++ run t (next y n st) rest)) (sym (event_is r i x v ev e))
    ∙ ap (λ y. ps ++ (found_by t x.event y n st ++ run t (next x.event n st) rest)) (sym (span_is r i x s sp e))
    ∙ ap (λ y. ps ++ (found_by t x.event x.span y st ++ run t (next x.event y st) rest)) (sym (entry_is r i x n en e))
    ∙ ap (λ es. ps ++ run t st es) (sym d) ∙ inv

pub pass_done : (t : List ℕ) (r : Lists) (i : ℕ) (st : List (Option ℕ)) (ps : List Foldable) → length r.events ≤ i
    → ps ++ run t st (drop i r.events) ≡ run t [] r.events
    → (trees : List DocumentTree) → TreesOf r trees → ps ≡ flat_map (document_parts t) trees
pass_done t r i st ps h inv trees w =
    sym (append-nil ps) ∙ ap (λ es. ps ++ run t st es) (sym (drop_all i r.events h)) ∙ inv ∙ ap (run t []) w.events ∙ run_stream t trees
