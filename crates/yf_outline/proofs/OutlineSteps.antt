-- One step of the pass that finds the outline of a text.
use Rattle.std.proofs.Common.{◌≡◌, ℕ, ◌+◌, ◌≤◌, Bool, List, [], ◌++◌, Option, Some, length, drop, sym, ap, ◌∙◌, append_assoc}
use Rattle.std.specs.Prelude.{flat_map, nat_lt, option_map, slice_get}
use Rattle.std.proofs.lemmas.List.{append-nil, drop_all}
use Rattle.std.proofs.lemmas.Option.{same_Some, slice_get-map}
use Rattle.yf_events.specs.Event.{EventInText, EventValue}
use Rattle.yf_events.specs.Reading.{entries_of, events_of, spans_of}
use Rattle.yf_events.specs.Tree.{DocumentTree, TreesOf}
use Rattle.yf_events.specs.declared.event.Entry.{Entry}
use Rattle.yf_events.specs.declared.event.Span.{Span}
use Rattle.yf_events.specs.declared.lists.Lists.{Lists}
use Rattle.yf_guard.proofs.StepLemmas.{event_is, first_event, span_is}
use Rattle.yf_outline.specs.Outline.{document_parts, outline_of}
use Rattle.yf_outline.specs.OutlinePass.{found_by, next, run}
use Rattle.yf_outline.specs.declared.outline.Frame.{Frame}
use Rattle.yf_outline.proofs.OutlineRuns.{run_stream}
use Rattle.yf_server.specs.declared.analysis.Part.{Part}

pub entry_is : (r : Lists) (i : ℕ) (e : EventInText) (n : Option Entry) → slice_get (entries_of r) i ≡ Some n
    → slice_get r.events i ≡ Some e → e.entry ≡ n
entry_is r i e n h g =
    same_Some _ _ (sym (slice_get-map (λ (x : EventInText). x.entry) r.events i
    ∙ ap (option_map (λ (x : EventInText). x.entry)) g) ∙ h)

pub pass_step : (t : List ℕ) (b : Bool) (r : Lists) (i : ℕ) (x : EventInText) (v : EventValue) (s : Option Span)
    (n : Option Entry)
    → slice_get r.events i ≡ Some x → slice_get (events_of r) i ≡ Some v → slice_get (spans_of r) i ≡ Some s
    → slice_get (entries_of r) i ≡ Some n → (st after : List Frame) (ps ns all : List Part)
    → ps ++ run t b st (drop i r.events) ≡ all → after ≡ next t b v s n st → ns ≡ ps ++ found_by t b v s n st
    → ns ++ run t b after (drop (i + 1) r.events) ≡ all
pass_step t b r i x v s n e ev sp en st after ps ns all inv p q =
    let d = first_event r.events i x e in
    let rest = drop (i + 1) r.events in
    ap (λ y. ns ++ run t b y rest) p ∙ ap (λ ys. ys ++ run t b (next t b v s n st) rest) q
    ∙ append_assoc ps (found_by t b v s n st) (run t b (next t b v s n st) rest)
    ∙ ap (λ y. ps ++ (found_by t b y s n st ++ run t b (next t b y s n st) rest)) (sym (event_is r i x v ev e))
    ∙ ap (λ y. ps ++ (found_by t b x.event y n st ++ run t b (next t b x.event y n st) rest))
    (sym (span_is r i x s sp e))
    ∙ ap (λ y. ps ++ (found_by t b x.event x.span y st ++ run t b (next t b x.event x.span y st) rest))
    (sym (entry_is r i x n en e))
    ∙ ap (λ es. ps ++ run t b st es) (sym d) ∙ inv

pub pass_done : (t : List ℕ) (b : Bool) (r : Lists) (i : ℕ) (st : List Frame) (ps : List Part) → length r.events ≤ i
    → ps ++ run t b st (drop i r.events) ≡ run t b [] r.events → b ≡ nat_lt 1 (length r.documents)
    → (trees : List DocumentTree) → TreesOf r trees → ps ≡ outline_of t trees
pass_done t b r i st ps h inv several trees w =
    sym (append-nil ps) ∙ ap (λ es. ps ++ run t b st es) (sym (drop_all i r.events h)) ∙ inv ∙ ap (run t b []) w.events
    ∙ run_stream t b trees ∙ ap (λ c. flat_map (document_parts t c) trees) (several ∙ ap (nat_lt 1) w.documents)
