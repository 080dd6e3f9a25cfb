use Rattle.std.proofs.Common.{◌∙◌, refl, sym, true≢false, arith}
use Rattle.std.proofs.lemmas.List.Elements.{All-take, All-same}
use Rattle.std.specs.Str.{IsCharBoundary}
use Rattle.yf_block.proofs.Runs.NodesGiven.{run_halts, halt_at, whole_given, run_unfinished, run_unended, unmoved_given, found_again, cut_to_nothing}
use Rattle.yf_block.proofs.Runs.RunLemmas.{none_outcome, none_place, deep_stop}
use Rattle.yf_block.proofs.nodes.conclude.Goals as goal

pub returns-then-ends_whole-clause-tied : goal.returns-then-ends_whole-clause-tied
returns-then-ends_whole-clause-tied c = λ n ctx start j r run count before.
    let given = whole_given r.text.utf8 r.block c.args.root.least r.least c.if-ends_whole.ensures run in
    record { whole = λ _. given; broken = λ q. absurd (true≢false q); deep = λ q. absurd (true≢false (sym q)); alone = λ _ _ _. given }

pub read_prefix-requires-clause-escapes : goal.read_prefix-requires-clause-escapes
read_prefix-requires-clause-escapes c = All-same (IsCharBoundary c.args.scope.text.now) _ _ c.cut.ensures.escapes (All-take (IsCharBoundary c.args.scope.text.now) c.args.before.escapes c.args.part.now.escapes c.requires.escapes)

pub returns-in-Some-2-clause-tied : goal.returns-in-Some-2-clause-tied
returns-in-Some-2-clause-tied c = λ n ctx start j r run count before.
    let h = halt_at (run_halts run) c.in-Some.ensures.0 in
    found_again refl (run_unfinished r.text.utf8 r.block c.args.root.least r.least run c.in-Some.ensures.0 c.if-ends_whole.ensures)
    (λ e. deep_stop c.args.stopped.stop count (sym c.passes_limit.ensures ∙ e))
    (λ x. cut_to_nothing c.args.before.events c.args.part.now.events start.events c.cut.new.part.events before.events x c.cut.ensures.events)
    (λ x. cut_to_nothing c.args.before.comments c.args.part.now.comments start.comments c.cut.new.part.comments before.comments x c.cut.ensures.comments)
    (λ x. cut_to_nothing c.args.before.escapes c.args.part.now.escapes start.escapes c.cut.new.part.escapes before.escapes x c.cut.ensures.escapes)
    (rw c.in-Some-2.is at (c.in_ok-floor-in-Some.ensures.tied n ctx j r h))

pub returns-in-None-2-clause-tied : goal.returns-in-None-2-clause-tied
returns-in-None-2-clause-tied c = λ n ctx start j r run count before.
    let h = halt_at (run_halts run) c.in-Some.ensures.0 in
    absurd (rw c.in-None-2.is at (c.in_ok-floor-in-Some.ensures.tied n ctx j r h))

pub returns-in-None-clause-tied : goal.returns-in-None-clause-tied
returns-in-None-clause-tied c = λ n ctx start j r run count before.
    none_outcome start _ c.args.stopped.stop _ c.none_from.ensures
    (record { none = unmoved_given r.text.utf8 r.block c.args.root.least r.least (run_halts run) c.in-None.ensures; broken = run_unended r.text.utf8 r.block c.args.root.least r.least run c.in-None.ensures })
    count

pub returns-in-None-clause-place : goal.returns-in-None-clause-place
returns-in-None-clause-place c = none_place c.args.scope.text.now c.args.root.at c.args.stopped.stop _ c.none_from.ensures c.requires.stopped.stop

pub returns-in-None-clause-escapes : goal.returns-in-None-clause-escapes
returns-in-None-clause-escapes c = All-same (IsCharBoundary c.args.scope.text.now) _ _ c.cut-in-None.ensures.escapes (All-take (IsCharBoundary c.args.scope.text.now) c.args.before.escapes c.args.part.now.escapes c.requires.escapes)

pub read_prefix-requires-clause-boundary : goal.read_prefix-requires-clause-boundary
read_prefix-requires-clause-boundary c = c.requires.boundary

pub read_prefix-requires-clause-end : goal.read_prefix-requires-clause-end
read_prefix-requires-clause-end c = rw c.in-Some.ensures.0 at c.requires.stopped.halt

pub read_prefix-requires-clause-order : goal.read_prefix-requires-clause-order
read_prefix-requires-clause-order c = omega (arith, c.in-Some.ensures.1)

pub returns-then-ends_whole-clause-escapes : goal.returns-then-ends_whole-clause-escapes
returns-then-ends_whole-clause-escapes c = c.requires.escapes

pub returns-in-Some-2-clause-escapes : goal.returns-in-Some-2-clause-escapes
returns-in-Some-2-clause-escapes c = c.in_ok-floor-in-Some.ensures.escapes

pub returns-in-None-2-clause-escapes : goal.returns-in-None-2-clause-escapes
returns-in-None-2-clause-escapes c = c.in_ok-floor-in-Some.ensures.escapes
