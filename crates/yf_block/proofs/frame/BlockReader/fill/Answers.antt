use Rattle.std.proofs.Common.{reverse, refl, sym, subst}
use Rattle.std.specs.List.{All}
use Rattle.std.specs.Str.{IsCharBoundary}
use Rattle.yf_events.specs.declared.part.Part.{Part}
use Rattle.yf_block.specs.RootTied.{AtBegin}
use Rattle.yf_block.specs.RunTied.{StopGives}
use Rattle.yf_block.specs.declared.nodes.Stopped.{Stopped}
use Rattle.yf_block.proofs.Runs.RunLemmas.{stop_gives, ready_anywhere}
use Rattle.yf_block.proofs.frame.BlockReader.fill.Goals as goal

pub begin-requires : goal.begin-requires
begin-requires c = record {
  boundary = c.requires.boundary;
  progress = c.requires.progress;
  escapes = subst (λ (z : Part). All (IsCharBoundary c.args.scope.text.now) z.escapes) (sym c.swap.ensures.x_after) c.requires.escapes;
}

pub run-requires : goal.run-requires
run-requires c =
    let m = c.in_ok-step.ensures.stepped in
    record { ready = ready_anywhere c.args.scope.text.now c.args.at c.in_ok-step.step m.ready; progress = m.progress; escapes = m.escapes }

pub returns-clause-escapes : goal.returns-clause-escapes
returns-clause-escapes c = subst (λ (z : Part). All (IsCharBoundary c.args.scope.text.now) z.escapes) (sym c.swap-2.ensures.y_after) c.in_ok-stop.ensures.escapes

pub returns-clause-tied : goal.returns-clause-tied
returns-clause-tied c = λ d root j k a.
    let t = c.args.scope.text.now in
    let progress = c.args.self.now.progress in
    let b = c.in_ok-step.ensures.tied d root c.swap.new.x j k
    (subst (λ (z : Part). AtBegin t d root z (reverse c.args.self.now.frames.items) c.args.at progress z) (sym c.swap.ensures.x_after) a) in
    let p = c.run.new.self in
    let left : Stopped = record { stop = c.in_ok-stop.stop; halt = p.progress.halt; floor = p.progress.floor } in
    let s = stop_gives t d root c.swap.new.x p.part p.progress left c.in_ok-stop.stop refl refl (c.in_ok-stop.ensures.tied d root c.swap.new.x j k b) in
    record { gives = subst (λ (z : Part). StopGives t d root z c.in_ok-stop.stop left c.swap-2.new.y) c.swap.ensures.x_after (subst (λ (z : Part). StopGives t d root c.swap.new.x c.in_ok-stop.stop left z) (sym c.swap-2.ensures.y_after) s) }

pub returns-clause-counted : goal.returns-clause-counted
returns-clause-counted c = λ u total none. c.in_ok-stop.ensures.counted u total (c.in_ok-step.ensures.counted u total none)

pub returns-clause-stopped : goal.returns-clause-stopped
returns-clause-stopped c = let p = c.in_ok-stop.ensures.progress in record { stop = c.in_ok-stop.ensures.stop; halt = p.halt; floor = p.floor }
