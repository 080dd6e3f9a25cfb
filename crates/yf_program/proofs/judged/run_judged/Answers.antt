use Rattle.std.proofs.Common.{◌≡◌, ◌∙◌, false, sym, true}
use Rattle.yf_program.specs.Guarded.{is_judged}
use Rattle.yf_program.proofs.judged.run_judged.Goals as goal

pub returns-then-is_judged : goal.returns-then-is_judged
returns-then-is_judged g c =
    let judged : is_judged c.args.scope.now c.args.input.now ≡ true = sym c.is_judged.ensures ∙ c.if-is_judged.true in
    rw judged c.run_past.ensures

pub returns : goal.returns
returns g c =
    let judged : is_judged c.args.scope.now c.args.input.now ≡ false = sym c.is_judged.ensures ∙ c.if-is_judged.false in
    rw (judged, ← c.name_of.ensures) c.run.ensures
