use Rattle.std.proofs.Common.{◌≡◌, ◌∙◌, false, refl, sym, true}
use Rattle.yf_program.specs.Guarded.{prints_text}
use Rattle.yf_program.proofs.each.skip_standard.Goals as goal

pub returns-then-prints-clause-does : goal.returns-then-prints-clause-does
returns-then-prints-clause-does g c =
    let prints : prints_text c.args.task.now.work ≡ true = sym c.prints_text-prints.ensures ∙ c.if-prints.true in
    rw prints c.copy_standard.ensures.does
