use Rattle.std.proofs.Common.{◌≡◌, ◌∙◌, List, ℕ, false, subst, sym, true}
use Rattle.yf_host.specs.Ends.{AreTold}
use Rattle.yf_program.specs.Guarded.{prints_text}
use Rattle.yf_program.proofs.judged.do_no_data.Goals as goal

pub returns-then-prints : goal.returns-then-prints
returns-then-prints g c =
    let prints : prints_text c.args.task.now.work ≡ true = sym c.prints_text-prints.ensures ∙ c.if-prints.true in
    rw prints
    (subst (λ (line : List ℕ). AreTold 1 c.tell.result c.args.bytes.now line c.args.streams.now c.tell.new.streams)
    (c.as_bytes.ensures.value ∙ c.left_line_of.ensures) c.tell.ensures)

pub returns : goal.returns
returns g c =
    let prints : prints_text c.args.task.now.work ≡ false = sym c.prints_text-prints.ensures ∙ c.if-prints.false in
    rw prints c.show_finding.ensures
