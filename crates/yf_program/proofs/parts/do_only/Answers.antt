use Rattle.yf_program.specs.Answer.{ScopedInput, host_in}
use Rattle.yf_program.proofs.AnswerLemmas.{no_more}
use Rattle.yf_program.proofs.parts.do_only.Goals as goal

pub returns : goal.returns
returns g c =
    let host = host_in g.I.Inputs.claim g.S.FileSystem.tells g.S.FileSystem.state g.S.Links.leads c.args.sources.now in
    no_more c.args.scope.now (ScopedInput host c.args.scope.now c.args.task.now) _ _ c.do_inputs.result c.args.input c.new.result.items c.new.ensures.items
    c.do_inputs.ensures
