use Rattle.yf_host.specs.World.{world_in}
use Rattle.yf_program.proofs.BaselineLemmas.{reported_as}
use Rattle.yf_program.specs.Answer.{host_in}
use Rattle.yf_program.proofs.answer.report_unlisted.Goals as goal

pub returns : goal.returns
returns g c =
    reported_as (host_in g.I.Inputs.claim g.S.FileSystem.tells g.S.FileSystem.state g.S.Links.leads c.args.sources.now)
    c.args.check c.args.listed c.args.scope.now c.args.explain c.args.style c.args.form c.report_inputs.result
    (world_in g.I.Inputs.opened c.args.sources.now c.args.streams.now)
    (world_in g.I.Inputs.opened c.report_inputs.new.sources c.report_inputs.new.streams) c.explains_in.result
    c.explains_in.ensures c.limit_in.result c.limit_in.ensures c.report_inputs.ensures
