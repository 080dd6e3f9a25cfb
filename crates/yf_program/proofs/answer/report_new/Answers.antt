use Rattle.std.proofs.Common.{inr}
use Rattle.yf_command_line.specs.Requests.{all_inputs}
use Rattle.yf_host.specs.World.{world_in}
use Rattle.yf_program.proofs.ReportLemmas.{report_before}
use Rattle.yf_program.specs.Answer.{host_in}
use Rattle.yf_program.specs.Reports.{report_task}
use Rattle.yf_program.proofs.answer.report_new.Goals as goal

pub returns-in-Ok : goal.returns-in-Ok
returns-in-Ok g c = inr (
  c.in-Ok.listed,
  g.I.Inputs.opened c.listed_by.new.inputs,
  c.in-Ok.ensures.taken,
  c.in-Ok.ensures.opened,
  report_before (host_in g.I.Inputs.claim g.S.FileSystem.tells g.S.FileSystem.state g.S.Links.leads c.args.sources.now)
      (host_in g.I.Inputs.claim g.S.FileSystem.tells g.S.FileSystem.state g.S.Links.leads (record { inputs = c.listed_by.new.inputs; files = c.args.sources.now.files }))
      c.in-Ok.ensures.same c.args.scope.now (report_task c.args.check c.in-Ok.listed c.args.explain c.args.style c.args.form) (all_inputs c.args.check.inputs)
      c.report_unlisted.result (world_in g.I.Inputs.opened (record { inputs = c.listed_by.new.inputs; files = c.args.sources.now.files }) c.args.streams.now)
      (world_in g.I.Inputs.opened c.report_unlisted.new.sources c.report_unlisted.new.streams) c.report_unlisted.ensures,
)
