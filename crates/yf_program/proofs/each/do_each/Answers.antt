use Rattle.std.proofs.Common.{◌∙◌, List, ap, get_or, rules}
use Rattle.yf_command_line.specs.declared.command.Input.{Input}
use Rattle.yf_program.specs.Answer.{ScopedInput, host_in, name_of}
use Rattle.yf_program.specs.Answer.DoesEach.{one_done}
use Rattle.yf_host.specs.World.{world_in}
use Rattle.yf_program.proofs.AnswerLemmas.{all_done, scoped_input_before, known_on, named_by, next_done}
use Rattle.yf_program.proofs.each.do_each.Goals as goal

pub loop-input-init : goal.loop-input-init
loop-input-init g c = record { done = one_done c.do_named-greatest.ensures.does; same = c.do_named-greatest.ensures.same }

pub loop-input-preserved : goal.loop-input-preserved
loop-input-preserved g c = record {
  done = next_done c.args.scope.now.stdin_name (ScopedInput (host_in g.I.Inputs.claim g.S.FileSystem.tells g.S.FileSystem.state g.S.Links.leads c.args.sources.now) c.args.scope.now c.args.task.now) _ (world_in g.I.Inputs.opened c.loop-input.sources c.loop-input.streams) _
      c.args.inputs.now.first c.input-item.result c.args.inputs.now.rest.items c.loop-input.input-index c.input-item.result c.loop-input.greatest c.do_named-status.result c.max-greatest.result
      (search rules)
      (c.input-item.is ∙ ap (λ (inputs : List Input). get_or inputs c.loop-input.input-index c.input-item.result) c.as_slice-input-items.ensures.value)
      c.max-greatest.ensures c.loop-input.invariant.done
      (named_by (ScopedInput (host_in g.I.Inputs.claim g.S.FileSystem.tells g.S.FileSystem.state g.S.Links.leads c.loop-input.sources) c.args.scope.now c.args.task.now) (ScopedInput (host_in g.I.Inputs.claim g.S.FileSystem.tells g.S.FileSystem.state g.S.Links.leads c.args.sources.now) c.args.scope.now c.args.task.now)
      (scoped_input_before (host_in g.I.Inputs.claim g.S.FileSystem.tells g.S.FileSystem.state g.S.Links.leads c.args.sources.now) (host_in g.I.Inputs.claim g.S.FileSystem.tells g.S.FileSystem.state g.S.Links.leads c.loop-input.sources) c.loop-input.invariant.same c.args.scope.now c.args.task.now)
      (name_of c.args.scope.now.stdin_name c.input-item.result) c.input-item.result c.do_named-status.result _ _ c.do_named-status.ensures.does);
  same = known_on c.loop-input.invariant.same c.do_named-status.ensures.same;
}

pub returns : goal.returns
returns g c = all_done c.args.scope.now.stdin_name (ScopedInput (host_in g.I.Inputs.claim g.S.FileSystem.tells g.S.FileSystem.state g.S.Links.leads c.args.sources.now) c.args.scope.now c.args.task.now) _ _
    c.args.inputs.now.first c.args.inputs.now.rest.items c.loop-input.input-index c.loop-input.greatest (search rules) c.loop-input.invariant.done
