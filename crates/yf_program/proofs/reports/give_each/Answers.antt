use Rattle.std.proofs.Common.{◌∙◌, List, ap, get_or, rules}
use Rattle.std.proofs.lemmas.Result.{err_from_is_err_and}
use Rattle.yf_command_line.specs.declared.command.Input.{Input}
use Rattle.yf_rules.specs.Runs.ByteStream.{stream_of}
use Rattle.yf_program.specs.Reports.{state_in}
use Rattle.yf_program.proofs.AnswerLemmas.{known_on}
use Rattle.yf_program.proofs.ReportLemmas.{all_given, first_given, first_gave_up, named_given_before, next_gave_up, one_more_given, stops_as_before}
use Rattle.yf_program.proofs.reports.give_each.Goals as goal

pub returns-in_err-greatest-clause-gives_up : goal.returns-in_err-greatest-clause-gives_up
returns-in_err-greatest-clause-gives_up g c =
    let p = err_from_is_err_and c.from_residual.result c.from_residual.ensures.1 in
    rw p.1 (first_gave_up (g.I.Inputs.claim c.args.inputs.now) c.args.scope.now c.args.task.now
    (state_in g.I.Inputs.opened c.args.inputs.now c.args.files.now.items (stream_of g.E.Write.contents g.E.Sink.has_failed c.args.error_stream.now))
    c.args.list.now.first c.args.list.now.rest.items
    (state_in g.I.Inputs.opened c.give_named.new.inputs c.give_named.new.files.items (stream_of g.E.Write.contents g.E.Sink.has_failed c.give_named.new.error_stream))
    c.in_err-greatest.ensures.gives_up)

pub loop-input-init : goal.loop-input-init
loop-input-init g c = record {
  given = first_given (g.I.Inputs.claim c.args.inputs.now) c.args.scope.now c.args.task.now
      (state_in g.I.Inputs.opened c.args.inputs.now c.args.files.now.items (stream_of g.E.Write.contents g.E.Sink.has_failed c.args.error_stream.now))
      c.in_ok-greatest.greatest
      (state_in g.I.Inputs.opened c.give_named.new.inputs c.give_named.new.files.items (stream_of g.E.Write.contents g.E.Sink.has_failed c.give_named.new.error_stream))
      c.args.list.now.first c.in_ok-greatest.ensures.gives;
  same = c.give_named.ensures.same;
}

pub returns-in_err-status-clause-gives_up : goal.returns-in_err-status-clause-gives_up
returns-in_err-status-clause-gives_up g c =
    let p = err_from_is_err_and c.from_residual-in_err-status.result c.from_residual-in_err-status.ensures.1 in
    rw p.1 (next_gave_up (g.I.Inputs.claim c.args.inputs.now) c.args.scope.now c.args.task.now
    (state_in g.I.Inputs.opened c.args.inputs.now c.args.files.now.items (stream_of g.E.Write.contents g.E.Sink.has_failed c.args.error_stream.now))
    c.loop-input.greatest
    (state_in g.I.Inputs.opened c.loop-input.inputs c.loop-input.files.items (stream_of g.E.Write.contents g.E.Sink.has_failed c.loop-input.error_stream))
    (state_in g.I.Inputs.opened c.give_named-in-loop-input.new.inputs c.give_named-in-loop-input.new.files.items (stream_of g.E.Write.contents g.E.Sink.has_failed c.give_named-in-loop-input.new.error_stream))
    c.args.list.now.first c.input-item.result c.args.list.now.rest.items c.loop-input.input-index
    (search rules)
    (c.input-item.is ∙ ap (λ (inputs : List Input). get_or inputs c.loop-input.input-index c.input-item.result) c.as_slice-input-items.ensures.value)
    c.loop-input.invariant.given
    (stops_as_before (g.I.Inputs.claim c.args.inputs.now) (g.I.Inputs.claim c.loop-input.inputs) c.loop-input.invariant.same c.input-item.result
    (state_in g.I.Inputs.opened c.loop-input.inputs c.loop-input.files.items (stream_of g.E.Write.contents g.E.Sink.has_failed c.loop-input.error_stream))
    (state_in g.I.Inputs.opened c.give_named-in-loop-input.new.inputs c.give_named-in-loop-input.new.files.items (stream_of g.E.Write.contents g.E.Sink.has_failed c.give_named-in-loop-input.new.error_stream))
    c.in_err-status.ensures.gives_up))

pub loop-input-preserved : goal.loop-input-preserved
loop-input-preserved g c = record {
  given = one_more_given (g.I.Inputs.claim c.args.inputs.now) c.args.scope.now c.args.task.now
      (state_in g.I.Inputs.opened c.args.inputs.now c.args.files.now.items (stream_of g.E.Write.contents g.E.Sink.has_failed c.args.error_stream.now))
      c.loop-input.greatest c.in_ok-status.status c.max-greatest.result
      (state_in g.I.Inputs.opened c.loop-input.inputs c.loop-input.files.items (stream_of g.E.Write.contents g.E.Sink.has_failed c.loop-input.error_stream))
      (state_in g.I.Inputs.opened c.give_named-in-loop-input.new.inputs c.give_named-in-loop-input.new.files.items (stream_of g.E.Write.contents g.E.Sink.has_failed c.give_named-in-loop-input.new.error_stream))
      c.args.list.now.first c.input-item.result c.args.list.now.rest.items c.loop-input.input-index
      (search rules)
      (c.input-item.is ∙ ap (λ (inputs : List Input). get_or inputs c.loop-input.input-index c.input-item.result) c.as_slice-input-items.ensures.value)
      c.max-greatest.ensures c.loop-input.invariant.given
      (named_given_before (g.I.Inputs.claim c.args.inputs.now) (g.I.Inputs.claim c.loop-input.inputs) c.loop-input.invariant.same c.args.scope.now c.args.task.now
      c.input-item.result c.in_ok-status.status
      (state_in g.I.Inputs.opened c.loop-input.inputs c.loop-input.files.items (stream_of g.E.Write.contents g.E.Sink.has_failed c.loop-input.error_stream))
      (state_in g.I.Inputs.opened c.give_named-in-loop-input.new.inputs c.give_named-in-loop-input.new.files.items (stream_of g.E.Write.contents g.E.Sink.has_failed c.give_named-in-loop-input.new.error_stream))
      c.in_ok-status.ensures.gives);
  same = known_on c.loop-input.invariant.same c.give_named-in-loop-input.ensures.same;
}

pub returns-clause-gives : goal.returns-clause-gives
returns-clause-gives g c =
    all_given (g.I.Inputs.claim c.args.inputs.now) c.args.scope.now c.args.task.now
    (state_in g.I.Inputs.opened c.args.inputs.now c.args.files.now.items (stream_of g.E.Write.contents g.E.Sink.has_failed c.args.error_stream.now))
    c.loop-input.greatest
    (state_in g.I.Inputs.opened c.loop-input.inputs c.loop-input.files.items (stream_of g.E.Write.contents g.E.Sink.has_failed c.loop-input.error_stream))
    c.args.list.now.first c.args.list.now.rest.items c.loop-input.input-index (search rules) c.loop-input.invariant.given
