use Rattle.std.proofs.Common.{◌≡◌, ◌≢◌, ◌∙◌, [], length, rules, sym}
use Rattle.std.proofs.lemmas.Bool.{eqb-true}
use Rattle.std.proofs.lemmas.List.{nil_from_length}
use Rattle.std.proofs.lemmas.Result.{IfOk-weaker, on_err_weaker}
use Rattle.std.specs.Prelude.{vec_len}
use Rattle.yf_rules.specs.Runs.ByteStream.{stream_of}
use Rattle.yf_program.specs.Reports.{state_in}
use Rattle.yf_program.proofs.ReportLemmas.{first_gave_up, named_each, one_given, several_given}
use Rattle.yf_program.proofs.reports.give_all.Goals as goal

pub returns-then-is_named-clause-gives : goal.returns-then-is_named-clause-gives
returns-then-is_named-clause-gives g c =
    IfOk-weaker c.give_each.result _ _
    (λ status given. named_each (g.I.Inputs.claim c.args.inputs.now) c.args.scope.now c.args.task.now
    (state_in g.I.Inputs.opened c.args.inputs.now c.args.files.now.items (stream_of g.E.Write.contents g.E.Sink.has_failed c.args.error_stream.now))
    (state_in g.I.Inputs.opened c.give_each.new.inputs c.give_each.new.files.items (stream_of g.E.Write.contents g.E.Sink.has_failed c.give_each.new.error_stream))
    c.args.list.now.first c.args.list.now.rest.items status c.if-is_named.true given)
    c.give_each.ensures.gives

pub returns-then-is_empty-clause-gives : goal.returns-then-is_empty-clause-gives
returns-then-is_empty-clause-gives g c =
    let count : vec_len c.args.list.now.rest ≡ 0 = eqb-true (vec_len c.args.list.now.rest) 0 (sym c.is_empty.ensures ∙ c.if-is_empty.true) in
    let same : vec_len c.args.list.now.rest ≡ length c.args.list.now.rest.items = search rules in
    let none : c.args.list.now.rest.items ≡ [] = nil_from_length c.args.list.now.rest.items (sym same ∙ count) in
    IfOk-weaker c.give_scoped.result _ _
    (λ status given. one_given (g.I.Inputs.claim c.args.inputs.now) c.args.scope.now c.args.task.now
    (state_in g.I.Inputs.opened c.args.inputs.now c.args.files.now.items (stream_of g.E.Write.contents g.E.Sink.has_failed c.args.error_stream.now))
    (state_in g.I.Inputs.opened c.give_scoped.new.inputs c.give_scoped.new.files.items (stream_of g.E.Write.contents g.E.Sink.has_failed c.give_scoped.new.error_stream))
    c.args.list.now.first c.args.list.now.rest.items status c.if-is_named.false none given)
    c.give_scoped.ensures.gives

pub returns-then-is_empty-clause-gives_up : goal.returns-then-is_empty-clause-gives_up
returns-then-is_empty-clause-gives_up g c =
    on_err_weaker c.give_scoped.result
    (first_gave_up (g.I.Inputs.claim c.args.inputs.now) c.args.scope.now c.args.task.now
    (state_in g.I.Inputs.opened c.args.inputs.now c.args.files.now.items (stream_of g.E.Write.contents g.E.Sink.has_failed c.args.error_stream.now))
    c.args.list.now.first c.args.list.now.rest.items
    (state_in g.I.Inputs.opened c.give_scoped.new.inputs c.give_scoped.new.files.items (stream_of g.E.Write.contents g.E.Sink.has_failed c.give_scoped.new.error_stream)))
    c.give_scoped.ensures.gives_up

pub returns-clause-gives : goal.returns-clause-gives
returns-clause-gives g c =
    let several : c.args.list.now.rest.items ≢ [] = λ none. search rules in
    IfOk-weaker c.give_each-2.result _ _
    (λ status given. several_given (g.I.Inputs.claim c.args.inputs.now) c.args.scope.now c.args.task.now
    (state_in g.I.Inputs.opened c.args.inputs.now c.args.files.now.items (stream_of g.E.Write.contents g.E.Sink.has_failed c.args.error_stream.now))
    (state_in g.I.Inputs.opened c.give_each-2.new.inputs c.give_each-2.new.files.items (stream_of g.E.Write.contents g.E.Sink.has_failed c.give_each-2.new.error_stream))
    c.args.list.now.first c.args.list.now.rest.items status several given)
    c.give_each-2.ensures.gives
