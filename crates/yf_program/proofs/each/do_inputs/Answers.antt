use Rattle.std.proofs.Common.{◌≡◌, ◌≢◌, ◌∙◌, [], length, rules, sym}
use Rattle.std.proofs.lemmas.Bool.{eqb-true}
use Rattle.std.proofs.lemmas.List.{nil_from_length}
use Rattle.std.specs.Prelude.{vec_len}
use Rattle.yf_program.specs.Answer.{ScopedInput, host_in}
use Rattle.yf_program.proofs.AnswerLemmas.{each_of, named_of, one_of}
use Rattle.yf_program.proofs.each.do_inputs.Goals as goal

pub returns-then-is_named : goal.returns-then-is_named
returns-then-is_named g c =
    named_of c.args.scope.now (ScopedInput (host_in g.I.Inputs.claim g.S.FileSystem.tells g.S.FileSystem.state g.S.Links.leads c.args.sources.now) c.args.scope.now c.args.task.now) _ _ c.do_each.result c.args.inputs.now.first c.args.inputs.now.rest.items c.if-is_named.true c.do_each.ensures

pub returns-then-is_empty : goal.returns-then-is_empty
returns-then-is_empty g c =
    let count : vec_len c.args.inputs.now.rest ≡ 0 = eqb-true (vec_len c.args.inputs.now.rest) 0 (sym c.is_empty.ensures ∙ c.if-is_empty.true) in
    let same : vec_len c.args.inputs.now.rest ≡ length c.args.inputs.now.rest.items = search rules in
    let none : c.args.inputs.now.rest.items ≡ [] = nil_from_length c.args.inputs.now.rest.items (sym same ∙ count) in
    one_of c.args.scope.now (ScopedInput (host_in g.I.Inputs.claim g.S.FileSystem.tells g.S.FileSystem.state g.S.Links.leads c.args.sources.now) c.args.scope.now c.args.task.now) _ _ c.do_scoped.result c.args.inputs.now.first c.args.inputs.now.rest.items c.if-is_named.false none c.do_scoped.ensures.does

pub returns : goal.returns
returns g c =
    let several : c.args.inputs.now.rest.items ≢ [] = λ none. search rules in
    each_of c.args.scope.now (ScopedInput (host_in g.I.Inputs.claim g.S.FileSystem.tells g.S.FileSystem.state g.S.Links.leads c.args.sources.now) c.args.scope.now c.args.task.now) _ _ c.do_each-2.result c.args.inputs.now.first c.args.inputs.now.rest.items several c.do_each-2.ensures
