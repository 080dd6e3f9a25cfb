use Rattle.std.proofs.Common.{◌∷◌, ◌++◌, [], refl, ap, ◌∙◌, ◌≤◌, arith}
use Rattle.yf_block.proofs.Ends.InlineLemmas.{alias_found, alias_none, alias_written}
use Rattle.yf_props.proofs.NameOrder.{alias_forward}
use Rattle.yf_block.proofs.Runs.CountedSteps.{later}
use Rattle.yf_block.proofs.inline.read_alias.Goals as goal

pub returns-in-None-clause-answers : goal.returns-in-None-clause-answers
returns-in-None-clause-answers c = λ room n. alias_none c.requires c.in-None.ensures.reads

pub returns-in_ok-push-in-Some-clause-answers : goal.returns-in_ok-push-in-Some-clause-answers
returns-in_ok-push-in-Some-clause-answers c = λ room n.
    let name = c.in-Some.name.now in
    let end = c.in-Some.end in
    let e = c.in_ok-push-in-Some.ensures ∙ ap (λ w. c.args.part.now.events ++ w ∷ []) c.placed.ensures in
    rw c.inline_end.ensures (alias_found name end c.in-Some.ensures.reads (alias_written name c.args.at end e refl refl))

pub returns-in_ok-push-in-Some-clause-counted : goal.returns-in_ok-push-in-Some-clause-counted
returns-in_ok-push-in-Some-clause-counted c = λ limit total q.
    let f = alias_forward c.in-Some.ensures.reads.derived in
    let k : c.args.at ≤ c.in-Some.end = omega (arith, f) in
    rw c.inline_end.ensures (later c.args.scope.text.now c.args.depth total c.args.at c.in-Some.end k q)

pub returns-in-None-clause-escapes : goal.returns-in-None-clause-escapes
returns-in-None-clause-escapes c = refl

pub returns-in-None-clause-found : goal.returns-in-None-clause-found
returns-in-None-clause-found c = tt

pub returns-in-None-clause-counted : goal.returns-in-None-clause-counted
returns-in-None-clause-counted c = λ limit total q. tt

pub returns-in_ok-push-in-Some-clause-escapes : goal.returns-in_ok-push-in-Some-clause-escapes
returns-in_ok-push-in-Some-clause-escapes c = refl
