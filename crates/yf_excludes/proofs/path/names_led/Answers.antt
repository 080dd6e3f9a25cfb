use Rattle.yf_excludes.proofs.PathLemmas.{taken_on, taken_out, last_in, last_out}
use Rattle.yf_excludes.proofs.path.names_led.Goals as goal

pub returns-then-branch : goal.returns-then-branch
returns-then-branch c =
    last_in c.parts.names.items c.take_part.new.names.items c.parts.rest.now c.args.path.now
    c.in_ok-take_part-in-None.field-0
    c.parts.invariant c.in-None.ensures.value c.if-branch.true c.in_ok-take_part-in-None.ensures

pub returns-in-None : goal.returns-in-None
returns-in-None c =
    last_out c.parts.names.items c.take_part.new.names.items c.parts.rest.now c.args.path.now
    c.in_ok-take_part-in-None.field-0
    c.parts.invariant c.in-None.ensures.value c.if-branch.false c.in_ok-take_part-in-None.ensures

pub returns-then-not-branch : goal.returns-then-not-branch
returns-then-not-branch c =
    taken_out c.parts.names.items c.take_part-in-Some.new.names.items c.parts.rest.now c.up_to.result.now
    c.args.path.now c.in-Some.slash
    c.in_ok-take_part-in-Some.field-0 c.parts.invariant c.in-Some.ensures.value c.up_to.ensures c.if-not-branch.true
    c.in_ok-take_part-in-Some.ensures

pub parts-preserved : goal.parts-preserved
parts-preserved c =
    taken_on c.parts.names.items c.take_part-in-Some.new.names.items c.parts.rest.now c.up_to.result.now
    c.after_index-rest.result.now c.args.path.now
    c.in-Some.slash c.in_ok-take_part-in-Some.field-0 c.parts.invariant c.in-Some.ensures.value c.up_to.ensures
    c.after_index-rest.ensures
    c.if-not-branch.false c.in_ok-take_part-in-Some.ensures
