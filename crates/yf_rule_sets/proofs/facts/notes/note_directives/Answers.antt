use Rattle.std.proofs.Common.{get_or, arith}
use Rattle.std.proofs.lemmas.Option.{slice_get-get_or}
use Rattle.yf_rule_sets.specs.RuleSets.BlankLines.{DirectiveIn, HasOffset}
use Rattle.yf_rule_sets.proofs.RuleSets.BlankLemmas.{directive_is, directive_there, directive_within}
use Rattle.yf_rule_sets.proofs.Texts.NotedLemmas.{all_below, none_below, noted_as, one_below}
use Rattle.yf_rule_sets.proofs.facts.notes.note_directives.Goals as goal

pub loop-j-init : goal.loop-j-init
loop-j-init c = none_below c.args.list.now.items (DirectiveIn c.args.src.now c.args.directives.now)

pub loop-j-preserved : goal.loop-j-preserved
loop-j-preserved c =
    let v = c.args.src.now in
    let ds = c.args.directives.now in
    let j = c.loop-j.j in
    let d = get_or ds j c.index-directives-j.result in
    let e = slice_get-get_or ds j c.index-directives-j.result c.loop-j-test.true in
    one_below c.args.list.now.items c.loop-j.list.items c.note_line-hint.new.list.items (DirectiveIn v ds) j c.loop-j.invariant
    (noted_as c.loop-j.list.items c.note_line-hint.new.list.items (HasOffset v d.offset) (DirectiveIn v ds j) (directive_there v ds j d e) (directive_is v ds j d e)
    c.note_line-hint.ensures)

pub returns : goal.returns
returns c =
    all_below c.args.list.now.items c.loop-j.list.items (DirectiveIn c.args.src.now c.args.directives.now) c.loop-j.j
    (λ i k h. let w = directive_within h in omega (arith, w, c.loop-j-test.false)) c.loop-j.invariant
