use Rattle.std.proofs.lemmas.Result.{IfOk-weaker}
use Rattle.yf_forms.specs.NormalForms.Normal.{setting_of}
use Rattle.yf_ranges.proofs.FlowDetailLemmas.{fault_told}
use Rattle.yf_rule_sets.specs.RuleSets.Layouts.{IsDisplaced}
use Rattle.yf_rule_sets.proofs.RuleSets.BlankLemmas.{when_false, when_true}
use Rattle.yf_rule_sets.proofs.RuleSets.DisplacedLemmas.{brackets_begun, displaced_here, no_brackets, not_displaced, not_outside}
use Rattle.yf_rule_sets.proofs.Texts.FlowLemmas.{is_outside}
use Rattle.yf_ranges.proofs.flow_layout.displaced.Goals as goal

pub returns-then-i-done : goal.returns-then-i-done
returns-then-i-done c = λ trees of m d o p b.
    not_outside c.args.src.now c.args.reading.now c.args.style.now c.args.i trees c.args.done of d c.if-i-done.true o p

pub returns-then-branch : goal.returns-then-branch
returns-then-branch c =
    IfOk-weaker c.flow_detail.result _ _
    (λ answer g trees of m d.
    let v = c.args.src.now in
    let r = c.args.reading.now in
    let s = c.args.style.now in
    let inside = c.in-Some.inside in
    let b = brackets_begun v r s c.args.i trees inside of c.requires c.in-Some.ensures in
    let outer = is_outside d c.if-i-done.false in
    let sole = displaced_here v r s c.args.i inside b outer
    (when_true (IsDisplaced v (setting_of r s) b.x inside) c.in_ok-is_displaced-in-Some.field-0 c.if-branch.true (c.in_ok-is_displaced-in-Some.ensures b.x m b.node b.flow)) in
    fault_told v r s c.args.i inside b outer sole answer (g b.x m b.node b.flow))
    c.flow_detail.ensures

pub returns-else-branch : goal.returns-else-branch
returns-else-branch c = λ trees of m d o p q.
    let v = c.args.src.now in
    let r = c.args.reading.now in
    let s = c.args.style.now in
    let inside = c.in-Some.inside in
    let b = brackets_begun v r s c.args.i trees inside of c.requires c.in-Some.ensures in
    not_displaced v r s c.args.i inside b
    (when_false (IsDisplaced v (setting_of r s) b.x inside) c.in_ok-is_displaced-in-Some.field-0 c.if-branch.false (c.in_ok-is_displaced-in-Some.ensures b.x m b.node b.flow)) o p

pub returns-in-None : goal.returns-in-None
returns-in-None c = λ trees of m d o p q. no_brackets c.args.src.now c.args.reading.now c.args.i c.in-None.ensures c.args.style.now o p
