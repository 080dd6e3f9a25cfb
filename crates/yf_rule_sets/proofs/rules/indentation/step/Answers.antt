use Rattle.yf_rule_sets.specs.Passes.IndentFaults.{content_in}
use Rattle.yf_rule_sets.proofs.Indentation.FaultLemmas.{one_reached}
use Rattle.yf_rule_sets.proofs.RuleSets.KeyPassLemmas.{event_at}
use Rattle.yf_rule_sets.proofs.Indentation.QuietLemmas.{quiet_reached}
use Rattle.yf_rule_sets.proofs.Texts.ScalarPasses.{block_told}
use Rattle.yf_rule_sets.proofs.rules.indentation.step.Goals as goal

pub returns-then-is_quiet : goal.returns-then-is_quiet
returns-then-is_quiet c = λ m.
    let q = c.is_quiet.ensures c.if-is_quiet.true in
    quiet_reached c.args.src.now c.args.reading.now c.args.style.now c.args.i _ _ _ q c.requires (c.go_by.ensures q.props q.style q.text q.event) m

pub returns-in-Some : goal.returns-in-Some
returns-in-Some c = λ m.
    let x = event_at c.args.reading.now c.args.i c.requires in
    one_reached c.args.src.now c.args.reading.now c.args.style.now c.args.i _ _ c.in_ok-stand.stand _ _ (content_in c.block_lines_at-scalar.result) c.misplaced.result x.0 x.1 x.2 m
    (c.in_ok-stand.ensures x.0.event x.2) (block_told c.block_lines_at-scalar.ensures) (c.misplaced.ensures x.0.event x.2) c.in_ok-push_found.ensures

pub returns-in-None : goal.returns-in-None
returns-in-None c = λ m.
    let x = event_at c.args.reading.now c.args.i c.requires in
    one_reached c.args.src.now c.args.reading.now c.args.style.now c.args.i _ _ c.in_ok-stand.stand _ _ (content_in c.block_lines_at-scalar.result) c.misplaced.result x.0 x.1 x.2 m
    (c.in_ok-stand.ensures x.0.event x.2) (block_told c.block_lines_at-scalar.ensures) (c.misplaced.ensures x.0.event x.2) c.in_ok-push_found.ensures
