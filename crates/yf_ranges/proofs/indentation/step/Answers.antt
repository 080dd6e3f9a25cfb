use Rattle.std.proofs.Common.{subst}
use Rattle.yf_ranges.proofs.IndentLemmas.{one_told}
use Rattle.yf_ranges.specs.IndentPass.{IndentedAt}
use Rattle.yf_rule_sets.specs.Passes.IndentFaults.{content_in}
use Rattle.yf_rule_sets.proofs.RuleSets.KeyPassLemmas.{event_at}
use Rattle.yf_rule_sets.proofs.Texts.ScalarPasses.{block_told}
use Rattle.yf_ranges.proofs.indentation.step.Goals as goal

pub returns-in-Some : goal.returns-in-Some
returns-in-Some c = λ m.
    let x = event_at c.args.reading.now c.args.i c.requires in
    one_told c.args.src.now c.args.reading.now c.args.style.now c.args.i _ _ c.in_ok-context.context _ _ (content_in c.block_lines_at-lines.result) c.fault_at-fault.result c.detail_of.result x.0 x.1 x.2 m
    (c.in_ok-context.ensures x.0.event x.2) (block_told c.block_lines_at-lines.ensures) (c.fault_at-fault.ensures x.0.event x.2)
    (subst (λ t. IndentedAt t c.fault_at-fault.result c.detail_of.result) c.text.ensures c.detail_of.ensures) c.in_ok-push_found.ensures

pub returns-in-None : goal.returns-in-None
returns-in-None c = λ m.
    let x = event_at c.args.reading.now c.args.i c.requires in
    one_told c.args.src.now c.args.reading.now c.args.style.now c.args.i _ _ c.in_ok-context.context _ _ (content_in c.block_lines_at-lines.result) c.fault_at-fault.result c.detail_of.result x.0 x.1 x.2 m
    (c.in_ok-context.ensures x.0.event x.2) (block_told c.block_lines_at-lines.ensures) (c.fault_at-fault.ensures x.0.event x.2)
    (subst (λ t. IndentedAt t c.fault_at-fault.result c.detail_of.result) c.text.ensures c.detail_of.ensures) c.in_ok-push_found.ensures
