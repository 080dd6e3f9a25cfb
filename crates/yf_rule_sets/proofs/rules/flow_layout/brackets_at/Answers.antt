use Rattle.std.proofs.Common.{sym, ◌∙◌}
use Rattle.yf_rule_sets.proofs.RuleSets.DisplacedLemmas.{begins_no_flow}
use Rattle.yf_rule_sets.proofs.rules.flow_layout.brackets_at.Goals as goal

pub returns-then-not-starts_flow : goal.returns-then-not-starts_flow
returns-then-not-starts_flow c = λ e span f g. begins_no_flow c.args.src.now.text e span (sym (c.starts_flow.ensures e f) ∙ c.if-not-starts_flow.true)
