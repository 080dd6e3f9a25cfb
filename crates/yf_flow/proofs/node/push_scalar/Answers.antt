use Rattle.yf_flow.proofs.Content.BareLeads.{bare_pushed}
use Rattle.yf_flow.proofs.node.push_scalar.Goals as goal

pub returns-then-is_bare-clause-pushed : goal.returns-then-is_bare-clause-pushed
returns-then-is_bare-clause-pushed c = bare_pushed c.args.style c.args.end _ _ c.in-Part.is c.if-is_bare.ensures c.push_scalar.ensures
