use Rattle.yf_rules.proofs.Findings.FoundLemmas.{all_found}
use Rattle.yf_rules.proofs.Findings.MendedFindings.{none_found}
use Rattle.yf_rules.proofs.rule.Rule.find.Goals as goal

pub returns-in-Ok-clause-found : goal.returns-in-Ok-clause-found
returns-in-Ok-clause-found g c =
    all_found c.args.src.now.text ((g.Self.Rule.definition c.args.self.now).faults c.args.src.now c.args.reading.now c.args.style.now) c.in-Ok.offsets.items
    c.as_slice.result.now (λ v. v.items) c.positions_of.result c.in-Ok.ensures.faults c.as_slice.ensures.value c.positions_of.ensures.places

pub returns-in-Ok-clause-mends : goal.returns-in-Ok-clause-mends
returns-in-Ok-clause-mends g c =
    none_found c.args.src.now.text c.in-Ok.offsets.items c.as_slice.result.now (λ v. v.items) c.positions_of.result c.in-Ok.ensures.mends c.as_slice.ensures.value c.positions_of.ensures.places
