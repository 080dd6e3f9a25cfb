use Rattle.std.proofs.lemmas.Result.{IfOk-weaker}
use Rattle.yf_rules.proofs.Findings.AllRulesLemmas.{all_find}
use Rattle.yf_rules.proofs.check_all.CheckingWithRules.with_rules.Goals as goal

pub returns : goal.returns
returns g c =
    let it = c.args.self.now in
    let found = IfOk-weaker c.check.result _ _
    (λ found answer. all_find (λ b. (goal.Rule-dyn g (b.vtable, b.value)).definition b.value) it.src.now it.reading.now
    it.style.now it.without.now c.args.rules.now found.items c.requires answer) c.check.ensures.findings in
    (c.check.ensures.refused, found, c.check.ensures.mends)
