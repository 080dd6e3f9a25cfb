use Rattle.std.proofs.Common.{subst}
use Rattle.yf_rules.proofs.Runs.CompareLemmas.{same_is_clean, same_told}
use Rattle.yf_rules.specs.Runs.Compare.{Difference}
use Rattle.yf_rules.proofs.compare.run_fmt_check.Goals as goal

pub returns-in-None-clause-compared : goal.returns-in-None-clause-compared
returns-in-None-clause-compared g c =
    same_told _ _
    (subst (λ place. Difference c.args.style.now (g.R.Read.remaining c.args.reader.now) place) c.in-None.is c.in_ok-read_difference.ensures.difference)

pub returns-in-None-clause-clean : goal.returns-in-None-clause-clean
returns-in-None-clause-clean g c = λ same.
    same_is_clean (subst (λ place. Difference c.args.style.now (g.R.Read.remaining c.args.reader.now) place) c.in-None.is c.in_ok-read_difference.ensures.difference)
