use Rattle.std.proofs.Common.{subst, sym}
use Rattle.yf_findings.specs.Ranges.{IsLocated}
use Rattle.yf_findings.proofs.listing.next_problem.Goals as goal

pub returns-clause-problem : goal.returns-clause-problem
returns-clause-problem c = λ reading k.
    let located = c.locate-located in
    record {
      detail = located.result.detail;
      located = subst (IsLocated c.args.src.now reading c.args.style.now c.args.finding.now located.result.detail) (sym c.in_ok-problem.ensures.range) (located.ensures.located reading k);
      says = c.in_ok-problem.ensures.says;
    }
