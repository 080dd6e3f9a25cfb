use Rattle.yf_findings.proofs.StatisticsLemmas.{all_counted}
use Rattle.yf_findings.proofs.statistics.sorted_rows.Goals as goal

pub returns : goal.returns
returns c =
    all_counted c.args.found.now c.in_ok-rows.rows.items c.sort.new.rows.items c.in_ok-rows.ensures.each c.in_ok-rows.ensures.once
    c.sort.ensures.same c.in_ok-sort.ensures.sorted
