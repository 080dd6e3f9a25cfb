use Rattle.std.proofs.Common.{◌≡◌, [], refl, drop, drop_of_length-le}
use Rattle.std.proofs.KnownBytes.{Appends-nil}
use Rattle.yf_lines.proofs.OutputLemmas.{progress_done, progress_part, progress_part_broke, writes_refused}
use Rattle.yf_rules.proofs.Findings.FindingLemmas.{next_finding}
use Rattle.yf_guarded.proofs.lines.write_findings.Goals as goal

pub loop-finding-init : goal.loop-finding-init
loop-finding-init g c = record { written = []; split = refl; appended = Appends-nil _; same = refl }

pub returns-in_err-write_finding : goal.returns-in_err-write_finding
returns-in_err-write_finding g c =
    let left = next_finding _ _ _ _ _ c.args.findings.now c.loop-finding.finding-index _ c.loop-finding-test.true c.loop-finding.invariant in
    let broke = c.in_err-write_finding.ensures in
    writes_refused _ _ _ _ _ _ _ c.from_residual.ensures.1 broke.0 (progress_part_broke _ _ _ _ _ _ _ _ _ left broke.1)

pub loop-finding-preserved : goal.loop-finding-preserved
loop-finding-preserved g c =
    let left = next_finding _ _ _ _ _ c.args.findings.now c.loop-finding.finding-index _ c.loop-finding-test.true c.loop-finding.invariant in
    progress_part _ _ _ _ _ _ _ _ _ left c.in_ok-write_finding.ensures

pub returns : goal.returns
returns g c =
    let none : drop c.loop-finding.finding-index c.args.findings.now ≡ [] = drop_of_length-le c.args.findings.now {i = c.loop-finding.finding-index} c.loop-finding-test.false in
    progress_done _ _ _ _ _ (rw none at c.loop-finding.invariant)
