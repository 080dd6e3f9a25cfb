use Rattle.std.proofs.Common.{◌∙◌, ap}
use Rattle.yf_findings.specs.Files.{replaced_by}
use Rattle.yf_findings.proofs.FileLemmas.{replaced_more, replaced_with}
use Rattle.yf_findings.proofs.files.replacements.Goals as goal

pub loop-change-preserved : goal.loop-change-preserved
loop-change-preserved c =
    let one = c.change-item.result in
    let same = ap (λ s. replaced_with one.range s) c.as_str.ensures ∙ ap replaced_by c.change-item.is in
    replaced_more c.args.changes.now c.loop-change.change-index one c.loop-change.all.items c.push.new.self.items _
    c.loop-change-test.true c.loop-change.invariant same c.in_ok-push.ensures.items
