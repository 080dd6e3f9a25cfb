use Rattle.std.proofs.Common.{◌++◌, ◌∙◌, ap, arith, get_or, map}
use Rattle.std.specs.Global.{Vec}
use Rattle.yf_findings.specs.Files.{entries_of, entry_with, fix_in, fix_of, fixes_from}
use Rattle.yf_findings.specs.declared.files.FileProblems.{FileProblems}
use Rattle.yf_report.specs.CodeQuality.{entry_of}
use Rattle.yf_report.specs.Fixes.{replaced}
use Rattle.yf_report.specs.declared.problem.Replacement.{Replacement}
use Rattle.yf_findings.proofs.FileLemmas.{fix_at, fixed_more, listed_more}
use Rattle.yf_findings.proofs.files.listed.Goals as goal

pub loop-k-preserved : goal.loop-k-preserved
loop-k-preserved c =
    let f = c.index-files-k.result in
    let v = c.index-fixes-k.result in
    let k = c.loop-k.k in
    let files = c.args.files.now in
    let before = c.loop-k.all.items in
    let given = c.as_slice-problems.result.now in
    let entries = c.in_ok-add.ensures.entries
    ∙ ap (λ n. map entry_of before ++ map (entry_with n) given) c.name_in.ensures
    ∙ ap (λ z. map entry_of before ++ map (entry_with f.file) z) c.as_slice-problems.ensures.value
    ∙ ap (λ (g : FileProblems). map entry_of before ++ entries_of g) c.index-files-k.is in
    let fix = ap (λ z. map replaced z) c.as_slice.ensures.value
    ∙ ap (λ (z : Vec Replacement). map replaced z.items) c.index-fixes-k.is
    ∙ fix_at files c.args.fixes.now k f v c.requires c.loop-k-test.true in
    let found = c.as_slice-problems.ensures.value ∙ ap (λ (g : FileProblems). g.problems.items) c.index-files-k.is in
    let fixes = c.in_ok-add.ensures.fixes ∙ ap (λ z. map fix_of before ++ fixes_from z given) fix
    ∙ ap (λ z. map fix_of before ++ fixes_from (fix_in (get_or files k f)) z) found in
    record {
      within = omega (arith, c.loop-k-test.true);
      entries = listed_more files k f before c.add.new.all.items c.loop-k-test.true c.loop-k.invariant.entries entries;
      fixes = fixed_more files k f before c.add.new.all.items c.loop-k-test.true c.loop-k.invariant.fixes fixes;
    }
