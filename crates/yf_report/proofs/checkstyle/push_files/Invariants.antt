-- The written tags and those still to be written are all tags.
use Rattle.std.proofs.Common.{◌≡◌, ◌++◌, drop, map, flat_map, None, option_map}
use Rattle.yf_report.specs.Problems.{finding_of}
use Rattle.yf_report.specs.XmlText.{tag_text}
use Rattle.yf_report.specs.Checkstyle.{file_tags}
use Rattle.yf_report.proofs.checkstyle.push_files.Given as goal

abbrev pub invariant-loop-problem : goal.invariant-loop-problem
invariant-loop-problem l =
    l.out.items ++ flat_map tag_text
    (file_tags (option_map (λ s. s.now) l.last) (map finding_of (drop l.problem-index l.problems))) ≡
    l.initial.out.items ++ flat_map tag_text (file_tags None (map finding_of l.problems))
