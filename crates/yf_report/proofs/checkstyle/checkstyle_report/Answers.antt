use Rattle.std.proofs.Common.{◌++◌, ◌∷◌, [], map, ap, ◌∙◌}
use Rattle.yf_report.specs.Problems.{finding_of}
use Rattle.yf_report.specs.Xml.{declaration}
use Rattle.yf_report.proofs.CheckstyleLemmas.{checkstyle_back, checkstyle_nested}
use Rattle.yf_report.proofs.checkstyle.checkstyle_report.Goals as goal

pub returns-clause-tags : goal.returns-clause-tags
returns-clause-tags c =
    checkstyle_back (map finding_of c.args.problems.now)
    (c.in_ok-push_declaration.ensures ∙ ap (λ l. l ++ (declaration ++ 62 ∷ [])) c.new-out.ensures.items)
    c.in_ok-push_start.ensures c.in_ok-push_files.ensures c.in_ok-push_close.ensures
    c.in_ok-extend_from_slice.ensures.items

pub returns-clause-nested : goal.returns-clause-nested
returns-clause-nested c = checkstyle_nested (map finding_of c.args.problems.now)
