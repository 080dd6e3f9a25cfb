-- The report in each format.
use Rattle.std.specs.Prelude.{◌≡◌, ℕ, List, map, Some}
use Rattle.json.specs.Json.{document}
use Rattle.yf_report.specs.declared.problem.Problem.{Problem}
use Rattle.yf_report.specs.declared.reports.Format.{Format}
use Rattle.yf_report.specs.declared.reports.Format.TheVariants.{Json, Github, Sarif, Gitlab, Junit, Checkstyle}
use Rattle.yf_report.specs.Problems.{finding_of}
use Rattle.yf_report.specs.ProblemsJson.{report_json}
use Rattle.yf_report.specs.Commands.{commands_in}
use Rattle.yf_report.specs.CommandText.{command_of, errors_first}
use Rattle.yf_report.specs.Fixes.{fixed_of}
use Rattle.yf_report.specs.Sarif.{Described, log_json}
use Rattle.yf_report.specs.CodeQuality.{entry_of, quality_json}
use Rattle.yf_report.specs.Xml.{tags_in}
use Rattle.yf_report.specs.Junit.{junit_tags}
use Rattle.yf_report.specs.Checkstyle.{checkstyle_tags}

-- the bytes read as the value that the format gives to the problems
abbrev pub IsReport : Format → List Described → List Problem → List ℕ → Type 0
IsReport Json rs ps b = document b ≡ Some (report_json (map finding_of ps))
IsReport Github rs ps b = commands_in b ≡ Some (map command_of (errors_first (map finding_of ps)))
IsReport Sarif rs ps b = document b ≡ Some (log_json rs (map fixed_of ps))
IsReport Gitlab rs ps b = document b ≡ Some (quality_json (map entry_of ps))
IsReport Junit rs ps b = tags_in b ≡ Some (junit_tags (map finding_of ps))
IsReport Checkstyle rs ps b = tags_in b ≡ Some (checkstyle_tags (map finding_of ps))
