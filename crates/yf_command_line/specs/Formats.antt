-- The outputs by the name of their format.
use Rattle.std.specs.Prelude.{ℕ, List, Option, Some, None, codes, if◌then◌else◌}
use Rattle.std.specs.Str.{bytes_eq}
use Rattle.yf_report.specs.declared.reports.Format.TheVariants.{Json, Github, Sarif, Gitlab, Junit, Checkstyle}
use Rattle.yf_command_line.specs.declared.command.Output.{Output}
use Rattle.yf_command_line.specs.declared.command.Output.TheVariants.{Lines, Full, Baseline, Report}

-- How problems are printed in the format with this name, or none if `fmt --check` has no format with the name.
abbrev pub problems_named : List ℕ → Option Output
problems_named name =
    if bytes_eq name (codes "line") then Some Lines else
    (if bytes_eq name (codes "full") then Some Full else
    (if bytes_eq name (codes "json") then Some (Report Json) else
    (if bytes_eq name (codes "sarif") then Some (Report Sarif) else
    (if bytes_eq name (codes "github") then Some (Report Github) else
    (if bytes_eq name (codes "gitlab") then Some (Report Gitlab) else
    (if bytes_eq name (codes "junit") then Some (Report Junit) else
    (if bytes_eq name (codes "checkstyle") then Some (Report Checkstyle) else None)))))))

-- How `check` prints problems in the format with this name, or none if it has no format with the name.
abbrev pub output_named : List ℕ → Option Output
output_named name = if bytes_eq name (codes "baseline") then Some Baseline else problems_named name
