-- The report of the problems of several inputs, in a form.
use Rattle.std.specs.Prelude.{◌≡◌, ℕ, List, Bool, true, false}
use Rattle.yf_baseline.specs.Baselines.{baseline_text}
use Rattle.yf_findings.specs.Baselines.{all_entries}
use Rattle.yf_findings.specs.Files.{ReportOf}
use Rattle.yf_findings.specs.Full.{FullText}
use Rattle.yf_findings.specs.LineForm.{lines_text}
use Rattle.yf_findings.specs.Statistics.{StatisticsText}
use Rattle.yf_findings.specs.declared.files.FileProblems.{FileProblems}
use Rattle.yf_findings.specs.declared.printed.Form.{Form}
use Rattle.yf_findings.specs.declared.printed.Form.TheVariants.{Lines, Full, Statistics, Baseline, Report}
use Rattle.yf_report.specs.declared.reports.Format.{Format}
use Rattle.yf_report.specs.declared.reports.Format.TheVariants as format

-- whether a format of reports has fixes
abbrev pub has_fixes : Format → Bool
has_fixes format.Json = false
has_fixes format.Github = false
has_fixes format.Sarif = true
has_fixes format.Gitlab = false
has_fixes format.Junit = false
has_fixes format.Checkstyle = false

-- whether a report in this form shows changes between a text and its formatting
abbrev pub shows_changes : Form → Bool
shows_changes (Lines named) = false
shows_changes (Full colored) = true
shows_changes Statistics = false
shows_changes Baseline = false
shows_changes (Report kind) = has_fixes kind

-- the bytes of the report
abbrev pub Printed : Form → List FileProblems → List ℕ → Type 0
Printed (Lines named) files b = b ≡ lines_text named files
Printed (Full colored) files b = FullText colored files b
Printed Statistics files b = StatisticsText files b
Printed Baseline files b = b ≡ baseline_text (all_entries files)
Printed (Report format) files b = ReportOf format files b
