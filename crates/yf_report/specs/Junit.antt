-- The JUnit document of a list of problems: a test case that failed for each problem.
use Rattle.std.specs.Prelude.{ℕ, ◌+◌, ◌-◌, List, [], ◌∷◌, ◌++◌}
use Rattle.std.specs.Prelude.{codes, decimal, length, flat_map, Bool, true, false, if◌then◌else◌}
use Rattle.yf_report.specs.declared.problem.Severity.{Severity}
use Rattle.yf_report.specs.declared.problem.Severity.TheVariants.{Error, Warning}
use Rattle.yf_report.specs.Problems.{Finding, severity_name}
use Rattle.yf_report.specs.Xml.{Attribute, Tag, open_tag, close_tag, empty_tag}
use Rattle.yf_report.specs.XmlText.{allowed}
use Rattle.yf_report.specs.Checkstyle.{attribute, name_or_stdin}

abbrev pub is_error : Severity → Bool
is_error Error = true
is_error Warning = false

-- the number of errors among the problems
abbrev pub errors : List Finding → ℕ
errors [] = 0
errors (f ∷ fs) = (if is_error f.severity then 1 else 0) + errors fs

-- a refusal is an error of the test, and a finding is a failure
abbrev pub outcome_name : Severity → List ℕ
outcome_name Error = codes "error"
outcome_name Warning = codes "failure"

abbrev pub outcome_tag : Finding → Tag
outcome_tag f =
    empty_tag (outcome_name f.severity)
    (attribute (codes "type") (severity_name f.severity) ∷ attribute (codes "message") (allowed f.message) ∷ [])

unfoldable pub case_tags : Finding → List Tag
case_tags f =
    open_tag (codes "testcase")
    (attribute (codes "name") (allowed f.rule)
    ∷ attribute (codes "classname") (allowed (name_or_stdin f.file))
    ∷ attribute (codes "line") (decimal f.range.line)
    ∷ attribute (codes "column") (decimal f.range.column) ∷ [])
    ∷ outcome_tag f ∷ close_tag (codes "testcase") ∷ []

abbrev pub suite_attributes : List Finding → List Attribute
suite_attributes fs =
    attribute (codes "name") (codes "yamlfmt")
    ∷ attribute (codes "tests") (decimal (length fs))
    ∷ attribute (codes "failures") (decimal (length fs - errors fs))
    ∷ attribute (codes "errors") (decimal (errors fs)) ∷ []

unfoldable pub junit_tags : List Finding → List Tag
junit_tags fs =
    open_tag (codes "testsuites") (suite_attributes fs)
    ∷ open_tag (codes "testsuite") (suite_attributes fs)
    ∷ (flat_map case_tags fs ++ close_tag (codes "testsuite") ∷ close_tag (codes "testsuites") ∷ [])
