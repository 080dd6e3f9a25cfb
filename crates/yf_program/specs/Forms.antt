-- The form of the findings that `check` prints, and of what `fmt --check` reports, by the options, the terminal and the
-- environment.
-- (named: whether each line has the name of its input; explain: whether `--explain` is given)
use Rattle.std.specs.Prelude.{◌==◌, ◌&&◌, ◌||◌, ℕ, Bool, true, false, not, if◌then◌else◌, List, length}
use Rattle.std.specs.Prelude.{Option, None, Some, is_some, unwrap_or, vec_len}
use Rattle.yf_command_line.specs.declared.command.Check.{Check}
use Rattle.yf_command_line.specs.declared.command.Colors.{Colors}
use Rattle.yf_command_line.specs.declared.command.Colors.TheVariants.{Auto, Always, Never}
use Rattle.yf_command_line.specs.declared.command.InputList.{InputList}
use Rattle.yf_command_line.specs.declared.command.Output.{Output}
use Rattle.yf_command_line.specs.declared.command.Output.TheVariants as output
use Rattle.yf_command_line.specs.declared.command.Printing.{Printing}
use Rattle.yf_findings.specs.declared.printed.Form.{Form}
use Rattle.yf_findings.specs.declared.printed.Form.TheVariants as form
use Rattle.yf_line_ranges.specs.declared.range.LineRange.{LineRange}
use Rattle.yf_program.specs.declared.scope.Scope.{Scope}
use Rattle.yf_program.specs.declared.terminal.Terminal.{Terminal}

-- Without `--format` and `--statistics` the findings are for people if standard output is a terminal, unless
-- `--explain` explains each line. Otherwise each finding is a line.
abbrev pub default_output : Bool → Bool → Output
default_output is_terminal explain = if is_terminal && not explain then output.Full else output.Lines

-- Whether the output has colors. `NO_COLOR` and `TERM=dumb` count only without `--color always` and `--color never`.
abbrev pub has_colors : Colors → Terminal → Bool
has_colors Always terminal = true
has_colors Never terminal = false
has_colors Auto terminal = terminal.output && not terminal.no_color

abbrev pub form_in : Output → Bool → Bool → Form
form_in output.Lines colored named = form.Lines named
form_in output.Full colored named = form.Full colored
form_in output.Statistics colored named = form.Statistics
form_in output.Baseline colored named = form.Baseline
form_in (output.Report format) colored named = form.Report format

-- The form of the findings:
--
-- | Option          | Standard output | Form                                            |
-- |-----------------|-----------------|-------------------------------------------------|
-- | `--format line` | any             | a line for each finding, with names if `named`  |
-- | `--format full` | any             | for people, with colors if `has_colors`         |
-- | `--format NAME` | any             | a report for programs, or a baseline            |
-- | `--statistics`  | any             | the number of findings of each rule             |
-- | none            | a terminal      | as with `--format full`                         |
-- | none            | no terminal     | as with `--format line`                         |
-- | only `--explain`| any             | as with `--format line`                         |
abbrev pub form_of : Printing → Terminal → Bool → Bool → Form
form_of p terminal named explain =
    form_in (unwrap_or p.output (default_output terminal.output explain)) (has_colors p.colors terminal) named

-- Whether there is more than one input.
abbrev pub has_several : InputList → Bool
has_several inputs = not (vec_len inputs.rest == 0)

-- The form of the findings of a check. With `--names`, or for several inputs, each line has the name of its input.
abbrev pub check_form : Check → Scope → Bool → Form
check_form check scope explain = form_of check.printing scope.terminal (scope.names || has_several check.inputs) explain

-- How `fmt --check` reports in a format. It has no `--color`.
abbrev pub reporting : Output → Printing
reporting output = record { output = Some output; colors = Auto; limit = None }

-- The form of what `fmt --check` reports, as that of the findings of a check.
abbrev pub compare_form : InputList → Output → Scope → Bool → Form
compare_form inputs output scope explain =
    form_of (reporting output) scope.terminal (scope.names || has_several inputs) explain

-- Whether the findings of an input are written as soon as it is checked: if each is a line, and neither `--lines` nor
-- `--max-findings` may leave one out.
abbrev pub writes_at_once : Form → List LineRange → Option ℕ → Bool
writes_at_once (form.Lines named) lines limit = (length lines == 0) && not (is_some limit)
writes_at_once _ lines limit = false

-- Whether a check writes the findings of an input as soon as it is checked. A baseline may leave findings out.
abbrev pub checks_at_once : Form → Check → Bool
checks_at_once form check = not (is_some check.baseline) && writes_at_once form check.lines.items check.printing.limit

-- The limit of findings to print. `--statistics` counts all findings, and a baseline lists all, whatever the limit.
abbrev pub limit_in : Form → Option ℕ → Option ℕ
limit_in form.Statistics limit = None
limit_in form.Baseline limit = None
limit_in _ limit = limit

-- Whether refusals are explained: with `--explain`, and always in the form for people.
abbrev pub explains_in : Form → Bool → Bool
explains_in (form.Full colored) explain = true
explains_in _ explain = explain
