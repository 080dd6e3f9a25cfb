-- The `--format` of `fmt`: which rows take it, and which tasks have it.
use Rattle.std.specs.Prelude.{◌≡◌, ◌≢◌, ◌⊎◌, true, false, List, [], None, Some}
use Rattle.clap.specs.Words.{Row}
use Rattle.yf_command_line.specs.Printing.{reported}
use Rattle.yf_command_line.specs.Rows.{checks, diffs, format_given, lines_given, writes}
use Rattle.yf_command_line.specs.declared.command.Fmt.{Fmt}
use Rattle.yf_command_line.specs.declared.command.Fmt.TheVariants as fmt
use Rattle.yf_command_line.specs.declared.command.Output.{Output}

-- The `--format` of a task of `fmt`. Only `--check` takes one.
abbrev pub HasFormat : List Row → Fmt → Type 0
-- `fmt --check [--format FORMAT] [FILE..]`, and FORMAT is the name of a format of `fmt`
HasFormat given (fmt.Check inputs output) = reported (format_given given) ≡ Some output
HasFormat given (fmt.Print input) = format_given given ≡ None
HasFormat given (fmt.Diff inputs) = format_given given ≡ None
HasFormat given (fmt.Write files) = format_given given ≡ None
HasFormat given (fmt.Part lines what) = format_given given ≡ None

-- The rows say `--check`, and nothing that excludes `--format`.
pub record TakesFormat (given : List Row) : Type 0 where
  pub checked : checks given ≡ true
  pub unwritten : writes given ≡ false
  pub undiffed : diffs given ≡ false
  pub whole : lines_given given ≡ []

-- `--format` gives this output, and the rows take it; or it is not given, and each report is a line.
abbrev pub GivesOutput : List Row → Output → Type 0
GivesOutput given output =
    (reported (format_given given) ≡ Some output) × ((format_given given ≡ None) ⊎ TakesFormat given)

-- The task with this output, if it reports.
abbrev pub with_output : Output → Fmt → Fmt
with_output output (fmt.Check inputs before) = fmt.Check inputs output
with_output output (fmt.Print input) = fmt.Print input
with_output output (fmt.Diff inputs) = fmt.Diff inputs
with_output output (fmt.Write files) = fmt.Write files
with_output output (fmt.Part lines what) = fmt.Part lines what

-- Why `fmt` refuses its `--format`.
pub data RefusesFormat (given : List Row) : Type 0 where
  -- without `--check`
  unchecked_format : format_given given ≢ None → checks given ≡ false → RefusesFormat given
  -- with `--write`
  written_format : format_given given ≢ None → writes given ≡ true → RefusesFormat given
  -- with `--diff`
  compared_format : format_given given ≢ None → diffs given ≡ true → RefusesFormat given
  -- with `--lines`
  format_of_lines : format_given given ≢ None → lines_given given ≢ [] → RefusesFormat given
  -- with a name that no format of `fmt` has
  unknown_format : reported (format_given given) ≡ None → RefusesFormat given
