-- How `check` prints its findings, by the values of its options, and how `fmt --check` reports.
use Rattle.std.specs.Prelude.{◌≡◌, ◌≢◌, ◌⊎◌, ℕ, Bool, true, false, List, Option, Some, None, codes, if◌then◌else◌}
use Rattle.std.specs.Str.{bytes_eq}
use Rattle.yf_line_ranges.specs.Numbers.{is_number, number_of}
use Rattle.yf_command_line.specs.Formats.{output_named, problems_named}
use Rattle.yf_command_line.specs.declared.command.Colors.{Colors}
use Rattle.yf_command_line.specs.declared.command.Colors.TheVariants.{Auto, Always, Never}
use Rattle.yf_command_line.specs.declared.command.Output.{Output}
use Rattle.yf_command_line.specs.declared.command.Output.TheVariants.{Lines, Statistics}

-- The form of the output, or none if the options name none. (counts: whether `--statistics` is given; format: the value
-- of `--format`)
abbrev pub IsOutput : Bool → Option (List ℕ) → Option Output → Type 0
-- neither
IsOutput false None output = output ≡ None
-- `--statistics`
IsOutput true None output = output ≡ Some Statistics
-- `--format FORMAT`, and FORMAT is the name of a format
IsOutput false (Some name) output = (output ≢ None) × (output ≡ output_named name)
-- both
IsOutput true (Some name) output = ⊥

-- The value of `--format` is given, and no format has this name.
abbrev pub IsNoFormat : Option (List ℕ) → Type 0
IsNoFormat None = ⊥
IsNoFormat (Some name) = output_named name ≡ None

-- Both `--statistics` and `--format` are given, or no format has the name.
abbrev pub IsNoOutput : Bool → Option (List ℕ) → Type 0
IsNoOutput counts format = ((counts ≡ true) × (format ≢ None)) ⊎ IsNoFormat format

-- How `fmt --check` reports, by the value of `--format`, or none if it has no format with the name. Without `--format`
-- each report is a line.
abbrev pub reported : Option (List ℕ) → Option Output
reported None = Some Lines
reported (Some name) = problems_named name

-- When the output has colors, by the value of `--color`, or none for another word.
abbrev pub colors_named : List ℕ → Option Colors
colors_named name =
    if bytes_eq name (codes "auto") then Some Auto else
    (if bytes_eq name (codes "always") then Some Always else
    (if bytes_eq name (codes "never") then Some Never else None))

-- When the output has colors. Without `--color` it is `auto`.
abbrev pub colors_of : Option (List ℕ) → Option Colors
colors_of (Some name) = colors_named name
colors_of None = Some Auto

-- The greatest number of findings to print, by the value of `--max-findings`. Without it there is no limit.
abbrev pub IsLimit : Option (List ℕ) → Option ℕ → Type 0
IsLimit None limit = limit ≡ None
IsLimit (Some word) limit = (is_number word ≡ true) × (limit ≡ Some (number_of word))

-- The value of `--max-findings` is given, and it is no decimal number of 64 bits.
abbrev pub IsNoLimit : Option (List ℕ) → Type 0
IsNoLimit None = ⊥
IsNoLimit (Some word) = is_number word ≡ false
