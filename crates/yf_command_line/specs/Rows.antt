-- The rows of a command: one for each option that is used, and one for its FILEs.
use Rattle.std.specs.Prelude.{Bool, false, List, [], Option, Some, None, codes, unwrap_or}
use Rattle.std.specs.Str.{bytes_eq}
use Rattle.clap.specs.Words.{Row, Text, all_of, first_of}
use Rattle.yf_command_line.specs.Without.{names_in}
use Rattle.yf_rule_pages.specs.Pages.{explanation}
use Rattle.yf_rule_pages.specs.declared.page.Page.{Page}

-- Whether the value of a flag says that the flag is given.
abbrev pub is_set : Option Text → Bool
is_set (Some value) = bytes_eq value (codes "true")
is_set None = false

-- Whether a flag is given.
abbrev pub is_flag : Text → List Row → Bool
is_flag id given = is_set (first_of id given)

-- Whether `--no-config` is given.
abbrev pub takes_defaults : List Row → Bool
takes_defaults given = is_flag (codes "no-config") given

-- The FILE of `--config`, if it is given.
abbrev pub config_given : List Row → Option Text
config_given given = first_of (codes "config") given

-- The NAME of `--stdin-name`, if it is given.
abbrev pub stdin_name_given : List Row → Option Text
stdin_name_given given = first_of (codes "stdin-name") given

-- Whether `--write` is given.
abbrev pub writes : List Row → Bool
writes given = is_flag (codes "write") given

-- Whether `--check` is given.
abbrev pub checks : List Row → Bool
checks given = is_flag (codes "check") given

-- Whether `--diff` is given.
abbrev pub diffs : List Row → Bool
diffs given = is_flag (codes "diff") given

-- All values of an option, in order.
abbrev pub all_given : Text → List Row → List Text
all_given id given = unwrap_or (all_of id given) []

-- The FILEs, in order.
abbrev pub files_given : List Row → List Text
files_given given = all_given (codes "file") given

-- The names of the rules to leave out, in order.
abbrev pub names_given : List Row → List Text
names_given given = names_in (all_given (codes "without") given)

-- What `explain` prints: the page of its NAME, or without NAME the list of all pages. None if no page has the name.
abbrev pub explained_given : List Page → List Row → Option Text
explained_given pages given = explanation pages (first_of (codes "name") given)

-- The FILE of `--baseline`, if it is given.
abbrev pub baseline_given : List Row → Option Text
baseline_given given = first_of (codes "baseline") given

-- The value of `--format`, if it is given.
abbrev pub format_given : List Row → Option Text
format_given given = first_of (codes "format") given

-- Whether `--statistics` is given.
abbrev pub counts : List Row → Bool
counts given = is_flag (codes "statistics") given

-- The value of `--color`, if it is given.
abbrev pub color_given : List Row → Option Text
color_given given = first_of (codes "color") given

-- The value of `--max-findings`, if it is given.
abbrev pub limit_given : List Row → Option Text
limit_given given = first_of (codes "max-findings") given

-- The words of `--lines`, in order.
abbrev pub lines_given : List Row → List Text
lines_given given = all_given (codes "lines") given
