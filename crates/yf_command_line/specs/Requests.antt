-- The request that the words of a command line ask for, when they ask for a text instead, and when they are refused.
-- `proofs/Exactness.antt` proves that each line of words asks for one request, asks for a text or is refused. Words that
-- ask for a request do nothing else, and words for which `explain` prints a text are not refused.
use Rattle.std.specs.Prelude.{◌≡◌, ◌≢◌, ◌⊎◌, ◌<◌, ◌≤◌, ⊤, Bool, true, false, ◌||◌, List, [], ◌∷◌, map, length}
use Rattle.std.specs.Prelude.{Option, Some, None, codes, if◌then◌else◌, MatchOption}
use Rattle.std.specs.Str.{bytes_eq}
use Rattle.std.specs.List.{list_any}
use Rattle.clap.specs.Words.{Row, Text, fault_of, matches_of, subcommand_of, IsAmong}
use Rattle.clap.specs.declared.error.kind.ErrorKind.{ErrorKind}
use Rattle.clap.specs.declared.error.kind.ErrorKind.TheVariants.{DisplayHelp, DisplayVersion, OutOfMemory}
use Rattle.yf_command_line.specs.FmtFormats.{HasFormat, RefusesFormat}
use Rattle.yf_command_line.specs.Lines.{are_lines, lines_in}
use Rattle.yf_command_line.specs.Options.{yamlfmt}
use Rattle.yf_command_line.specs.Printing.{IsLimit, IsNoFormat, IsNoLimit, IsOutput, colors_of}
pub use Rattle.yf_command_line.specs.Rows.{all_given, baseline_given, checks, color_given, config_given, counts, diffs}
pub use Rattle.yf_command_line.specs.Rows.{explained_given, files_given, format_given, is_flag, is_set, limit_given, lines_given}
pub use Rattle.yf_command_line.specs.Rows.{names_given, stdin_name_given, takes_defaults, writes}
use Rattle.yf_command_line.specs.Without.{are_rules}
use Rattle.yf_command_line.specs.declared.command.Check.{Check}
use Rattle.yf_command_line.specs.declared.command.Command.{Command}
use Rattle.yf_command_line.specs.declared.command.Command.TheVariants as command
use Rattle.yf_command_line.specs.declared.command.FileList.{FileList}
use Rattle.yf_command_line.specs.declared.command.Fmt.{Fmt}
use Rattle.yf_command_line.specs.declared.command.Fmt.TheVariants as fmt
use Rattle.yf_command_line.specs.declared.command.Input.{Input}
use Rattle.yf_command_line.specs.declared.command.Input.TheVariants.{Standard, File}
use Rattle.yf_command_line.specs.declared.command.InputList.{InputList}
use Rattle.yf_command_line.specs.declared.command.Part.{Part}
use Rattle.yf_command_line.specs.declared.command.Part.TheVariants as part
use Rattle.yf_command_line.specs.declared.command.Printing.{Printing}
use Rattle.yf_command_line.specs.declared.command.Request.{Request}
use Rattle.yf_command_line.specs.declared.command.Settings.{Settings}
use Rattle.yf_command_line.specs.declared.command.Settings.TheVariants as asked
use Rattle.yf_command_line.specs.declared.usage.Usage.{Usage}
use Rattle.yf_command_line.specs.declared.usage.Usage.TheVariants.{Help, Wrong, Memory}
use Rattle.yf_rule_pages.specs.declared.page.Page.{Page}

-- ---- the inputs that FILEs name

-- Whether a FILE is `-`, the word for standard input.
abbrev pub is_standard_input : Text → Bool
is_standard_input file = bytes_eq file (codes "-")

-- The input that a FILE names.
abbrev pub input_of : Text → Input
input_of file = if is_standard_input file then Standard else File file

-- The first input. Without a FILE it is standard input.
abbrev pub first_input : List Text → Input
first_input [] = Standard
first_input (file ∷ files) = input_of file

-- The inputs, in the order of the FILEs. Without a FILE, standard input is the only one.
abbrev pub inputs_of : List Text → List Input
inputs_of [] = Standard ∷ []
inputs_of (file ∷ files) = map input_of (file ∷ files)

-- All inputs of a list, in order.
abbrev pub all_inputs : InputList → List Input
all_inputs inputs = inputs.first ∷ inputs.rest.items

-- All names of a list, in order.
abbrev pub all_files : FileList → List Text
all_files files = files.first ∷ files.rest.items

-- ---- the settings that the words ask for

abbrev pub IsSettings : List Row → Settings → Type 0
-- neither `--config` nor `--no-config`
IsSettings given asked.Nearest = (takes_defaults given ≡ false) × (config_given given ≡ None)
-- `--config FILE`
IsSettings given (asked.File name) = (takes_defaults given ≡ false) × (config_given given ≡ Some name)
-- `--no-config`
IsSettings given asked.Defaults = (takes_defaults given ≡ true) × (config_given given ≡ None)

-- Both are given.
abbrev pub AsksTwice : List Row → Type 0
AsksTwice given = (takes_defaults given ≡ true) × (config_given given ≢ None)

-- ---- the words of each command

-- The task of `fmt --lines` for its text.
abbrev pub DoesPart : List Row → Part → Type 0
-- `fmt --lines LINES [FILE]`
DoesPart given (part.Print input) =
    (writes given ≡ false) × (checks given ≡ false) × (diffs given ≡ false)
    × (inputs_of (files_given given) ≡ input ∷ [])
-- `fmt --lines LINES --check [FILE]`
DoesPart given (part.Check input) =
    (writes given ≡ false) × (checks given ≡ true) × (diffs given ≡ false)
    × (inputs_of (files_given given) ≡ input ∷ [])
-- `fmt --lines LINES --diff [--check] [FILE]`
DoesPart given (part.Diff input) =
    (writes given ≡ false) × (diffs given ≡ true) × (inputs_of (files_given given) ≡ input ∷ [])
-- `fmt --lines LINES --write FILE`, and the FILE is not `-`
DoesPart given (part.Write file) =
    (writes given ≡ true) × (checks given ≡ false) × (diffs given ≡ false)
    × (files_given given ≡ file ∷ []) × (list_any is_standard_input (files_given given) ≡ false)

-- The task of `fmt` with these rows, besides its `--format`.
abbrev pub IsFmt : List Row → Fmt → Type 0
-- `fmt [FILE]`
IsFmt given (fmt.Print input) =
    (lines_given given ≡ []) × (writes given ≡ false) × (checks given ≡ false) × (diffs given ≡ false)
    × (inputs_of (files_given given) ≡ input ∷ [])
-- `fmt --check [FILE..]`
IsFmt given (fmt.Check inputs output) =
    (lines_given given ≡ []) × (writes given ≡ false) × (checks given ≡ true) × (diffs given ≡ false)
    × (inputs_of (files_given given) ≡ all_inputs inputs)
-- `fmt --diff [--check] [FILE..]`
IsFmt given (fmt.Diff inputs) =
    (lines_given given ≡ []) × (writes given ≡ false) × (diffs given ≡ true)
    × (inputs_of (files_given given) ≡ all_inputs inputs)
-- `fmt --write FILE..`, and no FILE is `-`
IsFmt given (fmt.Write files) =
    (lines_given given ≡ []) × (writes given ≡ true) × (checks given ≡ false) × (diffs given ≡ false)
    × (files_given given ≡ all_files files) × (list_any is_standard_input (files_given given) ≡ false)
-- `fmt --lines LINES`, with further flags and at most one FILE
IsFmt given (fmt.Part lines what) =
    (lines_given given ≢ []) × (are_lines (lines_given given) ≡ true)
    × (lines.items ≡ lines_in (lines_given given)) × DoesPart given what

-- The whole task of `fmt` with these rows.
pub record IsFmtTask (given : List Row) (what : Fmt) : Type 0 where
  pub task : IsFmt given what
  pub format : HasFormat given what

-- How `check` prints its findings. PRINTING is `[--format FORMAT] [--statistics] [--max-findings N] [--color WHEN]`.
pub record IsPrinting (given : List Row) (printing : Printing) : Type 0 where
  -- FORMAT is the name of a format
  pub output : IsOutput (counts given) (format_given given) printing.output
  -- WHEN is `auto`, `always` or `never`
  pub colors : colors_of (color_given given) ≡ Some printing.colors
  -- N is a decimal number of 64 bits
  pub limit : IsLimit (limit_given given) printing.limit

-- The task of `check` with these rows: `check [--without RULES] [--lines LINES] [--baseline FILE] PRINTING [FILE..]`.
-- (rules: the names of all rules)
pub record IsCheck (rules : List Text) (given : List Row) (check : Check) : Type 0 where
  pub inputs : inputs_of (files_given given) ≡ all_inputs check.inputs
  -- each name in RULES is the name of a rule
  pub without : check.without.items ≡ names_given given
  pub known : are_rules rules (names_given given) ≡ true
  -- LINES are ranges of lines, and there is at most one FILE with them
  pub lines : check.lines.items ≡ lines_in (lines_given given)
  pub written : are_lines (lines_given given) ≡ true
  pub alone : lines_given given ≢ [] → length (files_given given) ≤ 1
  pub baseline : check.baseline ≡ baseline_given given
  pub printing : IsPrinting given check.printing

-- The command with this name and these rows. (rules: the names of all rules)
abbrev pub IsCommand : List Text → Text → List Row → Command → Type 0
-- `events [FILE]`: no words with a second FILE are accepted
IsCommand rules name given (command.Events input) =
    (name ≡ codes "events") × (input ≡ first_input (files_given given))
-- `check`, with its options and FILEs
IsCommand rules name given (command.Check check) = (name ≡ codes "check") × IsCheck rules given check
-- `fmt`, with its flags and FILEs
IsCommand rules name given (command.Fmt what) = (name ≡ codes "fmt") × IsFmtTask given what
-- `server`
IsCommand rules name given command.Server = name ≡ codes "server"

-- The command that the words name, with its rows, or none if they name no command.
abbrev pub Met : Type 0
Met = Option (Text × List Row)

-- The request that the words make. (before: the rows before the command)
pub record IsRequest (rules : List Text) (before : List Row) (met : Met) (request : Request) : Type 0 where
  pub name : Text
  pub given : List Row
  -- the words name this command, with these rows
  pub named : met ≡ Some (name, given)
  pub command : IsCommand rules name given request.command
  -- `--config FILE`, `--no-config`, or neither
  pub settings : IsSettings given request.settings
  -- `--show-settings`
  pub shows : request.shows_settings ≡ is_flag (codes "show-settings") given
  -- `--explain`, before the command or after it
  pub explain : request.explain ≡ (is_flag (codes "explain") before || is_flag (codes "explain") given)
  -- `--any-text`
  pub any_text : request.any_text ≡ is_flag (codes "any-text") given
  -- `--names`
  pub names : request.names ≡ is_flag (codes "names") given
  -- `--stdin-name NAME`
  pub stdin_name : request.stdin_name ≡ stdin_name_given given

-- The words are accepted, and ask for this request.
abbrev pub AsksFor : List Text → List Text → Request → Type 0
AsksFor rules words request =
    (fault_of yamlfmt words ≡ []) × IsRequest rules (matches_of yamlfmt words) (subcommand_of yamlfmt words) request

-- ---- the words that are refused

-- Why `fmt` refuses its rows, besides its `--format`.
pub data IsNoFmt (given : List Row) : Type 0 where
  -- `--write` without a FILE
  no_file : writes given ≡ true → files_given given ≡ [] → IsNoFmt given
  -- `--write` with `-` for a FILE
  standard_input : writes given ≡ true → list_any is_standard_input (files_given given) ≡ true → IsNoFmt given
  -- `--write` with `--check`
  written_and_checked : writes given ≡ true → checks given ≡ true → IsNoFmt given
  -- `--write` with `--diff`
  written_and_compared : writes given ≡ true → diffs given ≡ true → IsNoFmt given
  -- several FILEs without a flag
  several_printed : writes given ≡ false → checks given ≡ false → diffs given ≡ false
      → 1 < length (files_given given) → IsNoFmt given
  -- several FILEs with `--lines`
  several_parts : lines_given given ≢ [] → 1 < length (files_given given) → IsNoFmt given
  -- `--lines` with a word that is no range of lines, nor several with commas between
  no_lines : are_lines (lines_given given) ≡ false → IsNoFmt given

-- Why `fmt` refuses its rows.
abbrev pub IsNoFmtTask : List Row → Type 0
IsNoFmtTask given = IsNoFmt given ⊎ RefusesFormat given

-- Why `check` refuses its options for the output.
pub data IsNoPrinting (given : List Row) : Type 0 where
  -- `--statistics` with `--format`
  two_outputs : counts given ≡ true → format_given given ≢ None → IsNoPrinting given
  -- `--format` with a name that no format has
  no_format : IsNoFormat (format_given given) → IsNoPrinting given
  -- `--color` with another word than `auto`, `always` and `never`
  no_colors : colors_of (color_given given) ≡ None → IsNoPrinting given
  -- `--max-findings` with a word that is no decimal number of 64 bits
  no_limit : IsNoLimit (limit_given given) → IsNoPrinting given

-- Why `check` refuses its rows.
pub data IsNoCheck (rules : List Text) (given : List Row) : Type 0 where
  -- `--without` with a name that no rule has
  no_rule : are_rules rules (names_given given) ≡ false → IsNoCheck rules given
  -- `--lines` with a word that is no range of lines, nor several with commas between
  wrong_lines : are_lines (lines_given given) ≡ false → IsNoCheck rules given
  -- several FILEs with `--lines`
  several_checked : lines_given given ≢ [] → 1 < length (files_given given) → IsNoCheck rules given
  -- it refuses its options for the output
  no_printing : IsNoPrinting given → IsNoCheck rules given

-- Why a name and the rows after it are not a command. (pages: those that `explain` prints)
pub data IsNoCommand (rules : List Text) (pages : List Page) (name : Text) (given : List Row) : Type 0 where
  -- no command has the name
  other_name : name ≢ codes "events" → name ≢ codes "check" → name ≢ codes "fmt" → name ≢ codes "server"
      → name ≢ codes "explain" → IsNoCommand rules pages name given
  -- `check` refuses its rows
  no_check : name ≡ codes "check" → IsNoCheck rules given → IsNoCommand rules pages name given
  -- `fmt` refuses its rows
  no_fmt : name ≡ codes "fmt" → IsNoFmtTask given → IsNoCommand rules pages name given
  -- `explain` with a NAME that no page has
  no_page : name ≡ codes "explain" → explained_given pages given ≡ None → IsNoCommand rules pages name given

-- The words name no command, or a command that is refused, or they ask for two settings. `explain` takes no settings.
abbrev pub IsNoRequest : List Text → List Page → Met → Type 0
IsNoRequest rules pages met =
    MatchOption met ⊤ (λ m. IsNoCommand rules pages m.0 m.1 ⊎ ((m.0 ≢ codes "explain") × AsksTwice m.1))

-- The words are wrong for this reason, or memory for the message was refused.
abbrev pub RefusedBy : Type 0 → Usage → Type 0
RefusedBy cause (Help text) = ⊥
RefusedBy cause (Wrong text) = cause
RefusedBy cause Memory = ⊤

-- The name and the rows after it are `explain`, and it prints this text.
abbrev pub Explains : List Page → Text → List Row → Text → Type 0
Explains pages name given text = (name ≡ codes "explain") × (explained_given pages given ≡ Some text)

-- The words ask for what `explain` prints, and it is this text.
abbrev pub AsksPage : List Page → Met → Text → Type 0
AsksPage pages met text = MatchOption met ⊥ (λ m. Explains pages m.0 m.1 text)

-- The result of `explain` with these rows.
abbrev pub ExplainedBy : List Page → List Row → Usage → Type 0
ExplainedBy pages given (Help text) = explained_given pages given ≡ Some text
ExplainedBy pages given (Wrong text) = explained_given pages given ≡ None
ExplainedBy pages given Memory = ⊤

-- A name and the rows after it make no command: `explain` prints this text, or they are wrong.
abbrev pub MakesNoCommand : List Text → List Page → Text → List Row → Usage → Type 0
MakesNoCommand rules pages name given (Help text) = Explains pages name given text
MakesNoCommand rules pages name given (Wrong text) = IsNoCommand rules pages name given
MakesNoCommand rules pages name given Memory = ⊤

-- Accepted words make no request: they ask for what `explain` prints, or they are wrong.
abbrev pub MakesNoRequest : List Text → List Page → Met → Usage → Type 0
MakesNoRequest rules pages met (Help text) = AsksPage pages met text
MakesNoRequest rules pages met (Wrong text) = IsNoRequest rules pages met
MakesNoRequest rules pages met Memory = ⊤

-- The words ask for help or for the version.
abbrev pub AsksText : ErrorKind → Type 0
AsksText kind = (kind ≡ DisplayHelp) ⊎ (kind ≡ DisplayVersion)

-- The result of a refusal of each kind.
abbrev pub IsUsageOf : ErrorKind → Usage → Type 0
IsUsageOf kind (Help text) = AsksText kind
IsUsageOf kind (Wrong text) = (¬ AsksText kind) × (kind ≢ OutOfMemory)
IsUsageOf kind Memory = ⊤

-- A text is returned only if the words ask for it: help or the version, or exactly what `explain` prints. The words are
-- wrong only if they are not accepted and don't ask for help or the version, or if they are accepted and ask for
-- nothing. Memory may be refused for any words.
abbrev pub RefusesWords : List Text → List Page → List Text → Usage → Type 0
RefusesWords rules pages words (Help text) =
    ((kind : ErrorKind) × AsksText kind × IsAmong kind (fault_of yamlfmt words))
    ⊎ ((fault_of yamlfmt words ≡ []) × AsksPage pages (subcommand_of yamlfmt words) text)
RefusesWords rules pages words (Wrong text) =
    ((kind : ErrorKind) × (¬ AsksText kind) × IsAmong kind (fault_of yamlfmt words))
    ⊎ ((fault_of yamlfmt words ≡ []) × IsNoRequest rules pages (subcommand_of yamlfmt words))
RefusesWords rules pages words Memory = ⊤
