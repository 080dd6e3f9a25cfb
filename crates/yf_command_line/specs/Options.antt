-- The commands and their options, in the form that the library for command lines expects. The library defines how words
-- are parsed as a command with options.
use Rattle.std.specs.Prelude.{◌≡◌, true, false, Some, codes}
use Rattle.clap.specs.Words.{app_of, rule_of, App, Rule, Shape, Text, new_app, new_rule, with_rule, with_subcommand}
use Rattle.clap.specs.Simple.{on_top}
use Rattle.clap.specs.declared.builder.arg.Arg.{Arg}
use Rattle.clap.specs.declared.builder.command.Command.{Command}
use Rattle.clap.specs.declared.builder.command.Command.TheViews.{out-Command}
use Rattle.clap.specs.declared.builder.action.ArgAction.TheVariants.{Append, SetTrue}

-- `--config FILE`
abbrev pub config_option : Rule
config_option = record (new_rule (codes "config")) { long = Some (codes "config"); value_names = 1 }

-- `--no-config`
abbrev pub no_config_flag : Rule
no_config_flag = record (new_rule (codes "no-config")) { long = Some (codes "no-config"); action = Some SetTrue }

-- `--show-settings`
abbrev pub show_settings_flag : Rule
show_settings_flag =
    record (new_rule (codes "show-settings")) { long = Some (codes "show-settings"); action = Some SetTrue }

-- `--explain`
abbrev pub explain_flag : Rule
explain_flag = record (new_rule (codes "explain")) { long = Some (codes "explain"); action = Some SetTrue }

-- `--any-text`
abbrev pub any_text_flag : Rule
any_text_flag = record (new_rule (codes "any-text")) { long = Some (codes "any-text"); action = Some SetTrue }

-- `--stdin-name NAME`
abbrev pub stdin_name_option : Rule
stdin_name_option = record (new_rule (codes "stdin-name")) { long = Some (codes "stdin-name"); value_names = 1 }

-- `--names`
abbrev pub names_flag : Rule
names_flag = record (new_rule (codes "names")) { long = Some (codes "names"); action = Some SetTrue }

-- `--write`
abbrev pub write_flag : Rule
write_flag = record (new_rule (codes "write")) { long = Some (codes "write"); action = Some SetTrue }

-- `--check`
abbrev pub check_flag : Rule
check_flag = record (new_rule (codes "check")) { long = Some (codes "check"); action = Some SetTrue }

-- `--diff`
abbrev pub diff_flag : Rule
diff_flag = record (new_rule (codes "diff")) { long = Some (codes "diff"); action = Some SetTrue }

-- `--without RULES`
abbrev pub without_option : Rule
without_option =
    record (new_rule (codes "without")) { long = Some (codes "without"); value_names = 1; action = Some Append }

-- `--baseline FILE`
abbrev pub baseline_option : Rule
baseline_option = record (new_rule (codes "baseline")) { long = Some (codes "baseline"); value_names = 1 }

-- `--format FORMAT`
abbrev pub format_option : Rule
format_option = record (new_rule (codes "format")) { long = Some (codes "format"); value_names = 1 }

-- `--statistics`
abbrev pub statistics_flag : Rule
statistics_flag = record (new_rule (codes "statistics")) { long = Some (codes "statistics"); action = Some SetTrue }

-- `--max-findings N`
abbrev pub max_findings_option : Rule
max_findings_option = record (new_rule (codes "max-findings")) { long = Some (codes "max-findings"); value_names = 1 }

-- `--color WHEN`
abbrev pub color_option : Rule
color_option = record (new_rule (codes "color")) { long = Some (codes "color"); value_names = 1 }

-- `--lines LINES`
abbrev pub lines_option : Rule
lines_option = record (new_rule (codes "lines")) { long = Some (codes "lines"); value_names = 1; action = Some Append }

-- `--stdio`
abbrev pub stdio_flag : Rule
stdio_flag = record (new_rule (codes "stdio")) { long = Some (codes "stdio"); action = Some SetTrue }

-- `NAME`
abbrev pub name_word : Rule
name_word = record (new_rule (codes "name")) { value_names = 1 }

-- `FILE`
abbrev pub file_word : Rule
file_word = record (new_rule (codes "file")) { value_names = 1 }

-- `FILE..`
abbrev pub file_words : Rule
file_words = record (new_rule (codes "file")) { value_names = 1; action = Some Append }

-- `NAME [--config FILE]`
abbrev pub with_config : Text → App
with_config name = with_rule (new_app name) config_option

-- `NAME [--config FILE] [--no-config]`
abbrev pub with_defaults : Text → App
with_defaults name = with_rule (with_config name) no_config_flag

-- SETTINGS, the words of every command but `explain`: `NAME [--config FILE] [--no-config] [--show-settings]`
abbrev pub with_settings : Text → App
with_settings name = with_rule (with_defaults name) show_settings_flag

-- READING, the words of commands with a FILE: `NAME SETTINGS [--explain] [--any-text] [--stdin-name NAME]`
abbrev pub configured : Text → App
configured name =
    with_rule (with_rule (with_rule (with_settings name) explain_flag) any_text_flag) stdin_name_option

-- `NAME SETTINGS READING [FILE]`
abbrev pub reading_command : Text → App
reading_command name = with_rule (configured name) file_word

-- `NAME SETTINGS READING [--names]`
abbrev pub naming : Text → App
naming name = with_rule (configured name) names_flag

-- CHOOSING, what `check` checks and reports: `check SETTINGS READING [--names] [--without RULES] [--lines LINES]
-- [--baseline FILE]`
abbrev pub choosing_command : App
choosing_command =
    with_rule (with_rule (with_rule (naming (codes "check")) without_option) lines_option) baseline_option

-- `check CHOOSING PRINTING`. PRINTING is `[--format FORMAT] [--statistics] [--max-findings N] [--color WHEN]`.
abbrev pub printing_command : App
printing_command =
    with_rule (with_rule (with_rule (with_rule choosing_command format_option) statistics_flag) max_findings_option)
    color_option

-- `check CHOOSING PRINTING [FILE..]`
abbrev pub checking_command : App
checking_command = with_rule printing_command file_words

-- `fmt SETTINGS READING [--names] [--write] [--check] [--diff]`
abbrev pub formatting_command : App
formatting_command = with_rule (with_rule (with_rule (naming (codes "fmt")) write_flag) check_flag) diff_flag

-- `fmt SETTINGS READING [--names] [--write] [--check] [--diff] [--lines LINES] [--format FORMAT] [FILE..]`
abbrev pub writing_command : App
writing_command = with_rule (with_rule (with_rule formatting_command lines_option) format_option) file_words

-- `server SETTINGS [--stdio]`
abbrev pub serving_command : App
serving_command = with_rule (with_settings (codes "server")) stdio_flag

-- `explain [NAME]`
abbrev pub explaining_command : App
explaining_command = with_rule (new_app (codes "explain")) name_word

-- A command is required. Without any words, the refusal is the help text. The program's name is not among the words.
-- There is a version.
abbrev pub wants_command : Shape → Shape
wants_command s = record s {
  has_version = true;
  no_binary_name = true;
  subcommand_required = true;
  arg_required_else_help = true;
}

-- `yamlfmt [--explain]`, before its commands
abbrev pub bare_command : App
bare_command = with_rule (on_top wants_command (new_app (codes "yamlfmt"))) explain_flag

-- `yamlfmt [--explain] COMMAND`
unfoldable pub yamlfmt : App
yamlfmt =
    with_subcommand (with_subcommand (with_subcommand (with_subcommand (with_subcommand bare_command
    (reading_command (codes "events")).top)
    checking_command.top)
    writing_command.top)
    serving_command.top)
    explaining_command.top

-- An option of one command, which no other command inherits.
abbrev pub IsOption : Arg → Rule → Type 0
IsOption arg rule = (rule_of arg ≡ rule) × (arg.global ≡ false)

-- A command within another one. It inherits none of the other's options.
abbrev pub IsPart : Command → App → Type 0
IsPart command app = (app_of command ≡ app) × ((out-Command command).has_globals ≡ false)
