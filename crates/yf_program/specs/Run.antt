-- The whole program, from the words of its command line to its status. Its last definition, `ProgramRuns`, is the whole.
-- (before, after: the world, the streams or one stream before and after a step)
use Rattle.std.specs.Prelude.{◌≡◌, ◌⊎◌, ◌++◌, ℕ, List, [], Bool, MatchBool, Option, Some, None, codes, unwrap_or}
use Rattle.yf_command_line.specs.Requests.{AsksFor, RefusesWords}
use Rattle.yf_command_line.specs.declared.command.Command.{Command}
use Rattle.yf_command_line.specs.declared.command.Input.{Input}
use Rattle.yf_command_line.specs.declared.command.Request.{Request}
use Rattle.yf_lines.specs.Shown.{shown}
use Rattle.yf_command_line.specs.declared.usage.Usage.{Usage}
use Rattle.yf_command_line.specs.declared.usage.Usage.TheVariants as usage
use Rattle.yf_lines.specs.declared.fault.Fault.{Fault}
use Rattle.yf_lines.specs.declared.fault.Fault.TheVariants as fault
use Rattle.yf_program.specs.Answer.{AnyLines, DoesIn, EndsBy, InputsOpened, TellsMore, UsageWritten, WrittenOut}
use Rattle.yf_host.specs.Report.{fault_status, named_fault}
use Rattle.yf_program.specs.Settings.{IsInForce, IsUnfound, NothingDone, RefusesVersion, no_folder_line, scope_of, settings_line}
use Rattle.yf_program.specs.SettingsFile.{SettingsOfFile, Unset, settings_of}
use Rattle.yf_host.specs.World.{Host, OutputStreams, WorkClaim, World}
use Rattle.yf_program.specs.declared.search.InForce.{InForce}
use Rattle.yf_program.specs.declared.search.Unfound.{Unfound}
use Rattle.yf_program.specs.declared.search.Unfound.TheVariants as unfound
use Rattle.yf_program.specs.declared.task.Flags.{Flags}
use Rattle.yf_program.specs.declared.terminal.Terminal.{Terminal}
use Rattle.yf_rule_pages.specs.declared.page.Page.{Page}
use Rattle.yf_rules.specs.AllRules.{rule_names}
use Rattle.yf_rules.specs.Runs.ByteStream.{ByteStream, NothingWritten, WrittenOrFailed}
use Rattle.yf_settings.specs.Page.{ShowsSettings}
use Rattle.yf_settings.specs.declared.file_settings.FileSettings.{FileSettings}

-- A line was written to the stream of faults, and with `--explain` more lines after it. The status is that of the fault.
abbrev pub EndsByLine : Bool → List ℕ → Fault → ℕ → ByteStream → ByteStream → Type 0
EndsByLine explain line f status before after =
    (told : ByteStream) × (status ≡ fault_status f) × WrittenOrFailed before told line
    × TellsMore explain AnyLines told after

-- Why it isn't known which settings file is in force was written to the stream of faults.
abbrev pub TellsUnfound : Bool → Unfound → ℕ → ByteStream → ByteStream → Type 0
TellsUnfound explain (unfound.Unreadable name) status before after =
    EndsByLine explain (named_fault name fault.ReadFailed) fault.ReadFailed status before after
TellsUnfound explain unfound.NoFolder status before after = (status ≡ 3) × WrittenOrFailed before after no_folder_line
TellsUnfound explain unfound.Memory status before after = EndsBy fault.Memory status before after

-- The settings are for another version; or memory was refused; or the command was done with the settings.
pub data DoesWith {F : Type 0} (host : Host F) (in_force : InForce) (settings : FileSettings) (flags : Flags)
    (what : Command) (status : ℕ) (before after : World F) : Type 0 where
  other_version : NothingDone host before after
      → RefusesVersion settings.required status before.streams.errors after.streams.errors
      → DoesWith host in_force settings flags what status before after
  without_memory : NothingDone host before after → EndsBy fault.Memory status before.streams.errors after.streams.errors
      → DoesWith host in_force settings flags what status before after
  are_taken : DoesIn host what (scope_of in_force settings flags) flags.explain settings.style status before after
      → DoesWith host in_force settings flags what status before after

-- The settings file in force is refused, and no other input was opened; or the command was done with its settings.
abbrev pub SettingsTaken : {F : Type 0} → Host F → InForce → Flags → Command → WorkClaim F
SettingsTaken host in_force flags what status before after =
    ((f : Fault) × Unset host.inputs in_force.config f × (after.files ≡ before.files)
    × InputsOpened host.inputs before.opened after.opened (settings_of in_force.config)
    × NothingWritten before.streams.output after.streams.output
    × EndsByLine flags.explain (settings_line in_force.is_nearest (unwrap_or in_force.config []) f) f status
    before.streams.errors after.streams.errors)
    ⊎ ((settings : FileSettings) × (opened : List Input) × SettingsOfFile host.inputs in_force.config settings
    × InputsOpened host.inputs before.opened opened (settings_of in_force.config)
    × DoesWith host in_force settings flags what status (record before { opened = opened }) after)

-- What the command line and the terminal say about the whole run.
abbrev pub flags_of : Request → Terminal → Flags
flags_of request terminal = record {
  explain = request.explain;
  any_text = request.any_text;
  names = request.names;
  stdin_name = request.stdin_name;
  terminal = terminal;
}

-- The first line of a page of settings: a comment with the name of the settings file.
abbrev pub file_heading : List ℕ → List ℕ
file_heading name = codes "# " ++ (shown name ++ codes "\n")

abbrev pub heading : Option (List ℕ) → List ℕ
heading (Some name) = file_heading name
heading None = codes "# no settings file\n"

-- A page with these settings was written to the output, or could not be; or memory was refused.
abbrev pub PageShown : Option (List ℕ) → FileSettings → ℕ → OutputStreams → OutputStreams → Type 0
PageShown config settings status before after =
    ((page : List ℕ) × ShowsSettings settings page × UsageWritten (usage.Help (heading config ++ page)) status before after)
    ⊎ UsageWritten usage.Memory status before after

-- The settings file in force is refused, or a page shows its settings. Nothing else was done.
abbrev pub SettingsShown : {F : Type 0} → Host F → InForce → Bool → WorkClaim F
SettingsShown host in_force explain status before after =
    (after.files ≡ before.files) × InputsOpened host.inputs before.opened after.opened (settings_of in_force.config)
    × (((f : Fault) × Unset host.inputs in_force.config f × NothingWritten before.streams.output after.streams.output
    × EndsByLine explain (settings_line in_force.is_nearest (unwrap_or in_force.config []) f) f status
    before.streams.errors after.streams.errors)
    ⊎ ((settings : FileSettings) × SettingsOfFile host.inputs in_force.config settings
    × PageShown in_force.config settings status before.streams after.streams))

-- It isn't known which settings file is in force, and no input was opened; or its settings were shown or taken.
abbrev pub RequestDone : {F : Type 0} → Host F → Request → Terminal → WorkClaim F
RequestDone host request terminal status before after =
    ((why : Unfound) × IsUnfound host.inputs request.settings why × NothingDone host before after
    × TellsUnfound request.explain why status before.streams.errors after.streams.errors)
    ⊎ ((in_force : InForce) × IsInForce host.inputs request.settings in_force
    × MatchBool request.shows_settings (SettingsShown host in_force request.explain status before after)
    (SettingsTaken host in_force (flags_of request terminal) request.command status before after))

-- What the words ask for was done; or they ask for help or for what `explain` prints, or are wrong, and nothing was
-- opened. (pages: those that `explain` prints)
abbrev pub Follows : {F : Type 0} → Host F → List Page → List (List ℕ) → Terminal → WorkClaim F
Follows host pages words terminal status before after =
    ((request : Request) × AsksFor rule_names words request × RequestDone host request terminal status before after)
    ⊎ ((usage : Usage) × RefusesWords rule_names pages words usage × (after.files ≡ before.files)
    × (host.inputs.notes → after.opened ≡ before.opened) × UsageWritten usage status before.streams after.streams)

-- The program did what the words ask for, and then wrote out what the writer held back. The status is the one that
-- `main` ends with, unless the reader of standard output has left: then `main` ends with 141 instead.
pub record ProgramRuns {F : Type 0} (host : Host F) (pages : List Page) (words : List (List ℕ)) (terminal : Terminal)
    (status : ℕ) (before after : World F) : Type 0 where
  pub run : ℕ
  pub streams : OutputStreams
  pub follows : Follows host pages words terminal run before (record after { streams = streams })
  pub out : WrittenOut run status streams after.streams
