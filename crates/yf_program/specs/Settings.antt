-- Which settings file is in force, and which files it leaves out.
use Rattle.std.specs.Prelude.{◌≡◌, ◌⊎◌, ◌||◌, ◌∷◌, ℕ, Bool, true, false, List, [], length, codes}
use Rattle.std.specs.Prelude.{Option, Some, None, unwrap_or, MatchOption}
use Rattle.std.specs.List.{concat}
use Rattle.yf_command_line.specs.declared.build.TheConstants.{VERSION}
use Rattle.yf_command_line.specs.declared.command.Input.{Input}
use Rattle.yf_command_line.specs.declared.command.Input.TheVariants.{Standard, File}
use Rattle.yf_command_line.specs.declared.command.Settings.{Settings}
use Rattle.yf_command_line.specs.declared.command.Settings.TheVariants as asked
use Rattle.yf_discovery.specs.Nearest.{IsNearest}
use Rattle.yf_discovery.specs.declared.nearest.Discovery.{Discovery}
use Rattle.yf_discovery.specs.declared.nearest.Discovery.TheVariants as discovery
use Rattle.yf_excludes.specs.Located.{ExcludesFile}
use Rattle.yf_excludes.specs.Names.{Leads}
use Rattle.yf_lines.specs.declared.fault.Fault.{Fault}
use Rattle.yf_lines.specs.declared.fault.Fault.TheVariants as fault
use Rattle.yf_host.specs.Report.{fault_line, fault_status, named_fault}
use Rattle.yf_host.specs.World.{Host, InputClaim, WorkClaim, World}
use Rattle.yf_program.specs.declared.scope.Scope.{Scope}
use Rattle.yf_program.specs.declared.search.InForce.{InForce}
use Rattle.yf_program.specs.declared.search.Unfound.{Unfound}
use Rattle.yf_program.specs.declared.search.Unfound.TheVariants as unfound
use Rattle.yf_program.specs.declared.task.Flags.{Flags}
use Rattle.yf_rules.specs.Runs.ByteStream.{ByteStream, NothingWritten, WrittenOrFailed}
use Rattle.yf_settings.specs.Texts.{allows}
use Rattle.yf_settings.specs.declared.file_settings.FileSettings.{FileSettings}
use Rattle.yf_settings.specs.declared.texts.Required.{Required}
use Rattle.yf_settings.specs.declared.texts.Required.TheVariants as required

-- ---- Which settings file is in force

-- The search begins in the current folder. Its path says how many folders are above it.
abbrev pub SearchEnds : InputClaim → List ℕ → Discovery → Type 0
SearchEnds claim current d =
    (names : List (List ℕ)) × Leads [] current (Some names) × IsNearest claim.shows (length names) d

-- The search found this settings file, or none.
abbrev pub found : Option (List ℕ) → Discovery
found (Some name) = discovery.Settings name
found None = discovery.Nothing

-- The path of the current folder, or the empty path if it isn't known.
abbrev pub IsCurrent : InputClaim → List ℕ → Type 0
IsCurrent claim path = (known : Option (List ℕ)) × claim.current known × (path ≡ unwrap_or known [])

-- This settings file is in force, or none, and this is the current folder. Without `--config` and `--no-config`, the
-- search decides.
abbrev pub IsInForce : InputClaim → Settings → InForce → Type 0
IsInForce claim asked.Nearest f =
    (f.is_nearest ≡ true) × claim.current (Some f.current.items) × SearchEnds claim f.current.items (found f.config)
IsInForce claim (asked.File name) f =
    (f.is_nearest ≡ false) × (f.config ≡ Some name) × IsCurrent claim f.current.items
IsInForce claim asked.Defaults f = (f.is_nearest ≡ false) × (f.config ≡ None) × IsCurrent claim f.current.items

-- The search ends at a name that is a folder or can't be looked at.
abbrev pub EndsUnread : InputClaim → Settings → List ℕ → Type 0
EndsUnread claim asked.Nearest name =
    (current : List ℕ) × claim.current (Some current) × SearchEnds claim current (discovery.Fault name)
EndsUnread claim _ name = ⊥

-- The search can't begin, since the current folder has no path.
abbrev pub HasNoStart : InputClaim → Settings → Type 0
HasNoStart claim asked.Nearest =
    claim.current None ⊎ ((current : List ℕ) × claim.current (Some current) × Leads [] current None)
HasNoStart claim _ = ⊥

-- Why it isn't known which settings file is in force.
abbrev pub IsUnfound : InputClaim → Settings → Unfound → Type 0
IsUnfound claim asks (unfound.Unreadable name) = EndsUnread claim asks name
IsUnfound claim asks unfound.NoFolder = HasNoStart claim asks
IsUnfound claim asks unfound.Memory = Unit {0}

-- The line of a settings file that is refused. It has the name of the file if the search found the file.
abbrev pub settings_line : Bool → List ℕ → Fault → List ℕ
settings_line true name f = named_fault name f
settings_line false name f = fault_line f

-- The line for a current folder without a path.
abbrev pub no_folder_line : List ℕ
no_folder_line = codes "can't look for a settings file: the path of the current folder is unknown\n"

-- ---- For which versions of the program it is

-- The line of a settings file that requires another version.
abbrev pub version_line : List ℕ → List ℕ
version_line required = concat (codes "required_version: the settings require yamlfmt " ∷ required ∷ codes ", and this is "
    ∷ VERSION.now ∷ codes "\n" ∷ [])

-- The settings require another version, and a line says which.
abbrev pub RefusesVersion : Required → ℕ → ByteStream → ByteStream → Type 0
RefusesVersion required.Any status before after = ⊥
RefusesVersion (required.Versions r) status before after =
    (allows (required.Versions r) VERSION.now ≡ false) × (status ≡ 3)
    × WrittenOrFailed before after (version_line r.text)

-- ---- Which files it leaves out

-- What decides which inputs the settings leave out, which texts are skipped, which names the lines have, and the form of
-- findings.
abbrev pub scope_of : InForce → FileSettings → Flags → Scope
scope_of f settings flags = record {
  patterns = settings.exclude;
  current = f.current;
  settings = unwrap_or f.config [];
  any_text = flags.any_text || settings.any_text;
  asks_any_text = flags.any_text;
  is_nearest = f.is_nearest;
  names = flags.names;
  stdin_name = flags.stdin_name;
  terminal = flags.terminal;
}

-- The patterns of the settings file exclude the file with this name.
abbrev pub Excludes : Scope → List ℕ → Type 0
Excludes scope name = ExcludesFile scope.patterns.items scope.current.items scope.settings name

-- The patterns of the settings file exclude the input. Standard input without a name is never left out.
abbrev pub IsLeftOut : Scope → Input → Type 0
IsLeftOut scope Standard = MatchOption scope.stdin_name ⊥ (Excludes scope)
IsLeftOut scope (File name) = Excludes scope name

-- The line that says that an input is left out, with `--explain`.
abbrev pub left_out_line : Bool → List ℕ
left_out_line true = codes "left out: the settings exclude it\n"
left_out_line false = []

-- With `--explain`, a line says that an input is left out.
abbrev pub TellsLeftOut : Bool → ByteStream → ByteStream → Type 0
TellsLeftOut true before after = WrittenOrFailed before after (codes "left out: the settings exclude it\n")
TellsLeftOut false before after = NothingWritten before after

-- No input was opened, no file was changed, and nothing was written to the output.
abbrev pub NothingDone : {F : Type 0} → Host F → World F → World F → Type 0
NothingDone host before after =
    (after.files ≡ before.files) × (host.inputs.notes → after.opened ≡ before.opened)
    × NothingWritten before.streams.output after.streams.output

-- Nothing was done with an input that the settings leave out.
abbrev pub PassesBy : {F : Type 0} → Host F → Bool → Input → WorkClaim F
PassesBy host explain input status before after =
    NothingDone host before after × (status ≡ 0) × TellsLeftOut explain before.streams.errors after.streams.errors

-- What is done with an input, and with an input that the settings leave out.
pub record InputWork (F : Type 0) : Type 1 where
  pub Does : Input → WorkClaim F
  pub Skips : Input → WorkClaim F

-- It was done with the input, or the settings leave the input out. If memory is refused, nothing was done.
pub data Scoped {F : Type 0} (host : Host F) (scope : Scope) (what : InputWork F) (input : Input) (status : ℕ)
    (before after : World F) : Type 0 where
  left_out : IsLeftOut scope input → what.Skips input status before after → Scoped host scope what input status before after
  no_memory : NothingDone host before after → status ≡ fault_status fault.Memory
      → WrittenOrFailed before.streams.errors after.streams.errors (fault_line fault.Memory)
      → Scoped host scope what input status before after
  included : ¬ (IsLeftOut scope input) → what.Does input status before after
      → Scoped host scope what input status before after
