-- What is read from a settings file.
-- (reader, left: a reader before and after it was read)
use Rattle.std.specs.Prelude.{◌≡◌, ◌≤◌, ◌⊎◌, ◌∷◌, ℕ, List, [], Option, Some, None, length}
use Rattle.std.specs.Str.{IsUtf8}
use Rattle.yf_command_line.specs.declared.command.Input.{Input}
use Rattle.yf_command_line.specs.declared.command.Input.TheVariants.{File}
use Rattle.yf_lines.specs.declared.fault.Fault.{Fault}
use Rattle.yf_lines.specs.declared.fault.Fault.TheVariants as fault
use Rattle.yf_host.specs.Ends.{Opens}
use Rattle.yf_host.specs.World.{InputClaim}
use Rattle.yf_rules.specs.Runs.ByteStream.{ByteStream, NoFailure}
use Rattle.yf_rules.specs.Runs.Input.{ReadRefusal}
use Rattle.yf_rules.specs.Runs.Run.{Gave}
use Rattle.yf_rules.specs.declared.run.TheConstants.{INPUT_LIMIT}
use Rattle.yf_settings.specs.FileSettings.{AreDefaults, HasSettings, RefusesFile}
use Rattle.yf_settings.specs.declared.file_settings.FileSettings.{FileSettings}

-- The inputs that are opened for the settings.
abbrev pub settings_of : Option (List ℕ) → List Input
settings_of (Some name) = File name ∷ []
settings_of None = []

-- The bytes that were read have these settings.
abbrev pub FileSets : Option (List ℕ) → FileSettings → Type 0
FileSets known settings =
    (text : List ℕ) × Gave known text × (length text ≤ INPUT_LIMIT) × IsUtf8 text × HasSettings text settings

-- A settings file is refused: it could not be read; it is no text, and the key is empty; or its text is refused.
abbrev pub FileRefused : ByteStream → ByteStream → Fault → Type 0
FileRefused reader left fault.Memory = NoFailure reader left
FileRefused reader left (fault.Config key) = NoFailure reader left
    × ((text : List ℕ) × Gave reader.contents text × (length text ≤ INPUT_LIMIT)
    × (((¬ IsUtf8 text) × (key ≡ [])) ⊎ (IsUtf8 text × RefusesFile text (fault.Config key))))
FileRefused reader left fault.ReadFailed = ReadRefusal INPUT_LIMIT reader left fault.ReadFailed
FileRefused reader left _ = ⊥

-- The settings are those of the settings file, or the defaults.
abbrev pub SettingsOfFile : InputClaim → Option (List ℕ) → FileSettings → Type 0
SettingsOfFile claim (Some name) settings = (reader : ByteStream) × (left : ByteStream)
    × Opens claim (File name) reader left × FileSets reader.contents settings
SettingsOfFile claim None settings = AreDefaults settings

-- The settings file can't be opened, or is refused.
abbrev pub Unset : InputClaim → Option (List ℕ) → Fault → Type 0
Unset claim (Some name) f =
    ((f ≡ fault.ReadFailed) × (claim.tells → claim.fails (File name)))
    ⊎ ((reader : ByteStream) × (left : ByteStream) × Opens claim (File name) reader left × FileRefused reader left f)
Unset claim None f = ⊥
