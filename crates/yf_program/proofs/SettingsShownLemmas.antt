-- Settings that were read and are shown.
use Rattle.std.proofs.Common.{ℕ, List, Option, Some, None}
use Rattle.yf_program.specs.SettingsFile.{SettingsOfFile}
use Rattle.yf_host.specs.World.{InputClaim}
use Rattle.yf_settings.proofs.PageLemmas.{defaults_keep, text_keeps}
use Rattle.yf_settings.specs.FileSettings.{AreKept}
use Rattle.yf_settings.specs.declared.file_settings.FileSettings.{FileSettings}

-- The settings of a file are those of the table that they keep.
pub file_keeps : (claim : InputClaim) (config : Option (List ℕ)) (settings : FileSettings) → SettingsOfFile claim config settings
    → AreKept settings
file_keeps claim (Some name) settings s = text_keeps s.3.0 settings s.3.4
file_keeps claim None settings s = defaults_keep settings s
