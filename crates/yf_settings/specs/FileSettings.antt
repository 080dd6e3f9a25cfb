-- The settings in the text of a settings file, and when the text is refused.
use Rattle.std.specs.Prelude.{◌≡◌, ◌≢◌, ℕ, Bool, false, true, List, [], codes, MatchBool, MatchOption, IsSomeAnd}
use Rattle.toml.specs.Data.{Members, no_members, get_member}
use Rattle.toml.specs.Parse.{parse_document}
use Rattle.toml.specs.Errors.{IsBlank}
use Rattle.toml.specs.View.{table_view}
use Rattle.yf_excludes.specs.declared.pattern.Pattern.{Pattern}
use Rattle.yf_lines.specs.declared.fault.Fault.{Fault}
use Rattle.yf_lines.specs.declared.fault.Fault.TheVariants.{Config, Memory}
use Rattle.yf_settings.specs.Settings.{IsHouse, IsLeastWrong, IsRight, StyleOfTable, any_text_of, setting}
use Rattle.yf_settings.specs.Texts.{Excludes, IsNoList, IsNoRequirement, Requires}
use Rattle.yf_settings.specs.declared.file_settings.FileSettings.{FileSettings}
use Rattle.yf_settings.specs.declared.texts.Required.{Required}
use Rattle.yf_settings.specs.declared.texts.Required.TheVariants.{Any}

-- All keys of the table are right, and it has these settings.
pub record SettingsOfTable (table : Members) (settings : FileSettings) : Type 0 where
  pub right : (key : List ℕ) → IsRight true true table key
  pub style : StyleOfTable table settings.style
  pub required : Requires (get_member (codes "required_version") table) settings.required
  pub exclude : Excludes (get_member (codes "exclude") table) settings.exclude.items
  pub any_text : settings.any_text ≡ setting any_text_of (codes "any_text") false table

-- The table has these settings, which keep the table.
pub record KeepsSettings (table : Members) (settings : FileSettings) : Type 0 where
  pub has : SettingsOfTable table settings
  pub kept : table_view settings.table ≡ table

-- The settings are those of the table that they keep.
abbrev pub AreKept : FileSettings → Type 0
AreKept settings = SettingsOfTable (table_view settings.table) settings

-- Whether the values of `required_version` and `exclude` are right.
pub record TextsAreRight (table : Members) (version patterns : Bool) : Type 0 where
  pub required : MatchBool version
      ((r : Required) × Requires (get_member (codes "required_version") table) r)
      (IsNoRequirement (get_member (codes "required_version") table))
  pub exclude : MatchBool patterns
      ((ps : List Pattern) × Excludes (get_member (codes "exclude") table) ps)
      (IsNoList (get_member (codes "exclude") table))

-- The least wrong key.
pub record RefusesKey (table : Members) (key : List ℕ) : Type 0 where
  pub version : Bool
  pub patterns : Bool
  pub texts : TextsAreRight table version patterns
  pub least : IsLeastWrong version patterns table key

-- The table is refused because of this key. Memory is refused only if the table has a key.
abbrev pub RefusesTable : Members → Fault → Type 0
RefusesTable table (Config key) = RefusesKey table key
RefusesTable table Memory = table ≢ no_members
RefusesTable table _ = ⊥

-- The settings without a settings file.
pub record AreDefaults (settings : FileSettings) : Type 0 where
  pub style : IsHouse settings.style
  pub required : settings.required ≡ Any
  pub exclude : settings.exclude.items ≡ []
  pub any_text : settings.any_text ≡ false
  pub table : table_view settings.table ≡ no_members

-- The text is TOML, and its table has these settings, which keep the table.
abbrev pub HasSettings : List ℕ → FileSettings → Type 0
HasSettings text settings = IsSomeAnd (parse_document text) (λ table. KeepsSettings table settings)

-- The key is empty if the text is not TOML. Otherwise it is the least wrong key. Memory is refused only if the text has
-- a key.
abbrev pub RefusesFile : List ℕ → Fault → Type 0
RefusesFile text (Config key) = MatchOption (parse_document text) (key ≡ []) (λ table. RefusesKey table key)
RefusesFile text Memory = IsBlank text → ⊥
RefusesFile text _ = ⊥
