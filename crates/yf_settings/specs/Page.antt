-- The page that shows settings: a TOML document that sets them.
use Rattle.std.specs.Prelude.{◌≡◌, ◌∷◌, ℕ, pos, Bool, false, true, List, [], Option, Some, None, codes, is_some, if◌then◌else◌}
use Rattle.std.specs.Option.{option_or}
use Rattle.std.specs.List.{list_all}
use Rattle.std.specs.Str.{bytes_eq}
use Rattle.toml.specs.Data.{Data, string, integer, boolean, Members, get_member}
use Rattle.toml.specs.Text.{IsDocumentText}
use Rattle.yf_settings.specs.FileSettings.{SettingsOfTable}
use Rattle.yf_settings.specs.declared.file_settings.FileSettings.{FileSettings}

-- The keys of the style, and the values that set the house style.
abbrev pub house_values : List (List ℕ × Data)
house_values =
    (codes "comments", string (codes "next")) ∷ (codes "document_start", string (codes "always"))
    ∷ (codes "indent", integer (pos 2)) ∷ (codes "invisible", string (codes "plain"))
    ∷ (codes "max_line", integer (pos 100)) ∷ (codes "quotes", string (codes "double"))
    ∷ (codes "seq_indent", boolean true) ∷ []

-- The first value at a key of the list.
abbrev pub value_in : List (List ℕ × Data) → List ℕ → Option Data
value_in [] key = None
value_in (v ∷ vs) key = if bytes_eq v.0 key then Some v.1 else value_in vs key

-- `after` has the members of `before`, and at other keys those of the list.
abbrev pub Completes : List (List ℕ × Data) → Members → Members → Type 0
Completes vs before after = (key : List ℕ) → get_member key after ≡ option_or (get_member key before) (value_in vs key)

-- The table sets each setting of the style.
abbrev pub SetsAll : Members → Type 0
SetsAll table = list_all (λ v. is_some (get_member v.0 table)) house_values ≡ true

-- The page is the TOML text of a table that has these settings, and sets each setting of the style.
pub record ShowsSettings (settings : FileSettings) (page : List ℕ) : Type 0 where
  pub table : Members
  pub has : SettingsOfTable table settings
  pub all : SetsAll table
  pub text : IsDocumentText false table page
