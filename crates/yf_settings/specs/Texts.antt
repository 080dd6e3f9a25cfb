-- The settings with values that have their own grammar: `required_version` and `exclude`.
-- (d: the value of the key, if the table has it)
use Rattle.std.specs.Prelude.{◌≡◌, ◌⊎◌, ℕ, Bool, true, false, List, [], ◌∷◌, Option, Some, None, Result, Ok, Err, map}
use Rattle.semver.specs.EvalViews.{matches_views}
use Rattle.semver.specs.Identifiers.{comparator_view}
use Rattle.semver.specs.Parse.{Parts, req_of, version_parts}
use Rattle.semver.specs.declared.Comparator.{Comparator}
use Rattle.semver.specs.declared.error.Error.{Error}
use Rattle.toml.specs.Data.{Data, Items, no_items, item, as_str, as_array}
use Rattle.yf_excludes.specs.Names.{texts}
use Rattle.yf_excludes.specs.Paths.{Lent}
use Rattle.yf_excludes.specs.Patterns.{ArePatterns, FirstBad}
use Rattle.yf_excludes.specs.declared.pattern.Pattern.{Pattern}
use Rattle.yf_settings.specs.declared.texts.Required.{Required}
use Rattle.yf_settings.specs.declared.texts.Required.TheVariants.{Any, Versions}

-- ---- `required_version`

-- The text is not a requirement.
abbrev pub IsNoVersions : List ℕ → Type 0
IsNoVersions text = (e : Error) × (req_of text ≡ Err e)

-- The value is not a text, or the text is not a requirement.
pub data IsNoRequirement (d : Option Data) : Type 0 where
  no_string : {value : Data} → d ≡ Some value → as_str value ≡ None → IsNoRequirement d
  no_versions : {value : Data} {text : List ℕ} → d ≡ Some value → as_str value ≡ Some text → IsNoVersions text
      → IsNoRequirement d

-- Without the key, any version will do. Otherwise the text of the value is this requirement.
abbrev pub Requires : Option Data → Required → Type 0
Requires d Any = d ≡ None
Requires d (Versions r) =
    (value : Data) × (d ≡ Some value) × (as_str value ≡ Some r.text)
    × (req_of r.text ≡ Ok (map comparator_view r.versions.comparators.items))

abbrev pub meets : List Comparator → Result Parts Error → Bool
meets comparators (Ok parts) = matches_views (map comparator_view comparators) parts
meets comparators (Err e) = false

-- Whether a version, given by its text, meets the requirement.
abbrev pub allows : Required → List ℕ → Bool
allows Any version = true
allows (Versions r) version = meets r.versions.comparators.items (version_parts version)

-- ---- `exclude`

abbrev pub with_text : Option (List ℕ) → Option (List (List ℕ)) → Option (List (List ℕ))
with_text None rest = None
with_text (Some text) None = None
with_text (Some text) (Some rest) = Some (text ∷ rest)

-- The texts of some values, if each is a text.
abbrev pub strings_of : Items → Option (List (List ℕ))
strings_of no_items = Some []
strings_of (item value rest) = with_text (as_str value) (strings_of rest)

abbrev pub AreTexts : Items → List Lent → Type 0
AreTexts items ts = strings_of items ≡ Some (texts ts)

-- Each of the values is the text of a pattern.
abbrev pub PatternsIn : Items → List Pattern → Type 0
PatternsIn items ps = (ts : List Lent) × AreTexts items ts × ArePatterns ts ps

-- One of the values is not a text, or is a text that is not a pattern.
abbrev pub NoPatternsIn : Items → Type 0
NoPatternsIn items = (strings_of items ≡ None) ⊎ ((ts : List Lent) × (n : ℕ) × AreTexts items ts × FirstBad ts n)

-- The value is a list of these patterns. Without the key there are none.
pub data Excludes (d : Option Data) (ps : List Pattern) : Type 0 where
  no_key : d ≡ None → ps ≡ [] → Excludes d ps
  pattern_list : {value : Data} {items : Items} → d ≡ Some value → as_array value ≡ Some items → PatternsIn items ps
      → Excludes d ps

-- The value is not an array, or one of its items is not a pattern.
pub data IsNoList (d : Option Data) : Type 0 where
  no_array : {value : Data} → d ≡ Some value → as_array value ≡ None → IsNoList d
  no_pattern : {value : Data} {items : Items} → d ≡ Some value → as_array value ≡ Some items → NoPatternsIn items
      → IsNoList d
