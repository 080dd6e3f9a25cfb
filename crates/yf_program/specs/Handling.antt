-- What the settings of a document say of it, for the editor server.
use Rattle.std.specs.Prelude.{◌≡◌, ◌≢◌, ◌⊎◌, ◌++◌, ◌||◌, ℕ, Bool, true, false, List, [], Option, unwrap_or, MatchBool, codes}
use Rattle.std.specs.Str.{IsUtf8}
use Rattle.percent_encoding.specs.Percent.{percent_decode}
use Rattle.yf_command_line.specs.declared.build.TheConstants.{VERSION}
use Rattle.yf_discovery.specs.Nearest.{IsNearestTo}
use Rattle.yf_discovery.specs.declared.nearest.Discovery.TheVariants as discovery
use Rattle.yf_excludes.specs.Located.{ExcludesFile}
use Rattle.yf_excludes.specs.Segments.{begins}
use Rattle.yf_excludes.specs.Signs.{SLASH}
use Rattle.yf_forms.specs.declared.style.Style.{Style}
use Rattle.yf_host.specs.World.{InputClaim}
use Rattle.yf_lines.specs.declared.fault.Fault.{Fault}
use Rattle.yf_lines.specs.declared.fault.Fault.TheVariants as fault
use Rattle.yf_program.specs.Settings.{Excludes, found}
use Rattle.yf_program.specs.SettingsFile.{SettingsOfFile, Unset}
use Rattle.yf_program.specs.declared.handling.Handling.{Handling}
use Rattle.yf_program.specs.declared.handling.Handling.TheVariants as handling
use Rattle.yf_program.specs.declared.scope.Scope.{Scope}
use Rattle.yf_settings.specs.Texts.{allows}
use Rattle.yf_settings.specs.declared.file_settings.FileSettings.{FileSettings}
use Rattle.yf_settings.specs.declared.texts.Required.{Required}
use Rattle.yf_settings.specs.declared.texts.Required.TheVariants as required

-- ---- The path of a document

-- The URI is not that of a file.
abbrev pub IsNoFile : List ℕ → Type 0
IsNoFile uri = (encoded : List ℕ) → uri ≡ codes "file://" ++ encoded → ⊥

-- The text without its escapes, which is UTF-8.
abbrev pub IsDecoded : List ℕ → List ℕ → Type 0
IsDecoded encoded text = (text ≡ percent_decode encoded) × IsUtf8 text

-- The path of the file with a URI. It begins at the root.
abbrev pub IsPath : List ℕ → List ℕ → Type 0
IsPath uri path = (encoded : List ℕ) × (uri ≡ codes "file://" ++ encoded) × IsDecoded encoded path
    × (begins SLASH path ≡ true)

abbrev pub HasNoPath : List ℕ → Type 0
HasNoPath uri = (path : List ℕ) → ¬ (IsPath uri path)

-- ---- What settings say of a file

-- Why settings can't be used, in words: the name of their file, and what is wrong.
abbrev pub said : List ℕ → List ℕ → List ℕ → List ℕ
said name what more = name ++ what ++ more

abbrev pub unset_words : List ℕ → Fault → List ℕ
unset_words name (fault.Config key) = said name (codes ": config: ") key
unset_words name _ = said name (codes ": read failed") []

abbrev pub text_of : Required → List ℕ
text_of required.Any = []
text_of (required.Versions r) = r.text

abbrev pub version_words : List ℕ → Required → List ℕ
version_words name needs = said name (codes ": required_version: the settings require yamlfmt ") (text_of needs)

abbrev pub is_memory : Fault → Bool
is_memory fault.Memory = true
is_memory _ = false

-- The file is left out; or it is formatted and checked in this style. (IsOut: whether it is left out)
abbrev pub HandlesAs : Type 0 → Style → Bool → Handling → Type 0
HandlesAs IsOut style any_text (handling.Taken own any) = (¬ IsOut) × (own ≡ style) × (any ≡ any_text)
HandlesAs IsOut style any_text handling.LeftOut = IsOut
HandlesAs IsOut style any_text (handling.Unset words) = ⊥

-- These settings leave the file with a path out, or take it, unless they require another version of the program.
-- (config: the name of their file; asks: whether the command line asks for texts that are no data)
abbrev pub HandlesBy : Option (List ℕ) → FileSettings → Bool → List ℕ → Handling → Type 0
HandlesBy config settings asks path h = MatchBool (allows settings.required VERSION.now)
    (HandlesAs (ExcludesFile settings.exclude.items [] (unwrap_or config []) path) settings.style
    (asks || settings.any_text) h)
    (h ≡ handling.Unset (version_words (unwrap_or config []) settings.required))

-- That is done with the settings of this file; or the file can't be read, or is refused.
abbrev pub HandlesWith : InputClaim → Option (List ℕ) → Bool → List ℕ → Handling → Type 0
HandlesWith claim config asks path h =
    ((f : Fault) × (f ≢ fault.Memory) × Unset claim config f
    × (h ≡ handling.Unset (unset_words (unwrap_or config []) f)))
    ⊎ ((settings : FileSettings) × SettingsOfFile claim config settings × HandlesBy config settings asks path h)

-- The settings are those of the nearest settings file in the folder of the file with a path, or above it. Without one
-- they are the defaults.
abbrev pub HandlesNear : InputClaim → Bool → List ℕ → Handling → Type 0
HandlesNear claim asks path h =
    ((name : List ℕ) × IsNearestTo claim.shows path (discovery.Fault name)
    × (h ≡ handling.Unset (unset_words name fault.ReadFailed)))
    ⊎ ((config : Option (List ℕ)) × IsNearestTo claim.shows path (found config) × HandlesWith claim config asks path h)

-- ---- What is done with a document

-- What its settings say of the document with a URI: the nearest ones if the search decided at the start, and otherwise
-- those of the start. A document without a path has those of the start, and is not left out.
abbrev pub IsHandled : InputClaim → Scope → Style → List ℕ → Handling → Type 0
IsHandled claim scope style uri h = (HasNoPath uri × (h ≡ handling.Taken style scope.any_text))
    ⊎ ((path : List ℕ) × IsPath uri path × MatchBool scope.is_nearest (HandlesNear claim scope.asks_any_text path h)
    (HandlesAs (Excludes scope path) style scope.any_text h))
