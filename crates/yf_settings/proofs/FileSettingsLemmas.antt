-- The settings that a table has, and why a table is refused.
use Rattle.std.proofs.Common.{◌≡◌, ◌≢◌, ◌⊎◌, ℕ, Bool, true, false, List, [], Option, Some, None, inl, inr, refl, sym, subst, ap, ◌∙◌}
use Rattle.std.specs.Prelude.{codes, IsSomeAnd, MatchOption, MatchResult, Result, Ok, Err}
use Rattle.std.proofs.lemmas.Option.{same_Some}
use Rattle.toml.specs.Data.{Members, no_members, get_member}
use Rattle.toml.specs.Errors.{IsBlank}
use Rattle.toml.specs.Parse.{parse_document, lines}
use Rattle.yf_lines.specs.declared.fault.Fault.{Fault}
use Rattle.yf_lines.specs.declared.fault.Fault.TheVariants.{NotUtf8, Syntax, TooDeep, UnknownHandle, UnknownAlias, RepeatedDirective, BadVersion, EscapeValue, Memory, ReadFailed, WriteFailed, Config}
use Rattle.yf_excludes.specs.declared.pattern.Pattern.{Pattern}
use Rattle.yf_settings.specs.FileSettings.{HasSettings, KeepsSettings, RefusesKey, RefusesFile, RefusesTable, TextsAreRight}
use Rattle.yf_settings.specs.declared.file_settings.FileSettings.{FileSettings}
use Rattle.yf_settings.specs.declared.texts.Required.{Required}
use Rattle.yf_settings.specs.Settings.{IsLeastWrong, IsRight, IsWrong, RefusesSettings}
use Rattle.yf_settings.specs.Texts.{Excludes, IsNoList, no_array, no_pattern, IsNoRequirement, no_string, no_versions, Requires}

-- A text without a key has the empty table.
blank_is_empty : (text : List ℕ) → IsBlank text → parse_document text ≡ Some no_members
unfolding parse_document lines
blank_is_empty text blank = rw blank refl

-- A table with a key is not empty.
pub not_empty : (table : Members) (key : List ℕ) → get_member key table ≢ None → table ≢ no_members
not_empty table key some none = some (ap (λ t. get_member key t) none)

least_is_there : (version patterns : Bool) (table : Members) (key : List ℕ)
    → IsLeastWrong version patterns table key → table ≢ no_members
least_is_there version patterns table key least none =
    let found : None ≡ Some least.wrong.0 = subst (λ t. get_member key t ≡ Some least.wrong.0) none least.wrong.1 in
    cc

-- The fault names the least wrong key, or memory was refused.
pub refuses_key : (version patterns : Bool) (table : Members) (key : List ℕ) (fault : Fault)
    → TextsAreRight table version patterns → IsLeastWrong version patterns table key
    → (fault ≡ Config key) ⊎ (fault ≡ Memory) → RefusesTable table fault
refuses_key version patterns table key fault texts least (inl e) = subst (λ f. RefusesTable table f) (sym e) (record {
  version = version;
  patterns = patterns;
  texts = texts;
  least = least;
})
refuses_key version patterns table key fault texts least (inr e) =
    subst (λ f. RefusesTable table f) (sym e) (least_is_there version patterns table key least)

-- A text is refused for the same fault as its table.
pub refuses_text : (text : List ℕ) (table : Members) (fault : Fault) → parse_document text ≡ Some table
    → RefusesTable table fault → RefusesFile text fault
refuses_text text table (Config key) read refused =
    subst (λ o. MatchOption o (key ≡ []) (λ t. RefusesKey t key)) (sym read) refused
refuses_text text table Memory read refused = λ blank. refused (same_Some _ _ (sym read ∙ blank_is_empty text blank))
refuses_text text table (NotUtf8 offset) read refused = absurd refused
refuses_text text table (Syntax place what) read refused = absurd refused
refuses_text text table (TooDeep place) read refused = absurd refused
refuses_text text table (UnknownHandle place) read refused = absurd refused
refuses_text text table (UnknownAlias place) read refused = absurd refused
refuses_text text table (RepeatedDirective place) read refused = absurd refused
refuses_text text table (BadVersion place) read refused = absurd refused
refuses_text text table (EscapeValue place) read refused = absurd refused
refuses_text text table ReadFailed read refused = absurd refused
refuses_text text table WriteFailed read refused = absurd refused

-- The fault of a text that sets no style.
pub refuses_style : (text : List ℕ) (table : Members) (key : List ℕ) (fault : Fault)
    → parse_document text ≡ Some table → IsLeastWrong false false table key
    → (fault ≡ Config key) ⊎ (fault ≡ Memory) → RefusesSettings text fault
refuses_style text table key fault read least (inl e) = rw (e, read) least
refuses_style text table key fault read least (inr e) = rw e (λ blank.
    least_is_there false false table key least (same_Some _ _ (sym read ∙ blank_is_empty text blank)))

-- A value that is no requirement, or no list of patterns, is wrong.
pub wrong_version : (patterns : Bool) (table : Members) → IsNoRequirement (get_member (codes "required_version") table)
    → (key : List ℕ) × IsWrong false patterns table key
wrong_version patterns table (no_string {value = value} found bad) = (codes "required_version", (value, found, refl))
wrong_version patterns table (no_versions {value = value} found text bad) = (
  codes "required_version",
  (
    value,
    found,
    refl,
  ),
)

pub wrong_patterns : (version : Bool) (table : Members) → IsNoList (get_member (codes "exclude") table)
    → (key : List ℕ) × IsWrong version false table key
wrong_patterns version table (no_array {value = value} found bad) = (codes "exclude", (value, found, refl))
wrong_patterns version table (no_pattern {value = value} found items bad) = (codes "exclude", (value, found, refl))

-- If all keys are right, none is wrong.
pub none_wrong : (version patterns : Bool) (table : Members) → ((key : List ℕ) × IsWrong version patterns table key)
    → ((key : List ℕ) → IsRight version patterns table key) → ⊥
none_wrong version patterns table w right =
    let both : true ≡ false = sym (right w.0 w.1.0 w.1.1) ∙ w.1.2 in cc

-- A text has the settings of its table, or is refused for the table's fault.
pub text_settings : (text : List ℕ) (table : Members) (r : Result FileSettings Fault)
    → parse_document text ≡ Some table → MatchResult r (KeepsSettings table) (RefusesTable table)
    → MatchResult r (HasSettings text) (RefusesFile text)
text_settings text table (Ok settings) read has =
    subst (λ o. IsSomeAnd o (λ t. KeepsSettings t settings)) (sym read) has
text_settings text table (Err fault) read refused = refuses_text text table fault read refused

-- The values of both keys, given what was read from them.
pub right_and_wrong : (table : Members) (r : Required) → Requires (get_member (codes "required_version") table) r
    → IsNoList (get_member (codes "exclude") table) → TextsAreRight table true false
right_and_wrong table r required bad = record { required = (r, required); exclude = bad }

pub wrong_and_right : (table : Members) (ps : List Pattern)
    → IsNoRequirement (get_member (codes "required_version") table)
    → Excludes (get_member (codes "exclude") table) ps → TextsAreRight table false true
wrong_and_right table ps bad exclude = record { required = bad; exclude = (ps, exclude) }

pub both_wrong : (table : Members) → IsNoRequirement (get_member (codes "required_version") table)
    → IsNoList (get_member (codes "exclude") table) → TextsAreRight table false false
both_wrong table bad worse = record { required = bad; exclude = worse }

pub both_right : (table : Members) (r : Required) (ps : List Pattern)
    → Requires (get_member (codes "required_version") table) r → Excludes (get_member (codes "exclude") table) ps
    → TextsAreRight table true true
both_right table r ps required exclude = record { required = (r, required); exclude = (ps, exclude) }
