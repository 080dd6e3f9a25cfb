-- Tables that are completed, and their settings.
use Rattle.std.proofs.Common.{Bor, ◌≡◌, ℕ, Bool, true, false, List, [], ◌∷◌, Option, Some, None, option_map, String, BTreeMap, Global, cond, string_bytes, refl, sym, subst, ap, ◌∙◌, ◌⊎◌, inl, inr}
use Rattle.std.specs.Prelude.{IsSomeAnd, codes, pos, if◌then◌else◌, is_some, unwrap_or, option_and_then}
use Rattle.std.specs.Option.{option_or}
use Rattle.std.specs.BTreeMap.{Updates, get_by_text}
use Rattle.std.specs.Str.{bytes_eq}
use Rattle.std.specs.String.{string_cmp}
use Rattle.std.proofs.lemmas.Map.Text.{btree_map_updates_text}
use Rattle.std.proofs.lemmas.Option.{same_Some}
use Rattle.std.proofs.lemmas.Slice.Eq.{bytes_eq-Decides}
use Rattle.toml.specs.Data.{Data, string, integer, boolean, Members, no_members, get_member}
use Rattle.toml.specs.View.{table_view, view}
use Rattle.toml.specs.declared.value.Value.{Value}
use Rattle.toml.proofs.Views.{view-lookup}
use Rattle.toml.specs.Parse.{parse_document}
use Rattle.toml.specs.Text.{IsDocumentText}
use Rattle.yf_forms.specs.declared.style.CommentColumns.TheVariants.{Next}
use Rattle.yf_forms.specs.declared.style.DocumentStart.TheVariants.{Always}
use Rattle.yf_forms.specs.declared.style.Style.{Style}
use Rattle.yf_lines.specs.declared.invisible.Invisible.TheVariants.{Plain}
use Rattle.yf_lines.specs.declared.quotes.Quotes.TheVariants.{Double}
use Rattle.yf_settings.specs.FileSettings.{AreDefaults, HasSettings, KeepsSettings, SettingsOfTable}
use Rattle.yf_settings.specs.Page.{Completes, SetsAll, ShowsSettings, house_values, value_in}
use Rattle.yf_settings.specs.Settings.{IsHouse, IsRight, StyleOfTable, any_text_of, comments_of, document_start_of, indent_of, invisible_of, is_right, max_line_of, quotes_of, seq_indent_of, setting}
use Rattle.yf_settings.specs.Texts.{Excludes, Requires, no_key}
use Rattle.yf_settings.specs.declared.file_settings.FileSettings.{FileSettings}

-- ---- One key

abbrev Map : Type 0
Map = BTreeMap (String Global) Value

mapped : (b : Bool) (v : Value) (o : Option Value) (d : Option Data) → option_map view o ≡ d
    → option_map view (cond b (Some v) o) ≡ (if b then Some (view v) else d)
mapped true v o d e = refl
mapped false v o d e = e

-- What a key holds after an insert.
pub after_insert : (m n : Map) (k : String Global) (v : Value) → Updates string_cmp m n k (Some v) → (key : List ℕ)
    → get_member key (table_view n) ≡ (if bytes_eq (string_bytes k) key then Some (view v) else get_member key (table_view m))
after_insert m n k v updates key =
    sym (view-lookup key n.entries)
    ∙ (ap (option_map view) (btree_map_updates_text (string_bytes k) m n (Some v) updates key)
    ∙ mapped (bytes_eq (string_bytes k) key) v (get_by_text m key) _ (view-lookup key m.entries))

some_or : (o p : Option Data) → is_some o ≡ true → o ≡ option_or o p
some_or (Some d) p h = refl
some_or None p h = cc

or_none : (o : Option Data) → option_or o None ≡ o
or_none (Some d) = refl
or_none None = refl

-- A table that has the key stays.
pub has_key : (name : List ℕ) (value : Data) (table : Members) → is_some (get_member name table) ≡ true
    → Completes ((name, value) ∷ []) table table
has_key name value table has key = kept (bytes_eq name key) refl
  where
    kept : (b : Bool) → b ≡ bytes_eq name key → get_member key table ≡ option_or (get_member key table) (if b then Some value else None)
    kept true e = some_or (get_member key table) (Some value) (subst (λ k. is_some (get_member k table) ≡ true) ((bytes_eq-Decides name key).0 (sym e)) has)
    kept false e = sym (or_none (get_member key table))

or_new : (o : Option Data) (d : Data) → is_some o ≡ false → Some d ≡ option_or o (Some d)
or_new (Some e) d h = cc
or_new None d h = refl

-- A table gets a key that it doesn't have.
pub gets_key : (name : List ℕ) (value : Data) (before after : Members) → is_some (get_member name before) ≡ false
    → ((key : List ℕ) → get_member key after ≡ (if bytes_eq name key then Some value else get_member key before))
    → Completes ((name, value) ∷ []) before after
gets_key name value before after none is key = is key ∙ got (bytes_eq name key) refl
  where
    got : (b : Bool) → b ≡ bytes_eq name key
        → (if b then Some value else get_member key before) ≡ option_or (get_member key before) (if b then Some value else None)
    got true e = or_new (get_member key before) value (subst (λ k. is_some (get_member k before) ≡ false) ((bytes_eq-Decides name key).0 (sym e)) none)
    got false e = sym (or_none (get_member key before))

-- ---- Several keys

or_twice : (o : Option Data) (d : Data) → option_or (option_or o None) (Some d) ≡ option_or o (Some d)
or_twice (Some e) d = refl
or_twice None d = refl

-- One more key.
pub one_more : (vs : List (List ℕ × Data)) (name : List ℕ) (value : Data) (first second third : Members)
    → Completes vs first second → Completes ((name, value) ∷ []) second third → value_in vs name ≡ None
    → Completes ((name, value) ∷ vs) first third
one_more vs name value first second third one two new key =
    two key ∙ (ap (λ o. option_or o (value_in ((name, value) ∷ []) key)) (one key) ∙ joined (bytes_eq name key) refl)
  where
    joined : (b : Bool) → b ≡ bytes_eq name key
        → option_or (option_or (get_member key first) (value_in vs key)) (if b then Some value else None) ≡ option_or (get_member key first) (if b then Some value else value_in vs key)
    joined true e =
        let none : value_in vs key ≡ None = subst (λ k. value_in vs k ≡ None) ((bytes_eq-Decides name key).0 (sym e)) new in
        rw none (or_twice (get_member key first) value)
    joined false e = or_none _

-- ---- What the settings are

defaulted : {X : Type 0} (read : Data → Option X) (house : X) (value : Data) (o : Option Data) → read value ≡ Some house
    → unwrap_or (option_and_then read (option_or o (Some value))) house ≡ unwrap_or (option_and_then read o) house
defaulted read house value (Some d) e = refl
defaulted read house value None e = rw e refl

-- A setting with a value of the list stays.
pub setting_stays : {X : Type 0} (read : Data → Option X) (key : List ℕ) (house : X) (value : Data)
    (vs : List (List ℕ × Data)) (before after : Members) → Completes vs before after → value_in vs key ≡ Some value
    → read value ≡ Some house → setting read key house after ≡ setting read key house before
setting_stays read key house value vs before after completes found e =
    rw (completes key, found) (defaulted read house value (get_member key before) e)

-- A key that is not in the list stays.
pub other_stays : (key : List ℕ) (vs : List (List ℕ × Data)) (before after : Members) → Completes vs before after
    → value_in vs key ≡ None → get_member key after ≡ get_member key before
other_stays key vs before after completes none = rw (completes key, none) (or_none (get_member key before))

or_some : (o : Option Data) (d : Data) → is_some (option_or o (Some d)) ≡ true
or_some (Some e) d = refl
or_some None d = refl

-- A key of the list is set.
pub is_set : (key : List ℕ) (value : Data) (vs : List (List ℕ × Data)) (before after : Members)
    → Completes vs before after → value_in vs key ≡ Some value → is_some (get_member key after) ≡ true
is_set key value vs before after completes found =
    rw (completes key, found) (or_some (get_member key before) value)

-- What holds of each pair of the list holds of a value that is found.
abbrev pub EachValue : (List ℕ → Data → Type 0) → List (List ℕ × Data) → Type 0
EachValue P [] = Unit {0}
EachValue P (v ∷ vs) = P v.0 v.1 × EachValue P vs

pub found_value : (P : List ℕ → Data → Type 0) (vs : List (List ℕ × Data)) (key : List ℕ) (value : Data)
    → EachValue P vs → value_in vs key ≡ Some value → P key value
found_value P [] key value each found = cc
found_value P (v ∷ vs) key value each found = at (bytes_eq v.0 key) refl (found_value P vs key value each.1) found
  where
    at : (b : Bool) → b ≡ bytes_eq v.0 key → (value_in vs key ≡ Some value → P key value)
        → (if b then Some v.1 else value_in vs key) ≡ Some value → P key value
    at true e later is = subst (λ d. P key d) (same_Some _ _ is) (subst (λ k. P k v.1) ((bytes_eq-Decides v.0 key).0 (sym e)) each.0)
    at false e later is = later is

-- A reference that is found shows whether the key is there.
pub is_some_map : (r : Option (Bor Value)) (o : Option Data) (b : Bool) → option_map (λ v. view v.now) r ≡ o → is_some r ≡ b
    → is_some o ≡ b
is_some_map None o b e is = rw (← e) is
is_some_map (Some v) o b e is = rw (← e) is

-- ---- The style's keys, from the last one

abbrev last_1 : List (List ℕ × Data)
last_1 = (codes "seq_indent", boolean true) ∷ []

abbrev last_2 : List (List ℕ × Data)
last_2 = (codes "quotes", string (codes "double")) ∷ last_1

abbrev last_3 : List (List ℕ × Data)
last_3 = (codes "max_line", integer (pos 100)) ∷ last_2

abbrev last_4 : List (List ℕ × Data)
last_4 = (codes "invisible", string (codes "plain")) ∷ last_3

abbrev last_5 : List (List ℕ × Data)
last_5 = (codes "indent", integer (pos 2)) ∷ last_4

abbrev last_6 : List (List ℕ × Data)
last_6 = (codes "document_start", string (codes "always")) ∷ last_5

module _ (first after_seq_indent after_quotes after_max_line after_invisible after_indent after_start after : Members) where
  -- Each key of the style was set.
  pub all_set : Completes last_1 first after_seq_indent
      → Completes ((codes "quotes", string (codes "double")) ∷ []) after_seq_indent after_quotes
      → Completes ((codes "max_line", integer (pos 100)) ∷ []) after_quotes after_max_line
      → Completes ((codes "invisible", string (codes "plain")) ∷ []) after_max_line after_invisible
      → Completes ((codes "indent", integer (pos 2)) ∷ []) after_invisible after_indent
      → Completes ((codes "document_start", string (codes "always")) ∷ []) after_indent after_start
      → Completes ((codes "comments", string (codes "next")) ∷ []) after_start after → Completes house_values first after
  all_set seq_indent quotes max_line invisible indent start comments =
      one_more last_6 (codes "comments") (string (codes "next")) first after_start after
      (one_more last_5 (codes "document_start") (string (codes "always")) first after_indent after_start
      (one_more last_4 (codes "indent") (integer (pos 2)) first after_invisible after_indent
      (one_more last_3 (codes "invisible") (string (codes "plain")) first after_max_line after_invisible
      (one_more last_2 (codes "max_line") (integer (pos 100)) first after_quotes after_max_line
      (one_more last_1 (codes "quotes") (string (codes "double")) first after_seq_indent after_quotes seq_indent quotes refl)
      max_line refl) invisible refl) indent refl) start refl) comments refl

-- ---- The settings stay

-- A pair of the list is right.
abbrev AreRight : List ℕ → Data → Type 0
AreRight key value = is_right true true key value ≡ true

house_is_right : (key : List ℕ) (value : Data) → value_in house_values key ≡ Some value → is_right true true key value ≡ true
house_is_right key value found =
    found_value AreRight house_values key value (refl, (refl, (refl, (refl, (refl, (refl, (refl, tt))))))) found

right_or : (o p : Option Data) (key : List ℕ) (value : Data) → ((d : Data) → o ≡ Some d → is_right true true key d ≡ true)
    → ((d : Data) → p ≡ Some d → is_right true true key d ≡ true) → option_or o p ≡ Some value
    → is_right true true key value ≡ true
right_or (Some d) p key value one two is = one value is
right_or None p key value one two is = two value is

module _ (before after : Members) (completes : Completes house_values before after) where
  right_after : (key : List ℕ) → IsRight true true before key → IsRight true true after key
  right_after key right value is =
      right_or (get_member key before) (value_in house_values key) key value (λ d e. right d e) (λ d e. house_is_right key d e)
      (sym (completes key) ∙ is)

  style_after : (style : Style) → StyleOfTable before style → StyleOfTable after style
  style_after style s = record {
    indent = s.indent ∙ sym (setting_stays indent_of (codes "indent") 2 (integer (pos 2)) house_values before after completes refl refl);
    max_line = s.max_line ∙ sym (setting_stays max_line_of (codes "max_line") 100 (integer (pos 100)) house_values before after completes refl refl);
    quotes = s.quotes ∙ sym (setting_stays quotes_of (codes "quotes") Double (string (codes "double")) house_values before after completes refl refl);
    seq_indent = s.seq_indent ∙ sym (setting_stays seq_indent_of (codes "seq_indent") true (boolean true) house_values before after completes refl refl);
    document_start = s.document_start ∙ sym (setting_stays document_start_of (codes "document_start") Always (string (codes "always")) house_values before after completes refl refl);
    comments = s.comments ∙ sym (setting_stays comments_of (codes "comments") Next (string (codes "next")) house_values before after completes refl refl);
    invisible = s.invisible ∙ sym (setting_stays invisible_of (codes "invisible") Plain (string (codes "plain")) house_values before after completes refl refl);
  }

  -- A table that is completed has the same settings, and sets each setting of the style.
  pub settings_after : (settings : FileSettings) (page : List ℕ) → SettingsOfTable before settings → IsDocumentText false after page
      → ShowsSettings settings page
  settings_after settings page has text = record {
    table = after;
    has = record {
      right = λ key. right_after key (has.right key);
      style = style_after settings.style has.style;
      required = subst (λ (o : Option Data). Requires o settings.required)
          (sym (other_stays (codes "required_version") house_values before after completes refl)) has.required;
      exclude = subst (λ (o : Option Data). Excludes o settings.exclude.items)
          (sym (other_stays (codes "exclude") house_values before after completes refl)) has.exclude;
      any_text = has.any_text ∙ ap (λ (o : Option Data). unwrap_or (option_and_then any_text_of o) false)
          (sym (other_stays (codes "any_text") house_values before after completes refl));
    };
    all = sets_all;
    text = text;
  }
    where
      set : (key : List ℕ) (value : Data) → value_in house_values key ≡ Some value → is_some (get_member key after) ≡ true
      set key value found = is_set key value house_values before after completes found

      sets_all : SetsAll after
      sets_all = rw (
        set (codes "comments") _ refl,
        set (codes "document_start") _ refl,
        set (codes "indent") _ refl,
        set (codes "invisible") _ refl,
        set (codes "max_line") _ refl,
        set (codes "quotes") _ refl,
        set (codes "seq_indent") _ refl,
      ) refl

-- ---- The settings that were read

-- The settings of a text are those of the table that they keep.
pub text_keeps : (text : List ℕ) (settings : FileSettings) → HasSettings text settings
    → SettingsOfTable (table_view settings.table) settings
text_keeps text settings h = kept (parse_document text) h
  where
    kept : (o : Option Members) → IsSomeAnd o (λ table. KeepsSettings table settings)
        → SettingsOfTable (table_view settings.table) settings
    kept (Some table) k = subst (λ t. SettingsOfTable t settings) (sym k.kept) k.has
    kept None k = absurd k

house_of_none : (style : Style) → IsHouse style → StyleOfTable no_members style
house_of_none style h = record {
  indent = h.indent;
  max_line = h.max_line;
  quotes = h.quotes;
  seq_indent = h.seq_indent;
  document_start = h.document_start;
  comments = h.comments;
  invisible = h.invisible;
}

defaults_of_none : (settings : FileSettings) → AreDefaults settings → SettingsOfTable no_members settings
defaults_of_none settings d = record {
  right = λ key value found. cc;
  style = house_of_none settings.style d.style;
  required = subst (λ r. Requires None r) (sym d.required) refl;
  exclude = no_key refl d.exclude;
  any_text = d.any_text;
}

-- The defaults are the settings of the empty table, which they keep.
pub defaults_keep : (settings : FileSettings) → AreDefaults settings → SettingsOfTable (table_view settings.table) settings
defaults_keep settings d = subst (λ t. SettingsOfTable t settings) (sym d.table) (defaults_of_none settings d)
