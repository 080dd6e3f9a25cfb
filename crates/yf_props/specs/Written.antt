-- The form of names, tags and properties, and their text on a line: the anchor comes before the tag.
use Rattle.std.specs.Prelude.{◌≡◌, ◌≢◌, ℕ, ◌+◌, Bool, true, List, [], ◌∷◌, ◌++◌, length, Option, Some, None, encode_utf8_all}
use Rattle.yf_chars.specs.Signs.{AMPERSAND, ASTERISK, EXCLAMATION, GREATER, LESS, PERCENT, SPACE}
use Rattle.yf_chars.specs.Class.{is_anchor_char, is_hex_digit, is_tag_char, is_uri_char, is_word_char}
use Rattle.yf_props.specs.Names.{PropertiesValue}
use Rattle.yf_props.specs.Props.{PropsValue, TagValue}
use Rattle.yf_props.specs.Props.TagValue.{IsVerbatim, IsShort, IsNonSpecific}

-- each character is in the class
abbrev pub AllOf : (ℕ → Bool) → List ℕ → Type 0
AllOf p [] = Unit {0}
AllOf p (c ∷ cs) = (p c ≡ true) × AllOf p cs

-- the bytes of a name: one or more anchor characters
pub record IsName (x : List ℕ) : Type 0 where
  pub chars : List ℕ
  pub bytes : encode_utf8_all chars ≡ x
  pub each : AllOf is_anchor_char chars
  pub some : chars ≢ []

-- characters of the class, and each % with two hexadecimal digits
pub data IsSpelled (p : ℕ → Bool) : List ℕ → Type 0 where
  nothing_spelled : IsSpelled p []
  itself_spelled : {c : ℕ} {x : List ℕ} → p c ≡ true → IsSpelled p x → IsSpelled p (c ∷ x)
  escape_spelled : {a b : ℕ} {x : List ℕ} → is_hex_digit a ≡ true → is_hex_digit b ≡ true → IsSpelled p x → IsSpelled p (PERCENT ∷ a ∷ b ∷ x)

-- a handle: !, !! or word characters between two !
pub data IsHandle : List ℕ → Type 0 where
  primary_form : IsHandle (EXCLAMATION ∷ [])
  secondary_form : IsHandle (EXCLAMATION ∷ EXCLAMATION ∷ [])
  named_form : {x : List ℕ} → AllOf is_word_char x → x ≢ [] → IsHandle (EXCLAMATION ∷ (x ++ EXCLAMATION ∷ []))

pub data IsTag : TagValue → Type 0 where
  verbatim_form : {x : List ℕ} → IsSpelled is_uri_char x → x ≢ [] → IsTag (IsVerbatim x)
  short_form : {h x : List ℕ} → IsHandle h → IsSpelled is_tag_char x → x ≢ [] → IsTag (IsShort h x)
  lone_form : IsTag IsNonSpecific

-- properties with a well-formed name and tag, if these are present
pub record IsProps (p : PropsValue) : Type 0 where
  pub anchor : (name : List ℕ) → p.anchor ≡ Some name → IsName name
  pub tag : (v : TagValue) → p.tag ≡ Some v → IsTag v

-- the bytes of each
abbrev pub alias_bytes : List ℕ → List ℕ
alias_bytes name = ASTERISK ∷ name

abbrev pub anchor_bytes : List ℕ → List ℕ
anchor_bytes name = AMPERSAND ∷ name

abbrev pub tag_bytes : TagValue → List ℕ
tag_bytes (IsVerbatim text) = EXCLAMATION ∷ LESS ∷ (text ++ GREATER ∷ [])
tag_bytes (IsShort handle suffix) = handle ++ suffix
tag_bytes IsNonSpecific = EXCLAMATION ∷ []

abbrev pub parts_bytes : Option (List ℕ) → Option TagValue → List ℕ
parts_bytes None None = []
parts_bytes None (Some v) = tag_bytes v
parts_bytes (Some name) None = anchor_bytes name
parts_bytes (Some name) (Some v) = anchor_bytes name ++ (SPACE ∷ tag_bytes v)

abbrev pub props_bytes : PropsValue → List ℕ
props_bytes p = parts_bytes p.anchor p.tag

-- the offset of the tag in properties that are written at the offset q
abbrev pub tag_offset_at : ℕ → Option (List ℕ) → Option TagValue → Option ℕ
tag_offset_at q anchor None = None
tag_offset_at q None (Some v) = Some q
tag_offset_at q (Some name) (Some v) = Some (q + length (anchor_bytes name) + 1)

abbrev pub props_at : ℕ → PropsValue → PropertiesValue
props_at q p = record { props = p; tag_offset = tag_offset_at q p.anchor p.tag; comments = [] }
