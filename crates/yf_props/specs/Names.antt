-- Aliases, anchors, tags and node properties (YAML 1.2.2, 5.6, 6.8.2, 6.9 and 7.1), as relations between byte offsets
-- of a text t. A name includes all characters that may be in it. n is an indentation, from -1; c is a context.
use Rattle.std.specs.Prelude.{◌≡◌, ℕ, ◌+◌, ◌<◌, ℤ, Bool, true, List, [], ◌∷◌, ◌++◌, Option, Some, None, slice_range}
use Rattle.yf_chars.specs.Signs.{AMPERSAND, ASTERISK, EXCLAMATION, GREATER, LESS, PERCENT}
use Rattle.yf_chars.specs.declared.context.Ctx.{Ctx}
use Rattle.yf_chars.specs.Text.{code, next}
use Rattle.yf_chars.specs.Class.{is_anchor_char, is_hex_digit, is_tag_char, is_uri_char, is_word_char}
use Rattle.yf_chars.specs.Chain.{Chain, One, Stuck}
use Rattle.yf_comments.specs.Comment.{CommentValue}
use Rattle.yf_comments.specs.Comments.{Separate}
use Rattle.yf_props.specs.Props.{PropsValue, TagValue}
use Rattle.yf_props.specs.Props.TagValue.{IsVerbatim, IsShort, IsNonSpecific}

-- a character of a class, or % and two hexadecimal digits
pub data SpelledChar (t : List ℕ) (p : ℕ → Bool) : ℕ → ℕ → List ℕ → Type 0 where
  as_itself : {i : ℕ} → p (code t i) ≡ true → SpelledChar t p i (next t i) (code t i ∷ [])
  as_escape : {i : ℕ} → code t i ≡ PERCENT → is_hex_digit (code t (i + 1)) ≡ true → is_hex_digit (code t (i + 2)) ≡ true
      → SpelledChar t p i (i + 3) (PERCENT ∷ code t (i + 1) ∷ code t (i + 2) ∷ [])

-- ns-anchor-char, ns-word-char, ns-uri-char and ns-tag-char
abbrev pub AnchorChar : List ℕ → ℕ → ℕ → List ℕ → Type 0
AnchorChar t = One t is_anchor_char

abbrev pub WordChar : List ℕ → ℕ → ℕ → List ℕ → Type 0
WordChar t = One t is_word_char

abbrev pub UriChar : List ℕ → ℕ → ℕ → List ℕ → Type 0
UriChar t = SpelledChar t is_uri_char

abbrev pub TagChar : List ℕ → ℕ → ℕ → List ℕ → Type 0
TagChar t = SpelledChar t is_tag_char

-- one or more characters, up to an offset at which none is
pub record Run (S : ℕ → ℕ → List ℕ → Type 0) (i j : ℕ) : Type 0 where
  pub characters : List ℕ
  pub chain : Chain S i j characters
  pub some : i < j
  pub all : Stuck (S j)

-- c-ns-anchor-property: & and a name, which is the meaning
pub data Anchor (t : List ℕ) : ℕ → ℕ → List ℕ → Type 0 where
  ampersand_name : {i j : ℕ} → code t i ≡ AMPERSAND → Run (AnchorChar t) (i + 1) j → Anchor t i j (slice_range t (i + 1) j)

-- c-ns-alias-node: * and a name, which is the meaning
pub data Alias (t : List ℕ) : ℕ → ℕ → List ℕ → Type 0 where
  asterisk_name : {i j : ℕ} → code t i ≡ ASTERISK → Run (AnchorChar t) (i + 1) j → Alias t i j (slice_range t (i + 1) j)

-- c-tag-handle: !, !! or a name between two !
pub data Handle (t : List ℕ) : ℕ → ℕ → Type 0 where
  primary_handle : {i : ℕ} → code t i ≡ EXCLAMATION → Handle t i (i + 1)
  secondary_handle : {i : ℕ} → code t i ≡ EXCLAMATION → code t (i + 1) ≡ EXCLAMATION → Handle t i (i + 2)
  named_handle : {i j : ℕ} → code t i ≡ EXCLAMATION → Run (WordChar t) (i + 1) j → code t j ≡ EXCLAMATION → Handle t i (j + 1)

-- ns-tag-prefix: a prefix of local tags, or of global tags
pub data TagPrefix (t : List ℕ) : ℕ → ℕ → List ℕ → Type 0 where
  local_prefix : {i j : ℕ} {x : List ℕ} → code t i ≡ EXCLAMATION → Chain (UriChar t) (i + 1) j x → TagPrefix t i j (EXCLAMATION ∷ x)
  global_prefix : {i k j : ℕ} {c x : List ℕ} → TagChar t i k c → Chain (UriChar t) k j x → TagPrefix t i j (c ++ x)

-- c-verbatim-tag; its meaning is the text between < and >
pub data VerbatimTag (t : List ℕ) : ℕ → ℕ → List ℕ → Type 0 where
  in_brackets : {i j : ℕ} → code t i ≡ EXCLAMATION → code t (i + 1) ≡ LESS → Run (UriChar t) (i + 2) j → code t j ≡ GREATER
      → VerbatimTag t i (j + 1) (slice_range t (i + 2) j)

-- c-ns-shorthand-tag: a handle and a suffix
pub data ShorthandTag (t : List ℕ) : ℕ → ℕ → TagValue → Type 0 where
  handle_suffix : {i h j : ℕ} → Handle t i h → Run (TagChar t) h j → ShorthandTag t i j (IsShort (slice_range t i h) (slice_range t h j))

-- c-ns-tag-property; no character of a suffix follows a non-specific ! (c-non-specific-tag)
pub data TagProperty (t : List ℕ) : ℕ → ℕ → TagValue → Type 0 where
  verbatim_tag : {i j : ℕ} {text : List ℕ} → VerbatimTag t i j text → TagProperty t i j (IsVerbatim text)
  shorthand_tag : {i j : ℕ} {tag : TagValue} → ShorthandTag t i j tag → TagProperty t i j tag
  non_specific_tag : {i : ℕ} → code t i ≡ EXCLAMATION → Stuck (TagChar t (i + 1)) → TagProperty t i (i + 1) IsNonSpecific

-- the meaning of properties: the properties, the offset of the tag's !, and the comments between tag and anchor
pub record PropertiesValue : Type 0 where
  pub props : PropsValue
  pub tag_offset : Option ℕ
  pub comments : List CommentValue

-- properties of each kind; the tag is at the offset
abbrev pub tag_only : ℕ → TagValue → PropertiesValue
tag_only i tag = record { props = record { anchor = None; tag = Some tag }; tag_offset = Some i; comments = [] }

abbrev pub anchor_only : List ℕ → PropertiesValue
anchor_only name = record { props = record { anchor = Some name; tag = None }; tag_offset = None; comments = [] }

abbrev pub tag_with_anchor : ℕ → TagValue → List ℕ → List CommentValue → PropertiesValue
tag_with_anchor i tag name x = record { props = record { anchor = Some name; tag = Some tag }; tag_offset = Some i; comments = x }

-- c-ns-properties(n,c): a tag, an anchor, or both in either order with separation between them
pub data Properties (t : List ℕ) (n : ℤ) (c : Ctx) : ℕ → ℕ → PropertiesValue → Type 0 where
  by_tag : {i j : ℕ} {tag : TagValue} → TagProperty t i j tag → Properties t n c i j (tag_only i tag)
  by_anchor : {i j : ℕ} {name : List ℕ} → Anchor t i j name → Properties t n c i j (anchor_only name)
  tag_first : {i h k j : ℕ} {tag : TagValue} {x : List CommentValue} {name : List ℕ}
      → TagProperty t i h tag → Separate t n c h k x → Anchor t k j name → Properties t n c i j (tag_with_anchor i tag name x)
  anchor_first : {i h k j : ℕ} {name : List ℕ} {x : List CommentValue} {tag : TagValue}
      → Anchor t i h name → Separate t n c h k x → TagProperty t k j tag → Properties t n c i j (tag_with_anchor k tag name x)
