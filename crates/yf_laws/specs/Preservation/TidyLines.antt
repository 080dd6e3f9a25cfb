-- The lines of a formatted text.
use Rattle.std.specs.Prelude.{◌≡◌, ℕ, ◌*◌, ◌≤◌, suc, true, false, if◌then◌else◌, List, [], ◌∷◌, ◌++◌, encode_utf8, flat_map, replicate}
use Rattle.yf_chars.specs.Class.{is_ns_char, is_white}
use Rattle.yf_chars.specs.Text.{last_or}
use Rattle.yf_lines.specs.LineText.{IsLineText}
use Rattle.yf_events.specs.Event.{EventValue, EventInText, scalar_node}
use Rattle.yf_events.specs.declared.event.ScalarStyle.{ScalarStyle}
use Rattle.yf_events.specs.declared.lists.Lists.{Lists}
use Rattle.yf_stream.specs.ReadingOf.{ReadingOf}
use Rattle.yf_forms.specs.declared.style.Style.{Style}
use Rattle.yf_forms.specs.Nodes.BlockLines.{block_lines, header_text}
use Rattle.yf_laws.specs.Layouts.Decorated.{body_then}
use Rattle.yf_laws.specs.Layouts.FitDocuments.{tall_documents}
use Rattle.yf_laws.specs.Layouts.ReadableTrees.{is_block_style}
use Rattle.yf_laws.specs.Preservation.Tokens.{IsToken, TabsWithin}

-- a literal or folded scalar, with its lines if it is folded
pub record BlockScalar : Type 0 where
  pub style : ScalarStyle
  pub text : List ℕ
  pub lines : List (List ℕ)

abbrev pub block_scalar_of : EventValue → List (List ℕ) → List BlockScalar
block_scalar_of (scalar_node props style text) lines = if is_block_style style then record { style = style; text = text; lines = lines } ∷ [] else []
block_scalar_of e lines = []

-- the block scalars among events, in order
abbrev pub block_scalars : List EventInText → List BlockScalar
block_scalars es = flat_map (λ (e : EventInText). block_scalar_of e.event e.folded) es

-- a text that begins with a visible character and doesn't end with a space or tab
pub record IsStripped (x : List ℕ) : Type 0 where
  pub char : ℕ
  pub follows : List ℕ
  pub visible : is_ns_char char ≡ true
  pub is : x ≡ encode_utf8 char ++ follows
  pub ends : is_white (last_or 0 x) ≡ false

-- nothing, or a comment after two spaces
pub data CommentAfter : List ℕ → Type 0 where
  no_comment_after : CommentAfter []
  comment_after : {x : List ℕ} → CommentAfter (32 ∷ 32 ∷ 35 ∷ x)

-- a line's text ends with that header, or with that header and a comment
pub record EndsWithHeader (header x : List ℕ) : Type 0 where
  pub before : List ℕ
  pub after : List ℕ
  pub is : x ≡ before ++ (header ++ after)
  pub comment : CommentAfter after

-- Blank lines have no character. Each other line is indented only by spaces, in a multiple of the style's indentation
-- up to the limit, ends with no white space, and has tabs only in tokens and in a comment. Exempt are the lines of
-- these block scalars: those of each, in this order and each once, are together at such a column, with their own white
-- space, directly below the line that ends with its header.
pub data TidyLines (indent limit : ℕ) (Token : List ℕ → Type 0) : List BlockScalar → List (List ℕ) → Type 0 where
  no_more_lines : TidyLines indent limit Token [] []
  a_blank_line : {bs : List BlockScalar} {xs : List (List ℕ)} → TidyLines indent limit Token bs xs → TidyLines indent limit Token bs ([] ∷ xs)
  a_text_line : {bs : List BlockScalar} {x : List ℕ} {xs : List (List ℕ)} (n : ℕ) → n ≤ limit → IsStripped x → TabsWithin Token x → TidyLines indent limit Token bs xs
      → TidyLines indent limit Token bs ((replicate (n * indent) 32 ++ x) ∷ xs)
  scalar_lines : {b : BlockScalar} {bs : List BlockScalar} {x : List ℕ} {xs : List (List ℕ)} (n m : ℕ) → n ≤ limit → m ≤ limit → IsStripped x → TabsWithin Token x
      → EndsWithHeader (header_text b.style indent b.text) x → TidyLines indent limit Token bs xs
      → TidyLines indent limit Token (b ∷ bs) ((replicate (n * indent) 32 ++ x) ∷ (block_lines b.style (m * indent) b.text b.lines ++ xs))

-- each is a text within a line: printable characters and tabs, no break, no byte order mark
pub data LineTexts : List (List ℕ) → Type 0 where
  no_text : LineTexts []
  one_text : {x : List ℕ} {xs : List (List ℕ)} → IsLineText x → LineTexts xs → LineTexts (x ∷ xs)

pub record IsTidyText (s : Style) (u : List ℕ) : Type 0 where
  pub lines : List (List ℕ)
  -- a line feed ends each, and they have no other break
  pub is : u ≡ body_then lines []
  pub texts : LineTexts lines
  -- no line is indented further than the number of collections open at once, plus one, times the style's indentation
  pub tidy : (q : Lists) (b : ReadingOf u q) → TidyLines s.indent (suc (tall_documents b.trees)) (IsToken q) (block_scalars q.events) lines
