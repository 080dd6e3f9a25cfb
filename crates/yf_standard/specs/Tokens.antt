-- The comments, names, scalars and collections in a derivation by the standard's productions (6.6, 6.8.2, 6.9, 7 and
-- 8), in order of the text: a function of the derivation, by the name of each production and the meanings of its parts.
use Rattle.std.specs.Prelude.{ℕ, ◌+◌, ◌-◌, Bool, true, false, List, [], ◌∷◌, ◌++◌, Option, Some, None, codes, encode_utf8_all, length, slice_range}
use Rattle.yf_comments.specs.Comment.{CommentValue}
use Rattle.yf_props.specs.Props.{TagValue}
use Rattle.yf_props.specs.Props.{PropsValue, no_props}
use Rattle.yf_quoted.specs.Quoted.{text_of, bad_escapes}
use Rattle.yf_events.specs.Event.{EventValue, scalar_node, alias_node}
use Rattle.yf_grammar.specs.Productions.Meaning.{event_with, start_of, end_of}
use Rattle.yf_props.specs.Props.TagValue.{IsVerbatim, IsShort, IsNonSpecific}
use Rattle.yf_events.specs.declared.event.ScalarStyle.{ScalarStyle}
use Rattle.yf_events.specs.declared.event.ScalarStyle.TheVariants.{Plain, Single, Double, Literal, Folded}
use Rattle.yf_standard.specs.Notation.{Form, Condition}
use Rattle.yf_standard.specs.Notation.Form.{b-break, s-indent, s-indent-less-than, s-indent-less-or-equal, s-separate-in-line, l-empty, c-nb-comment-text, c-tag-handle, c-verbatim-tag, c-ns-shorthand-tag, c-non-specific-tag, c-ns-anchor-property, c-ns-alias-node, b-chomped-last, l-nb-literal-text, b-nb-literal-next, l-nb-diff-lines}
use Rattle.yf_standard.specs.Notation.Form.{l-directive, ns-yaml-directive, ns-tag-directive, ns-directive-name, ns-directive-parameter, ns-yaml-version, ns-tag-prefix, l-bare-document, l-explicit-document, e-scalar, c-double-quoted, c-single-quoted, ns-plain, c-flow-sequence, c-flow-mapping, ns-flow-pair, c-l+literal, c-l+folded, l+block-sequence, ns-l-compact-sequence, l+block-mapping, ns-l-compact-mapping}
use Rattle.yf_standard.specs.Literal.{Derived}
use Rattle.yf_standard.specs.Contents.{Mark, Making, meant, content, content_made, pieces}

-- a comment: its start, and its text
pub record Note : Type 0 where
  pub offset : ℕ
  pub text : List ℕ

-- what the tokens of a node state: its events, comments, the offsets of its tags, and of its escapes that write no
-- character
pub record Said : Type 0 where
  pub events : List EventValue
  -- each with its start
  pub comments : List Note
  pub tags : List ℕ
  pub escapes : List ℕ

abbrev pub with_event : EventValue → Said → Said
with_event e s = record s { events = e ∷ s.events }

-- a comment, its start and its text; an anchor's name; an alias and a tag, each with its start and its name; a tag's
-- handle; a scalar with its content; the start of a sequence (true) or a mapping, in flow style (true) or not, and its
-- end; a word of a directive; a directive, its start and its words; a document, whether `---` is written, and its
-- node's tokens
pub data Token : Type 0 where
  a_comment : ℕ → List ℕ → Token
  an_anchor : List ℕ → Token
  an_alias : ℕ → List ℕ → Token
  a_tag : ℕ → TagValue → Token
  a_handle : List ℕ → Token
  a_scalar : ScalarStyle → List Mark → Token
  starts : Bool → Bool → Token
  ends : Bool → Token
  a_word : List ℕ → Token
  a_directive : ℕ → List (List ℕ) → Token
  a_document : Bool → Said → Token

-- 6.9.1: a handle and the characters after it
unfoldable pub shorthand : List ℕ → ℕ → ℕ → List Token → TagValue
shorthand t i j (a_handle h ∷ x) = IsShort h (slice_range t (i + length h) j)
shorthand t i j x = IsNonSpecific

-- what tokens after these properties state
unfoldable pub said : PropsValue → List Token → Said
said p [] = record { events = []; comments = []; tags = []; escapes = [] }
said p (a_comment i text ∷ x) = let s = said p x in record s { comments = record { offset = i; text = text } ∷ s.comments }
-- 6.9: properties belong to the next node
said p (an_anchor name ∷ x) = said (record p { anchor = Some name }) x
said p (a_tag i tag ∷ x) = let s = said (record p { tag = Some tag }) x in record s { tags = i ∷ s.tags }
-- 7.1
said p (an_alias i name ∷ x) = with_event (alias_node name) (said no_props x)
-- 5.7: an escape that writes no character is U+FFFD
said p (a_scalar style y ∷ x) =
    let s = said no_props x in
    record s {
      events = scalar_node p style (encode_utf8_all (text_of (pieces y))) ∷ s.events;
      escapes = bad_escapes (pieces y) ++ s.escapes;
    }
said p (starts sequence flow ∷ x) = with_event (event_with p (start_of sequence flow)) (said no_props x)
said p (ends sequence ∷ x) = with_event (end_of sequence) (said no_props x)
said p (c ∷ x) = said p x

-- the comments among tokens
abbrev pub comments_among : List Token → List Token
comments_among [] = []
comments_among (a_comment i text ∷ x) = a_comment i text ∷ comments_among x
comments_among (c ∷ x) = comments_among x

-- the words among tokens, handles included
abbrev pub words_among : List Token → List (List ℕ)
words_among [] = []
words_among (a_word word ∷ x) = word ∷ words_among x
words_among (a_handle word ∷ x) = word ∷ words_among x
words_among (c ∷ x) = words_among x

-- 9.1.4: a document's node, or none, after `---`
unfoldable pub marked_document : List Token → List Token
marked_document (a_document marked s ∷ z) = a_document true s ∷ z
marked_document x = a_document true (said no_props x) ∷ []

-- y is the content of the derivation, and x has the tokens of its parts
unfoldable pub tokens_made : List ℕ → Form → ℕ → ℕ → List Mark → List Token → List Token
-- 5.4, 6.1, 6.2 and 6.4: breaks and white space have no tokens
tokens_made t b-break i j y x = []
tokens_made t (s-indent n) i j y x = []
tokens_made t (s-indent-less-than n) i j y x = []
tokens_made t (s-indent-less-or-equal n) i j y x = []
tokens_made t s-separate-in-line i j y x = []
tokens_made t (l-empty n c) i j y x = []
-- 6.6
tokens_made t c-nb-comment-text i j y x = a_comment i (slice_range t i j) ∷ []
-- 6.8
tokens_made t l-directive i j y x = a_directive i (words_among x) ∷ comments_among x
tokens_made t ns-yaml-directive i j y x = a_word (codes "YAML") ∷ x
tokens_made t ns-tag-directive i j y x = a_word (codes "TAG") ∷ x
tokens_made t ns-directive-name i j y x = a_word (slice_range t i j) ∷ []
tokens_made t ns-directive-parameter i j y x = a_word (slice_range t i j) ∷ []
tokens_made t ns-yaml-version i j y x = a_word (slice_range t i j) ∷ []
tokens_made t ns-tag-prefix i j y x = a_word (slice_range t i j) ∷ []
-- 6.8.2 and 6.9.1
tokens_made t c-tag-handle i j y x = a_handle (slice_range t i j) ∷ []
tokens_made t c-verbatim-tag i j y x = a_tag i (IsVerbatim (slice_range t (i + 2) (j - 1))) ∷ []
tokens_made t c-ns-shorthand-tag i j y x = a_tag i (shorthand t i j x) ∷ []
tokens_made t c-non-specific-tag i j y x = a_tag i IsNonSpecific ∷ []
-- 6.9.2 and 7.1
tokens_made t c-ns-anchor-property i j y x = an_anchor (slice_range t (i + 1) j) ∷ []
tokens_made t c-ns-alias-node i j y x = an_alias i (slice_range t (i + 1) j) ∷ []
-- 7.2 and 7.3: scalars in flow style
tokens_made t e-scalar i j y x = a_scalar Plain [] ∷ []
tokens_made t (c-double-quoted n c) i j y x = a_scalar Double y ∷ []
tokens_made t (c-single-quoted n c) i j y x = a_scalar Single y ∷ []
tokens_made t (ns-plain n c) i j y x = a_scalar Plain y ∷ []
-- 7.4: a single pair is a mapping
tokens_made t (c-flow-sequence n c) i j y x = starts true true ∷ (x ++ ends true ∷ [])
tokens_made t (c-flow-mapping n c) i j y x = starts false true ∷ (x ++ ends false ∷ [])
tokens_made t (ns-flow-pair n c) i j y x = starts false true ∷ (x ++ ends false ∷ [])
-- 8.1: lines of block scalars and their end have only content; comments are after them
tokens_made t (b-chomped-last k) i j y x = []
tokens_made t (l-nb-literal-text n) i j y x = []
tokens_made t (b-nb-literal-next n) i j y x = []
tokens_made t (l-nb-diff-lines n) i j y x = []
tokens_made t (c-l+literal n) i j y x = a_scalar Literal y ∷ x
tokens_made t (c-l+folded n) i j y x = a_scalar Folded y ∷ x
-- 8.2
tokens_made t (l+block-sequence n) i j y x = starts true false ∷ (x ++ ends true ∷ [])
tokens_made t (ns-l-compact-sequence n) i j y x = starts true false ∷ (x ++ ends true ∷ [])
tokens_made t (l+block-mapping n) i j y x = starts false false ∷ (x ++ ends false ∷ [])
tokens_made t (ns-l-compact-mapping n) i j y x = starts false false ∷ (x ++ ends false ∷ [])
-- 9.1
tokens_made t l-bare-document i j y x = a_document false (said no_props x) ∷ []
tokens_made t l-explicit-document i j y x = marked_document x
-- all others have the tokens of their parts
tokens_made t f i j y x = x

abbrev pub no_tokens : ℕ → List Token
no_tokens c = []

abbrev pub making_tokens : (L : Condition → ℕ → Type 0) (t : List ℕ) → Making L t Token
making_tokens L t e f i j d x = tokens_made t f i j (content_made t f i j (content d)) x

abbrev pub tokens : {L : Condition → ℕ → Type 0} {t : List ℕ} {e : ℕ} {f : Form} {i j : ℕ} → Derived L t e f i j → List Token
tokens {L} {t} d = meant no_tokens (making_tokens L t) d

-- the tokens of comments
abbrev pub notes : List CommentValue → List Token
notes [] = []
notes (c ∷ cs) = a_comment c.offset c.text ∷ notes cs

-- the first anchor among tokens, and the first tag with its offset
abbrev pub anchor_among : List Token → Option (List ℕ)
anchor_among [] = None
anchor_among (an_anchor name ∷ x) = Some name
anchor_among (c ∷ x) = anchor_among x

abbrev pub tag_among : List Token → Option TagValue
tag_among [] = None
tag_among (a_tag i tag ∷ x) = Some tag
tag_among (c ∷ x) = tag_among x

abbrev pub tag_place_among : List Token → Option ℕ
tag_place_among [] = None
tag_place_among (a_tag i tag ∷ x) = Some i
tag_place_among (c ∷ x) = tag_place_among x

abbrev pub note_of : CommentValue → Note
note_of c = record { offset = c.offset; text = c.text }

-- the comments, each with its start
abbrev pub notes_of : List CommentValue → List Note
notes_of [] = []
notes_of (c ∷ cs) = note_of c ∷ notes_of cs
