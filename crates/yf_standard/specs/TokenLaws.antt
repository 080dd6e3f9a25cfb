-- The meanings of the standard's productions: the laws that relate the comments and names of a derivation (`Tokens`) to
-- the relations of their readers, each with a plain sentence. `proofs/TokenLawsHold.antt` proves them.
use Rattle.std.specs.Prelude.{◌≡◌, ℕ, ℤ, Bool, true, false, List, [], ◌∷◌, map, encode_utf8_all}
use Rattle.std.specs.Str.{IsUtf8}
use Rattle.yf_chars.specs.declared.context.Ctx.{Ctx}
use Rattle.yf_lines.specs.Basic.{Clear}
use Rattle.yf_comments.specs.Comment.{CommentValue}
use Rattle.yf_comments.specs.Comments.{LineEnd, Separate}
use Rattle.yf_props.specs.Props.{no_props}
use Rattle.yf_props.specs.Names.{Alias, Properties, PropertiesValue}
use Rattle.yf_events.specs.Event.{scalar_node}
use Rattle.yf_grammar.specs.Productions.BlockScalar.{BlockScalar, style_of}
use Rattle.yf_grammar.specs.Productions.Meaning.{Meaning}
use Rattle.yf_standard.specs.Notation.Form.{s-l-comments, s-separate, c-ns-alias-node, c-ns-properties, c-l+literal, c-l+folded}
use Rattle.yf_standard.specs.Literal.{Derived}
use Rattle.yf_standard.specs.Rules.{read}
use Rattle.yf_standard.specs.Contents.{Mark, content, marks}
use Rattle.yf_standard.specs.Tokens.{Token, tokens, notes, comments_among, anchor_among, tag_among, tag_place_among}
use Rattle.yf_standard.specs.Tokens.Token.{an_alias, a_scalar}

-- properties with these tokens: equal anchors, tags, offsets of the tag, and comments
pub record PropertiesMean (t : List ℕ) (n : ℤ) (c : Ctx) (i j : ℕ) (y : List Token) : Type 0 where
  pub value : PropertiesValue
  pub derived : Properties t n c i j value
  pub anchor : anchor_among y ≡ value.props.anchor
  pub tag : tag_among y ≡ value.props.tag
  pub place : tag_place_among y ≡ value.tag_offset
  pub comments : comments_among y ≡ notes value.comments

-- a block scalar with that style, content and tokens: it is read as one scalar with that style and text, and with
-- these comments
pub record BlockScalarMeans (t : List ℕ) (n : ℤ) (f : Bool) (i j : ℕ) (y : List Mark) (z : List Token) : Type 0 where
  pub value : Meaning
  pub derived : BlockScalar t n i j value
  pub text : List ℕ
  pub added : y ≡ marks text
  pub event : map (λ e. e.event) value.events ≡ scalar_node no_props (style_of f) (encode_utf8_all text) ∷ []
  pub tokens : z ≡ a_scalar (style_of f) y ∷ notes value.comments

-- Each derivation of comments (79) has the comments that are read, each at its offset.
abbrev pub CommentTokens : Type 0
CommentTokens = (t : List ℕ) (e i j : ℕ) → IsUtf8 t → (d : Derived (read t) t e s-l-comments i j) → (x : List CommentValue) × (LineEnd t i j x × (tokens d ≡ notes x))

-- Each derivation of separation (80) has the comments that are read, each at its offset.
abbrev pub SeparateTokens : Type 0
SeparateTokens = (t : List ℕ) (e i j : ℕ) (n : ℤ) (c : Ctx) → IsUtf8 t → (d : Derived (read t) t e (s-separate n c) i j) → (x : List CommentValue) × (Separate t n c i j x × (tokens d ≡ notes x))

-- Each derivation of an alias (104) has the name that is read.
abbrev pub AliasTokens : Type 0
AliasTokens = (t : List ℕ) (e i j : ℕ) → IsUtf8 t → (d : Derived (read t) t e c-ns-alias-node i j) → (x : List ℕ) × (Alias t i j x × (tokens d ≡ an_alias i x ∷ []))

-- Each derivation of node properties (96) has the anchor, the tag, its offset and the comments that are read.
abbrev pub PropertyTokens : Type 0
PropertyTokens = (t : List ℕ) (e i j : ℕ) (n : ℤ) (c : Ctx) → IsUtf8 t → (d : Derived (read t) t e (c-ns-properties n c) i j) → PropertiesMean t n c i j (tokens d)

-- Each derivation of a literal scalar (170) that covers no forbidden line is read as a scalar with its content and
-- its comments.
abbrev pub LiteralScalars : Type 0
LiteralScalars = (t : List ℕ) (e i j : ℕ) (n : ℤ) → IsUtf8 t → Clear t i j
    → (d : Derived (read t) t e (c-l+literal n) i j) → BlockScalarMeans t n false i j (content d) (tokens d)

-- Each derivation of a folded scalar (174) that covers no forbidden line is read as a scalar with its content and its
-- comments.
abbrev pub FoldedScalars : Type 0
FoldedScalars = (t : List ℕ) (e i j : ℕ) (n : ℤ) → IsUtf8 t → Clear t i j
    → (d : Derived (read t) t e (c-l+folded n) i j) → BlockScalarMeans t n true i j (content d) (tokens d)
