-- Streams (YAML 1.2.2, sections 6.8 and 9) as relations between byte offsets of a text t: the text from i to j is
-- derived with the meaning x, and at most h collections are open at once.
use Rattle.std.specs.Prelude.{◌≡◌, ◌≢◌, ℕ, max, ◌+◌, pos, ◌-ℤ◌, Bool, true, false, List, [], ◌∷◌, ◌++◌, length, slice_range, codes}
use Rattle.yf_chars.specs.declared.context.Ctx.TheVariants.{BlockIn}
use Rattle.yf_chars.specs.Text.{code, next}
use Rattle.yf_chars.specs.Class.{is_digit, is_ns_char}
use Rattle.yf_chars.specs.Chain.{Chain, One}
use Rattle.yf_lines.specs.Basic.{Clear, ForbiddenLine, SeparateInLine, is_three}
use Rattle.yf_comments.specs.Comment.{CommentValue}
use Rattle.yf_comments.specs.Comments.{CommentLine, LineEnd}
use Rattle.yf_props.specs.Names.{Handle, Run, TagPrefix}
use Rattle.yf_events.specs.declared.directive.Directive.{Directive}
use Rattle.yf_events.specs.Event.{EventInText}
use Rattle.yf_grammar.specs.Productions.Grammar.{BlockNode, Derives}
use Rattle.yf_grammar.specs.Productions.Meaning.{Meaning, empty_node, noting}

-- a parameter of a directive with another name than YAML and TAG; it does not begin with #, which begins a comment
pub data ReservedParameter (t : List ℕ) : ℕ → ℕ → List (List ℕ) → Type 0 where
  reserved_parameter : {i k j : ℕ} → SeparateInLine t i k → code t k ≢ 35 → Run (One t is_ns_char) k j
      → ReservedParameter t i j (slice_range t k j ∷ [])

-- the parameters of a directive with a name: ns-yaml-directive, ns-tag-directive, ns-reserved-directive
pub data Parameters (t : List ℕ) (name : List ℕ) : ℕ → ℕ → List (List ℕ) → Type 0 where
  version_parameter : {i k d j : ℕ} → name ≡ codes "YAML" → SeparateInLine t i k → Run (One t is_digit) k d → code t d ≡ 46
      → Run (One t is_digit) (d + 1) j → Parameters t name i j (slice_range t k j ∷ [])
  tag_parameters : {i k h p j : ℕ} {x : List ℕ} → name ≡ codes "TAG" → SeparateInLine t i k → Handle t k h → SeparateInLine t h p
      → TagPrefix t p j x → Parameters t name i j (slice_range t k h ∷ slice_range t p j ∷ [])
  reserved_parameters : {i j : ℕ} {words : List (List ℕ)} → name ≢ codes "YAML" → name ≢ codes "TAG"
      → Chain (ReservedParameter t) i j words → Parameters t name i j words

-- directives, and the comments after them
pub record Directives : Type 0 where
  pub directives : List Directive
  pub comments : List CommentValue

-- l-directive, once or more
pub data DirectiveLines (t : List ℕ) : ℕ → ℕ → Directives → Type 0 where
  last_directive : {i k l j : ℕ} {words : List (List ℕ)} {cs : List CommentValue} → code t i ≡ 37 → Run (One t is_ns_char) (i + 1) k
      → Parameters t (slice_range t (i + 1) k) k l words → LineEnd t l j cs
      → DirectiveLines t i j (record { directives = record { offset = i; words = slice_range t (i + 1) k ∷ words } ∷ []; comments = cs })
  more_directives : {i k j : ℕ} {x y : Directives} → DirectiveLines t i k x → DirectiveLines t k j y
      → DirectiveLines t i j (record { directives = x.directives ++ y.directives; comments = x.comments ++ y.comments })

-- a document: its start, whether `---` is written, its directives, and the meaning of its node without comments. A
-- comment line may belong to a document's node, to its directives or to the text between documents; so a stream has one
-- list of comments, and a document has none
pub record Document : Type 0 where
  pub start : ℕ
  pub marked : Bool
  pub directives : List Directive
  pub events : List EventInText
  pub escapes : List ℕ
  pub finish : ℕ

unfoldable pub document_of : ℕ → Bool → List Directive → Meaning → Document
document_of start marked directives x = record {
  start = start;
  marked = marked;
  directives = directives;
  events = x.events;
  escapes = x.escapes;
  finish = x.finish;
}

-- a document's node (l-bare-document), which covers no forbidden line
pub record RootNode (t : List ℕ) (h i j : ℕ) (x : Meaning) : Type 0 where
  pub derived : Derives t h (BlockNode (pos 0 -ℤ pos 1) BlockIn) i j x
  pub clear : Clear t i j

-- the first character of a node's text that is no white space; it is no #, which begins a comment line
pub data ContentAt (t : List ℕ) : ℕ → ℕ → Type 0 where
  content_at : {i k : ℕ} → SeparateInLine t i k → is_ns_char (code t k) ≡ true → code t k ≢ 35 → ContentAt t i k

-- l-explicit-document, from its `---` on
pub data ExplicitNode (t : List ℕ) : ℕ → ℕ → ℕ → Meaning → Type 0 where
  marked_node : {h i j : ℕ} {x : Meaning} → is_three t i 45 ≡ true → RootNode t h (i + 3) j x → ExplicitNode t h i j x
  marked_nothing : {i j : ℕ} {cs : List CommentValue} → is_three t i 45 ≡ true → LineEnd t (i + 3) j cs
      → ExplicitNode t 0 i j (noting (empty_node (i + 3)) cs)

-- l-any-document, with the comments in it
pub data AnyDocument (t : List ℕ) : ℕ → ℕ → ℕ → Document → List CommentValue → Type 0 where
  bare_document : {h i k j : ℕ} {x : Meaning} → RootNode t h i j x → ContentAt t i k
      → AnyDocument t h i j (document_of k false [] x) x.comments
  explicit_document : {h i j : ℕ} {x : Meaning} → ExplicitNode t h i j x → AnyDocument t h i j (document_of i true [] x) x.comments
  directive_document : {h i k j : ℕ} {ds : Directives} {x : Meaning} → DirectiveLines t i k ds → ExplicitNode t h k j x
      → AnyDocument t h i j (document_of k true ds.directives x) (ds.comments ++ x.comments)

-- c-byte-order-mark, or l-comment
pub data PrefixPart (t : List ℕ) : ℕ → ℕ → List CommentValue → Type 0 where
  order_mark : {i : ℕ} → code t i ≡ 0xFEFF → PrefixPart t i (next t i) []
  prefix_comment : {i j : ℕ} {cs : List CommentValue} → CommentLine t i j cs → PrefixPart t i j cs

-- l-document-prefix, any number of them
abbrev pub Prefixes : List ℕ → ℕ → ℕ → List CommentValue → Type 0
Prefixes t = Chain (PrefixPart t)

-- l-document-suffix, once or more
pub data Suffixes (t : List ℕ) : ℕ → ℕ → List CommentValue → Type 0 where
  last_suffix : {i j : ℕ} {cs : List CommentValue} → is_three t i 46 ≡ true → LineEnd t (i + 3) j cs → Suffixes t i j cs
  more_suffixes : {i k j : ℕ} {cs ds : List CommentValue} → is_three t i 46 ≡ true → LineEnd t (i + 3) k cs → Suffixes t k j ds
      → Suffixes t i j (cs ++ ds)

-- the parts of a stretch of a stream: documents, and all comments in text order
pub record Documents : Type 0 where
  pub documents : List Document
  pub comments : List CommentValue

abbrev pub only_comments : List CommentValue → Documents
only_comments cs = record { documents = []; comments = cs }

-- a document, the comments before it and in it, and the rest
unfoldable pub with_document : List CommentValue → Document → Documents → Documents
with_document cs d rest = record { documents = d ∷ rest.documents; comments = cs ++ rest.comments }

unfoldable pub with_comments : List CommentValue → Documents → Documents
with_comments cs rest = record rest { comments = cs ++ rest.comments }

-- l-yaml-stream after its first document: further documents need a `---`, or a `...` before them
pub data StreamRest (t : List ℕ) : ℕ → ℕ → Documents → Type 0 where
  stream_ended : StreamRest t 0 (length t) (only_comments [])
  past_prefix : {h i k : ℕ} {cs : List CommentValue} {x : Documents} → PrefixPart t i k cs → StreamRest t h k x
      → StreamRest t h i (with_comments cs x)
  past_suffixes : {h i k l : ℕ} {cs ds : List CommentValue} {x : Documents} → Suffixes t i k cs → Prefixes t k l ds
      → StreamRest t h l x → StreamRest t h i (with_comments (cs ++ ds) x)
  past_suffixes_and_document : {h g i k l j : ℕ} {cs ds es : List CommentValue} {d : Document} {x : Documents} → Suffixes t i k cs
      → Prefixes t k l ds → AnyDocument t h l j d es → StreamRest t g j x → StreamRest t (max h g) i (with_document (cs ++ (ds ++ es)) d x)
  past_explicit : {h g i j : ℕ} {x : Meaning} {rest : Documents} → ExplicitNode t h i j x → StreamRest t g j rest
      → StreamRest t (max h g) i (with_document x.comments (document_of i true [] x) rest)

-- l-yaml-stream: the whole text
pub data Stream (t : List ℕ) : ℕ → Documents → Type 0 where
  begins_with_document : {h g i j : ℕ} {cs ds : List CommentValue} {d : Document} {x : Documents} → Prefixes t 0 i cs
      → AnyDocument t h i j d ds → StreamRest t g j x → Stream t (max h g) (with_document (cs ++ ds) d x)
  without_document : {h i : ℕ} {cs : List CommentValue} {x : Documents} → Prefixes t 0 i cs → StreamRest t h i x
      → Stream t h (with_comments cs x)

-- whether `...` is written at the end of a document: the next forbidden line after it is a `...`
pub data EndIsMarked (t : List ℕ) (i : ℕ) : Bool → Type 0 where
  marked_end : {j : ℕ} {cs : List CommentValue} → Prefixes t i j cs → ForbiddenLine t j → code t j ≡ 46 → EndIsMarked t i true
  unmarked_end : ((j : ℕ) (cs : List CommentValue) → Prefixes t i j cs → ForbiddenLine t j → code t j ≡ 46 → ⊥) → EndIsMarked t i false
