-- The results of a stream's readers for the text between its documents: the marker of a line, the lines before a
-- document, and the line of a `...`.
use Rattle.std.specs.Prelude.{◌≡◌, ◌≢◌, ℕ, ◌+◌, ◌-◌, ◌<◌, Bool, true, false, not, List, [], ◌∷◌, ◌++◌, Option, Some, None}
use Rattle.yf_chars.specs.Text.{code, next}
use Rattle.yf_chars.specs.Chain.{Chain, Chosen, Stuck}
use Rattle.yf_lines.specs.Basic.{ForbiddenLine}
use Rattle.yf_comments.specs.Comment.{CommentValue}
use Rattle.yf_comments.specs.Comments.{Blank, LineEnd, Row}
use Rattle.yf_events.specs.declared.directive.Directive.{Directive}
use Rattle.yf_events.specs.Event.{EventValue, document_starts, document_ends}
use Rattle.yf_events.specs.Tree.{unplaced}
use Rattle.yf_grammar.specs.Productions.ReadParts.{NotedSince}
use Rattle.yf_stream.specs.declared.documents.Marker.{Marker}
use Rattle.yf_stream.specs.declared.documents.Marker.TheVariants.{DocumentStart, DocumentEnd}
use Rattle.yf_stream.specs.declared.documents.StreamStep.{StreamStep}
use Rattle.yf_stream.specs.declared.documents.StreamStep.TheVariants.{Go, Syntax, TooDeep}
use Rattle.yf_stream.specs.declared.documents.Parts.{Parts}
use Rattle.yf_stream.specs.declared.documents.StreamCursor.{StreamCursor}

-- the marker of the line that begins there; without one, the line has none
abbrev pub IsMarker : List ℕ → ℕ → Option Marker → Type 0
IsMarker t i None = ForbiddenLine t i → ⊥
IsMarker t i (Some DocumentStart) = ForbiddenLine t i × (code t i ≡ 45)
IsMarker t i (Some DocumentEnd) = ForbiddenLine t i × (code t i ≡ 46)

-- a byte order mark, or the rest of a line
pub data PrefixRow (t : List ℕ) : ℕ → ℕ → List CommentValue → Type 0 where
  mark_row : {i : ℕ} → code t i ≡ 0xFEFF → PrefixRow t i (next t i) []
  line_row : {i j : ℕ} {cs : List CommentValue} → Row t i j cs → PrefixRow t i j cs

-- the note of blank lines before an offset, from a floor on
pub record FloorNote (t : List ℕ) (floor at : ℕ) (b : Bool) : Type 0 where
  pub since : (code t at ≡ 10 → code t (at - 1) ≢ 13) → (floor < at → Blank t floor) → NotedSince t floor at b

-- comments that differ only in their notes of blank lines
pub data SameButNotes (t : List ℕ) (floor : ℕ) : List CommentValue → List CommentValue → Type 0 where
  none_renoted : SameButNotes t floor [] []
  one_renoted : {c : CommentValue} {cs ns : List CommentValue} (b : Bool) → FloorNote t floor c.offset b → SameButNotes t floor cs ns
      → SameButNotes t floor (c ∷ cs) (record c { blank_before = b } ∷ ns)

-- comments have been added to a list, with notes of their own
pub record CommentsAdded (t : List ℕ) (floor : ℕ) (cs a b : List CommentValue) : Type 0 where
  pub noted : List CommentValue
  pub renoted : SameButNotes t floor cs noted
  pub list : b ≡ a ++ noted

-- byte order marks and lines have been passed up to an offset, and their comments added to a list
pub record PrefixUpto (t : List ℕ) (floor i j : ℕ) (a b : List CommentValue) : Type 0 where
  pub comments : List CommentValue
  pub rows : Chain (PrefixRow t) i j comments
  pub kept : CommentsAdded t floor comments a b

-- all of them have been passed: neither begins at the offset
pub record PrefixRead (t : List ℕ) (floor i j : ℕ) (a b : List CommentValue) : Type 0 where
  pub upto : PrefixUpto t floor i j a b
  pub no_mark : code t j ≢ 0xFEFF
  pub no_row : Stuck (Row t j)

-- the parts with one more event, which has no span
abbrev pub with_event : Parts → EventValue → Parts
with_event p e = record p { part = record p.part { events = p.part.events ++ unplaced e ∷ [] } }

-- with the end of the open document, if one is open
abbrev pub closed : Bool → Bool → Parts → Parts
closed explicit true p = with_event p (document_ends explicit)
closed explicit false p = p

-- with the start of one more document
abbrev pub opened : ℕ → Bool → List Directive → Parts → Parts
opened start explicit directives p = record (with_event p (document_starts explicit)) {
  documents = p.documents ++ (record { start = start; directives = directives }) ∷ [];
}

-- with more comments
abbrev pub commented : List CommentValue → Parts → Parts
commented cs p = record p { part = record p.part { comments = p.part.comments ++ cs } }

-- a `...` ends there with the comment lines after it, and a document may begin without a `---`
pub record SuffixEnds (t : List ℕ) (cursor : StreamCursor) (a b : Parts) (after : StreamCursor) : Type 0 where
  pub comments : List CommentValue
  pub line : Chosen (LineEnd t (cursor.at + 3)) after.at comments
  pub bare : after.may_be_bare ≡ true
  pub floor : after.floor ≡ 0
  pub parts : b ≡ commented comments (closed true (not cursor.may_be_bare) a)

-- the result after the three dots at a cursor: the next cursor, or no line ends there
abbrev pub SuffixRead : List ℕ → StreamCursor → Parts → Parts → StreamStep → Type 0
SuffixRead t cursor a b (Go after) = SuffixEnds t cursor a b after
SuffixRead t cursor a b (Syntax place) = Stuck (LineEnd t (cursor.at + 3))
SuffixRead t cursor a b (TooDeep place) = ⊥
