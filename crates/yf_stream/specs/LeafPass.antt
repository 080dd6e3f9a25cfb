-- Which comments are on the lines of leaves, if events and comments are in text order.
use Rattle.std.specs.Prelude.{◌≡◌, ℕ, ◌+◌, ◌<◌, ◌≤◌, ◌⊎◌, Bool, true, false, nat_lt, if◌then◌else◌, List, [], ◌∷◌, ◌++◌, length, Option, Some, None}
use Rattle.std.specs.List.{All, list_any}
use Rattle.yf_chars.specs.Text.{code}
use Rattle.yf_lines.specs.Basic.{Break}
use Rattle.yf_lines.specs.Lines.{NoBreakIn}
use Rattle.yf_lines.specs.declared.line.Line.{Line}
use Rattle.yf_comments.specs.Comment.{CommentValue}
use Rattle.yf_events.specs.Event.{EventInText}
use Rattle.yf_events.specs.Reading.{begins_leaf}
use Rattle.yf_events.specs.declared.event.Span.{Span}
use Rattle.yf_stream.specs.ReadingOf.{is_on_line}

-- the spans of the leaves with characters, in the order of the events
abbrev pub span_in : Bool → Option Span → List Span
span_in true (Some span) = span ∷ []
span_in true None = []
span_in false span = []

abbrev pub leaf_spans : List EventInText → List Span
leaf_spans [] = []
leaf_spans (e ∷ rest) = span_in (begins_leaf e.event rest) e.span ++ leaf_spans rest

-- the end of the last of these leaves that begins before an offset
abbrev pub last_end : Option ℕ → ℕ → List Span → Option ℕ
last_end found offset [] = found
last_end found offset (s ∷ ss) = last_end (if nat_lt s.start offset then Some s.end else found) offset ss

-- whether that end is on the line of the offset
abbrev pub end_on_line : List Line → Option ℕ → ℕ → Bool
end_on_line ls None offset = false
end_on_line ls (Some end) offset = list_any (is_on_line end offset) ls

-- the nodes of the events begin in text order, none before an offset
pub data BeginInOrder : ℕ → List EventInText → Type 0 where
  no_events : {i : ℕ} → BeginInOrder i []
  no_place : {i : ℕ} {e : EventInText} {es : List EventInText} → e.span ≡ None → BeginInOrder i es → BeginInOrder i (e ∷ es)
  begins : {i : ℕ} {e : EventInText} {es : List EventInText} (s : Span) → e.span ≡ Some s → i ≤ s.start → BeginInOrder s.start es → BeginInOrder i (e ∷ es)

-- so do the comments
pub data CommentsInOrder : ℕ → List CommentValue → Type 0 where
  no_comments : {i : ℕ} → CommentsInOrder i []
  comment_is_at : {i : ℕ} {c : CommentValue} {cs : List CommentValue} → i ≤ c.offset → CommentsInOrder c.offset cs → CommentsInOrder i (c ∷ cs)

-- the start of the line that holds an offset: after the last break that ends there or before it, or at the start of the
-- text
pub record BeginsLine (t : List ℕ) (at i : ℕ) : Type 0 where
  pub order : i ≤ at
  pub begins : (i ≡ 0) ⊎ ((h : ℕ) × Break t h i)
  pub last : (h j : ℕ) → i < j → j ≤ at → Break t h j → ⊥

-- the start of the next line: after the first break that begins at the offset or after it, or at the end of the text
pub record NoBreakFrom (t : List ℕ) (i j : ℕ) : Type 0 where
  pub none : (h k : ℕ) → i ≤ h → h < j → Break t h k → ⊥

pub data NextLine (t : List ℕ) (at : ℕ) : ℕ → Type 0 where
  after_break : {h j : ℕ} → at ≤ h → NoBreakFrom t at h → Break t h j → NextLine t at j
  at_text_end : NoBreakFrom t at (length t) → NextLine t at (length t)

-- the first of these events has a span that begins at an offset or after it, or the list is empty
pub data StopsAt (offset : ℕ) : List EventInText → Type 0 where
  none_left : StopsAt offset []
  stops : {e : EventInText} {es : List EventInText} (s : Span) → e.span ≡ Some s → offset ≤ s.start → StopsAt offset (e ∷ es)

-- a comment begins with #, and no line ends within its text
pub record IsInLine (t : List ℕ) (c : CommentValue) : Type 0 where
  pub sign : code t c.offset ≡ 35
  pub unbroken : NoBreakIn t c.offset (c.offset + length c.text)

-- all conditions of the pass
pub record AreInOrder (t : List ℕ) (es : List EventInText) (cs : List CommentValue) : Type 0 where
  pub events : BeginInOrder 0 es
  pub comments : CommentsInOrder 0 cs
  pub texts : All (IsInLine t) cs
