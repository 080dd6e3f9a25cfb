-- Lists that are the reading of a text: they hold the meaning of its one derivation, with the notes that no derivation
-- has: blank lines, comments on the line of a leaf, ends of documents and resolved tags.
use Rattle.std.specs.Prelude.{◌≡◌, ℕ, Bool, false, ◌&&◌, nat_lt, nat_le, if◌then◌else◌, List, [], ◌∷◌, ◌++◌, map, flat_map, Option, Some, None}
use Rattle.std.specs.List.{list_any}
use Rattle.yf_lines.specs.Lines.{AreLines}
use Rattle.yf_lines.specs.declared.line.Line.{Line}
use Rattle.yf_comments.specs.Comment.{CommentValue}
use Rattle.yf_comments.specs.Comments.{LineEnd}
use Rattle.yf_props.specs.Handles.{Declaration, TagText}
use Rattle.yf_props.specs.Props.{TagValue}
use Rattle.yf_events.specs.Event.{EventInText, stream_starts, stream_ends, document_starts, document_ends, props_of}
use Rattle.yf_events.specs.declared.document.Doc.{Doc}
use Rattle.yf_events.specs.declared.event.Span.{Span}
use Rattle.yf_events.specs.declared.lists.Lists.{Lists}
use Rattle.yf_grammar.specs.Productions.ReadParts.{NotedSince, Noting, floor_after_event}
use Rattle.yf_stream.specs.Stream.{Document, Documents, EndIsMarked}
use Rattle.yf_stream.specs.WellFormed.{ReadsWithoutBreach, declarations}
use Rattle.yf_events.specs.Tree.{DocumentTree, TreesOf, leaves, unplaced}

-- the resolved tag of the node that each event begins, with these declarations
pub data EventTags (ds : List Declaration) : List EventInText → List (Option (List ℕ)) → Type 0 where
  no_event : EventTags ds [] []
  untagged : {e : EventInText} {es : List EventInText} {tags : List (Option (List ℕ))} → (props_of e.event).tag ≡ None → EventTags ds es tags
      → EventTags ds (e ∷ es) (None ∷ tags)
  tagged : {e : EventInText} {es : List EventInText} {tags : List (Option (List ℕ))} {tag : TagValue} {text : List ℕ}
      → (props_of e.event).tag ≡ Some tag → TagText ds tag text → EventTags ds es tags → EventTags ds (e ∷ es) (Some text ∷ tags)

-- the events of documents, and their tags; a document's end is marked if the next forbidden line after it is a `...`
pub data DocumentEvents (t : List ℕ) : List Document → List EventInText → List (Option (List ℕ)) → Type 0 where
  no_document : DocumentEvents t [] [] []
  one_document : {d : Document} {ds : List Document} {x : List EventInText} {tags more : List (Option (List ℕ))} {closed : Bool} {j : ℕ}
      {cs : List CommentValue} → EventTags (declarations [] d.directives) d.events tags
      → LineEnd t d.finish j cs → EndIsMarked t j closed → DocumentEvents t ds x more
      → DocumentEvents t (d ∷ ds) (unplaced (document_starts d.marked) ∷ (d.events ++ (unplaced (document_ends closed) ∷ x)))
      (None ∷ (tags ++ (None ∷ more)))

-- the end of the last block scalar that ends at an offset or before it; lines before that end are no blank lines
abbrev pub end_before : ℕ → ℕ → ℕ → ℕ
end_before offset floor end = if nat_le end offset then end else floor

abbrev pub floor_at : ℕ → ℕ → List EventInText → ℕ
floor_at offset floor [] = floor
floor_at offset floor (e ∷ es) = floor_at offset (end_before offset floor (floor_after_event floor e e.event)) es

-- the comments, each with the note whether a blank line is before it
pub data NotedComments (t : List ℕ) (es : List EventInText) : List CommentValue → List CommentValue → Type 0 where
  no_comment : NotedComments t es [] []
  one_comment : {c : CommentValue} {cs noted : List CommentValue} {b : Bool} → NotedSince t (floor_at c.offset 0 es) c.offset b
      → NotedComments t es cs noted → NotedComments t es (c ∷ cs) (record c { blank_before = b } ∷ noted)

-- whether the last character before an end is on the line of an offset
abbrev pub is_on_line : ℕ → ℕ → Line → Bool
is_on_line end offset l = nat_le l.start offset && nat_lt offset l.next && nat_lt l.start end && nat_le end l.next

abbrev pub on_line_of : List Line → Option Span → ℕ → Bool
on_line_of ls None offset = false
on_line_of ls (Some leaf) offset = list_any (is_on_line leaf.end offset) ls

-- the last of these leaves that begins before an offset
abbrev pub last_leaf : Option Span → ℕ → List Span → Option Span
last_leaf found offset [] = found
last_leaf found offset (s ∷ ss) = last_leaf (if nat_lt s.start offset then Some s else found) offset ss

-- for each comment, whether it is on the line on which the last leaf ends that begins before it
abbrev pub leaf_lines : List Line → List Span → List CommentValue → List Bool
leaf_lines ls leaves cs = map (λ c. on_line_of ls (last_leaf None c.offset leaves) c.offset) cs

abbrev pub doc_of : Document → Doc
doc_of d = record { start = d.start; directives = d.directives }

-- r is the reading of the text t
pub record ReadingOf (t : List ℕ) (r : Lists) : Type 0 where
  pub derived : Documents
  pub reads : ReadsWithoutBreach t derived
  pub derived_events : List EventInText
  pub between : List (Option (List ℕ))
  pub events : DocumentEvents t derived.documents derived_events between
  pub noted : Noting t 0 (unplaced stream_starts ∷ (derived_events ++ (unplaced stream_ends ∷ []))) r.events
  pub resolved : r.resolved ≡ None ∷ (between ++ (None ∷ []))
  pub comments : NotedComments t r.events derived.comments r.comments
  pub lines : List Line
  pub are_lines : AreLines t lines
  pub trees : List DocumentTree
  pub of_reading : TreesOf r trees
  pub notes : r.on_leaf_line ≡ leaf_lines lines (flat_map (λ d. leaves d.root) trees) r.comments
  pub documents : r.documents ≡ map doc_of derived.documents
  pub escapes : r.escapes ≡ flat_map (λ d. d.escapes) derived.documents
