-- The statements of a text's tokens, besides its documents: whether the further rules of YAML 1.2.2 hold (sections 5.7,
-- 6.8, 6.9 and 7.1, except that verbatim tags are not checked), its events, its content and its comments.
use Rattle.std.specs.Prelude.{◌≡◌, ⊤, ℕ, Bool, true, false, List, [], ◌∷◌, ◌++◌, Option, Some, None, map}
use Rattle.std.specs.List.{flat_map, zip}
use Rattle.yf_props.specs.Handles.{Declaration}
use Rattle.yf_events.specs.Content.{BeforeValue, ContentOf, before_document, items_of_directive, items_of_event}
use Rattle.yf_events.specs.Event.{EventValue, document_ends, document_starts, props_of, stream_ends, stream_starts}
use Rattle.yf_events.specs.Tree.{unplaced}
use Rattle.yf_forms.specs.Nodes.Lines.{trimmed}
use Rattle.yf_stream.specs.ReadingOf.{EventTags}
use Rattle.yf_stream.specs.WellFormed.{alias_of, declarations, directive_breaches, has_name, is_unknown, with_name}
use Rattle.yf_standard.specs.Laws.{IsStandardStream}
use Rattle.yf_standard.specs.Readings.{DocumentSaid, StreamSaid, stream_said}
use Rattle.yf_standard.specs.Tokens.{tokens}

-- The statements of a derivation of a whole text by production 211.
abbrev pub said_by : {t : List ℕ} → IsStandardStream t → StreamSaid
said_by d = stream_said [] (tokens d)

-- ---- Which texts are accepted

-- One of these anchors has the name of the alias, if the event is one.
abbrev pub has_anchor : List (List ℕ) → Option (List ℕ) → Bool
has_anchor anchors None = true
has_anchor anchors (Some name) = has_name anchors name

-- Each tag's handle is declared or a default one, and each alias names an anchor before it.
-- (ds: the declarations of handles; anchors: those before the events)
abbrev pub NodesFit : List Declaration → List (List ℕ) → List EventValue → Type 0
NodesFit ds anchors [] = ⊤
NodesFit ds anchors (e ∷ es) =
    (is_unknown ds (props_of e).tag ≡ false) × (has_anchor anchors (alias_of e) ≡ true)
    × NodesFit ds (with_name (props_of e).anchor anchors) es

-- The directives of a document have at most one version, whose major number is 1, and declare each handle once; its
-- nodes fit them; and each of its escapes is a character. (A key may occur twice in a mapping.)
pub record DocumentFits (d : DocumentSaid) : Type 0 where
  pub directives : directive_breaches false [] d.directives ≡ []
  pub nodes : NodesFit (declarations [] d.directives) [] d.events
  pub escapes : d.escapes ≡ []

abbrev pub DocumentsFit : List DocumentSaid → Type 0
DocumentsFit [] = ⊤
DocumentsFit (d ∷ ds) = DocumentFits d × DocumentsFit ds

-- Production 211, with the reading rules and at most `DEPTH` open collections, derives all of the text, and its
-- documents keep the further rules.
pub record IsAccepted (t : List ℕ) : Type 0 where
  pub derived : IsStandardStream t
  pub fits : DocumentsFit (said_by derived).documents

-- ---- The events

-- An event, with the resolved tag of the node that it begins (section 6.9.1).
abbrev pub TaggedEvent : Type 0
TaggedEvent = EventValue × Option (List ℕ)

-- These are the events of documents. For each document, a flag says whether `...` ends it.
pub data EventsSaid : List DocumentSaid → List Bool → List TaggedEvent → Type 0 where
  no_events : EventsSaid [] [] []
  events_of_one : {ds : List DocumentSaid} {ends : List Bool} {tags : List (Option (List ℕ))} {es : List TaggedEvent}
      (d : DocumentSaid) (closed : Bool) → EventTags (declarations [] d.directives) (map unplaced d.events) tags
      → EventsSaid ds ends es → EventsSaid (d ∷ ds) (closed ∷ ends)
      ((document_starts d.marked, None) ∷ (zip d.events tags ++ ((document_ends closed, None) ∷ es)))

-- These are the events of a stream.
pub record StreamEvents (s : StreamSaid) (ends : List Bool) (es : List TaggedEvent) : Type 0 where
  pub inside : List TaggedEvent
  pub documents : EventsSaid s.documents ends inside
  pub whole : es ≡ (stream_starts, None) ∷ (inside ++ ((stream_ends, None) ∷ []))

-- ---- The content

-- The words of each document's directives.
abbrev pub directives_said : DocumentSaid → List BeforeValue
directives_said d = before_document ∷ flat_map items_of_directive d.directives

-- A stream says this content: its directives, and its nodes with anchors, resolved tags and texts. Of the styles only
-- this is part of it: whether a scalar without a tag is plain and steady, so that a schema may give it a type.
pub record ContentSaid (s : StreamSaid) (c : ContentOf) : Type 0 where
  pub directives : c.directives ≡ flat_map directives_said s.documents
  -- which documents `...` ends is not part of it
  pub ends : List Bool
  pub events : List TaggedEvent
  pub said : StreamEvents s ends events
  pub nodes : c.nodes ≡ flat_map (λ e. items_of_event e.0 e.1) events

-- Two texts have one content, whichever derivations are taken.
abbrev pub SameContent : List ℕ → List ℕ → Type 0
SameContent t u =
    (d : IsStandardStream t) (e : IsStandardStream u)
    → (c : ContentOf) × ContentSaid (said_by d) c × ContentSaid (said_by e) c

-- ---- The comments

-- The texts of all comments, in order, without the white space at their ends.
abbrev pub comments_said : StreamSaid → List (List ℕ)
comments_said s = map (λ c. trimmed c.text) s.comments

-- Two texts have the same comments in one order, whichever derivations are taken.
abbrev pub SameComments : List ℕ → List ℕ → Type 0
SameComments t u =
    (d : IsStandardStream t) (e : IsStandardStream u) → comments_said (said_by d) ≡ comments_said (said_by e)
