-- The results of a pass over the events of a stream, document by document: their resolved tags, and the first of all
-- breaches.
use Rattle.std.specs.Prelude.{◌≡◌, ℕ, Bool, true, false, if◌then◌else◌, List, [], ◌∷◌, ◌++◌, drop, slice_get, Option, Some, None}
use Rattle.std.specs.Borrow.{Bor}
use Rattle.yf_props.specs.Handles.{Declaration, TagText, declared_prefix}
use Rattle.yf_props.specs.Props.{TagValue, no_props}
use Rattle.yf_events.specs.declared.directive.Directive.{Directive}
use Rattle.yf_events.specs.declared.document.Doc.{Doc}
use Rattle.yf_events.specs.Event.{EventValue, EventInText, document_starts, props_of}
use Rattle.yf_stream.specs.WellFormed.{IsFirst, alias_breaches, alias_of, breach_if, declarations, directive_breaches, escape_breaches, has_name, is_unknown, offset_or, start_or, with_name}
use Rattle.yf_stream.specs.declared.breaches.Breach.{Breach}
use Rattle.yf_stream.specs.declared.breaches.BreachKind.TheVariants.{UnknownHandle}

-- the first of these breaches, or none
abbrev pub FirstOf : List Breach → Option Breach → Type 0
FirstOf bs None = bs ≡ []
FirstOf bs (Some b) = IsFirst bs b

-- `before` is the first of some breaches, and `after` is the first of them and of these
pub record FirstOfBoth (before after : Option Breach) (bs : List Breach) : Type 0 where
  pub first : (done : List Breach) → FirstOf done before → FirstOf (done ++ bs) after

-- two lists of names, and two lists of declarations, with equal look-ups
pub record SameNames (a b : List (List ℕ)) : Type 0 where
  pub each : (name : List ℕ) → has_name a name ≡ has_name b name

pub record SameDeclarations (a b : List Declaration) : Type 0 where
  pub each : (handle : List ℕ) → declared_prefix a handle ≡ declared_prefix b handle

-- the resolved tag of an event
abbrev pub TagOf : List Declaration → Option TagValue → Option (List ℕ) → Type 0
TagOf ds None None = Unit {0}
TagOf ds None (Some text) = ⊥
TagOf ds (Some tag) None = ⊥
TagOf ds (Some tag) (Some text) = TagText ds tag text

-- whether a document starts
abbrev pub starts_document : EventValue → Bool
starts_document (document_starts marked) = true
starts_document _ = false

-- the directives of the first document that follows, and the other documents
abbrev pub next_directives : List Doc → List Directive
next_directives [] = []
next_directives (d ∷ docs) = d.directives

abbrev pub later_documents : List Doc → List Doc
later_documents [] = []
later_documents (d ∷ docs) = docs

-- the breaches of one event, with these declarations and after these anchors
abbrev pub own_breaches : List Declaration → List (List ℕ) → EventInText → List Breach
own_breaches ds names e = breach_if (is_unknown ds (props_of e.event).tag) UnknownHandle (offset_or 0 e.tag_offset)
    ++ alias_breaches names (start_or 0 e.span) (alias_of e.event)

-- the breaches of the events that follow in a document with these declarations, after these anchors, and of the
-- documents that follow it
abbrev pub pass_breaches : List Doc → List Declaration → List (List ℕ) → List EventInText → List Breach
pass_breaches docs ds names [] = []
pass_breaches docs ds names (e ∷ es) =
    if starts_document e.event
    then directive_breaches false [] (next_directives docs) ++ pass_breaches (later_documents docs) (declarations [] (next_directives docs)) [] es
    else own_breaches ds names e ++ pass_breaches docs ds (with_name (props_of e.event).anchor names) es

-- all breaches of a stream, by its lists
abbrev pub stream_breaches : List Doc → List EventInText → List ℕ → List Breach
stream_breaches docs es escapes = escape_breaches escapes ++ pass_breaches docs [] [] es

-- the tags of the events that follow in a document with these declarations, and in the documents that follow it
pub data PassTags : List Doc → List Declaration → List EventInText → List (Option (List ℕ)) → Type 0 where
  no_event_left : {docs : List Doc} {ds : List Declaration} → PassTags docs ds [] []
  document_begins : {docs : List Doc} {ds : List Declaration} {e : EventInText} {es : List EventInText} {tags : List (Option (List ℕ))}
      → starts_document e.event ≡ true → PassTags (later_documents docs) (declarations [] (next_directives docs)) es tags
      → PassTags docs ds (e ∷ es) (None ∷ tags)
  event_follows : {docs : List Doc} {ds : List Declaration} {e : EventInText} {es : List EventInText} {tag : Option (List ℕ)}
      {tags : List (Option (List ℕ))} → starts_document e.event ≡ false → TagOf ds (props_of e.event).tag tag → PassTags docs ds es tags
      → PassTags docs ds (e ∷ es) (tag ∷ tags)

-- the event at an index has this property
pub record EventAt (es : List EventInText) (i : ℕ) (P : EventInText → Type 0) : Type 0 where
  pub event : EventInText
  pub there : slice_get es i ≡ Some event
  pub holds : P event

-- an event that begins no node with a tag or an anchor, and is no alias
pub record IsNameless (v : EventValue) : Type 0 where
  pub props : props_of v ≡ no_props
  pub alias : alias_of v ≡ None

-- the tag of an event has been added, and its breach kept if it is the first
pub record TagAdded (ds : List Declaration) (e : EventInText) (before after : Option Breach) (a b : List (Option (List ℕ))) : Type 0 where
  pub finds : FirstOfBoth before after (breach_if (is_unknown ds (props_of e.event).tag) UnknownHandle (offset_or 0 e.tag_offset))
  pub tag : Option (List ℕ)
  pub is_there : is_unknown ds (props_of e.event).tag ≡ false → TagOf ds (props_of e.event).tag tag
  pub list : b ≡ a ++ tag ∷ []

-- an event has been passed, with these declarations: the first of its breaches has been kept, and its anchor and its
-- tag have been added
pub record EventPassed (ds : List Declaration) (e : EventInText) (before after : Option Breach) (names others : List (List ℕ)) (a b : List (Option (List ℕ))) : Type 0 where
  pub finds : FirstOfBoth before after (own_breaches ds names e)
  pub same : SameNames others (with_name (props_of e.event).anchor names)
  pub tag : Option (List ℕ)
  pub is_there : is_unknown ds (props_of e.event).tag ≡ false → TagOf ds (props_of e.event).tag tag
  pub list : b ≡ a ++ tag ∷ []

-- all events from i up to j have been passed
pub record AllPassed (es : List EventInText) (ds : List Declaration) (i j : ℕ) (before after : Option Breach) (names others : List (List ℕ))
    (a b : List (Option (List ℕ))) : Type 0 where
  pub found : List Breach
  pub finds : FirstOfBoth before after found
  pub breaches : (docs : List Doc) → pass_breaches docs ds names (drop i es) ≡ found ++ pass_breaches docs ds others (drop j es)
  pub added : List (Option (List ℕ))
  pub list : b ≡ a ++ added
  pub tags : after ≡ None → (docs : List Doc) (rest : List (Option (List ℕ))) → PassTags docs ds (drop j es) rest
      → PassTags docs ds (drop i es) (added ++ rest)

-- the directives of a document, or none
abbrev pub directives_of : Option (Bor Doc) → List Directive
directives_of None = []
directives_of (Some d) = d.now.directives

-- the first of the events starts a document, or the list is empty
abbrev pub StartsDocument : List EventInText → Type 0
StartsDocument [] = Unit {0}
StartsDocument (e ∷ es) = starts_document e.event ≡ true

-- the events from i up to j, at which a document starts or the events end, are those of a document with these
-- directives: the first of their breaches has been kept, and their tags have been added
pub record TagsResolved (es : List EventInText) (directives : List Directive) (i j : ℕ) (before after : Option Breach) (a b : List (Option (List ℕ))) : Type 0 where
  pub found : List Breach
  pub finds : FirstOfBoth before after found
  pub breaches : (docs : List Doc) → directive_breaches false [] directives ++ pass_breaches docs (declarations [] directives) [] (drop i es)
      ≡ found ++ pass_breaches docs [] [] (drop j es)
  pub added : List (Option (List ℕ))
  pub list : b ≡ a ++ added
  pub tags : after ≡ None → (docs : List Doc) (rest : List (Option (List ℕ))) → PassTags docs [] (drop j es) rest
      → PassTags docs (declarations [] directives) (drop i es) (added ++ rest)
