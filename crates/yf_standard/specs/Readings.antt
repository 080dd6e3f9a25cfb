-- From tokens to readings (chapters 7 and 8): events, in which a node has the properties before it; comments; the
-- offsets of tags; and the offsets of escapes that write no character.
use Rattle.std.specs.Prelude.{ℕ, Bool, List, [], ◌∷◌, ◌++◌, Option, Some, None, map}
use Rattle.yf_events.specs.Event.{EventValue, EventInText}
use Rattle.yf_grammar.specs.Productions.Meaning.{Meaning}
use Rattle.yf_events.specs.declared.directive.Directive.{Directive}
use Rattle.yf_stream.specs.Stream.{Document, Documents}
use Rattle.yf_standard.specs.Tokens.{Token, Note, notes_of}
unfoldable pub use Rattle.yf_standard.specs.Tokens.{said}
pub use Rattle.yf_standard.specs.Tokens.{Said}
use Rattle.yf_standard.specs.Tokens.Token.{a_comment, a_directive, a_document}

abbrev pub place_of : Option ℕ → List ℕ
place_of None = []
place_of (Some i) = i ∷ []

-- the offsets of the tags of events
abbrev pub tag_places : List EventInText → List ℕ
tag_places [] = []
tag_places (e ∷ es) = place_of e.tag_offset ++ tag_places es

-- what a meaning states
abbrev pub said_of : Meaning → Said
said_of x = record {
  events = map (λ e. e.event) x.events;
  comments = notes_of x.comments;
  tags = tag_places x.events;
  escapes = x.escapes;
}

-- 9.1: a document, with the directives before it
pub record DocumentSaid : Type 0 where
  pub marked : Bool
  pub directives : List Directive
  pub events : List EventValue
  pub tags : List ℕ
  pub escapes : List ℕ

pub record StreamSaid : Type 0 where
  pub documents : List DocumentSaid
  -- all comments, in order of the text
  pub comments : List Note

-- 9.2: what the tokens of a stream after these directives state
unfoldable pub stream_said : List Directive → List Token → StreamSaid
stream_said ds [] = record { documents = []; comments = [] }
stream_said ds (a_directive i words ∷ x) = stream_said (ds ++ record { offset = i; words = words } ∷ []) x
stream_said ds (a_comment i text ∷ x) = let s = stream_said ds x in record s { comments = record { offset = i; text = text } ∷ s.comments }
stream_said ds (a_document marked d ∷ x) =
    let s = stream_said [] x in
    record {
      documents = record { marked = marked; directives = ds; events = d.events; tags = d.tags; escapes = d.escapes } ∷ s.documents;
      comments = d.comments ++ s.comments;
    }
stream_said ds (c ∷ x) = stream_said ds x

-- what documents state
abbrev pub document_said : Document → DocumentSaid
document_said d = record {
  marked = d.marked;
  directives = d.directives;
  events = map (λ e. e.event) d.events;
  tags = tag_places d.events;
  escapes = d.escapes;
}

abbrev pub documents_said : Documents → StreamSaid
documents_said x = record { documents = map document_said x.documents; comments = notes_of x.comments }
