-- The draft of a stream: nothing yet, or the lists of its reading, or the refusal.
use Rattle.std.specs.Prelude.{[], Option, Some, None, Result, Ok, Err}
use Rattle.yf_events.specs.declared.lists.Lists.{Lists}
use Rattle.yf_stream.specs.DerivedParts.{no_parts}
use Rattle.yf_stream.specs.declared.stream.Draft.{Draft}
use Rattle.yf_stream.specs.declared.stream.Refusal.{Refusal}

abbrev pub nothing_drafted : Draft
nothing_drafted = record { parts = no_parts; resolved = record { tags = []; first = None }; on_leaf_line = [] }

abbrev pub lists_of : Draft → Lists
lists_of d = record {
  events = d.parts.part.events;
  resolved = d.resolved.tags;
  comments = d.parts.part.comments;
  on_leaf_line = d.on_leaf_line;
  documents = d.parts.documents;
  escapes = d.parts.part.escapes;
}

abbrev pub drafted : Draft → Option Refusal → Result Lists Refusal
drafted d None = Ok (lists_of d)
drafted d (Some refusal) = Err refusal
