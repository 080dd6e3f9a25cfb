-- The result of the reader of a stream for a `---` without a node after it.
use Rattle.std.specs.Prelude.{◌≡◌, ℕ, false, List, []}
use Rattle.yf_chars.specs.Chain.{Chosen}
use Rattle.yf_comments.specs.Comment.{CommentValue}
use Rattle.yf_comments.specs.Comments.{LineEnd}
use Rattle.yf_events.specs.Event.{scalar_node}
use Rattle.yf_events.specs.declared.event.ScalarStyle.TheVariants.{Plain}
use Rattle.yf_props.specs.Props.{no_props}
use Rattle.yf_stream.specs.DocumentReaders.{commented, with_event}
use Rattle.yf_stream.specs.declared.documents.Parts.{Parts}
use Rattle.yf_stream.specs.declared.documents.StreamCursor.{StreamCursor}

-- the line ends at an offset with the comment lines after it, and the document has an empty node
pub record EmptyEnds (t : List ℕ) (at : ℕ) (a b : Parts) (after : StreamCursor) : Type 0 where
  pub comments : List CommentValue
  pub line : Chosen (LineEnd t at) after.at comments
  pub bare : after.may_be_bare ≡ false
  pub floor : after.floor ≡ 0
  pub parts : b ≡ with_event (commented comments a) (scalar_node no_props Plain [])
