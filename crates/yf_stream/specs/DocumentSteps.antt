-- The results of the reader of a stream for the next document, or for a `...`: the parts that it adds and the offset at
-- which it goes on, or that no stream is derived.
use Rattle.std.specs.Prelude.{◌≡◌, ◌≢◌, ℕ, ◌+◌, ◌<◌, pos, ◌-ℤ◌, true, false, not, List, [], ◌++◌, Some, None}
use Rattle.yf_chars.specs.declared.context.Ctx.TheVariants.{BlockIn}
use Rattle.yf_chars.specs.Text.{code}
use Rattle.yf_chars.specs.Class.{is_white}
use Rattle.yf_chars.specs.Chain.{Chosen, Many, Stuck}
use Rattle.yf_lines.specs.Basic.{ForbiddenLine}
use Rattle.yf_comments.specs.Comment.{CommentValue}
use Rattle.yf_comments.specs.Comments.{LineEnd, Row}
use Rattle.yf_events.specs.declared.directive.Directive.{Directive}
use Rattle.yf_events.specs.declared.part.Part.{Part}
use Rattle.yf_events.specs.declared.reading.TheConstants.{DEPTH}
use Rattle.yf_grammar.specs.BlockReader.BlockParser.{Awaited, LinesEnd, Nothing, Whole}
use Rattle.yf_grammar.specs.FlowReader.Parser.{ParsedNode}
use Rattle.yf_grammar.specs.Productions.ReadParts.{BlockNodePart}
use Rattle.yf_grammar.specs.Refusal.{openers}
use Rattle.yf_stream.specs.DirectiveReaders.{DirectivesEnd, DirectivesRead}
use Rattle.yf_events.specs.Event.{scalar_node}
use Rattle.yf_events.specs.declared.event.ScalarStyle.TheVariants.{Plain}
use Rattle.yf_props.specs.Props.{no_props}
use Rattle.yf_block.specs.BlockTied.{floor_after}
use Rattle.yf_block.specs.declared.nodes.FoundBlock.{FoundBlock as FoundNode}
use Rattle.yf_stream.specs.DocumentReaders.{SuffixRead, closed, commented, opened, with_event}
use Rattle.yf_stream.specs.EmptyDocument.{EmptyEnds}
use Rattle.yf_stream.specs.declared.documents.StreamStep.{StreamStep}
use Rattle.yf_stream.specs.declared.documents.StreamStep.TheVariants.{Go, Syntax, TooDeep}
use Rattle.yf_stream.specs.declared.documents.Parts.{Parts}
use Rattle.yf_stream.specs.declared.documents.StreamCursor.{StreamCursor}

-- no node of a stream's document is there: none is derived, none is found, or the stream does not go on after the found
-- one
pub data NoNode (t : List ℕ) (at : ℕ) : Type 0 where
  none_derived : Stuck (BlockNodePart t DEPTH (pos 0 -ℤ pos 1) BlockIn at) → NoNode t at
  none_found : Whole t DEPTH (Awaited false (pos 0 -ℤ pos 1) BlockIn Nothing at) None → NoNode t at
  line_left : {f : ParsedNode} → Whole t DEPTH (Awaited false (pos 0 -ℤ pos 1) BlockIn Nothing at) (Some f) → (LinesEnd t f.end → ⊥) → Stuck (Row t f.end) → NoNode t at

-- a part added to the parts
abbrev pub grown : Part → Parts → Parts
grown part p = record p {
  part = record {
    events = p.part.events ++ part.events;
    comments = p.part.comments ++ part.comments;
    escapes = p.part.escapes ++ part.escapes;
  };
}

-- a document's node has been read: the longest one there
pub record NodeEnds (t : List ℕ) (at : ℕ) (a b : Parts) (after : StreamCursor) : Type 0 where
  pub part : Part
  pub chosen : Chosen (BlockNodePart t DEPTH (pos 0 -ℤ pos 1) BlockIn at) after.at part
  pub bare : after.may_be_bare ≡ false
  pub floor : after.floor ≡ floor_after 0 part.events
  pub parts : b ≡ grown part a

-- the result for a document's node
pub data RootRead (t : List ℕ) (at : ℕ) (a b : Parts) : StreamStep → Type 0 where
  root_read : {after : StreamCursor} → NodeEnds t at a b after → RootRead t at a b (Go after)
  no_root : {place : ℕ} → NoNode t at → RootRead t at a b (Syntax place)
  root_too_deep : {place : ℕ} → NoNode t at → DEPTH < openers t → RootRead t at a b (TooDeep place)

-- after a `---` the line ends, and `LinesEnd` holds after it and its comment lines; or that is not so
pub record NothingEnds (t : List ℕ) (at : ℕ) (a b : Parts) (after : StreamCursor) : Type 0 where
  pub ends : EmptyEnds t at a b after
  pub last : LinesEnd t after.at

pub record SomethingBegins (t : List ℕ) (at : ℕ) : Type 0 where
  pub none : (j : ℕ) (cs : List CommentValue) → Chosen (LineEnd t at) j cs → LinesEnd t j → ⊥

-- a line ends at `end`, at which `LinesEnd` holds; an empty node and its comments have been added
pub record NothingAt (t : List ℕ) (at end : ℕ) (cs : List CommentValue) : Type 0 where
  pub line : Chosen (LineEnd t at) end cs
  pub last : LinesEnd t end

pub record EmptyTo (end : ℕ) (cs : List CommentValue) (a b : Parts) (after : StreamCursor) : Type 0 where
  pub at : after.at ≡ end
  pub bare : after.may_be_bare ≡ false
  pub floor : after.floor ≡ 0
  pub reached : after.reached ≡ end
  pub parts : b ≡ with_event (commented cs a) (scalar_node no_props Plain [])

abbrev pub EmptyAdded : ℕ → List CommentValue → Parts → Parts → StreamStep → Type 0
EmptyAdded end cs a b (Go after) = EmptyTo end cs a b after
EmptyAdded end cs a b (Syntax place) = ⊥
EmptyAdded end cs a b (TooDeep place) = ⊥

-- a node was found: the reading goes on after it if nothing went wrong; otherwise it went wrong there, as too deep or
-- not
pub record FoundTo (f : FoundNode) (after : StreamCursor) : Type 0 where
  pub whole : f.whole ≡ true
  pub at : after.at ≡ f.end
  pub floor : after.floor ≡ f.floor
  pub reached : after.reached ≡ f.reached
  pub bare : after.may_be_bare ≡ false

abbrev pub FoundRead : FoundNode → StreamStep → Type 0
FoundRead f (Go after) = FoundTo f after
FoundRead f (Syntax place) = (f.whole ≡ false) × (f.too_deep ≡ false) × (place ≡ f.reached)
FoundRead f (TooDeep place) = (f.whole ≡ false) × (f.too_deep ≡ true) × (place ≡ f.reached)

-- a document from its `---` on, with these directives
pub data MarkedRead (t : List ℕ) (at : ℕ) (ds : List Directive) (a b : Parts) : StreamStep → Type 0 where
  node_read : {after : StreamCursor} → NodeEnds t (at + 3) (opened at true ds a) b after → MarkedRead t at ds a b (Go after)
  nothing_read : {after : StreamCursor} → NothingEnds t (at + 3) (opened at true ds a) b after → MarkedRead t at ds a b (Go after)
  no_node_read : {place : ℕ} → SomethingBegins t (at + 3) → NoNode t (at + 3) → MarkedRead t at ds a b (Syntax place)
  too_deep_read : {place : ℕ} → SomethingBegins t (at + 3) → NoNode t (at + 3) → DEPTH < openers t → MarkedRead t at ds a b (TooDeep place)

-- a document without `---`, which begins after white space
pub data BareRead (t : List ℕ) (at : ℕ) (a b : Parts) : StreamStep → Type 0 where
  bare_read : {start : ℕ} {w : List ℕ} {after : StreamCursor} → Many t is_white at start w → is_white (code t start) ≡ false
      → NodeEnds t at (opened start false [] a) b after → BareRead t at a b (Go after)
  no_bare_read : {place : ℕ} → NoNode t at → BareRead t at a b (Syntax place)
  too_deep_bare : {place : ℕ} → NoNode t at → DEPTH < openers t → BareRead t at a b (TooDeep place)

-- with other comments
abbrev pub with_comments_read : List CommentValue → Parts → Parts
with_comments_read cs p = record p { part = record p.part { comments = cs } }

-- the result at a cursor at which neither a comment line nor a byte order mark begins
pub data NextRead (t : List ℕ) (cursor : StreamCursor) (a b : Parts) : StreamStep → Type 0 where
  at_dots : {next : StreamStep} → ForbiddenLine t cursor.at → code t cursor.at ≡ 46 → SuffixRead t cursor a b next → NextRead t cursor a b next
  at_dashes : {next : StreamStep} → ForbiddenLine t cursor.at → code t cursor.at ≡ 45 → MarkedRead t cursor.at [] (closed false (not cursor.may_be_bare) a) b next → NextRead t cursor a b next
  not_bare : {place : ℕ} → (ForbiddenLine t cursor.at → ⊥) → cursor.may_be_bare ≡ false → NextRead t cursor a b (Syntax place)
  after_directives : {next : StreamStep} {p : ℕ} {ds : List Directive} {cs : List CommentValue} → cursor.may_be_bare ≡ true → code t cursor.at ≡ 37
      → DirectivesRead t cursor.at p ds a.part.comments cs → ForbiddenLine t p → code t p ≡ 45 → MarkedRead t p ds (with_comments_read cs a) b next → NextRead t cursor a b next
  no_dashes : {place p : ℕ} {ds : List Directive} {ca cb : List CommentValue} → code t cursor.at ≡ 37 → DirectivesRead t cursor.at p ds ca cb
      → (ForbiddenLine t p → code t p ≡ 45 → ⊥) → NextRead t cursor a b (Syntax place)
  no_directive : {place p : ℕ} → code t cursor.at ≡ 37 → DirectivesEnd t cursor.at p → NextRead t cursor a b (Syntax place)
  without_dashes : {next : StreamStep} → (ForbiddenLine t cursor.at → ⊥) → cursor.may_be_bare ≡ true → code t cursor.at ≢ 37 → BareRead t cursor.at a b next → NextRead t cursor a b next
