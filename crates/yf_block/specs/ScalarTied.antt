-- A block scalar as a node: its header at the offset of the awaited node, and its lines after the header as the
-- reader has them.
use Rattle.std.specs.Prelude.{◌≡◌, ℕ, ◌+◌, ◌^◌, ◌≤◌, ℤ, pos, ◌+ℤ◌, List, ◌++◌, length, Option}
use Rattle.yf_chars.specs.Chain.{Chosen}
use Rattle.yf_lines.specs.Lines.{NoBreakIn}
use Rattle.yf_comments.specs.Comment.{CommentValue}
use Rattle.yf_props.specs.Props.{props_value}
use Rattle.yf_events.specs.Event.{EventInText, scalar_node}
use Rattle.yf_events.specs.declared.part.Part.{Part}
use Rattle.yf_block_scalar.specs.Body.{Body, body_value}
use Rattle.yf_block_scalar.specs.Content.{content_of}
use Rattle.yf_block_scalar.specs.Header.{BlockHeader, HeaderValue}
use Rattle.yf_block_scalar.specs.declared.body.BlockText.{BlockText}
use Rattle.yf_grammar.specs.BlockReader.BlockParser.{Ahead, BlockTask, Leaf}
use Rattle.yf_grammar.specs.Productions.BlockScalar.{LinesBetween, style_of, kept_lines}
use Rattle.yf_grammar.specs.BlockReader.BlockStack.{Layer}
use Rattle.yf_grammar.specs.BlockReader.BlockStates.{NodeAt}
use Rattle.yf_grammar.specs.Productions.Meaning.{◌⊕◌, from_to}
use Rattle.yf_grammar.specs.FlowReader.Parser.{ParsedNode, only}
use Rattle.yf_flow.specs.declared.node.Lead.{Lead}
use Rattle.yf_block.specs.declared.frame.Frame.{Frame}
use Rattle.yf_block.specs.declared.frame.BlockCursor.{BlockCursor}
use Rattle.yf_block.specs.BlockTied.{layers_entry, ahead_comments, all_written, ReadTied, StackTied, EntryTied}
use Rattle.yf_block.specs.ContentTied.{ScalarSignAt, LeadTied}

pub record AtScalar (t : List ℕ) (d : ℕ) (root : BlockTask) (before : Part) (frames : List Frame) (lead : Lead) (least p : ℕ) (progress : BlockCursor) (part : Part) : Type 0 where
  pub layers : List Layer
  pub room : ℕ
  pub comments : List CommentValue
  pub indentation : ℤ
  pub ahead : Ahead
  pub halt : Option ParsedNode
  pub node : NodeAt t d root layers room comments (Leaf indentation ahead p) halt
  pub least_is : pos least ≡ indentation +ℤ pos 1
  pub narrow : least ≤ 2 ^ 30 + 1
  pub sign : ScalarSignAt t p
  pub lead_is : LeadTied ahead p lead
  pub entry : EntryTied t progress.floor (layers_entry layers) lead.entry
  pub past : progress.floor ≤ p
  pub stack : StackTied (length before.events) layers frames progress halt
  pub read : ReadTied t before (all_written layers ⊕ only (comments ++ ahead_comments ahead) 0) progress part

-- with the indentation of the awaited node
abbrev pub AtHeader : Lead → List ℕ → ℕ → BlockTask → Part → List Frame → ℕ → BlockCursor → Part → Type 0
AtHeader lead t d root before frames p progress part = AtScalar t d root before frames lead progress.wanted.least p progress part

-- its header has been read up to the offset, and so have its lines
pub record AtBody (lead : Lead) (block : BlockText) (t : List ℕ) (d : ℕ) (root : BlockTask) (before : Part) (frames : List Frame) (at : ℕ) (progress : BlockCursor) (part : Part) : Type 0 where
  pub least : ℕ
  pub place : ℕ
  pub head : HeaderValue
  pub earlier : Part
  pub scalar : AtScalar t d root before frames lead least place progress earlier
  pub header : Chosen (BlockHeader t place) at head
  pub header_is : block.header ≡ head.header
  pub lines : Chosen (Body t scalar.indentation head.header at) block.next (body_value block)
  pub events : part.events ≡ earlier.events
  pub comments : part.comments ≡ earlier.comments ++ head.comments
  pub escapes : part.escapes ≡ earlier.escapes

-- a walk over lines has this many lines left, and is within the first of them
pub record LinesLeft (t : List ℕ) (left place end : ℕ) : Type 0 where
  pub start : ℕ
  pub line : NoBreakIn t start place
  pub begins : left ≡ 0 → start ≡ place
  pub rest : LinesBetween t left start end

-- the event of a scalar with its lead and its lines, up to an offset
abbrev pub scalar_event : Lead → BlockText → ℕ → EventInText
scalar_event lead block end = record {
  event = scalar_node (props_value lead.props) (style_of block.header.folded) (content_of block.header block.lines block.tail block.open_end);
  span = from_to lead.start end;
  tag_offset = lead.tag_offset;
  entry = lead.entry;
  folded = kept_lines block.header.folded block.lines;
}
