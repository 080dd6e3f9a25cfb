-- The invariant between two steps of the reader of block nodes: it ties the stack and the events to those of the
-- recursive reader.
-- The last offset at which all nodes may end is the end of the last halt.
use Rattle.std.specs.Prelude.{◌≡◌, ℕ, ◌+◌, ◌^◌, ◌<◌, ◌≤◌, ℤ, pos, ◌+ℤ◌, ◌≤ℤ◌, Bool, true, false, List, [], ◌∷◌, ◌++◌, length, Option, Some, None, ◌⊎◌}
use Rattle.yf_chars.specs.declared.context.Ctx.{Ctx}
use Rattle.yf_chars.specs.declared.context.Ctx.TheVariants.{BlockOut}
use Rattle.yf_chars.specs.Chain.{Stuck, Chosen}
use Rattle.yf_lines.specs.Basic.{LineStart}
use Rattle.yf_comments.specs.Comment.{CommentValue}
use Rattle.yf_comments.specs.Comments.{LineEnd, Row}
use Rattle.yf_props.specs.Props.{props_value}
use Rattle.yf_events.specs.declared.part.Part.{Part}
use Rattle.yf_grammar.specs.Productions.Meaning.{◌⊕◌}
use Rattle.yf_grammar.specs.FlowReader.Parser.{ParsedNode, only}
use Rattle.yf_grammar.specs.BlockReader.BlockParser.{LinesEnd, Ahead, Nothing, Indicator, Props, PropertiesHeld as HeldValue, SignAt, Origin, First, BlockTask, Awaited, Below, Whole}
use Rattle.yf_grammar.specs.BlockReader.Halts.{Halts}
use Rattle.yf_grammar.specs.BlockReader.BlockStack.{Layer}
use Rattle.yf_grammar.specs.BlockReader.BlockStates.{NodeAt, NodeRead, EntryAt, AllWithin}
use Rattle.yf_block.specs.declared.frame.Frame.{Frame}
use Rattle.yf_block.specs.declared.frame.BlockCursor.{BlockCursor}
use Rattle.yf_block.specs.declared.frame.Step.{Step}
use Rattle.yf_block.specs.declared.frame.Step.TheVariants.{Node, Line, Resume, Done, Failed, TooDeep}
use Rattle.yf_block.specs.declared.frame.AwaitedNode.{AwaitedNode}
use Rattle.yf_block.specs.declared.properties.PlacedProperties.{PlacedProperties}
use Rattle.yf_block.specs.declared.resume.ResumedFrame.{ResumedFrame}
use Rattle.yf_block.specs.declared.resume.Fit.TheVariants.{EndsBefore}
use Rattle.yf_block.specs.LineFits.{FitsLine, PairLine}
use Rattle.yf_block.specs.LookTests.{NotWithinBreak}
use Rattle.yf_block.specs.BlockTied.{stage_entry, layers_entry, begins, ahead_comments, all_written, entries_written, ReadTied, CollectionTied, FrameTied, StackTied, halt_end, EntryTied}

-- the held properties, and the state ahead of the awaited node
pub record PropertiesTied (h : HeldValue) (held : PlacedProperties) : Type 0 where
  pub start : held.start ≡ h.start
  pub end : held.end ≡ h.end
  pub tag : held.tag_offset ≡ h.value.tag_offset
  pub props : props_value held.props ≡ h.value.props

pub data AheadTied : Ahead → Option PlacedProperties → Type 0 where
  nothing_held : AheadTied Nothing None
  none_held : {i : ℕ} → AheadTied (Indicator i) None
  props_held : {h : HeldValue} {held : PlacedProperties} → PropertiesTied h held → AheadTied (Props h) (Some held)

abbrev pub is_out : Ctx → Bool
is_out BlockOut = true
is_out _ = false

-- the awaited node, with its indentation n, its context c and the state ahead of it; no collection around it is
-- deeper, and within a collection it may always be empty
pub record WantedTied (t : List ℕ) (floor : ℕ) (ls : List Layer) (n : ℤ) (c : Ctx) (a : Ahead) (wanted : AwaitedNode) : Type 0 where
  pub least : pos wanted.least ≡ n +ℤ pos 1
  pub out : wanted.out ≡ is_out c
  pub outer : AheadTied a wanted.outer
  pub entry : EntryTied t floor (layers_entry ls) wanted.entry
  pub within : (m : ℕ) → n ≤ℤ pos m → AllWithin m ls
  pub nested : a ≡ Nothing → ls ≡ []
  pub rooted : (i : ℕ) → a ≡ Indicator i → ls ≡ [] → ⊥
  pub narrow : wanted.least ≤ 2 ^ 30 + 1

-- a node is awaited after an indicator that ends there
pub record AtNode (t : List ℕ) (d : ℕ) (root : BlockTask) (before : Part) (frames : List Frame) (p : ℕ) (progress : BlockCursor) (part : Part) : Type 0 where
  pub layers : List Layer
  pub room : ℕ
  pub comments : List CommentValue
  pub indentation : ℤ
  pub context : Ctx
  pub ahead : Ahead
  pub halt : Option ParsedNode
  pub node : NodeAt t d root layers room comments (Awaited progress.wanted.compact indentation context ahead p) halt
  pub wanted : WantedTied t progress.floor layers indentation context ahead progress.wanted
  pub shallow : progress.wanted.compact ≡ true → (0 < progress.wanted.least) × (progress.wanted.least ≤ p)
  pub inside : LineStart t p → ⊥
  pub past : progress.floor ≤ p
  pub last : (i : ℕ) → ahead ≡ Indicator i → progress.last ≡ i
  pub stack : StackTied (length before.events) layers frames progress halt
  pub read : ReadTied t before (all_written layers ⊕ only (comments ++ ahead_comments ahead) 0) progress part

-- a node is awaited at the start of a line, after the end of the line before it and its comment lines
pub record AtLine (t : List ℕ) (d : ℕ) (root : BlockTask) (before : Part) (frames : List Frame) (p : ℕ) (progress : BlockCursor) (part : Part) : Type 0 where
  pub layers : List Layer
  pub room : ℕ
  pub comments : List CommentValue
  pub indentation : ℤ
  pub context : Ctx
  pub ahead : Ahead
  pub told : List CommentValue
  pub halt : Option ParsedNode
  pub node : NodeAt t d root layers room comments (Below indentation context ahead progress.from) halt
  pub line : Chosen (LineEnd t progress.from) p told
  pub started : LineStart t progress.from → ahead ≡ Nothing
  pub first : progress.first ≡ true → progress.from ≡ p
  pub not_first : progress.first ≡ false → progress.from ≡ p → p ≡ length t
  pub past : progress.floor ≤ progress.from
  pub wanted : WantedTied t progress.floor layers indentation context ahead progress.wanted
  pub last : (i : ℕ) → ahead ≡ Indicator i → progress.last ≡ i
  pub stack : StackTied (length before.events) layers frames progress halt
  pub read : ReadTied t before (all_written layers ⊕ only (comments ++ (ahead_comments ahead ++ told)) 0) progress part

-- a node has been read whole
pub record AtResume (t : List ℕ) (d : ℕ) (root : BlockTask) (before : Part) (frames : List Frame) (p : ℕ) (progress : BlockCursor) (part : Part) : Type 0 where
  pub layers : List Layer
  pub room : ℕ
  pub answer : ParsedNode
  pub halt : Option ParsedNode
  pub node : NodeRead t d root layers room answer p halt
  pub outside : NotWithinBreak t p
  pub past : progress.floor ≤ p
  pub last : progress.last ≡ answer.meaning.finish
  pub stack : StackTied (length before.events) layers frames progress halt
  pub read : ReadTied t before (all_written layers ⊕ begins (layers_entry layers) answer.meaning) progress part

-- a node has been read whole, and the frame of the innermost collection is no longer on the stack
pub record AtTop (t : List ℕ) (d : ℕ) (root : BlockTask) (before : Part) (frames : List Frame) (p : ℕ) (top : Frame) (progress : BlockCursor) (part : Part) : Type 0 where
  pub layer : Layer
  pub layers : List Layer
  pub room : ℕ
  pub answer : ParsedNode
  pub halt : Option ParsedNode
  pub node : NodeRead t d root (layer ∷ layers) room answer p halt
  pub outside : NotWithinBreak t p
  pub past : progress.floor ≤ p
  pub order : AllWithin layer.column layers
  pub frame : FrameTied (length before.events) layer layers top
  pub last : progress.last ≡ answer.meaning.finish
  pub stack : StackTied (length before.events) layers frames progress halt
  pub read : ReadTied t before (all_written (layer ∷ layers) ⊕ begins (stage_entry layer.stage) answer.meaning) progress part

-- `AtTop`, and the line that begins there does not end that collection
pub record AtFit (t : List ℕ) (d : ℕ) (root : BlockTask) (before : Part) (frames : List Frame) (p : ℕ) (next : ResumedFrame) (progress : BlockCursor) (part : Part) : Type 0 where
  pub top : AtTop t d root before frames p next.frame progress part
  pub line : FitsLine t p next.frame next.fit
  pub goes_on : next.fit ≡ EndsBefore → ⊥

-- an entry of a mapping may go on there, on a line that begins after the node
pub record AtPair (frame : Frame) (t : List ℕ) (d : ℕ) (root : BlockTask) (before : Part) (frames : List Frame) (p : ℕ) (progress : BlockCursor) (part : Part) : Type 0 where
  pub line : ℕ
  pub fits : PairLine t line frame p
  pub top : AtTop t d root before frames line frame progress part

-- an entry of a collection begins there, and its frame is not on the stack; the first entry of a mapping has a `?` or
-- a `:`
pub record AtEntry (t : List ℕ) (d : ℕ) (root : BlockTask) (before : Part) (frames : List Frame) (frame : Frame) (p : ℕ) (progress : BlockCursor) (part : Part) : Type 0 where
  pub layer : Layer
  pub layers : List Layer
  pub room : ℕ
  pub origin : Origin
  pub halt : Option ParsedNode
  pub entry : EntryAt t d root layer layers room origin p halt
  pub order : AllWithin layer.column layers
  pub shallow : layer.column ≤ p
  pub there : p < length t
  pub outside : NotWithinBreak t p
  pub past : progress.floor ≤ p
  pub signed : (n : ℤ) → origin ≡ First n → layer.sequence ≡ false → SignAt t 63 p ⊎ SignAt t 58 p
  pub collection : CollectionTied (length before.events) layer layers frame
  pub stack : StackTied (length before.events) layers frames progress halt
  pub read : ReadTied t before (entries_written layer layers) progress part

-- the outermost node has been read whole, with its last halt; `AtFailed`: there is none, only its last halt
pub record AtDone (t : List ℕ) (d : ℕ) (root : BlockTask) (before : Part) (p : ℕ) (progress : BlockCursor) (part : Part) : Type 0 where
  pub answer : ParsedNode
  pub halt : Option ParsedNode
  pub whole : Whole t d root (Some answer)
  pub halts : Halts t d [] root halt
  pub end : answer.end ≡ p
  pub halted : progress.halt ≡ halt_end halt
  pub read : ReadTied t before answer.meaning progress part

-- no node is found, or the node leaves a line of the text that is not a comment line: a comment that no break ends
pub data TextIsLeft (t : List ℕ) (d : ℕ) (root : BlockTask) : Type 0 where
  none_found : Whole t d root None → TextIsLeft t d root
  line_left : {f : ParsedNode} → Whole t d root (Some f) → (LinesEnd t f.end → ⊥) → Stuck (Row t f.end) → TextIsLeft t d root

pub record AtFailed (t : List ℕ) (d : ℕ) (root : BlockTask) (progress : BlockCursor) : Type 0 where
  pub halt : Option ParsedNode
  pub unfinished : TextIsLeft t d root
  pub halts : Halts t d [] root halt
  pub halted : progress.halt ≡ halt_end halt

-- the state for each next step
abbrev pub BlockTied : List ℕ → ℕ → BlockTask → Part → List Frame → Step → BlockCursor → Part → Type 0
BlockTied t d root before frames (Node p) progress part = AtNode t d root before frames p progress part
BlockTied t d root before frames (Line p) progress part = AtLine t d root before frames p progress part
BlockTied t d root before frames (Resume p) progress part = AtResume t d root before frames p progress part
BlockTied t d root before frames (Done p) progress part = AtDone t d root before p progress part
BlockTied t d root before frames (Failed p) progress part = AtFailed t d root progress
BlockTied t d root before frames (TooDeep p) progress part = AtFailed t d root progress
