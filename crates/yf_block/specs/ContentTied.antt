-- A node on its line, if no collection begins with a sign: before its properties, after them, and after its flow node
-- has been read.
use Rattle.std.specs.Prelude.{◌≡◌, ℕ, ◌<◌, ◌≤◌, ℤ, pos, ◌+ℤ◌, Bool, true, false, List, [], ◌∷◌, ◌++◌, length, Option, Some, None, ◌⊎◌}
use Rattle.yf_chars.specs.declared.context.Ctx.TheVariants.{FlowOut, FlowKey}
use Rattle.yf_chars.specs.Text.{code}
use Rattle.yf_chars.specs.Class.{is_white}
use Rattle.yf_chars.specs.Chain.{Stuck, Many}
use Rattle.yf_comments.specs.Comment.{CommentValue}
use Rattle.yf_comments.specs.Comments.{LineEnd}
use Rattle.yf_props.specs.Names.{Properties}
use Rattle.yf_props.specs.Props.{props_value}
use Rattle.yf_events.specs.Event.{EventInText}
use Rattle.yf_events.specs.declared.event.Entry as TheEntry
use Rattle.yf_events.specs.declared.part.Part.{Part}
use Rattle.yf_grammar.specs.BlockReader.BlockParser.{Ahead, DashAt, NoSign, Columns, BlockTask, MayLeaf, Leaf, headed}
use Rattle.yf_grammar.specs.Productions.BlockScalar.{BlockScalar}
use Rattle.yf_grammar.specs.BlockReader.BlockStack.{Layer}
use Rattle.yf_grammar.specs.BlockReader.BlockStates.{NodeAt}
use Rattle.yf_grammar.specs.Productions.Meaning.{◌⊕◌, meaning_after}
use Rattle.yf_grammar.specs.FlowReader.Parser.{ParsedNode, ANode, Parses, begins_plain}
use Rattle.yf_flow.specs.declared.frame.Node.{Node}
use Rattle.yf_flow.specs.declared.node.Lead.{Lead}
use Rattle.yf_block.specs.declared.content.AfterProperties.{AfterProperties}
use Rattle.yf_block.specs.declared.content.NodeFacts.{NodeFacts}
use Rattle.yf_block.specs.declared.content.Belonging.TheVariants.{Joined}
use Rattle.yf_block.specs.declared.frame.Frame.{Frame}
use Rattle.yf_block.specs.declared.frame.BlockCursor.{BlockCursor}
use Rattle.yf_block.specs.declared.frame.AwaitedNode.{AwaitedNode}
use Rattle.yf_block.specs.declared.halt.Counts.{Counts}
use Rattle.yf_block.specs.declared.properties.PlacedProperties.{PlacedProperties}
use Rattle.yf_block.specs.BlockTied.{layers_entry, begins, ahead_props, ahead_tag, ahead_start, all_written, ReadTied, StackTied}
use Rattle.yf_block.specs.BlockStepTied.{AtFailed}
use Rattle.yf_block.specs.BelongingTied.{BelongingTied}
use Rattle.yf_block.specs.PropertiesAnswers.{LineProperties, PlaceAfter, lead_at}
use Rattle.yf_block.specs.InlineAnswers.{InlineRead, InlineLost, KeyEnds}
use Rattle.yf_block.specs.InlineTied.{AtStart}
use Rattle.yf_block.specs.LastStarts.{NoStart}
use Rattle.yf_block.specs.LookTests.{LineEndsAt}

-- no collection begins there with a sign, but a mapping may begin at the column
pub record AtContent (t : List ℕ) (d : ℕ) (root : BlockTask) (before : Part) (frames : List Frame) (p : ℕ) (column : Option ℕ) (progress : BlockCursor) (part : Part) : Type 0 where
  pub cols : Columns
  pub start : AtStart t d root before frames cols p progress part
  pub column_is : cols.mapping ≡ column
  pub signless : NoSign t cols p

-- like `AtContent`, but only sequences are known not to begin there
pub record AtUndashed (column : Option ℕ) (t : List ℕ) (d : ℕ) (root : BlockTask) (before : Part) (frames : List Frame) (p : ℕ) (progress : BlockCursor) (part : Part) : Type 0 where
  pub cols : Columns
  pub column_is : cols.mapping ≡ column
  pub undashed : (m : ℕ) → cols.sequence ≡ Some m → DashAt t p → ⊥
  pub start : AtStart t d root before frames cols p progress part

-- `AtContent`, with properties at the offset
pub record AtProperties (held : PlacedProperties) (column : Option ℕ) (t : List ℕ) (d : ℕ) (root : BlockTask) (before : Part) (frames : List Frame) (p : ℕ) (progress : BlockCursor) (part : Part) : Type 0 where
  pub properties : LineProperties t p held
  pub content : AtContent t d root before frames p column progress part

-- properties on the line, or none, and the start of the node's text after them
pub data TextAfter (t : List ℕ) (p : ℕ) : Option PlacedProperties → ℕ → Type 0 where
  text_alone : Stuck (Properties t (pos 0) FlowKey p) → TextAfter t p None p
  text_held : {held : PlacedProperties} {at : ℕ} → LineProperties t p held → Stuck (LineEnd t held.end) → PlaceAfter t held.end at → TextAfter t p (Some held) at

-- after white space the line ends, or a comment begins
pub record EndsAfter (t : List ℕ) (g place : ℕ) : Type 0 where
  pub whites : List ℕ
  pub run : Many t is_white g place whites
  pub no_white : is_white (code t place) ≡ false
  pub comment : Bool
  pub ends : LineEndsAt t comment place

pub record AtAfterProperties (b : AfterProperties) (t : List ℕ) (d : ℕ) (root : BlockTask) (before : Part) (frames : List Frame) (p : ℕ) (progress : BlockCursor) (part : Part) : Type 0 where
  pub content : AtContent t d root before frames p b.node_start.column progress part
  pub text : TextAfter t p b.inner b.at

-- the counts of a part's lists
pub record CountsOf (part : Part) (counts : Counts) : Type 0 where
  pub events : counts.events ≡ length part.events
  pub comments : counts.comments ≡ length part.comments
  pub escapes : counts.escapes ≡ length part.escapes

-- the header of a block scalar
abbrev pub ScalarSignAt : List ℕ → ℕ → Type 0
ScalarSignAt t p = (code t p ≡ 124) ⊎ (code t p ≡ 62)

-- a flow node or an empty key was read after the properties, with the reader's knowledge of it, after the contents of
-- the earlier part
pub record AtInline (t : List ℕ) (d : ℕ) (root : BlockTask) (before : Part) (frames : List Frame) (depth : ℕ) (b : AfterProperties) (facts : NodeFacts) (node : Node) (progress : BlockCursor) (earlier now : Part) : Type 0 where
  pub there : AtAfterProperties b t d root before frames b.node_start.at progress earlier
  pub belonging : BelongingTied t b.node_start.at b.at there.content.start.ahead b.inner progress.wanted.entry facts.lead facts.belonging
  pub counts : CountsOf earlier facts.before
  pub depth_is : depth ≡ length frames
  pub read : InlineRead t there.content.start.room (pos progress.wanted.least) b.at depth b.inner facts.lead earlier now node
  pub no_scalar : ScalarSignAt t b.at → ⊥

-- the node is the first key of a mapping at that column, its `:` is at `colon`, and the limit allows its collections
pub record AtFirstKey (t : List ℕ) (d : ℕ) (root : BlockTask) (before : Part) (frames : List Frame) (depth : ℕ) (b : AfterProperties) (facts : NodeFacts) (column colon : ℕ) (progress : BlockCursor) (earlier now : Part) : Type 0 where
  pub node : Node
  pub inline : AtInline t d root before frames depth b facts node progress earlier now
  pub column_is : b.node_start.column ≡ Some column
  pub whites : List ℕ
  pub run : Many t is_white node.end colon whites
  pub ends : KeyEnds t b.node_start.at colon
  pub within : node.deepest < d
  pub open_there : depth < d

-- both, for any earlier part and any number of open collections
pub record AtNodeEnd (b : AfterProperties) (facts : NodeFacts) (node : Node) (t : List ℕ) (d : ℕ) (root : BlockTask) (before : Part) (frames : List Frame) (p : ℕ) (progress : BlockCursor) (part : Part) : Type 0 where
  pub depth : ℕ
  pub earlier : Part
  pub inline : AtInline t d root before frames depth b facts node progress earlier part

pub record AtKeyEnd (b : AfterProperties) (facts : NodeFacts) (column colon : ℕ) (t : List ℕ) (d : ℕ) (root : BlockTask) (before : Part) (frames : List Frame) (p : ℕ) (progress : BlockCursor) (part : Part) : Type 0 where
  pub depth : ℕ
  pub earlier : Part
  pub key : AtFirstKey t d root before frames depth b facts column colon progress earlier part

-- the lead of a node is the state ahead of it, if its text begins at the offset
pub record LeadTied (a : Ahead) (p : ℕ) (lead : Lead) : Type 0 where
  pub start : lead.start ≡ ahead_start a p
  pub props : props_value lead.props ≡ ahead_props a
  pub tag : lead.tag_offset ≡ ahead_tag a

-- a plain scalar has a known start; another node may have one only if no line begins within it, like an alias
pub data PlainIs (t : List ℕ) (place end : ℕ) (plain : Option ℕ) : Type 0 where
  plain_known : begins_plain (code t place) ≡ true → plain ≡ Some place → PlainIs t place end plain
  other_known : begins_plain (code t place) ≡ false → ((q : ℕ) → plain ≡ Some q → NoStart t q end) → PlainIs t place end plain

-- a flow node without properties of its own was read; it ends at the offset and may be the awaited node if the line
-- ends after it
pub record AtLeaf (t : List ℕ) (d : ℕ) (root : BlockTask) (before : Part) (frames : List Frame) (plain : Option ℕ) (p : ℕ) (progress : BlockCursor) (part : Part) : Type 0 where
  pub layers : List Layer
  pub room : ℕ
  pub comments : List CommentValue
  pub indentation : ℤ
  pub ahead : Ahead
  pub place : ℕ
  pub answer : ParsedNode
  pub halt : Option ParsedNode
  pub node : NodeAt t d root layers room comments (Leaf indentation ahead place) halt
  pub no_scalar : Stuck (BlockScalar t indentation place)
  pub may : MayLeaf t ahead place
  pub parsed : Parses t room (ANode (indentation +ℤ pos 1) FlowOut place) (Some answer)
  pub end : answer.end ≡ p
  pub known : PlainIs t place p plain
  pub last : progress.last ≡ answer.meaning.finish
  pub past : progress.floor ≤ p
  pub stack : StackTied (length before.events) layers frames progress halt
  pub read : ReadTied t before (all_written layers ⊕ begins (layers_entry layers) (meaning_after comments (headed ahead answer.meaning))) progress part

-- a leaf, or an empty key that is not a key of a mapping, after which the line goes on
pub data LeafEnding (plain : Option ℕ) (t : List ℕ) (d : ℕ) (root : BlockTask) (before : Part) (frames : List Frame) (p : ℕ) (progress : BlockCursor) (part : Part) : Type 0 where
  leaf_ends : AtLeaf t d root before frames plain p progress part → LeafEnding plain t d root before frames p progress part
  line_goes_on : Stuck (LineEnd t p) → ((q : ℕ) → plain ≡ Some q → NoStart t q p) → AtFailed t d root progress → LeafEnding plain t d root before frames p progress part

-- the key of a mapping that begins there is read, after the event that begins the mapping
pub record KeyAgain (t : List ℕ) (room : ℕ) (n : ℤ) (depth : ℕ) (b : AfterProperties) (entry : TheEntry.Entry) (start : EventInText) (earlier new : Part) : Type 0 where
  pub opened : Part
  pub node : Node
  pub events : opened.events ≡ earlier.events ++ start ∷ []
  pub comments : opened.comments ≡ earlier.comments
  pub escapes : opened.escapes ≡ earlier.escapes
  pub read : InlineRead t room n b.at depth b.inner (lead_at b.node_start.at b.inner (Some entry)) opened new node

pub data KeyOrLost (t : List ℕ) (room : ℕ) (n : ℤ) (depth : ℕ) (b : AfterProperties) (entry : TheEntry.Entry) (start : EventInText) (earlier new : Part) : Type 0 where
  key_again : KeyAgain t room n depth b entry start earlier new → KeyOrLost t room n depth b entry start earlier new
  key_lost : InlineLost t room n b.at b.inner → KeyOrLost t room n depth b entry start earlier new

-- the key was read after the contents of the earlier part, with the lead of the node on its line, unless the node has
-- all properties
pub record KeyRead (t : List ℕ) (room : ℕ) (n : ℤ) (depth : ℕ) (b : AfterProperties) (facts : NodeFacts) (wanted : AwaitedNode) (earlier old : Part) : Type 0 where
  pub node : Node
  pub counts : CountsOf earlier facts.before
  pub lead_is : (facts.belonging ≡ Joined → ⊥) → facts.lead ≡ lead_at b.node_start.at b.inner wanted.entry
  pub read : InlineRead t room n b.at depth b.inner facts.lead earlier old node
