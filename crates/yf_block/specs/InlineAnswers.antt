-- The results of the reader of a node on a line, by the recursive reader: after properties, or without them, comes a
-- flow node or the `:` after an empty key. It is written after the contents of a part, with the lead of the node.
use Rattle.std.specs.Prelude.{◌≡◌, ℕ, ◌+◌, ℤ, true, false, List, Option, Some, None}
use Rattle.yf_chars.specs.declared.context.Ctx.TheVariants.{FlowOut}
use Rattle.yf_chars.specs.Text.{code}
use Rattle.yf_events.specs.declared.part.Part.{Part}
use Rattle.yf_grammar.specs.BlockReader.BlockParser.{SignAt}
use Rattle.yf_grammar.specs.Productions.Meaning.{from_to, empty_node}
use Rattle.yf_grammar.specs.FlowReader.Parser.{ParsedNode, ANode, Parses, begins_alias}
use Rattle.yf_flow.specs.declared.frame.Node.{Node}
use Rattle.yf_flow.specs.declared.node.Lead.{Lead}
use Rattle.yf_flow.specs.declared.nodes.Ending.{Ending}
use Rattle.yf_flow.specs.declared.nodes.Ending.TheVariants.{End, Nothing as NoEnd, TooDeep as TooDeepThere}
use Rattle.yf_flow.specs.NodeStarts.{ContentAt}
use Rattle.yf_flow.specs.ContentAnswers.{WrittenWith}
use Rattle.yf_flow.specs.Leaves.{KeyLine}
use Rattle.yf_block.specs.declared.properties.PlacedProperties.{PlacedProperties}

-- the `:` of a key that begins at the first offset, on its line and within the limit of characters
pub record KeyEnds (t : List ℕ) (start k : ℕ) : Type 0 where
  pub colon : SignAt t 58 k
  pub line : KeyLine t start k

-- no empty key is at the offset, or one is and its properties end at an offset
abbrev pub NoEmptyKey : List ℕ → ℕ → Option PlacedProperties → Type 0
NoEmptyKey t at held = (properties : PlacedProperties) → held ≡ Some properties → SignAt t 58 at → ⊥

pub record EmptyKeyAt (t : List ℕ) (at : ℕ) (held : Option PlacedProperties) (end : ℕ) : Type 0 where
  pub properties : PlacedProperties
  pub is : held ≡ Some properties
  pub colon : SignAt t 58 at
  pub ends : end ≡ properties.end

-- the reader's node has the end and the kind of the parsed one, and its depth
pub record NodeIs (depth : ℕ) (f : ParsedNode) (node : Node) : Type 0 where
  pub end : node.end ≡ f.end
  pub json : node.json ≡ f.json
  pub deepest : node.deepest ≡ depth + f.height
  pub finish : f.meaning.finish ≡ f.end

-- a plain scalar, a quoted one or a flow collection; an alias without properties before it; the `:` after properties
-- that are an empty key
pub data InlineRead (t : List ℕ) (room : ℕ) (n : ℤ) (at depth : ℕ) (held : Option PlacedProperties) (lead : Lead) (old new : Part) (node : Node) : Type 0 where
  content_read : {f : ParsedNode} → NoEmptyKey t at held → begins_alias (code t at) ≡ false → ContentAt t room n FlowOut at (Some f) → NodeIs depth f node
      → WrittenWith t lead f.meaning (from_to at node.end) node.end old new → InlineRead t room n at depth held lead old new node
  alias_read : {f : ParsedNode} → held ≡ None → Parses t room (ANode n FlowOut at) (Some f) → NodeIs depth f node → WrittenWith t lead f.meaning (from_to at node.end) node.end old new
      → InlineRead t room n at depth held lead old new node
  empty_key_read : EmptyKeyAt t at held node.end → node.json ≡ false → node.deepest ≡ depth → WrittenWith t lead (empty_node node.end) None node.end old new
      → InlineRead t room n at depth held lead old new node

-- nothing at the offset may be the node
pub data InlineLost (t : List ℕ) (room : ℕ) (n : ℤ) (at : ℕ) (held : Option PlacedProperties) : Type 0 where
  content_lost : NoEmptyKey t at held → begins_alias (code t at) ≡ false → ContentAt t room n FlowOut at None → InlineLost t room n at held
  alias_lost : held ≡ None → Parses t room (ANode n FlowOut at) None → InlineLost t room n at held
  alias_after : {properties : PlacedProperties} → NoEmptyKey t at held → held ≡ Some properties → begins_alias (code t at) ≡ true → InlineLost t room n at held

abbrev pub InlineEnds : List ℕ → ℕ → ℤ → ℕ → ℕ → Option PlacedProperties → Lead → Part → Part → Ending → Type 0
InlineEnds t room n at depth held lead old new (End node) = InlineRead t room n at depth held lead old new node
InlineEnds t room n at depth held lead old new NoEnd = InlineLost t room n at held
InlineEnds t room n at depth held lead old new (TooDeepThere p) = InlineLost t room n at held
