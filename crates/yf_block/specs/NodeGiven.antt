-- The result of the reader of block nodes: the longest block node within the limit of open collections, written after
-- the contents of a part; or none, because none is derived there.
use Rattle.std.specs.Prelude.{◌≡◌, ℕ, ◌+◌, ◌<◌, ◌^◌, ◌≤◌, ℤ, pos, ◌+ℤ◌, true, false, List, [], Option, Some, None}
use Rattle.yf_chars.specs.declared.context.Ctx.{Ctx}
use Rattle.yf_chars.specs.Chain.{Stuck, Chosen}
use Rattle.yf_events.specs.declared.part.Part.{Part}
use Rattle.yf_grammar.specs.BlockReader.BlockParser.{Nothing, Awaited}
use Rattle.yf_grammar.specs.Productions.ReadParts.{BlockNodePart}
use Rattle.yf_flow.specs.NodeStarts.{PartGrown}
use Rattle.yf_flow.specs.Depth.{openers_from}
use Rattle.yf_block.specs.declared.nodes.FoundBlock.{FoundBlock as FoundNode}
use Rattle.yf_block.specs.declared.nodes.BlockOutcome.{BlockOutcome}
use Rattle.yf_block.specs.declared.nodes.BlockOutcome.TheVariants.{Found, Nothing as NoNode, TooDeep as TooDeepHere}
use Rattle.yf_block.specs.BlockTied.{floor_after}
use Rattle.yf_block.specs.BlockStepTied.{TextIsLeft}

-- an indentation of a node, from -1 to 2^30; every column of a text of 1 GiB is below 2^30
pub record Indentation (n : ℤ) : Type 0 where
  pub least : ℕ
  pub is : pos least ≡ n +ℤ pos 1
  pub narrow : least ≤ 2 ^ 30 + 1

-- the node that ends there, as a part of its own, and the end of its last block scalar
pub record NodeGiven (t : List ℕ) (limit : ℕ) (n : ℤ) (c : Ctx) (at end floor : ℕ) (before part : Part) : Type 0 where
  pub node : Part
  pub chosen : Chosen (BlockNodePart t limit n c at) end node
  pub added : PartGrown before part node.events node.comments node.escapes
  pub floor_is : floor ≡ floor_after 0 node.events

-- a found node: the part's new contents are known if nothing went wrong after it, or if the part was empty;
-- `too_deep` is only set if more openers than the limit are after the offset
pub record FoundTied (t : List ℕ) (limit : ℕ) (n : ℤ) (c : Ctx) (at : ℕ) (before : Part) (f : FoundNode) (part : Part) : Type 0 where
  pub whole : f.whole ≡ true → NodeGiven t limit n c at f.end f.floor before part
  pub broken : f.whole ≡ false → TextIsLeft t limit (Awaited false n c Nothing at)
  pub deep : f.too_deep ≡ true → limit < openers_from t at
  pub alone : before.events ≡ [] → before.comments ≡ [] → before.escapes ≡ [] → NodeGiven t limit n c at f.end f.floor before part

-- none is derived there
pub record NoneTied (t : List ℕ) (limit : ℕ) (n : ℤ) (c : Ctx) (at : ℕ) : Type 0 where
  pub none : Stuck (BlockNodePart t limit n c at)
  pub broken : TextIsLeft t limit (Awaited false n c Nothing at)

abbrev pub OutcomeTied : List ℕ → ℕ → ℤ → Ctx → ℕ → Part → BlockOutcome → Part → Type 0
OutcomeTied t limit n c at before (Found f) part = FoundTied t limit n c at before f part
OutcomeTied t limit n c at before (NoNode p) part = NoneTied t limit n c at
OutcomeTied t limit n c at before (TooDeepHere p) part = NoneTied t limit n c at × (limit < openers_from t at)

-- the prefix of the text that ends with the node has been read again
abbrev pub PrefixGiven : List ℕ → ℕ → ℤ → Ctx → ℕ → ℕ → Part → Option ℕ → Part → Type 0
PrefixGiven t limit n c at end before None part = ⊥
PrefixGiven t limit n c at end before (Some floor) part = NodeGiven t limit n c at end floor before part
