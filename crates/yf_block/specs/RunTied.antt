-- The results of a run of the reader of block nodes, from its first step until it stops, by the recursive reader.
use Rattle.std.specs.Prelude.{◌≡◌, ℕ, ◌+◌, ◌<◌, ◌≤◌, ◌^◌, ℤ, pos, ◌+ℤ◌, Bool, true, false, List, [], Option, Some}
use Rattle.yf_chars.specs.declared.context.Ctx.{Ctx}
use Rattle.yf_lines.specs.Basic.{is_block}
use Rattle.yf_events.specs.declared.part.Part.{Part}
use Rattle.yf_grammar.specs.FlowReader.Parser.{ParsedNode}
use Rattle.yf_grammar.specs.BlockReader.BlockParser.{BlockTask, Whole}
use Rattle.yf_grammar.specs.BlockReader.Halts.{Halts}
use Rattle.yf_block.specs.declared.frame.BlockCursor.{BlockCursor}
use Rattle.yf_block.specs.declared.nodes.BlockOutcome.{BlockOutcome}
use Rattle.yf_block.specs.declared.nodes.BlockOutcome.TheVariants.{Nothing as NoNode, TooDeep as TooDeepHere}
use Rattle.yf_block.specs.declared.nodes.Root.{Root}
use Rattle.yf_block.specs.declared.nodes.Stop.{Stop}
use Rattle.yf_block.specs.declared.nodes.Stop.TheVariants.{Done, Failed, TooDeep}
use Rattle.yf_block.specs.declared.nodes.Stopped.{Stopped}
use Rattle.yf_block.specs.BlockTied.{floor_after, PartSoFar, halt_end, TextTied}
use Rattle.yf_block.specs.BlockStepTied.{is_out, TextIsLeft, AtDone, AtFailed}

abbrev pub StopTied : List ℕ → ℕ → BlockTask → Part → Stop → BlockCursor → Part → Type 0
StopTied t d root before (Done p) progress part = AtDone t d root before p progress part
StopTied t d root before (Failed p) progress part = AtFailed t d root progress
StopTied t d root before (TooDeep p) progress part = AtFailed t d root progress

abbrev pub StopCounted : ℕ → ℕ → Stop → Type 0
StopCounted limit total (Done p) = Unit {0}
StopCounted limit total (Failed p) = Unit {0}
StopCounted limit total (TooDeep p) = limit < total

-- whether the text opens more collections than the limit
abbrev pub is_too_deep : Stop → Bool
is_too_deep (Done p) = false
is_too_deep (Failed p) = false
is_too_deep (TooDeep p) = true

-- the outcome if no node ends
abbrev pub StopsAs : Stop → BlockOutcome → Type 0
StopsAs (Done p) o = o ≡ NoNode p
StopsAs (Failed p) o = o ≡ NoNode p
StopsAs (TooDeep p) o = o ≡ TooDeepHere p

-- the outermost node has been read and ends there
pub record RunDone (t : List ℕ) (d : ℕ) (root : BlockTask) (before : Part) (p : ℕ) (r : Stopped) (part : Part) : Type 0 where
  pub answer : ParsedNode
  pub halt : Option ParsedNode
  pub whole : Whole t d root (Some answer)
  pub halts : Halts t d [] root halt
  pub end : answer.end ≡ p
  pub halted : r.halt ≡ halt_end halt
  pub floor : r.floor ≡ floor_after 0 answer.meaning.events
  pub written : PartSoFar t before answer.meaning part

-- the text goes wrong
pub record RunBroken (t : List ℕ) (d : ℕ) (root : BlockTask) (r : Stopped) : Type 0 where
  pub halt : Option ParsedNode
  pub unfinished : TextIsLeft t d root
  pub halts : Halts t d [] root halt
  pub halted : r.halt ≡ halt_end halt

abbrev pub StopGives : List ℕ → ℕ → BlockTask → Part → Stop → Stopped → Part → Type 0
StopGives t d root before (Done p) r part = RunDone t d root before p r part
StopGives t d root before (Failed p) r part = RunBroken t d root r
StopGives t d root before (TooDeep p) r part = RunBroken t d root r

pub record RunTied (t : List ℕ) (d : ℕ) (root : BlockTask) (before : Part) (r : Stopped) (part : Part) : Type 0 where
  pub gives : StopGives t d root before r.stop r part

-- the root: a node in an indentation and a context of block nodes
pub record ReadRoot (t : List ℕ) (root : Root) (n : ℤ) (c : Ctx) : Type 0 where
  pub text : TextTied t
  pub block : is_block c ≡ true
  pub least : pos root.least ≡ n +ℤ pos 1
  pub narrow : root.least ≤ 2 ^ 30 + 1
  pub out : root.out ≡ is_out c

-- the last offset at which all open nodes may end
pub record HaltAt (t : List ℕ) (d : ℕ) (root : BlockTask) (end : ℕ) : Type 0 where
  pub found : ParsedNode
  pub halts : Halts t d [] root (Some found)
  pub ends : found.end ≡ end
