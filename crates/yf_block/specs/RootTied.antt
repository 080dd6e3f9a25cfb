-- The state in which the reader of block nodes begins, before it has read anything.
use Rattle.std.specs.Prelude.{◌≡◌, ℕ, ◌+◌, ◌^◌, ◌≤◌, ℤ, pos, ◌+ℤ◌, false, List, [], None}
use Rattle.yf_chars.specs.declared.context.Ctx.{Ctx}
use Rattle.yf_events.specs.declared.part.Part.{Part}
use Rattle.yf_grammar.specs.BlockReader.BlockParser.{Nothing, BlockTask, Awaited}
use Rattle.yf_block.specs.declared.frame.Frame.{Frame}
use Rattle.yf_block.specs.declared.frame.BlockCursor.{BlockCursor}
use Rattle.yf_block.specs.BlockTied.{TextTied}
use Rattle.yf_block.specs.BlockStepTied.{is_out}

pub record AtRoot (t : List ℕ) (n : ℤ) (c : Ctx) (at : ℕ) (progress : BlockCursor) : Type 0 where
  pub text : TextTied t
  pub least : pos progress.wanted.least ≡ n +ℤ pos 1
  pub narrow : progress.wanted.least ≤ 2 ^ 30 + 1
  pub out : progress.wanted.out ≡ is_out c
  pub compact : progress.wanted.compact ≡ false
  pub entry : progress.wanted.entry ≡ None
  pub outer : progress.wanted.outer ≡ None
  pub last : progress.last ≡ at
  pub floor : progress.floor ≡ 0
  pub colons : progress.colons ≡ 0
  pub halt : progress.halt ≡ None

-- the outermost node is awaited, before the part has anything of it
pub record AtBegin (t : List ℕ) (d : ℕ) (root : BlockTask) (before : Part) (frames : List Frame) (p : ℕ) (progress : BlockCursor) (part : Part) : Type 0 where
  pub indentation : ℤ
  pub context : Ctx
  pub root_is : root ≡ Awaited false indentation context Nothing p
  pub before_is : before ≡ part
  pub alone : frames ≡ []
  pub awaited : AtRoot t indentation context p progress
