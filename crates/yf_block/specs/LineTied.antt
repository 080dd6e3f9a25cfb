-- The end of a line before an awaited node that may be on a later line.
use Rattle.std.specs.Prelude.{◌≡◌, ℕ, ◌≤◌, ℤ, List, ◌++◌, length, Option}
use Rattle.yf_chars.specs.declared.context.Ctx.{Ctx}
use Rattle.yf_chars.specs.Chain.{Stuck, Chosen}
use Rattle.yf_lines.specs.Basic.{LineStart}
use Rattle.yf_comments.specs.Comment.{CommentValue}
use Rattle.yf_comments.specs.Comments.{LineEnd}
use Rattle.yf_events.specs.declared.part.Part.{Part}
use Rattle.yf_grammar.specs.Productions.Meaning.{◌⊕◌}
use Rattle.yf_grammar.specs.FlowReader.Parser.{ParsedNode, only}
use Rattle.yf_grammar.specs.BlockReader.BlockParser.{Ahead, Nothing, Indicator, BlockTask, Below}
use Rattle.yf_grammar.specs.BlockReader.BlockStack.{Layer}
use Rattle.yf_grammar.specs.BlockReader.BlockStates.{NodeAt}
use Rattle.yf_block.specs.declared.frame.Frame.{Frame}
use Rattle.yf_block.specs.declared.frame.BlockCursor.{BlockCursor}
use Rattle.yf_block.specs.BlockTied.{ahead_comments, all_written, ReadTied, StackTied}
use Rattle.yf_block.specs.BlockStepTied.{WantedTied, AtFailed}

-- the line may end at the offset; if it does not, all nodes break
pub record AtBelow (t : List ℕ) (d : ℕ) (root : BlockTask) (before : Part) (frames : List Frame) (p : ℕ) (progress : BlockCursor) (part : Part) : Type 0 where
  pub layers : List Layer
  pub room : ℕ
  pub comments : List CommentValue
  pub indentation : ℤ
  pub context : Ctx
  pub ahead : Ahead
  pub halt : Option ParsedNode
  pub node : (k : ℕ) (ds : List CommentValue) → Chosen (LineEnd t p) k ds → NodeAt t d root layers room comments (Below indentation context ahead p) halt
  pub unended : Stuck (LineEnd t p) → AtFailed t d root progress
  pub started : LineStart t p → ahead ≡ Nothing
  pub wanted : WantedTied t progress.floor layers indentation context ahead progress.wanted
  pub last : (i : ℕ) → ahead ≡ Indicator i → progress.last ≡ i
  pub past : progress.floor ≤ p
  pub stack : StackTied (length before.events) layers frames progress halt
  pub read : ReadTied t before (all_written layers ⊕ only (comments ++ ahead_comments ahead) 0) progress part
