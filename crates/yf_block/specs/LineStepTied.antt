-- A node awaited at the start of a line, after noting that all nodes may end before it: it is empty, or it begins on
-- that line.
use Rattle.std.specs.Prelude.{◌≡◌, ◌≢◌, ℕ, ◌-◌, ◌≤◌, ℤ, pos, ◌≤ℤ◌, true, false, List, ◌++◌, length, Option}
use Rattle.yf_chars.specs.declared.context.Ctx.{Ctx}
use Rattle.yf_chars.specs.Text.{code}
use Rattle.yf_chars.specs.Signs.{SPACE}
use Rattle.yf_chars.specs.Chain.{Chosen}
use Rattle.yf_lines.specs.Basic.{Spaces}
use Rattle.yf_comments.specs.Comment.{CommentValue}
use Rattle.yf_comments.specs.Comments.{LineEnd}
use Rattle.yf_events.specs.declared.part.Part.{Part}
use Rattle.yf_grammar.specs.Productions.Grammar.{least_column}
use Rattle.yf_grammar.specs.BlockReader.Halts.{Alone}
use Rattle.yf_grammar.specs.Productions.Meaning.{◌⊕◌}
use Rattle.yf_grammar.specs.FlowReader.Parser.{ParsedNode, only}
use Rattle.yf_grammar.specs.BlockReader.BlockParser.{DashAt, LinesEnd, NoNode, Ahead, Indicator, BlockTask, Below}
use Rattle.yf_grammar.specs.BlockReader.BlockSteps.{made_or, as_after}
use Rattle.yf_grammar.specs.BlockReader.BlockStack.{Layer, rounds, asked}
use Rattle.yf_grammar.specs.BlockReader.BlockStates.{NodeAt}
use Rattle.yf_block.specs.declared.frame.Frame.{Frame}
use Rattle.yf_block.specs.declared.frame.BlockCursor.{BlockCursor}
use Rattle.yf_block.specs.BlockTied.{ahead_comments, all_written, ReadTied, StackTied}
use Rattle.yf_block.specs.BlockStepTied.{WantedTied}

-- the outermost node's last halt, if the awaited node has this one
abbrev pub halt_with : List Layer → List CommentValue → Option ParsedNode → Option ParsedNode → Option ParsedNode
halt_with ls ds h o = made_or (λ f. rounds ls (as_after ds f)) h o

-- what is ahead may be the whole node, up to the line or an earlier one
pub record AtAlone (t : List ℕ) (d : ℕ) (root : BlockTask) (before : Part) (frames : List Frame) (p : ℕ) (progress : BlockCursor) (part : Part) : Type 0 where
  pub layers : List Layer
  pub room : ℕ
  pub comments : List CommentValue
  pub indentation : ℤ
  pub context : Ctx
  pub ahead : Ahead
  pub told : List CommentValue
  pub halt : Option ParsedNode
  pub last_alone : Option ParsedNode
  pub node : NodeAt t d root layers room comments (Below indentation context ahead progress.from) halt
  pub line : Chosen (LineEnd t progress.from) p told
  pub alone : Alone t (asked layers) ahead progress.from last_alone
  pub first : progress.first ≡ true → progress.from ≡ p
  pub not_first : progress.first ≡ false → progress.from ≡ p → p ≡ length t
  pub past : progress.floor ≤ progress.from
  pub wanted : WantedTied t progress.floor layers indentation context ahead progress.wanted
  pub last : (i : ℕ) → ahead ≡ Indicator i → progress.last ≡ i
  pub stack : StackTied (length before.events) layers frames progress (halt_with layers comments halt last_alone)
  pub read : ReadTied t before (all_written layers ⊕ only (comments ++ (ahead_comments ahead ++ told)) 0) progress part

-- no node begins on the line
pub record AtEmpty (t : List ℕ) (d : ℕ) (root : BlockTask) (before : Part) (frames : List Frame) (p : ℕ) (progress : BlockCursor) (part : Part) : Type 0 where
  pub at : AtAlone t d root before frames p progress part
  pub none : NoNode t at.indentation at.context progress.from p

-- no sequence that may be the node begins after the spaces of the line
pub record AtIndented (t : List ℕ) (d : ℕ) (root : BlockTask) (before : Part) (frames : List Frame) (p start : ℕ) (progress : BlockCursor) (part : Part) : Type 0 where
  pub at : AtAlone t d root before frames p progress part
  pub goes_on : LinesEnd t p → ⊥
  pub order : p ≤ start
  pub spaces : Spaces t p (start - p)
  pub no_space : code t start ≢ SPACE
  pub undashed : DashAt t start → least_column true at.indentation at.context ≤ℤ pos (start - p) → ⊥
