-- An item of the innermost open collection on a line after a node, with no frame to take off the stack.
use Rattle.std.specs.Prelude.{◌≡◌, ℕ, ◌-◌, false, List, ◌∷◌, Option, Some}
use Rattle.yf_grammar.specs.BlockReader.BlockParser.{DashAt}
use Rattle.yf_block.specs.declared.frame.Frame.{Frame}
use Rattle.yf_block.specs.declared.frame.CollectionKind.TheVariants.{Sequence}

-- the innermost of the open collections is a sequence at the column
pub record TopSequence (frames : List Frame) (column : ℕ) : Type 0 where
  pub frame : Frame
  pub outer : List Frame
  pub stack : frames ≡ frame ∷ outer
  pub sequence : frame.kind ≡ Sequence
  pub settled : frame.awaits_colon ≡ false
  pub column_is : column ≡ frame.column

-- an item of it begins at `start`, the offset `place` of the line at `at`
pub record ItemBelow (t : List ℕ) (at : ℕ) (place : Option ℕ) (frames : List Frame) (start : ℕ) : Type 0 where
  pub starts : place ≡ Some start
  pub top : TopSequence frames (start - at)
  pub dash : DashAt t start
