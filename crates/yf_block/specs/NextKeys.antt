-- A key of the innermost open collection on a line after a node, with no frame to take off the stack.
use Rattle.std.specs.Prelude.{◌≡◌, ℕ, ◌-◌, false, List, ◌∷◌, Option, Some}
use Rattle.yf_grammar.specs.BlockReader.BlockParser.{SignAt}
use Rattle.yf_block.specs.declared.frame.Frame.{Frame}
use Rattle.yf_block.specs.declared.frame.CollectionKind.TheVariants.{Mapping}

-- the innermost of the open collections is a mapping at the column that awaits no `:`
pub record TopMapping (frames : List Frame) (column : ℕ) : Type 0 where
  pub frame : Frame
  pub outer : List Frame
  pub stack : frames ≡ frame ∷ outer
  pub mapping : frame.kind ≡ Mapping
  pub settled : frame.awaits_colon ≡ false
  pub column_is : column ≡ frame.column

-- a key of it begins at `start`, the offset `place` of the line at `at`, without a sign
pub record KeyBelow (t : List ℕ) (at : ℕ) (place : Option ℕ) (frames : List Frame) (start : ℕ) : Type 0 where
  pub starts : place ≡ Some start
  pub top : TopMapping frames (start - at)
  pub no_question : SignAt t 63 start → ⊥
  pub no_colon : SignAt t 58 start → ⊥
