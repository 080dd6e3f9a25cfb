-- The relation of a line to an open collection, as the reader finds it.
use Rattle.std.specs.Prelude.{◌≡◌, ℕ, ◌+◌, ◌<◌, List, Option, Some, None}
use Rattle.yf_grammar.specs.BlockReader.BlockParser.{DashAt, LineText}
use Rattle.yf_block.specs.declared.frame.Frame.{Frame}
use Rattle.yf_block.specs.declared.frame.CollectionKind.TheVariants.{Sequence, Mapping}
use Rattle.yf_block.specs.declared.resume.Fit.{Fit}
use Rattle.yf_block.specs.declared.resume.Fit.TheVariants.{Item, Entry, Deeper, EndsBefore}
use Rattle.yf_block.specs.LookTests.{EntryPlace}

-- an entry may begin at `p` on the line that begins at `at`; without `p`, no line of a node begins there
abbrev pub PlaceTied : List ℕ → ℕ → Option ℕ → Type 0
PlaceTied t at None = (m p : ℕ) → LineText t at m p → ⊥
PlaceTied t at (Some p) = EntryPlace t at p

pub record ItemLine (t : List ℕ) (at : ℕ) (f : Frame) (p : ℕ) : Type 0 where
  pub kind : f.kind ≡ Sequence
  pub first : ℕ
  pub line : LineText t at f.column first
  pub is_there : p ≡ at + f.column
  pub dash : DashAt t p

pub record PairLine (t : List ℕ) (at : ℕ) (f : Frame) (p : ℕ) : Type 0 where
  pub kind : f.kind ≡ Mapping
  pub first : ℕ
  pub line : LineText t at f.column first
  pub is_there : p ≡ at + f.column

pub record DeepLine (t : List ℕ) (at : ℕ) (f : Frame) : Type 0 where
  pub column : ℕ
  pub first : ℕ
  pub line : LineText t at column first
  pub deep : f.column < column

pub data EndLine (t : List ℕ) (at : ℕ) (f : Frame) : Type 0 where
  no_line : ((m p : ℕ) → LineText t at m p → ⊥) → EndLine t at f
  less_deep : {m p : ℕ} → LineText t at m p → m < f.column → EndLine t at f
  no_dash : {p : ℕ} → f.kind ≡ Sequence → LineText t at f.column p → (DashAt t (at + f.column) → ⊥) → EndLine t at f

abbrev pub FitsLine : List ℕ → ℕ → Frame → Fit → Type 0
FitsLine t at f (Item p) = ItemLine t at f p
FitsLine t at f (Entry p) = PairLine t at f p
FitsLine t at f (Deeper p) = DeepLine t at f
FitsLine t at f EndsBefore = EndLine t at f
