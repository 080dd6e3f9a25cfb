-- The offset noted as the last one at which all open nodes may end. Before the `:` of an open entry with a `?`, it is
-- the start of the last line before that one.
use Rattle.std.specs.Prelude.{◌≡◌, ℕ, List, [], Option, Some, None}
use Rattle.yf_block.specs.declared.frame.Frame.{Frame}
use Rattle.yf_block.specs.declared.properties.PlacedProperties.{PlacedProperties}
use Rattle.yf_block.specs.AwaitedColons.{AwaitsAt, AwaitedColon}
use Rattle.yf_block.specs.LastStarts.{LastStart, NoStart}

-- if the count of awaited `:` is 0, no open collection awaits one
abbrev pub ColonsCounted : ℕ → List Frame → Type 0
ColonsCounted colons fs = colons ≡ 0 → (m : ℕ) → AwaitsAt m fs → ⊥

-- it is the outermost node without known properties, which may not be empty
abbrev pub IsOutermost : Option PlacedProperties → List Frame → Type 0
IsOutermost outer fs = (outer ≡ None) × (fs ≡ [])

-- an awaited node is empty at a line; the end of the line before it was read from an offset on
pub data EmptyNoted (t : List ℕ) (from at : ℕ) (fs : List Frame) (old : Option ℕ) : Option ℕ → Type 0 where
  empty_noted : (AwaitedColon t at fs → ⊥) → EmptyNoted t from at fs old (Some at)
  empty_before : {p : ℕ} → AwaitedColon t at fs → LastStart t from at p → EmptyNoted t from at fs old (Some p)
  empty_nowhere : AwaitedColon t at fs → NoStart t from at → EmptyNoted t from at fs old old

-- a plain scalar without its last line; it begins and ends at the offsets
pub data ShorterNoted (t : List ℕ) (end : ℕ) (old : Option ℕ) : Option ℕ → Option ℕ → Type 0 where
  shorter_noted : {start p : ℕ} → LastStart t start end p → ShorterNoted t end old (Some start) (Some p)
  one_line : {start : ℕ} → NoStart t start end → ShorterNoted t end old (Some start) old
  no_plain : ShorterNoted t end old None old

-- a node ends at an offset, and the next line begins at the other one
pub data NodeNoted (t : List ℕ) (plain : Option ℕ) (from at : ℕ) (fs : List Frame) (old : Option ℕ) : Option ℕ → Type 0 where
  node_noted : (AwaitedColon t at fs → ⊥) → NodeNoted t plain from at fs old (Some at)
  node_before : {p : ℕ} → AwaitedColon t at fs → LastStart t from at p → NodeNoted t plain from at fs old (Some p)
  node_shorter : {new : Option ℕ} → AwaitedColon t at fs → NoStart t from at → ShorterNoted t from old plain new → NodeNoted t plain from at fs old new
