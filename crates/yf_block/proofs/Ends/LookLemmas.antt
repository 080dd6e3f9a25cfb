-- Tests at an offset of a block node.
use Rattle.std.proofs.Common.{◌≡◌, ◌+◌, arith, ℕ, List, Option, Some, None, IfSome}
use Rattle.yf_chars.specs.Boundary.{BoundaryFrom}
use Rattle.yf_flow.specs.Machine.{EndingAt}
use Rattle.yf_flow.specs.declared.nodes.Ending.{Ending}
use Rattle.yf_flow.specs.declared.nodes.Ending.TheVariants.{End, Nothing as NoEnd, TooDeep}
use Rattle.yf_block.specs.declared.properties.PlacedProperties.{PlacedProperties}
use Rattle.yf_block.specs.Machine.{MayPlace, PropertiesBefore, PropertiesTo, earliest_end}

pub may_place : (t : List ℕ) (at : ℕ) (o : Option ℕ) → IfSome o (λ p. BoundaryFrom t at p) → MayPlace t at o
may_place t at None p = tt
may_place t at (Some i) p = p

-- the properties before an offset that is after the properties of a line
pub properties_before : (t : List ℕ) (start at : ℕ) (inner : Option PlacedProperties) → PropertiesTo t start at inner → PropertiesBefore t at inner
properties_before t start at None e = tt
properties_before t start at (Some h) q = (q.0.boundary, q.1)

-- a node read there ends after the properties, too
pub found_after : (t : List ℕ) (at : ℕ) (inner : Option PlacedProperties) (e : Ending) → PropertiesBefore t at inner → EndingAt t (at + 1) e → EndingAt t (earliest_end at inner) e
found_after t at None e b p = p
found_after t at (Some h) (End node) b p = let k = b.1 in record { boundary = p.boundary; order = let o = p.order in omega arith }
found_after t at (Some h) NoEnd b p = tt
found_after t at (Some h) (TooDeep i) b p = p
