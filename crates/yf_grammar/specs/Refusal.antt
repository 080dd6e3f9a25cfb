-- Why the readers of nodes return no node. P says which parts may be read from the offset: an end and a part of the
-- text up to it, with no more collections open at once than the limit.
use Rattle.std.specs.Prelude.{◌≡◌, ℕ, ◌<◌, Bool, ◌==◌, ◌||◌, List, ◌∷◌, count_by, drop}
use Rattle.yf_chars.specs.Chain.{Stuck, Chosen}
use Rattle.yf_lines.specs.FaultPlaces.{InText, IsPlaceOf}
use Rattle.yf_lines.specs.declared.fault.Fault.{Fault}
use Rattle.yf_lines.specs.declared.fault.Fault.TheVariants.{Memory, TooDeep, EscapeValue}
use Rattle.yf_lines.specs.declared.place.Position.{Position}
use Rattle.yf_events.specs.declared.part.Part.{Part}
use Rattle.yf_events.specs.declared.reading.TheConstants.{DEPTH}

-- the openers are [ { - ? and : . Each collection has an opener of its own: a flow collection its bracket, a block
-- sequence the - of its first entry, another mapping the ? or : of its first entry. So a text opens no more collections
-- than it has openers
abbrev pub is_opener : ℕ → Bool
is_opener c = (c == 91) || (c == 123) || (c == 45) || (c == 63) || (c == 58)

abbrev pub openers : List ℕ → ℕ
openers t = count_by is_opener t

-- a scan form refuses only if memory was refused, or if nothing is derived within the limit and the text from the
-- offset on has more openers than the limit
pub data ScanFault (t : List ℕ) (P : ℕ → Part → Type 0) (at : ℕ) : Fault → Type 0 where
  for_memory : ScanFault t P at Memory
  for_depth : {place : Position} → Stuck P → DEPTH < openers (drop at t) → InText t place → ScanFault t P at (TooDeep place)

-- a reader refuses for these causes, and if the longest part has an escape that is no character: at the first of them
pub data NodeFault (t : List ℕ) (P : ℕ → Part → Type 0) (at : ℕ) : Fault → Type 0 where
  as_scanned : {fault : Fault} → ScanFault t P at fault → NodeFault t P at fault
  for_escape : {j first : ℕ} {more : List ℕ} {part : Part} {place : Position} → Chosen P j part → part.escapes ≡ first ∷ more
      → IsPlaceOf t first place → NodeFault t P at (EscapeValue place)
