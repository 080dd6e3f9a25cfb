-- The result made of the parts of a stream, once all of it has been read: its lists, or its first breach.
use Rattle.std.specs.Prelude.{◌≡◌, ℕ, List, [], map, None, Result, MatchResult}
use Rattle.std.specs.Borrow.{Bor}
use Rattle.yf_lines.specs.FaultPlaces.{IsPlaceOf}
use Rattle.yf_lines.specs.declared.fault.Fault.{Fault}
use Rattle.yf_lines.specs.declared.fault.Fault.TheVariants.{Memory, Syntax, TooDeep}
use Rattle.yf_lines.specs.declared.place.Position.{Position}
use Rattle.yf_events.specs.declared.lists.Lists.{Lists}
use Rattle.yf_lines.specs.Lines.{AreLines}
use Rattle.yf_lines.specs.declared.line.Line.{Line}
use Rattle.yf_stream.specs.LeafPass.{AreInOrder, end_on_line, last_end, leaf_spans}
use Rattle.yf_stream.specs.StreamReader.{fault_of}
use Rattle.yf_stream.specs.TagPass.{PassTags, stream_breaches}
use Rattle.yf_stream.specs.WellFormed.{IsFirst}
use Rattle.yf_stream.specs.declared.breaches.Breach.{Breach}
use Rattle.yf_stream.specs.declared.documents.Parts.{Parts}
use Rattle.yf_stream.specs.declared.stream.Refusal.{Refusal}
use Rattle.yf_stream.specs.declared.stream.Refusal.TheVariants as Refusals
use Rattle.yf_diagnose.specs.declared.diagnosis.Diagnosis.{Diagnosis as Told}
use Rattle.yf_diagnose.specs.SecondReadings.{IsDiagnosis}

-- the parts have no breach, and the lists hold them with their resolved tags; and, if events and comments are in order,
-- with the notes which comments are on the lines of leaves
pub record ListsOf (t : List ℕ) (p : Parts) (r : Lists) : Type 0 where
  pub quiet : stream_breaches p.documents p.part.events p.part.escapes ≡ []
  pub tags : PassTags p.documents [] p.part.events r.resolved
  pub events : r.events ≡ p.part.events
  pub comments : r.comments ≡ p.part.comments
  pub documents : r.documents ≡ p.documents
  pub escapes : r.escapes ≡ p.part.escapes
  pub notes : (ls : List Line) → AreLines t ls → AreInOrder t p.part.events p.part.comments
      → r.on_leaf_line ≡ map (λ c. end_on_line ls (last_end None c.offset (leaf_spans p.part.events)) c.offset) p.part.comments

-- the refusal is for the first breach in the parts
abbrev pub IsFirstBreach : Parts → Refusal → Type 0
IsFirstBreach p (Refusals.Breach b) = IsFirst (stream_breaches p.documents p.part.events p.part.escapes) b
IsFirstBreach p (Refusals.Syntax offset) = ⊥
IsFirstBreach p (Refusals.TooDeep offset) = ⊥

abbrev pub ListsOrRefusal : List ℕ → Parts → Result Lists Refusal → Type 0
ListsOrRefusal t p r = MatchResult r (ListsOf t p) (IsFirstBreach p)

-- the fault is `Memory`, or that of the refusal: `Syntax` at the position of the offset's diagnosis, or another one at
-- the position of the offset
pub data FaultAt (t : List ℕ) : Refusal → Fault → Type 0 where
  for_memory : {refusal : Refusal} → FaultAt t refusal Memory
  no_stream : {offset : ℕ} {place : Position} {what : Bor (List ℕ)} (told : Told) → IsDiagnosis t offset told → IsPlaceOf t told.at place
      → FaultAt t (Refusals.Syntax offset) (Syntax place what)
  too_deep : {offset : ℕ} {place : Position} → IsPlaceOf t offset place → FaultAt t (Refusals.TooDeep offset) (TooDeep place)
  breached : {b : Breach} {place : Position} {fault : Fault} → IsPlaceOf t b.offset place → fault ≡ fault_of b.kind place
      → FaultAt t (Refusals.Breach b) fault
