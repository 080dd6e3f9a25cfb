-- Refusals and their faults: the parts of a stream that have been read are its reading, or show why it has none.
use Rattle.std.proofs.Common.{◌≡◌, ℕ, List, Option, Result, Ok, Err, IfOk, subst}
use Rattle.std.specs.List.{All}
use Rattle.std.specs.Str.{IsCharBoundary, IsUtf8}
use Rattle.std.specs.declared.alloc.AllocError.{AllocError}
use Rattle.yf_lines.specs.declared.fault.Fault.{Fault}
use Rattle.yf_events.specs.declared.lists.Lists.{Lists}
use Rattle.yf_stream.specs.DerivedStreams.{ListsDerived, NotDerived, RefusalDerived, ShapeOr, ShapeRead}
use Rattle.yf_stream.specs.NotedLists.{FaultAt, IsFirstBreach, ListsOrRefusal, breached as told_at, for_memory, no_stream as no_stream_at, too_deep as too_deep_at}
use Rattle.yf_stream.specs.RefusalPlaces.{DocumentsAt, RefusalAt, offset_of}
use Rattle.yf_stream.specs.StreamReader.{StreamFault, breached, for_memory as memory_refused, no_stream, too_deep}
use Rattle.yf_stream.specs.declared.documents.Parts.{Parts}
use Rattle.yf_stream.specs.declared.stream.Refusal.{Refusal}
use Rattle.yf_stream.specs.declared.stream.Refusal.TheVariants as Refusals
use Rattle.yf_stream.proofs.Offsets.BreachBoundaries.{first_told}
use Rattle.yf_stream.proofs.Reader.ReadingMade.{first_breach, reading_made}

first_derived : {t : List ℕ} (p : Parts) (refusal : Refusal) → IsUtf8 t → ShapeRead t p → DocumentsAt t p.documents → All (IsCharBoundary t) p.part.escapes → IsFirstBreach p refusal
    → RefusalDerived t refusal
first_derived p (Refusals.Breach b) u s d e f =
    let first = first_breach u s.shapes s.parts f in
    record { documents = s.documents; shapes = s.shapes; first = first; place = first_told u s.shapes s.parts d e first }
first_derived p (Refusals.Syntax offset) u s d e f = absurd f
first_derived p (Refusals.TooDeep offset) u s d e f = absurd f

pub lists_derived : (t : List ℕ) (p : Parts) (r : Result Lists Refusal) → IsUtf8 t → ShapeRead t p → DocumentsAt t p.documents → All (IsCharBoundary t) p.part.escapes → ListsOrRefusal t p r
    → ListsDerived t r
lists_derived t p (Ok lists) u s d e n = reading_made u s.shapes s.parts n
lists_derived t p (Err refusal) u s d e n = first_derived p refusal u s d e n

pub not_derived_refusal : (t : List ℕ) (refusal : Refusal) → NotDerived t refusal → RefusalDerived t refusal
not_derived_refusal t (Refusals.Breach b) n = absurd n
not_derived_refusal t (Refusals.Syntax offset) n = n
not_derived_refusal t (Refusals.TooDeep offset) n = n

pub shape_of : (t : List ℕ) (q : Parts) {r : Result (Option Refusal) AllocError} {o p : Option Refusal} → IfOk r (λ o. ShapeOr t q o) → r ≡ Ok o → o ≡ p → ShapeOr t q p
shape_of t q i e f = subst (λ w. ShapeOr t q w) f (subst (λ z. IfOk z (λ o. ShapeOr t q o)) e i)

pub fault_derived : {t : List ℕ} {refusal : Refusal} {fault : Fault} → FaultAt t refusal fault → RefusalDerived t refusal → StreamFault t fault
fault_derived for_memory d = memory_refused
fault_derived (no_stream_at told diagnosis p) d = no_stream d (told.at, p)
fault_derived (too_deep_at {offset = i} p) d = too_deep d.0 d.1 (i, p)
fault_derived (told_at p e) d = breached d.shapes d.first p e

-- the offset of a refusal is between characters
pub refusal_placed : (t : List ℕ) (refusal : Refusal) → RefusalAt t refusal → RefusalDerived t refusal → IsCharBoundary t (offset_of refusal)
refusal_placed t (Refusals.Syntax offset) a d = a
refusal_placed t (Refusals.TooDeep offset) a d = a
refusal_placed t (Refusals.Breach b) a d = d.place
