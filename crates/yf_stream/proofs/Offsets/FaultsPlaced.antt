-- A fault of the reader of streams is `Memory`, or has a position in the text.
use Rattle.std.proofs.Common.{ℕ, List, sym, subst}
use Rattle.yf_lines.specs.FaultPlaces.{InText}
use Rattle.yf_lines.specs.declared.fault.Fault.{Fault}
use Rattle.yf_lines.specs.declared.fault.Fault.TheVariants.{Syntax}
use Rattle.yf_lines.specs.declared.place.Position.{Position}
use Rattle.yf_stream.specs.Refusal.{IsStreamFault}
use Rattle.yf_stream.specs.StreamReader.{IsSyntax, StreamFault, for_memory, no_stream, too_deep, breached, fault_of}
use Rattle.yf_stream.specs.declared.breaches.BreachKind.{BreachKind}
use Rattle.yf_stream.specs.declared.breaches.BreachKind.TheVariants as Breaches

syntax_placed : (t : List ℕ) (fault : Fault) → IsSyntax t fault → IsStreamFault t fault
syntax_placed t (Syntax place what) s = s
syntax_placed t _ s = absurd s

breach_placed : (t : List ℕ) (kind : BreachKind) (place : Position) → InText t place → IsStreamFault t (fault_of kind place)
breach_placed t Breaches.UnknownHandle place p = p
breach_placed t Breaches.UnknownAlias place p = p
breach_placed t Breaches.RepeatedDirective place p = p
breach_placed t Breaches.BadVersion place p = p
breach_placed t Breaches.EscapeValue place p = p

pub faults_are_placed : (t : List ℕ) (fault : Fault) → StreamFault t fault → IsStreamFault t fault
faults_are_placed t fault for_memory = tt
faults_are_placed t fault (no_stream n s) = syntax_placed t fault s
faults_are_placed t fault (too_deep n l p) = p
faults_are_placed t fault (breached {b = b} {place = place} s first p e) = subst (IsStreamFault t) (sym e) (breach_placed t b.kind place (b.offset, p))
