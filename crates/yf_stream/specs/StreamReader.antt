-- The results of the reader of streams.
use Rattle.std.specs.Prelude.{◌≡◌, ℕ, ◌<◌, ◌≤◌, List, Result, MatchResult}
use Rattle.yf_lines.specs.FaultPlaces.{InText, IsPlaceOf}
use Rattle.yf_lines.specs.declared.fault.Fault.{Fault}
use Rattle.yf_lines.specs.declared.fault.Fault.TheVariants.{Memory, Syntax, TooDeep, UnknownHandle, UnknownAlias, RepeatedDirective, BadVersion, EscapeValue}
use Rattle.yf_lines.specs.declared.place.Position.{Position}
use Rattle.yf_events.specs.declared.lists.Lists.{Lists}
use Rattle.yf_events.specs.declared.reading.TheConstants.{DEPTH}
use Rattle.yf_grammar.specs.Refusal.{openers}
use Rattle.yf_stream.specs.declared.breaches.Breach.{Breach}
use Rattle.yf_stream.specs.declared.breaches.BreachKind.{BreachKind}
use Rattle.yf_stream.specs.declared.breaches.BreachKind.TheVariants as Breaches
use Rattle.yf_stream.specs.ReadingOf.{ReadingOf}
use Rattle.yf_stream.specs.Stream.{Documents, Stream}
use Rattle.yf_stream.specs.WellFormed.{IsFirst, Shapes, breaches}

-- no stream is derived within the limit of open collections
abbrev pub NoStream : List ℕ → Type 0
NoStream t = (h : ℕ) (x : Documents) → Stream t h x → h ≤ DEPTH → ⊥

-- the fault for a breach of that kind
abbrev pub fault_of : BreachKind → Position → Fault
fault_of Breaches.UnknownHandle place = UnknownHandle place
fault_of Breaches.UnknownAlias place = UnknownAlias place
fault_of Breaches.RepeatedDirective place = RepeatedDirective place
fault_of Breaches.BadVersion place = BadVersion place
fault_of Breaches.EscapeValue place = EscapeValue place

-- the fault is `Syntax`, with a position in the text
abbrev pub IsSyntax : List ℕ → Fault → Type 0
IsSyntax t (Syntax place what) = InText t place
IsSyntax t _ = ⊥

-- a text is refused only if memory was refused; if no stream is derived within the limit, and as too deep only if it
-- also has more openers than the limit; or if its one shape has a breach: for the first one, at its position
pub data StreamFault (t : List ℕ) : Fault → Type 0 where
  for_memory : StreamFault t Memory
  no_stream : {fault : Fault} → NoStream t → IsSyntax t fault → StreamFault t fault
  too_deep : {place : Position} → NoStream t → DEPTH < openers t → InText t place → StreamFault t (TooDeep place)
  breached : {x : Documents} {b : Breach} {place : Position} {fault : Fault} → Shapes t x → IsFirst (breaches x.documents) b
      → IsPlaceOf t b.offset place → fault ≡ fault_of b.kind place → StreamFault t fault

-- the only reading of a text
pub record TheReading (t : List ℕ) (r : Lists) : Type 0 where
  pub reads : ReadingOf t r
  pub only : (other : Lists) → ReadingOf t other → other ≡ r

-- the contract of `read_stream`: it returns a text's only reading, and refuses a text only for the causes of
-- `StreamFault`
abbrev pub ReadsStream : List ℕ → Result Lists Fault → Type 0
ReadsStream t answer = MatchResult answer (TheReading t) (StreamFault t)
