-- Which texts are accepted, and what a refusal says about a text, in terms of the standard's productions.
-- `proofs/AcceptanceHolds.antt` proves the laws.
use Rattle.std.specs.Prelude.{◌≡◌, ℕ, ◌≤◌, List, [], ⊤}
use Rattle.std.specs.Str.{IsUtf8}
use Rattle.yf_lines.specs.FaultPlaces.{IsPlaceOf}
use Rattle.yf_lines.specs.declared.fault.Fault.{Fault}
use Rattle.yf_lines.specs.declared.fault.Fault.TheVariants.{Memory, Syntax, TooDeep, UnknownHandle, UnknownAlias, RepeatedDirective, BadVersion, EscapeValue}
use Rattle.yf_lines.specs.declared.place.Position.{Position}
use Rattle.yf_events.specs.declared.lists.Lists.{Lists}
use Rattle.yf_events.specs.declared.reading.TheConstants.{DEPTH}
use Rattle.yf_stream.specs.ReadingOf.{ReadingOf}
use Rattle.yf_stream.specs.Stream.{Documents, Stream}
use Rattle.yf_stream.specs.StreamReader.{StreamFault, fault_of}
use Rattle.yf_stream.specs.WellFormed.{IsFirst, Shapes, breaches}
use Rattle.yf_standard.specs.Laws.{IsStandardStream}

-- no meaning of the text within the limit breaks a rule beside the productions: on directives, versions, handles,
-- aliases and escapes
abbrev pub BreachesNothing : List ℕ → Type 0
BreachesNothing t = (h : ℕ) (x : Documents) → Stream t h x → h ≤ DEPTH → breaches x.documents ≡ []

-- the fault is that of the first breach of documents, at its position
pub data IsOfFirst (t : List ℕ) (x : Documents) (fault : Fault) : Type 0 where
  of_first : {b : _} {place : Position} → IsFirst (breaches x.documents) b → IsPlaceOf t b.offset place → fault ≡ fault_of b.kind place → IsOfFirst t x fault

-- the first breach in the meaning of the text is the one that the fault names, at its position
abbrev pub BreachesFirst : List ℕ → Fault → Type 0
BreachesFirst t fault = (h : ℕ) (x : Documents) → Stream t h x → h ≤ DEPTH → IsOfFirst t x fault

-- a text that production 211 derives as a whole with the reading rules, and that breaks no other rule
pub record IsStandardText (t : List ℕ) : Type 0 where
  pub utf8 : IsUtf8 t
  pub stream : IsStandardStream t
  pub well_formed : BreachesNothing t

-- a stream of the standard that breaks a rule
pub record BreaksRule (t : List ℕ) (fault : Fault) : Type 0 where
  pub stream : IsStandardStream t
  pub breach : BreachesFirst t fault

-- A text that the standard derives has exactly one meaning.
abbrev pub StandardStreamsMeanOne : Type 0
StandardStreamsMeanOne = (t : List ℕ) → IsUtf8 t → IsStandardStream t → (x : Documents) × Shapes t x

-- A text has a reading if and only if it is a stream of the standard, with the reading rules, that breaks no other
-- rule.
abbrev pub StandardTextsAreRead : Type 0
StandardTextsAreRead = (t : List ℕ) → (IsStandardText t → (r : Lists) × ReadingOf t r) × (IsUtf8 t → (r : Lists) → ReadingOf t r → IsStandardText t)

-- what each fault of the reader of streams says about a text: the standard derives no stream; or it derives one, and
-- the fault is its first breach, with its position
abbrev pub FaultTells : List ℕ → Fault → Type 0
FaultTells t Memory = ⊤
FaultTells t (Syntax place what) = IsStandardStream t → ⊥
FaultTells t (TooDeep place) = IsStandardStream t → ⊥
FaultTells t (UnknownHandle place) = BreaksRule t (UnknownHandle place)
FaultTells t (UnknownAlias place) = BreaksRule t (UnknownAlias place)
FaultTells t (RepeatedDirective place) = BreaksRule t (RepeatedDirective place)
FaultTells t (BadVersion place) = BreaksRule t (BadVersion place)
FaultTells t (EscapeValue place) = BreaksRule t (EscapeValue place)
FaultTells t _ = ⊥

-- Each fault with which a text may be refused says this about it.
abbrev pub FaultsTellOfTheStandard : Type 0
FaultsTellOfTheStandard = (t : List ℕ) (fault : Fault) → IsUtf8 t → StreamFault t fault → FaultTells t fault
