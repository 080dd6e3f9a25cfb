-- The laws of the texts that the standard's productions accept hold.
use Rattle.std.proofs.Common.{◌≡◌, ℕ, Bool, true, false, List, sym, ap, ◌∙◌, subst, arith, true≢false}
use Rattle.std.specs.Str.{IsUtf8}
use Rattle.yf_lines.specs.FaultPlaces.{IsPlaceOf}
use Rattle.yf_lines.specs.declared.fault.Fault.{Fault}
use Rattle.yf_lines.specs.declared.fault.Fault.TheVariants.{Syntax, Memory, UnknownHandle, UnknownAlias, RepeatedDirective, BadVersion, EscapeValue}
use Rattle.yf_lines.specs.declared.place.Position.{Position}
use Rattle.yf_events.specs.declared.lists.Lists.{Lists}
use Rattle.yf_stream.specs.ReadingOf.{ReadingOf}
use Rattle.yf_stream.specs.Stream.{Documents}
use Rattle.yf_stream.specs.StreamReader.{IsSyntax, NoStream, fault_of, for_memory, no_stream, too_deep, breached}
use Rattle.yf_stream.specs.WellFormed.{IsFirst, Shapes, breaches}
use Rattle.yf_stream.proofs.HasReading.{well_formed_texts_have_readings}
use Rattle.yf_stream.proofs.LawsHold.{derived_streams_are_shapes}
use Rattle.yf_standard.specs.Acceptance.{BreaksRule, FaultsTellOfTheStandard, IsStandardText, StandardStreamsMeanOne, StandardTextsAreRead, FaultTells, of_first}
use Rattle.yf_standard.proofs.LawsHold.{refused_streams_are_none, standard_streams_are_derived, streams_are_standard}

pub standard_streams_mean_one : StandardStreamsMeanOne
standard_streams_mean_one t u d =
    let s = standard_streams_are_derived t u d in
    (s.1.0, derived_streams_are_shapes t s.0 s.1.0 u s.1.1.0 s.1.1.1)

-- a text with a reading is one of the standard
pub reading_is_standard : {t : List ℕ} {r : Lists} → IsUtf8 t → ReadingOf t r → IsStandardText t
reading_is_standard {t} u a = let s = a.reads.shapes in record {
  utf8 = u;
  stream = streams_are_standard t s.height a.derived u s.derived s.within;
  well_formed = λ h x d l. ap (λ (w : Documents). breaches w.documents) (s.only h x d l) ∙ a.reads.well_formed;
}

pub standard_texts_are_read : StandardTextsAreRead
standard_texts_are_read t = (λ s. read s, λ u r a. reading_is_standard u a) where
  read : IsStandardText t → (r : Lists) × ReadingOf t r
  read s =
      let m = standard_streams_mean_one t s.utf8 s.stream in
      well_formed_texts_have_readings t m.0 s.utf8 (record {
        shapes = m.1;
        well_formed = s.well_formed m.1.height m.0 m.1.derived m.1.within;
      })

-- a fault of syntax says that the text is not a stream
no_stream_told : {t : List ℕ} (fault : Fault) → IsUtf8 t → NoStream t → IsSyntax t fault → FaultTells t fault
no_stream_told {t} (Syntax place what) u none is = refused_streams_are_none t u none
no_stream_told _ u none is = absurd is

-- a fault of a breach says which rule the text breaks
abbrev is_of_breach : Fault → Bool
is_of_breach (UnknownHandle place) = true
is_of_breach (UnknownAlias place) = true
is_of_breach (RepeatedDirective place) = true
is_of_breach (BadVersion place) = true
is_of_breach (EscapeValue place) = true
is_of_breach _ = false

kinds_are_of_breaches : (kind : _) (place : Position) → is_of_breach (fault_of kind place) ≡ true
kinds_are_of_breaches kind place = grind arith

breach_told : {t : List ℕ} (fault : Fault) → is_of_breach fault ≡ true → BreaksRule t fault → FaultTells t fault
breach_told (UnknownHandle place) is b = b
breach_told (UnknownAlias place) is b = b
breach_told (RepeatedDirective place) is b = b
breach_told (BadVersion place) is b = b
breach_told (EscapeValue place) is b = b
breach_told Memory is b = tt
breach_told _ is b = absurd (true≢false (sym is))

breaks_rule : {t : List ℕ} {x : Documents} {fault : Fault} {place : Position} {b : _} → IsUtf8 t → Shapes t x → IsFirst (breaches x.documents) b
    → IsPlaceOf t b.offset place → fault ≡ fault_of b.kind place → BreaksRule t fault
breaks_rule {t} {x} {b = b} u s first at is = record {
  stream = streams_are_standard t s.height x u s.derived s.within;
  breach = λ h y d l. of_first (subst (λ (w : Documents). IsFirst (breaches w.documents) b) (sym (s.only h y d l)) first) at is;
}

pub faults_tell_of_the_standard : FaultsTellOfTheStandard
faults_tell_of_the_standard t fault u for_memory = tt
faults_tell_of_the_standard t fault u (no_stream none is) = no_stream_told fault u none is
faults_tell_of_the_standard t fault u (too_deep none l at) = refused_streams_are_none t u none
faults_tell_of_the_standard t fault u (breached {b = b} {place = place} s first at is) =
    breach_told fault (ap is_of_breach is ∙ kinds_are_of_breaches b.kind place) (breaks_rule u s first at is)
