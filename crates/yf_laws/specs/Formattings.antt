-- The statements on a text that has a formatting, and on every text.
use Rattle.std.specs.Prelude.{◌≢◌, ℕ, List}
use Rattle.std.specs.Str.{IsUtf8}
use Rattle.yf_lines.specs.declared.fault.Fault.{Fault}
use Rattle.yf_lines.specs.declared.fault.Fault.TheVariants.{Memory}
use Rattle.yf_events.specs.Nested.{IsStream}
use Rattle.yf_events.specs.Reading.{events_of}
use Rattle.yf_events.specs.declared.lists.Lists.{Lists}
use Rattle.yf_events.specs.declared.reading.TheConstants.{DEPTH}
use Rattle.yf_stream.specs.ReadingOf.{ReadingOf}
use Rattle.yf_stream.specs.StreamReader.{StreamFault, TheReading}
use Rattle.yf_standard.specs.Acceptance.{IsStandardText}
use Rattle.yf_forms.specs.declared.style.Style.{Style}
use Rattle.yf_laws.specs.FormatPromises.{FormatKept}
use Rattle.yf_laws.specs.Mended.{IsMended}

-- A text t with a formatting u. The standard's productions derive t as a stream that breaks no rule. It is accepted
-- with its only reading, whose events are a well nested stream within the limit of open collections. u is such a text
-- too, and has no fixable finding.
pub record FormattingHolds (t : List ℕ) (s : Style) (u : List ℕ) : Type 0 where
  pub standard : IsStandardText t
  pub reading : Lists
  pub reads : TheReading t reading
  pub nested : IsStream DEPTH (events_of reading)
  pub still_standard : IsStandardText u
  pub mended : IsMended u s

-- This holds for each text that has one.
abbrev pub FormattingsHold : Type 0
FormattingsHold = (t u : List ℕ) (s : Style) → IsUtf8 t → FormatKept t s u → FormattingHolds t s u

-- The laws of every text, each with a sentence.

-- A text that may be refused for a reason other than lack of memory has no reading.
abbrev pub RefusedTextsHaveNoReading : Type 0
RefusedTextsHaveNoReading = (t : List ℕ) (fault : Fault) → StreamFault t fault → fault ≢ Memory → (r : Lists) → ReadingOf t r → ⊥

-- A text that the standard derives as a stream that breaks no rule has a formatting in each style, with the properties
-- of `FormatKept`. The formatting is such a text too, and has no fixable finding.
abbrev pub StandardTextsAreFormatted : Type 0
StandardTextsAreFormatted = (t : List ℕ) (s : Style) → IsStandardText t → (u : List ℕ) × FormatKept t s u × IsStandardText u × IsMended u s
