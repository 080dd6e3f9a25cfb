-- The law that a well-formed text has a reading. `proofs/HasReading.antt` proves it.
use Rattle.std.specs.Prelude.{ℕ, List}
use Rattle.std.specs.Str.{IsUtf8}
use Rattle.yf_events.specs.declared.lists.Lists.{Lists}
use Rattle.yf_stream.specs.ReadingOf.{ReadingOf}
use Rattle.yf_stream.specs.Stream.{Documents}
use Rattle.yf_stream.specs.WellFormed.{ReadsWithoutBreach}

-- If a text has one meaning within the limit of open collections, and breaks none of the rules besides its grammar, it
-- has a reading.
abbrev pub WellFormedTextsHaveReadings : Type 0
WellFormedTextsHaveReadings = (t : List ℕ) (x : Documents) → IsUtf8 t → ReadsWithoutBreach t x → (r : Lists) × ReadingOf t r
