-- The laws that relate the readers' definitions to the standard's productions, each with a plain sentence.
-- `proofs/LawsHold.antt` proves them, and they are the contract of `standard_laws`.
use Rattle.std.specs.Prelude.{ℕ, ◌≤◌, List, length}
use Rattle.std.specs.Str.{IsUtf8}
use Rattle.yf_lines.specs.Basic.{ForbiddenLine}
use Rattle.yf_events.specs.declared.lists.Lists.{Lists}
use Rattle.yf_events.specs.declared.reading.TheConstants.{DEPTH}
use Rattle.yf_stream.specs.ReadingOf.{ReadingOf}
use Rattle.yf_stream.specs.Stream.{Documents, Stream}
use Rattle.yf_stream.specs.StreamReader.{NoStream}
use Rattle.yf_standard.specs.Notation.{Form}
use Rattle.yf_standard.specs.Notation.Form.{c-forbidden, l-yaml-stream}
use Rattle.yf_standard.specs.Literal.{Derived}
use Rattle.yf_standard.specs.Rules.{read, letter}

-- all of the text is an l-yaml-stream of the standard, with the reading rules and at most DEPTH collections open at
-- once
abbrev pub IsStandardStream : List ℕ → Type 0
IsStandardStream t = Derived (read t) t DEPTH l-yaml-stream 0 (length t)

-- The standard derives, with the reading rules, each stream that the crates below derive within the limit.
abbrev pub StreamsAreStandard : Type 0
StreamsAreStandard = (t : List ℕ) (h : ℕ) (x : Documents) → IsUtf8 t → Stream t h x → h ≤ DEPTH → IsStandardStream t

-- The crates below derive, within the limit, each such stream of the standard.
abbrev pub StandardStreamsAreDerived : Type 0
StandardStreamsAreDerived = (t : List ℕ) → IsUtf8 t → IsStandardStream t → (h : ℕ) × ((x : Documents) × (Stream t h x × (h ≤ DEPTH)))

-- So a text that is refused because nothing derives it as a stream is not a stream of the standard.
abbrev pub RefusedStreamsAreNone : Type 0
RefusedStreamsAreNone = (t : List ℕ) → IsUtf8 t → NoStream t → IsStandardStream t → ⊥

-- The reading rules only restrict: a form derived with them is derived by the standard's letter too. The start of a
-- line and the sum of an indentation are excepted: `letter` reads these as `read` does.
abbrev pub RulesOnlyRestrict : Type 0
RulesOnlyRestrict = (t : List ℕ) (e i j : ℕ) (f : Form) → Derived (read t) t e f i j → Derived (letter t) t e f i j

-- So the standard's letter derives each text that has a reading as a stream.
abbrev pub ReadTextsAreStandard : Type 0
ReadTextsAreStandard = (t : List ℕ) (r : Lists) → IsUtf8 t → ReadingOf t r → Derived (letter t) t DEPTH l-yaml-stream 0 (length t)

-- A forbidden line, which a document's node may not cover, begins at each offset from which c-forbidden of the standard
-- is derived, and nowhere else.
abbrev pub ForbiddenLinesAreStandard : Type 0
ForbiddenLinesAreStandard = (t : List ℕ) (i : ℕ) → IsUtf8 t → (ForbiddenLine t i → (j : ℕ) × Derived (read t) t DEPTH c-forbidden i j) × ((j : ℕ) → Derived (read t) t DEPTH c-forbidden i j → ForbiddenLine t i)
