-- What the runs do, from what their reader gave. They use the reading of the text that was read, which is the only one.
-- (known: the bytes that the reader had, if they are known; input, left: the reader before and after the run; before,
-- after: the writer)
use Rattle.std.specs.Prelude.{◌≡◌, ◌≤◌, ℕ, List, [], ◌∷◌, length, Bool, true, false, Option, IfSome, codes, decimal}
use Rattle.std.specs.List.{concat, flat_map}
use Rattle.std.specs.Str.{IsUtf8, IsValidUpTo}
use Rattle.yf_lines.specs.declared.fault.Fault.{Fault}
use Rattle.yf_lines.specs.declared.fault.Fault.TheVariants.{NotUtf8, Syntax, TooDeep, UnknownHandle, UnknownAlias}
use Rattle.yf_lines.specs.declared.fault.Fault.TheVariants.{RepeatedDirective, BadVersion, EscapeValue}
use Rattle.yf_lines.specs.declared.fault.Fault.TheVariants.{Memory, ReadFailed, WriteFailed}
use Rattle.yf_lines.specs.Lines.{AreLines, Table}
use Rattle.yf_events.specs.declared.lists.Lists.{Lists}
use Rattle.yf_events.specs.declared.reading.TheConstants.{DEPTH}
use Rattle.yf_events.specs.Nested.{IsStream}
use Rattle.yf_events.specs.Notation.{notation_of}
use Rattle.yf_events.specs.Reading.{events_of}
use Rattle.yf_forms.specs.declared.style.Style.{Style}
use Rattle.yf_laws.specs.Format.{IsFormatting}
use Rattle.yf_rules.specs.declared.finding.Finding.{Finding}
use Rattle.yf_stream.specs.Refusal.{IsStreamFault}
use Rattle.yf_stream.specs.StreamReader.{StreamFault, TheReading}
use Rattle.yf_rules.specs.declared.run.TheConstants.{INPUT_LIMIT}
use Rattle.yf_rules.specs.Headline.{Headline}
use Rattle.yf_rules.specs.Runs.ByteStream.{ByteStream, NoFailure, NothingWritten, Writes, BreaksOff}
use Rattle.yf_rules.specs.Runs.Input.{ReadRefusal}
use Rattle.yf_rules.specs.NothingToFix.{NoneFixable}

-- What a check finds: the findings in the lines of a text with its reading.
abbrev pub CheckClaim : Type 1
CheckClaim = Table → Lists → List Finding → Type 0

-- The bytes that were read are all that the reader had, if that is known.
abbrev pub Gave : Option (List ℕ) → List ℕ → Type 0
Gave known bytes = IfSome known (λ all. bytes ≡ all)

-- The bytes that were kept are those that were read, unless the fault is `Memory` or `ReadFailed`.
abbrev pub Keeps : Option (List ℕ) → List ℕ → Fault → Type 0
Keeps known bytes Memory = Unit {0}
Keeps known bytes ReadFailed = Unit {0}
Keeps known bytes _ = Gave known bytes

-- A text was read, the events of its reading are a well nested stream, and the notation of the reading was written.
pub record NotationWritten (input before after : ByteStream) : Type 0 where
  pub text : List ℕ
  pub reading : Lists
  pub gave : Gave input.contents text
  pub within : length text ≤ INPUT_LIMIT
  pub utf8 : IsUtf8 text
  pub nested : IsStream DEPTH (events_of reading)
  pub reads : TheReading text reading
  pub wrote : Writes before after (notation_of reading)

-- A text was read, but the writer failed, and a prefix of the notation of its reading was written.
pub record BrokeOff (input before after : ByteStream) : Type 0 where
  pub text : List ℕ
  pub reading : Lists
  pub gave : Gave input.contents text
  pub within : length text ≤ INPUT_LIMIT
  pub utf8 : IsUtf8 text
  pub nested : IsStream DEPTH (events_of reading)
  pub reads : TheReading text reading
  pub broke : BreaksOff before after (notation_of reading)

-- The bytes that were read are not UTF-8, and their longest prefix that is ends at the offset.
pub record GaveNoText (known : Option (List ℕ)) (offset : ℕ) : Type 0 where
  pub bytes : List ℕ
  pub gave : Gave known bytes
  pub within : length bytes ≤ INPUT_LIMIT
  pub none : ¬ IsUtf8 bytes
  pub front : IsValidUpTo bytes offset

-- A text was read, and the fault is one of the reader of streams, with a position in the text: the text is not a
-- stream, or breaks the rule that the fault names.
pub record GaveNoStream (known : Option (List ℕ)) (fault : Fault) : Type 0 where
  pub text : List ℕ
  pub gave : Gave known text
  pub within : length text ≤ INPUT_LIMIT
  pub utf8 : IsUtf8 text
  pub is : IsStreamFault text fault
  pub why : StreamFault text fault

-- The line of a finding: its position, the rule's name, and whether the house style fixes it.
abbrev pub fixable_word : Bool → List ℕ
fixable_word true = codes " (fixable)"
fixable_word false = []

abbrev pub finding_line : Finding → List ℕ
finding_line f =
    concat (decimal f.place.line ∷ codes ":" ∷ decimal f.place.column ∷ codes " " ∷ f.id.now ∷ fixable_word f.fixable
    ∷ codes "\n" ∷ [])

abbrev pub findings_text : List Finding → List ℕ
findings_text findings = flat_map finding_line findings

abbrev pub has_any : List Finding → Bool
has_any [] = false
has_any (f ∷ rest) = true

-- A text was read, its lines are these, and the rules find these findings in its reading, whose events are a well
-- nested stream; C relates a reading to its findings. If the text is the formatting of some text in the style, none is
-- fixable.
pub record CheckResult (C : CheckClaim) (style : Style) (known : Option (List ℕ)) (findings : List Finding)
    : Type 0 where
  pub src : Table
  pub reading : Lists
  pub gave : Gave known src.text
  pub within : length src.text ≤ INPUT_LIMIT
  pub utf8 : IsUtf8 src.text
  pub lines : AreLines src.text src.lines
  pub nested : IsStream DEPTH (events_of reading)
  pub reads : TheReading src.text reading
  pub checked : C src reading findings
  pub mends : (source : List ℕ) → IsUtf8 source → IsFormatting source style src.text → NoneFixable findings

-- A line was written for each finding, and the result is whether there is one.
pub record FindingsWritten (C : CheckClaim) (style : Style) (input before after : ByteStream) (any : Bool)
    : Type 0 where
  pub findings : List Finding
  pub found : CheckResult C style input.contents findings
  pub wrote : Writes before after (findings_text findings)
  pub answer : any ≡ has_any findings

-- A text was read and checked, but the writer failed, and a prefix of the lines was written.
pub record BrokeOffLines (C : CheckClaim) (style : Style) (input before after : ByteStream) : Type 0 where
  pub findings : List Finding
  pub found : CheckResult C style input.contents findings
  pub broke : BreaksOff before after (findings_text findings)

-- A text was read, and this is its formatting, with all that `Headline` states about the two.
pub record FormattingGiven (style : Style) (known : Option (List ℕ)) (formatted : List ℕ) : Type 0 where
  pub text : List ℕ
  pub gave : Gave known text
  pub headline : Headline text style formatted

-- A text was read, and its formatting was written once, and nothing else.
pub record FormattingWritten (style : Style) (input before after : ByteStream) : Type 0 where
  pub formatted : List ℕ
  pub rendered : FormattingGiven style input.contents formatted
  pub wrote : Writes before after formatted

-- A text was read, but the writer failed, and a prefix of its formatting was written.
pub record BrokeOffText (style : Style) (input before after : ByteStream) : Type 0 where
  pub formatted : List ℕ
  pub rendered : FormattingGiven style input.contents formatted
  pub broke : BreaksOff before after formatted

-- Why no stream could be read from the reader.
abbrev pub RefusedText : ByteStream → ByteStream → Fault → Type 0
RefusedText input left (NotUtf8 offset) = GaveNoText input.contents offset × NoFailure input left
RefusedText input left (Syntax place what) = GaveNoStream input.contents (Syntax place what) × NoFailure input left
RefusedText input left (TooDeep place) = GaveNoStream input.contents (TooDeep place) × NoFailure input left
RefusedText input left (UnknownHandle place) = GaveNoStream input.contents (UnknownHandle place) × NoFailure input left
RefusedText input left (UnknownAlias place) = GaveNoStream input.contents (UnknownAlias place) × NoFailure input left
RefusedText input left (RepeatedDirective place) =
    GaveNoStream input.contents (RepeatedDirective place) × NoFailure input left
RefusedText input left (BadVersion place) = GaveNoStream input.contents (BadVersion place) × NoFailure input left
RefusedText input left (EscapeValue place) = GaveNoStream input.contents (EscapeValue place) × NoFailure input left
RefusedText input left Memory = NoFailure input left
RefusedText input left ReadFailed = ReadRefusal INPUT_LIMIT input left ReadFailed
RefusedText input left _ = ⊥

-- Why a run is refused, and what it has written: if the writer failed, what Broken states, otherwise nothing.
abbrev pub RefusedRun : Type 0 → ByteStream → ByteStream → ByteStream → ByteStream → Fault → Type 0
RefusedRun Broken input left before after WriteFailed = Broken × NoFailure input left
RefusedRun Broken input left before after fault = RefusedText input left fault × NothingWritten before after

-- of the run that prints events
abbrev pub RefusedEvents : ByteStream → ByteStream → ByteStream → ByteStream → Fault → Type 0
RefusedEvents input left before after fault = RefusedRun (BrokeOff input before after) input left before after fault

-- of the run that checks
abbrev pub RefusedCheck : CheckClaim → Style → ByteStream → ByteStream → ByteStream → ByteStream → Fault → Type 0
RefusedCheck C style input left before after fault =
    RefusedRun (BrokeOffLines C style input before after) input left before after fault

-- of the run that formats
abbrev pub RefusedFmt : Style → ByteStream → ByteStream → ByteStream → ByteStream → Fault → Type 0
RefusedFmt style input left before after fault =
    RefusedRun (BrokeOffText style input before after) input left before after fault
