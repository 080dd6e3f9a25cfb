-- How a run ends, and what is known of an input that was opened.
-- (before, after: one stream, or a list of inputs, before and after a step;
-- reader, left: a reader before and after it was read)
use Rattle.std.specs.Prelude.{◌≡◌, ◌⊎◌, ◌++◌, ℕ, List, Bool, true, false}
use Rattle.std.specs.Prelude.{Option, unwrap_or, codes}
use Rattle.std.specs.Str.{chars}
use Rattle.yf_command_line.specs.declared.command.Input.{Input}
use Rattle.yf_command_line.specs.declared.command.Input.TheVariants.{Standard, File}
use Rattle.yf_explain.specs.Explained.{Explains}
use Rattle.yf_explain.specs.Shown.{AreWritten}
use Rattle.yf_lines.specs.declared.fault.Fault.{Fault}
use Rattle.yf_lines.specs.declared.fault.Fault.TheVariants as fault
use Rattle.yf_rules.specs.Runs.ByteStream.{BreaksOff, ByteStream, NothingWritten, WrittenOrFailed, Writes}
use Rattle.yf_rules.specs.Runs.Run as Runs
use Rattle.yf_host.specs.Report.{fault_line, fault_status}
use Rattle.yf_host.specs.World.{InputClaim, OutputStreams}

-- ---- How a run ends

-- The run ended well, and nothing was written to the stream of faults.
abbrev pub EndsWell : ℕ → ByteStream → ByteStream → Type 0
EndsWell status before after = (status ≡ 0) × NothingWritten before after

-- The line of a fault was written to the stream of faults, and the status is that of the fault.
abbrev pub EndsBy : Fault → ℕ → ByteStream → ByteStream → Type 0
EndsBy f status before after = (status ≡ fault_status f) × WrittenOrFailed before after (fault_line f)

-- With `--explain` more lines were written, to a stream that had not failed, of characters that are shown as they are,
-- and P holds of them; or none, for example without memory.
abbrev pub TellsMore : Bool → (List ℕ → Type 0) → ByteStream → ByteStream → Type 0
TellsMore false P before after = NothingWritten before after
TellsMore true P before after =
    NothingWritten before after
    ⊎ ((more : List ℕ) × (before.failed ≡ false) × AreWritten (chars more) × P (chars more)
    × WrittenOrFailed before after more)

-- No more is said of these lines.
abbrev pub AnyLines : List ℕ → Type 0
AnyLines lines = Unit {0}

-- The line of a fault was written to the stream of faults, and with `--explain` more lines after it.
abbrev pub EndsTold : Bool → (List ℕ → Type 0) → Fault → ℕ → ByteStream → ByteStream → Type 0
EndsTold explain P f status before after =
    (told : ByteStream) × EndsBy f status before told × TellsMore explain P told after

-- Both texts were written to the two streams, and the status is that of the run; or the writer failed.
-- (run: the status of what was done; output, faults: the two texts)
abbrev pub AreTold : ℕ → ℕ → List ℕ → List ℕ → OutputStreams → OutputStreams → Type 0
AreTold run status output faults before after =
    ((status ≡ run) × Writes before.output after.output output × WrittenOrFailed before.errors after.errors faults)
    ⊎ (BreaksOff before.output after.output output × EndsBy fault.WriteFailed status before.errors after.errors)

-- The line of an input's fault was written, and with `--explain` lines that explain the fault in its bytes.
abbrev pub EndsOver : Bool → Option (List ℕ) → Fault → ℕ → ByteStream → ByteStream → Type 0
EndsOver explain known f status before after =
    (bytes : List ℕ) × Runs.Keeps known bytes f × EndsTold explain (Explains bytes f) f status before after

-- ---- An input is opened

-- These inputs were opened, in this order, and no other.
abbrev pub InputsOpened : InputClaim → List Input → List Input → List Input → Type 0
InputsOpened claim before after inputs = claim.notes → after ≡ before ++ inputs

-- The reader is one of the input: it has the input's bytes, and no call of it has failed. One fails later only if the
-- input does.
abbrev pub Opens : InputClaim → Input → ByteStream → ByteStream → Type 0
Opens claim input reader left =
    (claim.tells → reader.contents ≡ claim.holds input) × (reader.failed ≡ false)
    × (claim.tells → left.failed ≡ true → claim.fails input)

-- The input is a file.
abbrev pub IsFile : Input → Type 0
IsFile Standard = ⊥
IsFile (File name) = Unit {0}

-- The name by which an input is reported. (standard: the name of standard input, if the command line gives one)
abbrev pub name_of : Option (List ℕ) → Input → List ℕ
name_of standard Standard = unwrap_or standard (codes "-")
name_of standard (File name) = name
