-- Texts that are no data: which works are not done with them, and what is written for them.
use Rattle.std.specs.Prelude.{◌≡◌, ◌⊎◌, ◌&&◌, ◌||◌, ℕ, Bool, true, false, not, List, Option, Some, None, is_some, codes}
use Rattle.std.specs.Prelude.{if◌then◌else◌}
use Rattle.std.specs.Str.{bytes_eq}
use Rattle.yf_command_line.specs.declared.command.Input.{Input}
use Rattle.yf_command_line.specs.declared.command.Input.TheVariants.{Standard, File}
use Rattle.yf_guard.specs.declared.guarded.Guarded.{Guarded}
use Rattle.yf_guard.specs.declared.guarded.Guarded.TheVariants.{Vault}
use Rattle.yf_guarded.specs.Judged.{GivesJudged, IsByteFault}
use Rattle.yf_guarded.specs.declared.read.Verdict.{Verdict}
use Rattle.yf_guarded.specs.declared.read.Verdict.TheVariants as verdict
use Rattle.yf_lines.specs.declared.fault.Fault.{Fault}
use Rattle.yf_lines.specs.declared.fault.Fault.TheVariants as fault
use Rattle.yf_parts.specs.declared.run.PartTask.{PartTask}
use Rattle.yf_parts.specs.declared.show.Show.{Show}
use Rattle.yf_parts.specs.declared.show.Show.TheVariants as show
use Rattle.yf_host.specs.Ends.{AreTold}
use Rattle.yf_host.specs.Report.{fault_line, fault_status}
use Rattle.yf_host.specs.World.{OutputStreams}
use Rattle.yf_program.specs.declared.scope.Scope.{Scope}
use Rattle.yf_program.specs.declared.task.Work.{Work}
use Rattle.yf_program.specs.declared.task.Work.TheVariants as work
use Rattle.yf_rules.specs.Runs.ByteStream.{BreaksOff, ByteStream, NoFailure, NothingWritten, WrittenOrFailed, Writes}
use Rattle.yf_rules.specs.Runs.Run.{RefusedText, finding_line}
use Rattle.yf_rules.specs.declared.finding.Finding.{Finding}
use Rattle.yf_host.specs.LeftAlone.{left_line, left_status}

-- ---- Which texts a work is not done with

-- Whether an input is judged first. Standard input is judged only if it has a name.
abbrev pub is_judged : Scope → Input → Bool
is_judged scope Standard = not scope.any_text && is_some scope.stdin_name
is_judged scope (File name) = not scope.any_text

-- Whether a work with some lines shows no text.
abbrev pub shows_changes : Show → Bool
shows_changes show.Text = false
shows_changes show.Place = true
shows_changes show.Diff = true

-- Whether the work prints a text in the house style. Then it prints a text that does not pass as it is.
abbrev pub prints_text : Work → Bool
prints_text work.Events = false
prints_text (work.Check without) = false
prints_text work.Print = true
prints_text work.Compare = false
prints_text work.Diff = false
prints_text (work.Part part) = not (shows_changes part.show)

-- Whether an input is standard input.
abbrev pub is_standard : Input → Bool
is_standard Standard = true
is_standard (File name) = false

-- Whether a text is read before a work. If it is not read, only its first bytes say whether it is encrypted. `fmt FILE`
-- prints the text of a file in the house style even if the text is a template or not data. An editor that passes its
-- text expects it back.
abbrev pub reads_first : Work → Input → Bool
reads_first work.Events input = false
reads_first (work.Check without) input = true
reads_first work.Print input = is_standard input
reads_first work.Compare input = true
reads_first work.Diff input = true
reads_first (work.Part part) input = shows_changes part.show || is_standard input

-- How a work shows the formatting of the whole text of an input. None if it doesn't, or if the text is not read before
-- the work.
abbrev pub formatting_shown : Work → Input → Option Show
formatting_shown work.Events input = None
formatting_shown (work.Check without) input = None
formatting_shown work.Print Standard = Some show.Text
formatting_shown work.Print (File name) = None
formatting_shown work.Compare input = Some show.Place
formatting_shown work.Diff input = Some show.Diff
formatting_shown (work.Part part) input = None

-- The names of the rules to leave out, if the work is a check.
abbrev pub names_without : Work → Option (List (List ℕ))
names_without (work.Check without) = Some without.items
names_without work.Events = None
names_without work.Print = None
names_without work.Compare = None
names_without work.Diff = None
names_without (work.Part part) = None

-- ---- What is written

-- That the file is skipped was written to the stream of faults, and nothing else.
abbrev pub TellsLeft : Guarded → ℕ → OutputStreams → OutputStreams → Type 0
TellsLeft g status before after =
    (status ≡ left_status g) × NothingWritten before.output after.output
    × WrittenOrFailed before.errors after.errors (left_line g)

-- The line of a finding was written to the output, or could not be.
abbrev pub ShowsFinding : Finding → ℕ → OutputStreams → OutputStreams → Type 0
ShowsFinding f status before after =
    ((status ≡ 1) × Writes before.output after.output (finding_line f) × NothingWritten before.errors after.errors)
    ⊎ (BreaksOff before.output after.output (finding_line f) × (status ≡ fault_status fault.WriteFailed)
    × WrittenOrFailed before.errors after.errors (fault_line fault.WriteFailed))

-- What is done with a reader: by the status, the reader before and after, and the streams before and after.
abbrev pub ReaderClaim : Type 1
ReaderClaim = ℕ → ByteStream → ByteStream → OutputStreams → OutputStreams → Type 0

-- The line of a finding of the guard.
abbrev pub left_line_of : Finding → List ℕ
left_line_of f = if bytes_eq f.id.now (codes "template") then codes "left alone: template\n" else codes "left alone: no data\n"

-- A reader of bytes in memory.
abbrev pub held : List ℕ → ByteStream
held bytes = record { contents = Some bytes; failed = false }

-- What is done with a text, by the verdict on it: a relation of the status and the streams before and after.
abbrev pub VerdictClaim : Type 1
VerdictClaim = Verdict → List ℕ → ℕ → OutputStreams → OutputStreams → Type 0

-- What is done with a text that does not pass. A work that prints texts prints it as it is, and a line says why.
abbrev pub DoneUnpassed : Bool → VerdictClaim
DoneUnpassed prints verdict.Passed t status before after = ⊥
DoneUnpassed false verdict.Encrypted t status before after = TellsLeft Vault status before after
DoneUnpassed false (verdict.NoData f) t status before after = ShowsFinding f status before after
DoneUnpassed true verdict.Encrypted t status before after = AreTold (left_status Vault) status t (left_line Vault) before after
DoneUnpassed true (verdict.NoData f) t status before after = AreTold 1 status t (left_line_of f) before after

-- What is done with a text, by the verdict on it. A text that passes is given to the work.
-- (prints: whether the work prints texts)
abbrev pub DoneAsJudged : Bool → ReaderClaim → VerdictClaim
DoneAsJudged prints Done verdict.Passed t status before after =
    (rest : List ℕ) × Done status (held t) (held rest) before after
DoneAsJudged prints Done verdict.Encrypted t status before after =
    DoneUnpassed prints verdict.Encrypted t status before after
DoneAsJudged prints Done (verdict.NoData f) t status before after =
    DoneUnpassed prints (verdict.NoData f) t status before after

-- A work with a text that is judged first.
pub record JudgedWork : Type 1 where
  -- whether the text is read for the verdict
  pub reads : Bool
  -- what is done with a text
  pub Does : VerdictClaim
  -- how a run ends for a fault of the bytes of a reader
  pub Ends : Option (List ℕ) → Fault → ℕ → ByteStream → ByteStream → Type 0

-- A text was read and judged, and the run did what the verdict says; or the text was refused. A text that is not read
-- for the verdict is not refused for its YAML.
abbrev pub RanJudged : JudgedWork → ReaderClaim
RanJudged w status reader left before after =
    ((t : List ℕ) × (v : Verdict) × GivesJudged w.reads reader.contents t v × NoFailure reader left
    × w.Does v t status before after)
    ⊎ ((f : Fault) × RefusedText reader left f × (w.reads ≡ false → IsByteFault f)
    × NothingWritten before.output after.output × w.Ends reader.contents f status before.errors after.errors)
