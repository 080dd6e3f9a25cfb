-- What `check` does if it doesn't write each finding at once, and `fmt --check` with `--format`: the problems of all
-- inputs are in one report, which is written last.
-- (before, after: the states, the streams or one stream before and after a step;
-- reader, left: a reader before and after it was read; file: what the report has of one input)
use Rattle.std.specs.Prelude.{◌≡◌, ◌⊎◌, ◌++◌, ◌∷◌, ◌-◌, ◌==◌, ℕ, max, List, [], map, Bool, true, false}
use Rattle.std.specs.Prelude.{Option, Some, None}
use Rattle.std.specs.List.{concat}
use Rattle.std.specs.Prelude.{MatchBool, codes, decimal, unwrap_or, if◌then◌else◌}
use Rattle.yf_command_line.specs.Requests.{all_inputs}
use Rattle.yf_command_line.specs.declared.command.Check.{Check}
use Rattle.yf_command_line.specs.declared.command.Input.{Input}
use Rattle.yf_command_line.specs.declared.command.Input.TheVariants.{Standard, File}
use Rattle.yf_explain.specs.Explained.{Explains}
use Rattle.yf_findings.specs.Differences.{ReadDifference}
use Rattle.yf_findings.specs.Printed.{Printed, shows_changes}
use Rattle.yf_findings.specs.Guards.{WithGuard}
use Rattle.yf_findings.specs.Reading.{ReadProblems}
use Rattle.yf_findings.specs.Refusals.{RefusalProblem}
use Rattle.yf_findings.specs.Selection.{count_findings, first_problems, listed_in, on_lines}
use Rattle.yf_findings.specs.declared.changes.Change.{Change}
use Rattle.yf_findings.specs.declared.files.FileProblems.{FileProblems}
use Rattle.yf_findings.specs.declared.printed.Form.{Form}
use Rattle.yf_findings.specs.declared.owned.OwnedProblem.{OwnedProblem}
use Rattle.yf_findings.specs.declared.texts.CheckedText.{CheckedText}
use Rattle.yf_forms.specs.declared.style.Style.{Style}
use Rattle.yf_guard.specs.declared.guarded.Guarded.TheVariants.{Vault}
use Rattle.yf_guarded.specs.Judged.{GivesJudged}
use Rattle.yf_guarded.specs.declared.read.Verdict.{Verdict}
use Rattle.yf_guarded.specs.declared.read.Verdict.TheVariants as verdict
use Rattle.yf_lines.specs.declared.fault.Fault.{Fault}
use Rattle.yf_lines.specs.declared.fault.Fault.TheVariants as fault
use Rattle.yf_rules.specs.Runs.ByteStream.{ByteStream, NoFailure, NothingWritten, Writes, BreaksOff, WrittenOrFailed}
use Rattle.yf_rules.specs.Runs.Run as Runs
use Rattle.yf_rules.specs.declared.finding.Finding.{Finding}
use Rattle.yf_host.specs.Ends.{AnyLines, EndsBy, EndsTold, InputsOpened, IsFile, Opens, name_of}
use Rattle.yf_host.specs.Memory.{ToldErrors, empty_stream}
use Rattle.yf_program.specs.BaselineFile.{BaselineTaken, BaselineUntaken, Listed, TellsUntaken, baseline_inputs, not_listed}
use Rattle.yf_program.specs.Forms.{explains_in, limit_in}
use Rattle.yf_program.specs.Guarded.{held, is_judged}
use Rattle.yf_host.specs.LeftAlone.{left_line, left_status}
use Rattle.yf_host.specs.Report.{check_status}
use Rattle.yf_program.specs.Settings.{IsLeftOut, TellsLeftOut}
use Rattle.yf_host.specs.World.{Host, InputClaim, OutputStreams, WorkClaim, World, streams_of}
use Rattle.yf_program.specs.declared.baseline_file.NoBaseline.{NoBaseline}
use Rattle.yf_program.specs.declared.report_inputs.ReportTask.{ReportTask}
use Rattle.yf_program.specs.declared.report_work.ReportWork.{ReportWork}
use Rattle.yf_program.specs.declared.report_work.ReportWork.TheVariants as work
use Rattle.yf_program.specs.declared.scope.Scope.{Scope}

abbrev pub report_task : Check → Listed → Bool → Style → Form → ReportTask
report_task check listed explain style form = record {
  work = work.Check check.without check.lines listed;
  style = style;
  form = form;
  limit = limit_in form check.printing.limit;
  explain = explains_in form explain;
  tells_left_out = explain;
}

-- `fmt --check` has no limit.
abbrev pub compare_task : Bool → Style → Form → ReportTask
compare_task explain style form = record {
  work = work.Compare;
  style = style;
  form = form;
  limit = None;
  explain = explains_in form explain;
  tells_left_out = explain;
}

-- ---- The problems of a text

-- The work found these problems in the text that was read. The changes between the text and its formatting are listed
-- if the form of the report shows them.
abbrev pub Finds : ReportWork → Form → Style → Option (List ℕ) → CheckedText → Type 0
Finds (work.Check without lines baseline) form style known all =
    ReadProblems (shows_changes form) without.items style known all
Finds work.Compare form style known all = ReadDifference (shows_changes form) style known all

-- The work found these problems in a text that is no data, besides the problem that says so. A text that is no data is
-- not compared.
abbrev pub FindsBeside : ReportWork → Style → Option (List ℕ) → CheckedText → Type 0
FindsBeside (work.Check without lines baseline) style known found =
    ReadProblems false without.items style known found
FindsBeside work.Compare style known found = found.problems.items ≡ []

-- Those of the problems of the input with this name that are asked for: on the asked lines, and without the findings that
-- the baseline lists. A comparison asks for all problems.
abbrev pub asked_problems : ReportWork → Option (List ℕ) → List OwnedProblem → List OwnedProblem
asked_problems (work.Check without lines baseline) name all = on_lines lines.items (not_listed baseline name all)
asked_problems work.Compare name all = all

-- ---- The problems of an input

-- There is one problem, and P holds of it. There are no changes.
pub record IsOnly (P : OwnedProblem → Type 0) (file : FileProblems) : Type 0 where
  pub problem : OwnedProblem
  pub is : P problem
  pub only : file.problems.items ≡ problem ∷ []
  pub unchanged : file.changes.items ≡ []

abbrev pub has_problem : List OwnedProblem → Bool
has_problem [] = false
has_problem (p ∷ ps) = true

-- The text that a reader has was refused, or could not be read: that is its only problem, and the line of the fault was
-- written to the stream of faults.
abbrev pub GivesFault : ReportTask → FileProblems → ℕ → ByteStream → ByteStream → ByteStream → ByteStream → Type 0
GivesFault task file status reader left before after =
    (f : Fault) × (bytes : List ℕ) × Runs.RefusedText reader left f × Runs.Keeps reader.contents bytes f
    × IsOnly (RefusalProblem bytes f) file × EndsTold task.explain (Explains bytes f) f status before after

-- The file has those of these problems that are asked for, and these changes. The status is that of a check that found
-- the problems of the file.
abbrev pub AreAsked : ReportWork → List OwnedProblem → List Change → FileProblems → ℕ → Type 0
AreAsked work all changes file status =
    (file.problems.items ≡ asked_problems work file.file all) × (file.changes.items ≡ changes)
    × (status ≡ check_status (has_problem file.problems.items))

-- The work was done with the text that a reader has, and these are its problems that are asked for, with its changes; or
-- it was refused.
abbrev pub GivesOver : ReportTask → FileProblems → ℕ → ByteStream → ByteStream → ByteStream → ByteStream → Type 0
GivesOver task file status reader left before after =
    ((all : CheckedText) × Finds task.work task.form task.style reader.contents all
    × AreAsked task.work all.problems.items all.changes.items file status × NoFailure reader left
    × NothingWritten before after)
    ⊎ GivesFault task file status reader left before after

-- The text t is no data, as the finding f says. Its problems are those that a check finds, and among them that of the
-- finding, as far as they are asked for; or it was refused. `fmt` leaves the text alone, so there are no changes.
abbrev pub GivesNoData : ReportTask → Finding → List ℕ → FileProblems → ℕ → ByteStream → ByteStream → Type 0
GivesNoData task f t file status before after =
    ((found : CheckedText) × (all : List OwnedProblem)
    × FindsBeside task.work task.style (Some t) found × WithGuard t f found.problems.items all
    × AreAsked task.work all [] file status × NothingWritten before after)
    ⊎ ((rest : List ℕ) × GivesFault task file status (held t) (held rest) before after)

-- What the check of a text gives, by the verdict on the text. An encrypted text has no problem, and a line says that it
-- is skipped.
abbrev pub GivesAsJudged : ReportTask → Verdict → List ℕ → FileProblems → ℕ → ByteStream → ByteStream → Type 0
GivesAsJudged task verdict.Passed t file status before after =
    (rest : List ℕ) × GivesOver task file status (held t) (held rest) before after
GivesAsJudged task verdict.Encrypted t file status before after =
    (file.problems.items ≡ []) × (file.changes.items ≡ []) × (status ≡ left_status Vault)
    × WrittenOrFailed before after (left_line Vault)
GivesAsJudged task (verdict.NoData f) t file status before after = GivesNoData task f t file status before after

-- The text that a reader has was judged, and the work was done as the verdict says; or it was refused.
abbrev pub GivesJudgedText : ReportTask → FileProblems → ℕ → ByteStream → ByteStream → ByteStream → ByteStream
    → Type 0
GivesJudgedText task file status reader left before after =
    ((t : List ℕ) × (v : Verdict) × GivesJudged true reader.contents t v × NoFailure reader left
    × GivesAsJudged task v t file status before after)
    ⊎ GivesFault task file status reader left before after

-- The input is a file that could not be opened, since it fails: that is its only problem.
abbrev pub GivesUnopened : InputClaim → ReportTask → Input → FileProblems → ℕ → ByteStream → ByteStream → Type 0
GivesUnopened claim task input file status before after =
    IsFile input × (claim.tells → claim.fails input) × IsOnly (RefusalProblem [] fault.ReadFailed) file
    × EndsTold task.explain AnyLines fault.ReadFailed status before after

-- What holds of a reader before and after it was read.
abbrev pub ReadClaim : Type 1
ReadClaim = ByteStream → ByteStream → Type 0

-- A reader of the input was opened, and P holds of it.
abbrev pub OpensReader : InputClaim → Input → ReadClaim → Type 0
OpensReader claim input P = (reader : ByteStream) × (left : ByteStream) × Opens claim input reader left × P reader left

-- The text that a reader of the input has was checked. If `is_judged` holds of the input, the text was judged first.
abbrev pub GivesRead : Scope → ReportTask → Input → FileProblems → ℕ → ByteStream → ByteStream → ReadClaim
GivesRead scope task input file status before after = λ reader left.
    MatchBool (is_judged scope input) (GivesJudgedText task file status reader left before after)
    (GivesOver task file status reader left before after)

-- What changes while inputs are checked for a report: the inputs that were opened, in order; the files of the report,
-- with their problems; and the stream of faults.
pub record ReportState : Type 0 where
  pub opened : List Input
  pub files : List FileProblems
  pub errors : ByteStream

-- The state, as contracts write it.
abbrev pub state_in : {I : Type 0} → (I → List Input) → I → List FileProblems → ByteStream → ReportState
state_in opened inputs files errors = record { opened = opened inputs; files = files; errors = errors }

-- What is done with an input for a report: a relation of the status and the states before and after.
abbrev pub ReportClaim : Type 1
ReportClaim = ℕ → ReportState → ReportState → Type 0

-- The name of an input in a report. Standard input has none, unless the command line gives one.
abbrev pub file_name : Option (List ℕ) → Input → Option (List ℕ)
file_name standard Standard = standard
file_name standard (File name) = Some name

-- A file with this name was added, and P holds of it.
abbrev pub AddsFile : Option (List ℕ) → (FileProblems → Type 0) → List FileProblems → List FileProblems → Type 0
AddsFile name P old new =
    (file : FileProblems) × (file.file ≡ name) × P file × (new ≡ old ++ file ∷ [])

-- The input was opened, and no other, and its problems were added.
abbrev pub GivesInput : InputClaim → Scope → ReportTask → Input → ReportClaim
GivesInput claim scope task input status before after =
    InputsOpened claim before.opened after.opened (input ∷ [])
    × AddsFile (file_name scope.stdin_name input)
    (λ file. GivesUnopened claim task input file status before.errors after.errors
    ⊎ OpensReader claim input (GivesRead scope task input file status before.errors after.errors))
    before.files after.files

-- The problems of the input were added, unless the settings leave the input out. Then it was not opened, and it is not
-- in the report.
pub data GivesScoped (claim : InputClaim) (scope : Scope) (task : ReportTask) (input : Input) (status : ℕ)
    (before after : ReportState) : Type 0 where
  left_out : IsLeftOut scope input → (claim.notes → after.opened ≡ before.opened) → after.files ≡ before.files
      → status ≡ 0 → TellsLeftOut task.tells_left_out before.errors after.errors
      → GivesScoped claim scope task input status before after
  included : ¬ (IsLeftOut scope input) → GivesInput claim scope task input status before after
      → GivesScoped claim scope task input status before after

-- ---- The problems of all inputs

-- One of several inputs was checked as if it were the only one. What was written for it has its name before each line.
abbrev pub GivesNamed : InputClaim → Scope → ReportTask → Input → ReportClaim
GivesNamed claim scope task input status before after =
    (run : ℕ) × (memory : ByteStream)
    × GivesScoped claim scope task input run (record before { errors = empty_stream })
    (record after { errors = memory })
    × ToldErrors (name_of scope.stdin_name input) run status memory before.errors after.errors

-- Some inputs were checked, in order. The status is the greatest of theirs.
pub data GivesEach (claim : InputClaim) (scope : Scope) (task : ReportTask) (before : ReportState)
    : List Input → ℕ → ReportState → Type 0 where
  none_given : GivesEach claim scope task before [] 0 before
  one_more : {inputs : List Input} {status : ℕ} {between : ReportState} (input : Input) (one : ℕ) {after : ReportState}
      → GivesEach claim scope task before inputs status between → GivesNamed claim scope task input one between after
      → GivesEach claim scope task before (inputs ++ input ∷ []) (max status one) after

-- The only input was checked, or each of several. With `--names`, also the lines of the only input have its name.
abbrev pub GivesAll : InputClaim → Scope → ReportTask → List Input → ReportClaim
GivesAll claim scope task [] status before after = ⊥
GivesAll claim scope task (input ∷ []) status before after =
    MatchBool scope.names (GivesEach claim scope task before (input ∷ []) status after)
    (GivesScoped claim scope task input status before after)
GivesAll claim scope task (input ∷ next ∷ inputs) status before after =
    GivesEach claim scope task before (input ∷ next ∷ inputs) status after

-- Memory was refused for an input: no other was opened, and nothing was written for it.
abbrev pub StopsAt : InputClaim → Input → ReportState → ReportState → Type 0
StopsAt claim input before after =
    (claim.notes → (after.opened ≡ before.opened) ⊎ (after.opened ≡ before.opened ++ input ∷ []))
    × NothingWritten before.errors after.errors

-- Memory was refused for one of these inputs. The inputs before it were checked.
abbrev pub GaveUp : InputClaim → Scope → ReportTask → List Input → ReportState → ReportState → Type 0
GaveUp claim scope task inputs before after =
    (done : List Input) × (input : Input) × (later : List Input) × (run : ℕ) × (between : ReportState)
    × (inputs ≡ done ++ input ∷ later) × GivesEach claim scope task before done run between
    × StopsAt claim input between after

-- ---- The report

-- The files with the problems that are printed. If there is a limit, their findings are the first ones of all files
-- together. Refusals stay.
abbrev pub AreShown : Option ℕ → List FileProblems → List FileProblems → Type 0
AreShown None files shown = shown ≡ files
AreShown (Some limit) files shown = map listed_in shown ≡ first_problems limit (map listed_in files)

-- How many findings the limit leaves out.
abbrev pub left_over : Option ℕ → List FileProblems → ℕ
left_over None files = 0
left_over (Some limit) files = count_findings files - limit

-- The words after the number of findings that are left out.
abbrev pub more_findings : ℕ → List ℕ
more_findings count =
    if count == 1 then codes " more finding is not printed\n" else codes " more findings are not printed\n"

-- If findings are left out, a line says how many.
abbrev pub TellsLeftOver : ℕ → ByteStream → ByteStream → Type 0
TellsLeftOver count before after =
    MatchBool (count == 0) (NothingWritten before after)
    (WrittenOrFailed before after (concat (decimal count ∷ more_findings count ∷ [])))

-- The report was written, and nothing else, and the status is that of the run. Or the writer failed.
abbrev pub EndsReport : List ℕ → ℕ → ℕ → OutputStreams → OutputStreams → Type 0
EndsReport report run status before after =
    ((status ≡ run) × Writes before.output after.output report × NothingWritten before.errors after.errors)
    ⊎ (BreaksOff before.output after.output report × EndsBy fault.WriteFailed status before.errors after.errors)

-- The problems of these files that the limit doesn't leave out were printed in the task's form, and a line before it
-- says how many are left out. Or there was no memory for that.
abbrev pub ReportWritten : ReportTask → List FileProblems → ℕ → ℕ → OutputStreams → OutputStreams → Type 0
ReportWritten task files run status before after =
    ((shown : List FileProblems) × (report : List ℕ) × (told : ByteStream) × AreShown task.limit files shown
    × Printed task.form shown report × TellsLeftOver (left_over task.limit files) before.errors told
    × EndsReport report run status (record before { errors = told }) after)
    ⊎ (NothingWritten before.output after.output × EndsBy fault.Memory status before.errors after.errors)

-- The state before the first input is checked.
abbrev pub empty_report : {F : Type 0} → World F → ReportState
empty_report world = record { opened = world.opened; files = []; errors = world.streams.errors }

-- All inputs were checked, and after that one report of their problems was written. (errors: the stream of faults then)
abbrev pub ReportsAll : {F : Type 0} → Host F → Scope → ReportTask → List Input → ByteStream → WorkClaim F
ReportsAll host scope task inputs errors status before after =
    (run : ℕ) × (files : List FileProblems)
    × GivesAll host.inputs scope task inputs run (empty_report before)
    (record { opened = after.opened; files = files; errors = errors })
    × ReportWritten task files run status (streams_of before.streams.output errors) after.streams

-- There was no memory for the problems of an input, and no report was written.
abbrev pub ReportsNone : {F : Type 0} → Host F → Scope → ReportTask → List Input → ByteStream → WorkClaim F
ReportsNone host scope task inputs errors status before after =
    (files : List FileProblems)
    × GaveUp host.inputs scope task inputs (empty_report before)
    (record { opened = after.opened; files = files; errors = errors })
    × NothingWritten before.streams.output after.streams.output × EndsBy fault.Memory status errors after.streams.errors

-- One report of the problems of all inputs was written, or there was no memory for that.
abbrev pub DoesReport : {F : Type 0} → Host F → Scope → ReportTask → List Input → WorkClaim F
DoesReport host scope task inputs status before after =
    (errors : ByteStream) × (after.files ≡ before.files)
    × (ReportsAll host scope task inputs errors status before after
    ⊎ ReportsNone host scope task inputs errors status before after)

-- ---- The baseline

-- The baseline is not taken, and no other input was opened.
abbrev pub TakesNoBaseline : {F : Type 0} → Host F → Check → Bool → WorkClaim F
TakesNoBaseline host check explain status before after =
    (why : NoBaseline) × BaselineUntaken host.inputs check.baseline why × (after.files ≡ before.files)
    × InputsOpened host.inputs before.opened after.opened (baseline_inputs check.baseline)
    × NothingWritten before.streams.output after.streams.output
    × TellsUntaken explain (unwrap_or check.baseline []) why status before.streams.errors after.streams.errors

-- The baseline, if there is one, was read first. Then one report of all inputs was written, without the findings that the
-- baseline lists.
abbrev pub ReportsNew : {F : Type 0} → Host F → Check → Scope → Bool → Style → Form → WorkClaim F
ReportsNew host check scope explain style form status before after =
    TakesNoBaseline host check explain status before after
    ⊎ ((listed : Listed) × (opened : List Input) × BaselineTaken host.inputs check.baseline listed
    × InputsOpened host.inputs before.opened opened (baseline_inputs check.baseline)
    × DoesReport host scope (report_task check listed explain style form) (all_inputs check.inputs) status
    (record before { opened = opened }) after)
