-- What the program does, from the words of its command line to its status, in the order of its work.
-- `ProgramRuns` of `Run` is the whole. Each definition here says what one step does.
-- (before, after: the world, the streams or one stream before and after a step;
-- reader, left: a reader before and after it was read)
use Rattle.std.specs.Prelude.{◌≡◌, ◌≢◌, ◌≤◌, ◌⊎◌, ◌&&◌, ◌++◌, ◌∷◌, ℕ, max, List, [], length, map, Bool, true, false}
use Rattle.std.specs.Prelude.{Option, Some, None, IfSome, MatchBool, Result, Ok, Err}
use Rattle.std.specs.Str.{IsUtf8}
use Rattle.std.specs.Io.KnownBytes.{Keeps}
use Rattle.yf_command_line.specs.Requests.{AsksFor, RefusesWords, all_files, all_inputs}
use Rattle.yf_command_line.specs.declared.command.Check.{Check}
use Rattle.yf_command_line.specs.declared.command.Command.{Command}
use Rattle.yf_command_line.specs.declared.command.Command.TheVariants as command
use Rattle.yf_command_line.specs.declared.command.FileList.{FileList}
use Rattle.yf_command_line.specs.declared.command.Fmt.TheVariants as fmt
use Rattle.yf_command_line.specs.declared.command.Input.{Input}
use Rattle.yf_command_line.specs.declared.command.Input.TheVariants.{Standard, File}
use Rattle.yf_command_line.specs.declared.command.InputList.{InputList}
use Rattle.yf_command_line.specs.declared.command.Part.TheVariants as part
use Rattle.yf_command_line.specs.declared.command.Request.{Request}
use Rattle.yf_command_line.specs.declared.usage.Usage.{Usage}
use Rattle.yf_command_line.specs.declared.usage.Usage.TheVariants as usage
use Rattle.yf_files.specs.Tree.{FilesState}
use Rattle.yf_files.specs.declared.rewriting.RewriteError.{RewriteError}
use Rattle.yf_findings.specs.declared.printed.Form.{Form}
use Rattle.yf_forms.specs.declared.style.Style.{Style}
use Rattle.yf_lines.specs.declared.fault.Fault.{Fault}
use Rattle.yf_lines.specs.declared.fault.Fault.TheVariants as fault
use Rattle.yf_parts.specs.PartRun.{IsPart, PartBroke, PartRun}
use Rattle.yf_parts.specs.declared.run.PartTask.{PartTask}
use Rattle.yf_parts.specs.declared.show.Show.{Show}
use Rattle.yf_parts.specs.declared.show.Show.TheVariants as show
use Rattle.yf_rules.specs.AllRules.{FoundWithout, rule_names}
use Rattle.yf_rules.specs.declared.run.TheConstants.{INPUT_LIMIT}
use Rattle.yf_rules.specs.Runs.ByteStream.{ByteStream, NoFailure, NothingWritten, Writes, BreaksOff, WrittenOrFailed}
use Rattle.yf_rules.specs.Runs.Compare.{CompareRun, IsClean, RefusedCompare}
use Rattle.yf_rules.specs.Runs.Diffed.{DiffRun, RefusedDiff}
use Rattle.yf_rules.specs.Runs.Input.{ReadRefusal}
use Rattle.yf_rules.specs.Runs.Run as Runs
use Rattle.yf_rules.specs.Runs.Run.{Gave, NotationWritten, RefusedEvents, RefusedCheck, RefusedFmt, RefusedRun, RefusedText, FormattingWritten, FindingsWritten}
pub use Rattle.yf_host.specs.Ends.{AnyLines, AreTold, EndsBy, EndsOver, EndsTold, EndsWell, InputsOpened, IsFile, Opens}
pub use Rattle.yf_host.specs.Ends.{TellsMore, name_of}
use Rattle.yf_rules.specs.Quoted.{quoted}
use Rattle.yf_program.specs.Forms.{check_form, checks_at_once, compare_form, writes_at_once}
use Rattle.yf_program.specs.Reports.{DoesReport, ReportsNew, compare_task}
use Rattle.yf_guard.specs.declared.guarded.Guarded.TheVariants.{Vault}
use Rattle.yf_guarded.specs.Checked.{CheckedBroke, CheckedRun}
use Rattle.yf_guarded.specs.Judged.{GivesText, IsByteFault}
use Rattle.yf_program.specs.Guarded.{DoneAsJudged, JudgedWork, RanJudged, ReaderClaim, is_judged, is_standard}
use Rattle.yf_host.specs.LeftAlone.{left_line, left_status}
use Rattle.yf_program.specs.Guarded.{names_without, prints_text, reads_first}
use Rattle.yf_host.specs.Rewriting.{FileRewrite, FormatsBytes, new_text_of, rewrite_line}
use Rattle.yf_host.specs.Rewriting.{rewrite_status}
use Rattle.yf_host.specs.declared.guarded_text.NoNewText.{NoNewText}
use Rattle.yf_program.specs.Server.{Served}
use Rattle.yf_host.specs.Report.{check_status, format_status}
use Rattle.yf_program.specs.Settings.{PassesBy, Scoped, left_out_line}
use Rattle.yf_program.specs.declared.scope.Scope.{Scope}
use Rattle.yf_host.specs.World.{Host, InputClaim, LinkClaim, OutputStreams, TextClaim, WorkClaim, World, later_in}
use Rattle.yf_host.specs.declared.sources.Sources.{Sources}
use Rattle.yf_program.specs.declared.task.Task.{Task}
use Rattle.yf_program.specs.declared.task.Work.{Work}
use Rattle.yf_program.specs.declared.task.Work.TheVariants as work
use Rattle.yf_host.specs.Memory.{ToldMemory, empty_memory}

-- ---- The words ask for nothing

-- Help was written to the output, or could not be; or why the words are refused was written to the stream of faults.
abbrev pub UsageWritten : Usage → ℕ → OutputStreams → OutputStreams → Type 0
UsageWritten (usage.Help text) status before after =
    (Writes before.output after.output text × EndsWell status before.errors after.errors)
    ⊎ (BreaksOff before.output after.output text × EndsBy fault.WriteFailed status before.errors after.errors)
UsageWritten (usage.Wrong text) status before after =
    (status ≡ 3) × NothingWritten before.output after.output × WrittenOrFailed before.errors after.errors text
UsageWritten usage.Memory status before after =
    NothingWritten before.output after.output × EndsBy fault.Memory status before.errors after.errors

-- ---- A work is done with the text of an input

-- The work on a reader for a task: by the status, the reader before and after, and the streams before and after.
abbrev pub RunClaim : Type 1
RunClaim = Task → ℕ → ByteStream → ByteStream → OutputStreams → OutputStreams → Type 0

abbrev pub task_of : Work → Bool → Style → Task
task_of what explain style = record { work = what; style = style; explain = explain }

-- `events` wrote the events, or was refused.
abbrev pub RanEvents : RunClaim
RanEvents task status reader left before after =
    (NotationWritten reader before.output after.output × NoFailure reader left
    × EndsWell status before.errors after.errors)
    ⊎ ((f : Fault) × RefusedEvents reader left before.output after.output f
    × EndsOver task.explain reader.contents f status before.errors after.errors)

-- `check` wrote the findings of all rules except those with these names, or was refused.
abbrev pub RanCheck : List (List ℕ) → RunClaim
RanCheck without task status reader left before after =
    ((any : Bool)
    × FindingsWritten (FoundWithout without task.style) task.style reader before.output after.output any
    × NoFailure reader left × (status ≡ check_status any) × TellsMore task.explain AnyLines before.errors after.errors)
    ⊎ ((f : Fault) × RefusedCheck (FoundWithout without task.style) task.style reader left before.output after.output f
    × EndsOver task.explain reader.contents f status before.errors after.errors)

-- `fmt` wrote the formatting, or was refused.
abbrev pub RanFmt : RunClaim
RanFmt task status reader left before after =
    (FormattingWritten task.style reader before.output after.output × NoFailure reader left
    × EndsWell status before.errors after.errors)
    ⊎ ((f : Fault) × RefusedFmt task.style reader left before.output after.output f
    × EndsOver task.explain reader.contents f status before.errors after.errors)

-- `fmt --check` wrote the first position at which the text differs from its formatting, if it does, or was refused.
abbrev pub RanFmtCheck : RunClaim
RanFmtCheck task status reader left before after =
    ((same : Bool) × CompareRun task.style reader before.output after.output same
    × (same ≡ true → IfSome reader.contents (IsClean task.style)) × NoFailure reader left
    × (status ≡ format_status same) × NothingWritten before.errors after.errors)
    ⊎ ((f : Fault) × RefusedCompare task.style reader left before.output after.output f
    × EndsOver task.explain reader.contents f status before.errors after.errors)

-- `fmt --diff` wrote the diff of the text and its formatting, with the name of the input, or was refused.
abbrev pub RanFmtDiff : List ℕ → RunClaim
RanFmtDiff name task status reader left before after =
    ((same : Bool) × DiffRun task.style (quoted name) reader before.output after.output same
    × (same ≡ true → IfSome reader.contents (IsClean task.style)) × NoFailure reader left
    × (status ≡ format_status same) × NothingWritten before.errors after.errors)
    ⊎ ((f : Fault) × RefusedDiff task.style (quoted name) reader left before.output after.output f
    × EndsOver task.explain reader.contents f status before.errors after.errors)

-- `fmt --lines` showed the text with the lines formatted, or was refused.
abbrev pub RanPart : PartTask → List ℕ → RunClaim
RanPart part name task status reader left before after =
    ((same : Bool) × PartRun part name task.style reader before.output after.output same × NoFailure reader left
    × (status ≡ format_status same) × NothingWritten before.errors after.errors)
    ⊎ ((f : Fault)
    × RefusedRun (PartBroke part name task.style reader before.output after.output) reader left before.output
    after.output f
    × EndsOver task.explain reader.contents f status before.errors after.errors)

-- The work was done with a reader of the input with this name.
abbrev pub RanWork : Work → List ℕ → RunClaim
RanWork work.Events name = RanEvents
RanWork (work.Check without) name = RanCheck without.items
RanWork work.Print name = RanFmt
RanWork work.Compare name = RanFmtCheck
RanWork work.Diff name = RanFmtDiff name
RanWork (work.Part part) name = RanPart part name

-- `fmt`, `fmt --check` or `fmt --diff` showed the formatting of the whole text, or was refused.
abbrev pub RanShown : Show → List ℕ → RunClaim
RanShown show.Text name = RanFmt
RanShown show.Place name = RanFmtCheck
RanShown show.Diff name = RanFmtDiff name

-- How a check ends: the text is encrypted, or the line of each finding was written.
abbrev pub EndsCheck : Bool → Option Bool → ℕ → ByteStream → ByteStream → Type 0
EndsCheck explain None status before after = (status ≡ left_status Vault) × WrittenOrFailed before after (left_line Vault)
EndsCheck explain (Some any) status before after = (status ≡ check_status any) × TellsMore explain AnyLines before after

-- `check` wrote what the rules find, and why the text is no data; or was refused.
abbrev pub RanCheckJudged : List (List ℕ) → RunClaim
RanCheckJudged without task status reader left before after =
    ((any : Option Bool)
    × CheckedRun (FoundWithout without task.style) task.style reader before.output after.output any
    × NoFailure reader left × EndsCheck task.explain any status before.errors after.errors)
    ⊎ ((f : Fault)
    × RefusedRun (CheckedBroke (FoundWithout without task.style) task.style reader.contents before.output after.output)
    reader left before.output after.output f
    × EndsOver task.explain reader.contents f status before.errors after.errors)

-- The text was judged first. A check writes why the text is no data, and goes on. Any other work is not done then.
abbrev pub RanPast : Option (List (List ℕ)) → Scope → Input → RunClaim
RanPast (Some without) scope input task = RanCheckJudged without task
RanPast None scope input task = RanJudged (record {
  reads = reads_first task.work input;
  Does = DoneAsJudged (prints_text task.work) (RanWork task.work (name_of scope.stdin_name input) task);
  Ends = EndsOver task.explain;
})

-- The formatting of the whole text is shown. The text is read and judged first.
abbrev pub shown_work : Show → List ℕ → Task → JudgedWork
shown_work how name task = record {
  reads = true;
  Does = DoneAsJudged (prints_text task.work) (RanShown how name task);
  Ends = EndsOver task.explain;
}

abbrev pub RanIf : Bool → Scope → Input → RunClaim
RanIf true scope input task = RanPast (names_without task.work) scope input task
RanIf false scope input task = RanWork task.work (name_of scope.stdin_name input) task

-- The work was done with a reader of the input. The text was judged first if the input has a name.
abbrev pub Ran : Scope → Input → RunClaim
Ran scope input task = RanIf (is_judged scope input) scope input task

-- The text of an input that the settings leave out was printed as it is, or its bytes were refused.
abbrev pub RanLeftOut : RunClaim
RanLeftOut task status reader left before after =
    ((t : List ℕ) × GivesText reader.contents t × NoFailure reader left
    × AreTold 0 status t (left_out_line task.explain) before after)
    ⊎ ((f : Fault) × RefusedText reader left f × IsByteFault f × NothingWritten before.output after.output
    × EndsOver task.explain reader.contents f status before.errors after.errors)

-- A reader of the input was opened, and the run was done with it.
abbrev pub RunsOver : InputClaim → Input → ReaderClaim → ℕ → OutputStreams → OutputStreams → Type 0
RunsOver claim input Ran status before after =
    (reader : ByteStream) × (left : ByteStream) × Opens claim input reader left
    × Ran status reader left before after

-- The input is a file that could not be opened, since it fails; or the work was done with a reader of the input.
abbrev pub DoesOpened : InputClaim → Scope → Input → Task → ℕ → OutputStreams → OutputStreams → Type 0
DoesOpened claim scope input task status before after =
    (IsFile input × (claim.tells → claim.fails input) × NothingWritten before.output after.output
    × EndsTold task.explain AnyLines fault.ReadFailed status before.errors after.errors)
    ⊎ RunsOver claim input (Ran scope input task) status before after

-- The input was opened, and no other, and the work was done with it.
abbrev pub DoesInput : {F : Type 0} → Host F → Scope → Task → Input → WorkClaim F
DoesInput host scope task input status before after =
    (after.files ≡ before.files) × InputsOpened host.inputs before.opened after.opened (input ∷ [])
    × DoesOpened host.inputs scope input task status before.streams after.streams

-- An editor was served with the inputs as they are after standard input was opened.
abbrev pub ServedLater : {F : Type 0} → Host F → Scope → Style → ReaderClaim
ServedLater host scope style status reader left before after =
    host.Later (λ claim. Served claim scope style status reader left before after)

-- Standard input was opened, and no other input, and an editor was served, with the settings of the start. (Settings
-- files that the server reads again don't count as opened.)
abbrev pub DoesServer : {F : Type 0} → Host F → Scope → Style → WorkClaim F
DoesServer host scope style status before after =
    (after.files ≡ before.files) × InputsOpened host.inputs before.opened after.opened (Standard ∷ [])
    × RunsOver host.inputs Standard (ServedLater host scope style) status before.streams after.streams

-- The input was opened, and no other, and its text was printed as it is.
abbrev pub CopiesInput : {F : Type 0} → Host F → Task → Input → WorkClaim F
CopiesInput host task input status before after =
    (after.files ≡ before.files) × InputsOpened host.inputs before.opened after.opened (input ∷ [])
    × RunsOver host.inputs input (RanLeftOut task) status before.streams after.streams

-- What is done with an input that the settings leave out. An editor that passes its text expects it back.
-- (copies: whether the text is printed as it is)
abbrev pub SkipsIf : {F : Type 0} → Bool → Host F → Task → Input → WorkClaim F
SkipsIf true host task input = CopiesInput host task input
SkipsIf false host task input = PassesBy host task.explain input

abbrev pub SkipsInput : {F : Type 0} → Host F → Task → Input → WorkClaim F
SkipsInput host task input = SkipsIf (is_standard input && prints_text task.work) host task input

-- The work was done with the input, unless the settings leave the input out.
abbrev pub ScopedInput : {F : Type 0} → Host F → Scope → Task → Input → WorkClaim F
ScopedInput host scope task = Scoped host scope (record { Does = DoesInput host scope task; Skips = SkipsInput host task })

-- ---- A file is rewritten

-- The facts that are known of the system, by the ghost members of what reads the inputs and of the files.
-- (claim: of the inputs; tells, state, leads: of the files)
abbrev pub host_in : {I F : Type 0} → (I → InputClaim) → Type 0 → (F → FilesState) → LinkClaim F → Sources I F → Host F
host_in claim tells state leads sources = record {
  inputs = claim sources.inputs;
  Later = later_in claim sources.inputs;
  Rewrites = λ first last name Text. FileRewrite tells (state first) (state last) (leads first name) Text;
}

-- The line of a file that is not rewritten was written to the stream of faults, and the status is that of the line.
abbrev pub TellsRewriting : Result Unit (RewriteError NoNewText) → ℕ → ByteStream → ByteStream → Type 0
TellsRewriting (Ok done) status before after = EndsWell status before after
TellsRewriting (Err none) status before after =
    (status ≡ rewrite_status none) × WrittenOrFailed before after (rewrite_line none)

-- A rewriting had a result, and how it ended was written to the stream of faults, with `--explain` and more lines.
abbrev pub EndsRewriting : Bool → (Result Unit (RewriteError NoNewText) → Type 0) → ℕ → ByteStream → ByteStream → Type 0
EndsRewriting explain Rewrites status before after =
    (result : Result Unit (RewriteError NoNewText)) × (told : ByteStream) × Rewrites result
    × TellsRewriting result status before told × TellsMore explain AnyLines told after

-- A file was rewritten: no input was opened, and nothing was written to the output.
-- (Text: what the new text is, by the bytes that the file holds, and why they have none)
abbrev pub DoesRewrite : {F : Type 0} → Host F → Bool → TextClaim → List ℕ → WorkClaim F
DoesRewrite host explain Text name status before after =
    (host.inputs.notes → after.opened ≡ before.opened) × NothingWritten before.streams.output after.streams.output
    × EndsRewriting explain (host.Rewrites before.files after.files name Text) status
    before.streams.errors after.streams.errors

-- ---- A work is done with several files

-- It was done as if for the only file, and written to memory. The texts there were written with the file's name before
-- each line that is not part of a diff.
abbrev pub DoesNamed : {F : Type 0} → List ℕ → WorkClaim F → WorkClaim F
DoesNamed name Does status before after =
    (run : ℕ) × (memory : OutputStreams)
    × Does run (record before { streams = empty_memory }) (record after { streams = memory })
    × ToldMemory name run status memory before.streams after.streams

-- It was done with each of some inputs, in order, and the status is the greatest of theirs.
-- (standard: the name of standard input, if the command line gives one)
pub data DoesEach {F : Type 0} (standard : Option (List ℕ)) (Does : Input → WorkClaim F) (before : World F)
    : List Input → ℕ → World F → Type 0 where
  one_done : {input : Input} {status : ℕ} {after : World F}
      → DoesNamed (name_of standard input) (Does input) status before after
      → DoesEach standard Does before (input ∷ []) status after
  one_more : {inputs : List Input} {status : ℕ} {between : World F} (input : Input) (one : ℕ) {after : World F}
      → DoesEach standard Does before inputs status between
      → DoesNamed (name_of standard input) (Does input) one between after
      → DoesEach standard Does before (inputs ++ input ∷ []) (max status one) after

-- It was done with the only input, or with each of several. With `--names`, also the lines of the only input have its
-- name.
abbrev pub DoesAll : {F : Type 0} → Scope → (Input → WorkClaim F) → List Input → WorkClaim F
DoesAll scope Does [] status before after = ⊥
DoesAll scope Does (input ∷ []) status before after =
    MatchBool scope.names (DoesEach scope.stdin_name Does before (input ∷ []) status after)
    (Does input status before after)
DoesAll scope Does (input ∷ next ∷ inputs) status before after =
    DoesEach scope.stdin_name Does before (input ∷ next ∷ inputs) status after

-- ---- A command

-- A file is rewritten by its name.
abbrev pub RewritesInput : {F : Type 0} → Host F → Bool → TextClaim → Input → WorkClaim F
RewritesInput host explain Text Standard status before after = ⊥
RewritesInput host explain Text (File name) status before after =
    DoesRewrite host explain Text name status before after

-- The file is rewritten, unless the settings leave it out.
abbrev pub ScopedRewrite : {F : Type 0} → Host F → Scope → Bool → TextClaim → Input → WorkClaim F
ScopedRewrite host scope explain Text =
    Scoped host scope (record { Does = RewritesInput host explain Text; Skips = PassesBy host explain })

-- `check` was done in this form with the inputs that are not left out: each finding was written as soon as its input
-- was checked, or one report of all inputs was written.
abbrev pub DoesCheck : {F : Type 0} → Host F → Check → Scope → Bool → Style → Form → WorkClaim F
DoesCheck host check scope explain style form status before after =
    MatchBool (checks_at_once form check)
    (DoesAll scope (ScopedInput host scope (task_of (work.Check check.without) explain style)) (all_inputs check.inputs)
    status before after)
    (ReportsNew host check scope explain style form status before after)

-- `fmt --check` was done in this form with the inputs that are not left out: the line of each input was written as soon
-- as it was compared, or one report of all inputs was written.
abbrev pub DoesCompare : {F : Type 0} → Host F → InputList → Scope → Bool → Style → Form → WorkClaim F
DoesCompare host inputs scope explain style form status before after =
    MatchBool (writes_at_once form [] None)
    (DoesAll scope (ScopedInput host scope (task_of work.Compare explain style)) (all_inputs inputs)
    status before after)
    (DoesReport host scope (compare_task explain style form) (all_inputs inputs) status before after)

-- The command was done in a style, with the inputs that are not left out.
abbrev pub DoesIn : {F : Type 0} → Host F → Command → Scope → Bool → Style → WorkClaim F
DoesIn host (command.Events input) scope explain style =
    ScopedInput host scope (task_of work.Events explain style) input
DoesIn host command.Server scope explain style = DoesServer host scope style
DoesIn host (command.Check check) scope explain style =
    DoesCheck host check scope explain style (check_form check scope explain)
DoesIn host (command.Fmt (fmt.Print input)) scope explain style =
    ScopedInput host scope (task_of work.Print explain style) input
DoesIn host (command.Fmt (fmt.Check inputs output)) scope explain style =
    DoesCompare host inputs scope explain style (compare_form inputs output scope explain)
DoesIn host (command.Fmt (fmt.Diff inputs)) scope explain style =
    DoesAll scope (ScopedInput host scope (task_of work.Diff explain style)) (all_inputs inputs)
DoesIn host (command.Fmt (fmt.Write files)) scope explain style =
    DoesAll scope (ScopedRewrite host scope explain (new_text_of scope.any_text (FormatsBytes style)))
    (map (λ name. File name) (all_files files))
DoesIn host (command.Fmt (fmt.Part lines (part.Print input))) scope explain style =
    ScopedInput host scope (task_of (work.Part (record { lines = lines; show = show.Text })) explain style) input
DoesIn host (command.Fmt (fmt.Part lines (part.Check input))) scope explain style =
    DoesAll scope
    (ScopedInput host scope (task_of (work.Part (record { lines = lines; show = show.Place })) explain style)) (input ∷ [])
DoesIn host (command.Fmt (fmt.Part lines (part.Diff input))) scope explain style =
    DoesAll scope
    (ScopedInput host scope (task_of (work.Part (record { lines = lines; show = show.Diff })) explain style)) (input ∷ [])
DoesIn host (command.Fmt (fmt.Part lines (part.Write file))) scope explain style =
    DoesAll scope (ScopedRewrite host scope explain (new_text_of scope.any_text (IsPart style lines.items)))
    (File file ∷ [])

-- The writer writes out what it holds back. If it fails only then, that is reported; otherwise the status stays.
-- (What a writer holds back is no part of its `ByteStream`, so nothing says that it holds nothing back afterwards.)
abbrev pub WrittenOut : ℕ → ℕ → OutputStreams → OutputStreams → Type 0
WrittenOut run status before after =
    Keeps before.output.contents after.output.contents
    × (((status ≡ run) × NoFailure before.output after.output × NothingWritten before.errors after.errors)
    ⊎ ((before.output.failed ≡ false) × (after.output.failed ≡ true)
    × EndsBy fault.WriteFailed status before.errors after.errors))
