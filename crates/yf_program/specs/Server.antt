-- What the editor server does with standard input and the two streams that it writes to.
use Rattle.std.specs.Prelude.{◌≡◌, ◌≢◌, ◌⊎◌, ◌<◌, ◌+◌, ◌==◌, ℕ, List, [], ◌∷◌, length, take, Bool, true, false, Option, None, Some, MatchBool, codes}
use Rattle.std.specs.List.{count_by}
use Rattle.yf_forms.specs.declared.style.Style.{Style}
use Rattle.yf_guard.specs.Guards.{IsVault}
use Rattle.yf_guard.specs.declared.guarded.Guarded.{Guarded}
use Rattle.yf_guarded.specs.Judged.{Guards}
use Rattle.yf_json_rpc.specs.declared.frame.FrameError.{FrameError}
use Rattle.yf_json_rpc.specs.declared.frame.FrameError.TheVariants as frame
use Rattle.yf_lines.specs.declared.fault.Fault.{Fault}
use Rattle.yf_lines.specs.declared.fault.Fault.TheVariants as fault
use Rattle.yf_line_ranges.specs.declared.range.LineRange.{LineRange}
use Rattle.yf_parts.specs.PartRun.{IsPart}
use Rattle.yf_rules.specs.Headline.{Headline}
use Rattle.yf_rules.specs.Runs.ByteStream.{ByteStream, NothingWritten, WrittenOrFailed}
use Rattle.yf_rules.specs.declared.run.TheConstants.{INPUT_LIMIT}
use Rattle.yf_program.specs.Handling.{IsHandled}
use Rattle.yf_program.specs.declared.handling.Handling.{Handling}
use Rattle.yf_program.specs.declared.handling.Handling.TheVariants as handling
use Rattle.yf_program.specs.declared.scope.Scope.{Scope}
use Rattle.yf_server.specs.Analysis.{Found, TextClaim}
use Rattle.yf_server.specs.declared.analysis.Severity.TheVariants.{Error}
use Rattle.yf_server_loop.specs.Sessions.{Moment, SessionRuns}
use Rattle.yf_server_loop.specs.declared.ended.Ended.{Ended}
use Rattle.yf_server_loop.specs.declared.ended.Ended.TheVariants as ended
use Rattle.yf_stream.specs.StreamReader.{StreamFault}
use Rattle.yf_problems.specs.Folds.{FindsParts}
use Rattle.yf_problems.specs.Outlines.{FindsOutline}
use Rattle.yf_problems.specs.Problems.{FindsProblems}
use Rattle.yf_host.specs.Report.{fault_line, fault_status}
use Rattle.yf_host.specs.World.{InputClaim, OutputStreams}

-- The server makes no edits for the text: it is an Ansible Vault file, or too long.
abbrev pub IsLeft : List ℕ → Type 0
IsLeft text = IsVault text ⊎ (INPUT_LIMIT < length text)

-- The result of formatting a text in a style: the text that `Headline` describes; or none, since the text is left
-- alone, or refused.
abbrev pub FormatsText : Style → List ℕ → Option (List ℕ) → Type 0
FormatsText style text (Some new) = (IsLeft text → ⊥) × Headline text style new
FormatsText style text None = IsLeft text ⊎ ((why : Fault) × (why ≢ fault.Memory) × StreamFault text why)

-- The number of the line that an offset is in. Lines end after a line feed, and their numbers begin at 1.
abbrev pub line_number : List ℕ → ℕ → ℕ
line_number text offset = count_by (λ b. b == 10) (take offset text) + 1

-- What the formatting of the lines from that of one offset to that of another one gives: the text of which `PartKept`
-- speaks; or none, as for the whole text.
abbrev pub FormatsLines : Style → List ℕ → ℕ → ℕ → Option (List ℕ) → Type 0
FormatsLines style text first last (Some new) = (IsLeft text → ⊥)
    × IsPart style (record { first = line_number text first; last = line_number text last } ∷ []) text new
FormatsLines style text first last None = FormatsText style text None

-- The problems of a text in a style. An Ansible Vault file has none.
abbrev pub FindsInText : Style → List ℕ → List Found → Type 0
FindsInText style text found =
    (IsVault text × (found ≡ [])) ⊎ ((IsVault text → ⊥) × FindsProblems style text found)

-- ---- The settings of a document

-- The text is data, or it is formatted also if it is none.
abbrev pub IsFormatted : Bool → List ℕ → Type 0
IsFormatted any_text text = MatchBool any_text (Unit {0}) (Guards true text None)

-- The text is no data.
abbrev pub IsNoData : List ℕ → Type 0
IsNoData text = (why : Guarded) × Guards true text (Some why)

-- The result of formatting a text in a style, unless it is no data.
abbrev pub FormatsData : Style → Bool → List ℕ → Option (List ℕ) → Type 0
FormatsData style any_text text (Some new) = IsFormatted any_text text × FormatsText style text (Some new)
FormatsData style any_text text None = ((any_text ≡ false) × IsNoData text) ⊎ FormatsText style text None

-- The result of formatting some lines of a text, unless it is no data.
abbrev pub FormatsDataLines : Style → Bool → List ℕ → ℕ → ℕ → Option (List ℕ) → Type 0
FormatsDataLines style any_text text first last (Some new) =
    IsFormatted any_text text × FormatsLines style text first last (Some new)
FormatsDataLines style any_text text first last None = FormatsData style any_text text None

-- The result of formatting a text by its settings.
abbrev pub FormatsAs : Handling → List ℕ → Option (List ℕ) → Type 0
FormatsAs (handling.Taken style any_text) text new = FormatsData style any_text text new
FormatsAs handling.LeftOut text new = new ≡ None
FormatsAs (handling.Unset words) text new = new ≡ None

-- The result of formatting some lines of a text by its settings.
abbrev pub FormatsLinesAs : Handling → List ℕ → ℕ → ℕ → Option (List ℕ) → Type 0
FormatsLinesAs (handling.Taken style any_text) text first last new = FormatsDataLines style any_text text first last new
FormatsLinesAs handling.LeftOut text first last new = new ≡ None
FormatsLinesAs (handling.Unset words) text first last new = new ≡ None

-- The problem of a document whose settings can't be used.
abbrev pub unset_problem : List ℕ → Found
unset_problem words = record {
  start = 0;
  end = 0;
  severity = Error;
  code = codes "settings";
  message = words;
}

-- The problems of a text by its settings.
abbrev pub FindsAs : Handling → List ℕ → List Found → Type 0
FindsAs (handling.Taken style any_text) text found = FindsInText style text found
FindsAs handling.LeftOut text found = found ≡ []
FindsAs (handling.Unset words) text found = found ≡ unset_problem words ∷ []

-- What the server knows of documents, from the settings of each.
abbrev pub document_claim : InputClaim → Scope → Style → TextClaim
document_claim claim scope style = record {
  Formats = λ uri text new. (h : Handling) × IsHandled claim scope style uri h × FormatsAs h text new;
  FormatsLines = λ uri text first last new.
      (h : Handling) × IsHandled claim scope style uri h × FormatsLinesAs h text first last new;
  Finds = λ uri text found. (h : Handling) × IsHandled claim scope style uri h × FindsAs h text found;
  Folds = FindsParts;
  Outlines = FindsOutline;
}

-- ---- A session

-- The line for bytes that begin with no message.
abbrev pub frame_line : FrameError → List ℕ
frame_line frame.Header = codes "message refused: malformed header\n"
frame_line frame.Length = codes "message refused: no content length\n"
frame_line frame.TooLong = codes "message refused: too long\n"

-- 0 for `exit` after `shutdown`, else 1
abbrev pub exit_status : Bool → ℕ
exit_status true = 0
exit_status false = 1

-- The line of a fault was written to the stream of faults, and the status is that of the fault.
abbrev pub EndsAs : Fault → ℕ → ByteStream → ByteStream → Type 0
EndsAs f status before after = (status ≡ fault_status f) × WrittenOrFailed before after (fault_line f)

-- How a session ended, by the status and by what was written to the stream of faults.
abbrev pub TellsEnd : Ended → ℕ → ByteStream → ByteStream → Type 0
TellsEnd (ended.Exit is_success) status before after = (status ≡ exit_status is_success) × NothingWritten before after
TellsEnd ended.EndOfInput status before after = (status ≡ 1) × NothingWritten before after
TellsEnd (ended.Frame why) status before after = (status ≡ 3) × WrittenOrFailed before after (frame_line why)
TellsEnd ended.ReadFailed status before after = EndsAs fault.ReadFailed status before after
TellsEnd ended.TooMany status before after = EndsAs fault.ReadFailed status before after
TellsEnd ended.WriteFailed status before after = EndsAs fault.WriteFailed status before after
TellsEnd ended.Memory status before after = EndsAs fault.Memory status before after

-- A reader and a writer at a moment.
abbrev pub moment_between : ByteStream → ByteStream → Moment
moment_between reader writer = record {
  input = reader.contents;
  input_failed = reader.failed;
  output = writer.contents;
  output_failed = writer.failed;
}

-- A session was served, with these inputs and the settings of the start.
pub record Served (claim : InputClaim) (scope : Scope) (style : Style) (status : ℕ) (reader left : ByteStream)
    (before after : OutputStreams) : Type 0 where
  pub why : Ended
  pub session : SessionRuns (document_claim claim scope style) (moment_between reader before.output)
      (moment_between left after.output) why
  pub told : TellsEnd why status before.errors after.errors
