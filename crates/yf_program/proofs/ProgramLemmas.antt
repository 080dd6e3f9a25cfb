-- The refusals of a settings text are the refusals of its file. The output of a run that finds nothing to report.
use Rattle.std.proofs.Common.{◌≡◌, ◌≤◌, ℕ, List, length, Bool, true, Option, inl, inr, refl, subst, sym}
use Rattle.std.specs.Prelude.{Some, Result, Ok, Err, IfSome, MatchResult}
use Rattle.std.specs.Str.{IsUtf8}
use Rattle.yf_lines.specs.declared.fault.Fault.{Fault}
use Rattle.yf_lines.specs.declared.fault.Fault.TheVariants.{NotUtf8, Syntax, TooDeep, UnknownHandle, UnknownAlias, RepeatedDirective, BadVersion, EscapeValue, Memory, ReadFailed, WriteFailed, Config}
use Rattle.yf_command_line.specs.declared.command.Input.TheVariants.{File}
use Rattle.yf_program.specs.Answer.{Opens, RanFmtDiff}
use Rattle.yf_program.specs.SettingsFile.{FileRefused, FileSets, SettingsOfFile, Unset}
use Rattle.yf_rules.specs.Quoted.{quoted}
use Rattle.yf_host.specs.World.{InputClaim, streams_of}
use Rattle.yf_program.specs.declared.task.Task.{Task}
use Rattle.yf_rules.specs.declared.run.TheConstants.{INPUT_LIMIT}
use Rattle.yf_rules.specs.Runs.Compare.{IsClean}
use Rattle.yf_rules.specs.Runs.Diffed.{DiffRun}
use Rattle.yf_rules.specs.Runs.ByteStream.{ByteStream, NoFailure}
use Rattle.yf_rules.specs.Runs.Run.{Gave}
use Rattle.yf_settings.specs.FileSettings.{RefusesFile}
use Rattle.yf_settings.specs.declared.file_settings.FileSettings.{FileSettings}

pub text_refused : (input : ByteStream) {failed : Bool} (text : List ℕ) (f : Fault) → failed ≡ input.failed → Gave input.contents text
    → length text ≤ INPUT_LIMIT → IsUtf8 text → RefusesFile text f → FileRefused input (record { contents = input.contents; failed = failed }) f
text_refused input text (Config key) same gave within utf8 refuses = (same, (text, gave, within, inr (utf8, refuses)))
text_refused input text Memory same gave within utf8 refuses = same
text_refused input text (NotUtf8 offset) same gave within utf8 refuses = absurd refuses
text_refused input text (Syntax place what) same gave within utf8 refuses = absurd refuses
text_refused input text (TooDeep place) same gave within utf8 refuses = absurd refuses
text_refused input text (UnknownHandle place) same gave within utf8 refuses = absurd refuses
text_refused input text (UnknownAlias place) same gave within utf8 refuses = absurd refuses
text_refused input text (RepeatedDirective place) same gave within utf8 refuses = absurd refuses
text_refused input text (BadVersion place) same gave within utf8 refuses = absurd refuses
text_refused input text (EscapeValue place) same gave within utf8 refuses = absurd refuses
text_refused input text ReadFailed same gave within utf8 refuses = absurd refuses
text_refused input text WriteFailed same gave within utf8 refuses = absurd refuses

-- the settings of a settings file that was opened, or why there are none
module _ (claim : InputClaim) (config : Option (List ℕ)) (name : List ℕ) (is : config ≡ Some name) where
  pub settings_or_unset : (reader left : ByteStream) (outcome : Result FileSettings Fault)
      → Opens claim (File name) reader left → MatchResult outcome (λ settings. FileSets reader.contents settings) (λ fault. FileRefused reader left fault)
      → MatchResult outcome (SettingsOfFile claim config) (Unset claim config)
  settings_or_unset reader left (Ok settings) opens sets =
      subst (λ (c : Option (List ℕ)). SettingsOfFile claim c settings) (sym is) (reader, left, opens, sets)
  settings_or_unset reader left (Err fault) opens refused =
      subst (λ (c : Option (List ℕ)). Unset claim c fault) (sym is) (inr (reader, left, opens, refused))

  -- a settings file that can't be opened
  pub unopened : (fault : Fault) → fault ≡ ReadFailed → (claim.tells → claim.fails (File name)) → Unset claim config fault
  unopened fault failed fails = subst (λ (c : Option (List ℕ)). Unset claim c fault) (sym is) (inl (failed, fails))

-- a text that is its own formatting has no diff
pub no_diff : (name : List ℕ) (task : Task) (reader left output written errors : ByteStream) (same : Bool) → same ≡ true
    → DiffRun task.style (quoted name) reader output written same → (same ≡ true → IfSome reader.contents (IsClean task.style))
    → NoFailure reader left → RanFmtDiff name task 0 reader left (streams_of output errors) (streams_of written errors)
no_diff name task reader left output written errors same is_same diffed clean read =
    let of_same = subst (λ (b : Bool). DiffRun task.style (quoted name) reader output written b) is_same diffed in
    inl (true, of_same, λ _. clean is_same, read, refl, record { contents = refl; same = refl })
