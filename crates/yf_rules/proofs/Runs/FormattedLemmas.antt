-- What the run that formats has written, from the formatted text and the end of its writing, and why nothing could be
-- formatted.
use Rattle.std.proofs.Common.{◌≡◌, ℕ, List, Bool, subst, sym}
use Rattle.std.specs.Prelude.{Result, Ok, Err, IfErr, OnOk}
use Rattle.yf_forms.specs.declared.style.Style.{Style}
use Rattle.yf_lines.specs.declared.fault.Fault.{Fault}
use Rattle.yf_lines.specs.declared.fault.Fault.TheVariants.{Syntax, TooDeep, UnknownHandle, UnknownAlias, RepeatedDirective, BadVersion, EscapeValue, Memory}
use Rattle.yf_stream.specs.Refusal.{IsStreamFault}
use Rattle.yf_stream.specs.StreamReader.{StreamFault}
use Rattle.yf_stream.proofs.Offsets.FaultsPlaced.{faults_are_placed}
use Rattle.yf_rules.specs.Runs.ByteStream.{ByteStream, NothingWritten, Writes, BreaksOff, WriteEnds}
use Rattle.yf_rules.proofs.Runs.GivenTexts.{GivenText, left_of}
use Rattle.yf_rules.specs.Runs.Run.{GaveNoStream, RefusedFmt, RefusedRun, RefusedText, FormattingGiven, FormattingWritten}

pub wrote_formatted : (style : Style) (input before after : ByteStream) (formatted text : List ℕ) (outcome : Result Unit Fault)
    → FormattingGiven style input.contents formatted → text ≡ formatted → WriteEnds before after text outcome → OnOk outcome (FormattingWritten style input before after)
wrote_formatted style input before after formatted text (Ok done) r e w = record {
  formatted = formatted;
  rendered = r;
  wrote = subst (Writes before after) e w;
}
wrote_formatted style input before after formatted text (Err fault) r e w = tt

pub broke_formatted : (style : Style) (input : ByteStream) (failed : Bool) (before after : ByteStream) (formatted text : List ℕ) (outcome : Result Unit Fault)
    → FormattingGiven style input.contents formatted → text ≡ formatted → failed ≡ input.failed → WriteEnds before after text outcome
    → IfErr outcome (RefusedFmt style input (left_of input failed) before after)
broke_formatted style input failed before after formatted text (Ok done) r e s w = tt
broke_formatted style input failed before after formatted text (Err fault) r e s w =
    subst (RefusedFmt style input (left_of input failed) before after) (sym w.0) (
      record {
        formatted = formatted;
        rendered = r;
        broke = subst (BreaksOff before after) e w.1;
      },
      s,
    )

-- a text that the reader of streams refuses
module _ (input : ByteStream) {failed : Bool} {t : List ℕ} (given : GivenText input.contents t) (s : failed ≡ input.failed) where
  no_stream_in : (fault : Fault) → StreamFault t fault → IsStreamFault t fault → GaveNoStream input.contents fault
  no_stream_in fault w i = record { text = t; gave = given.gave; within = given.within; utf8 = given.utf8; is = i; why = w }

  refused_for : (fault : Fault) → StreamFault t fault → IsStreamFault t fault → RefusedText input (left_of input failed) fault
  refused_for (Syntax place what) w i = (no_stream_in (Syntax place what) w i, s)
  refused_for (TooDeep place) w i = (no_stream_in (TooDeep place) w i, s)
  refused_for (UnknownHandle place) w i = (no_stream_in (UnknownHandle place) w i, s)
  refused_for (UnknownAlias place) w i = (no_stream_in (UnknownAlias place) w i, s)
  refused_for (RepeatedDirective place) w i = (no_stream_in (RepeatedDirective place) w i, s)
  refused_for (BadVersion place) w i = (no_stream_in (BadVersion place) w i, s)
  refused_for (EscapeValue place) w i = (no_stream_in (EscapeValue place) w i, s)
  refused_for Memory w i = s
  refused_for _ w i = absurd i

  pub refused_text : (fault : Fault) → StreamFault t fault → RefusedText input (left_of input failed) fault
  refused_text fault w = refused_for fault w (faults_are_placed t fault w)

  refused_by : (Broken : Type 0) (before after : ByteStream) (fault : Fault) → StreamFault t fault → IsStreamFault t fault → NothingWritten before after
      → RefusedRun Broken input (left_of input failed) before after fault
  refused_by B before after (Syntax place what) w i n = (refused_for (Syntax place what) w i, n)
  refused_by B before after (TooDeep place) w i n = (refused_for (TooDeep place) w i, n)
  refused_by B before after (UnknownHandle place) w i n = (refused_for (UnknownHandle place) w i, n)
  refused_by B before after (UnknownAlias place) w i n = (refused_for (UnknownAlias place) w i, n)
  refused_by B before after (RepeatedDirective place) w i n = (refused_for (RepeatedDirective place) w i, n)
  refused_by B before after (BadVersion place) w i n = (refused_for (BadVersion place) w i, n)
  refused_by B before after (EscapeValue place) w i n = (refused_for (EscapeValue place) w i, n)
  refused_by B before after Memory w i n = (refused_for Memory w i, n)
  refused_by B before after _ w i n = absurd i

  -- a run that has written nothing fails so
  pub run_refused : (Broken : Type 0) (before after : ByteStream) (fault : Fault) → StreamFault t fault → NothingWritten before after
      → RefusedRun Broken input (left_of input failed) before after fault
  run_refused B before after fault w n = refused_by B before after fault w (faults_are_placed t fault w) n
