-- What the run that prints events has written.
use Rattle.std.proofs.Common.{◌≡◌, ℕ, List, Bool, sym, subst}
use Rattle.std.specs.Prelude.{Result, Ok, Err, IfErr, OnOk}
use Rattle.yf_lines.specs.declared.fault.Fault.{Fault}
use Rattle.yf_events.specs.declared.lists.Lists.{Lists}
use Rattle.yf_events.specs.declared.reading.TheConstants.{DEPTH}
use Rattle.yf_events.specs.Nested.{IsStream}
use Rattle.yf_events.specs.Notation.{notation_of}
use Rattle.yf_events.specs.Reading.{events_of}
use Rattle.yf_stream.specs.StreamReader.{TheReading}
use Rattle.yf_rules.specs.Runs.ByteStream.{ByteStream, WriteEnds}
use Rattle.yf_rules.specs.Runs.Run.{NotationWritten, RefusedEvents}
use Rattle.yf_rules.proofs.Runs.GivenTexts.{GivenText, left_of}

module _ (input before after : ByteStream) {t : List ℕ} {reading : Lists} (outcome : Result Unit Fault) (given : GivenText input.contents t)
    (nested : IsStream DEPTH (events_of reading)) (reads : TheReading t reading) where
  pub notation_written : WriteEnds before after (notation_of reading) outcome → OnOk outcome (NotationWritten input before after)
  notation_written = at outcome where
    at : (o : Result Unit Fault) → WriteEnds before after (notation_of reading) o → OnOk o (NotationWritten input before after)
    at (Ok done) wrote = record {
      text = t;
      reading = reading;
      gave = given.gave;
      within = given.within;
      utf8 = given.utf8;
      nested = nested;
      reads = reads;
      wrote = wrote;
    }
    at (Err fault) wrote = tt

  pub notation_broke : {failed : Bool} → failed ≡ input.failed → WriteEnds before after (notation_of reading) outcome
      → IfErr outcome (RefusedEvents input (left_of input failed) before after)
  notation_broke {failed} works = at outcome where
    at : (o : Result Unit Fault) → WriteEnds before after (notation_of reading) o
        → IfErr o (RefusedEvents input (left_of input failed) before after)
    at (Ok done) broke = tt
    at (Err fault) broke = subst (RefusedEvents input (left_of input failed) before after) (sym broke.0) (
      record {
        text = t;
        reading = reading;
        gave = given.gave;
        within = given.within;
        utf8 = given.utf8;
        nested = nested;
        reads = reads;
        broke = broke.1;
      },
      works,
    )
