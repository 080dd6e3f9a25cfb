use Rattle.std.proofs.Common.{refl}
use Rattle.yf_files.specs.Tree.{regular}
use Rattle.yf_files.proofs.MemoryLemmas.{either, holds_whole, time_failing, time_half, time_written, well_fails, well_half, well_written, written, written_half}
use Rattle.yf_files.proofs.memory.MemoryFilesFileSystem.write.Goals as goal

pub returns-in-Err-give-clause-time : goal.returns-in-Err-give-clause-time
returns-in-Err-give-clause-time c told = time_failing c.args.self.now.logs c.begin.new.self.logs c.give.new.self c.args.self.now.well c.in-Ok.ensures.ok c.in-Err-give.ensures.err

pub invariant_of-self-2 : goal.invariant_of-self-2
invariant_of-self-2 c =
    let old = c.args.self.now.logs in
    let well = c.args.self.now.well in
    let mid = c.begin.new.self.logs in
    let half = c.give.new.self in
    let new = c.give-2.new.self in
    let p = c.in-Ok.ensures.ok in
    let g = c.in-Ok-give.ensures.ok in
    record {
      well = either c.give-2.result c.give-2.ensures.ok c.give-2.ensures.err (λ w. well_written old mid half mid.made _ well p g new (regular c.args.bytes.now) w)
          (λ f. well_fails half new (well_half old mid half mid.made _ well p g) f);
    }

pub returns-in-Ok-give-2-clause-written : goal.returns-in-Ok-give-2-clause-written
returns-in-Ok-give-2-clause-written c told =
    let mid = c.begin.new.self.logs in
    let p = c.in-Ok.ensures.ok in
    holds_whole c.args.self.now.logs mid c.give.new.self mid.made _ c.args.self.now.well p c.in-Ok-give.ensures.ok c.give-2.new.self (regular c.args.bytes.now) c.in-Ok-give-2.ensures.ok p.made

pub returns-in-Ok-give-2-clause-nothing_else : goal.returns-in-Ok-give-2-clause-nothing_else
returns-in-Ok-give-2-clause-nothing_else c told =
    let mid = c.begin.new.self.logs in
    written c.args.self.now.logs mid c.give.new.self mid.made _ c.args.self.now.well c.in-Ok.ensures.ok c.in-Ok-give.ensures.ok c.give-2.new.self (regular c.args.bytes.now) c.in-Ok-give-2.ensures.ok refl

pub returns-in-Ok-give-2-clause-time : goal.returns-in-Ok-give-2-clause-time
returns-in-Ok-give-2-clause-time c told =
    let mid = c.begin.new.self.logs in
    time_written c.args.self.now.logs mid c.give.new.self mid.made _ c.args.self.now.well c.in-Ok.ensures.ok c.in-Ok-give.ensures.ok c.give-2.new.self (regular c.args.bytes.now) c.in-Ok-give-2.ensures.ok

pub returns-in-Err-give-2-clause-nothing_else : goal.returns-in-Err-give-2-clause-nothing_else
returns-in-Err-give-2-clause-nothing_else c told =
    let mid = c.begin.new.self.logs in
    written_half c.args.self.now.logs mid c.give.new.self mid.made _ c.args.self.now.well c.in-Ok.ensures.ok c.in-Ok-give.ensures.ok c.give-2.new.self refl c.in-Err-give-2.ensures.err

pub returns-in-Err-give-2-clause-time : goal.returns-in-Err-give-2-clause-time
returns-in-Err-give-2-clause-time c told =
    let mid = c.begin.new.self.logs in
    time_half c.args.self.now.logs mid c.give.new.self mid.made _ c.args.self.now.well c.in-Ok.ensures.ok c.in-Ok-give.ensures.ok c.give-2.new.self c.in-Err-give-2.ensures.err
