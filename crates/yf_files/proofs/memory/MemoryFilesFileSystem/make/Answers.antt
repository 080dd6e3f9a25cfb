use Rattle.yf_files.proofs.MemoryLemmas.{either, made, time_failing, time_makes, well_fails, well_makes}
use Rattle.yf_files.proofs.memory.MemoryFilesFileSystem.make.Goals as goal

pub invariant_of-self : goal.invariant_of-self
invariant_of-self c = let mid = c.begin.new.self.logs in let new = c.make.new.self in
    let well = c.begin.new.self.well in
    record { well = either c.make.result c.make.ensures.ok c.make.ensures.err (well_makes mid new c.args.name.now well) (well_fails mid new well) }

pub returns-in-Ok-make-clause-ok : goal.returns-in-Ok-make-clause-ok
returns-in-Ok-make-clause-ok c told = made c.args.self.now.logs c.begin.new.self.logs c.make.new.self c.args.name.now c.args.self.now.well c.in-Ok.ensures.ok c.in-Ok-make.ensures.ok

pub returns-in-Ok-make-clause-time : goal.returns-in-Ok-make-clause-time
returns-in-Ok-make-clause-time c told = time_makes c.args.self.now.logs c.begin.new.self.logs c.make.new.self c.args.name.now c.args.self.now.well c.in-Ok.ensures.ok c.in-Ok-make.ensures.ok

pub returns-in-Err-make-clause-time : goal.returns-in-Err-make-clause-time
returns-in-Err-make-clause-time c told = time_failing c.args.self.now.logs c.begin.new.self.logs c.make.new.self c.args.self.now.well c.in-Ok.ensures.ok c.in-Err-make.ensures.err
