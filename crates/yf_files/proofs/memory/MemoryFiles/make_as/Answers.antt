use Rattle.yf_files.proofs.LinkLemmas.{node_made}
use Rattle.yf_files.proofs.MemoryLemmas.{either, well_fails, well_gives, well_makes}
use Rattle.yf_files.specs.Memory.{node_in}
use Rattle.yf_files.proofs.memory.MemoryFiles.make_as.Goals as goal

pub invariant_of-self : goal.invariant_of-self
invariant_of-self c = let mid = c.begin.new.self.logs in let new = c.make.new.self in
    let well = c.begin.new.self.well in
    record { well = either c.make.result c.make.ensures.ok c.make.ensures.err (well_makes mid new c.args.name.now well) (well_fails mid new well) }

pub invariant_of-self-2 : goal.invariant_of-self-2
invariant_of-self-2 c = let mid = c.begin.new.self.logs in let one = c.make.new.self in let new = c.be.new.self in
    let well = well_makes mid one c.args.name.now c.begin.new.self.well c.in-Ok-make.ensures.ok in
    record { well = either c.be.result c.be.ensures.ok c.be.ensures.err (well_gives one new one.made (node_in c.args.held) well) (well_fails one new well) }

pub returns-in-Ok-be : goal.returns-in-Ok-be
returns-in-Ok-be c = node_made c.args.self.now.logs c.begin.new.self.logs c.make.new.self c.be.new.self c.args.name.now (node_in c.args.held) c.args.self.now.well
    c.in-Ok.ensures.ok c.in-Ok-make.ensures.ok c.in-Ok-be.ensures.ok
