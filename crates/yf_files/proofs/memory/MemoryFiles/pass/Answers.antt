use Rattle.yf_files.proofs.MemoryLemmas.{time_passes}
use Rattle.yf_files.proofs.memory.MemoryFiles.pass.Goals as goal

pub returns-in-Ok-clause-time : goal.returns-in-Ok-clause-time
returns-in-Ok-clause-time c = time_passes c.args.self.now.logs c.begin.new.self.logs c.args.self.now.well c.in-Ok.ensures.ok
