use Rattle.yf_files.proofs.MemoryLemmas.{time_failing, time_passes}
use Rattle.yf_files.proofs.memory.MemoryFilesFileSystem.read.Goals as goal

pub returns-in-Some-clause-time : goal.returns-in-Some-clause-time
returns-in-Some-clause-time c told = time_passes c.args.self.now.logs c.begin.new.self.logs c.args.self.now.well c.in-Ok.ensures.ok

pub returns-in-None-clause-time : goal.returns-in-None-clause-time
returns-in-None-clause-time c told = time_failing c.args.self.now.logs c.begin.new.self.logs c.fail.new.self c.args.self.now.well c.in-Ok.ensures.ok c.fail.ensures
