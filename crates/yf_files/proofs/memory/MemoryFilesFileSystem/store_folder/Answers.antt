use Rattle.std.proofs.Common.{refl}
use Rattle.yf_files.proofs.MemoryLemmas.{time_stores}
use Rattle.yf_files.proofs.memory.MemoryFilesFileSystem.store_folder.Goals as goal

pub returns-clause-time : goal.returns-clause-time
returns-clause-time c told = time_stores c.args.self.now.logs c.begin.new.self.logs (record c.begin.new.self.logs { stored_changes = c.len-self.result }) c.args.self.now.well c.in-Ok.ensures.ok refl refl refl refl refl refl
