use Rattle.std.proofs.Common.{sym, ◌∙◌}
use Rattle.yf_files.proofs.MemoryLemmas.{either, entry_used, renamed, time_changes, time_failing, well_changes, well_fails}
use Rattle.yf_files.proofs.memory.MemoryFilesFileSystem.rename.Goals as goal

pub invariant_of-self : goal.invariant_of-self
invariant_of-self c = record { well = well_fails c.begin.new.self.logs c.fail.new.self c.begin.new.self.well c.fail.ensures }

pub invariant_of-self-2 : goal.invariant_of-self-2
invariant_of-self-2 c = let mid = c.begin.new.self.logs in let new = c.change.new.self in
    let well = c.begin.new.self.well in
    record {
      well = either c.change.result c.change.ensures.ok c.change.ensures.err
          (λ h. well_changes mid new c.args.to.now c.args.from.now c.inode_now-inode.result well h (λ i is. entry_used mid c.args.from.now i well (sym c.inode_now-inode.ensures ∙ is)))
          (well_fails mid new well);
    }

pub returns-in-Ok-change-clause-ok : goal.returns-in-Ok-change-clause-ok
returns-in-Ok-change-clause-ok c told = renamed c.args.self.now.logs c.begin.new.self.logs c.change.new.self c.args.from.now c.args.to.now c.inode_now-inode.result c.args.self.now.well
    c.in-Ok.ensures.ok c.inode_now-inode.ensures c.in-Ok-change.ensures.ok

pub returns-in-Ok-change-clause-time : goal.returns-in-Ok-change-clause-time
returns-in-Ok-change-clause-time c told = time_changes c.args.self.now.logs c.begin.new.self.logs c.change.new.self c.args.to.now c.args.from.now c.inode_now-inode.result c.args.self.now.well
    c.in-Ok.ensures.ok c.in-Ok-change.ensures.ok

pub returns-in-Err-change-clause-time : goal.returns-in-Err-change-clause-time
returns-in-Err-change-clause-time c told = time_failing c.args.self.now.logs c.begin.new.self.logs c.change.new.self c.args.self.now.well c.in-Ok.ensures.ok c.in-Err-change.ensures.err

pub returns-then-has_folder-clause-time : goal.returns-then-has_folder-clause-time
returns-then-has_folder-clause-time c told = time_failing c.args.self.now.logs c.begin.new.self.logs c.fail.new.self c.args.self.now.well c.in-Ok.ensures.ok c.fail.ensures
