use Rattle.std.proofs.Common.{◌≡◌, drop}
use Rattle.yf_files.specs.Memory.{entry_from, entry_of}
use Rattle.yf_files.proofs.logs.Logs.inode_at.Given as goal

abbrev pub invariant-loop-change : goal.invariant-loop-change
invariant-loop-change l = entry_from l.inode l.name (drop l.change-index l.changes) ≡ entry_of l.changes l.name
