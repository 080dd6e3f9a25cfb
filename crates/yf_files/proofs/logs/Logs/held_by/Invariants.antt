use Rattle.std.proofs.Common.{◌≡◌, drop}
use Rattle.yf_files.specs.Memory.{node_from, node_of, node_seen}
use Rattle.yf_files.proofs.logs.Logs.held_by.Given as goal

abbrev pub invariant-loop-content : goal.invariant-loop-content
invariant-loop-content l = node_from (node_seen l.held) l.inode (drop l.content-index l.contents) ≡ node_of l.contents l.inode
