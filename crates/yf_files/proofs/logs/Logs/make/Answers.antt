use Rattle.std.proofs.Common.{refl, sym, ◌∙◌}
use Rattle.yf_files.proofs.MemoryLemmas.{no_inode}
use Rattle.yf_files.proofs.logs.Logs.make.Goals as goal

pub returns-clause-ok : goal.returns-clause-ok
returns-clause-ok c = let h = c.in-Ok.ensures.ok in record {
  was = sym c.inode_now.ensures ∙ no_inode c.inode_now.result c.is_some.result c.is_some.ensures c.if-is_some.false;
  change = h.change;
  named = h.named;
  frees = h.frees;
  inode_is = h.inode_is;
  changes = h.changes;
  contents = h.contents;
  moments = h.moments;
  stored_changes = h.stored_changes;
  stored_contents = h.stored_contents;
  next = refl;
  made = refl;
  failures = h.failures;
  uncounted = h.uncounted;
}
