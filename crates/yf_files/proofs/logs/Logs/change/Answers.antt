use Rattle.std.proofs.Common.{rules, refl}
use Rattle.yf_files.proofs.logs.Logs.change.Goals as goal

pub returns-clause-ok : goal.returns-clause-ok
returns-clause-ok c = record {
  change = record { name = c.in-Ok.name; inode = c.args.inode; freed = c.in-Ok-from_str.freed };
  named = c.in-Ok.ensures.ok;
  frees = c.in-Ok-from_str.ensures.ok;
  inode_is = refl;
  changes = search rules;
  contents = refl;
  moments = refl;
  stored_changes = refl;
  stored_contents = refl;
  next = refl;
  made = refl;
  failures = refl;
  uncounted = refl;
}
