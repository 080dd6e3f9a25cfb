use Rattle.std.proofs.Common.{rules, refl}
use Rattle.yf_files.proofs.logs.Logs.be.Goals as goal

pub returns-clause-ok : goal.returns-clause-ok
returns-clause-ok c = record {
  content = record { inode = c.args.inode; held = c.args.held };
  inode_is = refl;
  has = refl;
  changes = refl;
  contents = search rules;
  moments = refl;
  stored_changes = refl;
  stored_contents = refl;
  next = refl;
  made = refl;
  failures = refl;
  uncounted = refl;
}
