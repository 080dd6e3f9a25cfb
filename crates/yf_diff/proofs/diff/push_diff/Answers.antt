-- Nothing is written for equal texts, and something for different ones.
use Rattle.std.proofs.Common.{rules}
use Rattle.yf_diff.specs.Diff.{AddsDiff}
use Rattle.yf_diff.proofs.ScriptsKept.{nothing_added}
use Rattle.yf_diff.proofs.SilentDiffs.{told}
use Rattle.yf_diff.proofs.diff.push_diff.Goals as goal

pub returns-then-eq-clause-written : goal.returns-then-eq-clause-written
returns-then-eq-clause-written c = nothing_added c.args.old_name.now c.args.new_name.now c.args.old.now c.args.new.now c.args.out.now.items (search rules)

pub returns-clause-told : goal.returns-clause-told
returns-clause-told c =
    let added : AddsDiff c.args.old_name.now c.args.new_name.now c.args.old.now c.args.new.now c.args.out.now.items c.push_script.new.out.items = search rules in
    told c.args.old_name.now c.args.new_name.now c.args.old.now c.args.new.now c.args.out.now.items c.push_script.new.out.items added
