use Rattle.std.proofs.Common.{◌<◌, length, arith}
use Rattle.yf_rule_sets.proofs.Indentation.EntryLemmas.{entry_listed}
use Rattle.yf_rule_sets.specs.Passes.Entries.{all_entries}
use Rattle.yf_rule_sets.proofs.facts.node_context.first_entries.Goals as goal

pub loop-i-preserved : goal.loop-i-preserved
loop-i-preserved c =
    let t = c.args.src.now.text in
    let es = c.args.reading.now.events in
    let i = c.loop-i.i in
    let l : i < length es = omega (arith, c.len-i-end.ensures, c.loop-i-test.true) in
    entry_listed t es i c.loop-i.offsets.items _ (all_entries t es) l c.loop-i.invariant c.first_entry.result c.first_entry.ensures c.in_ok-push_found.ensures
