use Rattle.std.proofs.Common.{◌≡◌, ◌++◌, drop, length}
use Rattle.std.specs.Vec.Iter.{into_iter_items, into_iter_len}
use Rattle.yf_findings.specs.Baselines.{flat_zip, if_finding}
use Rattle.yf_findings.proofs.baselines.add_found.Given as goal

abbrev pub invariant-loop-problem : goal.invariant-loop-problem
invariant-loop-problem l = record {
  added : l.all.items ++ flat_zip if_finding (drop l.problem-index l.problems) (into_iter_items l.rest)
      ≡ l.initial.all.items ++ flat_zip if_finding l.problems l.fn.entries.items;
  count : into_iter_len l.rest ≡ length (into_iter_items l.rest);
}
