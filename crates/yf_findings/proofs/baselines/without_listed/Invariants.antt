use Rattle.std.proofs.Common.{◌≡◌, ◌++◌, drop, length}
use Rattle.std.specs.BTreeSet.{contains_text}
use Rattle.std.specs.Vec.Iter.{into_iter_items, into_iter_len}
use Rattle.yf_findings.specs.Baselines.{flat_zip, unless_listed}
use Rattle.yf_findings.proofs.baselines.without_listed.Given as goal

abbrev pub invariant-loop-entry : goal.invariant-loop-entry
invariant-loop-entry l = record {
  kept : l.left.items ++ flat_zip (unless_listed (contains_text l.listed)) (drop l.entry-index l.entries) (into_iter_items l.rest)
      ≡ flat_zip (unless_listed (contains_text l.listed)) l.entries l.fn.problems.items;
  count : into_iter_len l.rest ≡ length (into_iter_items l.rest);
}
