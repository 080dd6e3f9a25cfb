-- The entries so far and the remaining ones are all that no longer occur.
use Rattle.std.proofs.Common.{◌≡◌, ◌++◌, drop, map, not, ◌&&◌}
use Rattle.std.specs.Prelude.{filter}
use Rattle.std.specs.BTreeSet.{contains_text}
use Rattle.yf_baseline.specs.Baselines.{entry_line}
use Rattle.yf_baseline.proofs.listed.missing.Given as goal

abbrev pub invariant-loop-entry : goal.invariant-loop-entry
invariant-loop-entry l =
    map (λ e. e.now) l.found.items
    ++ filter (λ e. contains_text l.files e.file && not (contains_text l.current (entry_line e)))
    (drop l.entry-index l.baseline)
    ≡ filter (λ e. contains_text l.files e.file && not (contains_text l.current (entry_line e))) l.baseline
