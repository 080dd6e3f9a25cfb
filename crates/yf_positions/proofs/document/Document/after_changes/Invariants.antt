-- The remaining changes lead from the document so far to the result of all.
use Rattle.std.proofs.Common.{◌≡◌, drop}
use Rattle.yf_positions.specs.Changes.{all_changed}
use Rattle.yf_positions.proofs.document.Document.after_changes.Given as goal

abbrev pub invariant-loop-change : goal.invariant-loop-change
invariant-loop-change l = all_changed l.encoding l.document (drop l.change-index l.change-items)
    ≡ all_changed l.encoding l.self l.changes
