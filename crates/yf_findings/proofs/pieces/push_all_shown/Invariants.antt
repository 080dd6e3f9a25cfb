use Rattle.std.proofs.Common.{◌≡◌, ◌++◌, drop, map}
use Rattle.yf_findings.specs.Pieces.{all_as_shown}
use Rattle.yf_findings.proofs.pieces.push_all_shown.Given as goal

abbrev pub invariant-loop-part : goal.invariant-loop-part
invariant-loop-part l =
    l.page ++ all_as_shown (map (λ part. part.now) (drop l.part-index l.parts)) ≡ l.initial.page ++ all_as_shown (map (λ part. part.now) l.parts)
