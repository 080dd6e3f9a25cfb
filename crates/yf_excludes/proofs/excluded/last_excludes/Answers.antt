use Rattle.std.proofs.Common.{◌≡◌, ◌-◌, true, false, length, arith}
use Rattle.yf_excludes.proofs.ExcludedLemmas.{none_past, none_more, decides, no_decision}
use Rattle.yf_excludes.proofs.excluded.last_excludes.Goals as goal

pub loop-n-init : goal.loop-n-init
loop-n-init c = none_past c.args.path.now c.args.is_folder c.args.patterns.now

pub loop-n-preserved : goal.loop-n-preserved
loop-n-preserved c =
    none_more c.loop-n.n (length c.args.patterns.now - 1 - c.loop-n.n) c.index-patterns-at.result
    c.args.patterns.now (omega arith) c.index-patterns-at.is
    (λ m. let e : c.matches.result ≡ true = c.matches.ensures.1 m in absurd (cc)) c.loop-n.invariant

pub returns-then-matches : goal.returns-then-matches
returns-then-matches c =
    let found : c.matches.result ≡ true = cc in
    decides c.loop-n.n (length c.args.patterns.now - 1 - c.loop-n.n) c.index-patterns-at.result c.args.patterns.now
    (omega arith) c.index-patterns-at.is (c.matches.ensures.0 found) c.loop-n.invariant

pub returns : goal.returns
returns c = no_decision c.loop-n.n c.args.patterns.now (omega arith) c.loop-n.invariant
