use Rattle.std.proofs.Common.{◌<◌, length, arith}
use Rattle.yf_excludes.proofs.PatternLemmas.{patterns_more_at, patterns_bad_at, patterns_done}
use Rattle.yf_excludes.proofs.read_pattern.read_patterns.Goals as goal

pub returns-in-None : goal.returns-in-None
returns-in-None c =
    let never = rw c.in-None.is at c.in_ok-read_pattern.ensures in
    let below : c.loop-n.n < length c.args.texts.now = omega arith in
    patterns_bad_at _ c.loop-n.invariant below never

pub loop-n-preserved : goal.loop-n-preserved
loop-n-preserved c =
    let read = rw c.in-Some.is at c.in_ok-read_pattern.ensures in
    let below : c.loop-n.n < length c.args.texts.now = omega arith in
    patterns_more_at _ c.loop-n.invariant below read c.in_ok-push-in-Some.ensures.items

pub returns : goal.returns
returns c = patterns_done c.loop-n.invariant (omega arith)
