use Rattle.std.proofs.Common.{arith, string_bytes}
use Rattle.yf_discovery.proofs.NearestLemmas.{ends_at, passes_last}
use Rattle.yf_discovery.proofs.nearest.nearest_settings.Goals as goal

pub returns-in-Some : goal.returns-in-Some
returns-in-Some g c =
    ends_at (g.F.Folders.shows c.args.folders.now) c.args.above c.loop-depth._depth c.as_str.result.now
    (string_bytes c.loop-depth.folder) c.in-Some.discovery c.as_str.ensures.value c.loop-depth.invariant.name
    (omega (arith, c.loop-depth-test.true)) c.loop-depth.invariant.passed
    (rw c.in-Some.is at c.in_ok-discovery.ensures)

pub returns-in-Some-2 : goal.returns-in-Some-2
returns-in-Some-2 g c =
    ends_at (g.F.Folders.shows c.args.folders.now) c.args.above c.loop-depth._depth c.as_str-2.result.now
    (string_bytes c.loop-depth.folder) c.in-Some-2.discovery c.as_str-2.ensures.value c.loop-depth.invariant.name
    (omega (arith, c.loop-depth.auto._depth-end)) c.loop-depth.invariant.passed
    (rw c.in-Some-2.is at c.in_ok-discovery-2.ensures)

pub returns : goal.returns
returns g c =
    passes_last (g.F.Folders.shows c.args.folders.now) c.args.above c.loop-depth._depth c.as_str-2.result.now
    (string_bytes c.loop-depth.folder) c.as_str-2.ensures.value c.loop-depth.invariant.name
    (omega (arith, c.loop-depth-test.false)) c.loop-depth.invariant.passed
    (rw c.in-None-2.is at c.in_ok-discovery-2.ensures)
