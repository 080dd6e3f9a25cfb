use Rattle.std.proofs.Common.{◌≡◌, drop}
use Rattle.yf_print.specs.Passes.TrailPass.{found, pass, start, state}
use Rattle.yf_print.proofs.trails.find_trails.Given as goal

abbrev pub invariant-loop-i : goal.invariant-loop-i
invariant-loop-i l =
    pass l.reading l.measures l.i (drop l.i l.reading.events) (state (found l.trails) l.last)
    ≡ pass l.reading l.measures 0 l.reading.events (start l.reading l.forms)
