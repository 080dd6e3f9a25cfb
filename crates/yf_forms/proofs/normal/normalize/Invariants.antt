use Rattle.std.proofs.Common.{◌≡◌, ◌++◌, drop, length, take}
use Rattle.yf_forms.specs.Passes.NormalEvents.{normal_from}
use Rattle.yf_forms.proofs.normal.normalize.Given as goal

abbrev pub invariant-loop-i : goal.invariant-loop-i
invariant-loop-i l =
    (length l.events ≡ length l.initial.events)
    × (take l.i l.events ++ normal_from l.style l.measures l.i l.kept_until (drop l.i l.forms) (drop l.i l.events)
    ≡ normal_from l.style l.measures 0 0 l.forms l.initial.events)
