use Rattle.std.proofs.Common.{◌≡◌, true, refl}
use Rattle.yf_excludes.specs.Segments.{one_name}
use Rattle.yf_excludes.proofs.read_segment.read_segment.Goals as goal

pub returns-in-Some : goal.returns-in-Some
returns-in-Some c =
    let read = rw c.in-Some.is at c.in_ok-read_atoms.ensures in
    one_name (λ deep. let e : c.is_deep.result ≡ true = c.is_deep.ensures.1 deep in absurd (cc)) read refl
