use Rattle.std.proofs.Common.{◌-◌, ◌≤◌, length}
use Rattle.std.specs.Str.{IsCharBoundary}
use Rattle.yf_block_scalar.proofs.BodyLemmas.{Reading}
use Rattle.yf_block_scalar.proofs.body_lines.read_rows.Given as goal

abbrev pub invariant-rows : goal.invariant-rows
invariant-rows l = record { reading : Reading l.s l.indent l.at l.place l.lines l.open_end l.tail; boundary : IsCharBoundary l.s l.place; few : l.tail ≤ l.place }

abbrev pub decreases-rows : goal.decreases-rows
decreases-rows l = length l.s - l.place
