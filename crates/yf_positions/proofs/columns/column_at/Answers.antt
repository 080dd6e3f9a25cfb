use Rattle.std.proofs.Common.{◌≡◌, ◌≤◌, ◌+◌, ◌-◌, false, length, drop, get_or, sym, ◌∙◌, arith}
use Rattle.yf_positions.specs.Units.{byte_units, is_break}
use Rattle.yf_positions.specs.Offsets.{units_before}
use Rattle.yf_positions.proofs.ColumnLemmas.{units_more, units_column}
use Rattle.yf_positions.proofs.columns.column_at.Goals as goal

pub overflow_add-units : goal.overflow_add-units
overflow_add-units c =
    let bytes = c.as_bytes-bytes.result.now in
    let e = c.args.encoding in
    let at = c.loop-at.at in
    let other : is_break (get_or c.as_bytes-bytes.result.now c.loop-at.at 0) ≡ false = sym c.is_break.ensures
    ∙ c.if-is_break.false in
    let inside : c.args.offset ≤ length c.as_bytes-bytes.result.now = omega (arith, c.as_bytes-bytes.ensures.len) in
    let more : units_before c.args.encoding (drop c.loop-at.at c.as_bytes-bytes.result.now)
    (c.args.offset - c.loop-at.at) ≡ byte_units c.args.encoding
    (get_or c.as_bytes-bytes.result.now c.loop-at.at 0) + units_before c.args.encoding
    (drop (c.loop-at.at + 1) c.as_bytes-bytes.result.now) (c.args.offset - (c.loop-at.at + 1)) =
    units_more e bytes at c.args.offset c.loop-at-test.true (omega arith) other in
    let whole : units_before c.args.encoding (drop c.args.start c.as_bytes-bytes.result.now)
    (c.args.offset - c.args.start) ≤ length c.as_bytes-bytes.result.now =
    units_column e bytes c.args.start c.args.offset c.as_bytes-bytes.ensures.utf8 c.requires.order inside in
    omega (arith, c.loop-at.invariant.rest, c.byte_units-units.ensures)
