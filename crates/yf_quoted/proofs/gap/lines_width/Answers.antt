use Rattle.std.proofs.Common.{◌≡◌, sym, pos, ◌<ℤ◌, to_z-of_z}
use Rattle.yf_lines.proofs.ContextFacts.{not_others}
use Rattle.yf_quoted.specs.Body.WidthOf.{of_key, of_lines, of_negative}
use Rattle.yf_quoted.proofs.gap.lines_width.Goals as goal

pub returns-then-is_key : goal.returns-then-is_key
returns-then-is_key c = of_key (sym c.if-is_key.ensures)

pub returns-in-None : goal.returns-in-None
returns-in-None c =
    let negative : c.args.n <ℤ pos 0 = rw (to_z-of_z c.ranges.n) at c.in-None.ensures in
    of_negative (not_others c.args.ctx c.requires (sym c.if-is_key.ensures)) negative

pub returns-in-Some : goal.returns-in-Some
returns-in-Some c =
    let width : c.args.n ≡ pos c.in-Some.width = rw (to_z-of_z c.ranges.n) at c.in-Some.ensures in
    of_lines c.in-Some.width (not_others c.args.ctx c.requires (sym c.if-is_key.ensures)) width
