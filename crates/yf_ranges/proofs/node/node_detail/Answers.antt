use Rattle.std.proofs.Common.{◌≤◌, length, refl, arith, rules}
use Rattle.std.specs.Str.{IsCharBoundary}
use Rattle.yf_ranges.specs.NodeDetails.PartEnd.{held, not_held}
use Rattle.yf_ranges.proofs.node.node_detail.Goals as goal

pub returns-then-end-text : goal.returns-then-end-text
returns-then-end-text c =
    let b : IsCharBoundary c.args.text.now c.args.start = c.if-not-is_char_boundary.ensures.test.0 refl in
    let l = c.if-start-end.true in
    record {
      boundary = b;
      begin = refl;
      part = held l c.if-end-text.true;
      says = refl;
      inside = record { order = omega (arith, l); within = c.if-end-text.true; filled = λ h m. l };
    }

pub returns-else-end-text : goal.returns-else-end-text
returns-else-end-text c =
    let b : IsCharBoundary c.args.text.now c.args.start = c.if-not-is_char_boundary.ensures.test.0 refl in
    let w : c.args.start ≤ length c.args.text.now = search rules in
    let n = c.if-end-text.false in
    record {
      boundary = b;
      begin = refl;
      part = not_held (λ l h. omega (arith, n, h));
      says = refl;
      inside = record { order = w; within = omega arith; filled = λ h m. h };
    }

pub returns-else-start-end : goal.returns-else-start-end
returns-else-start-end c =
    let b : IsCharBoundary c.args.text.now c.args.start = c.if-not-is_char_boundary.ensures.test.0 refl in
    let w : c.args.start ≤ length c.args.text.now = search rules in
    let n = c.if-start-end.false in
    record {
      boundary = b;
      begin = refl;
      part = not_held (λ l h. omega (arith, n, l));
      says = refl;
      inside = record { order = w; within = omega arith; filled = λ h m. h };
    }
