use Rattle.std.proofs.Common.{◌+◌, ◌-◌, ◌≤◌, pos, length}
use Rattle.std.specs.Str.{IsCharBoundary}
use Rattle.yf_chars.specs.declared.context.Ctx.TheVariants.{FlowIn}
use Rattle.yf_chars.specs.Chain.{Chain}
use Rattle.yf_lines.specs.Basic.{Empty}
use Rattle.yf_lines.specs.Fold.{line_feeds}
use Rattle.yf_lines.proofs.fold.fold_lines.Given as goal

abbrev pub invariant-lines : goal.invariant-lines
invariant-lines l = record {
  so_far : Chain (Empty l.s (pos l.width) FlowIn) l.at l.line (line_feeds l.feeds);
  boundary : IsCharBoundary l.s l.line;
  order : l.at + l.feeds ≤ l.line;
}

abbrev pub decreases-lines : goal.decreases-lines
decreases-lines l = length l.s - l.line
