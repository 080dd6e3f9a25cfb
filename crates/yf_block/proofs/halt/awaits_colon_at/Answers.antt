use Rattle.std.proofs.Common.{reverse, sym, subst, ◌∙◌, arith, true≢false}
use Rattle.yf_block.specs.AwaitedColons.{AwaitsAt}
use Rattle.yf_block.proofs.Ends.AwaitingLemmas.{walk_ends, walk_finds, walk_goes_on}
use Rattle.yf_block.proofs.halt.awaits_colon_at.Goals as goal

pub returns-then-frame-column : goal.returns-then-frame-column
returns-then-frame-column c z =
    walk_ends _ _ c.frames.invariant.alike c.frames-test.true c.frames.invariant.within c.if-frame-column.true (subst (λ y. AwaitsAt c.args.column (reverse y)) (sym c.as_slice-items.ensures) z)

pub returns-then-frame : goal.returns-then-frame
returns-then-frame c =
    subst (λ y. AwaitsAt c.args.column (reverse y)) c.as_slice-items.ensures (walk_finds _ _ c.frames.invariant.alike c.frames-test.true c.frames.invariant.within c.if-frame-column-2.true c.if-frame.true)

pub frames-preserved-else-frame : goal.frames-preserved-else-frame
frames-preserved-else-frame c = record {
  within = omega (arith, c.frames.invariant.within);
  alike = walk_goes_on _ _ c.frames.invariant.alike c.frames-test.true c.frames.invariant.within c.if-frame-column.false (λ e y. true≢false (sym y ∙ c.if-frame.false));
}

pub frames-preserved : goal.frames-preserved
frames-preserved c = record {
  within = omega (arith, c.frames.invariant.within);
  alike = walk_goes_on _ _ c.frames.invariant.alike c.frames-test.true c.frames.invariant.within c.if-frame-column.false (λ e y. c.if-frame-column-2.false e);
}
