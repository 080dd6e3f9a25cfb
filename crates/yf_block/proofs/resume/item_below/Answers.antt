use Rattle.std.proofs.Common.{ℕ, reverse, sym, subst}
use Rattle.yf_block.specs.NextItems.{TopSequence}
use Rattle.yf_block.proofs.resume.item_below.Goals as goal

pub returns-in-None-clause-item : goal.returns-in-None-clause-item
returns-in-None-clause-item c = tt

pub returns-in-None-clause-boundary : goal.returns-in-None-clause-boundary
returns-in-None-clause-boundary c = tt

pub returns-then-is_dash_at-clause-item : goal.returns-then-is_dash_at-clause-item
returns-then-is_dash_at-clause-item c = record {
  starts = c.in-Some.is;
  top = subst (λ (z : ℕ). TopSequence (reverse c.args.frames.now.items) z) (sym c.if-start-at.true) c.in-Some-top_sequence.ensures;
  dash = c.if-is_dash_at.ensures.cases;
}

pub returns-then-is_dash_at-clause-boundary : goal.returns-then-is_dash_at-clause-boundary
returns-then-is_dash_at-clause-boundary c = c.is_dash_at.ensures.boundary c.if-is_dash_at.true
