use Rattle.std.proofs.Common.{subst, arith}
use Rattle.yf_block.specs.LineFits.{PlaceTied}
use Rattle.yf_block.proofs.Ends.FitLemmas.{fits_before, fits_no_item}
use Rattle.yf_block.proofs.resume.fit_of.Goals as goal

pub returns-then-column-frame-clause-line : goal.returns-then-column-frame-clause-line
returns-then-column-frame-clause-line c e = fits_before c.args.frame.now (subst (λ z. PlaceTied c.args.text.now c.args.at z) c.in-Some.is e) c.if-column-frame.true

pub returns-else-is_dash_at-clause-line : goal.returns-else-is_dash_at-clause-line
returns-else-is_dash_at-clause-line c e = fits_no_item c.args.frame.now (subst (λ z. PlaceTied c.args.text.now c.args.at z) c.in-Some.is e)
    (omega (arith, c.if-column-frame.false, c.if-column-frame-2.false)) c.in-Sequence.is c.if-is_dash_at.ensures.cases

pub returns-in-None-clause-places : goal.returns-in-None-clause-places
returns-in-None-clause-places c = tt

pub returns-then-column-frame-clause-places : goal.returns-then-column-frame-clause-places
returns-then-column-frame-clause-places c = tt

pub returns-else-is_dash_at-clause-places : goal.returns-else-is_dash_at-clause-places
returns-else-is_dash_at-clause-places c = tt
