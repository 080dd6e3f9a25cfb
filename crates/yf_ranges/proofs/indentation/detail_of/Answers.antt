use Rattle.std.proofs.Common.{None, subst, sym}
use Rattle.yf_ranges.specs.IndentPass.{IndentedAt}
use Rattle.yf_ranges.specs.IndentPass.IndentedAt.{no_fault}
use Rattle.yf_ranges.proofs.indentation.detail_of.Goals as goal

pub returns-in-Some : goal.returns-in-Some
returns-in-Some c = subst (λ f. IndentedAt c.args.text.now f c.detail_if_placed.result) (sym c.in-Some.is) c.detail_if_placed.ensures

pub returns-in-None : goal.returns-in-None
returns-in-None c = subst (λ f. IndentedAt c.args.text.now f None) (sym c.in-None.is) no_fault
