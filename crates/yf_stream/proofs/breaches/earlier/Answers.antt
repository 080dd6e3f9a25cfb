use Rattle.std.proofs.Common.{Some, [], ◌∷◌, sym, subst}
use Rattle.yf_stream.specs.TagPass.{FirstOfBoth}
use Rattle.yf_stream.proofs.TagPass.FirstLemmas.{finds_first, finds_kept, finds_new}
use Rattle.yf_stream.proofs.breaches.earlier.Goals as goal

pub returns-then-precedes : goal.returns-then-precedes
returns-then-precedes c = subst (λ z. FirstOfBoth z (Some c.in-Some.breach) (c.args.found ∷ [])) (sym c.in-Some.is) (finds_kept c.if-precedes.ensures)

pub returns-in-None : goal.returns-in-None
returns-in-None c = subst (λ z. FirstOfBoth z (Some c.args.found) (c.args.found ∷ [])) (sym c.in-None.is) finds_first

pub returns-else-precedes : goal.returns-else-precedes
returns-else-precedes c = subst (λ z. FirstOfBoth z (Some c.args.found) (c.args.found ∷ [])) (sym c.in-Some.is) (finds_new c.if-precedes.ensures)
