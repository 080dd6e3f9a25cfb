use Rattle.std.proofs.Common.{◌≡◌, ◌++◌, ◌∷◌, [], List, ℕ, true, sym, ap, ◌∙◌, subst, arith}
use Rattle.yf_chars.specs.Text.{code, next}
use Rattle.yf_chars.specs.Chain.{Many}
use Rattle.yf_chars.specs.Chain.Chain.{done}
use Rattle.yf_chars.proofs.ChainLemmas.{many_more}
use Rattle.yf_chars.proofs.runs.skip_while.Goals as goal

pub chars-init : goal.chars-init
chars-init g c = record { run = ([], done); boundary = c.requires; order = omega arith }

pub chars-preserved : goal.chars-preserved
chars-preserved g c =
    let r = c.in-Some.ensures in
    let t : List ℕ = c.args.s.now in
    let p = g.C.CharClass.members in
    let e : p (code t c.chars.end) ≡ true = ap p r.char ∙ sym c.holds.ensures ∙ c.if-holds.true in
    let x : List ℕ = c.chars.invariant.run.0 ++ code t c.chars.end ∷ [] in
    let m : Many t p c.args.at (next t c.chars.end) x = many_more t p c.chars.invariant.run.1 e in
    record { run = (x, subst (λ j. Many t p c.args.at j x) r.end m); boundary = r.boundary; order = omega (arith, r.later, c.chars.invariant.order) }
