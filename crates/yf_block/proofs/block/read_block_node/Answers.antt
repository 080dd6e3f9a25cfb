use Rattle.std.proofs.Common.{◌≡◌, ℕ, List, [], ◌∷◌, None, refl, to_z-of_z}
use Rattle.yf_lines.specs.FaultPlaces.{IsFirstPlace}
use Rattle.yf_grammar.specs.Refusal.{as_scanned}
use Rattle.yf_flow.proofs.Stack.ReadersLemmas.{scanned_stops}
use Rattle.yf_block.proofs.block.read_block_node.Goals as goal

none_first : (t es : List ℕ) → IsFirstPlace t es None → es ≡ []
none_first t [] p = refl
none_first t (e ∷ es) p = absurd p

pub returns-in-Ok-None-clause-reads : goal.returns-in-Ok-None-clause-reads
returns-in-Ok-None-clause-reads c = λ i l.
    let f = rw (c.in-Ok-None.field-0-is, to_z-of_z c.ranges.n) at c.in-Ok-None.ensures.reads in
    f i l

pub returns-in-None-clause-reads : goal.returns-in-None-clause-reads
returns-in-None-clause-reads c = λ i l.
    let f = rw (c.in-Ok-Some.field-0-is, to_z-of_z c.ranges.n) at c.in-Ok-Some.ensures.reads in
    let s = f i l in
    record { chosen = s.chosen; good = none_first _ _ (rw c.in-None.is at s.escape); boundary = s.boundary }

pub returns-in-Ok-Some-clause-reads : goal.returns-in-Ok-Some-clause-reads
returns-in-Ok-Some-clause-reads c = λ i l.
    let f = rw (c.in-Ok-Some.field-0-is, to_z-of_z c.ranges.n) at c.in-Ok-Some.ensures.reads in
    scanned_stops c.in-Ok-Some.field-0-0 c.in-Some.place c.in-Some.is (f i l)

pub returns-clause-reads : goal.returns-clause-reads
returns-clause-reads c = λ i l.
    let f = rw (to_z-of_z c.ranges.n) at c.in-Err.ensures.reads in
    as_scanned (f i l)

pub returns-in-Ok-None-clause-place : goal.returns-in-Ok-None-clause-place
returns-in-Ok-None-clause-place c = tt

pub returns-in-None-clause-place : goal.returns-in-None-clause-place
returns-in-None-clause-place c = rw c.in-Ok-Some.field-0-is at c.in-Ok-Some.ensures.place

pub returns-in-None-clause-escapes : goal.returns-in-None-clause-escapes
returns-in-None-clause-escapes c = none_first _ _ (rw c.in-None.is at (rw c.in-Ok-Some.field-0-is at c.in-Ok-Some.ensures.escapes))

pub returns-in-Ok-None-clause-other : goal.returns-in-Ok-None-clause-other
returns-in-Ok-None-clause-other c = λ _. refl
