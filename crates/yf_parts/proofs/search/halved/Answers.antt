-- The hunks are those of the best attempt, or they are enough, or not.
use Rattle.std.proofs.Common.{◌≡◌, ◌∙◌, ap, sym}
use Rattle.std.proofs.lemmas.Slice.Eq.{slice_eq-Decides}
use Rattle.std.specs.Cmp.{booleans_Decides}
use Rattle.yf_parts.specs.Hunks.{spliced}
use Rattle.yf_parts.proofs.search.halved.Goals as goal

pub returns-then-eq-clause-works : goal.returns-then-eq-clause-works
returns-then-eq-clause-works c =
    let x = c.args.context in
    let equal : c.as_slice.result.now ≡ c.as_slice-2.result.now =
    (slice_eq-Decides booleans_Decides c.as_slice.result.now c.as_slice-2.result.now c.eq.result c.eq.ensures).0
    c.if-eq.true in
    let same : c.in_ok-applied.applied.items ≡ c.args.best.applied.items =
    sym c.as_slice.ensures.value ∙ (equal ∙ c.as_slice-2.ensures.value) in
    record {
      chosen = c.in_ok-applied.ensures;
      made = c.requires.best.made ∙ ap (λ z. spliced x.text.now x.formatted.now x.hunks.now z 0) (sym same);
      formats = c.requires.best.formats;
    }

pub returns-in-Some-clause-works : goal.returns-in-Some-clause-works
returns-in-Some-clause-works c = let works = rw c.in-Some.is at c.in_ok-found.ensures.works in works

pub returns-in-Some-clause-reach : goal.returns-in-Some-clause-reach
returns-in-Some-clause-reach c = let reach = rw c.in-Some.is at c.in_ok-found.ensures.reach in reach

pub returns-in-None-clause-fails : goal.returns-in-None-clause-fails
returns-in-None-clause-fails c = let fails = rw c.in-None.is at c.in_ok-found.ensures.fails in λ _. fails
