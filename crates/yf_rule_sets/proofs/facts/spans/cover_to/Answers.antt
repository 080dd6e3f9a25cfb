use Rattle.std.proofs.Common.{◌+◌, subst, sym, arith}
use Rattle.std.proofs.lemmas.Option.{slice_get-get_or}
use Rattle.yf_rule_sets.specs.Passes.FarthestEnds.{Covers}
use Rattle.yf_rule_sets.proofs.RuleSets.MarkPassLemmas.{covers_more, begin_more, none_from, none_left}
use Rattle.yf_rule_sets.proofs.facts.spans.cover_to.Goals as goal

pub returns-then-span-offset-clause-others : goal.returns-then-span-offset-clause-others
returns-then-span-offset-clause-others c =
    let xs = c.args.spans.now in
    none_from xs c.loop-count.count c.args.offset _ (slice_get-get_or xs c.loop-count.count _ c.loop-count-test.true) c.if-span-offset.true c.requires.sorted

pub loop-count-preserved : goal.loop-count-preserved
loop-count-preserved c =
    let xs = c.args.spans.now in
    record {
      cover = subst (λ m. Covers xs (c.loop-count.count + 1) m) (sym c.max-reach.ensures)
          (covers_more xs c.loop-count.count c.loop-count.reach _ (slice_get-get_or xs c.loop-count.count _ c.loop-count-test.true) c.loop-count.invariant.cover);
      begun = begin_more xs c.loop-count.count c.args.offset _ (slice_get-get_or xs c.loop-count.count _ c.loop-count-test.true) c.if-span-offset.false c.loop-count.invariant.begun;
    }

pub returns-clause-others : goal.returns-clause-others
returns-clause-others c = none_left c.args.spans.now c.loop-count.count c.args.offset (omega (arith, c.loop-count-test.false))
