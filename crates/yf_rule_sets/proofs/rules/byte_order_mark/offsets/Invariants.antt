use Rattle.yf_rule_sets.specs.Passes.FarthestEnds.{Covers, AllBegin}
use Rattle.yf_rule_sets.specs.RuleSets.Exact.{UpTo}
use Rattle.yf_rule_sets.specs.RuleSets.Scalars.{LooseMark}
use Rattle.yf_rule_sets.proofs.rules.byte_order_mark.offsets.Given as goal

abbrev pub invariant-loop-i : goal.invariant-loop-i
invariant-loop-i l = record {
  marks : UpTo (LooseMark l.fn.src.text l.fn.reading) l.i l.offsets.items;
  cover : Covers l.spans.items l.cover.count l.cover.reach;
  begun : AllBegin l.spans.items l.cover.count l.i;
}
