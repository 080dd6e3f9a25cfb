use Rattle.std.proofs.Common.{ℕ}
use Rattle.yf_rule_sets.specs.RuleSets.BlankLines.{ScalarLine}
use Rattle.yf_rule_sets.specs.Passes.ScalarLines.{InSome}
use Rattle.yf_rule_sets.proofs.Texts.NotedLemmas.{none_noted, noted_as}
use Rattle.yf_rule_sets.proofs.Texts.ScalarLemmas.{wanted_told}
use Rattle.yf_rule_sets.proofs.Texts.ScalarPasses.{no_part, on_one_line}
use Rattle.yf_rule_sets.specs.declared.facts.flagged_lines.WantedLines.TheVariants.{All}
use Rattle.yf_rule_sets.proofs.facts.flagged_lines.note_scalar.Goals as goal

pub returns-then-begin_from : goal.returns-then-begin_from
returns-then-begin_from c =
    none_noted c.args.list.now.items (λ k. ScalarLine c.args.src.now c.args.reading.now k c.args.i)
    (on_one_line c.in-Some.span c.lines_begun-begun.result c.in-Some.ensures c.lines_begun-begun.ensures.begun (c.begin_from.ensures c.if-begin_from.true))

pub returns-else-begin_from : goal.returns-else-begin_from
returns-else-begin_from c =
    let v = c.args.src.now in
    let r = c.args.reading.now in
    let i = c.args.i in
    let told : (k : ℕ) → (ScalarLine v r k i → InSome v.lines c.range_of.result k) × (InSome v.lines c.range_of.result k → ScalarLine v r k i) =
    rw c.range_of.ensures (wanted_told All v r i c.scalar_lines_at-lines.result c.scalar_lines_at-lines.ensures) in
    noted_as c.args.list.now.items _ (InSome v.lines c.range_of.result) (λ k. ScalarLine v r k i) (λ k. (told k).1) (λ k. (told k).0) c.note.ensures

pub returns-in-None : goal.returns-in-None
returns-in-None c = none_noted c.args.list.now.items (λ k. ScalarLine c.args.src.now c.args.reading.now k c.args.i) (no_part c.in-None.ensures)
