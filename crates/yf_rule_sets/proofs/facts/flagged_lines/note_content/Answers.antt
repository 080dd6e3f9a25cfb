use Rattle.std.proofs.Common.{ℕ}
use Rattle.yf_rule_sets.specs.RuleSets.Scalars.{ContentLine}
use Rattle.yf_rule_sets.specs.Passes.ScalarLines.{InSome}
use Rattle.yf_rule_sets.proofs.Texts.NotedLemmas.{noted_as}
use Rattle.yf_rule_sets.proofs.Texts.ScalarPasses.{block_wanted}
use Rattle.yf_rule_sets.proofs.facts.flagged_lines.note_content.Goals as goal

pub returns-in-Some : goal.returns-in-Some
returns-in-Some c =
    let v = c.args.src.now in
    let r = c.args.reading.now in
    let i = c.args.i in
    let told : (k : ℕ) → (ContentLine v r k i → InSome v.lines c.range_of.result k) × (InSome v.lines c.range_of.result k → ContentLine v r k i) =
    rw c.range_of.ensures (block_wanted c.block_lines_at-block.ensures) in
    noted_as c.args.list.now.items _ (InSome v.lines c.range_of.result) (λ k. ContentLine v r k i) (λ k. (told k).1) (λ k. (told k).0) c.note.ensures

pub returns-in-None : goal.returns-in-None
returns-in-None c =
    let v = c.args.src.now in
    let r = c.args.reading.now in
    let i = c.args.i in
    let told : (k : ℕ) → (ContentLine v r k i → InSome v.lines c.range_of.result k) × (InSome v.lines c.range_of.result k → ContentLine v r k i) =
    rw c.range_of.ensures (block_wanted c.block_lines_at-block.ensures) in
    noted_as c.args.list.now.items _ (InSome v.lines c.range_of.result) (λ k. ContentLine v r k i) (λ k. (told k).1) (λ k. (told k).0) c.note.ensures
