use Rattle.std.proofs.Common.{ℕ, sym, subst}
use Rattle.yf_rule_sets.specs.Passes.LineFlags.{FlagsAdded}
use Rattle.yf_rule_sets.specs.Passes.ScalarLines.{WantedLine}
use Rattle.yf_rule_sets.proofs.facts.flagged_lines.note_wanted.Goals as goal

pub returns-in-All : goal.returns-in-All
returns-in-All c = subst (λ w. FlagsAdded c.args.list.now.items c.note_scalar.new.list.items (λ (k : ℕ). WantedLine w c.args.src.now c.args.reading.now k c.args.i)) (sym c.in-All.is) c.note_scalar.ensures

pub returns-in-Content : goal.returns-in-Content
returns-in-Content c = subst (λ w. FlagsAdded c.args.list.now.items c.note_content.new.list.items (λ (k : ℕ). WantedLine w c.args.src.now c.args.reading.now k c.args.i)) (sym c.in-Content.is) c.note_content.ensures
