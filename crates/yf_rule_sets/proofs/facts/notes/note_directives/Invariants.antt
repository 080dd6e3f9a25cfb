use Rattle.yf_rule_sets.specs.RuleSets.BlankLines.{DirectiveIn}
use Rattle.yf_rule_sets.specs.Passes.LineFlags.{FlagsAdded}
use Rattle.yf_rule_sets.proofs.Texts.NotedLemmas.{Below}
use Rattle.yf_rule_sets.proofs.facts.notes.note_directives.Given as goal

abbrev pub invariant-loop-j : goal.invariant-loop-j
invariant-loop-j l = FlagsAdded l.initial.list.items l.list.items (Below (DirectiveIn l.src l.directives) l.j)
