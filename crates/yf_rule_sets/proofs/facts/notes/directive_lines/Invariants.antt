use Rattle.std.proofs.Common.{◌≡◌, length}
use Rattle.yf_rule_sets.specs.RuleSets.BlankLines.{DirectiveOf}
use Rattle.yf_rule_sets.specs.Passes.LineFlags.{FlagsAdded}
use Rattle.yf_rule_sets.proofs.Texts.NotedLemmas.{Below}
use Rattle.yf_rule_sets.proofs.facts.notes.directive_lines.Given as goal

abbrev pub invariant-loop-m : goal.invariant-loop-m
invariant-loop-m l = record {
  len : length l.initial.list.items ≡ length l.src.lines;
  noted : FlagsAdded l.initial.list.items l.list.items (Below (DirectiveOf l.src l.reading) l.m);
}
