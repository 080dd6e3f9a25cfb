use Rattle.yf_rule_sets.specs.RuleSets.Exact.{UpTo}
use Rattle.yf_rule_sets.specs.RuleSets.HiddenCharacters.{QuotedPart}
use Rattle.yf_rule_sets.proofs.rules.hidden_character.quoted_parts.Given as goal

abbrev pub invariant-loop-i : goal.invariant-loop-i
invariant-loop-i l = UpTo (QuotedPart l.src.text l.reading) l.i l.parts.items
