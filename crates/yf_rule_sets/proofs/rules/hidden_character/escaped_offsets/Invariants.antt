use Rattle.yf_rule_sets.specs.Passes.FarthestEnds.{Covers, AllBegin}
use Rattle.yf_rule_sets.specs.RuleSets.Exact.{UpTo}
use Rattle.yf_rule_sets.specs.RuleSets.HiddenCharacters.{HiddenCharacter}
use Rattle.yf_rule_sets.proofs.rules.hidden_character.escaped_offsets.Given as goal

abbrev pub invariant-loop-i : goal.invariant-loop-i
invariant-loop-i l = record {
  signs : UpTo (HiddenCharacter l.fn.src.text l.fn.reading l.fn.style) l.i l.offsets.items;
  cover : Covers l.parts.items l.cover.count l.cover.reach;
  begun : AllBegin l.parts.items l.cover.count l.i;
}
