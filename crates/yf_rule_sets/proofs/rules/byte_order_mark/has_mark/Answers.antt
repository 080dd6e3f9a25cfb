use Rattle.std.proofs.Common.{[], ◌∷◌}
use Rattle.std.proofs.lemmas.Str.Pattern.{contains_text}
use Rattle.yf_rule_sets.proofs.RuleSets.MarkPassLemmas.{no_mark_found}
use Rattle.yf_rule_sets.proofs.rules.byte_order_mark.has_mark.Goals as goal

pub returns : goal.returns
returns c = no_mark_found _ _ c.utf8.text (contains_text _ (239 ∷ 187 ∷ 191 ∷ []) _ c.contains.ensures.cases)
