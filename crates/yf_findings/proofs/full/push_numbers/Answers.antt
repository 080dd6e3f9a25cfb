use Rattle.yf_findings.proofs.PieceLemmas.{same_shown}
use Rattle.yf_findings.proofs.full.push_numbers.Goals as goal

pub returns : goal.returns
returns c =
    same_shown c.push_all_shown.result _ _ _ _ _ _ _ _ _ c.format-total.ensures.text c.plural-words.ensures c.format-fixed.ensures.text
    c.push_all_shown.ensures
