use Rattle.yf_rule_sets.proofs.Texts.WhitesLemmas.{white_line}
use Rattle.yf_rule_sets.proofs.facts.whites.is_white_line.Goals as goal

pub returns : goal.returns
returns c = white_line c.args.text.now c.args.line.start c.args.line.end c.whites_before.result c.whites_before.ensures.whites
