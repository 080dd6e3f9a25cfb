use Rattle.std.proofs.Common.{◌∙◌}
use Rattle.yf_types.proofs.WordLemmas.{word_match}
use Rattle.yf_types.proofs.words.is_word.Goals as goal

pub returns : goal.returns
returns c = c.eq.ensures ∙ word_match c.args.text.now c.args.word.now
