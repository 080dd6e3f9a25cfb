use Rattle.yf_print.proofs.Pass.WhiteLemmas.{without_whites_is}
use Rattle.yf_print.proofs.comment_texts.without_whites.Goals as goal

pub returns : goal.returns
returns c = without_whites_is c.trim_end_matches.ensures.matches
