use Rattle.yf_forms.proofs.Texts.BlockLemmas.{without_feeds_is}
use Rattle.yf_forms.proofs.text.block.without_feeds.Goals as goal

pub returns : goal.returns
returns c = without_feeds_is c.trim_end_matches.ensures.matches
