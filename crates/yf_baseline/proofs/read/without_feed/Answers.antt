use lib.Utf8.{encode}
use Rattle.yf_baseline.proofs.ReadLemmas.{no_feed}
use Rattle.yf_baseline.proofs.read.without_feed.Goals as goal

pub returns-in-None : goal.returns-in-None
unfolding encode
returns-in-None c = no_feed c.args.text.now c.in-None.ensures.cases
