use Rattle.yf_lines.proofs.FeedLanes.{tells_whole}
use Rattle.yf_lines.proofs.feeds.has_feed.Goals as goal

pub returns : goal.returns
returns c = tells_whole c.args.text.now _ c.all_clear.ensures
