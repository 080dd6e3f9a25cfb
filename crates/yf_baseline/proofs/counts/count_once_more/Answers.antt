use Rattle.std.proofs.Common.{string_bytes}
use Rattle.std.proofs.lemmas.Map.Text.{btree_map_updates_text}
use Rattle.yf_baseline.proofs.CountLemmas.{counts_one_more}
use Rattle.yf_baseline.proofs.counts.count_once_more.Goals as goal

pub returns : goal.returns
returns c =
    let bytes = string_bytes c.args.text in
    counts_one_more c.args.counts.now c.insert.new.self bytes c.args.next c.requires
    (btree_map_updates_text bytes c.args.counts.now c.insert.new.self _ c.in_ok-insert.ensures.updates)
