use Rattle.std.proofs.Common.{string_bytes, true, arith}
use Rattle.std.proofs.lemmas.Map.Text.{btree_set_updates_text}
use Rattle.yf_baseline.proofs.ListedLemmas.{holds_taken}
use Rattle.yf_baseline.proofs.listed.names_of.Goals as goal

pub loop-name-preserved : goal.loop-name-preserved
loop-name-preserved c =
    let l = c.loop-name in
    let bytes = string_bytes c.in_ok-text.text in
    holds_taken (λ name. name.now) c.args.files.now l.name-index _ l.set c.insert.new.self bytes
    (omega arith) c.in_ok-text.ensures.ok l.invariant
    (btree_set_updates_text bytes l.set c.insert.new.self true c.in_ok-insert.ensures.updates)
