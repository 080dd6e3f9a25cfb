use Rattle.std.proofs.Common.{string_bytes, true, ap, ◌∙◌, arith}
use Rattle.std.proofs.lemmas.Map.Text.{btree_set_updates_text}
use Rattle.yf_baseline.specs.Baselines.{entry_line}
use Rattle.yf_baseline.proofs.ListedLemmas.{holds_taken}
use Rattle.yf_baseline.proofs.listed.lines_of.Goals as goal

pub loop-entry-preserved : goal.loop-entry-preserved
loop-entry-preserved c =
    let l = c.loop-entry in
    let bytes = string_bytes c.in_ok-line.line in
    holds_taken (λ e. entry_line e) c.args.entries.now l.entry-index c.entry-item.result l.set c.insert.new.self bytes
    (omega arith) (c.in_ok-line.ensures ∙ ap (λ e. entry_line e) c.entry-item.is) l.invariant
    (btree_set_updates_text bytes l.set c.insert.new.self true c.in_ok-insert.ensures.updates)
