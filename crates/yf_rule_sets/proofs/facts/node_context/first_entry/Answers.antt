use Rattle.std.proofs.Common.{refl, sym, ◌∙◌, arith, length, ◌≤◌, ◌≡◌, ◌+◌}
use Rattle.yf_rule_sets.proofs.Indentation.EntryLemmas.{in_block, in_none, past_events}
use Rattle.yf_rule_sets.proofs.RuleSets.KeyPassLemmas.{event_at}
use Rattle.yf_rule_sets.proofs.facts.node_context.first_entry.Goals as goal

pub returns-then-next-len : goal.returns-then-next-len
returns-then-next-len c =
    let t = c.args.src.now.text in
    let r = c.args.reading.now in
    let i = c.args.i in
    let x = event_at r i c.requires in
    let next = c.saturating_add-next.result in
    let n : next ≡ i + 1 = omega (arith, c.saturating_add-next.ensures, c.if-next-len.true, c.len.ensures, c.requires) in
    c.entry_start.ensures ∙ sym (in_block t r.events i next x.0.event c.starts_block.result x.2 (c.starts_block.ensures x.0.event x.2) c.if-starts_block.true n)

pub returns-else-next-len : goal.returns-else-next-len
returns-else-next-len c =
    let t = c.args.src.now.text in
    let r = c.args.reading.now in
    let i = c.args.i in
    let x = event_at r i c.requires in
    let n : length r.events ≤ i + 1 = omega (arith, c.saturating_add-next.ensures, c.if-next-len.false, c.len.ensures, c.requires) in
    sym (in_block t r.events i (i + 1) x.0.event c.starts_block.result x.2 (c.starts_block.ensures x.0.event x.2) c.if-starts_block.true refl ∙ past_events t r.events (i + 1) n)

pub returns-else-starts_block : goal.returns-else-starts_block
returns-else-starts_block c =
    let t = c.args.src.now.text in
    let r = c.args.reading.now in
    let x = event_at r c.args.i c.requires in
    sym (in_none t r.events c.args.i x.0.event c.starts_block.result x.2 (c.starts_block.ensures x.0.event x.2) c.if-starts_block.false)
