use Rattle.std.proofs.Common.{ap, sym, ◌∙◌}
use Rattle.yf_positions.specs.Edits.{one_edit}
use Rattle.yf_positions.specs.Offsets.{offset_of}
use Rattle.yf_positions.proofs.EditLemmas.{apart, reach_push}
use Rattle.yf_positions.proofs.LineParts.{feed_boundary, feed_position}
use Rattle.yf_positions.proofs.text_edit.push_edit.Goals as goal

pub range-text-requires-clause-start_boundary : goal.range-text-requires-clause-start_boundary
range-text-requires-clause-start_boundary c = λ _. feed_boundary c.args.new.now c.args.from.new c.utf8.new
    c.requires.new_from

pub range-text-requires-clause-end_boundary : goal.range-text-requires-clause-end_boundary
range-text-requires-clause-end_boundary c = feed_boundary c.args.new.now c.args.to.new c.utf8.new c.requires.new_to

pub returns-clause-reach : goal.returns-clause-reach
returns-clause-reach c =
    let old = c.args.document.now in
    let e = c.args.encoding in
    let start =
    ap (offset_of e old) c.position_of.ensures
    ∙ feed_position e old c.args.from.old c.requires.utf8 c.requires.old_from in
    let end =
    ap (offset_of e old) c.position_of-2.ensures
    ∙ feed_position e old c.args.to.old c.requires.utf8 c.requires.old_to in
    reach_push e old c.args.new.now c.args.edits.now.items c.push.new.self.items _ c.args.from.old c.args.from.new
    c.args.to.old c.args.to.new c.requires.reach c.requires.old_order c.requires.new_order start end
    c.range-text.ensures.value c.in_ok-push.ensures.items

pub returns-clause-added : goal.returns-clause-added
returns-clause-added c =
    let old = c.args.document.now in
    let e = c.args.encoding in
    let start =
    ap (offset_of e old) c.position_of.ensures
    ∙ feed_position e old c.args.from.old c.requires.utf8 c.requires.old_from in
    let end =
    ap (offset_of e old) c.position_of-2.ensures
    ∙ feed_position e old c.args.to.old c.requires.utf8 c.requires.old_to in
    one_edit _ (apart c.args.from c.args.to (sym c.is_empty.ensures ∙ c.if-is_empty.false))
    start end c.range-text.ensures.value c.in_ok-push.ensures.items
