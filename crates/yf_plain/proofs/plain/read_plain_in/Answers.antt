use Rattle.std.proofs.Common.{◌≡◌, sym, ◌∙◌, pos, ◌<ℤ◌}
use Rattle.std.proofs.Common.{to_z-of_z}
use Rattle.yf_lines.proofs.ClearLemmas.{spelled_slice}
use Rattle.yf_lines.proofs.ContextFacts.{not_others}
use Rattle.yf_plain.proofs.LineLemmas.{no_plain, key_chosen, front_spelled, one_line_chosen, no_next_negative}
use Rattle.yf_plain.proofs.PlainOrder.{plain_forward}
use Rattle.yf_plain.proofs.plain.read_plain_in.Goals as goal

pub returns-in-None-clause-reads : goal.returns-in-None-clause-reads
returns-in-None-clause-reads c = no_plain c.in-None.ensures.reads

pub returns-then-is_key-clause-reads : goal.returns-then-is_key-clause-reads
returns-then-is_key-clause-reads c =
    let best = c.in-Some.ensures.reads.1 in
    (c.in-Some.ensures.reads.0, c.range.ensures.value ∙ spelled_slice c.in-Some.ensures.boundary.0 (front_spelled c.utf8.s best.derived), key_chosen (sym c.if-is_key.ensures) best)

pub returns-in-None-indent_width-clause-reads : goal.returns-in-None-indent_width-clause-reads
returns-in-None-indent_width-clause-reads c =
    let best = c.in-Some.ensures.reads.1 in
    let flow = not_others c.args.ctx (sym c.if-is_block.ensures) (sym c.if-is_key.ensures) in
    let negative : c.args.n <ℤ pos 0 = rw (to_z-of_z c.ranges.n) at c.in-None-indent_width.ensures in (
      c.in-Some.ensures.reads.0,
      c.range.ensures.value ∙ spelled_slice c.in-Some.ensures.boundary.0 (front_spelled c.utf8.s best.derived),
      one_line_chosen flow best c.in-Some.ensures.all (no_next_negative negative),
    )

pub returns-in-None-next_line-clause-reads : goal.returns-in-None-next_line-clause-reads
returns-in-None-next_line-clause-reads c =
    let best = c.in-Some.ensures.reads.1 in
    let flow = not_others c.args.ctx (sym c.if-is_block.ensures) (sym c.if-is_key.ensures) in
    let width : c.args.n ≡ pos c.in-Some-indent_width.width = rw (to_z-of_z c.ranges.n) at c.in-Some-indent_width.ensures in (
      c.in-Some.ensures.reads.0,
      c.range.ensures.value ∙ spelled_slice c.in-Some.ensures.boundary.0 (front_spelled c.utf8.s best.derived),
      one_line_chosen flow best c.in-Some.ensures.all (rw width c.in-None-next_line.ensures.reads),
    )

pub returns-in-Ok-clause-order : goal.returns-in-Ok-clause-order
returns-in-Ok-clause-order c = plain_forward c.in-Ok.ensures.reads.2.derived.text
