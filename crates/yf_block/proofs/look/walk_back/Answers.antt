use Rattle.std.proofs.Common.{true, false, sym, ◌∙◌, subst}
use Rattle.yf_lines.specs.Basic.{Break}
use Rattle.yf_block.specs.WalksBack.{WalksBack, floor_reached, white_passed, blank_line_met, break_passed, mark_passed, nothing_passed}
use Rattle.yf_block.proofs.look.walk_back.Goals as goal

pub back-init : goal.back-init
back-init c = λ r d. d

pub back-preserved-then-is_white_at : goal.back-preserved-then-is_white_at
back-preserved-then-is_white_at c = λ r d.
    c.back.invariant r (white_passed c.back-test.true (sym c.is_white_at.ensures.value ∙ c.if-is_white_at.true) d)

pub returns-then-blank : goal.returns-then-blank
returns-then-blank c =
    c.back.invariant true
    (subst (λ b. WalksBack c.args.text.now c.args.floor c.back.place b true) (sym c.if-blank.true)
    (blank_line_met c.back-test.true (sym c.is_white_at.ensures.value ∙ c.if-is_white_at.false) c.if-break_ends.ensures.1))

pub back-preserved-then-break_ends : goal.back-preserved-then-break_ends
back-preserved-then-break_ends c = λ r d.
    let b = c.if-break_ends.ensures in
    c.back.invariant r
    (subst (λ z. WalksBack c.args.text.now c.args.floor c.back.place z r) (sym c.if-blank.false)
    (break_passed c.back-test.true (sym c.is_white_at.ensures.value ∙ c.if-is_white_at.false)
    (subst (λ i. Break c.args.text.now i c.back.place) (sym (c.break_start-place.ensures.begins b.0 b.1)) b.1) d))

pub back-preserved : goal.back-preserved
back-preserved c = λ r d.
    c.back.invariant r
    (mark_passed c.back-test.true (sym c.is_white_at.ensures.value ∙ c.if-is_white_at.false) c.if-break_ends.ensures
    c.if-mark_ends.ensures.0 c.if-mark_ends.ensures.1 d)

pub returns-in-back : goal.returns-in-back
returns-in-back c =
    c.back.invariant false
    (nothing_passed c.back-test.true (sym c.is_white_at.ensures.value ∙ c.if-is_white_at.false) c.if-break_ends.ensures c.if-mark_ends.ensures)

pub returns : goal.returns
returns c = c.back.invariant c.back.blank (floor_reached c.back-test.false)
