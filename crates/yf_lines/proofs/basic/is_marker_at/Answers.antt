use Rattle.std.proofs.Common.{sym, ◌∙◌}
use Rattle.yf_lines.proofs.BasicLemmas.{marker_of_dashes, marker_of_dots, no_marker}
use Rattle.yf_lines.proofs.basic.is_marker_at.Goals as goal

pub returns-then-three_stand : goal.returns-then-three_stand
returns-then-three_stand c =
    c.is_white_or_end_at.ensures ∙ sym (marker_of_dashes c.args.s.now c.args.at (sym c.if-three_stand.ensures.value))

pub returns-then-three_stand-2 : goal.returns-then-three_stand-2
returns-then-three_stand-2 c =
    c.is_white_or_end_at-then-three_stand-2.ensures
    ∙ sym (marker_of_dots c.args.s.now c.args.at (sym c.if-three_stand.ensures.value) (sym c.if-three_stand-2.ensures.value))

pub returns : goal.returns
returns c = sym (no_marker c.args.s.now c.args.at (sym c.if-three_stand.ensures.value) (sym c.if-three_stand-2.ensures.value))
