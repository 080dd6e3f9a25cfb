use Rattle.std.proofs.Common.{◌∙◌, sym}
use Rattle.yf_line_ranges.proofs.NumberLemmas.{read, unread}
use Rattle.yf_line_ranges.proofs.number.read_number.Goals as goal

pub returns-in-Ok : goal.returns-in-Ok
returns-in-Ok c =
    read c.parse.result c.args.text.now c.in-Ok.number c.parse.ensures.value.0 c.in-Ok.is
    (sym c.are_digits.ensures ∙ c.if-are_digits.true)

pub returns-in-Err : goal.returns-in-Err
returns-in-Err c =
    unread c.parse.result _ c.args.text.now c.parse.ensures.value.0 c.in-Err.is
    (sym c.are_digits.ensures ∙ c.if-are_digits.true)
