use Rattle.yf_flow.proofs.Stack.TiedValues.{separated_gap, unseparated_gap}
use Rattle.yf_flow.proofs.entries.read_question.Goals as goal

pub returns-then-gap-clause-reads : goal.returns-then-gap-clause-reads
returns-then-gap-clause-reads c =
    let g = separated_gap c.in_ok-gap.ensures.reads c.if-gap.true in
    (c.if-is_char_at.ensures.cases.char, record { comments = g.0; chosen = g.1; added = g.2 })

pub returns-then-is_char_at-clause-reads : goal.returns-then-is_char_at-clause-reads
returns-then-is_char_at-clause-reads c =
    let g = unseparated_gap c.in_ok-gap.ensures.reads c.if-gap.false in
    record { none = λ e. g.0; same = g.2 }
