use Rattle.std.proofs.Common.{sym, ◌∙◌}
use Rattle.yf_quoted.proofs.SingleReadLemmas.{no_single_end, no_single_other, pair_char, half_char, own_char}
use Rattle.yf_quoted.proofs.single.single_char.Goals as goal

pub returns-then-is_char_at-clause-reads : goal.returns-then-is_char_at-clause-reads
returns-then-is_char_at-clause-reads c =
    pair_char c.utf8.s c.in-Some.ensures c.if-c-eq39.true c.if-is_char_at.ensures.cases.char

pub returns-then-c-eq39-clause-reads : goal.returns-then-c-eq39-clause-reads
returns-then-c-eq39-clause-reads c = half_char c.in-Some.ensures c.if-c-eq39.true c.if-is_char_at.ensures.cases

pub returns-then-is_forbidden_at-clause-reads : goal.returns-then-is_forbidden_at-clause-reads
returns-then-is_forbidden_at-clause-reads c =
    no_single_other (λ q. c.if-c-eq39.false (sym c.in-Some.ensures.char ∙ q)) (λ e f. f c.if-is_forbidden_at.ensures)

pub returns-in-None-clause-reads : goal.returns-in-None-clause-reads
returns-in-None-clause-reads c = no_single_end c.in-None.ensures.0

pub returns-else-is_forbidden_at-clause-reads : goal.returns-else-is_forbidden_at-clause-reads
returns-else-is_forbidden_at-clause-reads c =
    own_char c.utf8.s c.in-Some.ensures (sym c.is_nb_json.ensures ∙ c.if-not-is_nb_json.false) c.if-c-eq39.false c.if-is_forbidden_at.ensures
