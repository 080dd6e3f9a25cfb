use Rattle.std.proofs.Common.{ap, sym, ◌∙◌, true≢false}
use Rattle.yf_chars.specs.Class as Class
use Rattle.yf_plain.proofs.LineLemmas.{no_next_at, fold_before}
use Rattle.yf_plain.proofs.PlainLemmas.{plain_is_ns}
use Rattle.yf_plain.proofs.plain.next_line.Goals as goal

pub returns-then-is_forbidden_at-clause-reads : goal.returns-then-is_forbidden_at-clause-reads
returns-then-is_forbidden_at-clause-reads c = no_next_at c.in-Some.ensures.reads (λ e a. a c.if-is_forbidden_at.ensures)

pub plain_char-requires-clause-lookbehind : goal.plain_char-requires-clause-lookbehind
plain_char-requires-clause-lookbehind c = fold_before c.utf8.s c.in-Some.ensures.reads

pub plain_in_line-requires-clause-follows : goal.plain_in_line-requires-clause-follows
plain_in_line-requires-clause-follows c =
    ap Class.is_ns_char c.in-Some-plain_char.ensures.1.back ∙ plain_is_ns c.args.s.now c.args.ctx c.in-Some.fold.end c.in-Some-plain_char.ensures.0

pub returns-in-None-plain_char-clause-reads : goal.returns-in-None-plain_char-clause-reads
returns-in-None-plain_char-clause-reads c = no_next_at c.in-Some.ensures.reads (λ e a. true≢false (sym e ∙ c.in-None-plain_char.ensures))
