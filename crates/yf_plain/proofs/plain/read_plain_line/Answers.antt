use Rattle.std.proofs.Common.{ap, ◌∙◌}
use Rattle.yf_chars.specs.Class as Class
use Rattle.yf_plain.proofs.PlainLemmas.{front_chosen, first_is_ns}
use Rattle.yf_plain.proofs.plain.read_plain_line.Goals as goal

pub plain_in_line-requires-clause-follows : goal.plain_in_line-requires-clause-follows
plain_in_line-requires-clause-follows c = ap Class.is_ns_char c.in-Some.ensures.2.back ∙ first_is_ns c.args.s.now c.args.ctx c.args.at c.in-Some.ensures.1

pub returns-in-Some-clause-reads : goal.returns-in-Some-clause-reads
returns-in-Some-clause-reads c =
    front_chosen c.utf8.s c.in-Some.ensures.0 c.in-Some.ensures.1 c.in-Some.ensures.2 c.plain_in_line.ensures.reads.1 c.plain_in_line.ensures.all
