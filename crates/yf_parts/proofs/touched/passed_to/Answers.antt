-- The ranges end before a later line, too.
use Rattle.std.proofs.Common.{take, arith}
use Rattle.yf_parts.proofs.TouchedLemmas.{before_more}
use Rattle.yf_parts.proofs.touched.passed_to.Goals as goal

pub passed-requires-2-clause-before : goal.passed-requires-2-clause-before
passed-requires-2-clause-before c = before_more (take c.args.from c.args.asked.now) c.args.line c.args.next
    c.requires.before
    (omega arith)
