use Rattle.std.proofs.Common.{◌∙◌, refl, sym}
use Rattle.std.proofs.lemmas.Bool.{false≢true}
use Rattle.yf_stream.specs.StreamReader.{for_memory}
use Rattle.yf_guarded.proofs.VerdictLemmas.{verdict_shown}
use Rattle.yf_guarded.proofs.read.verdict_on.Goals as goal

pub returns-in-Ok-clause-judged : goal.returns-in-Ok-clause-judged
returns-in-Ok-clause-judged c =
    verdict_shown c.args.reads c.args.text.now c.in-Ok-Some.fault c.in-Ok.verdict (rw c.in-Ok-Some.field-0-is at c.in-Ok-Some.ensures.found) c.in-Ok.ensures

pub returns-in-Err-shown-clause-refuses : goal.returns-in-Err-shown-clause-refuses
returns-in-Err-shown-clause-refuses c = for_memory

pub returns-in-Err-shown-clause-unread : goal.returns-in-Err-shown-clause-unread
returns-in-Err-shown-clause-unread c = λ unread. refl

pub returns-in-Err-clause-unread : goal.returns-in-Err-clause-unread
returns-in-Err-clause-unread c = λ unread. absurd (false≢true (sym unread ∙ c.in-Err.ensures.only))
