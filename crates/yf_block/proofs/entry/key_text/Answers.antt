use Rattle.std.proofs.Common.{arith}
use Rattle.yf_block.specs.KeyTexts.{text_bare, text_after, text_ended}
use Rattle.yf_block.proofs.Stack.TiedKeys.{nowhere_after}
use Rattle.yf_block.proofs.entry.key_text.Goals as goal

pub returns-in-None-clause-reads : goal.returns-in-None-clause-reads
returns-in-None-clause-reads c = rw c.in-None.is text_bare

pub returns-in-None-place_after-clause-reads : goal.returns-in-None-place_after-clause-reads
returns-in-None-place_after-clause-reads c =
    rw c.in-Some.is (nowhere_after c.in_ok-ended-in-Some.ended (λ s. s.end) (λ s. s.comments) c.in_ok-ended-in-Some.ensures.reads c.in-None-place_after.ensures.reads)

pub returns-in-Some-ended-clause-reads : goal.returns-in-Some-ended-clause-reads
returns-in-Some-ended-clause-reads c = rw c.in-Some.is (text_ended (rw c.in-Some-ended.is at c.in_ok-ended-in-Some.ensures.reads).derived)

pub returns-clause-reads : goal.returns-clause-reads
returns-clause-reads c = rw c.in-Some.is (text_after (rw c.in-None-ended.is at c.in_ok-ended-in-Some.ensures.reads) c.in-Some-place_after.ensures.reads)

pub read_line_end-requires : goal.read_line_end-requires
read_line_end-requires c = (rw c.in-Some.is at c.requires.properties).boundary

pub place_after-requires : goal.place_after-requires
place_after-requires c = (rw c.in-Some.is at c.requires.properties).boundary

pub returns-in-None-clause-place : goal.returns-in-None-clause-place
returns-in-None-clause-place c = rw c.in-None.is (c.requires.start, tt, omega arith)

pub returns-in-None-place_after-clause-place : goal.returns-in-None-place_after-clause-place
returns-in-None-place_after-clause-place c = c.requires.start
