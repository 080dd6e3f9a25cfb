use Rattle.std.proofs.Common.{◌+◌, ap, ◌∙◌, to_z-of_z}
use Rattle.yf_block_scalar.proofs.BodyLemmas.{bares_starts}
use Rattle.yf_block_scalar.specs.Body.{body_value}
use Rattle.yf_block_scalar.proofs.ReaderLemmas.{body_indicated, body_detected, body_without, body_none}
use Rattle.yf_block_scalar.proofs.ScalarLemmas.{to_scalar}
use Rattle.yf_block_scalar.proofs.ScalarOrder.{body_forward}
use Rattle.yf_block_scalar.proofs.UniqueLemmas.{body_chosen}
use Rattle.yf_block_scalar.proofs.reader.block_body.Goals as goal

pub with_trail-requires-clause-starts : goal.with_trail-requires-clause-starts
with_trail-requires-clause-starts c = λ l. bares_starts c.requires.starts c.in-Missing.ensures.finds.1.0 l

pub returns-in_ok-block-in-Some-clause-reads : goal.returns-in_ok-block-in-Some-clause-reads
returns-in_ok-block-in-Some-clause-reads c =
    let e = c.in_ok-block-in-Some.ensures in
    let k = rw (to_z-of_z c.ranges.n) at c.base_of.ensures in
    (e.header, e.comment, body_chosen (body_indicated c.args.n c.args.header c.in-Some.digit c.in-Some.is (ap (λ w. w + c.in-Some.digit) k) e.reads.2.0 e.reads.2.1 e.reads.2.2))

pub returns-in_ok-block-in-Found-clause-reads : goal.returns-in_ok-block-in-Found-clause-reads
returns-in_ok-block-in-Found-clause-reads c =
    let e = c.in_ok-block-in-Found.ensures in
    let found = rw (to_z-of_z c.ranges.n) at c.in-Found.ensures.finds in
    (e.header, e.comment, body_chosen (body_detected c.args.n c.args.header c.in-None.is found e.reads.2.0 e.reads.2.1 e.reads.2.2))

pub returns-in_ok-block-in-Missing-clause-reads : goal.returns-in_ok-block-in-Missing-clause-reads
returns-in_ok-block-in-Missing-clause-reads c =
    let e = c.in_ok-block-in-Missing.ensures in
    let found = rw (to_z-of_z c.ranges.n) at c.in-Missing.ensures.finds in
    let k = rw (to_z-of_z c.ranges.n) at c.least_of.ensures in
    (e.header, e.comment, body_chosen (body_without c.args.n c.args.header found.0 (body_value c.in_ok-block-in-Missing.block) c.in-None.is found.1.0 found.1.1 found.1.2 k e.reads.1.0 e.reads.1.1 (e.lines ∙ c.new-lines.ensures) e.open_end e.tail))

pub returns-in-TooLong-clause-reads : goal.returns-in-TooLong-clause-reads
returns-in-TooLong-clause-reads c =
    let found = rw (to_z-of_z c.ranges.n) at c.in-TooLong.ensures.finds in
    body_none c.args.n c.args.header c.in-None.is found.0 found.1

pub returns-in_ok-block-in-Some-clause-scalar : goal.returns-in_ok-block-in-Some-clause-scalar
returns-in_ok-block-in-Some-clause-scalar c =
    let r = returns-in_ok-block-in-Some-clause-reads c in
    λ full. to_scalar c.in_ok-block-in-Some.block c.utf8.s r.0 r.1 r.2.derived full

pub returns-in_ok-block-in-Found-clause-scalar : goal.returns-in_ok-block-in-Found-clause-scalar
returns-in_ok-block-in-Found-clause-scalar c =
    let r = returns-in_ok-block-in-Found-clause-reads c in
    λ full. to_scalar c.in_ok-block-in-Found.block c.utf8.s r.0 r.1 r.2.derived full

pub returns-in_ok-block-in-Missing-clause-scalar : goal.returns-in_ok-block-in-Missing-clause-scalar
returns-in_ok-block-in-Missing-clause-scalar c =
    let r = returns-in_ok-block-in-Missing-clause-reads c in
    λ full. to_scalar c.in_ok-block-in-Missing.block c.utf8.s r.0 r.1 r.2.derived full

pub returns-in_ok-block-in-Some-clause-order : goal.returns-in_ok-block-in-Some-clause-order
returns-in_ok-block-in-Some-clause-order c = body_forward (returns-in_ok-block-in-Some-clause-reads c).2.derived

pub returns-in_ok-block-in-Found-clause-order : goal.returns-in_ok-block-in-Found-clause-order
returns-in_ok-block-in-Found-clause-order c = body_forward (returns-in_ok-block-in-Found-clause-reads c).2.derived

pub returns-in_ok-block-in-Missing-clause-order : goal.returns-in_ok-block-in-Missing-clause-order
returns-in_ok-block-in-Missing-clause-order c = body_forward (returns-in_ok-block-in-Missing-clause-reads c).2.derived
