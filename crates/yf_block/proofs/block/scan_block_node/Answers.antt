use Rattle.std.proofs.Common.{refl, to_z-of_z}
use Rattle.std.proofs.lemmas.List.Elements.{All-nil, All-same}
use Rattle.std.specs.Str.{IsCharBoundary}
use Rattle.yf_grammar.specs.Refusal.{for_memory}
use Rattle.yf_lines.specs.Basic.{is_block}
use Rattle.yf_block.proofs.Runs.NodesGiven.{node_alone, too_deep_given}
use Rattle.yf_block.proofs.Ends.OtherContexts.{answers_none, by_context, no_other_node}
use Rattle.yf_block.proofs.block.scan_block_node.Goals as goal

pub returns-in-Ok-Found-clause-reads : goal.returns-in-Ok-Found-clause-reads
returns-in-Ok-Found-clause-reads c = λ i l. by_context (is_block c.args.ctx) (λ b.
    let f = rw (c.text.ensures, to_z-of_z c.ranges.n, c.in-Ok-Found.field-0-is) at c.in-Ok-Found.ensures.tied in
    let place = rw (c.text.ensures, c.in-Ok-Found.field-0-is) at c.in-Ok-Found.ensures.place in
    let events = c.new_part-part.ensures.events in
    let comments = c.new_part-part.ensures.comments in
    let escapes = c.new_part-part.ensures.escapes in
    record {
      chosen = node_alone events comments escapes ((f b i l).alone events comments escapes);
      escape = c.first_escape-escape.ensures;
      boundary = place.0.boundary;
    })
    (λ o. absurd (rw c.in-Ok-Found.field-0-is at (answers_none (c.in-Ok-Found.ensures.other o))))

pub returns-in-Ok-Nothing-clause-reads : goal.returns-in-Ok-Nothing-clause-reads
returns-in-Ok-Nothing-clause-reads c = λ i l. by_context (is_block c.args.ctx) (λ b.
    let f = rw (c.text.ensures, to_z-of_z c.ranges.n, c.in-Ok-Nothing.field-0-is) at c.in-Ok-Nothing.ensures.tied in
    (f b i l).none)
    no_other_node

pub returns-in-Ok-TooDeep-clause-reads : goal.returns-in-Ok-TooDeep-clause-reads
returns-in-Ok-TooDeep-clause-reads c = λ i l. by_context (is_block c.args.ctx) (λ b.
    let f = rw (c.text.ensures, to_z-of_z c.ranges.n, c.in-Ok-TooDeep.field-0-is) at c.in-Ok-TooDeep.ensures.tied in
    too_deep_given (f b i l) (c.in-Ok-TooDeep.offset, c.place.ensures.place))
    (λ o. absurd (rw c.in-Ok-TooDeep.field-0-is at (answers_none (c.in-Ok-TooDeep.ensures.other o))))

pub returns-clause-reads : goal.returns-clause-reads
returns-clause-reads c = λ i l. for_memory

pub block_node_in-requires-clause-escapes : goal.block_node_in-requires-clause-escapes
block_node_in-requires-clause-escapes c =
    All-same (IsCharBoundary c.text.result.now) _ _ c.new_part-part.ensures.escapes (All-nil (IsCharBoundary c.text.result.now))

pub block_node_in-requires-clause-boundary : goal.block_node_in-requires-clause-boundary
block_node_in-requires-clause-boundary c = rw c.text.ensures c.requires

pub first_escape-escape-requires : goal.first_escape-escape-requires
first_escape-escape-requires c = rw c.text.ensures at c.in-Ok-Found.ensures.escapes

pub place-requires : goal.place-requires
place-requires c = rw (c.text.ensures, c.in-Ok-TooDeep.field-0-is) at c.in-Ok-TooDeep.ensures.place

pub returns-in-Ok-Found-clause-place : goal.returns-in-Ok-Found-clause-place
returns-in-Ok-Found-clause-place c = (rw (c.text.ensures, c.in-Ok-Found.field-0-is) at c.in-Ok-Found.ensures.place).0

pub returns-in-Ok-Found-clause-escapes : goal.returns-in-Ok-Found-clause-escapes
returns-in-Ok-Found-clause-escapes c = c.first_escape-escape.ensures

pub returns-in-Ok-Nothing-clause-place : goal.returns-in-Ok-Nothing-clause-place
returns-in-Ok-Nothing-clause-place c = tt

pub returns-in-Ok-Nothing-clause-other : goal.returns-in-Ok-Nothing-clause-other
returns-in-Ok-Nothing-clause-other c = λ _. refl
