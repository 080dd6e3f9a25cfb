use Rattle.std.proofs.Common.{◌∙◌, sym, to_z-of_z}
use Rattle.yf_grammar.proofs.Ends.Parts.{none_is_stuck}
use Rattle.yf_grammar.specs.Refusal.{for_memory}
use Rattle.yf_flow.proofs.Ends.OtherContexts.{no_flow_node}
use Rattle.yf_flow.proofs.Stack.ReadersLemmas.{found_chosen, too_deep_there}
use Rattle.yf_flow.proofs.flow.scan_flow_node.Goals as goal

pub read_node-requires-clause-boundary : goal.read_node-requires-clause-boundary
read_node-requires-clause-boundary c = rw c.text.ensures c.requires

pub returns-in-Ok-Found-clause-reads : goal.returns-in-Ok-Found-clause-reads
returns-in-Ok-Found-clause-reads c =
    let b = sym c.is_block.ensures ∙ c.if-is_block.false in
    let u = rw c.text.ensures at c.text.utf8 in
    let e = rw (c.text.ensures, c.in-Ok-Found.field-0-is) at c.in-Ok-Found.ensures.place in
    let node = rw (c.text.ensures, to_z-of_z c.ranges.n, c.in-Ok-Found.field-0-is) at (c.in-Ok-Found.ensures.answers c.text.utf8 b) in
    record { chosen = found_chosen u b node; escape = c.first_escape-escape.ensures; boundary = e.boundary }

pub returns-in-Ok-Nothing-clause-reads : goal.returns-in-Ok-Nothing-clause-reads
returns-in-Ok-Nothing-clause-reads c =
    let b = sym c.is_block.ensures ∙ c.if-is_block.false in
    none_is_stuck (rw c.text.ensures at c.text.utf8) b (rw (c.text.ensures, to_z-of_z c.ranges.n, c.in-Ok-Nothing.field-0-is) at (c.in-Ok-Nothing.ensures.answers c.text.utf8 b))

pub returns-in-Ok-TooDeep-clause-reads : goal.returns-in-Ok-TooDeep-clause-reads
returns-in-Ok-TooDeep-clause-reads c =
    let b = sym c.is_block.ensures ∙ c.if-is_block.false in
    too_deep_there (rw c.text.ensures at c.text.utf8) b (rw (c.text.ensures, to_z-of_z c.ranges.n, c.in-Ok-TooDeep.field-0-is) at (c.in-Ok-TooDeep.ensures.answers c.text.utf8 b))
    (c.in-Ok-TooDeep.offset, c.place-place.ensures.place)

pub returns-in-Err-clause-reads : goal.returns-in-Err-clause-reads
returns-in-Err-clause-reads c = for_memory

pub returns-then-is_block-clause-reads : goal.returns-then-is_block-clause-reads
returns-then-is_block-clause-reads c = no_flow_node (sym c.is_block.ensures ∙ c.if-is_block.true)
