use Rattle.std.proofs.Common.{sym, ◌∙◌, arith}
use Rattle.yf_flow.proofs.Ends.Forward.{properties_forward}
use Rattle.yf_block.proofs.Ends.PropertiesLemmas.{line_found, no_properties}
use Rattle.yf_block.proofs.properties.line_properties.Goals as goal

pub returns-in-Some-clause-reads : goal.returns-in-Some-clause-reads
returns-in-Some-clause-reads c = line_found c.in-Some.field-0 (rw c.in-Some.is at c.in_ok-props.ensures.reads)

pub returns-clause-reads : goal.returns-clause-reads
returns-clause-reads c = no_properties (sym c.if-is_property_at.false ∙ c.is_property_at.ensures)

pub returns-in-Some-clause-place : goal.returns-in-Some-clause-place
returns-in-Some-clause-place c =
    let f = properties_forward (rw c.in-Some.is at c.in_ok-props.ensures.reads).derived in
    record { boundary = rw c.in-Some.is at c.in_ok-props.ensures.boundary; order = omega (arith, f) }
