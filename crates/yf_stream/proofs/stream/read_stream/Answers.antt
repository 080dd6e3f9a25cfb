use Rattle.std.proofs.Common.{MatchOption, arith, subst, sym}
use Rattle.yf_events.specs.Nested.{IsStream}
use Rattle.yf_events.specs.Reading.{ListsFit, events_of}
use Rattle.yf_events.specs.declared.reading.TheConstants.{DEPTH}
use Rattle.yf_stream.specs.DerivedStreams.{ListsDerived}
use Rattle.yf_stream.specs.StreamDrafts.{drafted, lists_of}
use Rattle.yf_stream.specs.RefusalPlaces.{RefusalAt}
use Rattle.yf_stream.specs.StreamReader.{for_memory}
use Rattle.yf_stream.proofs.Reader.DerivedFaults.{fault_derived, refusal_placed}
use Rattle.yf_stream.proofs.Offsets.DraftedReadings.{read_built}
use Rattle.yf_stream.proofs.Offsets.NestedStreams.{reading_nests}
use Rattle.yf_stream.proofs.stream.read_stream.Goals as goal

pub of_stream-requires-clause-fits : goal.of_stream-requires-clause-fits
of_stream-requires-clause-fits c =
    subst ListsFit (sym c.into_lists.ensures)
    (subst (λ o. MatchOption o (ListsFit (lists_of c.fill.new.draft)) (λ refusal. RefusalAt c.args.text.now refusal)) c.in-Ok-None.field-0-is c.in-Ok-None.ensures.refusal)

pub of_stream-requires-clause-nested : goal.of_stream-requires-clause-nested
of_stream-requires-clause-nested c =
    let read = subst (λ z. ListsDerived c.args.text.now (drafted c.fill.new.draft z)) c.in-Ok-None.field-0-is (c.in-Ok-None.ensures.reads (omega arith)) in
    subst (λ z. IsStream DEPTH (events_of z)) (sym c.into_lists.ensures) (reading_nests read.reads)

pub returns-in-Ok-None-clause-reads : goal.returns-in-Ok-None-clause-reads
returns-in-Ok-None-clause-reads c =
    read_built c.args.text.now c.of_stream.result c.of_stream.ensures c.into_lists.ensures (subst (λ z. ListsDerived c.args.text.now (drafted c.fill.new.draft z)) c.in-Ok-None.field-0-is (c.in-Ok-None.ensures.reads (omega arith)))

pub fault_at-requires : goal.fault_at-requires
fault_at-requires c =
    refusal_placed c.args.text.now c.in-Ok-Some.refusal
    (subst (λ o. MatchOption o (ListsFit (lists_of c.fill.new.draft)) (λ refusal. RefusalAt c.args.text.now refusal)) c.in-Ok-Some.field-0-is c.in-Ok-Some.ensures.refusal)
    (subst (λ z. ListsDerived c.args.text.now (drafted c.fill.new.draft z)) c.in-Ok-Some.field-0-is (c.in-Ok-Some.ensures.reads (omega arith)))

pub returns-in-Ok-Some-clause-reads : goal.returns-in-Ok-Some-clause-reads
returns-in-Ok-Some-clause-reads c =
    fault_derived c.fault_at.ensures (subst (λ z. ListsDerived c.args.text.now (drafted c.fill.new.draft z)) c.in-Ok-Some.field-0-is (c.in-Ok-Some.ensures.reads (omega arith)))

pub returns-in-Err-clause-reads : goal.returns-in-Err-clause-reads
returns-in-Err-clause-reads c = for_memory

pub returns-then-text-gt-LONGEST-clause-reads : goal.returns-then-text-gt-LONGEST-clause-reads
returns-then-text-gt-LONGEST-clause-reads c = for_memory
