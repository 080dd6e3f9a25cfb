-- The laws of the standard's productions hold.
use Rattle.yf_standard.specs.Laws.{StreamsAreStandard, StandardStreamsAreDerived, RefusedStreamsAreNone, RulesOnlyRestrict, ReadTextsAreStandard, ForbiddenLinesAreStandard}
use Rattle.yf_standard.proofs.Monotone.{rules_only_restrict}
use Rattle.yf_standard.proofs.Closed.{stream_known, forbidden_known}
use Rattle.yf_standard.proofs.StreamsMade.{stream_made, forbidden_made}

pub streams_are_standard : StreamsAreStandard
streams_are_standard t h x u d l = stream_made t _ u l d

pub standard_streams_are_derived : StandardStreamsAreDerived
standard_streams_are_derived t u d = stream_known t u _ d

pub refused_streams_are_none : RefusedStreamsAreNone
refused_streams_are_none t u n d = let s = stream_known t u _ d in n s.0 s.1.0 s.1.1.0 s.1.1.1

pub restrict : RulesOnlyRestrict
restrict t e i j f d = rules_only_restrict d

pub read_texts_are_standard : ReadTextsAreStandard
read_texts_are_standard t r u a = let s = a.reads.shapes in rules_only_restrict (stream_made t _ u s.within s.derived)

pub forbidden_lines_are_standard : ForbiddenLinesAreStandard
forbidden_lines_are_standard t i u = (λ f. forbidden_made t _ u i f, λ j d. forbidden_known t u _ i j d)
