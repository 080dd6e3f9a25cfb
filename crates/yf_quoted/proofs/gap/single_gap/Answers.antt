use Rattle.yf_quoted.specs.Body.PlainGap.{of_whites, of_fold}
use Rattle.yf_quoted.specs.Body.NoPlainGap.{at_break}
use Rattle.yf_quoted.proofs.GapLemmas.{none_some}
use Rattle.yf_quoted.proofs.gap.single_gap.Goals as goal

pub returns-in-None-clause-reads : goal.returns-in-None-clause-reads
returns-in-None-clause-reads c =
    of_whites c.skip_whites-place.ensures.whites.1 c.skip_whites-place.ensures.all (λ s. absurd (none_some c.in-None.is s))

pub returns-in-None-line_break-clause-reads : goal.returns-in-None-line_break-clause-reads
returns-in-None-line_break-clause-reads c =
    of_whites c.skip_whites-place.ensures.whites.1 c.skip_whites-place.ensures.all (λ s. c.in-None-line_break.ensures.reads)

pub returns-in-None-flow_folded-clause-reads : goal.returns-in-None-flow_folded-clause-reads
returns-in-None-flow_folded-clause-reads c =
    at_break c.in-Some.width c.in-Some.is c.skip_whites-place.ensures.whites.1 c.in-Some-line_break.ensures.reads c.in-None-flow_folded.ensures.reads

pub returns-in-Some-flow_folded-clause-reads : goal.returns-in-Some-flow_folded-clause-reads
returns-in-Some-flow_folded-clause-reads c = of_fold c.in-Some.width c.in-Some.is c.in-Some-flow_folded.ensures.reads
