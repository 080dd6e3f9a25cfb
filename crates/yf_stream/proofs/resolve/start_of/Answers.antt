use Rattle.std.proofs.Common.{sym, ap, ◌∙◌}
use Rattle.yf_stream.specs.WellFormed.{start_or}
use Rattle.yf_stream.proofs.TagPass.PassSteps.{event_with, span_at}
use Rattle.yf_stream.proofs.resolve.start_of.Goals as goal

pub returns-in-Some : goal.returns-in-Some
returns-in-Some c = event_with (span_at c.args.events.now c.args.at c.requires c.span.ensures) (λ e s. sym (ap (λ z. start_or 0 z) (s ∙ c.in-Some.is)))

pub returns-in-None : goal.returns-in-None
returns-in-None c = event_with (span_at c.args.events.now c.args.at c.requires c.span.ensures) (λ e s. sym (ap (λ z. start_or 0 z) (s ∙ c.in-None.is)))
