use Rattle.std.proofs.Common.{sym, ap, ◌∙◌}
use Rattle.yf_stream.specs.TagPass.{starts_document}
use Rattle.yf_stream.proofs.TagPass.PassSteps.{event_at, event_with}
use Rattle.yf_stream.proofs.resolve.document_starts.Goals as goal

pub returns : goal.returns
returns c = event_with (event_at c.args.events.now c.args.at c.requires c.event.ensures) (λ e s. c.starts_document.ensures ∙ ap starts_document (sym s))
