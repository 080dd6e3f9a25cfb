use Rattle.yf_events.specs.Event.{EventInText}
use Rattle.yf_print.specs.Passes.Pages.{no_event}
use Rattle.yf_print.proofs.Pass.LookLemmas.{part_at}
use Rattle.yf_print.proofs.looks.folded_at.Goals as goal

pub returns : goal.returns
returns c = part_at (λ (e : EventInText). e.folded) c.args.page.now.reading.now.events c.args.i no_event _ c.folded_lines.ensures
