use Rattle.yf_events.specs.Content.{before_value}
use Rattle.yf_events.proofs.ContentRuns.{directive_begins, pushed}
use Rattle.yf_events.proofs.content.add_directive.Goals as goal

pub loop-word-init : goal.loop-word-init
loop-word-init c =
    directive_begins c.args.directive.now c.as_slice-word-items.result.now _ _ c.as_slice-word-items.ensures (pushed before_value _ _ _ c.in_ok-push.ensures.items)
