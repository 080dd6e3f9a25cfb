use Rattle.std.proofs.Common.{[], ◌∷◌, ◌++◌, ap, ◌∙◌}
use Rattle.yf_positions.proofs.StartLemmas.{starts_first, starts_more, starts_done}
use Rattle.yf_positions.proofs.line_starts.line_starts.Goals as goal

pub lines-init : goal.lines-init
lines-init c = starts_first c.push.new.self.items c.args.bytes.now (c.in_ok-push.ensures.items
    ∙ ap (λ z. z ++ 0 ∷ []) c.new-starts.ensures.items)

pub lines-preserved : goal.lines-preserved
lines-preserved c = starts_more c.lines.starts.items c.push-in-Some.new.self.items c.args.bytes.now c.lines.at
    c.in-Some.end c.after_break-at.result c.lines.invariant c.in-Some.ensures c.after_break-at.ensures
    c.in_ok-push-in-Some.ensures.items

pub returns-in-None : goal.returns-in-None
returns-in-None c = starts_done c.lines.starts.items c.args.bytes.now c.lines.at c.lines.invariant c.in-None.ensures
