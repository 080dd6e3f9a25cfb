use Rattle.std.proofs.Common.{Some, ap, refl, ◌∙◌}
use Rattle.yf_stream.proofs.LeafPass.LeafSearches.{begun_if}
use Rattle.yf_stream.proofs.leaf_lines.has_begun.Goals as goal

pub returns-in-Some : goal.returns-in-Some
returns-in-Some c = begun_if c.args.events.now c.args.at c.args.offset c.in-Some.span _ refl (c.span.ensures ∙ ap Some c.in-Some.is)

pub returns-in-None : goal.returns-in-None
returns-in-None c = record { span = _; there = c.span.ensures ∙ ap Some c.in-None.is; before = tt }
