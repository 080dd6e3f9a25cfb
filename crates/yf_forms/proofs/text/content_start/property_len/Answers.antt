use Rattle.std.proofs.Common.{refl}
use Rattle.yf_forms.specs.Nodes.ContentStart.{property_len}
use Rattle.yf_forms.proofs.text.content_start.property_len.Goals as goal

pub returns-clause-len : goal.returns-clause-len
unfolding property_len
returns-clause-len c = rw (c.min.ensures, c.written_len.ensures, c.saturating_sub.ensures) refl
