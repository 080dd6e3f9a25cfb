use Rattle.std.proofs.Common.{sym, ◌∙◌}
use Rattle.std.proofs.lemmas.Option.{same_Some}
use Rattle.yf_events.proofs.PutLemmas.{puts_line}
use Rattle.yf_events.proofs.notation.put_at.Goals as goal

pub returns : goal.returns
returns g c = λ e there. puts_line _ _ _ _ _ e _ _ (same_Some _ _ (sym c.event.ensures ∙ there)) c.put_event.ensures
