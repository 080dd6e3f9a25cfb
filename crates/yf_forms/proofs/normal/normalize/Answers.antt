use Rattle.std.proofs.Common.{◌≡◌, ◌∙◌, ap, get_or, sym, refl}
use Rattle.std.proofs.lemmas.Option.{same_Some}
use Rattle.yf_events.specs.Event.{event_value}
use Rattle.yf_forms.specs.NormalForms.Measures.{no_measure}
use Rattle.yf_forms.specs.Passes.NormalEvents.{kept_until}
use Rattle.yf_forms.specs.Nodes.ScalarStyles.{wanted_of_event}
use Rattle.yf_forms.proofs.NormalForms.NormalInPlace.{same_long, step_in_place}
use Rattle.yf_forms.proofs.normal.normalize.Goals as goal
use Rattle.yf_forms.proofs.normal.normalize.Goals.{then-at, else-at}

until_now : (c : goal.In_ok-set_form) → c.if-at.kept_until ≡ kept_until c.loop-i.kept_until (get_or c.args.measures.now c.loop-i.i no_measure) c.at.result
until_now c = elim c.if-at.branch [
  | then-at w ↦ rw (w.kept_until-is, w.if-at.true, w.at-measure.ensures) refl
  | else-at w ↦ rw (w.kept_until-is, w.if-at.false) refl
]

pub loop-i-preserved : goal.loop-i-preserved
loop-i-preserved c = (
  same_long _ _ _ _ c.in_ok-set_form.ensures ∙ c.loop-i.invariant.0,
  step_in_place c.args.style.now c.args.measures.now c.args.forms.now c.loop-i.events _ _ c.loop-i.i c.loop-i.kept_until c.if-at.kept_until
      (event_value c.event.result) (get_or c.args.measures.now c.loop-i.i no_measure) c.at.result c.flow_of-flow.result c.style_of-wanted.result c.event.ensures refl c.at.ensures
      (until_now c) c.flow_of-flow.ensures (c.style_of-wanted.ensures ∙ ap (λ e. wanted_of_event e c.args.style.now) (same_Some _ _ (sym c.event-in-loop-i.ensures ∙ c.event.ensures)))
      c.in_ok-set_form.ensures c.loop-i.invariant.1,
)
