use Rattle.std.proofs.lemmas.Bool.{not-false, not-true}
use Rattle.yf_forms.proofs.Texts.FlowTells.{flow_tells_none, flow_tells_some, text_none, text_some}
use Rattle.yf_forms.proofs.Texts.KeptLemmas.{tells_none, tells_some}
use Rattle.yf_forms.proofs.form.kept.kept_text_of.Goals as goal

pub returns-then-not-measure : goal.returns-then-not-measure
returns-then-not-measure c = record {
  kept = tells_none _ _ _ _ c.at-measure.result c.at-measure.ensures (not-true _ c.if-not-measure.true);
  exact = text_none _ _ _ c.at-measure.result _ c.at-measure.ensures (not-true _ c.if-not-measure.true);
  tells = flow_tells_none _ _ _ _ c.at-measure.result c.at-measure.ensures (not-true _ c.if-not-measure.true);
}

pub returns : goal.returns
returns c = record {
  kept = tells_some _ _ _ _ c.at-measure.result _ _ c.at-measure.ensures c.new-text.ensures.bytes c.in_ok-push_kept.ensures.kept (not-false _ c.if-not-measure.false);
  exact = text_some c.args.style.now c.args.reading.now.events c.args.i c.at-measure.result _ _ _ c.at-measure.ensures c.new-text.ensures.bytes
      c.in_ok-push_kept.ensures.run (not-false _ c.if-not-measure.false);
  tells = flow_tells_some _ _ _ _ c.at-measure.result _ _ c.at-measure.ensures c.new-text.ensures.bytes c.in_ok-push_kept.ensures.kept (not-false _ c.if-not-measure.false);
}
