use Rattle.std.proofs.Common.{reverse, ap, ◌∙◌, ◌++◌}
use Rattle.std.specs.String.{string_bytes}
use Rattle.yf_forms.specs.Passes.OneLinePass.{between, run}
use Rattle.yf_forms.proofs.Texts.OneLineRuns.{kept_adds}
use Rattle.yf_forms.proofs.form.kept.push_kept.Goals as goal

pub returns : goal.returns
returns c = record {
  run = c.in_ok-push_between.ensures
      ∙ ap (λ w. string_bytes c.args.text.now ++ run c.args.style.now (reverse w) (between c.args.first c.args.last c.args.reading.now.events)) c.new.ensures.items;
  kept = kept_adds c.args.reading.now.events c.args.style.now c.args.first c.args.last c.new.result.items _ _ c.new.ensures.items
      (λ _. c.in_ok-push_between.ensures);
}
