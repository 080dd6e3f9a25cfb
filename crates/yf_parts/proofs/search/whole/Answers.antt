-- All hunks make the formatting.
use Rattle.std.proofs.Common.{◌∙◌, ap, sym, subst}
use Rattle.yf_parts.specs.Hunks.{spliced}
use Rattle.yf_rules.specs.Headline.{Headline}
use Rattle.yf_parts.proofs.TryLemmas.{all_near}
use Rattle.yf_parts.proofs.search.whole.Goals as goal

pub returns-clause-works : goal.returns-clause-works
returns-clause-works c =
    let x = c.args.context in
    let all = c.in_ok-applied.ensures
    ∙ all_near c.args.reach x.flags.now c.requires.some c.requires.before c.requires.after in
    record {
      chosen = c.in_ok-applied.ensures;
      made = c.in_ok-text.ensures.ok ∙ (c.requires.whole.made
          ∙ ap (λ z. spliced x.text.now x.formatted.now x.hunks.now z 0) (sym all));
      formats = subst (λ z. Headline z x.style.now x.formatted.now) (sym c.in_ok-text.ensures.ok)
          c.requires.whole.formats;
    }
