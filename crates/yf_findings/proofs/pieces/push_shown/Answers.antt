use Rattle.std.proofs.Common.{◌++◌, ◌∙◌, ap, map-id, sym}
use Rattle.std.proofs.lemmas.Iterator.{YieldsList-from_chars}
use Rattle.std.proofs.lemmas.Iterator.Consumers.{YieldsList-end}
use Rattle.yf_explain.specs.Shown.{all_shown}
use Rattle.yf_findings.proofs.PieceLemmas.{shown_more}
use Rattle.yf_findings.proofs.pieces.push_shown.Goals as goal

pub loop-c-preserved : goal.loop-c-preserved
loop-c-preserved c = shown_more _ _ _ c.loop-c.yielded c.in-Some.c c.loop-c.invariant c.in_ok-push.ensures

pub returns : goal.returns
returns c =
    let done = YieldsList-end (YieldsList-from_chars c.args.text.now c.utf8.text cc) c.loop-c.yielded _ c.loop-c.yielded_by _ _ c.in-None.is c.next.ensures.steps in
    c.loop-c.invariant ∙ ap (λ w. c.args.page.now ++ all_shown w) (sym (map-id c.loop-c.yielded) ∙ done.0)
