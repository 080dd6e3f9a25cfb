use Rattle.std.proofs.Common.{arith, get_or, map}
use Rattle.std.specs.Prelude.{reverse}
use Rattle.yf_comments.specs.Comment.{comment_value}
use Rattle.yf_forms.specs.Passes.MeasurePass.{setting}
use Rattle.yf_forms.proofs.Measure.StepLemmas.{at_last, no_place, runs_on, texts_on, there}
use Rattle.yf_forms.proofs.form.measure.measured.Goals as goal

pub loop-i-preserved : goal.loop-i-preserved
loop-i-preserved c =
    let es = c.args.reading.now.events in
    let at = there es c.loop-i.i (omega (arith, c.len-i-end.ensures, c.loop-i-test.true)) in
    let e = get_or es c.loop-i.i no_place in (
      λ s. runs_on c.args.text.now (setting c.args.style.now (map comment_value c.args.comments.now)) es c.loop-i.i e.event e.span
          c.loop-i.list c.pass_at.new.list (reverse c.loop-i.stack.items) (reverse c.pass_at.new.stack.items) at.0 at.1
          (c.loop-i.invariant.0 s) (c.in_ok-pass_at.ensures.passed e.event e.span at.0 at.1 s (c.loop-i.invariant.0 s).0),
      texts_on es c.loop-i.i e.event e.span at.0 at.1 c.loop-i.invariant.1 (c.in_ok-pass_at.ensures.utf8 e.event at.0),
    )

pub returns : goal.returns
returns c = λ s.
    at_last c.args.text.now (setting c.args.style.now (map comment_value c.args.comments.now)) c.args.reading.now.events c.loop-i.i c.loop-i.list
    (reverse c.loop-i.stack.items) (omega (arith, c.len-i-end.ensures, c.loop-i-test.false)) c.loop-i.invariant.1 (c.loop-i.invariant.0 s)
