use Rattle.std.proofs.Common.{arith, map}
use Rattle.std.specs.Prelude.{reverse}
use Rattle.yf_comments.specs.Comment.{comment_value}
use Rattle.yf_events.specs.Event.{event_value}
use Rattle.yf_forms.specs.Nodes.FlowsAlone.{flows_alone}
use Rattle.yf_forms.specs.Passes.MeasurePass.{setting}
use Rattle.yf_forms.proofs.Measure.FlowParts.{next_bound, depth_on, seen_length, seen_with}
use Rattle.yf_forms.proofs.Measure.StepLemmas.{at_last, runs_on, texts_on}
use Rattle.yf_forms.proofs.form.measure_flows.measured_flows.Goals as goal

pub loop-i-preserved : goal.loop-i-preserved
loop-i-preserved c =
    let es = c.args.reading.now.events in
    let alone = flows_alone 0 es in
    let v = event_value c.event.result in
    let at = seen_with es c.loop-i.depth c.loop-i.i v c.span-span.result c.loop-i.invariant.depth c.event.ensures c.span-span.ensures in
    let now = c.in_ok-depth.ensures in
    let l = next_bound c.loop-i.depth c.in_ok-depth.depth v now.depth in
    let m = c.loop-i.invariant.bound in record {
      depth = depth_on es c.loop-i.depth c.in_ok-depth.depth c.loop-i.i v c.loop-i.invariant.depth c.event.ensures now.depth;
      bound = omega (arith, l, m);
      runs = λ s. runs_on c.args.text.now (setting c.args.style.now (map comment_value c.args.comments.now)) alone c.loop-i.i _ _
          c.loop-i.list c.pass_seen.new.list (reverse c.loop-i.stack.items) (reverse c.pass_seen.new.stack.items) at.0 at.1
          (c.loop-i.invariant.runs s) (now.passed s (c.loop-i.invariant.runs s).0);
      texts = texts_on alone c.loop-i.i _ _ at.0 at.1 c.loop-i.invariant.texts now.utf8;
    }

pub returns : goal.returns
returns c = λ s.
    let long = seen_length 0 c.args.reading.now.events in
    at_last c.args.text.now (setting c.args.style.now (map comment_value c.args.comments.now)) (flows_alone 0 c.args.reading.now.events) c.loop-i.i
    c.loop-i.list (reverse c.loop-i.stack.items) (omega (arith, long, c.len-i-end.ensures, c.loop-i-test.false)) c.loop-i.invariant.texts
    (c.loop-i.invariant.runs s)
