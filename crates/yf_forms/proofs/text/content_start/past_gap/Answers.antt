use Rattle.yf_forms.proofs.Texts.GapLemmas.{gap_ends, gap_runs_out}
use Rattle.yf_forms.proofs.text.content_start.past_gap.Goals as goal

pub returns-in-None : goal.returns-in-None
returns-in-None c =
    gap_ends c.args.text.now c.as_bytes-bytes.result.now c.args.end c.min-stop.result c.loop-i.i c.args.at c.loop-i.in_comment c.as_bytes-bytes.ensures.value
    c.min-stop.ensures c.loop-i-test.true c.loop-i.invariant c.in-None.ensures

pub returns : goal.returns
returns c =
    gap_runs_out c.args.text.now c.as_bytes-bytes.result.now c.args.end c.min-stop.result c.loop-i.i c.args.at c.max.result c.loop-i.in_comment
    c.as_bytes-bytes.ensures.value c.min-stop.ensures c.loop-i-test.false c.loop-i.auto.i c.loop-i.auto.i-end c.loop-i.invariant c.max.ensures
