use Rattle.std.proofs.Common.{◌≡◌, ◌≤◌, ◌∙◌, ap, arith, length}
use Rattle.yf_print.specs.Passes.TrailPass.{all_found, ended, first_of, found, given, state}
use Rattle.yf_print.proofs.Pass.TrailLemmas.{passed_on, passed_end, settled_at}
use Rattle.yf_print.proofs.trails.find_trails.Goals as goal

pub loop-i-preserved : goal.loop-i-preserved
loop-i-preserved c =
    passed_on c.args.reading.now c.args.measures.now c.loop-i.i c.args.reading.now.events c.span.result _ _ _ c.span.ensures c.in_ok-last.ensures
    c.loop-i.invariant

found_is : (c : goal.In_ok-close) → found c.close.new.trails ≡ all_found c.args.reading.now c.args.measures.now c.args.forms.now
found_is c =
    let past : length c.args.reading.now.events ≤ c.loop-i.i = omega arith in
    c.in_ok-close.ensures
    ∙ (ap (λ n. given c.args.reading.now c.loop-i.last n (found c.loop-i.trails)) c.comment_count-count.ensures
    ∙ ap (ended c.args.reading.now)
    (passed_end c.args.reading.now c.args.measures.now c.loop-i.i c.args.reading.now.events (state (found c.loop-i.trails) c.loop-i.last) _ past c.loop-i.invariant))

pub returns-then-count-first_of : goal.returns-then-count-first_of
returns-then-count-first_of c =
    let none_left : length c.args.reading.now.comments ≤ first_of c.loop-i.last = omega arith in
    settled_at c.args.reading.now c.args.measures.now c.args.forms.now c.loop-i.i (found c.loop-i.trails) c.loop-i.last none_left c.loop-i.invariant

pub returns : goal.returns
returns c = found_is c
