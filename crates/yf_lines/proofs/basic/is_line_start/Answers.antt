use Rattle.std.proofs.Common.{sym, subst}
use Rattle.yf_lines.specs.Basic.{LineStart}
use Rattle.yf_lines.specs.Basic.LineStart.{at_text}
use Rattle.yf_lines.proofs.BasicLemmas.{start_before_mark, start_past_mark, match_start}
use Rattle.yf_lines.proofs.basic.is_line_start.Goals as goal

pub loop-start-preserved : goal.loop-start-preserved
loop-start-preserved c =
    let m = c.loop-start-test.ensures in
    record {
      there = λ s. c.loop-start.invariant.there (start_past_mark c.args.s.now c.loop-start.start m.0 m.1 s);
      back = λ s. start_before_mark c.args.s.now c.loop-start.start c.utf8.s m.0 m.1 (c.loop-start.invariant.back s);
    }

pub returns-then-start-eq0 : goal.returns-then-start-eq0
returns-then-start-eq0 c = c.loop-start.invariant.there (subst (λ k. LineStart c.args.s.now k) (sym c.if-start-eq0.true) at_text)

pub returns : goal.returns
returns c =
    match_start c.args.s.now c.loop-start.start c.args.at c.break_ends.result c.break_ends.ensures
    c.loop-start.invariant.there c.loop-start.invariant.back c.if-start-eq0.false c.loop-start-test.ensures
