use Rattle.yf_lines.specs.Basic.{LineStart}
use Rattle.yf_lines.proofs.basic.is_line_start.Given as goal

abbrev pub invariant-loop-start : goal.invariant-loop-start
invariant-loop-start l = record {
  there : LineStart l.s l.start → LineStart l.s l.at;
  back : LineStart l.s l.at → LineStart l.s l.start;
}

abbrev pub decreases-loop-start : goal.decreases-loop-start
decreases-loop-start l = l.start
