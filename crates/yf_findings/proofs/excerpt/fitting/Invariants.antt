use Rattle.std.proofs.Common.{◌≡◌, ◌+◌, ◌-◌, ◌≤◌, drop, take}
use Rattle.yf_explain.specs.Shown.{columns}
use Rattle.yf_findings.specs.Excerpt.{fitting}
use Rattle.yf_findings.proofs.excerpt.fitting.Given as goal

abbrev pub invariant-loop-c : goal.invariant-loop-c
invariant-loop-c l = record {
  index : l.count ≡ l.c-index;
  columns : l.columns ≡ columns (take l.c-index l.line);
  room : l.columns ≤ l.most;
  front : l.count + fitting (l.most - l.columns) (drop l.c-index l.line) ≡ fitting l.most l.line;
}
