use Rattle.std.proofs.Common.{◌≡◌, ◌≤◌, ◌-◌, List, ℕ, length}
use Rattle.std.specs.Str.{IsCharBoundary}
use Rattle.yf_chars.specs.Chain.{Many}
use Rattle.yf_lines.specs.Lines.{is_char}
use Rattle.yf_rule_sets.proofs.rules.line_length.after_chars.Given as goal

abbrev pub invariant-loop-passed : goal.invariant-loop-passed
invariant-loop-passed l = record {
  run : (x : List ℕ) × Many l.text is_char l.start l.at x × (length x ≡ l.passed);
  boundary : IsCharBoundary l.text l.at;
  within : l.passed ≤ l.count;
}

abbrev pub decreases-loop-passed : goal.decreases-loop-passed
decreases-loop-passed l = l.count - l.passed
