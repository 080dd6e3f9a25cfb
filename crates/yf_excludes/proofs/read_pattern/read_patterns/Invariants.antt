use Rattle.yf_excludes.proofs.PatternLemmas.{PatternsSoFar}
use Rattle.yf_excludes.proofs.read_pattern.read_patterns.Given as goal

abbrev pub invariant-loop-n : goal.invariant-loop-n
invariant-loop-n l = PatternsSoFar l.texts l.patterns.items l.n
