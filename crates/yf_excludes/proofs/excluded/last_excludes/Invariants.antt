use Rattle.std.proofs.Common.{◌-◌, length, drop}
use Rattle.yf_excludes.specs.Excluded.{NoneMatches}
use Rattle.yf_excludes.proofs.excluded.last_excludes.Given as goal

abbrev pub invariant-loop-n : goal.invariant-loop-n
invariant-loop-n l = NoneMatches l.path l.is_folder (drop (length l.patterns - l.n) l.patterns)
