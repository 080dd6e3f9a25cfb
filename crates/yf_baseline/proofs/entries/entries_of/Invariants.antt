-- The findings so far have their entries, and their marks are counted.
use Rattle.yf_baseline.proofs.EntryLemmas.{SoFar}
use Rattle.yf_baseline.proofs.entries.entries_of.Given as goal

abbrev pub invariant-loop-finding : goal.invariant-loop-finding
invariant-loop-finding l = SoFar l.file l.found.items l.counts l.finding-index l.findings
