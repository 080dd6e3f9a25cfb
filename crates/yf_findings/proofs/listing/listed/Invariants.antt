use Rattle.std.proofs.Common.{take}
use Rattle.yf_events.specs.declared.lists.Lists.{Lists}
use Rattle.yf_findings.specs.Problems.{EachProblem, FindingProblem}
use Rattle.yf_ranges.specs.Known.{AreKnown}
use Rattle.yf_rule_sets.specs.RuleSets.Places.{IsCursor}
use Rattle.yf_findings.proofs.listing.listed.Given as goal

abbrev pub invariant-loop-finding : goal.invariant-loop-finding
invariant-loop-finding l = record {
  problems : (reading : Lists) → AreKnown l.src reading l.style l.known
      → EachProblem (FindingProblem l.src reading l.style) (take l.finding-index l.findings) l.problems.items;
  cursor : IsCursor l.src.text l.src.lines l.cursor;
}
