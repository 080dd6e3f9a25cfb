use Rattle.std.proofs.Common.{◌-◌, ◌≤◌, length}
use Rattle.yf_stream.proofs.TagPass.PassLemmas.{Resolving}
use Rattle.yf_stream.proofs.resolve.resolve.Given as goal

abbrev pub invariant-documents : goal.invariant-documents
invariant-documents l = record {
  resolving : Resolving l.documents l.events l.escapes l.begun l.at l.resolved.first l.resolved.tags;
  later : l.begun ≤ l.at;
  within : l.at ≤ length l.events;
}

abbrev pub decreases-documents : goal.decreases-documents
decreases-documents l = length l.events - l.at
