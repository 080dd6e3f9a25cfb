-- No document so far has the URI.
use Rattle.std.proofs.Common.{◌≡◌, ◌≤◌, ◌-◌, length, take, None}
use Rattle.yf_server.specs.Documents.{find}
use Rattle.yf_server.proofs.documents.place_of.Given as goal

abbrev pub invariant-loop-at : goal.invariant-loop-at
invariant-loop-at l = record {
  bound : l.at ≤ length l.documents;
  before : find l.uri (take l.at l.documents) ≡ None;
}

abbrev pub decreases-loop-at : goal.decreases-loop-at
decreases-loop-at l = length l.documents - l.at
