use Rattle.std.proofs.Common.{◌≡◌, ◌-◌, length}
use Rattle.yf_chars.specs.Boundary.{BoundaryFrom}
use Rattle.yf_stream.specs.DocumentReaders.{PrefixUpto}
use Rattle.yf_stream.proofs.between.skip_prefix.Given as goal

abbrev pub invariant-lines : goal.invariant-lines
invariant-lines l = record {
  read : PrefixUpto l.text l.cursor.floor l.cursor.at l.at l.initial.parts.part.comments l.parts.part.comments;
  place : BoundaryFrom l.text l.cursor.at l.at;
  escapes : l.parts.part.escapes ≡ l.initial.parts.part.escapes;
  documents : l.parts.documents ≡ l.initial.parts.documents;
  events : l.parts.part.events ≡ l.initial.parts.part.events;
}

abbrev pub decreases-lines : goal.decreases-lines
decreases-lines l = length l.text - l.at
