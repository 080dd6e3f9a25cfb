use Rattle.std.proofs.Common.{◌-◌, length}
use Rattle.yf_chars.specs.Boundary.{BoundaryFrom}
use Rattle.yf_stream.specs.DirectiveReaders.{DirectivesUpto}
use Rattle.yf_stream.proofs.directives.read_directives.Given as goal

abbrev pub invariant-directives : goal.invariant-directives
invariant-directives l = record {
  read : DirectivesUpto l.text l.at l.end l.directives l.initial.comments l.comments;
  place : BoundaryFrom l.text l.at l.end;
}

abbrev pub decreases-directives : goal.decreases-directives
decreases-directives l = length l.text - l.end
