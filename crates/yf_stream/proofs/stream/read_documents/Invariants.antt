use Rattle.std.proofs.Common.{◌-◌, ◌≤◌, ◌^◌, length}
use Rattle.std.specs.Str.{IsCharBoundary}
use Rattle.yf_stream.specs.PartsPlaces.{PartsAt}
use Rattle.yf_stream.proofs.BlankNotes.CommentsSteps.{ReadSoFar}
use Rattle.yf_stream.proofs.stream.read_documents.Given as goal

abbrev pub invariant-documents : goal.invariant-documents
invariant-documents l = record {
  place : IsCharBoundary l.text l.cursor.at;
  reached : IsCharBoundary l.text l.cursor.reached;
  parts : PartsAt l.text l.parts;
  derived : length l.text ≤ 2 ^ 30 → ReadSoFar l.text l.cursor l.parts;
}

abbrev pub decreases-documents : goal.decreases-documents
decreases-documents l = length l.text - l.cursor.at
