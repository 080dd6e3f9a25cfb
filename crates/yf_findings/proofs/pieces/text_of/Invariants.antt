use Rattle.std.proofs.Common.{◌≡◌, ◌++◌, drop, take}
use Rattle.std.specs.Prelude.{false}
use Rattle.std.specs.Str.{chars}
use Rattle.std.specs.String.{string_bytes}
use Rattle.yf_explain.specs.Shown.{AreWritten}
use Rattle.yf_findings.specs.Pieces.{all_painted}
use Rattle.yf_findings.proofs.pieces.text_of.Given as goal

abbrev pub invariant-loop-piece : goal.invariant-loop-piece
invariant-loop-piece l = record {
  text : chars (string_bytes l.out) ++ all_painted l.colored (drop l.piece-index l.pieces) ≡ all_painted l.colored l.pieces;
  written : AreWritten (all_painted false (take l.piece-index l.pieces));
}
