use Rattle.std.proofs.Common.{◌≡◌, map, drop}
use Rattle.yf_comments.specs.Comment.{comment_value}
use Rattle.yf_stream.proofs.Reader.PrefixLemmas.{KeptUpto}
use Rattle.yf_stream.proofs.between.keep_comments.Given as goal

abbrev pub invariant-loop-comment : goal.invariant-loop-comment
invariant-loop-comment l = record {
  kept : KeptUpto l.text l.floor l.comments l.initial.parts.part.comments l.parts.part.comments (map comment_value (drop l.comment-index l.comment-items));
  escapes : l.parts.part.escapes ≡ l.initial.parts.part.escapes;
  documents : l.parts.documents ≡ l.initial.parts.documents;
  events : l.parts.part.events ≡ l.initial.parts.part.events;
}
