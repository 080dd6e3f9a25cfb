use Rattle.std.proofs.Common.{◌≡◌, ◌-◌, ◌<◌, ℕ, List, false, length}
use Rattle.std.specs.Str.{IsCharBoundary}
use Rattle.yf_chars.specs.Chain.{Many}
use Rattle.yf_chars.specs.Class.{is_white}
use Rattle.yf_chars.specs.Text.{code}
use Rattle.yf_lines.specs.Basic.{LineStart}
use Rattle.yf_comments.specs.Comments.{RowsKept}
use Rattle.yf_comments.proofs.lines.comment_lines.Given as goal

abbrev pub invariant-lines : goal.invariant-lines
invariant-lines l = record {
  rows : RowsKept l.s l.at l.end l.initial.comments l.comments;
  boundary : IsCharBoundary l.s l.end;
  starts : l.end < length l.s → LineStart l.s l.end;
  place : IsCharBoundary l.s l.place;
  whites : (x : List ℕ) × Many l.s is_white l.end l.place x;
  all : is_white (code l.s l.place) ≡ false;
}

abbrev pub decreases-lines : goal.decreases-lines
decreases-lines l = length l.s - l.end
