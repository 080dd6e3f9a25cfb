use Rattle.std.proofs.Common.{◌≡◌, ℕ, List, false, pos, ◌-◌, ◌<◌, ◌≤◌, length, take, MatchOption, MatchBool}
use Rattle.std.specs.Str.{IsCharBoundary}
use Rattle.yf_chars.specs.Chain.{Chain, Chosen, Many, Stuck}
use Rattle.yf_chars.specs.Class.{is_white}
use Rattle.yf_chars.specs.Text.{code}
use Rattle.yf_lines.specs.Basic.{LineStart}
use Rattle.yf_comments.specs.Comments.{Row, Upto}
use Rattle.yf_comments.proofs.separation.last_reach.Given as goal

abbrev pub invariant-rows : goal.invariant-rows
invariant-rows l = record {
  rows : Chain (Row l.s) l.at l.place l.comments;
  boundary : IsCharBoundary l.s l.place;
  end : IsCharBoundary l.s l.end;
  whites : (x : List ℕ) × Many l.s is_white l.place l.end x;
  all : is_white (code l.s l.end) ≡ false;
  starts : l.place < length l.s → MatchBool l.starts (LineStart l.s l.place) (LineStart l.s l.place → ⊥);
  best : MatchOption l.reach (Stuck (Upto l.s (pos l.width) l.at l.place))
      (λ r. Chosen (Upto l.s (pos l.width) l.at l.place) r.end (take r.count l.comments) × (r.count ≤ length l.comments) × IsCharBoundary l.s r.end);
}

abbrev pub decreases-rows : goal.decreases-rows
decreases-rows l = length l.s - l.place
