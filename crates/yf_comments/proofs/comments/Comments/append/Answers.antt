use Rattle.std.proofs.Common.{◌≡◌, List, [], ◌∷◌, ◌++◌, length, sym, append-nil, arith}
use Rattle.yf_comments.specs.Comment.{CommentValue}
use Rattle.yf_comments.proofs.comments.Comments.append.Goals as goal

with_none : (xs found : List CommentValue) → length found ≡ 0 → xs ≡ xs ++ found
with_none xs [] e = sym (append-nil xs)
with_none xs (c ∷ found) e = absurd (omega (arith, e))

pub returns-then-len-eq0 : goal.returns-then-len-eq0
returns-then-len-eq0 c = with_none _ _ (omega (arith, c.if-len-eq0.true, c.len.ensures))
