use Rattle.std.proofs.Common.{sym}
use Rattle.std.proofs.lemmas.List.{take-map}
use Rattle.yf_comments.specs.Comment.{comment_value}
use Rattle.yf_comments.proofs.comments.Comments.truncate.Goals as goal

pub returns : goal.returns
returns c = rw (c.truncate.ensures.items, ← c.self.view_is) (sym (take-map comment_value c.args.count c.self.inside.list.items))
