use Rattle.std.proofs.Common.{◌≡◌, map}
use Rattle.yf_comments.specs.Comment.{CommentValue, comment_value}
use Rattle.yf_print.specs.Passes.Drafts.{between, draft, line_column, own_lines}
use Rattle.yf_print.specs.Passes.Pages.{work_on}
use Rattle.yf_print.specs.Passes.PrintWork.{remarks_of}
use Rattle.yf_print.proofs.output.Output.push_between.Given as goal

abbrev pub invariant-loop-k : goal.invariant-loop-k
invariant-loop-k l = record {
  made : own_lines (work_on l.page).trailing (line_column (remarks_of (work_on l.page)) l.column (draft l.initial.self)) l.k (between l.k l.end (map comment_value l.comments)) (draft l.self)
      ≡ own_lines (work_on l.page).trailing (line_column (remarks_of (work_on l.page)) l.column (draft l.initial.self)) l.first (between l.first l.end (map comment_value l.comments)) (draft l.initial.self);
  stays : (c : CommentValue) → line_column (remarks_of (work_on l.page)) l.column (draft l.self) c ≡ line_column (remarks_of (work_on l.page)) l.column (draft l.initial.self) c;
}
