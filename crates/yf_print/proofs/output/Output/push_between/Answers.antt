use Rattle.std.proofs.Common.{arith, map}
use Rattle.yf_comments.specs.Comment.{comment_value}
use Rattle.yf_print.specs.Passes.Drafts.{draft, line_column}
use Rattle.yf_print.specs.Passes.Pages.{work_on}
use Rattle.yf_print.specs.Passes.PrintWork.{remarks_of}
use Rattle.yf_print.proofs.Pass.DraftLemmas.{column_stays, own_on, own_end}
use Rattle.yf_print.proofs.output.Output.push_between.Goals as goal

pub loop-k-preserved : goal.loop-k-preserved
loop-k-preserved c = record {
  made = own_on (remarks_of (work_on c.args.page.now)) c.args.column c.args.page.now.plan.now.trails.is_trailing.items (line_column (remarks_of (work_on c.args.page.now)) c.args.column (draft c.args.self.now)) c.loop-k.k
      c.args.end c.args.comments.now _ c.is_trailing.result _ (draft c.loop-k.self) _ _ (omega arith) (omega arith)
      c.is_trailing.ensures c.in_ok-own.ensures c.loop-k.invariant.stays c.in_ok-push_own_line.ensures c.loop-k.invariant.made;
  stays = column_stays (remarks_of (work_on c.args.page.now)) c.args.column c.is_trailing.result _ _ (draft c.loop-k.self) _ (draft c.args.self.now) c.in_ok-push_own_line.ensures c.loop-k.invariant.stays;
}

pub returns : goal.returns
returns c =
    own_end c.args.page.now.plan.now.trails.is_trailing.items (line_column (remarks_of (work_on c.args.page.now)) c.args.column (draft c.args.self.now)) c.loop-k.k c.args.end (map comment_value c.args.comments.now) _ _ (omega arith) c.loop-k.invariant.made
