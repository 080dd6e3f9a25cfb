-- The line before the hunk and the step.
use Rattle.std.proofs.Common.{◌≡◌, ◌++◌, sym, ◌∙◌, drop}
use Rattle.std.proofs.lemmas.Result.{IfOk-weaker}
use Rattle.yf_diff.specs.Unified.{edit_text, text_at}
use Rattle.yf_diff.proofs.HunkLemmas.{text_shown}
use Rattle.yf_diff.proofs.hunks.push_at.Goals as goal

pub returns : goal.returns
returns c = IfOk-weaker c.push_step.result (λ _. c.push_step.new.out.items ≡ c.push_head.new.out.items ++ edit_text c.index-steps-at.result) (λ _. c.push_step.new.out.items ≡ c.args.out.now.items ++ text_at c.args.steps.now c.args.at c.args.old_before c.args.new_before (drop c.args.at c.args.steps.now))
    (λ _ e. text_shown c.args.out.now.items c.push_head.new.out.items c.push_step.new.out.items c.args.steps.now c.args.at c.args.old_before c.args.new_before c.index-steps-at.result c.requires.inside (sym c.is_written.ensures ∙ c.if-not-is_written.false) c.index-steps-at.is c.in_ok-push_head.ensures e)
    c.push_step.ensures
