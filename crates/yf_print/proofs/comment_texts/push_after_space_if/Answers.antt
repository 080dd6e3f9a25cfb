use Rattle.std.proofs.Common.{◌≡◌, ◌++◌, subst}
use Rattle.std.specs.Prelude.{OnOk}
use Rattle.std.specs.String.{string_bytes}
use Rattle.yf_print.proofs.Pass.DraftLemmas.{after_some}
use Rattle.yf_print.proofs.comment_texts.push_after_space_if.Goals as goal

pub returns-then-k-comments : goal.returns-then-k-comments
returns-then-k-comments c =
    subst (λ w. OnOk c.push_after_space.result (string_bytes c.push_after_space.new.out ≡ string_bytes c.args.out.now ++ w))
    (after_some c.args.comments.now c.args.k c.in-Some.k _ c.in-Some.is c.if-k-comments.true) c.push_after_space.ensures
