use Rattle.std.proofs.Common.{sym, ◌∙◌, ap, ◌++◌}
use Rattle.std.specs.String.{string_bytes}
use Rattle.yf_chars.proofs.CommonLemmas.{common_text}
use Rattle.yf_quoted.proofs.write.push_spelled.Goals as goal

pub returns-then-are_common-clause-written : goal.returns-then-are_common-clause-written
returns-then-are_common-clause-written c =
    c.in_ok-push_str.ensures.bytes ∙ ap (λ w. string_bytes c.args.out.now ++ w) (sym (common_text c.args.text.now (c.are_common.ensures.common c.if-are_common.true)))
