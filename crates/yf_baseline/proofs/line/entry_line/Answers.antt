use Rattle.std.proofs.Common.{ap, ◌∙◌}
use Rattle.yf_baseline.proofs.LineTextLemmas.{line_written}
use Rattle.yf_baseline.proofs.line.entry_line.Goals as goal

pub returns : goal.returns
returns c =
    ap (λ v. v.items) c.in-Ok.ensures.ok
    ∙ line_written c.args.entry.now c.new-out.result c.write_entry.new.out c.into_inner.result.items
    (c.new-out.ensures.before ∙ c.new.ensures.items) c.new-out.ensures.tokens c.in_ok-write_entry.ensures
    c.into_inner.ensures.items
