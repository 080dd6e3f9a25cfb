use Rattle.std.proofs.Common.{◌≡◌, ◌++◌, ◌-◌, ◌∙◌, ap, arith, replicate, sym}
use Rattle.std.specs.String.{string_bytes}
use Rattle.yf_forms.specs.Nodes.BlockLines.{final_feeds}
use Rattle.yf_forms.proofs.Texts.BlockLemmas.{empty_lines}
use Rattle.yf_forms.proofs.text.block.push_tail.Goals as goal

pub returns : goal.returns
returns c =
    let feeds : c.loop-done._done ≡ final_feeds c.args.text.now - 1 = omega arith in
    c.loop-done.invariant ∙ ap (λ n. string_bytes c.args.out.now ++ replicate n 10) feeds
    ∙ ap (λ w. string_bytes c.args.out.now ++ w) (sym (empty_lines c.args.column (final_feeds c.args.text.now - 1)))
