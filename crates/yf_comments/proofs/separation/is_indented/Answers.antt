use Rattle.std.proofs.Common.{◌≡◌, ◌+◌, ◌-◌, refl, ap, sym, ◌∙◌, arith}
use Rattle.yf_chars.specs.Text.{code}
use Rattle.yf_comments.proofs.SeparateLemmas.{no_prefix, fewer_spaces}
use Rattle.yf_comments.proofs.separation.is_indented.Goals as goal

pub returns-then-spaces-at : goal.returns-then-spaces-at
returns-then-spaces-at c =
    let end = c.skip_spaces-spaces.result in
    let same : c.args.at + (end - c.args.at) ≡ end = omega (arith, c.skip_spaces-spaces.ensures.order) in
    no_prefix c.args.width (end - c.args.at) refl c.if-spaces-at.true
    (λ e. c.skip_spaces-spaces.ensures.all (ap (code c.args.s.now) (sym same) ∙ e))

pub returns : goal.returns
returns c = fewer_spaces c.args.width c.if-spaces-at.false c.skip_spaces-spaces.ensures.spaces
