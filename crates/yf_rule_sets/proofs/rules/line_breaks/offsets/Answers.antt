use Rattle.std.proofs.Common.{◌≡◌, sym, ◌∙◌}
use Rattle.std.specs.Option.{option_to_list}
use Rattle.std.proofs.lemmas.Result.{IfOk-weaker}
use Rattle.yf_rule_sets.specs.Sets.{first_return}
use Rattle.yf_rule_sets.proofs.rules.line_breaks.offsets.Goals as goal

pub returns : goal.returns
returns c =
    let xs = first_return c.args.src.now.text c.args.src.now.lines in
    IfOk-weaker c.listed.result (λ l. l.items ≡ option_to_list c.first_return.result) (λ l. l.items ≡ xs) (λ l e. e ∙ sym c.first_return.ensures) c.listed.ensures
