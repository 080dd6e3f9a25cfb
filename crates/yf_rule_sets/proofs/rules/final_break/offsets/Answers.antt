use Rattle.std.proofs.Common.{sym, subst}
use Rattle.std.specs.Option.{option_to_list}
use Rattle.std.proofs.lemmas.Result.{IfOk-weaker}
use Rattle.yf_rule_sets.specs.Sets.{WithoutFinalBreak}
use Rattle.yf_rule_sets.proofs.rules.final_break.offsets.Goals as goal

pub returns : goal.returns
returns c =
    let t = c.args.src.now.text in
    IfOk-weaker _ _ _ (λ offsets e. subst (λ os. WithoutFinalBreak t os) (sym e)
    (subst (λ u. WithoutFinalBreak u (option_to_list c.open_end.result)) c.text.ensures c.open_end.ensures))
    c.listed.ensures
