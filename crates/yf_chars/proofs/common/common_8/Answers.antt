use Rattle.std.proofs.Common.{arith}
use Rattle.std.proofs.lemmas.Bool.{eqb-true, eqb-false}
use Rattle.yf_chars.proofs.CommonLanes.{common_lanes, has_quote, has_backslash, has_high}
use Rattle.yf_chars.proofs.common.common_8.Goals as goal

pub returns-then-lanes-ne0 : goal.returns-then-lanes-ne0
returns-then-lanes-ne0 c = has_quote c.args.text.now c.args.at 8 c.requires (omega arith) c.if-lanes-ne0.true

pub returns-then-lanes-ne0-2 : goal.returns-then-lanes-ne0-2
returns-then-lanes-ne0-2 c = has_backslash c.args.text.now c.args.at 8 c.requires (omega arith) c.if-lanes-ne0-2.true

pub returns-then-lanes-ne0-3 : goal.returns-then-lanes-ne0-3
returns-then-lanes-ne0-3 c = has_high c.args.text.now c.args.at 8 c.requires (omega arith) c.if-lanes-ne0-3.true

pub returns : goal.returns
returns c =
    common_lanes c.args.text.now c.args.at 8 c.requires (omega arith) c.if-lanes-ne0.false c.if-lanes-ne0-2.false c.if-lanes-ne0-3.false _ (λ e. eqb-true _ 0 e)
    (λ e. eqb-false _ 0 e)
