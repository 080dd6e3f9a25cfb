use Rattle.std.proofs.lemmas.Result.{IfOk-weaker}
use Rattle.yf_explain.proofs.PageLemmas.{then_more}
use Rattle.yf_explain.proofs.page.Page.push_digits.Goals as goal

pub returns : goal.returns
returns c = then_more c.push_visible-2.result _ _ _ _ _ _ _ c.in_ok-push_visible.ensures c.digit.ensures.digit c.digit-2.ensures.digit c.push_visible-2.ensures
