use Rattle.yf_explain.proofs.PageLemmas.{none_there, none_written}
use Rattle.yf_explain.proofs.page.Page.new.Goals as goal

pub invariant_of-result : goal.invariant_of-result
invariant_of-result c = none_written _ c.new.ensures.bytes

pub returns : goal.returns
returns c = none_there _ c.new.ensures.bytes
