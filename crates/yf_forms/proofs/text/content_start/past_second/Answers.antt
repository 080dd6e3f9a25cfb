use Rattle.std.proofs.Common.{refl, sym, ◌∙◌}
use Rattle.std.proofs.lemmas.Bool.{ne_eqb}
use Rattle.yf_forms.specs.Nodes.ContentStart.{past_second}
use Rattle.yf_forms.proofs.text.content_start.past_second.Goals as goal

pub returns-then-len-eq0 : goal.returns-then-len-eq0
unfolding past_second
returns-then-len-eq0 c = let e = sym c.property_len-len.ensures.len ∙ c.if-len-eq0.true in rw e refl

pub returns : goal.returns
unfolding past_second
returns c = rw (sym c.property_len-len.ensures.len, ne_eqb c.property_len-len.result 0 c.if-len-eq0.false) c.past_gap.ensures
