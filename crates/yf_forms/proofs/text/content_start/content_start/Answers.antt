use Rattle.std.proofs.Common.{refl, sym, ◌∙◌}
use Rattle.std.proofs.lemmas.Bool.{ne_eqb}
use Rattle.yf_forms.specs.Nodes.ContentStart.{content_start}
use Rattle.yf_forms.proofs.text.content_start.content_start.Goals as goal

pub returns-then-len-eq0 : goal.returns-then-len-eq0
unfolding content_start
returns-then-len-eq0 c = let e = sym c.property_len-len.ensures.len ∙ c.if-len-eq0.true in rw e refl

pub returns : goal.returns
unfolding content_start
returns c = rw (sym c.property_len-len.ensures.len, ne_eqb c.property_len-len.result 0 c.if-len-eq0.false, sym c.past_gap-between.ensures) c.past_second.ensures
