use Rattle.std.proofs.Common.{sym, ◌∙◌}
use Rattle.yf_types.specs.OlderSchema.{sixty}
use Rattle.yf_types.proofs.SixtyRuns.{parts_after, passes_now}
use Rattle.yf_types.proofs.sixties.SixtiesTest.passes.Goals as goal

pub returns-then-passes : goal.returns-then-passes
returns-then-passes g c =
    sym (passes_now sixty g.K.Test.test c.parts.rest.now (sym c.passes.ensures ∙ c.if-passes.true)) ∙ c.parts.invariant

pub parts-preserved : goal.parts-preserved
parts-preserved g c =
    sym (parts_after g.K.Test.test g.met.K.NoDigit.no_digit c.parts.rest.now c.in-Some.others.now
    (sym c.passes.ensures ∙ c.if-passes.false) c.in-Some.ensures)
    ∙ c.parts.invariant
