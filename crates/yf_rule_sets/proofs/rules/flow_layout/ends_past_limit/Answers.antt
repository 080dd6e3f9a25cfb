use Rattle.std.proofs.Common.{◌∙◌, subst, sym, true≢false}
use Rattle.yf_lines.specs.Lines.{PlaceOf}
use Rattle.yf_rule_sets.specs.RuleSets.Layouts.EndsPastLimit.{follows}
use Rattle.yf_rule_sets.proofs.RuleSets.DisplacedLemmas.{in_time, no_place}
use Rattle.yf_rule_sets.proofs.rules.flow_layout.ends_past_limit.Goals as goal

pub returns-then-place-style : goal.returns-then-place-style
returns-then-place-style c =
    follows (subst (λ o. PlaceOf c.args.src.now.text o c.place.result.line c.place.result.column) c.saturating_sub-at.ensures c.place.ensures.place) c.if-place-style.true

pub returns-else-place-style : goal.returns-else-place-style
returns-else-place-style c =
    in_time c.args.src.now c.args.style.now.max_line c.args.end c.place.result c.saturating_sub-at.ensures c.place.ensures.only c.if-place-style.false

pub returns-else-is_char_boundary : goal.returns-else-is_char_boundary
returns-else-is_char_boundary c =
    no_place c.args.src.now c.args.style.now.max_line c.args.end c.text.result.now c.text.ensures c.text.utf8
    (λ b. true≢false (sym (c.is_char_boundary.ensures.test.1 b) ∙ c.if-is_char_boundary.false)) c.saturating_sub-at.ensures c.args.style.now.max_line_from
