use Rattle.std.proofs.Common.{◌≡◌, ◌+◌, ◌∙◌, length, ap, subst, sym, Some}
use Rattle.std.specs.Prelude.{slice_get}
use Rattle.yf_rule_sets.specs.RuleSets.Scalars.{BlockContent}
use Rattle.yf_rule_sets.proofs.Texts.BlockLemmas.{content_found, past_lines}
use Rattle.yf_rule_sets.proofs.facts.scalars.content_of.Goals as goal

pub returns-then-feeds-len : goal.returns-then-feeds-len
returns-then-feeds-len c =
    past_lines c.args.src.now.lines c.args.text.now c.as_bytes-bytes.result.now c.args.after c.count_from-feeds.result c.len.result c.as_bytes-bytes.ensures.value
    c.count_from-feeds.ensures (c.len.ensures.count ∙ ap (λ w. length w.lines) c.lines.ensures) c.if-feeds-len.true c.requires

pub returns : goal.returns
returns c =
    let v = c.args.src.now in
    let first = c.args.after + c.count_from-feeds.result in
    let e : slice_get v.lines first ≡ Some c.line.result = subst (λ w. slice_get w.lines first ≡ Some c.line.result) c.lines-2.ensures c.line.ensures.item in
    subst (λ m. BlockContent v.lines c.args.text.now c.args.after first m) (sym c.saturating_sub.ensures)
    (content_found v.lines c.args.text.now c.as_bytes-bytes.result.now c.args.after c.count_from-feeds.result c.count_from-spaces.result c.line.result
    c.as_bytes-bytes.ensures.value c.count_from-feeds.ensures c.if-feeds-bytes.false e c.count_from-spaces.ensures)
