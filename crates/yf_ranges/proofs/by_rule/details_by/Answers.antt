use Rattle.std.proofs.Common.{◌<◌, ◌∙◌, length, subst, arith}
use Rattle.std.proofs.lemmas.Grind.{get_or_default_zero}
use Rattle.std.specs.Str.{IsUtf8}
use Rattle.yf_lines.specs.Lines.{AreLines}
use Rattle.yf_ranges.specs.Details.{IsDetailOf}
use Rattle.yf_ranges.proofs.GatherLemmas.{all_gathered, none_gathered, step_gathered}
use Rattle.yf_ranges.proofs.by_rule.details_by.Goals as goal

pub loop-k-init : goal.loop-k-init
loop-k-init c = none_gathered _ _ c.in_ok-offsets.offsets.items c.new-details.result.items c.new-details.ensures.items

pub loop-k-preserved : goal.loop-k-preserved
loop-k-preserved c =
    let os = c.in_ok-offsets.offsets.items in
    let end = c.len-k-end.ensures in
    let within : c.loop-k.k < length os = omega (arith, end, c.loop-k-test.true) in
    step_gathered c.args.rule c.args.src.now.text c.args.style.now os c.loop-k.k c.loop-k.details.items _ c.known_detail.result
    within c.loop-k.invariant
    (subst (λ o. IsDetailOf c.args.rule c.args.src.now.text c.args.style.now o c.known_detail.result)
    (c.index.ensures ∙ get_or_default_zero os c.loop-k.k c.index.result.now within)
    (subst (λ t. IsDetailOf c.args.rule t c.args.style.now c.index.result.now c.known_detail.result) c.text-text.ensures c.known_detail.ensures))
    c.in_ok-push_found.ensures

pub returns : goal.returns
returns c =
    let end = c.len-k-end.ensures in
    all_gathered c.args.rule c.args.src.now c.args.reading.now c.args.style.now c.in_ok-offsets.offsets.items c.loop-k.k c.loop-k.details.items
    (subst IsUtf8 c.text-text.ensures c.text-text.utf8) (subst (λ s. AreLines s.text s.lines) c.lines.ensures c.len-count.ensures.lines)
    c.in_ok-offsets.ensures (omega (arith, end, c.loop-k-test.false)) c.loop-k.invariant
