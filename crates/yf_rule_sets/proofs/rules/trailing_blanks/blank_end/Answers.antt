use Rattle.std.proofs.Common.{◌≡◌, Some, subst}
use Rattle.std.specs.Prelude.{slice_get}
use Rattle.yf_rule_sets.specs.RuleSets.Whites.{WhitesEnd}
use Rattle.yf_rule_sets.proofs.Texts.LastLemmas.{text_no_blank_end}
use Rattle.yf_rule_sets.proofs.RuleSets.TrailingLemmas.{blank_found, blank_none, content_has_none}
use Rattle.yf_rule_sets.proofs.rules.trailing_blanks.blank_end.Goals as goal

pub returns-then-is_content : goal.returns-then-is_content
returns-then-is_content c = content_has_none c.args.src.now c.args.k c.args.is_content c.if-is_content.true

pub returns-then-ends_in_text : goal.returns-then-ends_in_text
returns-then-ends_in_text c = text_no_blank_end c.args.src.now c.args.k c.args.is_content (c.ends_in_text.ensures c.if-ends_in_text.true)

pub returns-then-at-line : goal.returns-then-at-line
returns-then-at-line c =
    let v = c.args.src.now in
    let l = c.line-line.result in
    let at = c.whites_before-at.result in
    let e : slice_get v.lines c.args.k ≡ Some l = subst (λ w. slice_get w.lines c.args.k ≡ Some l) c.lines.ensures c.line-line.ensures.item in
    let w : WhitesEnd v.text l.start l.end at = subst (λ t. WhitesEnd t l.start l.end at) c.text.ensures c.whites_before-at.ensures.whites in
    blank_found v c.args.k at c.args.is_content l c.if-is_content.false e w c.if-at-line.true

pub returns : goal.returns
returns c =
    let v = c.args.src.now in
    let l = c.line-line.result in
    let at = c.whites_before-at.result in
    let e : slice_get v.lines c.args.k ≡ Some l = subst (λ w. slice_get w.lines c.args.k ≡ Some l) c.lines.ensures c.line-line.ensures.item in
    let w : WhitesEnd v.text l.start l.end at = subst (λ t. WhitesEnd t l.start l.end at) c.text.ensures c.whites_before-at.ensures.whites in
    blank_none v c.args.k at c.args.is_content l e w c.if-at-line.false
