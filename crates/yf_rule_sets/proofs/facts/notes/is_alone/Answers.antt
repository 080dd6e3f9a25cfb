use Rattle.std.proofs.Common.{inl, inr, sym, true≢false}
use Rattle.yf_lines.proofs.LineLemmas.{lf_breaks, cr_breaks}
use Rattle.yf_rule_sets.proofs.RuleSets.DocumentLemmas.{alone_at, beyond_text, crowded_at, inside_char}
use Rattle.yf_rule_sets.proofs.facts.notes.is_alone.Goals as goal

pub returns-then-marker-text : goal.returns-then-marker-text
returns-then-marker-text c = beyond_text c.args.text.now c.args.marker c.if-marker-text.true

pub returns-then-not-is_char_boundary : goal.returns-then-not-is_char_boundary
returns-then-not-is_char_boundary c = inside_char c.args.text.now c.args.marker (λ b. true≢false (sym (c.if-not-is_char_boundary.ensures.test.1 b)))

pub returns-then-is_char_at : goal.returns-then-is_char_at
returns-then-is_char_at c =
    let e = c.skip_whites-end.result in
    alone_at c.args.text.now c.args.marker e c.skip_whites-end.ensures.whites (inl (lf_breaks c.args.text.now e c.if-is_char_at.ensures.cases.char))

pub returns-then-is_char_at-2 : goal.returns-then-is_char_at-2
returns-then-is_char_at-2 c =
    let e = c.skip_whites-end.result in
    alone_at c.args.text.now c.args.marker e c.skip_whites-end.ensures.whites (inl (cr_breaks c.args.text.now e c.if-is_char_at-2.ensures.cases.char))

pub returns-then-end-text : goal.returns-then-end-text
returns-then-end-text c = alone_at c.args.text.now c.args.marker c.skip_whites-end.result c.skip_whites-end.ensures.whites (inr c.if-end-text.true)

pub returns : goal.returns
returns c =
    crowded_at c.args.text.now c.args.marker c.skip_whites-end.result c.skip_whites-end.ensures.whites c.skip_whites-end.ensures.all c.if-is_char_at.ensures.cases
    c.if-is_char_at-2.ensures.cases c.if-end-text.false
