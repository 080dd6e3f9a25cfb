use Rattle.std.proofs.Common.{◌≤◌, sym, arith, ◌∙◌}
use Rattle.yf_chars.proofs.EscapeLemmas.{chosen_four, chosen_half, chosen_pair, high_bounds, low_bounds, joined_is, no_low, not_low}
use Rattle.yf_chars.proofs.escapes.paired.Goals as goal

pub returns-then-not-is_high-clause-reads : goal.returns-then-not-is_high-clause-reads
returns-then-not-is_high-clause-reads c = chosen_four c.requires.number (sym c.is_high.ensures ∙ c.if-not-is_high.true)

high : (c : goal.Then-is_low) → (0xD800 ≤ c.args.value) × (c.args.value ≤ 0xDBFF)
high c = high_bounds c.args.value (sym c.is_high.ensures ∙ c.if-not-is_high.false)

low : (c : goal.Then-is_low) → (0xDC00 ≤ c.in-Some.low) × (c.in-Some.low ≤ 0xDFFF)
low c = low_bounds c.in-Some.low (sym c.is_low.ensures ∙ c.if-is_low.true)

pub overflow_sub-result : goal.overflow_sub-result
overflow_sub-result c = (high c).0

pub overflow_mul-result : goal.overflow_mul-result
overflow_mul-result c = omega (arith, high c)

pub overflow_add-result : goal.overflow_add-result
overflow_add-result c = omega (arith, high c)

pub overflow_sub-result-then-is_low : goal.overflow_sub-result-then-is_low
overflow_sub-result-then-is_low c = (low c).0

pub overflow_add-result-then-is_low : goal.overflow_add-result-then-is_low
overflow_add-result-then-is_low c = omega (arith, high c, low c)

pub returns-then-is_low-clause-reads : goal.returns-then-is_low-clause-reads
returns-then-is_low-clause-reads c =
    rw (← joined_is c.args.value c.in-Some.low)
    (chosen_pair c.requires.number (sym c.is_high.ensures ∙ c.if-not-is_high.false) c.in-Some.ensures.reads (sym c.is_low.ensures ∙ c.if-is_low.true))

pub returns-in-None-clause-reads : goal.returns-in-None-clause-reads
returns-in-None-clause-reads c = chosen_half c.requires.number (sym c.is_high.ensures ∙ c.if-not-is_high.false) (no_low c.in-None.ensures.reads)

pub returns-else-is_low-clause-reads : goal.returns-else-is_low-clause-reads
returns-else-is_low-clause-reads c =
    chosen_half c.requires.number (sym c.is_high.ensures ∙ c.if-not-is_high.false)
    (not_low c.in-Some.ensures.reads (sym c.is_low.ensures ∙ c.if-is_low.false))
