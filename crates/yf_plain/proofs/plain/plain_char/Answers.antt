use Rattle.std.proofs.Common.{sym, ◌∙◌}
use Rattle.yf_plain.proofs.PlainLemmas.{colon_read, hash_read, other_read, plain_at_end, reads_code}
use Rattle.yf_plain.proofs.plain.plain_char.Goals as goal

pub returns-in-None : goal.returns-in-None
returns-in-None c = plain_at_end c.args.s.now c.args.ctx c.args.at c.in-None.ensures.0

pub returns-then-is_safe_at : goal.returns-then-is_safe_at
returns-then-is_safe_at c =
    (colon_read c.args.ctx c.in-Some.ensures c.if-c-eq58.true ∙ sym c.is_safe_at.ensures ∙ c.if-is_safe_at.true, reads_code c.in-Some.ensures)

pub returns-then-c-eq58 : goal.returns-then-c-eq58
returns-then-c-eq58 c = colon_read c.args.ctx c.in-Some.ensures c.if-c-eq58.true ∙ sym c.is_safe_at.ensures ∙ c.if-is_safe_at.false

pub returns-then-after_char : goal.returns-then-after_char
returns-then-after_char c =
    (hash_read c.args.ctx c.in-Some.ensures c.if-c-eq35.true ∙ c.requires.lookbehind ∙ c.if-after_char.true, reads_code c.in-Some.ensures)

pub returns-then-c-eq35 : goal.returns-then-c-eq35
returns-then-c-eq35 c = hash_read c.args.ctx c.in-Some.ensures c.if-c-eq35.true ∙ c.requires.lookbehind ∙ c.if-after_char.false

pub returns-then-is_plain_safe : goal.returns-then-is_plain_safe
returns-then-is_plain_safe c =
    (other_read c.args.ctx c.in-Some.ensures c.if-c-eq58.false c.if-c-eq35.false ∙ sym c.is_plain_safe.ensures ∙ c.if-is_plain_safe.true, reads_code c.in-Some.ensures)

pub returns-else-is_plain_safe : goal.returns-else-is_plain_safe
returns-else-is_plain_safe c = other_read c.args.ctx c.in-Some.ensures c.if-c-eq58.false c.if-c-eq35.false ∙ sym c.is_plain_safe.ensures ∙ c.if-is_plain_safe.false
