use Rattle.std.proofs.Common.{ap, ◌∙◌}
use Rattle.yf_chars.specs.Chain.Chain.{done}
use Rattle.yf_chars.specs.Class as Class
use Rattle.yf_plain.proofs.OrdinaryLemmas.{word_item, word_after, word_boundary}
use Rattle.yf_plain.proofs.PlainLemmas.{lookbehind, item_found, item_stuck, plain_is_ns}
use Rattle.yf_plain.proofs.plain.plain_item.Goals as goal

pub returns-in-None-clause-reads : goal.returns-in-None-clause-reads
returns-in-None-clause-reads c = item_stuck done (c.is_text_at.ensures c.if-is_text_at.true) c.in-None.ensures

pub returns-in-Some-clause-reads : goal.returns-in-Some-clause-reads
returns-in-Some-clause-reads c = item_found done c.in-Some.ensures.0 c.in-Some.ensures.1

pub returns-in-Some-clause-follows : goal.returns-in-Some-clause-follows
returns-in-Some-clause-follows c = ap Class.is_ns_char c.in-Some.ensures.1.back ∙ plain_is_ns c.args.s.now c.args.ctx c.args.at c.in-Some.ensures.0

pub returns-then-is_plain_char_at-clause-reads : goal.returns-then-is_plain_char_at-clause-reads
returns-then-is_plain_char_at-clause-reads c = word_item c.args.s.now c.args.ctx c.args.at c.if-is_char_at.ensures.cases (c.is_plain_char_at.ensures c.if-is_plain_char_at.true)

pub returns-then-is_plain_char_at-clause-follows : goal.returns-then-is_plain_char_at-clause-follows
returns-then-is_plain_char_at-clause-follows c = word_after c.args.s.now c.args.ctx c.args.at (c.is_plain_char_at.ensures c.if-is_plain_char_at.true)

pub returns-then-is_plain_char_at-clause-boundary : goal.returns-then-is_plain_char_at-clause-boundary
returns-then-is_plain_char_at-clause-boundary c = word_boundary c.args.s.now c.args.ctx c.args.at (c.is_plain_char_at.ensures c.if-is_plain_char_at.true)

pub returns-then-is_end_at-clause-reads : goal.returns-then-is_end_at-clause-reads
returns-then-is_end_at-clause-reads c = (c.is_end_at.ensures c.if-is_end_at.true).ends c.args.ctx

pub plain_char-requires-2-clause-lookbehind : goal.plain_char-requires-2-clause-lookbehind
plain_char-requires-2-clause-lookbehind c =
    lookbehind c.utf8.s c.requires.follows c.skip_whites-start.ensures.whites.1 c.skip_whites-start.ensures.order

pub returns-in-None-plain_char-clause-reads : goal.returns-in-None-plain_char-clause-reads
returns-in-None-plain_char-clause-reads c = item_stuck c.skip_whites-start.ensures.whites.1 c.skip_whites-start.ensures.all c.in-None-plain_char.ensures

pub returns-in-Some-plain_char-clause-reads : goal.returns-in-Some-plain_char-clause-reads
returns-in-Some-plain_char-clause-reads c = item_found c.skip_whites-start.ensures.whites.1 c.in-Some-plain_char.ensures.0 c.in-Some-plain_char.ensures.1

pub returns-in-Some-plain_char-clause-follows : goal.returns-in-Some-plain_char-clause-follows
returns-in-Some-plain_char-clause-follows c =
    ap Class.is_ns_char c.in-Some-plain_char.ensures.1.back
    ∙ plain_is_ns c.args.s.now c.args.ctx c.skip_whites-start.result c.in-Some-plain_char.ensures.0
