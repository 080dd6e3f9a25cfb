use Rattle.yf_block_scalar.specs.Header.Style.{literal_sign, folded_sign}
use Rattle.yf_block_scalar.proofs.header_reader.style_at.Goals as goal

pub returns-then-is_char_at-clause-reads : goal.returns-then-is_char_at-clause-reads
returns-then-is_char_at-clause-reads c = literal_sign c.if-is_char_at.ensures.cases.char

pub returns-then-is_char_at-2-clause-reads : goal.returns-then-is_char_at-2-clause-reads
returns-then-is_char_at-2-clause-reads c = folded_sign c.if-is_char_at-2.ensures.cases.char
