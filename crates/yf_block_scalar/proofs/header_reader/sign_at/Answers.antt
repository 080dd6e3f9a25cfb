use Rattle.yf_block_scalar.specs.Header.Sign.{strip_sign, keep_sign}
use Rattle.yf_block_scalar.proofs.header_reader.sign_at.Goals as goal

pub returns-then-is_char_at-clause-reads : goal.returns-then-is_char_at-clause-reads
returns-then-is_char_at-clause-reads c = strip_sign c.if-is_char_at.ensures.cases.char

pub returns-then-is_char_at-2-clause-reads : goal.returns-then-is_char_at-2-clause-reads
returns-then-is_char_at-2-clause-reads c = keep_sign c.if-is_char_at-2.ensures.cases.char
