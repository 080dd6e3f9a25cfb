use Rattle.yf_quoted.proofs.ReadLemmas.{no_char_end, simple_char, escape_char}
use Rattle.yf_quoted.proofs.double.double_char.Goals as goal

pub returns-in-None-clause-reads : goal.returns-in-None-clause-reads
returns-in-None-clause-reads c = no_char_end c.in-None.ensures.0

pub returns-in-Some-simple_char-clause-reads : goal.returns-in-Some-simple_char-clause-reads
returns-in-Some-simple_char-clause-reads c = simple_char c.utf8.s c.in-Some-simple_char.ensures.reads c.in-Some.ensures.char

pub returns-in-Some-read_escape-clause-reads : goal.returns-in-Some-read_escape-clause-reads
returns-in-Some-read_escape-clause-reads c = escape_char c.from_u32.result c.in-Some-read_escape.ensures.reads.derived c.from_u32.ensures.value
