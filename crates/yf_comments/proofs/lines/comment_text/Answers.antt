use Rattle.yf_comments.proofs.RowLemmas.{text_from}
use Rattle.yf_comments.proofs.lines.comment_text.Goals as goal

pub returns-then-is_char_at-clause-reads : goal.returns-then-is_char_at-clause-reads
returns-then-is_char_at-clause-reads c =
    text_from c.range.result.now c.is_blank_before.result c.if-is_char_at.ensures.cases.char c.skip_nb_chars-end.ensures.chars
    c.range.ensures.value c.is_blank_before.ensures
