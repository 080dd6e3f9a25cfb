use Rattle.yf_props.proofs.LongestTags.{global_chosen, local_chosen}
use Rattle.yf_props.proofs.tag.tag_prefix.Goals as goal

pub returns-then-is_char_at-clause-reads : goal.returns-then-is_char_at-clause-reads
returns-then-is_char_at-clause-reads c =
    let m = c.skip_chars.ensures.chars in (_, local_chosen c.if-is_char_at.ensures.cases.char m.1 c.skip_chars.ensures.all)

pub returns-in-Some-clause-reads : goal.returns-in-Some-clause-reads
returns-in-Some-clause-reads c =
    let h = c.in-Some.ensures.reads in
    let m = c.skip_chars-in-Some.ensures.chars in
    (_, global_chosen c.if-is_char_at.ensures.cases h.1 m.1 c.skip_chars-in-Some.ensures.all)
