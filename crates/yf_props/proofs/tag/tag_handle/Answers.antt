use Rattle.yf_props.specs.Names.{primary_handle}
use Rattle.yf_props.proofs.LongestTags.{handle_alone, handle_within, no_handle}
use Rattle.yf_props.proofs.TagLemmas.{long_handle}
use Rattle.yf_props.proofs.tag.tag_handle.Goals as goal

pub returns-then-is_char_at-2-clause-reads : goal.returns-then-is_char_at-2-clause-reads
returns-then-is_char_at-2-clause-reads c =
    let m = c.skip_while-name_end.ensures.chars in
    long_handle c.args.s.now c.args.at c.skip_while-name_end.result m.0 m.1 c.skip_while-name_end.ensures.all c.if-is_char_at.ensures.cases.char c.if-is_char_at-2.ensures.cases.char

pub returns-then-is_char_at-2-clause-longest : goal.returns-then-is_char_at-2-clause-longest
returns-then-is_char_at-2-clause-longest c =
    let m = c.skip_while-name_end.ensures.chars in handle_within c.args.s.now c.args.at c.skip_while-name_end.result m.0 m.1 c.skip_while-name_end.ensures.all

pub returns-then-is_char_at-clause-reads : goal.returns-then-is_char_at-clause-reads
returns-then-is_char_at-clause-reads c = primary_handle c.if-is_char_at.ensures.cases.char

pub returns-then-is_char_at-clause-longest : goal.returns-then-is_char_at-clause-longest
returns-then-is_char_at-clause-longest c =
    let m = c.skip_while-name_end.ensures.chars in
    handle_alone c.args.s.now c.args.at c.skip_while-name_end.result m.0 m.1 c.skip_while-name_end.ensures.all c.if-is_char_at-2.ensures.cases

pub returns-clause-reads : goal.returns-clause-reads
returns-clause-reads c = no_handle c.if-is_char_at.ensures.cases
