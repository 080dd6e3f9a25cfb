use Rattle.std.proofs.Common.{sym, subst}
use Rattle.yf_chars.specs.Chain.{Chosen}
use Rattle.yf_props.specs.Names.{ShorthandTag}
use Rattle.yf_props.proofs.TagLemmas.{long_chosen, no_long_mark, no_long_suffix}
use Rattle.yf_props.proofs.tag.long_shorthand.Goals as goal

pub returns-in-Some-clause-reads : goal.returns-in-Some-clause-reads
returns-in-Some-clause-reads c =
    let t = c.args.s.now in
    let i = c.args.at in
    let m = c.skip_while-name_end.ensures.chars in
    let d = long_chosen t i c.skip_while-name_end.result m.0 m.1 c.skip_while-name_end.ensures.all c.requires.char c.if-is_char_at.ensures.cases.char c.in-Some.ensures.reads in
    subst (λ v. Chosen (ShorthandTag t i) c.in-Some.part.end v) (sym c.in-Some.ensures.value) d

pub returns-in-None-clause-reads : goal.returns-in-None-clause-reads
returns-in-None-clause-reads c =
    let m = c.skip_while-name_end.ensures.chars in
    no_long_suffix c.args.s.now c.args.at c.skip_while-name_end.result m.0 m.1 c.skip_while-name_end.ensures.all c.in-None.ensures.reads

pub returns-clause-reads : goal.returns-clause-reads
returns-clause-reads c =
    let m = c.skip_while-name_end.ensures.chars in
    no_long_mark c.args.s.now c.args.at c.skip_while-name_end.result m.0 m.1 c.skip_while-name_end.ensures.all c.if-is_char_at.ensures.cases
