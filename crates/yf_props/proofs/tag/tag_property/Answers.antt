use Rattle.std.proofs.Common.{sym, subst}
use Rattle.yf_chars.specs.Chain.{Chosen}
use Rattle.yf_props.specs.Names.{TagProperty}
use Rattle.yf_props.proofs.TagLemmas.{verbatim_tag_chosen, shorthand_tag_chosen, non_specific_chosen, no_mark}
use Rattle.yf_props.proofs.tag.tag_property.Goals as goal

pub returns-in-Some-clause-reads : goal.returns-in-Some-clause-reads
returns-in-Some-clause-reads c =
    let v = c.in-Some.ensures.reads in
    subst (λ x. Chosen (TagProperty c.args.s.now c.args.at) c.in-Some.part.end x) (sym v.2) (verbatim_tag_chosen v.1)

pub returns-in-Some-shorthand-clause-reads : goal.returns-in-Some-shorthand-clause-reads
returns-in-Some-shorthand-clause-reads c = shorthand_tag_chosen c.in-None.ensures.reads c.in-Some-shorthand.ensures.reads

pub returns-in-None-shorthand-clause-reads : goal.returns-in-None-shorthand-clause-reads
returns-in-None-shorthand-clause-reads c =
    let n = c.in-None-shorthand.ensures.reads in
    non_specific_chosen c.if-is_char_at.ensures.cases.char c.in-None.ensures.reads n.0 n.1

pub returns-clause-reads : goal.returns-clause-reads
returns-clause-reads c = no_mark c.if-is_char_at.ensures.cases
