use Rattle.std.proofs.Common.{sym, subst}
use Rattle.yf_chars.specs.Chain.{Chosen}
use Rattle.yf_props.specs.Names.{ShorthandTag}
use Rattle.yf_props.proofs.TagLemmas.{lone_chosen, no_shorthand}
use Rattle.yf_props.proofs.tag.shorthand.Goals as goal

pub returns-in-Some-suffix_after-clause-reads : goal.returns-in-Some-suffix_after-clause-reads
returns-in-Some-suffix_after-clause-reads c =
    let t = c.args.s.now in
    let d = lone_chosen t c.args.at c.requires.char c.in-None.ensures.reads c.in-Some-suffix_after.ensures.reads in
    subst (λ v. Chosen (ShorthandTag t c.args.at) c.in-Some-suffix_after.part.end v) (sym c.in-Some-suffix_after.ensures.value) d

pub returns-in-None-suffix_after-clause-reads : goal.returns-in-None-suffix_after-clause-reads
returns-in-None-suffix_after-clause-reads c =
    let here = c.in-None-suffix_after.ensures.reads in
    (no_shorthand c.args.s.now c.args.at c.requires.char c.in-None.ensures.reads here, here)
