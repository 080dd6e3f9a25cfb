use Rattle.std.proofs.Common.{sym, subst}
use Rattle.yf_chars.specs.Chain.{Chosen}
use Rattle.yf_props.specs.Names.{Anchor}
use Rattle.yf_props.proofs.NameLemmas.{anchor_chosen, no_anchor}
use Rattle.yf_props.proofs.alias.anchor_property.Goals as goal

pub returns-in-Some-clause-reads : goal.returns-in-Some-clause-reads
returns-in-Some-clause-reads c =
    let t = c.args.s.now in
    let r = c.in-Some.ensures.reads in
    subst (λ x. Chosen (Anchor t c.args.at) c.in-Some.end x) (sym c.in-Some.ensures.name) (anchor_chosen r.0 r.1)

pub returns-in-None-clause-reads : goal.returns-in-None-clause-reads
returns-in-None-clause-reads c = no_anchor {t = c.args.s.now} c.in-None.ensures.reads
