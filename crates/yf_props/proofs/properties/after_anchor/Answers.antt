use Rattle.std.proofs.Common.{w32}
use Rattle.std.proofs.lemmas.Int.{to_z-of_z}
use Rattle.yf_chars.specs.Chain.{Stuck}
use Rattle.yf_comments.specs.Comments.{Separate}
use Rattle.yf_props.specs.Names.{Properties}
use Rattle.yf_props.proofs.NameLemmas.{chosen_same}
use Rattle.yf_props.proofs.PropertiesLemmas.{anchor_then_tag, anchor_alone, no_tag_after}
use Rattle.yf_props.proofs.properties.after_anchor.Goals as goal

pub returns-in-Some-tag_property-clause-reads : goal.returns-in-Some-tag_property-clause-reads
returns-in-Some-tag_property-clause-reads c =
    let found = rw c.in-Some.is at c.in_ok-comments.ensures.reads in
    let sep = rw (to_z-of_z w32 c.args.n c.ranges.n) at found in
    anchor_then_tag c.requires.anchor sep c.in-Some-tag_property.ensures.reads

pub returns-in-Some-clause-reads : goal.returns-in-Some-clause-reads
returns-in-Some-clause-reads c =
    let found = rw c.in-Some.is at c.in_ok-comments.ensures.reads in
    let sep = rw (to_z-of_z w32 c.args.n c.ranges.n) at found in
    chosen_same (Properties c.args.s.now c.args.n c.args.ctx c.args.at) c.only_anchor.ensures.end c.only_anchor.ensures.value
    (anchor_alone c.requires.anchor (no_tag_after sep c.in-None-tag_property.ensures.reads))

pub returns-clause-reads : goal.returns-clause-reads
returns-clause-reads c =
    let found = rw c.in-None.is at c.in_ok-comments.ensures.reads in
    let sep : Stuck (Separate c.args.s.now c.args.n c.args.ctx c.args.end) = rw (to_z-of_z w32 c.args.n c.ranges.n) at found in
    chosen_same (Properties c.args.s.now c.args.n c.args.ctx c.args.at) c.only_anchor-in-None.ensures.end c.only_anchor-in-None.ensures.value
    (anchor_alone c.requires.anchor (λ l m y v r e. sep.none l y r))
