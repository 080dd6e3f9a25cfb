use Rattle.std.proofs.Common.{w32}
use Rattle.std.proofs.lemmas.Int.{to_z-of_z}
use Rattle.yf_chars.specs.Chain.{Stuck}
use Rattle.yf_comments.specs.Comments.{Separate}
use Rattle.yf_props.specs.Names.{Properties}
use Rattle.yf_props.proofs.NameLemmas.{chosen_same}
use Rattle.yf_props.proofs.PropertiesLemmas.{tag_then_anchor, tag_alone, no_anchor_after}
use Rattle.yf_props.proofs.properties.after_tag.Goals as goal

pub returns-in-Some-anchor_property-clause-reads : goal.returns-in-Some-anchor_property-clause-reads
returns-in-Some-anchor_property-clause-reads c =
    let found = rw c.in-Some.is at c.in_ok-comments.ensures.reads in
    let sep = rw (to_z-of_z w32 c.args.n c.ranges.n) at found in
    tag_then_anchor c.utf8.s c.requires.tag sep c.in-Some-anchor_property.ensures.reads.derived

pub returns-in-Some-clause-reads : goal.returns-in-Some-clause-reads
returns-in-Some-clause-reads c =
    let found = rw c.in-Some.is at c.in_ok-comments.ensures.reads in
    let sep = rw (to_z-of_z w32 c.args.n c.ranges.n) at found in
    chosen_same (Properties c.args.s.now c.args.n c.args.ctx c.args.at) c.only_tag.ensures.end c.only_tag.ensures.value
    (tag_alone c.utf8.s c.requires.tag (no_anchor_after sep c.in-None-anchor_property.ensures.reads))

pub returns-clause-reads : goal.returns-clause-reads
returns-clause-reads c =
    let found = rw c.in-None.is at c.in_ok-comments.ensures.reads in
    let sep : Stuck (Separate c.args.s.now c.args.n c.args.ctx c.args.part.end) = rw (to_z-of_z w32 c.args.n c.ranges.n) at found in
    chosen_same (Properties c.args.s.now c.args.n c.args.ctx c.args.at) c.only_tag-in-None.ensures.end c.only_tag-in-None.ensures.value
    (tag_alone c.utf8.s c.requires.tag (λ l m y a r e. sep.none l y r))
