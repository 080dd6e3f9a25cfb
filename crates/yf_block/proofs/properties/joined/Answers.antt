use Rattle.std.proofs.Common.{sym, ap, refl, ◌∙◌}
use Rattle.std.specs.Option.{is_some}
use Rattle.yf_block.proofs.Ends.PropertiesLemmas.{go_together, names_apart, names_clashed, names_meet, offset_or, props_joined, tags_apart, tags_clashed, tags_meet}
use Rattle.yf_block.proofs.properties.joined.Goals as goal

pub returns-then-is_some-clause-reads : goal.returns-then-is_some-clause-reads
returns-then-is_some-clause-reads c = λ h q a b. names_clashed a b (names_meet _ _ (ap (λ z. is_some z) (sym c.and.ensures) ∙ sym c.is_some.ensures ∙ c.if-is_some.true))

pub returns-then-is_some-2-clause-reads : goal.returns-then-is_some-2-clause-reads
returns-then-is_some-2-clause-reads c = λ h q a b. tags_clashed a b (tags_meet _ _ (ap (λ z. is_some z) (sym c.and-2.ensures) ∙ sym c.is_some-2.ensures ∙ c.if-is_some-2.true))

pub returns-clause-reads : goal.returns-clause-reads
returns-clause-reads c = λ h q a b.
    let name = names_apart _ _ (ap (λ z. is_some z) (sym c.and.ensures) ∙ sym c.is_some.ensures ∙ c.if-is_some.false) in
    let tag = tags_apart _ _ (ap (λ z. is_some z) (sym c.and-2.ensures) ∙ sym c.is_some-2.ensures ∙ c.if-is_some-2.false) in
    go_together a b name tag _ refl refl
    (props_joined c.args.outer.props.anchor c.args.inner.props.anchor c.or.result c.args.outer.props.tag c.args.inner.props.tag c.or-2.result c.or.ensures c.or-2.ensures)
    (c.or-3.ensures ∙ offset_or c.args.outer.tag_offset c.args.inner.tag_offset)
