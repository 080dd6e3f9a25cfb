use Rattle.std.proofs.Common.{sym, subst, inr, refl}
use Rattle.yf_props.specs.declared.props.Tag.TheVariants.{Short}
use Rattle.yf_props.specs.Props.{tag_value}
use Rattle.yf_props.specs.Handles.{TagText, UnknownHandleOf}
use Rattle.yf_props.specs.Handles.UnknownHandleOf.{no_prefix}
use Rattle.yf_props.proofs.HandleLemmas.{verbatim_is, non_specific_is, shorthand_is}
use Rattle.yf_props.proofs.handles.Handles.resolve.Goals as goal

pub returns-in-None-clause-refused : goal.returns-in-None-clause-refused
returns-in-None-clause-refused c =
    let n : UnknownHandleOf c.args.self.now (tag_value (Short c.in-Short.handle c.in-Short.suffix)) = no_prefix c.in-None.ensures in
    inr (refl, subst (λ t. UnknownHandleOf c.args.self.now (tag_value t)) (sym c.in-Short.is) n)

pub returns-in-Verbatim-clause-text : goal.returns-in-Verbatim-clause-text
returns-in-Verbatim-clause-text c =
    subst (λ t. TagText c.args.self.now (tag_value t) c.new.result) (sym c.in-Verbatim.is) (verbatim_is c.new.ensures)

pub returns-in-Ok-clause-text : goal.returns-in-Ok-clause-text
returns-in-Ok-clause-text c =
    subst (λ t. TagText c.args.self.now (tag_value t) c.new-in-Ok.result) (sym c.in-Short.is) (shorthand_is c.in-Some.ensures c.in-Ok.ensures c.new-in-Ok.ensures)

pub returns-in-NonSpecific-clause-text : goal.returns-in-NonSpecific-clause-text
returns-in-NonSpecific-clause-text c =
    subst (λ t. TagText c.args.self.now (tag_value t) c.new-in-NonSpecific.result) (sym c.in-NonSpecific.is) (non_specific_is c.new-in-NonSpecific.ensures)
