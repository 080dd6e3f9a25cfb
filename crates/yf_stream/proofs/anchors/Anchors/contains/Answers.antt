use Rattle.std.proofs.Common.{◌||◌, sym, ap, ◌∙◌}
use Rattle.yf_stream.specs.WellFormed.{has_name}
use Rattle.yf_stream.proofs.TagPass.NameSets.{name_by_any, name_by_order, name_in_both, names_of}
use Rattle.yf_stream.proofs.anchors.Anchors.contains.Goals as goal

pub returns-then-contains : goal.returns-then-contains
returns-then-contains c =
    let few = c.self.inside.few.keys in
    let others = c.self.inside.others.keys in
    let n = c.args.name.now in
    sym (ap (λ z. has_name z n) (sym c.self.view_is) ∙ name_in_both few others n
    ∙ ap (λ z. z || has_name (names_of others) n) (sym (name_by_any few n) ∙ sym c.contains.ensures ∙ c.if-contains.true))

pub returns : goal.returns
returns c =
    let few = c.self.inside.few.keys in
    let others = c.self.inside.others.keys in
    let n = c.args.name.now in
    sym (ap (λ z. has_name z n) (sym c.self.view_is) ∙ name_in_both few others n
    ∙ ap (λ z. z || has_name (names_of others) n) (sym (name_by_any few n) ∙ sym c.contains.ensures ∙ c.if-contains.false)
    ∙ sym (name_by_order others n) ∙ sym c.contains-2.ensures)
