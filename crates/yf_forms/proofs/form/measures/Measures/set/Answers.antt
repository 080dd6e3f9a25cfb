use Rattle.std.proofs.Common.{◌∙◌, ap, map, set}
use Rattle.std.proofs.lemmas.List.{map-set}
use Rattle.yf_forms.specs.NormalForms.Packed.{measure_in}
use Rattle.yf_forms.proofs.form.measures.Measures.set.Goals as goal

pub returns-then-i-len : goal.returns-then-i-len
returns-then-i-len c =
    map-set measure_in c.self.inside.list.items c.args.i c.in_ok-row.row
    ∙ ap (set (map measure_in c.self.inside.list.items) c.args.i) c.in_ok-row.ensures
    ∙ ap (λ w. set w c.args.i c.args.measure.now) c.self.view_is
