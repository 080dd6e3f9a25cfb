use Rattle.std.proofs.Common.{◌∙◌, Some, ap, refl, sym}
use Rattle.toml.specs.View.{items_view, view}
use Rattle.yf_settings.specs.Texts.{no_array}
use Rattle.yf_settings.proofs.TextsLemmas.{list_read}
use Rattle.yf_settings.proofs.texts.patterns_of.Goals as goal

pub returns-in-Some : goal.returns-in-Some
returns-in-Some c =
    list_read (λ v. v.items) (view c.args.value.now) (items_view c.as_slice.result.now)
    (sym c.in-Some.ensures ∙ ap (λ x. Some (items_view x)) (sym c.as_slice.ensures.value)) c.patterns_in.result
    c.patterns_in.ensures

pub returns-in-None : goal.returns-in-None
returns-in-None c = no_array refl (sym c.in-None.ensures)
