-- Properties that are read can be written.
use Rattle.std.proofs.Common.{◌≡◌, ◌≢◌, ℕ, ℤ, true, true≢false, List, refl, ap, sym, ◌∙◌}
use Rattle.std.specs.Prelude.{is_some}
use Rattle.std.specs.Str.{IsUtf8}
use Rattle.yf_chars.specs.declared.context.Ctx.{Ctx}
use Rattle.yf_props.specs.Names.{Properties, PropertiesValue}
use Rattle.yf_props.specs.Names.Properties.{by_tag, by_anchor, tag_first, anchor_first}
use Rattle.yf_props.specs.Props.{PropsValue, no_props}
use Rattle.yf_props.proofs.NamesMade.{props_made}
use Rattle.yf_laws.specs.Layouts.ReadableTrees.{FitProps, some_fit_props}

-- the properties are not empty
tagged : (p : PropsValue) → is_some p.tag ≡ true → p ≢ no_props
tagged p t e = true≢false (sym t ∙ ap (λ (w : PropsValue). is_some w.tag) e)

anchored : (p : PropsValue) → is_some p.anchor ≡ true → p ≢ no_props
anchored p a e = true≢false (sym a ∙ ap (λ (w : PropsValue). is_some w.anchor) e)

pub props_some : {t : List ℕ} {n : ℤ} {c : Ctx} {i j : ℕ} {p : PropertiesValue} → Properties t n c i j p → p.props ≢ no_props
props_some (by_tag a) = tagged _ refl
props_some (by_anchor a) = anchored _ refl
props_some (tag_first a s b) = tagged _ refl
props_some (anchor_first a s b) = tagged _ refl

pub props_fit : {t : List ℕ} {n : ℤ} {c : Ctx} {i j : ℕ} {p : PropertiesValue} → IsUtf8 t → Properties t n c i j p → FitProps p.props
props_fit u q = some_fit_props (props_made u q) (props_some q)
