-- Nothing around a scalar or an alias decides whether it is an implicit key.
use Rattle.std.proofs.Common.{◌≡◌, ℕ, true, List, refl}
use Rattle.yf_events.specs.Tree.{NodeOffsets, Node, scalar, alias, sequence, mapping}
use Rattle.yf_events.specs.declared.event.ScalarStyle.{ScalarStyle}
use Rattle.yf_events.specs.declared.event.ScalarStyle.TheVariants.{Plain, Single, Double, Literal, Folded}
use Rattle.yf_forms.specs.declared.style.Style.{Style}
use Rattle.yf_forms.specs.Nodes.ImplicitKeys.{is_atom, is_implicit_atom, nowhere}
use Rattle.yf_forms.specs.NormalForms.Normal.{LayoutSetting, is_implicit, styled}
use Rattle.yf_forms.proofs.Decide.ValueLemmas.{event_of}
use Rattle.yf_props.specs.Props.{PropsValue}

scalar_key : (s : Style) (column : ℕ) (at to : NodeOffsets) (props : PropsValue) (w : ScalarStyle) (text : List ℕ) (ls ms : List (List ℕ))
    → is_implicit s column (scalar at props w text ls) ≡ is_implicit s 0 (scalar to props w text ms)
scalar_key s column at to props Plain text ls ms = refl
scalar_key s column at to props Single text ls ms = refl
scalar_key s column at to props Double text ls ms = refl
scalar_key s column at to props Literal text ls ms = refl
scalar_key s column at to props Folded text ls ms = refl

pub atom_key : (t : List ℕ) (c : LayoutSetting) (column : ℕ) (x : Node) → is_atom (event_of x) ≡ true
    → is_implicit c.style column (styled t c x) ≡ is_implicit_atom c.style (event_of x)
atom_key t c column (scalar at props style text lines) e = scalar_key c.style column at nowhere props _ text _ _
atom_key t c column (alias at name) e = refl
atom_key t c column (sequence at flow props items) e = absurd cc
atom_key t c column (mapping at flow props pairs) e = absurd cc
