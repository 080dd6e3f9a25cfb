-- Whether an event begins an implicit key.
use Rattle.std.specs.Prelude.{◌≡◌, ℕ, ◌==◌, Bool, true, false, ◌&&◌, ◌||◌, List, [], ◌∷◌, None}
use Rattle.yf_events.specs.Event.{EventValue, scalar_node, alias_node}
use Rattle.yf_events.specs.Tree.{NodeOffsets, scalar, alias}
use Rattle.yf_events.specs.declared.lists.Lists.{Lists}
use Rattle.yf_forms.specs.declared.style.Style.{Style}
use Rattle.yf_forms.specs.Nodes.SingleNodes.{block_keys}
use Rattle.yf_forms.specs.NormalForms.Normal.{is_implicit, styled}
use Rattle.yf_forms.specs.NormalForms.Textual.{IsTextual}

-- an implicit key begins at the index
abbrev pub begins_implicit : List (ℕ × Bool) → ℕ → Bool
begins_implicit [] i = false
begins_implicit (k ∷ ks) i = ((k.0 == i) && k.1) || begins_implicit ks i

-- `answer` is whether the event at index i begins an implicit key of a block mapping in the normal form of the reading
-- r of the text t, if r is a reading as texts have them
pub record TellsImplicit (t : List ℕ) (r : Lists) (s : Style) (i : ℕ) (answer : Bool) : Type 0 where
  pub is : (w : IsTextual r) → answer ≡ begins_implicit (block_keys t r s w.trees) i

-- Keys that are scalars or aliases.

abbrev pub is_atom : EventValue → Bool
is_atom (scalar_node props style text) = true
is_atom (alias_node name) = true
is_atom _ = false

-- offsets of a node that is in no text
abbrev pub nowhere : NodeOffsets
nowhere = record { span = None; tag_offset = None; entry = None }

-- whether a scalar or an alias is an implicit key of a block mapping in the house style, at any column
abbrev pub is_implicit_atom : Style → EventValue → Bool
is_implicit_atom s (scalar_node props style text) = is_implicit s 0 (styled [] (record { style = s; comments = [] }) (scalar nowhere props style text []))
is_implicit_atom s (alias_node name) = is_implicit s 0 (alias nowhere name)
is_implicit_atom s _ = false
