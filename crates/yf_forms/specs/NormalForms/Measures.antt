-- The measure of each node of a reading: its end, its width on one line, and its leaves. Widths are numbers of
-- characters, cut at the greatest `usize`.
use Rattle.std.specs.Prelude.{◌≡◌, ℕ, ◌+◌, ◌-◌, ◌^◌, min, ◌==◌, Bool, true, false, ◌&&◌, is_some, if◌then◌else◌, List, [], ◌∷◌, ◌++◌, length, slice_get, Option, Some, None}
use Rattle.yf_events.specs.Event.{EventInText}
use Rattle.yf_events.specs.declared.event.ScalarStyle.{ScalarStyle}
use Rattle.yf_events.specs.declared.event.ScalarStyle.TheVariants.{Plain, Single, Double, Literal, Folded}
use Rattle.yf_forms.specs.declared.form.measure.Measure.{Measure}
use Rattle.yf_forms.specs.declared.style.Style.{Style}
use Rattle.yf_forms.specs.Nodes.SingleNodes.{NodeAt, kept_text_of}
use Rattle.yf_forms.specs.Nodes.OneLineFlows.{may_be_kept}
use Rattle.yf_forms.specs.NormalForms.Normal.{LayoutSetting, styled}
use Rattle.yf_forms.specs.Nodes.OneLine.{width, scalar_text, written}
use Rattle.yf_events.specs.Tree.{Node, scalar, alias, sequence, mapping, Items, no_items, item, Pairs, no_pairs, pair, flat, is_filled_flow}

-- a number, or the greatest `usize` if the number is greater
abbrev pub up_to_greatest : ℕ → ℕ
up_to_greatest n = min n (2 ^ 64 - 1)

-- the number of characters of a text, if it is written on one line
abbrev pub width_if : Bool → List ℕ → Option ℕ
width_if true text = Some (up_to_greatest (width text))
width_if false text = None

-- whether a scalar in that style is written on one line
abbrev pub is_one_line_style : ScalarStyle → Bool
is_one_line_style Plain = true
is_one_line_style Single = true
is_one_line_style Double = true
is_one_line_style Literal = false
is_one_line_style Folded = false

-- the number of characters of a scalar in that style
abbrev pub scalar_width : Style → ScalarStyle → List ℕ → Option ℕ
scalar_width s style text = width_if (is_one_line_style style) (scalar_text s style text)

-- two widths with a space between them, if both parts have characters
abbrev pub joined_width : ℕ → ℕ → ℕ
joined_width one other = if one == 0 then other else (if other == 0 then one else up_to_greatest (one + other + 1))

-- whether a node is written on one line, with the styles of its scalars, and with filled flow collections for those
-- that may be kept
abbrev pub is_one_line : Node → Bool
is_one_line (scalar at props style text lines) = is_one_line_style style
is_one_line (alias at name) = true
is_one_line (sequence at flow props no_items) = true
is_one_line (sequence at flow props (item x xs)) = flow
is_one_line (mapping at flow props no_pairs) = true
is_one_line (mapping at flow props (pair k v ps)) = flow

-- the indices of the events that begin the leaves with characters in a node, in order; the event at index i begins
-- the node. An alias and an empty collection have characters
abbrev mutual
  pub leaf_indices : ℕ → Node → List ℕ
  leaf_indices i (scalar at props style text lines) = if is_some at.span then i ∷ [] else []
  leaf_indices i (alias at name) = i ∷ []
  leaf_indices i (sequence at flow props no_items) = i ∷ []
  leaf_indices i (sequence at flow props (item x xs)) = leaf_indices (i + 1) x ++ leaf_indices_of_items (i + 1 + length (flat x)) xs
  leaf_indices i (mapping at flow props no_pairs) = i ∷ []
  leaf_indices i (mapping at flow props (pair k v ps)) =
      leaf_indices (i + 1) k ++ (leaf_indices (i + 1 + length (flat k)) v
      ++ leaf_indices_of_pairs (i + 1 + length (flat k) + length (flat v)) ps)

  pub leaf_indices_of_items : ℕ → Items → List ℕ
  leaf_indices_of_items i no_items = []
  leaf_indices_of_items i (item x xs) = leaf_indices i x ++ leaf_indices_of_items (i + length (flat x)) xs

  pub leaf_indices_of_pairs : ℕ → Pairs → List ℕ
  leaf_indices_of_pairs i no_pairs = []
  leaf_indices_of_pairs i (pair k v ps) =
      leaf_indices i k ++ (leaf_indices (i + length (flat k)) v ++ leaf_indices_of_pairs (i + length (flat k) + length (flat v)) ps)

abbrev pub first_of : List ℕ → Option ℕ
first_of [] = None
first_of (i ∷ is) = Some i

abbrev pub last_of : List ℕ → Option ℕ
last_of [] = None
last_of (i ∷ []) = Some i
last_of (i ∷ j ∷ is) = last_of (j ∷ is)

-- the measure of the node x, which the event at index i begins; t is the text that was read
abbrev pub measure_of : List ℕ → LayoutSetting → ℕ → Node → Measure
measure_of t c i x = record {
  last = i + length (flat x) - 1;
  width = width_if (is_one_line (styled t c x)) (written c.style (styled t c x));
  can_be_kept = is_filled_flow x && may_be_kept t c.comments x;
  first_leaf = first_of (leaf_indices i x);
  last_leaf = last_of (leaf_indices i x);
}

-- the measure of an event that begins no node, and of an index past the end
abbrev pub no_measure : Measure
no_measure = record { last = 0; width = None; can_be_kept = false; first_leaf = None; last_leaf = None }

-- the list holds, at the index of each event that begins a node, the measure of the node
pub record AreMeasures (t : List ℕ) (c : LayoutSetting) (es : List EventInText) (ms : List Measure) : Type 0 where
  pub each : (i : ℕ) (x : Node) → NodeAt es i x → slice_get ms i ≡ Some (measure_of t c i x)

-- The result for the node that the event at an index begins: its text on one line, if it is a collection that may be
-- kept.
pub record IsKeptText (t : List ℕ) (c : LayoutSetting) (es : List EventInText) (i : ℕ) (answer : Option (List ℕ)) : Type 0 where
  pub is : (x : Node) → NodeAt es i x → answer ≡ kept_text_of t c x

-- `answer` is the text of `IsKeptText` for each text t and setting c that give the measures ms
pub record TellsKept (es : List EventInText) (s : Style) (ms : List Measure) (i : ℕ) (answer : Option (List ℕ)) : Type 0 where
  pub tells : (t : List ℕ) (c : LayoutSetting) → c.style ≡ s → AreMeasures t c es ms → IsKeptText t c es i answer
