-- An event with other brackets around its collection, or its scalar in another style. Only a folded scalar has lines.
use Rattle.std.specs.Prelude.{ℕ, ◌≡◌, ◌≤◌, Bool, true, false, List, [], Option, Some, None, length}
use Rattle.yf_events.specs.Event.{EventValue, EventInText, sequence_starts, mapping_starts, scalar_node}
use Rattle.yf_events.specs.Packed.{more_at}
use Rattle.yf_events.specs.declared.event.ScalarStyle.{ScalarStyle}
use Rattle.yf_events.specs.declared.event.ScalarStyle.TheVariants.{Folded}
use Rattle.yf_events.specs.declared.packed.More.{More}
use Rattle.yf_events.specs.declared.packed.Shape.{Shape}
use Rattle.yf_events.specs.declared.packed.Shape.TheVariants.{SeqStart, MapStart, Scalar}

abbrev pub with_form : Bool → ScalarStyle → EventValue → EventValue
with_form flow style (scalar_node props _ text) = scalar_node props style text
with_form flow style (sequence_starts _ props) = sequence_starts flow props
with_form flow style (mapping_starts _ props) = mapping_starts flow props
with_form flow style e = e

abbrev pub is_folded : EventValue → Bool
is_folded (scalar_node props Folded text) = true
is_folded _ = false

abbrev pub lines_if : Bool → List (List ℕ) → List (List ℕ)
lines_if true lines = lines
lines_if false lines = []

abbrev pub formed : Bool → ScalarStyle → EventInText → EventInText
formed flow style e =
    record e { event = with_form flow style e.event; folded = lines_if (is_folded (with_form flow style e.event)) e.folded }

-- the form of a row's parts

abbrev pub shape_formed : Bool → ScalarStyle → Shape → Shape
shape_formed flow style (Scalar _) = Scalar style
shape_formed flow style (SeqStart _) = SeqStart flow
shape_formed flow style (MapStart _) = MapStart flow
shape_formed flow style shape = shape

abbrev pub is_folded_shape : Shape → Bool
is_folded_shape (Scalar Folded) = true
is_folded_shape _ = false

-- without lines unless they are kept
abbrev pub lined : Bool → Option More → Option More
lined true m = m
lined false None = None
lined false (Some m) = Some (record m { folded = [] })

-- the number of the entry of a table, without lines unless they are kept
pub record LinesDropped (old new : List More) (keeps : Bool) (number n : ℕ) : Type 0 where
  pub fits : n ≤ length new
  pub is : more_at new n ≡ lined keeps (more_at old number)
