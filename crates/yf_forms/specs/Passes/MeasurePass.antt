-- The pass over the events that measures all nodes, one event at a time.
use Rattle.std.specs.Prelude.{ℕ, ◌+◌, Bool, true, false, not, ◌&&◌, is_some, if◌then◌else◌, List, [], ◌∷◌, ◌++◌, length, set, Option, Some, None}
use Rattle.std.specs.Str.{is_utf8}
use Rattle.yf_comments.specs.Comment.{CommentValue}
use Rattle.yf_events.specs.Event.{EventValue, EventInText, sequence_starts, sequence_ends, mapping_starts, mapping_ends, scalar_node, alias_node}
use Rattle.yf_events.specs.declared.event.ScalarStyle.{ScalarStyle}
use Rattle.yf_events.specs.declared.event.Span.{Span}
use Rattle.yf_props.specs.Props.{PropsValue}
use Rattle.yf_forms.specs.declared.form.ended.Ended.{Ended}
use Rattle.yf_forms.specs.declared.form.measure.Measure.{Measure}
use Rattle.yf_forms.specs.declared.form.collection.Open.{Open}
use Rattle.yf_forms.specs.declared.style.Style.{Style}
use Rattle.yf_forms.specs.Nodes.OneLineFlows.{has_comment, scalar_may_be_kept}
use Rattle.yf_forms.specs.NormalForms.Measures.{up_to_greatest, width_if, is_one_line_style, joined_width, no_measure}
use Rattle.yf_forms.specs.NormalForms.Normal.{LayoutSetting}
use Rattle.yf_forms.specs.Nodes.OneLine.{width, spaced, props_text, scalar_text}
use Rattle.yf_forms.specs.Nodes.ScalarStyles.{wanted}

-- the index of a leaf, if it has characters
abbrev pub leaf_if : Option Span → ℕ → Option ℕ
leaf_if None i = None
leaf_if (Some span) i = Some i

-- the first of two that is present
abbrev pub or_else : Option ℕ → Option ℕ → Option ℕ
or_else (Some i) other = Some i
or_else None other = other

-- the sum of two widths, if both are present
abbrev pub sum_of : Option ℕ → Option ℕ → Option ℕ
sum_of (Some a) (Some b) = Some (up_to_greatest (a + b))
sum_of (Some a) None = None
sum_of None b = None

-- a scalar in the style of the house, with its properties
abbrev pub scalar_written : Style → PropsValue → ScalarStyle → List ℕ → List ℕ
scalar_written house props style text = spaced (props_text props) (scalar_text house (wanted style text house) text)

abbrev pub ended_scalar : Style → ℕ → Option Span → PropsValue → ScalarStyle → List ℕ → Ended
ended_scalar house i span props style text = record {
  measure = record {
    last = i;
    width = width_if (is_one_line_style (wanted style text house)) (scalar_written house props style text);
    can_be_kept = false;
    first_leaf = leaf_if span i;
    last_leaf = leaf_if span i;
  };
  inside = width_if (scalar_may_be_kept style text) (scalar_written house props style text);
  is_alias = false;
}

abbrev pub ended_alias : ℕ → List ℕ → Ended
ended_alias i name = record {
  measure = record {
    last = i;
    width = width_if true (42 ∷ name);
    can_be_kept = false;
    first_leaf = Some i;
    last_leaf = Some i;
  };
  inside = width_if true (42 ∷ name);
  is_alias = true;
}

abbrev pub zero_if : Bool → Option ℕ
zero_if true = Some 0
zero_if false = None

abbrev pub opened : List ℕ → List CommentValue → ℕ → Option Span → PropsValue → Bool → Bool → Open
opened t cs i span props flow is_map = record {
  start = i;
  is_map = is_map;
  props_width = up_to_greatest (width (props_text props));
  sum = zero_if (flow && not (has_comment t cs span props));
  is_empty = true;
  is_key = is_map;
  first_leaf = None;
  last_leaf = None;
}

-- a comma and its space, or a `:` and its space, come before each node but the first
abbrev pub separator_width : Open → ℕ
separator_width o = if o.is_empty then 0 else 2

-- a space comes after an alias that is a key
abbrev pub space_width : Open → Ended → ℕ
space_width o e = if o.is_key && e.is_alias then 1 else 0

abbrev pub with_node : Open → Ended → Open
with_node o e = record o {
  sum = sum_of o.sum (sum_of (Some (separator_width o)) (sum_of e.inside (Some (space_width o e))));
  is_empty = false;
  is_key = o.is_map && not o.is_key;
  first_leaf = or_else o.first_leaf e.measure.first_leaf;
  last_leaf = or_else e.measure.last_leaf o.last_leaf;
}

abbrev pub joined_sum : ℕ → Option ℕ → Option ℕ
joined_sum props None = None
joined_sum props (Some sum) = Some (joined_width props (up_to_greatest (sum + 2)))

-- an empty collection, which is a leaf
abbrev pub closed_empty : Open → ℕ → Ended
closed_empty o end = record {
  measure = record {
    last = end;
    width = Some (joined_width o.props_width 2);
    can_be_kept = false;
    first_leaf = Some o.start;
    last_leaf = Some o.start;
  };
  inside = Some (joined_width o.props_width 2);
  is_alias = false;
}

abbrev pub closed_filled : Open → ℕ → Ended
closed_filled o end = record {
  measure = record {
    last = end;
    width = joined_sum o.props_width o.sum;
    can_be_kept = is_some o.sum;
    first_leaf = o.first_leaf;
    last_leaf = o.last_leaf;
  };
  inside = joined_sum o.props_width o.sum;
  is_alias = false;
}

abbrev pub closed : Open → ℕ → Ended
closed o end = if o.is_empty then closed_empty o end else closed_filled o end

-- the results so far: the measures of the events, and the open collections, the innermost first
pub record MeasuredSoFar : Type 0 where
  pub list : List Measure
  pub stack : List Open

abbrev pub handed : Ended → List Open → List Open
handed e [] = []
handed e (o ∷ os) = with_node o e ∷ os

-- an ended node, in the list and in the collection around it
abbrev pub noted : ℕ → Ended → MeasuredSoFar → MeasuredSoFar
noted i e f = record { list = set f.list i e.measure; stack = handed e f.stack }

abbrev pub begun : Open → MeasuredSoFar → MeasuredSoFar
begun o f = record { list = f.list; stack = o ∷ f.stack }

abbrev pub popped : ℕ → List Measure → List Open → MeasuredSoFar
popped i list [] = record { list = list; stack = [] }
popped i list (o ∷ os) = noted o.start (closed o i) (record { list = list; stack = os })

-- the results after the event at index i, which is already in the list
abbrev pub passed : List ℕ → LayoutSetting → ℕ → Option Span → EventValue → MeasuredSoFar → MeasuredSoFar
passed t c i span (scalar_node props style text) f = noted i (ended_scalar c.style i span props style text) f
passed t c i span (alias_node name) f = noted i (ended_alias i name) f
passed t c i span (sequence_starts flow props) f = begun (opened t c.comments i span props flow false) f
passed t c i span (mapping_starts flow props) f = begun (opened t c.comments i span props flow true) f
passed t c i span sequence_ends f = popped i f.list f.stack
passed t c i span mapping_ends f = popped i f.list f.stack
passed t c i span _ f = f

-- the results after the next event, which is also added to the list
abbrev pub past : List ℕ → LayoutSetting → EventInText → MeasuredSoFar → MeasuredSoFar
past t c e f = passed t c (length f.list) e.span e.event (record { list = f.list ++ no_measure ∷ []; stack = f.stack })

-- the results after all these events
unfoldable pub pass : List ℕ → LayoutSetting → List EventInText → MeasuredSoFar → MeasuredSoFar
pass t c [] f = f
pass t c (e ∷ es) f = pass t c es (past t c e f)

-- the texts of an event are UTF-8
abbrev pub has_text : EventValue → Bool
has_text (scalar_node props style text) = is_utf8 (props_text props) && is_utf8 text
has_text (alias_node name) = is_utf8 name
has_text (sequence_starts flow props) = is_utf8 (props_text props)
has_text (mapping_starts flow props) = is_utf8 (props_text props)
has_text _ = true

abbrev pub have_texts : List EventInText → Bool
have_texts [] = true
have_texts (e ∷ es) = has_text e.event && have_texts es

abbrev pub found : List Measure → List Open → MeasuredSoFar
found list stack = record { list = list; stack = stack }

abbrev pub setting : Style → List CommentValue → LayoutSetting
setting style comments = record { style = style; comments = comments }
