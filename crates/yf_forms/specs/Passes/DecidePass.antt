-- The pass over the events that decides all forms, one event at a time.
use Rattle.std.specs.Prelude.{ℕ, ◌+◌, ◌==◌, Bool, true, false, not, ◌&&◌, ◌||◌, nat_lt, nat_le, if◌then◌else◌, List, [], ◌∷◌, ◌++◌, length, map, get_or, slice_get, Option, Some, None}
use Rattle.yf_comments.specs.Comment.{CommentValue}
use Rattle.yf_events.specs.Event.{EventValue, EventInText, sequence_starts, sequence_ends, mapping_starts, mapping_ends, scalar_node, alias_node}
use Rattle.yf_events.specs.declared.event.Entry.{Entry}
use Rattle.yf_events.specs.declared.event.ScalarStyle.TheVariants.{Plain}
use Rattle.yf_events.specs.declared.event.Span.{Span}
use Rattle.yf_forms.specs.declared.form.decide.Form.{Form}
use Rattle.yf_forms.specs.declared.form.keys.PendingKey.{PendingKey}
use Rattle.yf_forms.specs.declared.form.layout_context.LayoutFrame.{LayoutFrame}
use Rattle.yf_forms.specs.declared.form.layout_context.LayoutContext.{LayoutContext}
use Rattle.yf_forms.specs.declared.form.measure.Measure.{Measure}
use Rattle.yf_forms.specs.declared.style.Style.{Style}
use Rattle.yf_forms.specs.NormalForms.Forms.{first_index, no_form}
use Rattle.yf_forms.specs.NormalForms.Measures.{up_to_greatest, no_measure}

-- the input of the pass
pub record DecideInput : Type 0 where
  pub style : Style
  pub comments : List CommentValue
  pub events : List EventInText

abbrev pub given : Style → List CommentValue → List EventInText → DecideInput
given style comments events = record { style = style; comments = comments; events = events }

-- Margins.

-- a column further to the right
abbrev pub further : ℕ → ℕ → ℕ
further column n = up_to_greatest (column + n)

abbrev pub place_at : ℕ → LayoutContext
place_at column = record { column = column; entries = column; is_implicit = false; key_comment = None }

-- a node of that width fits at the column
abbrev pub has_room : Style → ℕ → Option ℕ → Bool
has_room s column None = false
has_room s column (Some width) = nat_le (further column width) s.max_line

abbrev pub may_be_implicit : Style → ℕ → Bool → Option ℕ → Bool
may_be_implicit s column can_be_kept None = false
may_be_implicit s column can_be_kept (Some width) =
    if nat_lt 1023 width then false else (if can_be_kept then has_room s column (Some width) else true)

-- the node that the event at index i begins is a leaf with characters, if its first leaf is this one
abbrev pub is_leaf_at : ℕ → Option ℕ → Bool
is_leaf_at i None = false
is_leaf_at i (Some leaf) = leaf == i

-- the start of the text of an event's node, if it has characters
abbrev pub start_of_span : Option (Option Span) → Option ℕ
start_of_span None = None
start_of_span (Some None) = None
start_of_span (Some (Some span)) = Some span.start

abbrev pub leaf_start : List EventInText → Option ℕ → Option ℕ
leaf_start es None = None
leaf_start es (Some i) = start_of_span (slice_get (map (λ e. e.span) es) i)

abbrev pub start_of_entry : Option (Option Entry) → ℕ
start_of_entry None = 0
start_of_entry (Some None) = 0
start_of_entry (Some (Some entry)) = entry.start

abbrev pub start_or : ℕ → Option ℕ → ℕ
start_or other None = other
start_or other (Some start) = start

abbrev pub key_start : List EventInText → ℕ → Option ℕ → ℕ
key_start es i leaf = start_or (start_of_entry (slice_get (map (λ e. e.entry) es) i)) (leaf_start es leaf)

-- a space comes before the `:` of a key
abbrev pub has_space : EventValue → Bool → Bool
has_space (scalar_node props Plain []) leaf = leaf
has_space (alias_node name) leaf = true
has_space _ leaf = false

abbrev pub colon_width : EventValue → Bool → ℕ
colon_width e leaf = if has_space e leaf then 2 else 1

abbrev pub key_width : Option ℕ → ℕ → ℕ
key_width None colon = colon
key_width (Some width) colon = further width colon

abbrev pub key_of : List EventInText → EventValue → ℕ → Measure → Bool → PendingKey
key_of es e i m implicit = record {
  is_implicit = implicit;
  width = key_width m.width (colon_width e (is_leaf_at i m.first_leaf));
  start = key_start es i m.last_leaf;
}

-- the comment after the one offset and before the other
abbrev pub comment_between : List CommentValue → ℕ → Option ℕ → Option ℕ
comment_between cs from None = None
comment_between cs from (Some to) = first_index (λ c. nat_lt from c.offset && nat_lt c.offset to) cs

abbrev pub trailing_comment : List CommentValue → List EventInText → ℕ → ℕ → Measure → Option ℕ
trailing_comment cs es start i m =
    if is_leaf_at i m.first_leaf || m.can_be_kept then comment_between cs start (leaf_start es m.first_leaf) else None

abbrev pub begins_sequence : EventValue → Bool
begins_sequence (sequence_starts flow props) = true
begins_sequence _ = false

abbrev pub value_entries : Style → EventValue → ℕ → ℕ
value_entries s e column = if begins_sequence e && not s.seq_indent then column else further column s.indent

-- a comment stays if it trails the key
abbrev pub comment_if : Bool → ℕ → Option ℕ
comment_if true comment = Some comment
comment_if false comment = None

abbrev pub context_after : Style → ℕ → Measure → ℕ → ℕ → ℕ → Option ℕ → LayoutContext
context_after s i m width column entries None =
    record { column = further (further column width) 1; entries = entries; is_implicit = false; key_comment = None }
context_after s i m width column entries (Some comment) = record {
  column = further column s.indent;
  entries = entries;
  is_implicit = false;
  key_comment = comment_if (is_leaf_at i m.first_leaf || has_room s (further column s.indent) m.width) comment;
}

-- the margins and the role of an implicit key's value
abbrev pub value_place : DecideInput → EventValue → ℕ → Measure → PendingKey → ℕ → LayoutContext
value_place g e i m key column =
    context_after g.style i m key.width column (value_entries g.style e column) (trailing_comment g.comments g.events key.start i m)

abbrev pub key_place : Style → ℕ → Bool → LayoutContext
key_place s column implicit = record {
  column = if implicit then column else further column s.indent;
  entries = further column s.indent;
  is_implicit = implicit;
  key_comment = None;
}

-- the margins and the role of a key, if none waits for its value, and of a value
abbrev pub place_in_map : DecideInput → EventValue → ℕ → Measure → ℕ → Option PendingKey → LayoutContext
place_in_map g e i m column None = key_place g.style column (may_be_implicit g.style column m.can_be_kept m.width)
place_in_map g e i m column (Some key) =
    if key.is_implicit then value_place g e i m key column else place_at (further column g.style.indent)

abbrev pub key_after : DecideInput → EventValue → ℕ → Measure → ℕ → Option PendingKey → Option PendingKey
key_after g e i m column None = Some (key_of g.events e i m (may_be_implicit g.style column m.can_be_kept m.width))
key_after g e i m column (Some key) = None

-- the margins and the role of the next node in the open block collections, the innermost first

abbrev pub next_place : DecideInput → EventValue → ℕ → Measure → List LayoutFrame → LayoutContext
next_place g e i m [] = place_at 0
next_place g e i m (level ∷ stack) =
    if level.is_map then place_in_map g e i m level.column level.key else place_at (further level.column g.style.indent)

abbrev pub next_stack : DecideInput → EventValue → ℕ → Measure → List LayoutFrame → List LayoutFrame
next_stack g e i m [] = []
next_stack g e i m (level ∷ stack) =
    record { is_map = level.is_map; column = level.column; key = if level.is_map then key_after g e i m level.column level.key else level.key }
    ∷ stack

-- Events.

-- the forms so far, the open block collections, and the index of the last event that is already decided
pub record DecideState : Type 0 where
  pub list : List Form
  pub stack : List LayoutFrame
  pub done : ℕ

abbrev pub state : List Form → List LayoutFrame → ℕ → DecideState
state list stack done = record { list = list; stack = stack; done = done }

abbrev pub is_kept : Style → ℕ → Measure → Bool
is_kept s column m = m.can_be_kept && has_room s column m.width

abbrev pub form_at : Style → LayoutContext → Measure → Form
form_at s place m = record {
  is_kept = is_kept s place.column m;
  is_implicit = place.is_implicit;
  key_comment = place.key_comment;
  column = place.entries;
}

-- whether the first event of a node decides all of it: the node is kept on one line, is a leaf with characters, or has
-- only this event
abbrev pub is_whole : ℕ → Measure → Bool → Bool
is_whole i m kept = if kept then true else (if is_leaf_at i m.first_leaf then true else m.last == i)

abbrev pub after_node : ℕ → Measure → Bool → LayoutFrame → List Form → List LayoutFrame → Bool → DecideState
after_node i m is_map level list stack true = state list stack m.last
after_node i m is_map level list stack false = state list (level ∷ stack) i

abbrev pub node_at : DecideInput → ℕ → Measure → Bool → LayoutContext → List Form → List LayoutFrame → DecideState
node_at g i m is_map place list stack =
    after_node i m is_map (record { is_map = is_map; column = place.entries; key = None }) (list ++ form_at g.style place m ∷ []) stack
    (is_whole i m (is_kept g.style place.column m))

abbrev pub node : DecideInput → EventValue → ℕ → Measure → Bool → List Form → List LayoutFrame → DecideState
node g e i m is_map list stack = node_at g i m is_map (next_place g e i m stack) list (next_stack g e i m stack)

abbrev pub outside : List LayoutFrame → List LayoutFrame
outside [] = []
outside (level ∷ stack) = stack

-- the state after the event at index i, which begins a node with the measure m or begins none
abbrev pub past : DecideInput → EventValue → ℕ → Measure → List Form → List LayoutFrame → DecideState
past g (scalar_node props style text) i m list stack = node g (scalar_node props style text) i m false list stack
past g (alias_node name) i m list stack = node g (alias_node name) i m false list stack
past g (sequence_starts flow props) i m list stack = node g (sequence_starts flow props) i m false list stack
past g (mapping_starts flow props) i m list stack = node g (mapping_starts flow props) i m true list stack
past g sequence_ends i m list stack = state (list ++ no_form ∷ []) (outside stack) i
past g mapping_ends i m list stack = state (list ++ no_form ∷ []) (outside stack) i
past g _ i m list stack = state (list ++ no_form ∷ []) stack i

-- the state after the next event, which has the number of forms so far as its index; within a node that is already
-- decided the event gets `no_form`
abbrev pub next : DecideInput → List Measure → EventValue → DecideState → DecideState
next g ms e f =
    if nat_lt f.done (length f.list) then past g e (length f.list) (get_or ms (length f.list) no_measure) f.list f.stack
    else state (f.list ++ no_form ∷ []) f.stack f.done

-- the state after all these events
unfoldable pub pass : DecideInput → List Measure → List EventInText → DecideState → DecideState
pass g ms [] f = f
pass g ms (e ∷ es) f = pass g ms es (next g ms e.event f)
