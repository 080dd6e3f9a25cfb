-- The pass over the events that prints a reading, one event at a time. Columns count from 0.
use Rattle.std.specs.Prelude.{ℕ, ◌+◌, ◌-◌, ◌==◌, Bool, true, false, not, ◌&&◌, nat_lt, nat_le, is_some, if◌then◌else◌, List, [], ◌∷◌, ◌++◌, codes, drop, flat_map, get_or, replicate, slice_get, Option, Some, None}
use Rattle.yf_props.specs.Props.{PropsValue}
use Rattle.yf_events.specs.Event.{EventValue, EventInText, stream_starts, stream_ends, document_starts, document_ends, sequence_starts, sequence_ends, mapping_starts, mapping_ends, scalar_node, alias_node}
use Rattle.yf_events.specs.declared.directive.Directive.{Directive}
use Rattle.yf_events.specs.declared.document.Doc.{Doc}
use Rattle.yf_events.specs.declared.event.Entry.{Entry}
use Rattle.yf_events.specs.declared.event.ScalarStyle.{ScalarStyle}
use Rattle.yf_events.specs.declared.event.ScalarStyle.TheVariants.{Plain, Single, Double, Literal, Folded}
use Rattle.yf_events.specs.declared.event.Span.{Span}
use Rattle.yf_events.specs.Tree.{starts_of_entry}
use Rattle.yf_forms.specs.declared.form.decide.Form.{Form}
use Rattle.yf_forms.specs.declared.form.measure.Measure.{Measure}
use Rattle.yf_print.specs.declared.printer.FrameState.{FrameState}
use Rattle.yf_print.specs.declared.printer.FrameState.TheVariants.{Item, Key, Value, ExplicitValue}
use Rattle.yf_print.specs.declared.printer.PrintFrame.{PrintFrame}
use Rattle.yf_print.specs.declared.printer.Role.{Role}
use Rattle.yf_forms.specs.declared.style.Style.{Style}
use Rattle.yf_print.specs.Layouts.BareSearch.{is_found_bare}
use Rattle.yf_forms.specs.Nodes.BlockLines.{block_lines, final_feeds, header_text, is_kept_tail}
use Rattle.yf_forms.specs.Passes.DecidePass.{further, has_space, is_leaf_at}
use Rattle.yf_print.specs.Passes.Drafts.{Draft, no_draft, opened, past, with_blank, with_body, with_key_trail, with_text, with_trail, without_blank, finished, with_start}
use Rattle.yf_print.specs.Passes.PrintWork.{Work, remarks_of}
use Rattle.yf_forms.specs.NormalForms.Forms.{no_form}
use Rattle.yf_forms.specs.Nodes.Lines.{ended, is_empty_text}
use Rattle.yf_forms.specs.NormalForms.Measures.{no_measure}
use Rattle.yf_forms.specs.Nodes.OneLine.{props_text, scalar_text, space_after}
use Rattle.yf_forms.specs.Passes.OneLinePass as OneLineRun
use Rattle.yf_print.specs.Layouts.Rows.{joined_words, start_of}

abbrev pub next_line : Work → ℕ → Draft → Draft
next_line g column d = opened (remarks_of g) column d

-- Documents.

abbrev pub space_text : Bool → List ℕ
space_text true = 32 ∷ []
space_text false = []

-- words, each after a space
abbrev pub more_words : List (List ℕ) → List ℕ
more_words [] = []
more_words (w ∷ ws) = 32 ∷ (w ++ more_words ws)

-- words after others if the flag is true, otherwise the first ones
abbrev pub words_from : Bool → List (List ℕ) → List ℕ
words_from true ws = more_words ws
words_from false ws = joined_words ws

abbrev pub directive_lines : Work → List Directive → Draft → Draft
directive_lines g [] d = d
directive_lines g (x ∷ xs) d = directive_lines g xs (next_line g 0 (with_text (37 ∷ joined_words x.words) d))

abbrev pub end_line : Work → Bool → Draft → Draft
end_line g true d = d
end_line g false d = next_line g 0 (with_text (codes "...") d)

abbrev pub directives : Work → Bool → List Directive → Draft → Draft
directives g is_first [] d = d
directives g is_first (x ∷ xs) d = directive_lines g (x ∷ xs) (end_line g is_first d)

abbrev pub document_begun : Work → Bool → Doc → Draft → Draft
document_begun g is_first x d = directives g is_first x.directives (past g.reading.comments x.start d)

abbrev pub marked : Draft → Draft
marked d = without_blank (with_text (codes "---") d)

-- Nodes.

-- the role of the node, and the separation before its text
abbrev pub before_value : Work → Option ℕ → ℕ → Draft → Draft
before_value g None column d = with_text (32 ∷ []) d
before_value g (Some k) column d =
    next_line g (further column g.style.indent) (without_blank (with_key_trail g.reading.comments (Some k) d))

abbrev pub before_text : Work → Form → Role → Draft → Draft
before_text g f Role.Root d = next_line g 0 d
before_text g f (Role.After column) d = with_text (replicate (g.style.indent - 1) 32) d
before_text g f Role.Key d = d
before_text g f (Role.Value column) d = before_value g f.key_comment column d

abbrev pub lines_column : ℕ → Role → ℕ
lines_column indent Role.Root = indent
lines_column indent Role.Key = indent
lines_column indent (Role.After column) = further column indent
lines_column indent (Role.Value column) = further column indent

abbrev pub blank_unless : Bool → Draft → Draft
blank_unless true d = without_blank d
blank_unless false d = d

abbrev pub with_block : Style → Role → ScalarStyle → List ℕ → List (List ℕ) → Draft → Draft
with_block s role style text lines d =
    with_body (flat_map ended (block_lines style (lines_column s.indent role) text lines))
    (blank_unless (is_kept_tail (final_feeds text)) (with_text (header_text style s.indent text) d))

abbrev pub with_props_before : PropsValue → Draft → Draft
with_props_before props d = with_text (space_after (props_text props)) d

abbrev pub with_scalar : Style → Role → PropsValue → ScalarStyle → List ℕ → List (List ℕ) → Draft → Draft
with_scalar s role props Plain [] lines d = with_text (props_text props) d
with_scalar s role props Plain (b ∷ text) lines d = with_text (scalar_text s Plain (b ∷ text)) (with_props_before props d)
with_scalar s role props Single text lines d = with_text (scalar_text s Single text) (with_props_before props d)
with_scalar s role props Double text lines d = with_text (scalar_text s Double text) (with_props_before props d)
with_scalar s role props Literal text lines d = with_block s role Literal text lines (with_props_before props d)
with_scalar s role props Folded text lines d = with_block s role Folded text lines (with_props_before props d)

-- a flow collection with the events between two indices
abbrev pub with_kept : Work → ℕ → ℕ → PropsValue → Draft → Draft
with_kept g i last props d =
    with_text (OneLineRun.run g.style [] (OneLineRun.between i last g.reading.events)) (with_props_before props d)

abbrev pub with_node_event : Work → ℕ → ℕ → EventValue → List (List ℕ) → Role → Draft → Draft
with_node_event g i last (scalar_node props style text) lines role d = with_scalar g.style role props style text lines d
with_node_event g i last (alias_node name) lines role d = with_text (42 ∷ name) d
with_node_event g i last (sequence_starts flow props) lines role d = with_kept g i last props d
with_node_event g i last (mapping_starts flow props) lines role d = with_kept g i last props d
with_node_event g i last stream_starts lines role d = d
with_node_event g i last stream_ends lines role d = d
with_node_event g i last (document_starts b) lines role d = d
with_node_event g i last (document_ends b) lines role d = d
with_node_event g i last sequence_ends lines role d = d
with_node_event g i last mapping_ends lines role d = d

abbrev pub with_node : Work → ℕ → ℕ → EventInText → Role → Draft → Draft
with_node g i last e role d = with_node_event g i last e.event e.folded role d

-- the contents of a node on one line: its leaves and their comments, and its entries

abbrev pub leaf_noted : Work → ℕ → Option Span → Draft → Draft
leaf_noted g j None d = d
leaf_noted g j (Some span) d = with_trail g.reading.comments (get_or g.trails j None) (past g.reading.comments span.start d)

abbrev pub leaf_noted_if : Bool → Work → ℕ → Option Span → Draft → Draft
leaf_noted_if true g j span d = leaf_noted g j span d
leaf_noted_if false g j span d = d

abbrev pub is_leaf : Work → ℕ → Bool
is_leaf g j = is_leaf_at j (get_or g.measures j no_measure).first_leaf

abbrev pub entry_met : Work → Option Entry → Draft → Draft
entry_met g None d = d
entry_met g (Some entry) d = past g.reading.comments entry.start d

abbrev pub event_noted : Work → ℕ → EventInText → Draft → Draft
event_noted g j e d = leaf_noted_if (is_leaf g j) g j e.span (entry_met g e.entry d)

-- the events from index j up to `last`
unfoldable pub events_noted : Work → ℕ → ℕ → List EventInText → Draft → Draft
events_noted g last j [] d = d
events_noted g last j (e ∷ es) d = if nat_le j last then events_noted g last (j + 1) es (event_noted g j e d) else d

abbrev pub node_noted : Work → ℕ → ℕ → EventInText → Draft → Draft
node_noted g i last e d =
    events_noted g last (i + 1) (drop (i + 1) g.reading.events) (leaf_noted_if (is_leaf g i) g i e.span d)

abbrev pub text_if : Bool → Work → ℕ → Measure → Form → EventInText → Role → Draft → Draft
text_if true g i m f e role d = node_noted g i m.last e (with_node g i m.last e role (before_text g f role d))
text_if false g i m f e role d = d

abbrev pub colon_text : Bool → List ℕ
colon_text true = codes " :"
colon_text false = codes ":"

abbrev pub colon_if : Role → Bool → Draft → Draft
colon_if Role.Key space d = with_text (colon_text space) d
colon_if Role.Root space d = d
colon_if (Role.After column) space d = d
colon_if (Role.Value column) space d = d

-- a leaf, an empty node or a flow collection on one line, and the `:` after a key
abbrev pub leaf : Work → ℕ → Measure → Form → EventInText → Role → Draft → Draft
leaf g i m f e role d =
    colon_if role (has_space e.event (is_leaf_at i m.first_leaf)) (text_if (is_some m.first_leaf) g i m f e role d)

-- Block collections.

abbrev pub props_line : Work → Bool → Draft → Draft
props_line g true d = without_blank (next_line g 0 d)
props_line g false d = d

abbrev pub space_if : Bool → Draft → Draft
space_if true d = with_text (32 ∷ []) d
space_if false d = d

abbrev pub before_collection : Work → Bool → Role → Draft → Draft
before_collection g has_props Role.Root d = props_line g has_props d
before_collection g has_props (Role.After column) d = blank_unless has_props (with_text (replicate (g.style.indent - 1) 32) d)
before_collection g has_props Role.Key d = without_blank (space_if has_props d)
before_collection g has_props (Role.Value column) d = without_blank (space_if has_props d)

abbrev pub has_props : PropsValue → Bool
has_props props = not (is_empty_text (props_text props))

abbrev pub collection_begun : Work → PropsValue → Role → Draft → Draft
collection_begun g props role d = with_text (props_text props) (before_collection g (has_props props) role d)

abbrev pub is_after_sign : Role → Bool
is_after_sign Role.Root = false
is_after_sign (Role.After column) = true
is_after_sign Role.Key = false
is_after_sign (Role.Value column) = false

abbrev pub level_of : Form → Bool → FrameState → Role → PrintFrame
level_of f props first role = record { column = f.column; awaited = first; is_inline = not props && is_after_sign role }

-- Entries.

abbrev pub line_begun : Work → Bool → ℕ → Draft → Draft
line_begun g true column d = d
line_begun g false column d = next_line g column d

abbrev pub blank_noted : Bool → Bool → Draft → Draft
blank_noted true blank d = d
blank_noted false blank d = with_blank blank d

abbrev pub entry_noted : Work → Bool → Option Entry → Draft → Draft
entry_noted g inline None d = d
entry_noted g inline (Some entry) d = past g.reading.comments entry.start (blank_noted inline entry.blank_before d)

abbrev pub entry_begun : Work → Bool → ℕ → Bool → Option Entry → Draft → Draft
entry_begun g inline column is_item entry d =
    entry_noted g inline entry (with_start (remarks_of g) (start_of column is_item (starts_of_entry entry)) (line_begun g inline column d))

abbrev pub colon_past : Work → Option ℕ → Draft → Draft
colon_past g None d = d
colon_past g (Some offset) d = past g.reading.comments offset d

abbrev pub colon_of : Option Entry → Option ℕ
colon_of None = None
colon_of (Some entry) = entry.colon

-- The role of the next node, the state after it, and the text before it.

abbrev pub key_role : Bool → ℕ → Role
key_role true column = Role.Key
key_role false column = Role.After column

abbrev pub role_in : Form → ℕ → FrameState → Role
role_in f column Item = Role.After column
role_in f column Key = key_role f.is_implicit column
role_in f column Value = Role.Value column
role_in f column (ExplicitValue key) = Role.After column

abbrev pub role : Form → List PrintFrame → Role
role f [] = Role.Root
role f (level ∷ levels) = role_in f level.column level.awaited

abbrev pub value_awaited : Bool → Option Entry → FrameState
value_awaited true entry = Value
value_awaited false entry = ExplicitValue entry

abbrev pub awaited_after : Form → Option Entry → FrameState → FrameState
awaited_after f entry Item = Item
awaited_after f entry Key = value_awaited f.is_implicit entry
awaited_after f entry Value = Key
awaited_after f entry (ExplicitValue key) = Key

abbrev pub frames_after : Form → Option Entry → List PrintFrame → List PrintFrame
frames_after f entry [] = []
frames_after f entry (level ∷ levels) =
    record { column = level.column; awaited = awaited_after f entry level.awaited; is_inline = false } ∷ levels

abbrev pub question_if : Bool → Draft → Draft
question_if true d = d
question_if false d = with_text (codes "?") d

-- `entry` is the key's entry
abbrev pub with_colon : Work → ℕ → Option Entry → Draft → Draft
with_colon g column entry d =
    with_text (codes ":") (colon_past g (colon_of entry) (with_start (remarks_of g) (start_of column false (starts_of_entry entry)) (next_line g column d)))

abbrev pub sign_in : Work → Form → Option Entry → Bool → ℕ → FrameState → Draft → Draft
sign_in g f entry inline column Item d = with_text (codes "-") (entry_begun g inline column true entry d)
sign_in g f entry inline column Key d = question_if f.is_implicit (entry_begun g inline column false entry d)
sign_in g f entry inline column Value d = d
sign_in g f entry inline column (ExplicitValue key) d = with_colon g column key d

abbrev pub sign : Work → Form → Option Entry → List PrintFrame → Draft → Draft
sign g f entry [] d = d
sign g f entry (level ∷ levels) d = sign_in g f entry level.is_inline level.column level.awaited d

-- Events.

-- the printed text, the open block collections, the innermost first, the number of documents that have begun, and the
-- index of the last event that was printed or skipped
pub record PrintState : Type 0 where
  pub draft : Draft
  pub levels : List PrintFrame
  pub documents : ℕ
  pub done : ℕ

abbrev pub state : Draft → List PrintFrame → ℕ → ℕ → PrintState
state d levels documents done = record { draft = d; levels = levels; documents = documents; done = done }

-- begins a collection with entries on lines of their own
abbrev pub collection_at : Work → ℕ → Form → PropsValue → FrameState → Role → PrintState → PrintState
collection_at g i f props first role w = record w {
  draft = collection_begun g props role w.draft;
  levels = level_of f (has_props props) first role ∷ w.levels;
  done = i;
}

abbrev pub is_whole : ℕ → Measure → Form → Bool
is_whole i m f = if f.is_kept then true else is_leaf_at i m.first_leaf

abbrev pub leaf_at : Work → ℕ → Measure → Form → EventInText → Role → PrintState → PrintState
leaf_at g i m f e role w = record w { draft = leaf g i m f e role w.draft; done = m.last }

abbrev pub collection_if : Bool → Work → ℕ → Measure → Form → EventInText → PropsValue → FrameState → Role → PrintState → PrintState
collection_if true g i m f e props first role w = leaf_at g i m f e role w
collection_if false g i m f e props first role w = collection_at g i f props first role w

abbrev pub node_in : Work → ℕ → Measure → Form → EventInText → EventValue → Role → PrintState → PrintState
node_in g i m f e (sequence_starts flow props) role w = collection_if (is_whole i m f) g i m f e props Item role w
node_in g i m f e (mapping_starts flow props) role w = collection_if (is_whole i m f) g i m f e props Key role w
node_in g i m f e _ role w = leaf_at g i m f e role w

-- prints the sign before a node
abbrev pub signed : Work → Form → Option Entry → PrintState → PrintState
signed g f entry w = record w { draft = sign g f entry w.levels w.draft; levels = frames_after f entry w.levels }

abbrev pub node : Work → ℕ → Measure → Form → EventInText → PrintState → PrintState
node g i m f e w = node_in g i m f e e.event (role f w.levels) (signed g f e.entry w)

-- a document without its `---` begins on the line of its root
abbrev pub document_in : Bool → Work → ℕ → Doc → Draft → Draft
document_in true g documents x d = past g.reading.comments x.start d
document_in false g documents x d = marked (document_begun g (documents == 0) x (next_line g 0 d))

abbrev pub document_printed : Work → ℕ → Option Doc → Draft → Draft
document_printed g documents None d = marked (next_line g 0 d)
document_printed g documents (Some x) d = document_in ((documents == 0) && is_found_bare g.reading g.style) g documents x d

abbrev pub documents_after : ℕ → Option Doc → ℕ
documents_after documents None = documents
documents_after documents (Some x) = documents + 1

abbrev pub document : Work → PrintState → PrintState
document g w = record w {
  draft = document_printed g w.documents (slice_get g.reading.documents w.documents) w.draft;
  documents = documents_after w.documents (slice_get g.reading.documents w.documents);
}

abbrev pub outside : List PrintFrame → List PrintFrame
outside [] = []
outside (level ∷ levels) = levels

abbrev pub past_event : Work → ℕ → Measure → Form → EventInText → EventValue → PrintState → PrintState
past_event g i m f e (scalar_node props style text) w = node g i m f e w
past_event g i m f e (alias_node name) w = node g i m f e w
past_event g i m f e (sequence_starts flow props) w = node g i m f e w
past_event g i m f e (mapping_starts flow props) w = node g i m f e w
past_event g i m f e sequence_ends w = record w { levels = outside w.levels }
past_event g i m f e mapping_ends w = record w { levels = outside w.levels }
past_event g i m f e (document_starts b) w = document g w
past_event g i m f e (document_ends b) w = w
past_event g i m f e stream_starts w = w
past_event g i m f e stream_ends w = w

abbrev pub looked : Work → ℕ → EventInText → PrintState → PrintState
looked g i e w = past_event g i (get_or g.measures i no_measure) (get_or g.forms i no_form) e e.event w

-- the event at index i, which is skipped if it is within a node on one line
abbrev pub next : Work → ℕ → EventInText → PrintState → PrintState
next g i e w = if nat_lt w.done i then looked g i e w else w

-- these events, which begin at index i
unfoldable pub pass : Work → ℕ → List EventInText → PrintState → PrintState
pass g i [] w = w
pass g i (e ∷ es) w = pass g (i + 1) es (next g i e w)

-- before the first event
abbrev pub start : PrintState
start = state no_draft [] 0 0

-- the whole text
abbrev pub printed : Work → List ℕ
printed g = finished (remarks_of g) (pass g 0 g.reading.events start).draft
