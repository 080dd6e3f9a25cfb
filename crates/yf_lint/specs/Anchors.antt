-- Anchors that no alias uses, and anchors that are defined again in their document.
use Rattle.std.specs.Prelude.{ℕ, Bool, true, false, if◌then◌else◌, List, [], ◌∷◌, ◌++◌, Option, Some, None}
use Rattle.std.specs.Str.{bytes_eq}
use Rattle.yf_events.specs.Event.{EventValue, EventInText, stream_starts, stream_ends, document_starts, document_ends, sequence_starts, sequence_ends, mapping_starts, mapping_ends, scalar_node, alias_node}
use Rattle.yf_events.specs.declared.event.Span.{Span}

-- the anchor of the node that an event begins
abbrev pub anchor_of : EventValue → Option (List ℕ)
anchor_of stream_starts = None
anchor_of stream_ends = None
anchor_of (document_starts marked) = None
anchor_of (document_ends marked) = None
anchor_of (sequence_starts flow props) = props.anchor
anchor_of sequence_ends = None
anchor_of (mapping_starts flow props) = props.anchor
anchor_of mapping_ends = None
anchor_of (scalar_node props style text) = props.anchor
anchor_of (alias_node name) = None

-- the start of the node with its properties
abbrev pub start_of : Option Span → ℕ
start_of None = 0
start_of (Some span) = span.start

-- the names that are used later; a node with a name as its anchor defines it anew, and a document's end ends its names
abbrev pub unless_defined : Option (List ℕ) → (List ℕ → Bool) → List ℕ → Bool
unless_defined None later name = later name
unless_defined (Some anchor) later name = if bytes_eq anchor name then false else later name

abbrev pub or_named : List ℕ → (List ℕ → Bool) → List ℕ → Bool
or_named alias later name = if bytes_eq alias name then true else later name

abbrev pub no_names : List ℕ → Bool
no_names name = false

abbrev pub used_from : EventValue → (List ℕ → Bool) → List ℕ → Bool
used_from stream_starts later = later
used_from stream_ends later = later
used_from (document_starts marked) later = later
used_from (document_ends marked) later = no_names
used_from (sequence_starts flow props) later = unless_defined props.anchor later
used_from sequence_ends later = later
used_from (mapping_starts flow props) later = unless_defined props.anchor later
used_from mapping_ends later = later
used_from (scalar_node props style text) later = unless_defined props.anchor later
used_from (alias_node alias) later = or_named alias later

-- an alias among these events uses the name as it was defined before them
abbrev pub is_used : List EventInText → List ℕ → Bool
is_used [] = no_names
is_used (e ∷ es) = used_from e.event (is_used es)

abbrev pub unused_at : Option (List ℕ) → ℕ → (List ℕ → Bool) → List ℕ
unused_at None start later = []
unused_at (Some name) start later = if later name then [] else start ∷ []

-- the nodes with anchors that no alias uses
abbrev pub unused : List EventInText → List ℕ
unused [] = []
unused (e ∷ es) = unused_at (anchor_of e.event) (start_of e.span) (is_used es) ++ unused es

-- a name is among these
abbrev pub has : List (List ℕ) → List ℕ → Bool
has [] = no_names
has (x ∷ names) = or_named x (has names)

-- the anchors so far of the document
abbrev pub with_anchor : Option (List ℕ) → List (List ℕ) → List (List ℕ)
with_anchor None names = names
with_anchor (Some name) names = name ∷ names

abbrev pub names_after : EventValue → List (List ℕ) → List (List ℕ)
names_after stream_starts names = names
names_after stream_ends names = names
names_after (document_starts marked) names = []
names_after (document_ends marked) names = names
names_after (sequence_starts flow props) names = with_anchor props.anchor names
names_after sequence_ends names = names
names_after (mapping_starts flow props) names = with_anchor props.anchor names
names_after mapping_ends names = names
names_after (scalar_node props style text) names = with_anchor props.anchor names
names_after (alias_node name) names = names

abbrev pub repeated_at : List (List ℕ) → Option (List ℕ) → ℕ → List ℕ
repeated_at names None start = []
repeated_at names (Some name) start = if has names name then start ∷ [] else []

-- the nodes with anchors that an earlier node of the document has too, after these names
abbrev pub repeated : List (List ℕ) → List EventInText → List ℕ
repeated names [] = []
repeated names (e ∷ es) = repeated_at names (anchor_of e.event) (start_of e.span) ++ repeated (names_after e.event names) es
