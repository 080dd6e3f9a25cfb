-- The steps of the pass that finds the outline of a text, event by event.
use Rattle.std.specs.Prelude.{ℕ, Bool, List, [], ◌∷◌, ◌++◌, Option}
use Rattle.yf_events.specs.Event.{EventValue, EventInText, stream_starts, stream_ends, document_starts, document_ends, sequence_starts, sequence_ends, mapping_starts, mapping_ends, scalar_node, alias_node}
use Rattle.yf_events.specs.declared.event.Entry.{Entry}
use Rattle.yf_events.specs.declared.event.Span.{Span}
use Rattle.yf_outline.specs.Outline.{deeper, entry_part, key_of, root_depth, root_part, scalar_kind, shown}
use Rattle.yf_outline.specs.declared.outline.Frame.{Frame}
use Rattle.yf_outline.specs.declared.outline.Frame.TheVariants as Open
use Rattle.yf_outline.specs.declared.outline.TheConstants.{DEEPEST}
use Rattle.yf_server.specs.declared.analysis.Part.{Part}
use Rattle.yf_server.specs.declared.analysis.PartKind.{PartKind}
use Rattle.yf_server.specs.declared.analysis.PartKind.TheVariants.{Mapping, Sequence, Alias}

-- the part of a node in an open collection; a key has none
abbrev pub found_in : List ℕ → Frame → PartKind → Option Span → Option Entry → List Part
found_in t (Open.Items depth) kind span entry = shown (entry_part t depth kind span (key_of t span entry))
found_in t (Open.Keys depth) kind span entry = []
found_in t (Open.Value depth key) kind span entry = shown (entry_part t depth kind span key)

-- the collection after a node
abbrev pub turned : List ℕ → Frame → Option Span → Option Entry → Frame
turned t (Open.Items depth) span entry = Open.Items depth
turned t (Open.Keys depth) span entry = Open.Value depth (key_of t span entry)
turned t (Open.Value depth key) span entry = Open.Keys depth

-- the depth of the entries of a node in a collection; a key's entries have no parts
abbrev pub inner : Frame → ℕ
inner (Open.Items depth) = deeper depth
inner (Open.Keys depth) = DEEPEST
inner (Open.Value depth key) = deeper depth

-- those of a node in the open collections, the innermost one first
abbrev pub found : List ℕ → Bool → PartKind → Option Span → Option Entry → List Frame → List Part
found t several kind span entry [] = root_part t several span
found t several kind span entry (f ∷ st) = found_in t f kind span entry

abbrev pub after : List ℕ → Option Span → Option Entry → List Frame → List Frame
after t span entry [] = []
after t span entry (f ∷ st) = turned t f span entry ∷ st

abbrev pub depth_in : Bool → List Frame → ℕ
depth_in several [] = root_depth several
depth_in several (f ∷ st) = inner f

abbrev pub without_first : List Frame → List Frame
without_first [] = []
without_first (f ∷ st) = st

abbrev pub next : List ℕ → Bool → EventValue → Option Span → Option Entry → List Frame → List Frame
next t several stream_starts span entry st = st
next t several stream_ends span entry st = st
next t several (document_starts marked) span entry st = st
next t several (document_ends marked) span entry st = st
next t several (sequence_starts flow props) span entry st = Open.Items (depth_in several st) ∷ after t span entry st
next t several sequence_ends span entry st = without_first st
next t several (mapping_starts flow props) span entry st = Open.Keys (depth_in several st) ∷ after t span entry st
next t several mapping_ends span entry st = without_first st
next t several (scalar_node props style text) span entry st = after t span entry st
next t several (alias_node name) span entry st = after t span entry st

abbrev pub found_by : List ℕ → Bool → EventValue → Option Span → Option Entry → List Frame → List Part
found_by t several stream_starts span entry st = []
found_by t several stream_ends span entry st = []
found_by t several (document_starts marked) span entry st = []
found_by t several (document_ends marked) span entry st = []
found_by t several (sequence_starts flow props) span entry st = found t several Sequence span entry st
found_by t several sequence_ends span entry st = []
found_by t several (mapping_starts flow props) span entry st = found t several Mapping span entry st
found_by t several mapping_ends span entry st = []
found_by t several (scalar_node props style text) span entry st = found t several (scalar_kind span) span entry st
found_by t several (alias_node name) span entry st = found t several Alias span entry st

-- the parts found from an event on
abbrev pub run : List ℕ → Bool → List Frame → List EventInText → List Part
run t several st [] = []
run t several st (e ∷ es) = found_by t several e.event e.span e.entry st
    ++ run t several (next t several e.event e.span e.entry st) es
