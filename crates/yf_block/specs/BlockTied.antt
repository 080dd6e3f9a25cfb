-- The tie between the reader's stack and the recursive reader of block nodes: the collection of each frame, and the
-- flat lists of events, comments and escapes written so far, after those of the part to which they are added.
use Rattle.std.specs.Prelude.{◌≡◌, ℕ, ◌+◌, ◌^◌, ◌<◌, ◌≤◌, Bool, true, false, List, [], ◌∷◌, ◌++◌, length, Option, Some, None}
use Rattle.std.specs.Str.{IsUtf8}
use Rattle.yf_comments.specs.Comment.{CommentValue}
use Rattle.yf_comments.specs.Comments.{Blank}
use Rattle.yf_props.specs.Props.{PropsValue, no_props}
use Rattle.yf_events.specs.Event.{EventInText}
use Rattle.yf_events.specs.declared.event.Entry as TheEntry
use Rattle.yf_events.specs.declared.part.Part.{Part}
use Rattle.yf_grammar.specs.Productions.Meaning.{Meaning, ◌⊕◌, noting, start_of, event_with, entering, empty_node}
use Rattle.yf_grammar.specs.Productions.ReadParts.{Noting, NotedSince, floor_after_event}
use Rattle.yf_grammar.specs.FlowReader.Parser.{ParsedNode, only}
use Rattle.yf_grammar.specs.BlockReader.BlockParser.{Ahead, Props}
use Rattle.yf_grammar.specs.BlockReader.BlockStack.{Layer, Stage, AtItem, AtKey, AtLoneValue, AtValue, asks, asked}
use Rattle.yf_grammar.specs.BlockReader.BlockStates.{LayersDeepen}
use Rattle.yf_flow.specs.NodeStarts.{PartGrown}
use Rattle.yf_block.specs.declared.frame.Frame.{Frame}
use Rattle.yf_block.specs.declared.frame.CollectionKind.{CollectionKind}
use Rattle.yf_block.specs.declared.frame.CollectionKind.TheVariants.{Sequence, Mapping}
use Rattle.yf_block.specs.declared.frame.BlockCursor.{BlockCursor}
use Rattle.yf_block.specs.declared.frame.Step.{Step}
use Rattle.yf_block.specs.declared.frame.Step.TheVariants.{Node}
use Rattle.yf_block.specs.declared.frame.AwaitedNode.{AwaitedNode}

abbrev pub kind_of : Bool → CollectionKind
kind_of true = Sequence
kind_of false = Mapping

-- the start of the entry that the awaited node begins, if it begins one: a value does not
abbrev pub stage_entry : Stage → Option ℕ
stage_entry (AtItem i) = Some i
stage_entry (AtKey i) = Some i
stage_entry (AtLoneValue i) = None
stage_entry (AtValue i k f) = None

abbrev pub layers_entry : List Layer → Option ℕ
layers_entry [] = None
layers_entry (l ∷ ls) = stage_entry l.stage

abbrev pub begins : Option ℕ → Meaning → Meaning
begins None x = x
begins (Some i) x = entering i None x

-- the events of the present entry before its awaited node
abbrev pub stage_written : Stage → Meaning
stage_written (AtItem i) = only [] 0
stage_written (AtKey i) = only [] 0
stage_written (AtLoneValue i) = entering i (Some i) (empty_node i)
stage_written (AtValue i k f) = entering i (Some k) f.meaning

-- the properties ahead of a node with their comments, and its start if it would begin at p without them
abbrev pub ahead_comments : Ahead → List CommentValue
ahead_comments (Props h) = h.value.comments
ahead_comments _ = []

abbrev pub ahead_props : Ahead → PropsValue
ahead_props (Props h) = h.value.props
ahead_props _ = no_props

abbrev pub ahead_tag : Ahead → Option ℕ
ahead_tag (Props h) = h.value.tag_offset
ahead_tag _ = None

abbrev pub ahead_start : Ahead → ℕ → ℕ
ahead_start (Props h) p = h.start
ahead_start _ p = p

-- an entry that begins at an offset, before its note is filled in
abbrev pub entry_at : Option ℕ → Option TheEntry.Entry
entry_at None = None
entry_at (Some i) = Some (record { start = i; colon = None; blank_before = false })

-- one event, and the event that begins a collection before its end is set
abbrev pub one : EventInText → Meaning
one e = record { events = e ∷ []; comments = []; escapes = []; finish = 0 }

abbrev pub begun_event : Layer → Option TheEntry.Entry → EventInText
begun_event l entry = record {
  event = event_with (ahead_props l.ahead) (start_of l.sequence false);
  span = Some (record { start = ahead_start l.ahead l.first; end = l.first });
  tag_offset = ahead_tag l.ahead;
  entry = entry;
  folded = [];
}

-- the events up to the present entry of a collection, after the events written before the collection
abbrev pub entries_after : Meaning → Layer → List Layer → Meaning
entries_after w l ls = noting w (l.comments ++ ahead_comments l.ahead) ⊕ one (begun_event l (entry_at (layers_entry ls))) ⊕ l.known

-- the events before the awaited node of the innermost collection, from the outermost node on
abbrev pub all_written : List Layer → Meaning
all_written [] = only [] 0
all_written (l ∷ ls) = entries_after (all_written ls) l ls ⊕ stage_written l.stage

abbrev pub entries_written : Layer → List Layer → Meaning
entries_written l ls = entries_after (all_written ls) l ls

-- a part has this meaning more than an earlier one, with the notes of its entries filled in
pub record PartSoFar (t : List ℕ) (before : Part) (x : Meaning) (part : Part) : Type 0 where
  pub events : List EventInText
  pub noting : Noting t 0 x.events events
  pub added : PartGrown before part events x.comments x.escapes

-- the end of the last block scalar of some events
abbrev pub floor_after : ℕ → List EventInText → ℕ
floor_after floor [] = floor
floor_after floor (e ∷ es) = floor_after (floor_after_event floor e e.event) es

-- a text as the program reads it: at most 1 GiB
pub record TextTied (t : List ℕ) : Type 0 where
  pub utf8 : IsUtf8 t
  pub size : length t ≤ 2 ^ 30

-- this meaning has been read; the last block scalar ends at the start of a line, or at the end of the text
pub record ReadTied (t : List ℕ) (before : Part) (x : Meaning) (progress : BlockCursor) (part : Part) : Type 0 where
  pub text : TextTied t
  pub floor : progress.floor ≡ floor_after 0 x.events
  pub floor_line : progress.floor < length t → Blank t progress.floor
  pub written : PartSoFar t before x part

-- a frame ties to a collection that awaits an entry (m is the number of events of the part before), and to one that
-- awaits a node
pub record CollectionTied (m : ℕ) (l : Layer) (ls : List Layer) (f : Frame) : Type 0 where
  pub kind : f.kind ≡ kind_of l.sequence
  pub column : f.column ≡ l.column
  pub event : f.event ≡ m + length (all_written ls).events

pub record FrameTied (m : ℕ) (l : Layer) (ls : List Layer) (f : Frame) : Type 0 where
  pub collection : CollectionTied m l ls f
  pub awaits : f.awaits_colon ≡ asks l.stage
  pub entry : asks l.stage ≡ true → f.entry_event ≡ m + length (entries_written l ls).events

-- frames for collections, the innermost first
pub data FramesTied (m : ℕ) : List Frame → List Layer → Type 0 where
  no_frames : FramesTied m [] []
  frame_tied : {f : Frame} {fs : List Frame} {l : Layer} {ls : List Layer} → FrameTied m l ls f → FramesTied m fs ls → FramesTied m (f ∷ fs) (l ∷ ls)

-- the number of `:` that a frame awaits
abbrev pub colons_if : Bool → ℕ
colons_if true = 1
colons_if false = 0

-- the end of the remaining part of a broken node
abbrev pub halt_end : Option ParsedNode → Option ℕ
halt_end None = None
halt_end (Some f) = Some f.end

-- the open collections, and the last offset at which all of them may end
pub record StackTied (m : ℕ) (ls : List Layer) (frames : List Frame) (progress : BlockCursor) (halt : Option ParsedNode) : Type 0 where
  pub order : LayersDeepen ls
  pub frames_tied : FramesTied m frames ls
  pub colons : progress.colons ≡ length (asked ls)
  pub halted : progress.halt ≡ halt_end halt

-- the entry that the awaited node begins, with its note
pub data EntryTied (t : List ℕ) (floor : ℕ) : Option ℕ → Option TheEntry.Entry → Type 0 where
  no_entry : EntryTied t floor None None
  entry_begins : {i : ℕ} {b : Bool} → NotedSince t floor i b → EntryTied t floor (Some i) (Some (record { start = i; colon = None; blank_before = b }))

-- the node awaited after an indicator in a collection at that column
abbrev pub wanted_after : ℕ → Bool → Bool → Option TheEntry.Entry → AwaitedNode
wanted_after column compact out entry = record { least = column + 1; out = out; compact = compact; entry = entry; outer = None }

-- it is awaited after the indicator at an offset
pub record NodeAwaited (at column : ℕ) (compact out : Bool) (entry : Option TheEntry.Entry) (old new : BlockCursor) (s : Step) : Type 0 where
  pub floor : new.floor ≡ old.floor
  pub from : new.from ≡ old.from
  pub halt : new.halt ≡ old.halt
  pub last : new.last ≡ at + 1
  pub colons : new.colons ≡ old.colons
  pub wanted : column ≤ at → new.wanted ≡ wanted_after column compact out entry
  pub step : s ≡ Node (at + 1)
