-- The tie between the reader's stack and the recursive reader: for each open collection, its contents so far and its
-- outcome after that of the awaited part; and the flat lists of events, comments and escapes written so far.
use Rattle.std.specs.Prelude.{◌≡◌, ◌≢◌, ℕ, suc, max, ◌+◌, ℤ, Bool, true, false, List, [], ◌∷◌, ◌++◌, length, Option, Some, None}
use Rattle.yf_chars.specs.declared.context.Ctx.{Ctx}
use Rattle.yf_chars.specs.Text.{code}
use Rattle.yf_comments.specs.Comment.{CommentValue}
use Rattle.yf_props.specs.Props.{no_props}
use Rattle.yf_events.specs.Event.{EventValue, EventInText, mapping_starts, mapping_ends, sequence_ends}
use Rattle.yf_events.specs.Edit.{ended}
use Rattle.yf_events.specs.declared.event.Entry as TheEntry
use Rattle.yf_events.specs.declared.part.Part.{Part}
use Rattle.yf_grammar.specs.Productions.Grammar.{closing}
use Rattle.yf_grammar.specs.Productions.Meaning.{Meaning, ◌⊕◌, noting, entering, plain_event, end_of}
use Rattle.yf_grammar.specs.Productions.ReadParts.{NotedSince}
use Rattle.yf_grammar.specs.FlowReader.Parser.{ParsedNode, AContent, ANode, ColonAt, Parses, only}
use Rattle.yf_grammar.specs.FlowReader.FlowContinuations.{ended_at, EntriesAwaited, SeparationAwaited, IsEntry, with_pair, wrapped, KeyAwaited, ValueAwaited, ValueNodeAwaited, ItemAwaited, is_entry_end, Before, NodeOver, Within}
use Rattle.yf_flow.specs.declared.frame.Frame.{Frame}
use Rattle.yf_flow.specs.declared.frame.CollectionKind.{CollectionKind}
use Rattle.yf_flow.specs.declared.frame.CollectionKind.TheVariants.{Sequence, Mapping, Pair}
use Rattle.yf_flow.specs.declared.frame.Role.{Role}
use Rattle.yf_flow.specs.declared.frame.Role.TheVariants.{Item, Key, Value}
use Rattle.yf_flow.specs.declared.frame.Node as TheNode
use Rattle.yf_flow.specs.declared.frame.Step.{Step}
use Rattle.yf_flow.specs.declared.frame.Step.TheVariants.{Node, Entry, Ended, Done, Failed, TooDeep}
use Rattle.yf_flow.specs.NodeParts.{opened_event, comments_before}
use Rattle.yf_flow.specs.NodeStarts.{is_lined}

-- an event with the note of its entry filled in
pub data NoteOf (t : List ℕ) : EventInText → EventInText → Type 0 where
  entryless : {e : EventInText} → e.entry ≡ None → NoteOf t e e
  entry_noted : {e : EventInText} {b : Bool} (entry : TheEntry.Entry) → e.entry ≡ Some entry → NotedSince t 0 entry.start b
      → NoteOf t e (record e { entry = Some (record entry { blank_before = b }) })

pub record NoteFilled (t : List ℕ) (e f : EventInText) : Type 0 where
  pub no_lines : is_lined e.event ≡ false
  pub note : NoteOf t e f

-- events with the notes of their entries filled in, after a number of unchanged ones
pub data NotesFilled (t : List ℕ) : ℕ → List EventInText → List EventInText → Type 0 where
  no_events : NotesFilled t 0 [] []
  kept_before : {kept : ℕ} {e : EventInText} {x y : List EventInText} → NotesFilled t kept x y → NotesFilled t (suc kept) (e ∷ x) (e ∷ y)
  event_before : {e f : EventInText} {x y : List EventInText} → NoteFilled t e f → NotesFilled t 0 x y → NotesFilled t 0 (e ∷ x) (f ∷ y)

-- an entry that begins at s, with its note
pub record EntryNoted (t : List ℕ) (s : ℕ) (colon : Option ℕ) (entry : TheEntry.Entry) : Type 0 where
  pub start : entry.start ≡ s
  pub colon_there : entry.colon ≡ colon
  pub note : NotedSince t 0 s entry.blank_before

-- the meaning written so far, after a number of unchanged events
pub record PartSoFar (t : List ℕ) (kept : ℕ) (w : Meaning) (part : Part) : Type 0 where
  pub events : NotesFilled t kept w.events part.events
  pub comments : part.comments ≡ w.comments
  pub escapes : part.escapes ≡ w.escapes

-- one event
abbrev pub one : EventInText → Meaning
one e = record { events = e ∷ []; comments = []; escapes = []; finish = 0 }

-- an event without a span, which may begin an entry; the entry of an awaited node
abbrev pub entry_from : ℕ → TheEntry.Entry
entry_from s = record { start = s; colon = None; blank_before = false }

abbrev pub entry_of : Role → ℕ → Option TheEntry.Entry
entry_of Value s = None
entry_of _ s = Some (entry_from s)

abbrev pub in_role : Role → ℕ → Meaning → Meaning
in_role Value s x = x
in_role _ s x = entering s None x

-- the event that begins a single pair, before its end is set, and before the pair's contents
abbrev pub pair_event : ℕ → EventInText
pair_event s = record { event = mapping_starts true no_props; span = Some (record { start = s; end = s }); tag_offset = None; entry = Some (entry_from s); folded = [] }

abbrev pub ahead : Bool → ℕ → Meaning → Meaning
ahead false s y = y
ahead true s y = record y { events = pair_event s ∷ y.events }

-- the meaning written with these entries of a collection, and with its present one
abbrev pub entries_written : Meaning → EventInText → Meaning → Meaning
entries_written w begin x = w ⊕ one begin ⊕ x

abbrev pub entry_written : Meaning → EventInText → Meaning → Bool → ℕ → Meaning → Meaning
entry_written w begin x pair s y = entries_written w begin x ⊕ ahead pair s y

abbrev pub kind_of : Bool → CollectionKind
kind_of true = Sequence
kind_of false = Mapping

-- the frame of a collection with room for e more and at most h open at once; its first event has the index m
pub record CollectionFrame (limit e h m : ℕ) (sequence : Bool) (f : Frame) : Type 0 where
  pub kind : f.kind ≡ kind_of sequence
  pub event : f.event ≡ m
  pub room : f.depth + e ≡ limit
  pub deepest : f.deepest ≡ f.depth + h

pub record PairFrame (limit e g m : ℕ) (f : Frame) : Type 0 where
  pub kind : f.kind ≡ Pair
  pub event : f.event ≡ m
  pub room : f.depth + e ≡ limit
  pub deepest : f.deepest ≡ f.depth + g

-- the frames of the present entry's collection: a single pair has its own frame on that of its sequence
pub data FramesOfEntry (limit : ℕ) : Bool → Bool → ℕ → ℕ → ℕ → ℕ → ℕ → Frame → List Frame → Type 0 where
  of_collection : {sequence : Bool} {e h g m k : ℕ} {f : Frame} → CollectionFrame limit e (max h g) m sequence f → FramesOfEntry limit sequence false e h g m k f []
  of_pair : {e h g m k : ℕ} {f s : Frame} → PairFrame limit e g k f → CollectionFrame limit (suc e) h m true s → FramesOfEntry limit true true e h g m k f (s ∷ [])

-- the node that the present entry awaits
pub data NodeIn (t : List ℕ) (n : ℤ) (d : Ctx) (s : ℕ) : Role → Bool → ℕ → Bool → ℕ → ℕ → Meaning → Type 0 where
  item_in : {e : ℕ} → ItemAwaited t n d s → NodeIn t n d s Item true e false s 0 (only [] 0)
  key_in : {sequence pair : Bool} {e p : ℕ} {x : Meaning} → KeyAwaited t e sequence n d pair s x p → (ColonAt t false d p → ⊥)
      → NodeIn t n d s Key sequence e pair p 0 x
  value_in : {sequence pair : Bool} {e p h : ℕ} {x : Meaning} → ValueNodeAwaited t e sequence n d pair s h x p → is_entry_end (code t p) ≡ false
      → NodeIn t n d s Value sequence e pair p h x

-- the outermost collection: its bracket, its context, the limit for it and those in it, the limit with those around
-- it, and the earlier meaning
pub record Base : Type 0 where
  pub sequence : Bool
  pub place : ℕ
  pub context : Ctx
  pub limit : ℕ
  pub total : ℕ
  pub written : Meaning
  pub event : EventInText

-- the events before the outermost collection and the one that begins it stay unchanged
abbrev pub first_events : Base → ℕ
first_events base = suc (length base.written.events)

pub record IsBase (base : Base) (sequence : Bool) (i : ℕ) (c : Ctx) (e : ℕ) (w : Meaning) (begin : EventInText) : Type 0 where
  pub sequence_flag : sequence ≡ base.sequence
  pub place : i ≡ base.place
  pub context : c ≡ base.context
  pub limit : e ≡ base.limit
  pub written : w ≡ base.written
  pub event : begin ≡ base.event

-- the collections around one with its bracket at i, the innermost first, with the limit for it and those in it
pub data Below (t : List ℕ) (n : ℤ) (d : Ctx) (base : Base) : List Frame → Bool → ℕ → Ctx → ℕ → Meaning → EventInText → Type 0 where
  outermost : {sequence : Bool} {i e : ℕ} {c : Ctx} {w : Meaning} {begin : EventInText} → IsBase base sequence i c e w begin → Below t n d base [] sequence i c e w begin
  inside : {frames rest all : List Frame} {top : Frame} {i h s g p k e : ℕ} {c : Ctx} {w x y : Meaning} {begin : EventInText} {sequence pair inner : Bool} {role : Role} {b : Before}
      → Below t n d base frames sequence i c (suc (with_pair pair e)) w begin
      → EntriesAwaited t (with_pair pair e) sequence n c d i h x s
      → code t s ≢ closing sequence
      → NodeIn t n d s role sequence e pair p g y
      → FramesOfEntry base.total sequence pair e h g (length w.events) (length (entries_written w begin x).events) top rest
      → top.role ≡ role
      → top.entry ≡ s
      → ((role ≡ Value → ⊥) → top.entry_event ≡ length (entry_written w begin x pair s y).events)
      → NodeOver t n d p k b
      → all ≡ top ∷ (rest ++ frames)
      → Below t n d base all inner k d e (noting (entry_written w begin x pair s y) (comments_before b)) (opened_event p b (entry_of role s) inner k)

-- the present collection awaits entries
pub record AtEntry (t : List ℕ) (n : ℤ) (d : Ctx) (base : Base) (frames : List Frame) (top : Frame) (at : ℕ) (part : Part) : Type 0 where
  pub sequence : Bool
  pub place : ℕ
  pub context : Ctx
  pub limit : ℕ
  pub high : ℕ
  pub before : Meaning
  pub begin : EventInText
  pub known : Meaning
  pub below : Below t n d base frames sequence place context (suc limit) before begin
  pub awaited : SeparationAwaited t limit sequence n context d place high known at
  pub frame : CollectionFrame base.total limit high (length before.events) sequence top
  pub written : PartSoFar t (first_events base) (entries_written before begin known) part

-- after the separation, an entry begins at k, or the bracket is at k
pub record AtPlace (t : List ℕ) (n : ℤ) (d : Ctx) (base : Base) (frames : List Frame) (top : Frame) (k : ℕ) (part : Part) : Type 0 where
  pub sequence : Bool
  pub place : ℕ
  pub context : Ctx
  pub limit : ℕ
  pub high : ℕ
  pub before : Meaning
  pub begin : EventInText
  pub known : Meaning
  pub below : Below t n d base frames sequence place context (suc limit) before begin
  pub entries : EntriesAwaited t limit sequence n context d place high known k
  pub frame : CollectionFrame base.total limit high (length before.events) sequence top
  pub written : PartSoFar t (first_events base) (entries_written before begin known) part

-- the bracket at k closes the collection
pub record AtClosing (t : List ℕ) (n : ℤ) (d : Ctx) (base : Base) (frames : List Frame) (top : Frame) (k : ℕ) (part : Part) : Type 0 where
  pub sequence : Bool
  pub place : ℕ
  pub context : Ctx
  pub limit : ℕ
  pub high : ℕ
  pub before : Meaning
  pub begin : EventInText
  pub known : Meaning
  pub below : Below t n d base frames sequence place context (suc limit) before begin
  pub parsed : Parses t (suc limit) (AContent n context place) (Some (ended_at sequence place high known k))
  pub frame : CollectionFrame base.total limit high (length before.events) sequence top
  pub written : PartSoFar t (first_events base) (entries_written before begin known) part

-- an entry of the collection has been read, and perhaps the separation after it
pub record AtEntryEnd (t : List ℕ) (n : ℤ) (d : Ctx) (base : Base) (frames : List Frame) (top : Frame) (at : ℕ) (part : Part) : Type 0 where
  pub sequence : Bool
  pub place : ℕ
  pub context : Ctx
  pub limit : ℕ
  pub high : ℕ
  pub before : Meaning
  pub begin : EventInText
  pub known : Meaning
  pub start : ℕ
  pub end : ℕ
  pub height : ℕ
  pub meaning : Meaning
  pub comments : List CommentValue
  pub below : Below t n d base frames sequence place context (suc limit) before begin
  pub entries : EntriesAwaited t limit sequence n context d place high known start
  pub open_there : code t start ≢ closing sequence
  pub entry : IsEntry t limit sequence n d start end height meaning
  pub within : Within t n d end at comments
  pub frame : CollectionFrame base.total limit (max high height) (length before.events) sequence top
  pub written : PartSoFar t (first_events base) (entries_written before begin (known ⊕ noting meaning comments)) part

-- the present entry and its collection
pub record InEntry : Type 0 where
  pub sequence : Bool
  pub place : ℕ
  pub context : Ctx
  pub pair : Bool
  pub limit : ℕ
  pub high : ℕ
  pub before : Meaning
  pub begin : EventInText
  pub known : Meaning
  pub start : ℕ
  pub under : List Frame

-- the present entry is tied to the frames: g collections were open at once in it so far
pub record EntryTied (t : List ℕ) (n : ℤ) (d : Ctx) (base : Base) (frames : List Frame) (top : Frame) (g : ℕ) (l : InEntry) : Type 0 where
  pub rest : List Frame
  pub below : Below t n d base l.under l.sequence l.place l.context (suc (with_pair l.pair l.limit)) l.before l.begin
  pub entries : EntriesAwaited t (with_pair l.pair l.limit) l.sequence n l.context d l.place l.high l.known l.start
  pub open_there : code t l.start ≢ closing l.sequence
  pub framed : FramesOfEntry base.total l.sequence l.pair l.limit l.high g (length l.before.events) (length (entries_written l.before l.begin l.known).events) top rest
  pub all : frames ≡ rest ++ l.under

abbrev pub written_in : InEntry → Meaning → Meaning
written_in l y = entry_written l.before l.begin l.known l.pair l.start y

-- the entry has been read, and perhaps the separation after it; its last node or indicator ends at the first offset
pub record AtEntryDone (t : List ℕ) (n : ℤ) (d : Ctx) (base : Base) (frames : List Frame) (top : Frame) (last at : ℕ) (part : Part) : Type 0 where
  pub layer : InEntry
  pub height : ℕ
  pub meaning : Meaning
  pub end : ℕ
  pub comments : List CommentValue
  pub tied : EntryTied t n d base frames top height layer
  pub entry : IsEntry t (with_pair layer.pair layer.limit) layer.sequence n d layer.start end (with_pair layer.pair height) (wrapped layer.pair layer.start meaning)
  pub finish : meaning.finish ≡ last
  pub within : Within t n d end at comments
  pub written : PartSoFar t (first_events base) (written_in layer (noting meaning comments)) part

-- the value of the entry is awaited from its `:` on, after a key of that kind
pub record AtValue (t : List ℕ) (n : ℤ) (d : Ctx) (base : Base) (frames : List Frame) (top : Frame) (json : Bool) (colon : ℕ) (part : Part) : Type 0 where
  pub layer : InEntry
  pub height : ℕ
  pub read : Meaning
  pub tied : EntryTied t n d base frames top height layer
  pub value : ValueAwaited t layer.limit layer.sequence n d layer.pair layer.start json height read colon
  pub entry : top.entry ≡ layer.start
  pub written : PartSoFar t (first_events base) (written_in layer read) part

-- a node of the entry is awaited at p, or it has been read
pub record AtNode (t : List ℕ) (n : ℤ) (d : Ctx) (base : Base) (frames : List Frame) (top : Frame) (p : ℕ) (part : Part) : Type 0 where
  pub layer : InEntry
  pub height : ℕ
  pub read : Meaning
  pub tied : EntryTied t n d base frames top height layer
  pub node : NodeIn t n d layer.start top.role layer.sequence layer.limit layer.pair p height read
  pub entry : top.entry ≡ layer.start
  pub index : (top.role ≡ Value → ⊥) → top.entry_event ≡ length (written_in layer read).events
  pub begins : (top.role ≡ Value → ⊥) → code t p ≢ 10 → code t layer.start ≢ 10
  pub written : PartSoFar t (first_events base) (written_in layer read) part

pub record AtEnded (t : List ℕ) (n : ℤ) (d : Ctx) (base : Base) (frames : List Frame) (top : Frame) (node : TheNode.Node) (part : Part) : Type 0 where
  pub layer : InEntry
  pub height : ℕ
  pub read : Meaning
  pub place : ℕ
  pub answer : ParsedNode
  pub tied : EntryTied t n d base frames top height layer
  pub awaited : NodeIn t n d layer.start top.role layer.sequence layer.limit layer.pair place height read
  pub entry : top.entry ≡ layer.start
  pub index : (top.role ≡ Value → ⊥) → top.entry_event ≡ length (written_in layer read).events
  pub parsed : Parses t layer.limit (ANode n d place) (Some answer)
  pub end : node.end ≡ answer.end
  pub json : node.json ≡ answer.json
  pub deepest : node.deepest ≡ top.depth + answer.height
  pub finish : answer.meaning.finish ≡ answer.end
  pub written : PartSoFar t (first_events base) (written_in layer (read ⊕ in_role top.role layer.start answer.meaning)) part

-- the event that ends a collection
unfoldable pub end_event : CollectionKind → EventValue
end_event Sequence = sequence_ends
end_event Mapping = mapping_ends
end_event Pair = mapping_ends

-- the outermost collection has been read
pub record AtDone (t : List ℕ) (n : ℤ) (base : Base) (node : TheNode.Node) (part : Part) : Type 0 where
  pub high : ℕ
  pub known : Meaning
  pub bracket : ℕ
  pub parsed : Parses t base.limit (AContent n base.context base.place) (Some (ended_at base.sequence base.place high known bracket))
  pub end : node.end ≡ bracket + 1
  pub json : node.json ≡ true
  pub deepest : node.deepest + base.limit ≡ base.total + suc high
  pub written : PartSoFar t (first_events base) (entries_written base.written (ended (bracket + 1) base.event) known ⊕ one (plain_event (end_of base.sequence) None)) part

-- no outermost collection is derived
abbrev pub NoBase : List ℕ → ℤ → Base → Type 0
NoBase t n base = Parses t base.limit (AContent n base.context base.place) None

-- the state for each next step
abbrev pub StepTied : List ℕ → ℤ → Ctx → Base → List Frame → Frame → Step → Part → Type 0
StepTied t n d base frames top (Node p) part = AtNode t n d base frames top p part
StepTied t n d base frames top (Entry p) part = AtEntry t n d base frames top p part
StepTied t n d base frames top (Ended node) part = AtEnded t n d base frames top node part
StepTied t n d base frames top (Done node) part = AtDone t n base node part
StepTied t n d base frames top Failed part = NoBase t n base
StepTied t n d base frames top (TooDeep p) part = NoBase t n base
