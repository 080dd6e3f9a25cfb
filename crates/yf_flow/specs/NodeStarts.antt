-- The beginning of an awaited node: a node without nodes in it, with its additions to the part; the bracket of a
-- collection, and the text before it; nothing; or a bracket that would exceed the limit.
use Rattle.std.specs.Prelude.{◌≡◌, ℕ, ◌+◌, ◌<◌, ◌≤◌, ℤ, Bool, true, false, List, [], ◌∷◌, ◌++◌, length, Option, Some, None}
use Rattle.yf_chars.specs.declared.context.Ctx.{Ctx}
use Rattle.yf_chars.specs.Text.{code}
use Rattle.yf_chars.specs.Chain.{Stuck, Chosen}
use Rattle.yf_comments.specs.Comment.{CommentValue}
use Rattle.yf_plain.specs.Plain.{Plain}
use Rattle.yf_props.specs.Props.{PropsValue, props_value}
use Rattle.yf_events.specs.Event.{EventValue, EventInText, scalar_node}
use Rattle.yf_events.specs.declared.event.Entry.{Entry}
use Rattle.yf_events.specs.declared.event.ScalarStyle.{ScalarStyle}
use Rattle.yf_events.specs.declared.event.ScalarStyle.TheVariants.{Literal, Folded}
use Rattle.yf_events.specs.declared.part.Part.{Part}
use Rattle.yf_grammar.specs.Productions.Meaning.{scalar, start_of, event_with}
use Rattle.yf_grammar.specs.FlowReader.Parser.{ParsedNode, found, AContent, Parses, begins_content, plain_found}
use Rattle.yf_flow.specs.declared.frame.Frame.{Frame}
use Rattle.yf_flow.specs.declared.frame.CollectionKind.{CollectionKind}
use Rattle.yf_flow.specs.declared.frame.CollectionKind.TheVariants.{Sequence, Mapping, Pair}
use Rattle.yf_flow.specs.declared.frame.Node.{Node}
use Rattle.yf_flow.specs.declared.node.Begun.{Begun}
use Rattle.yf_flow.specs.declared.node.Begun.TheVariants.{Leaf, Opened, Nothing, TooDeep}
use Rattle.yf_flow.specs.declared.node.Lead.{Lead}

-- a node without properties
abbrev pub bare_lead : ℕ → Option Entry → Lead
bare_lead i entry = record { start = i; props = record { anchor = None; tag = None }; tag_offset = None; entry = entry }

-- the event that begins a node with its lead and its end; and the event of a scalar
abbrev pub lead_event : Lead → EventValue → ℕ → EventInText
lead_event lead event j =
    record { event = event; span = Some (record { start = lead.start; end = j }); tag_offset = lead.tag_offset; entry = lead.entry; folded = [] }

abbrev pub leaf_event : Lead → ScalarStyle → List ℕ → ℕ → EventInText
leaf_event lead style text j = lead_event lead (scalar_node (props_value lead.props) style text) j

-- an event without a span, which may begin an entry
abbrev pub entry_event : EventValue → Option Entry → EventInText
entry_event event entry = record { event = event; span = None; tag_offset = None; entry = entry; folded = [] }

-- the additions to a part: events, comments and bad escapes
pub record PartGrown (old new : Part) (es : List EventInText) (cs : List CommentValue) (bad : List ℕ) : Type 0 where
  pub events : new.events ≡ old.events ++ es
  pub comments : new.comments ≡ old.comments ++ cs
  pub escapes : new.escapes ≡ old.escapes ++ bad

-- the outcome for content or a plain scalar at an offset
pub data ContentAt (t : List ℕ) (e : ℕ) (n : ℤ) (c : Ctx) (i : ℕ) : Option ParsedNode → Type 0 where
  content_there : {o : Option ParsedNode} → begins_content (code t i) ≡ true → Parses t e (AContent n c i) o → ContentAt t e n c i o
  plain_there : {j : ℕ} {x : List ℕ} → begins_content (code t i) ≡ false → Chosen (Plain t n c i) j x
      → ContentAt t e n c i (plain_found x i j)
  plain_missing : begins_content (code t i) ≡ false → Stuck (Plain t n c i) → ContentAt t e n c i None

-- an event of a block scalar
abbrev pub is_lined : EventValue → Bool
is_lined (scalar_node _ Literal _) = true
is_lined (scalar_node _ Folded _) = true
is_lined _ = false

-- a scalar as content, within any limit
pub record LeafAt (t : List ℕ) (n : ℤ) (c : Ctx) (i depth : ℕ) (lead : Lead) (old new : Part) (node : Node) : Type 0 where
  pub style : ScalarStyle
  pub text : List ℕ
  pub bad : List ℕ
  pub read : (e : ℕ) → ContentAt t e n c i (found node.end 0 node.json (scalar style text bad i node.end))
  pub added : PartGrown old new (leaf_event lead style text node.end ∷ []) [] bad
  pub deepest : node.deepest ≡ depth
  pub no_lines : (props : PropsValue) (words : List ℕ) → is_lined (scalar_node props style words) ≡ false

-- the bracket that opens a collection of that kind
abbrev pub IsOpening : CollectionKind → ℕ → Type 0
IsOpening Sequence x = x ≡ 91
IsOpening Mapping x = x ≡ 123
IsOpening Pair x = ⊥

abbrev pub is_sequence : CollectionKind → Bool
is_sequence Sequence = true
is_sequence Mapping = false
is_sequence Pair = false

-- a collection was opened by the bracket at i, after the comments before it
pub record OpenedAt (t : List ℕ) (i depth limit : ℕ) (lead : Lead) (cs : List CommentValue) (old new : Part) (f : Frame) : Type 0 where
  pub bracket : IsOpening f.kind (code t i)
  pub entry : f.entry ≡ i + 1
  pub event : f.event ≡ length old.events
  pub deep : f.depth ≡ depth + 1
  pub deepest : f.deepest ≡ depth + 1
  pub room : depth < limit
  pub added : PartGrown old new (lead_event lead (event_with (props_value lead.props) (start_of (is_sequence f.kind) true)) (i + 1) ∷ []) cs []

-- a bracket is at the offset, and its collection would exceed the limit
pub record FullAt (t : List ℕ) (i depth limit : ℕ) : Type 0 where
  pub kind : CollectionKind
  pub bracket : IsOpening kind (code t i)
  pub full : limit ≤ depth

abbrev pub ContentBegun : List ℕ → ℤ → Ctx → ℕ → ℕ → ℕ → Lead → Part → Part → Begun → Type 0
ContentBegun t n c i depth limit lead old new (Leaf node) = LeafAt t n c i depth lead old new node
ContentBegun t n c i depth limit lead old new (Opened f) = OpenedAt t i depth limit lead [] old new f
ContentBegun t n c i depth limit lead old new Nothing = (e : ℕ) → ContentAt t e n c i None
ContentBegun t n c i depth limit lead old new (TooDeep p) = (p ≡ i) × FullAt t i depth limit
