-- The beginning of an awaited node: a node without nodes in it, the bracket of a collection after the node's
-- properties, nothing, or a bracket that would exceed the limit.
use Rattle.std.specs.Prelude.{◌≡◌, ℕ, ◌+◌, ◌<◌, ◌≤◌, ℤ, Bool, true, false, List, [], ◌∷◌, ◌++◌, length, Option, Some, None}
use Rattle.yf_chars.specs.declared.context.Ctx.{Ctx}
use Rattle.yf_chars.specs.Text.{code}
use Rattle.yf_comments.specs.Comment.{CommentValue}
use Rattle.yf_props.specs.Props.{PropsValue, no_props}
use Rattle.yf_events.specs.Event.{EventInText}
use Rattle.yf_events.specs.declared.event.Entry.{Entry}
use Rattle.yf_events.specs.declared.part.Part.{Part}
use Rattle.yf_grammar.specs.Productions.Meaning.{start_of, event_with}
use Rattle.yf_grammar.specs.FlowReader.Parser.{ParsedNode, AContent, ANode, Parses}
use Rattle.yf_grammar.specs.FlowReader.FlowContinuations.{Before, Bare, Propertied, NodeOver}
use Rattle.yf_flow.specs.declared.frame.Frame.{Frame}
use Rattle.yf_flow.specs.declared.frame.CollectionKind.{CollectionKind}
use Rattle.yf_flow.specs.declared.frame.Node.{Node}
use Rattle.yf_flow.specs.declared.node.Begun.{Begun}
use Rattle.yf_flow.specs.declared.node.Begun.TheVariants.{Leaf, Opened, Nothing, TooDeep}
use Rattle.yf_flow.specs.NodeStarts.{PartGrown, IsOpening, is_sequence, is_lined}

-- the first event begins an entry, or none
abbrev pub given : Option Entry → List EventInText → List EventInText
given entry [] = []
given entry (e ∷ es) = record e { entry = entry } ∷ es

abbrev pub props_before : Before → PropsValue
props_before Bare = no_props
props_before (Propertied p cs i g) = p.props

abbrev pub tag_before : Before → Option ℕ
tag_before Bare = None
tag_before (Propertied p cs i g) = p.tag_offset

abbrev pub comments_before : Before → List CommentValue
comments_before Bare = []
comments_before (Propertied p cs i g) = p.comments ++ cs

-- the event that begins the collection of the bracket at k, before its end is set
abbrev pub opened_event : ℕ → Before → Option Entry → Bool → ℕ → EventInText
opened_event i b entry sequence k = record {
  event = event_with (props_before b) (start_of sequence true);
  span = Some (record { start = i; end = k + 1 });
  tag_offset = tag_before b;
  entry = entry;
  folded = [];
}

-- a leaf has one event
pub record NodeLeaf (t : List ℕ) (n : ℤ) (c : Ctx) (i depth : ℕ) (entry : Option Entry) (old new : Part) (node : Node) : Type 0 where
  pub answer : ParsedNode
  pub read : (e : ℕ) → Parses t e (ANode n c i) (Some answer)
  pub end : node.end ≡ answer.end
  pub json : node.json ≡ answer.json
  pub flat : answer.height ≡ 0
  pub finish : answer.meaning.finish ≡ answer.end
  pub event : EventInText
  pub only_event : answer.meaning.events ≡ event ∷ []
  pub no_entry : event.entry ≡ None
  pub no_lines : is_lined event.event ≡ false
  pub added : PartGrown old new (given entry answer.meaning.events) answer.meaning.comments answer.meaning.escapes
  pub deepest : node.deepest ≡ depth

pub record NodeOpened (t : List ℕ) (n : ℤ) (c : Ctx) (i depth limit : ℕ) (entry : Option Entry) (old new : Part) (f : Frame) : Type 0 where
  pub content : ℕ
  pub before : Before
  pub over : NodeOver t n c i content before
  pub bracket : IsOpening f.kind (code t content)
  pub first : f.entry ≡ content + 1
  pub event : f.event ≡ length old.events
  pub deep : f.depth ≡ depth + 1
  pub deepest : f.deepest ≡ depth + 1
  pub room : depth < limit
  pub added : PartGrown old new (opened_event i before entry (is_sequence f.kind) content ∷ []) (comments_before before) []

-- no node, or no content after the properties
pub data NodeMissing (t : List ℕ) (n : ℤ) (c : Ctx) (i : ℕ) : Type 0 where
  no_node : ((e : ℕ) → Parses t e (ANode n c i) None) → NodeMissing t n c i
  no_content : {k : ℕ} {b : Before} → NodeOver t n c i k b → ((e : ℕ) → Parses t e (AContent n c k) None) → NodeMissing t n c i

pub record NodeFull (t : List ℕ) (n : ℤ) (c : Ctx) (i depth limit p : ℕ) : Type 0 where
  pub before : Before
  pub over : NodeOver t n c i p before
  pub none : Parses t 0 (AContent n c p) None
  pub kind : CollectionKind
  pub bracket : IsOpening kind (code t p)
  pub full : limit ≤ depth

abbrev pub NodeBegun : List ℕ → ℤ → Ctx → ℕ → ℕ → ℕ → Option Entry → Part → Part → Begun → Type 0
NodeBegun t n c i depth limit entry old new (Leaf node) = NodeLeaf t n c i depth entry old new node
NodeBegun t n c i depth limit entry old new (Opened f) = NodeOpened t n c i depth limit entry old new f
NodeBegun t n c i depth limit entry old new Nothing = NodeMissing t n c i
NodeBegun t n c i depth limit entry old new (TooDeep p) = NodeFull t n c i depth limit p
