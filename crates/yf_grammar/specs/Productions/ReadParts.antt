-- The results of the readers of nodes: a part that a production derives within a limit of open collections, that covers
-- no forbidden line, and with entries that note whether a blank line is before them.
use Rattle.std.specs.Prelude.{◌≡◌, ℕ, ◌≤◌, ℤ, pos, Bool, true, false, List, [], ◌∷◌, Option, Some, None}
use Rattle.yf_chars.specs.declared.context.Ctx.{Ctx}
use Rattle.yf_chars.specs.Text.{code, next}
use Rattle.yf_lines.specs.Basic.{Break, Clear}
use Rattle.yf_comments.specs.Comments.{Blank, is_gap}
use Rattle.yf_events.specs.Event.{EventValue, EventInText, scalar_node}
use Rattle.yf_events.specs.declared.event.Entry.{Entry}
use Rattle.yf_events.specs.declared.event.ScalarStyle.TheVariants.{Literal, Folded}
use Rattle.yf_events.specs.declared.event.Span.{Span}
use Rattle.yf_events.specs.declared.part.Part.{Part}
use Rattle.yf_grammar.specs.Productions.Grammar.{Production, FlowNode, NodeOf, BlockNode, Derives}
use Rattle.yf_grammar.specs.Productions.Meaning.{Meaning}

-- going back from the offset over white space, breaks and byte order marks, one comes to the end of a line of only
-- white space, which is at `floor` or after it
pub data BlankSince (t : List ℕ) (floor : ℕ) : ℕ → Type 0 where
  blank_line : {i j : ℕ} → floor ≤ i → Blank t i → Break t i j → BlankSince t floor j
  past_gap : {i : ℕ} → BlankSince t floor i → is_gap (code t i) ≡ true → BlankSince t floor (next t i)

pub data NotedSince (t : List ℕ) (floor i : ℕ) : Bool → Type 0 where
  noted : BlankSince t floor i → NotedSince t floor i true
  not_noted : (BlankSince t floor i → ⊥) → NotedSince t floor i false

-- the end of a span, or the floor without a span
abbrev pub end_or : ℕ → Option Span → ℕ
end_or floor None = floor
end_or floor (Some span) = span.end

-- the floor after an event: the lines of a block scalar, up to its end, are no blank lines
abbrev pub floor_after_event : ℕ → EventInText → EventValue → ℕ
floor_after_event floor e (scalar_node _ Literal _) = end_or floor e.span
floor_after_event floor e (scalar_node _ Folded _) = end_or floor e.span
floor_after_event floor e _ = floor

-- the events with the notes of their entries filled in; the floor is the end of the last block scalar before them
pub data Noting (t : List ℕ) : ℕ → List EventInText → List EventInText → Type 0 where
  no_event : {floor : ℕ} → Noting t floor [] []
  without_entry : {floor : ℕ} {e : EventInText} {x y : List EventInText} → e.entry ≡ None → Noting t (floor_after_event floor e e.event) x y
      → Noting t floor (e ∷ x) (e ∷ y)
  with_entry : {floor : ℕ} {e : EventInText} {x y : List EventInText} {b : Bool} (entry : Entry) → e.entry ≡ Some entry
      → NotedSince t floor entry.start b → Noting t (floor_after_event floor e e.event) x y
      → Noting t floor (e ∷ x) (record e { entry = Some (record entry { blank_before = b }) } ∷ y)

-- the part from i to j that the production derives
pub record DerivedPart (t : List ℕ) (limit : ℕ) (p : Production) (i j : ℕ) (part : Part) : Type 0 where
  pub height : ℕ
  pub meaning : Meaning
  pub derived : Derives t height p i j meaning
  pub within : height ≤ limit
  pub clear : Clear t i j
  pub events : Noting t 0 meaning.events part.events
  pub comments : part.comments ≡ meaning.comments
  pub escapes : part.escapes ≡ meaning.escapes

-- a flow node (ns-flow-node), a block node (s-l+block-node)
abbrev pub FlowNodePart : List ℕ → ℕ → ℤ → Ctx → ℕ → ℕ → Part → Type 0
FlowNodePart t limit n c = DerivedPart t limit (FlowNode n c)

abbrev pub BlockNodePart : List ℕ → ℕ → ℤ → Ctx → ℕ → ℕ → Part → Type 0
BlockNodePart t limit n c = DerivedPart t limit (BlockNode n c)

-- the node of an implicit key: like YAML's or like JSON's, with n = 0, and without the white space before its `:`
pub data KeyPart (t : List ℕ) (limit : ℕ) (c : Ctx) (i j : ℕ) (part : Part) : Type 0 where
  key_node : (json : Bool) → DerivedPart t limit (NodeOf json (pos 0) c) i j part → KeyPart t limit c i j part
