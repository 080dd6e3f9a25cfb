-- The beginnings of an awaited node, and of content.
use Rattle.std.specs.Prelude.{◌≡◌, ℕ, ◌+◌, ◌≤◌, Bool, true, false, List, [], ◌∷◌, ◌++◌, length, Option, MatchOption, encode_utf8_all}
use Rattle.std.specs.List.{All}
use Rattle.std.specs.Str.{IsCharBoundary}
use Rattle.yf_chars.specs.Chain.{Chosen, Stuck}
use Rattle.yf_chars.specs.Boundary.{BoundaryFrom}
use Rattle.yf_lines.specs.Text.{text_bytes}
use Rattle.yf_plain.specs.Plain as Plains
use Rattle.yf_props.specs.Names as Names
use Rattle.yf_props.specs.Properties.{properties_value}
use Rattle.yf_props.specs.declared.properties.Properties.{Properties}
use Rattle.yf_events.specs.declared.event.Entry.{Entry}
use Rattle.yf_events.specs.declared.event.ScalarStyle.{ScalarStyle}
use Rattle.yf_events.specs.declared.event.ScalarStyle.TheVariants.{Plain, Single, Double, Literal, Folded}
use Rattle.yf_events.specs.declared.part.Part.{Part}
use Rattle.yf_flow.specs.declared.frame.FlowContext.{FlowContext}
use Rattle.yf_flow.specs.declared.frame.FlowCursor.{FlowCursor}
use Rattle.yf_flow.specs.declared.leaf.Scalar.{Scalar}
use Rattle.yf_flow.specs.declared.node.Begun.{Begun}
use Rattle.yf_flow.specs.declared.node.Begun.TheVariants.{Leaf}
use Rattle.yf_flow.specs.declared.node.Lead.{Lead}
use Rattle.yf_flow.specs.NodeStarts.{ContentBegun, leaf_event}
use Rattle.yf_flow.specs.Machine.{BegunAt}
use Rattle.yf_flow.specs.NodeParts.{NodeBegun}

abbrev pub CursorBegun : FlowCursor → Option Entry → Part → Part → Begun → Type 0
CursorBegun cursor entry old new b = NodeBegun cursor.scene.text.now cursor.scene.indentation cursor.scene.context cursor.at cursor.depth cursor.scene.limit entry old new b

abbrev pub CursorContent : FlowCursor → Lead → Part → Part → Begun → Type 0
CursorContent cursor lead old new b = ContentBegun cursor.scene.text.now cursor.scene.indentation cursor.scene.context cursor.at cursor.depth cursor.scene.limit lead old new b

-- the offset is a boundary, and so are the starts of the bad escapes so far
pub record NodeIsAwaited (cursor : FlowCursor) (old : Part) : Type 0 where
  pub boundary : IsCharBoundary cursor.scene.text.now cursor.at
  pub escapes : All (IsCharBoundary cursor.scene.text.now) old.escapes

-- the beginning of a node in the sense of `HasBegun`, with its events
pub record Begins (HasBegun : Part → Part → Begun → Type 0) (cursor : FlowCursor) (old new : Part) (b : Begun) : Type 0 where
  pub exact : HasBegun old new b
  pub begun : BegunAt cursor.scene.text.now cursor.at (length old.events) (length new.events) b
  pub grows : length old.events ≤ length new.events
  pub escapes : All (IsCharBoundary cursor.scene.text.now) new.escapes

-- the longest properties and the longest plain scalar at the offset, or none
abbrev pub PropertiesRead : FlowContext → ℕ → Option Properties → Type 0
PropertiesRead scene at o = MatchOption o (Stuck (Names.Properties scene.text.now scene.indentation scene.context at))
    (λ p. Chosen (Names.Properties scene.text.now scene.indentation scene.context at) p.end (properties_value p))

abbrev pub PlainRead : FlowCursor → Option Scalar → Type 0
PlainRead cursor o = MatchOption o (Stuck (Plains.Plain cursor.scene.text.now cursor.scene.indentation cursor.scene.context cursor.at))
    (λ p. (x : List ℕ) × (text_bytes p.text ≡ encode_utf8_all x) × Chosen (Plains.Plain cursor.scene.text.now cursor.scene.indentation cursor.scene.context cursor.at) p.end x)

pub record PropertiesAt (cursor : FlowCursor) (p : Properties) : Type 0 where
  pub place : BoundaryFrom cursor.scene.text.now (cursor.at + 1) p.end
  pub chosen : Chosen (Names.Properties cursor.scene.text.now cursor.scene.indentation cursor.scene.context cursor.at) p.end (properties_value p)

-- a scalar has been added as a node
abbrev pub is_quoted : ScalarStyle → Bool
is_quoted Plain = false
is_quoted Single = true
is_quoted Double = true
is_quoted Literal = false
is_quoted Folded = false

pub record LeafPushed (cursor : FlowCursor) (lead : Lead) (style : ScalarStyle) (s : Scalar) (old new : Part) (b : Begun) : Type 0 where
  pub leaf : b ≡ Leaf (record { end = s.end; json = is_quoted style; deepest = cursor.depth })
  pub events : new.events ≡ old.events ++ (leaf_event lead style (text_bytes s.text) s.end ∷ [])
  pub comments : new.comments ≡ old.comments
  pub escapes : new.escapes ≡ old.escapes
