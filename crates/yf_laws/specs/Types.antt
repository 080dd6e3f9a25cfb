-- What a function that gives each node a type may depend on (YAML 1.2.2, 3.3.2 and 10.3.2); formatting changes none of
-- it.
use Rattle.std.specs.Prelude.{◌≡◌, ℕ, Bool, true, false, ◌&&◌, List, [], ◌∷◌, Option, zip}
use Rattle.std.specs.List.{flat_map}
use Rattle.yf_lines.specs.CoreSchema.{CoreTextsAreSteady}
use Rattle.yf_lines.specs.Steady.{is_steady}
use Rattle.yf_events.specs.Event.{EventValue, sequence_starts, mapping_starts, scalar_node, alias_node}
use Rattle.yf_events.specs.Reading.{events_of}
use Rattle.yf_events.specs.declared.event.ScalarStyle.{ScalarStyle}
use Rattle.yf_events.specs.declared.event.ScalarStyle.TheVariants.{Plain}
use Rattle.yf_events.specs.declared.lists.Lists.{Lists}
use Rattle.yf_stream.specs.ReadingOf.{ReadingOf}

-- a node as such a function sees it; the tag is the resolved one
pub data TypedNode : Type 0 where
  -- the tag, whether the scalar is plain with a steady text, and the text
  typed_scalar : Option (List ℕ) → Bool → List ℕ → TypedNode
  typed_sequence : Option (List ℕ) → TypedNode
  typed_mapping : Option (List ℕ) → TypedNode
  -- an alias has the type of the node that it names
  typed_alias : List ℕ → TypedNode

abbrev pub is_plain : ScalarStyle → Bool
is_plain Plain = true
is_plain style = false

-- the node that the event begins, with its tag
abbrev pub typed_of_event : EventValue → Option (List ℕ) → List TypedNode
typed_of_event (scalar_node props style text) tag = typed_scalar tag (is_plain style && is_steady text) text ∷ []
typed_of_event (sequence_starts flow props) tag = typed_sequence tag ∷ []
typed_of_event (mapping_starts flow props) tag = typed_mapping tag ∷ []
typed_of_event (alias_node name) tag = typed_alias name ∷ []
typed_of_event e tag = []

-- all nodes of a reading, in order
abbrev pub typed_nodes : Lists → List TypedNode
typed_nodes r = flat_map (λ e. typed_of_event e.0 e.1) (zip (events_of r) r.resolved)

-- So each function of kind, tag, text and whether a scalar is plain and steady gives each node of u what it gave the
-- node of t. A function that gives types by the core schema depends on no more: a text that it takes for null, a
-- boolean or a number is steady, and a plain text that is not steady is a string.
pub record SameTypes (t u : List ℕ) : Type 0 where
  pub nodes : (r q : Lists) → ReadingOf t r → ReadingOf u q → typed_nodes q ≡ typed_nodes r
  pub core : CoreTextsAreSteady
