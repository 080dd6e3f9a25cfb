-- A style of scalars can spell a text if the grammar derives, from some input, a scalar in that style with that text.
use Rattle.std.specs.Prelude.{◌≡◌, ℕ, List, [], ◌∷◌}
use Rattle.std.specs.Str.{IsUtf8}
use Rattle.yf_events.specs.Event.{EventValue, sequence_starts, mapping_starts, scalar_node}
use Rattle.yf_events.specs.Tree.{NodeOffsets, placed}
use Rattle.yf_events.specs.declared.event.ScalarStyle.TheVariants.{Plain}
use Rattle.yf_grammar.specs.Productions.Grammar.{Production, Derives}
use Rattle.yf_grammar.specs.Productions.Meaning.{Meaning}

-- the event itself; for the start of a collection, an empty plain scalar with the collection's properties
abbrev pub as_leaf : EventValue → EventValue
as_leaf (sequence_starts flow props) = scalar_node props Plain []
as_leaf (mapping_starts flow props) = scalar_node props Plain []
as_leaf e = e

-- the grammar derives a node of some text with this only event, at some offsets
pub record IsSpelled (e : EventValue) (lines : List (List ℕ)) : Type 0 where
  pub text : List ℕ
  pub utf8 : IsUtf8 text
  pub production : Production
  pub height : ℕ
  pub from : ℕ
  pub to : ℕ
  pub meaning : Meaning
  pub derived : Derives text height production from to meaning
  pub at : NodeOffsets
  pub is : meaning.events ≡ placed at (as_leaf e) lines ∷ []
