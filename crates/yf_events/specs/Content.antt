-- The content of a reading, without styles of collections, markers and offsets.
use Rattle.std.specs.Prelude.{ℕ, Bool, true, false, List, [], ◌∷◌, Option, Some, None, map}
use Rattle.std.specs.List.{flat_map, zip}
use Rattle.yf_lines.specs.Steady.{is_steady}
use Rattle.yf_props.specs.Props.{name_value}
use Rattle.yf_events.specs.Event.{EventValue, stream_starts, stream_ends, document_starts, document_ends, sequence_starts, sequence_ends, mapping_starts, mapping_ends, scalar_node, alias_node}
use Rattle.yf_events.specs.Reading.{events_of}
use Rattle.yf_events.specs.declared.content.Content.{Content}
use Rattle.yf_events.specs.declared.content.ContentItem.{ContentItem}
use Rattle.yf_events.specs.declared.content.ContentItem.TheVariants.{Document, Scalar, Alias, Sequence, SequenceEnd, Mapping, MappingEnd}
use Rattle.yf_events.specs.declared.content.DirectiveItem.{DirectiveItem}
use Rattle.yf_events.specs.declared.content.DirectiveItem.TheVariants as Before
use Rattle.yf_events.specs.declared.content.ScalarType.{ScalarType}
use Rattle.yf_events.specs.declared.content.ScalarType.TheVariants.{Tagged, PlainAndSteady, Untagged}
use Rattle.yf_events.specs.declared.directive.Directive.{Directive}
use Rattle.yf_events.specs.declared.document.Doc.{Doc}
use Rattle.yf_events.specs.declared.event.ScalarStyle.{ScalarStyle}
use Rattle.yf_events.specs.declared.event.ScalarStyle.TheVariants.{Plain, Single, Double, Literal, Folded}
use Rattle.yf_events.specs.declared.lists.Lists.{Lists}

-- the resolved tag of a scalar; for one without a tag, whether it is plain and steady, so that a schema may give it a
-- type
pub data KindValue : Type 0 where
  tagged : List ℕ → KindValue
  plain_and_steady : KindValue
  untagged : KindValue

pub data ContentValue : Type 0 where
  a_document : ContentValue
  -- anchor, kind, text
  a_scalar : Option (List ℕ) → KindValue → List ℕ → ContentValue
  an_alias : List ℕ → ContentValue
  -- anchor, resolved tag
  a_sequence : Option (List ℕ) → Option (List ℕ) → ContentValue
  end_of_sequence : ContentValue
  a_mapping : Option (List ℕ) → Option (List ℕ) → ContentValue
  end_of_mapping : ContentValue

abbrev pub untagged_kind : Bool → KindValue
untagged_kind true = plain_and_steady
untagged_kind false = untagged

abbrev pub kind_of : Option (List ℕ) → ScalarStyle → List ℕ → KindValue
kind_of (Some tag) style text = tagged tag
kind_of None Plain text = untagged_kind (is_steady text)
kind_of None Single text = untagged
kind_of None Double text = untagged
kind_of None Literal text = untagged
kind_of None Folded text = untagged

-- the items that one event adds, with the resolved tag of the node that it begins
abbrev pub items_of_event : EventValue → Option (List ℕ) → List ContentValue
items_of_event stream_starts tag = []
items_of_event stream_ends tag = []
items_of_event (document_starts marked) tag = a_document ∷ []
items_of_event (document_ends marked) tag = []
items_of_event (sequence_starts flow props) tag = a_sequence props.anchor tag ∷ []
items_of_event sequence_ends tag = end_of_sequence ∷ []
items_of_event (mapping_starts flow props) tag = a_mapping props.anchor tag ∷ []
items_of_event mapping_ends tag = end_of_mapping ∷ []
items_of_event (scalar_node props style text) tag = a_scalar props.anchor (kind_of tag style text) text ∷ []
items_of_event (alias_node name) tag = an_alias name ∷ []

-- the text before the documents: a directive is followed by its words
pub data BeforeValue : Type 0 where
  before_document : BeforeValue
  a_directive : BeforeValue
  a_word : List ℕ → BeforeValue

abbrev pub items_of_directive : Directive → List BeforeValue
items_of_directive d = a_directive ∷ map (λ word. a_word word) d.words

abbrev pub items_of_document : Doc → List BeforeValue
items_of_document d = before_document ∷ flat_map items_of_directive d.directives

-- the words of the directives of all documents, and the nodes in order
pub record ContentOf : Type 0 where
  pub directives : List BeforeValue
  pub nodes : List ContentValue

unfoldable pub nodes_of : Lists → List ContentValue
nodes_of r = flat_map (λ e. items_of_event e.0 e.1) (zip (events_of r) r.resolved)

unfoldable pub content_of : Lists → ContentOf
content_of r = record { directives = flat_map items_of_document r.documents; nodes = nodes_of r }

-- the value of an item of the code's list

abbrev pub kind_value : ScalarType → KindValue
kind_value (Tagged tag) = tagged tag.now
kind_value PlainAndSteady = plain_and_steady
kind_value Untagged = untagged

abbrev pub item_value : ContentItem → ContentValue
item_value Document = a_document
item_value (Scalar anchor kind text) = a_scalar (name_value anchor) (kind_value kind) text.now
item_value (Alias name) = an_alias name.now
item_value (Sequence anchor tag) = a_sequence (name_value anchor) (name_value tag)
item_value SequenceEnd = end_of_sequence
item_value (Mapping anchor tag) = a_mapping (name_value anchor) (name_value tag)
item_value MappingEnd = end_of_mapping

-- an optional item
abbrev pub items_listed : Option ContentItem → List ContentValue
items_listed None = []
items_listed (Some item) = item_value item ∷ []

abbrev pub before_value : DirectiveItem → BeforeValue
before_value Before.Document = before_document
before_value Before.Directive = a_directive
before_value (Before.Word word) = a_word word.now

abbrev pub content_value : Content → ContentOf
content_value c = record { directives = map before_value c.directives.items; nodes = map item_value c.nodes.items }
