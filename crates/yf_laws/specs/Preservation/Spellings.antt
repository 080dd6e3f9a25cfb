-- The spellings that formatting leaves unchanged.
use Rattle.std.specs.Prelude.{◌≡◌, ℕ, false, List, map}
use Rattle.yf_events.specs.Event.{EventValue, EventInText, document_starts, document_ends, sequence_starts, mapping_starts, scalar_node}
use Rattle.yf_events.specs.Reading.{events_of, folded_of}
use Rattle.yf_events.specs.declared.document.Doc.{Doc}
use Rattle.yf_events.specs.declared.event.ScalarStyle.{ScalarStyle}
use Rattle.yf_events.specs.declared.event.ScalarStyle.TheVariants.{Plain}
use Rattle.yf_events.specs.declared.lists.Lists.{Lists}
use Rattle.yf_stream.specs.ReadingOf.{ReadingOf}
use Rattle.yf_forms.specs.declared.style.Style.{Style}
use Rattle.yf_laws.specs.Preservation.FoundTrees.{words_of}
use Rattle.yf_forms.specs.NormalForms.Restyled.{lines_of, restyled_event}
use Rattle.yf_forms.specs.Nodes.ScalarStyles.{wanted_of_event}

-- an event without what the house style chooses: markers of documents, brackets, styles of scalars. It keeps the name
-- of an alias, the anchor, the tag with its handle and suffix as spelled, and the text.
abbrev pub unstyled : EventValue → EventValue
unstyled (document_starts marked) = document_starts false
unstyled (document_ends marked) = document_ends false
unstyled (sequence_starts flow props) = sequence_starts false props
unstyled (mapping_starts flow props) = mapping_starts false props
unstyled (scalar_node props style text) = scalar_node props Plain text
unstyled e = e

-- the style of a scalar; `Plain` for any other event
abbrev pub style_of_event : EventValue → ScalarStyle
style_of_event (scalar_node props style text) = style
style_of_event e = Plain

-- the lines of a folded scalar, if it stays folded
abbrev pub folded_lines : Style → EventInText → List (List ℕ)
folded_lines house e = lines_of (restyled_event house false e.event) e.folded

abbrev pub directive_words : Lists → List (List (List (List ℕ)))
directive_words r = map (λ (d : Doc). words_of d.directives) r.documents

pub record SameSpellings (s : Style) (t u : List ℕ) : Type 0 where
  -- kinds, anchors, tags as they are spelled, names of aliases, texts
  pub events : (r q : Lists) → ReadingOf t r → ReadingOf u q → map unstyled (events_of q) ≡ map unstyled (events_of r)
  -- a plain scalar stays plain if and only if its text is steady; a literal or folded scalar keeps its style if and
  -- only if it has a character other than space and line feed; all others are quoted
  pub styles : (r q : Lists) → ReadingOf t r → ReadingOf u q → map style_of_event (events_of q) ≡ map (λ e. wanted_of_event e s) (events_of r)
  -- the lines of folded scalars; those of literal ones are lines of their texts
  pub lines : (r q : Lists) → ReadingOf t r → ReadingOf u q → folded_of q ≡ map (folded_lines s) r.events
  -- the words of each document's directives
  pub words : (r q : Lists) → ReadingOf t r → ReadingOf u q → directive_words q ≡ directive_words r
