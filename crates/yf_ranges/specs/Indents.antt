-- The details of the rule indentation: the columns that are found and expected. An index counts events from 0, and a
-- column counts from 0.
use Rattle.std.specs.Prelude.{◌≡◌, ◌==◌, ◌&&◌, ℕ, true, false, nat_lt, if◌then◌else◌, List, [], length, slice_get, Option, Some, None}
use Rattle.std.specs.List.{Contains}
use Rattle.yf_events.specs.Event.{EventValue, sequence_starts, mapping_starts, scalar_node}
use Rattle.yf_events.specs.Reading.{events_of}
use Rattle.yf_events.specs.declared.lists.Lists.{Lists}
use Rattle.yf_forms.specs.declared.style.Style.{Style}
use Rattle.yf_lines.specs.Lines.{Table}
use Rattle.yf_ranges.specs.Details.{EndsBy}
use Rattle.yf_ranges.specs.NodeDetails.{IsKnown, NodeDetails}
use Rattle.yf_ranges.specs.Spans.{CharacterSpan}
use Rattle.yf_ranges.specs.declared.detail.Detail.{Detail}
use Rattle.yf_ranges.specs.declared.detail.Message.TheVariants as Says
use Rattle.yf_ranges.specs.declared.indentation.Misindent.{Misindent}
use Rattle.yf_rule_sets.specs.Passes.Entries.{all_entries, column_at, unmarked_at}
use Rattle.yf_rule_sets.specs.Passes.IndentFaults.{ContentAt, standing_at}
use Rattle.yf_rule_sets.specs.Passes.NodeColumns.{wanted_column, wanted_indent}
use Rattle.yf_rule_sets.specs.Passes.NodeContexts.{Stood, run}
use Rattle.yf_rule_sets.specs.RuleSets.Columns.{ColumnsTo}
use Rattle.yf_rule_sets.specs.RuleSets.Exact.{IsTheOne}
use Rattle.yf_rule_sets.specs.declared.facts.node_context.NodeContext.{NodeContext}

-- the fault at an offset, if the column that is found is not the expected one
abbrev pub misindent_at : ℕ → Option ℕ → Option ℕ → Option Misindent
misindent_at offset None expected = None
misindent_at offset (Some found) None = None
misindent_at offset (Some found) (Some expected) =
    if found == expected then None else Some (record { offset = offset; found = found; expected = expected })

-- a number that a machine word holds; the column of no text is larger
abbrev pub in_word : Option ℕ → Option ℕ
in_word None = None
in_word (Some n) = if nat_lt n 0x10000000000000000 then Some n else None

-- the fault of a block scalar with this header and this indentation of its content
abbrev pub content_misindent : Option (ℕ × ℕ) → Option ℕ → Option Misindent
content_misindent None expected = None
content_misindent (Some content) expected = misindent_at content.0 (Some content.1) expected

-- the fault of the node that an event begins, by what is around the node
abbrev pub misindent_of : Style → EventValue → NodeContext → Option (ℕ × ℕ) → Option Misindent
misindent_of house (sequence_starts flow props) s content =
    misindent_at s.first s.column (in_word (wanted_column house (true && s.is_implicit_value) s.outer))
misindent_of house (mapping_starts flow props) s content =
    misindent_at s.first s.column (in_word (wanted_column house (false && s.is_implicit_value) s.outer))
misindent_of house (scalar_node props style text) s content = content_misindent content (in_word (wanted_indent house s.outer))
misindent_of house _ s content = None

-- the fault of the node s; `columns` are those of the first entries of all block collections
pub data HasMisindent (src : Table) (r : Lists) (house : Style) (columns : List ℕ) (s : Stood) (m : Misindent) : Type 0 where
  has_misindent : {e : EventValue} (content : Option (ℕ × ℕ)) → slice_get (events_of r) s.at ≡ Some e → IsTheOne (ContentAt src r s.at) content
      → misindent_of house e (standing_at src.text r columns s) content ≡ Some m → HasMisindent src r house columns s m

-- the nodes of a reading, with what is around them
abbrev pub nodes_of : List ℕ → Lists → List ℕ → List Stood
nodes_of t r columns = run (column_at t r.events columns) (unmarked_at t r.events) 0 [] r.events

-- a node in a list has this fault, at this offset
pub record IsMisindented (src : Table) (r : Lists) (house : Style) (columns : List ℕ) (nodes : List Stood) (x : Stood × Misindent) (offset : ℕ) : Type 0 where
  pub among : Contains nodes x.0
  pub fault : HasMisindent src r house columns x.0 x.1
  pub at : x.1.offset ≡ offset

-- indentation: the first character of the first entry or of the header, with both columns
abbrev pub IndentDetail : List ℕ → Stood × Misindent → Detail → Type 0
IndentDetail t x d = EndsBy (CharacterSpan t) (Says.Indented x.1.found x.1.expected) d

-- the columns of the first entries of all block collections
abbrev pub AreColumns : List ℕ → Lists → List ℕ → Type 0
AreColumns t r columns = ColumnsTo t (all_entries t r.events) columns (length (all_entries t r.events))

-- the details of all nodes
pub record IndentDetails (src : Table) (r : Lists) (house : Style) (ds : List Detail) : Type 0 where
  pub columns : List ℕ
  pub are_columns : AreColumns src.text r columns
  pub details : NodeDetails (IsMisindented src r house columns (nodes_of src.text r columns)) (IndentDetail src.text) src.text ds

-- the detail at an offset, if a node has a fault there
pub record IndentKnown (src : Table) (r : Lists) (house : Style) (offset : ℕ) (result : Option Detail) : Type 0 where
  pub columns : List ℕ
  pub are_columns : AreColumns src.text r columns
  pub known : IsKnown (IsMisindented src r house columns (nodes_of src.text r columns)) (IndentDetail src.text) src.text offset result
