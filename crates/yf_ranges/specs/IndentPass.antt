-- The state of the pass over the events that gives the details of the rule indentation. An index counts events from 0.
use Rattle.std.specs.Prelude.{◌≡◌, ℕ, ◌++◌, List, drop, Option, Some, None}
use Rattle.std.specs.Str.{IsCharBoundary}
use Rattle.yf_events.specs.declared.lists.Lists.{Lists}
use Rattle.yf_forms.specs.declared.style.Style.{Style}
use Rattle.yf_lines.specs.Lines.{Table}
use Rattle.yf_ranges.specs.Details.{EndsBy, IsInside}
use Rattle.yf_ranges.specs.Indents.{IndentDetail, IsMisindented, nodes_of}
use Rattle.yf_ranges.specs.NodeDetails.{NodeDetails}
use Rattle.yf_ranges.specs.Spans.{CharacterSpan}
use Rattle.yf_ranges.specs.declared.detail.Detail.{Detail}
use Rattle.yf_ranges.specs.declared.detail.Message.TheVariants as Says
use Rattle.yf_ranges.specs.declared.indentation.Misindent.{Misindent}
use Rattle.yf_rule_sets.specs.Passes.ContextPass.{IsPass}
use Rattle.yf_rule_sets.specs.Passes.Entries.{column_at, unmarked_at}
use Rattle.yf_rule_sets.specs.Passes.NodeContexts.{Stood, run}
use Rattle.yf_rule_sets.specs.declared.facts.node_context.ContextFrame.{ContextFrame}

-- the detail of a fault, if there is one and a character begins at its offset or the text ends there
pub data IndentedAt (t : List ℕ) : Option Misindent → Option Detail → Type 0 where
  no_fault : IndentedAt t None None
  unplaced : {m : Misindent} → (IsCharBoundary t m.offset → ⊥) → IndentedAt t (Some m) None
  placed : {m : Misindent} {d : Detail} → d.span.start ≡ m.offset → EndsBy (CharacterSpan t) (Says.Indented m.found m.expected) d
      → IsInside t d → IndentedAt t (Some m) (Some d)

-- the state of the pass before the event of index i: the collections st are open, and these are the details of the nodes
-- that have begun
pub record ToldTo (src : Table) (r : Lists) (house : Style) (columns : List ℕ) (begun i : ℕ) (st : List ContextFrame) (ds : List Detail) : Type 0 where
  pub nodes : List Stood
  pub pass : IsPass src.text r.events columns begun i
  pub left : nodes ++ run (column_at src.text r.events columns) (unmarked_at src.text r.events) i st (drop i r.events) ≡ nodes_of src.text r columns
  pub details : NodeDetails (IsMisindented src r house columns nodes) (IndentDetail src.text) src.text ds
