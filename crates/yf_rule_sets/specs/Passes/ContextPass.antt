-- The state of a pass that finds the contexts of nodes, and its step for one event. An index counts events from 0.
use Rattle.std.specs.Prelude.{◌≡◌, ℕ, ◌+◌, Bool, false, List, ◌∷◌, drop, length, reverse, Option, None}
use Rattle.std.specs.Option.{unwrap_or}
use Rattle.yf_events.specs.Event.{EventValue, EventInText, sequence_starts, mapping_starts, scalar_node, alias_node}
use Rattle.yf_rule_sets.specs.RuleSets.Columns.{ColumnsTo}
use Rattle.yf_rule_sets.specs.Passes.Entries.{all_entries, column_at, entries_from, unmarked_at}
use Rattle.yf_rule_sets.specs.Passes.NodeContexts.{after, next, opened, stand_in}
use Rattle.yf_rule_sets.specs.declared.facts.node_context.Around.TheVariants.{Unknown}
use Rattle.yf_rule_sets.specs.declared.facts.node_context.ContextFrame.{ContextFrame}
use Rattle.yf_rule_sets.specs.declared.facts.node_context.Pass.{Pass}
use Rattle.yf_rule_sets.specs.declared.facts.node_context.NodeContext.{NodeContext}

-- before the event of index i: the columns of the entries of all block collections, and how many of these have begun
pub record IsPass (t : List ℕ) (es : List EventInText) (columns : List ℕ) (begun i : ℕ) : Type 0 where
  pub columns_are : ColumnsTo t (all_entries t es) columns (length (all_entries t es))
  pub begun_are : begun + length (all_entries t (drop i es)) ≡ length (all_entries t es)

-- the context of an event, with these open collections before it
abbrev pub stand_of : EventValue → List ContextFrame → Option ℕ → ℕ → NodeContext
stand_of (sequence_starts flow props) st column first = stand_in st column first
stand_of (mapping_starts flow props) st column first = stand_in st column first
stand_of (scalar_node props style text) st column first = stand_in st None 0
stand_of (alias_node name) st column first = stand_in st None 0
stand_of _ st column first = record { outer = Unknown; is_implicit_value = false; column = None; first = 0 }

-- the step for the event of index i leads from the state `old` to `new`: afterwards the collections st are open, and
-- the context `stand` is `told`
pub record EventPass (t : List ℕ) (es : List EventInText) (i : ℕ) (st : List ContextFrame) (told : NodeContext) (old new : Pass) (stand : NodeContext) : Type 0 where
  pub stack : reverse new.stack.items ≡ st
  pub tells : stand ≡ told
  pub kept : new.columns.items ≡ old.columns.items
  pub later : IsPass t es new.columns.items new.begun (i + 1)

-- the step for the event of index i, if it starts a collection: a mapping if `is_map` is true, otherwise a sequence
abbrev pub OpeningPass : List ℕ → List EventInText → ℕ → Bool → Pass → Pass → NodeContext → Type 0
OpeningPass t es i is_map old new stand = IsPass t es old.columns.items old.begun i
    → EventPass t es i (opened is_map (column_at t es old.columns.items i) ∷ after (unmarked_at t es i) (reverse old.stack.items))
    (stand_in (reverse old.stack.items) (column_at t es old.columns.items i) (unwrap_or (entries_from t (drop i es)) 0)) old new stand

-- the step for any event e, of index i
abbrev pub Passes : List ℕ → List EventInText → ℕ → EventValue → Pass → Pass → NodeContext → Type 0
Passes t es i e old new stand = IsPass t es old.columns.items old.begun i
    → EventPass t es i (next e (column_at t es old.columns.items i) (unmarked_at t es i) (reverse old.stack.items))
    (stand_of e (reverse old.stack.items) (column_at t es old.columns.items i) (unwrap_or (entries_from t (drop i es)) 0)) old new stand
