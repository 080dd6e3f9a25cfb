-- The sets of the rules that have a condition on the reading: for the reading of a text they are exact.
use Rattle.std.specs.Prelude.{ℕ, List}
use Rattle.std.specs.Str.{IsUtf8}
use Rattle.yf_lines.specs.Lines.{Table}
use Rattle.yf_events.specs.Tree.{DocumentTree, TreesOf}
use Rattle.yf_events.specs.declared.lists.Lists.{Lists}
use Rattle.yf_forms.specs.declared.style.Style.{Style}
use Rattle.yf_stream.specs.ReadingOf.{ReadingOf}
use Rattle.yf_rule_sets.specs.RuleSets.Exact.{Exactly}
use Rattle.yf_rule_sets.specs.RuleSets.Indents.{IndentFault}
use Rattle.yf_rule_sets.specs.RuleSets.Layouts.{LayoutFault, NeedlessMark}
use Rattle.yf_rule_sets.specs.RuleSets.Nodes.{RepeatedKey}
use Rattle.yf_rule_sets.specs.Sets.{flow_layout_at, indentation_at, key_mark_at, repeated_keys_at}

-- the reading has these trees, and each of the four rules finds exactly its set, by these trees
pub record TreeSetsAreExact (src : Table) (reading : Lists) (style : Style) : Type 0 where
  pub trees : List DocumentTree
  pub of_reading : TreesOf reading trees
  pub indentation : (offsets : List ℕ) → indentation_at src reading style offsets
      → Exactly (IndentFault src style trees) offsets
  pub flow_layout : (offsets : List ℕ) → flow_layout_at src reading style offsets
      → Exactly (LayoutFault src reading style) offsets
  pub repeated_keys : (offsets : List ℕ) → repeated_keys_at src reading style offsets
      → Exactly (RepeatedKey reading trees) offsets
  pub key_mark : (offsets : List ℕ) → key_mark_at src reading style offsets
      → Exactly (NeedlessMark src reading style trees) offsets

-- Each reading of a UTF-8 text meets the conditions of the definitions of indentation, flow-layout, repeated-keys and
-- key-mark, so in it their sets are exact.
abbrev pub SetsOfTextsAreExact : Type 0
SetsOfTextsAreExact = (src : Table) (reading : Lists) (style : Style) → IsUtf8 src.text → ReadingOf src.text reading
    → TreeSetsAreExact src reading style
