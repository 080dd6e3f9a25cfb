-- The wanted column of a node's entries, and the wanted indentation of its content, by what holds the node.
use Rattle.std.specs.Prelude.{ℕ, ◌+◌, ◌==◌, ◌&&◌, Bool, false, not, if◌then◌else◌, Option, Some, None}
use Rattle.yf_forms.specs.declared.style.Style.{Style}
use Rattle.yf_rule_sets.specs.declared.facts.node_context.Around.{Around}
use Rattle.yf_rule_sets.specs.declared.facts.node_context.Around.TheVariants.{Nothing, Entries, Unknown}

-- the wanted column of the entries of a block collection, or `None` if any column is right; the flag says whether the
-- collection is a sequence that is the value of a key without `?`
abbrev pub wanted_column : Style → Bool → Around → Option ℕ
wanted_column house beside Nothing = Some 0
wanted_column house beside (Entries outer) = Some (if beside && not house.seq_indent then outer else outer + house.indent)
wanted_column house beside Unknown = None

-- the wanted indentation of the content of a block scalar
abbrev pub wanted_indent : Style → Around → Option ℕ
wanted_indent house Nothing = Some house.indent
wanted_indent house (Entries outer) = Some (outer + house.indent)
wanted_indent house Unknown = None

-- a column other than the wanted one
abbrev pub is_other : ℕ → Option ℕ → Bool
is_other column None = false
is_other column (Some wanted) = not (column == wanted)
