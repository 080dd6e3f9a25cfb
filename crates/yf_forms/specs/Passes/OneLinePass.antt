-- The text on one line that events add, with the next node or bracket for each pair of open brackets.
use Rattle.std.specs.Prelude.{ℕ, ◌+◌, ◌-◌, Bool, true, false, List, [], ◌∷◌, ◌++◌, codes, take, drop}
use Rattle.yf_forms.specs.declared.style.Style.{Style}
use Rattle.yf_props.specs.Props.{PropsValue}
use Rattle.yf_events.specs.Event.{EventValue, EventInText, stream_starts, stream_ends, document_starts, document_ends, sequence_starts, sequence_ends, mapping_starts, mapping_ends, scalar_node, alias_node}
use Rattle.yf_forms.specs.declared.form.kept.Expected.{Expected}
use Rattle.yf_forms.specs.declared.form.kept.Expected.TheVariants.{FirstItem, Item, FirstKey, Key, Value, ValueOfAlias}
use Rattle.yf_forms.specs.Nodes.OneLine.{props_text, scalar_text, space_after}
use Rattle.yf_forms.specs.Nodes.ScalarStyles.{wanted}

-- the separator before a node: nothing, a comma, or the `:` of its key
abbrev pub separator : Expected → List ℕ
separator FirstItem = []
separator Item = codes ", "
separator FirstKey = []
separator Key = codes ", "
separator Value = codes ": "
separator ValueOfAlias = codes " : "

-- the next node or bracket after a key, and after any node; the flag is whether it is an alias
abbrev pub value_of : Bool → Expected
value_of true = ValueOfAlias
value_of false = Value

abbrev pub expected_after : Bool → Expected → Expected
expected_after is_alias FirstItem = Item
expected_after is_alias Item = Item
expected_after is_alias FirstKey = value_of is_alias
expected_after is_alias Key = value_of is_alias
expected_after is_alias Value = Key
expected_after is_alias ValueOfAlias = Key

-- The separators and the next nodes in open brackets, the innermost first. Outside of all brackets, no separator comes
-- before a node.
abbrev pub separator_in : List Expected → List ℕ
separator_in [] = []
separator_in (e ∷ stack) = separator e

abbrev pub expected_after_in : Bool → List Expected → List Expected
expected_after_in is_alias [] = []
expected_after_in is_alias (e ∷ stack) = expected_after is_alias e ∷ stack

abbrev pub outside : List Expected → List Expected
outside [] = []
outside (e ∷ stack) = stack

-- the separator and the properties before a node's text, but not the properties of the outermost collection
abbrev pub before_text : List Expected → PropsValue → List ℕ
before_text stack props = separator_in stack ++ space_after (props_text props)

abbrev pub before_bracket : List Expected → PropsValue → List ℕ
before_bracket [] props = []
before_bracket (e ∷ stack) props = before_text (e ∷ stack) props

-- the text that an event adds, and the next node or bracket after it
abbrev pub added : Style → List Expected → EventValue → List ℕ
added house stack (scalar_node props style text) = before_text stack props ++ scalar_text house (wanted style text house) text
added house stack (alias_node name) = separator_in stack ++ (42 ∷ name)
added house stack (sequence_starts flow props) = before_bracket stack props ++ codes "["
added house stack sequence_ends = codes "]"
added house stack (mapping_starts flow props) = before_bracket stack props ++ codes "{"
added house stack mapping_ends = codes "}"
added house stack stream_starts = []
added house stack stream_ends = []
added house stack (document_starts marked) = []
added house stack (document_ends marked) = []

abbrev pub next_open : List Expected → EventValue → List Expected
next_open stack (scalar_node props style text) = expected_after_in false stack
next_open stack (alias_node name) = expected_after_in true stack
next_open stack (sequence_starts flow props) = FirstItem ∷ expected_after_in false stack
next_open stack sequence_ends = outside stack
next_open stack (mapping_starts flow props) = FirstKey ∷ expected_after_in false stack
next_open stack mapping_ends = outside stack
next_open stack stream_starts = stack
next_open stack stream_ends = stack
next_open stack (document_starts marked) = stack
next_open stack (document_ends marked) = stack

-- the text that all events add
unfoldable pub run : Style → List Expected → List EventInText → List ℕ
run house stack [] = []
run house stack (e ∷ es) = added house stack e.event ++ run house (next_open stack e.event) es

-- the events from one index to another, including both
abbrev pub between : ℕ → ℕ → List EventInText → List EventInText
between first last es = take (last + 1 - first) (drop first es)
