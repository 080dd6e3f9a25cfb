-- Texts that are not data, by the text and the trees of its reading.
use Rattle.std.specs.Prelude.{ℕ, Bool, true, false, not, is_none, ◌&&◌, ◌||◌, ◌==◌, nat_lt, if◌then◌else◌, List, [], ◌∷◌, ◌++◌, codes, flat_map, length, slice_range, Option, Some, None}
use Rattle.std.specs.List.{list_any}
use Rattle.memchr.specs.Find.{OccursAt}
use Rattle.yf_events.specs.Tree.{Node, scalar, alias, sequence, mapping, Items, no_items, item, Pairs, no_pairs, pair, DocumentTree}
use Rattle.yf_events.specs.declared.event.ScalarStyle.{ScalarStyle}
use Rattle.yf_events.specs.declared.event.ScalarStyle.TheVariants.{Plain, Single, Double, Literal, Folded}
use Rattle.yf_events.specs.declared.event.Span.{Span}
use Rattle.yf_forms.specs.Nodes.ContentStart.{content_start}
use Rattle.yf_guard.specs.declared.guarded.Guarded.{Guarded}
use Rattle.yf_guard.specs.declared.guarded.Guarded.TheVariants.{Vault, NoData, Template}
use Rattle.yf_props.specs.Props.{PropsValue}

-- (a) an Ansible Vault file: its first bytes are these
abbrev pub IsVault : List ℕ → Type 0
IsVault t = OccursAt t (codes "$ANSIBLE_VAULT;") 0

-- (b) a document that is a plain scalar over several lines

abbrev pub is_plain : ScalarStyle → Bool
is_plain Plain = true
is_plain Single = false
is_plain Double = false
is_plain Literal = false
is_plain Folded = false

-- a line break is between two offsets
abbrev pub has_break : List ℕ → ℕ → ℕ → Bool
has_break t start end = list_any (λ b. (b == 10) || (b == 13)) (slice_range t start end)

-- the start of a plain scalar over several lines, after its properties
abbrev pub start_if : Bool → ℕ → Option ℕ
start_if true start = Some start
start_if false start = None

abbrev pub lines_start : List ℕ → PropsValue → ScalarStyle → Option Span → Option ℕ
lines_start t props style None = None
lines_start t props style (Some span) = start_if (is_plain style && has_break t (content_start t span props) span.end) (content_start t span props)

abbrev pub no_data_at : Option ℕ → List Guarded
no_data_at None = []
no_data_at (Some offset) = NoData offset ∷ []

abbrev pub no_data : List ℕ → PropsValue → ScalarStyle → Option Span → List Guarded
no_data t props style span = no_data_at (lines_start t props style span)

-- (c) a template: `{{ x }}`, or in block style `? x:` with `:` below it

abbrev pub has_no_props : PropsValue → Bool
has_no_props props = is_none props.anchor && is_none props.tag

abbrev pub is_empty_scalar : PropsValue → ScalarStyle → List ℕ → Bool
is_empty_scalar props style text = is_plain style && ((length text == 0) && has_no_props props)

-- an empty node without properties
abbrev pub is_empty : Node → Bool
is_empty (scalar at props style text lines) = is_empty_scalar props style text
is_empty (alias at name) = false
is_empty (sequence at flow props items) = false
is_empty (mapping at flow props pairs) = false

-- each value is an empty node without properties
abbrev pub has_no_values : Pairs → Bool
has_no_values no_pairs = true
has_no_values (pair k v ps) = is_empty v && has_no_values ps

-- the key of a flow mapping is a flow mapping, or the key of a block mapping is a block mapping without values
abbrev pub doubles : Bool → Node → Bool
doubles flow (scalar at props style text lines) = false
doubles flow (alias at name) = false
doubles flow (sequence at inner props items) = false
doubles flow (mapping at inner props pairs) = if flow then inner else (not inner && has_no_values pairs)

-- the mapping has one pair: such a key without a value
abbrev pub is_template : Bool → Pairs → Bool
is_template flow no_pairs = false
is_template flow (pair k v no_pairs) = doubles flow k && is_empty v
is_template flow (pair k v (pair l w ps)) = false

-- the start of a node with its properties; an empty node has none
abbrev pub start_of : Option Span → ℕ
start_of None = 0
start_of (Some span) = span.start

abbrev pub template_if : Bool → ℕ → List Guarded
template_if true offset = Template offset ∷ []
template_if false offset = []

-- the templates in a node
abbrev mutual
  pub templates : Node → List Guarded
  templates (scalar at props style text lines) = []
  templates (alias at name) = []
  templates (sequence at flow props items) = templates_of_items items
  templates (mapping at flow props pairs) = templates_of_pairs pairs ++ template_if (is_template flow pairs) (start_of at.span)

  pub templates_of_items : Items → List Guarded
  templates_of_items no_items = []
  templates_of_items (item x xs) = templates x ++ templates_of_items xs

  pub templates_of_pairs : Pairs → List Guarded
  templates_of_pairs no_pairs = []
  templates_of_pairs (pair k v ps) = templates k ++ (templates v ++ templates_of_pairs ps)

-- the faults in a document with this root
abbrev pub found_in_root : List ℕ → Node → List Guarded
found_in_root t (scalar at props style text lines) = no_data t props style at.span
found_in_root t (alias at name) = []
found_in_root t (sequence at flow props items) = templates (sequence at flow props items)
found_in_root t (mapping at flow props pairs) = templates (mapping at flow props pairs)

abbrev pub found_in_document : List ℕ → DocumentTree → List Guarded
found_in_document t d = found_in_root t d.root

-- the fault with the least offset, the first of several

abbrev pub offset_of : Guarded → ℕ
offset_of Vault = 0
offset_of (NoData offset) = offset
offset_of (Template offset) = offset

abbrev pub lower : Option Guarded → Guarded → Option Guarded
lower None more = Some more
lower (Some least) more = if nat_lt (offset_of more) (offset_of least) then Some more else Some least

abbrev pub least_from : Option Guarded → List Guarded → Option Guarded
least_from found [] = found
least_from found (x ∷ xs) = least_from (lower found x) xs

-- the fault of a text that is not an Ansible Vault file, with these documents
abbrev pub first_guarded : List ℕ → List DocumentTree → Option Guarded
first_guarded t trees = least_from None (flat_map (found_in_document t) trees)
