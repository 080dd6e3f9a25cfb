-- The wanted columns of the entries of block collections and of the content of block scalars, in the trees of a
-- reading. An index counts events from 0.
use Rattle.std.specs.Prelude.{◌≡◌, ◌≢◌, ℕ, ◌+◌, true, false, List, Option, Some, None}
use Rattle.std.specs.List.{Contains}
use Rattle.std.specs.Str.{IsCharBoundary}
use Rattle.yf_forms.specs.Nodes.ContentStart.{content_start}
use Rattle.yf_forms.specs.declared.style.Style.{Style}
use Rattle.yf_events.specs.Tree.{Node, scalar, alias, sequence, mapping, Items, no_items, item, Pairs, no_pairs, pair, DocumentTree, is_block_collection, is_sequence, standing}
use Rattle.yf_events.specs.declared.event.Entry.{Entry}
use Rattle.yf_events.specs.declared.event.ScalarStyle.{ScalarStyle}
use Rattle.yf_events.specs.declared.event.Span.{Span}
use Rattle.yf_lines.specs.Lines.{LinesBegunAt, PlaceOf, Table}
use Rattle.yf_props.specs.Props.{PropsValue}
use Rattle.yf_rule_sets.specs.RuleSets.Nodes.{IsChildOf, NumberedNode, IsNodeOf, pairs_of, roots_from}
use Rattle.yf_rule_sets.specs.RuleSets.QuestionMarks.{HasQuestionMark}
use Rattle.yf_rule_sets.specs.RuleSets.Scalars.{BlockContent, is_block_style}

-- the first node in a collection
abbrev pub first_item : Items → Option Node
first_item no_items = None
first_item (item x xs) = Some x

abbrev pub first_key : Pairs → Option Node
first_key no_pairs = None
first_key (pair k v ps) = Some k

abbrev pub first_in : Node → Option Node
first_in (scalar at props style text lines) = None
first_in (alias at name) = None
first_in (sequence at flow props items) = first_item items
first_in (mapping at flow props pairs) = first_key pairs

-- the column, from 0, of the entries of a block collection, and the offset of its first entry, which is a boundary
pub data EntriesAt (src : Table) (x : Node) : ℕ → ℕ → Type 0 where
  at_first : {first : Node} {entry : Entry} {line column : ℕ} → is_block_collection x ≡ true → first_in x ≡ Some first
      → (standing first).entry ≡ Some entry → IsCharBoundary src.text entry.start → PlaceOf src.text entry.start line (column + 1)
      → EntriesAt src x column entry.start

-- a key with an entry without `?`
pub data WithoutMark (src : Table) (k : Node) : Type 0 where
  no_mark : {entry : Entry} → (standing k).entry ≡ Some entry → (HasQuestionMark src.text entry.start → ⊥) → WithoutMark src k

-- a block sequence that is the value of a key without `?` in a block mapping
pub record ImplicitValue (src : Table) (x y : NumberedNode) : Type 0 where
  pub key : NumberedNode
  pub in_mapping : Contains (pairs_of x.0 x.1) (key, y)
  pub of_block : is_block_collection x.1 ≡ true
  pub is_block : is_block_collection y.1 ≡ true
  pub is_sequence : is_sequence y.1 ≡ true
  pub without_mark : WithoutMark src key.1

-- the wanted column, from 0, of the entries of a block collection: 0 for a root; otherwise `indent` right of the
-- entries around it; but if `seq_indent` is off, the key's column for a sequence after a key without `?`
pub data WantedColumn (src : Table) (house : Style) (trees : List DocumentTree) (y : NumberedNode) : ℕ → Type 0 where
  of_root : Contains (roots_from 1 trees) y → WantedColumn src house trees y 0
  further : {x : NumberedNode} {column start : ℕ} → IsNodeOf trees x → IsChildOf x y → EntriesAt src x.1 column start
      → (house.seq_indent ≡ false → ImplicitValue src x y → ⊥) → WantedColumn src house trees y (column + house.indent)
  at_key : {x : NumberedNode} {column start : ℕ} → IsNodeOf trees x → house.seq_indent ≡ false → ImplicitValue src x y → EntriesAt src x.1 column start
      → WantedColumn src house trees y column

-- the wanted indentation of the content of a block scalar
pub data WantedIndent (src : Table) (house : Style) (trees : List DocumentTree) (y : NumberedNode) : ℕ → Type 0 where
  at_root : Contains (roots_from 1 trees) y → WantedIndent src house trees y house.indent
  in_entry : {x : NumberedNode} {column start : ℕ} → IsNodeOf trees x → IsChildOf x y → EntriesAt src x.1 column start
      → WantedIndent src house trees y (column + house.indent)

-- indentation: the first entry of a block collection at another column than wanted, and the header of a block scalar
-- with another indentation than wanted
pub data IndentFault (src : Table) (house : Style) (trees : List DocumentTree) (i : ℕ) : ℕ → Type 0 where
  entries : {y : NumberedNode} {column wanted start : ℕ} → IsNodeOf trees y → y.0 ≡ i
      → EntriesAt src y.1 column start → WantedColumn src house trees y wanted → column ≢ wanted → IndentFault src house trees i start
  content : {y : NumberedNode} {props : PropsValue} {style : ScalarStyle} {text : List ℕ} {lines : List (List ℕ)} {s : Span}
      {follows first indent wanted : ℕ} → IsNodeOf trees y → y.0 ≡ i → y.1 ≡ scalar (standing y.1) props style text lines
      → (standing y.1).span ≡ Some s → is_block_style style ≡ true → LinesBegunAt src.lines (content_start src.text s props) follows
      → BlockContent src.lines text follows first indent → WantedIndent src house trees y wanted → indent ≢ wanted
      → IndentFault src house trees i (content_start src.text s props)
