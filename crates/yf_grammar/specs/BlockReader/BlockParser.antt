-- The recursive reader of block nodes, line by line. It is between the grammar and the code, as `Parser` is for flow
-- nodes. `Whole t e task o` means that o is the outcome of a task with a limit of e further collections. It proceeds as
-- the code does: it takes each line end as far as it goes, keeps properties from line to line until their node is
-- known, and commits to a collection at a key, a `-`, a `?` or a `:`. It leaves nothing out: a node is found only if
-- the nodes around it go on or end where it ends.
use Rattle.std.specs.Prelude.{◌≡◌, ◌≢◌, ℕ, suc, max, ◌+◌, ◌-◌, ◌<◌, ◌≤◌, ℤ, pos, ◌+ℤ◌, ◌≤ℤ◌, Bool, true, false, List, [], ◌++◌, Option, Some, None, length}
use Rattle.yf_chars.specs.declared.context.Ctx.{Ctx}
use Rattle.yf_chars.specs.declared.context.Ctx.TheVariants.{BlockOut, BlockIn, FlowOut, FlowKey}
use Rattle.yf_chars.specs.Text.{code}
use Rattle.yf_chars.specs.Class.{is_ns_char, is_white, is_white_or_end}
use Rattle.yf_chars.specs.Chain.{Stuck, Chosen, Many}
use Rattle.yf_lines.specs.Basic.{Spaces, ForbiddenLine}
use Rattle.yf_comments.specs.Comment.{CommentValue}
use Rattle.yf_comments.specs.Comments.{LineEnd, BreakOrEnd}
use Rattle.yf_props.specs.Props.{TagValue}
use Rattle.yf_props.specs.Names.{Properties, PropertiesValue}
use Rattle.yf_grammar.specs.Productions.BlockScalar.{BlockScalar}
use Rattle.yf_grammar.specs.Productions.Grammar.{characters_between, KEY_LIMIT, least_column, ColonLine}
use Rattle.yf_grammar.specs.Productions.Meaning.{Meaning, ◌⊕◌, meaning_after, noting, empty_node, collection, with_props, entering}
use Rattle.yf_grammar.specs.FlowReader.Parser.{ParsedNode, found, Parses, ANode, OnOneLine, begins_alias, begins_properties}

-- the `-` of an entry, with no ns-char after it; a `?` or `:`, with white space, a break or the end of the text after
-- it
pub record DashAt (t : List ℕ) (i : ℕ) : Type 0 where
  pub dash : code t i ≡ 45
  pub follows : is_ns_char (code t (i + 1)) ≡ false

pub record SignAt (t : List ℕ) (sign i : ℕ) : Type 0 where
  pub sign_is_at : code t i ≡ sign
  pub follows : is_white_or_end (code t (i + 1)) ≡ true

-- no line of a node begins there
pub data LinesEnd (t : List ℕ) (k : ℕ) : Type 0 where
  text_ends : k ≡ length t → LinesEnd t k
  mark_is_at : code t k ≡ 0xFEFF → LinesEnd t k
  marker_is_at : ForbiddenLine t k → LinesEnd t k

-- a character that is not white space and begins neither a comment nor the end of a line
pub record Content (t : List ℕ) (p : ℕ) : Type 0 where
  pub no_white : is_white (code t p) ≡ false
  pub no_hash : code t p ≢ 35
  pub no_end : (j : ℕ) → BreakOrEnd t p j → ⊥

-- the line that begins at k has m spaces, and after them white space up to its first other character, at p
pub record LineText (t : List ℕ) (k m p : ℕ) : Type 0 where
  pub goes_on : LinesEnd t k → ⊥
  pub spaces : Spaces t k m
  pub no_space : code t (k + m) ≢ 32
  pub whites : List ℕ
  pub run : Many t is_white (k + m) p whites
  pub content : Content t p

-- the columns at which a sequence or a mapping may begin at an offset
pub record Columns : Type 0 where
  pub sequence : Option ℕ
  pub mapping : Option ℕ

-- after an indicator that ends at i, a sequence and a mapping may begin at p, in a compact form, if the flag is true
-- and only spaces are between i and p
pub data Compact (t : List ℕ) : Bool → ℤ → ℕ → ℕ → Columns → Type 0 where
  compact_columns : {m i l : ℕ} → Spaces t i l → Compact t true (pos m) i (i + l) (record { sequence = Some (m + 1 + l); mapping = Some (m + 1 + l) })
  no_columns : {b : Bool} {n : ℤ} {i p : ℕ} → (b ≡ true → Spaces t i (p - i) → ⊥) → Compact t b n i p (record { sequence = None; mapping = None })

-- the column m of the offset p, if p is right after the m spaces from k on and m is at least `least`
pub data ColumnIf (k m p : ℕ) (least : ℤ) : Option ℕ → Type 0 where
  column_there : p ≡ k + m → least ≤ℤ pos m → ColumnIf k m p least (Some m)
  column_not : (p ≡ k + m → least ≤ℤ pos m → ⊥) → ColumnIf k m p least None

-- the columns at which a sequence or a mapping may begin at p, the first character of a line with m spaces from k on
pub record LineColumns (n : ℤ) (c : Ctx) (k m p : ℕ) (cols : Columns) : Type 0 where
  pub sequence : ColumnIf k m p (least_column true n c) cols.sequence
  pub mapping : ColumnIf k m p (least_column false n c) cols.mapping

-- a node in an indentation n begins on that line, and is awaited from i on: the line has n + 1 spaces, or is the first
-- line that is read, or has the `-` of a sequence
pub data Begins (t : List ℕ) (n : ℤ) (c : Ctx) (i k m p : ℕ) : Type 0 where
  line_indented : (n +ℤ pos 1) ≤ℤ pos m → Begins t n c i k m p
  line_first : k ≡ i → Begins t n c i k m p
  line_dashed : DashAt t p → p ≡ k + m → least_column true n c ≤ℤ pos m → Begins t n c i k m p

-- a node begins on no line there
pub record NoNode (t : List ℕ) (n : ℤ) (c : Ctx) (i k : ℕ) : Type 0 where
  pub none : (m p : ℕ) → LineText t k m p → Begins t n c i k m p → ⊥

-- properties before a node, from one offset to another, with the comments between them and after them
pub record PropertiesHeld : Type 0 where
  pub value : PropertiesValue
  pub start : ℕ
  pub end : ℕ

-- the text before an awaited node: nothing, and the node is not empty; an indicator, which ends at the offset, and the
-- node may be empty; or properties, after which the node may be empty
pub data Ahead : Type 0 where
  Nothing : Ahead
  Indicator : ℕ → Ahead
  Props : PropertiesHeld → Ahead

unfoldable pub with_comments : PropertiesHeld → List CommentValue → PropertiesHeld
with_comments h ds = record h { value = record h.value { comments = h.value.comments ++ ds } }

-- a node with its `Ahead`
unfoldable pub headed : Ahead → Meaning → Meaning
headed Nothing x = x
headed (Indicator i) x = x
headed (Props h) x = meaning_after h.value.comments (with_props h.value.props h.value.tag_offset h.start h.end x)

-- comments after an `Ahead`: properties keep them, otherwise they go before the node (`outcome_after`)
unfoldable pub past : Ahead → List CommentValue → Ahead
past (Props h) ds = Props (with_comments h ds)
past a ds = a

unfoldable pub outcome_after : Ahead → List CommentValue → Option ParsedNode → Option ParsedNode
outcome_after a ds None = None
outcome_after (Props h) ds (Some f) = Some f
outcome_after Nothing ds (Some f) = Some (record f { meaning = meaning_after ds f.meaning })
outcome_after (Indicator i) ds (Some f) = Some (record f { meaning = meaning_after ds f.meaning })

-- only the `Ahead`, with the comments after it, up to k
unfoldable pub alone : Ahead → ℕ → List CommentValue → Option ParsedNode
alone Nothing k ds = None
alone (Indicator i) k ds = found k 0 false (noting (empty_node i) ds)
alone (Props h) k ds = found k 0 false (noting (headed (Props h) (empty_node h.end)) ds)

-- properties of one line after those of earlier lines: at most one anchor and one tag
unfoldable pub one_of : {A : Type 0} → Option A → Option A → Option A
one_of None x = x
one_of (Some a) x = Some a

unfoldable pub both : PropertiesHeld → PropertiesValue → ℕ → Ahead
both h q g = Props (record {
  value = record {
    props = record { anchor = one_of h.value.props.anchor q.props.anchor; tag = one_of h.value.props.tag q.props.tag };
    tag_offset = one_of h.value.tag_offset q.tag_offset;
    comments = h.value.comments ++ q.comments;
  };
  start = h.start;
  end = g;
})

pub data Clash (h : PropertiesHeld) (q : PropertiesValue) : Type 0 where
  anchors_clash : {a b : List ℕ} → h.value.props.anchor ≡ Some a → q.props.anchor ≡ Some b → Clash h q
  tags_clash : {a b : TagValue} → h.value.props.tag ≡ Some a → q.props.tag ≡ Some b → Clash h q

-- the `Ahead` after properties from p to g; or the properties of both clash
pub data Joins (a : Ahead) (q : PropertiesValue) (p g : ℕ) : Ahead → Type 0 where
  first_held : ((h : PropertiesHeld) → a ≡ Props h → ⊥) → Joins a q p g (Props (record { value = q; start = p; end = g }))
  more_held : {h : PropertiesHeld} → a ≡ Props h → (Clash h q → ⊥) → Joins a q p g (both h q g)

pub record Apart (a : Ahead) (q : PropertiesValue) : Type 0 where
  pub held : PropertiesHeld
  pub is : a ≡ Props held
  pub clash : Clash held q

-- an implicit key of a block mapping: a flow node that was found from i on, outside of brackets, is on one line and not
-- too long; white space may follow it, and then a `:` with white space, a break or the end of the text after it
pub record KeyBefore (t : List ℕ) (i : ℕ) (f : ParsedNode) (k : ℕ) : Type 0 where
  pub whites : List ℕ
  pub run : Many t is_white f.end k whites
  pub line : OnOneLine t i k
  pub short : characters_between t i k ≤ KEY_LIMIT
  pub colon : SignAt t 58 k

pub data NoKey (t : List ℕ) (i : ℕ) : Option ParsedNode → Type 0 where
  key_missed : NoKey t i None
  key_unfit : {f : ParsedNode} → ((k : ℕ) → KeyBefore t i f k → ⊥) → NoKey t i (Some f)

-- no key begins there: no flow node there is one, or the line ends after its properties
pub data Keyless (t : List ℕ) (e : ℕ) (n : ℤ) (i : ℕ) : Type 0 where
  node_unfit : {o : Option ParsedNode} → Parses t e (ANode n FlowOut i) o → NoKey t i o → Keyless t e n i
  properties_end_line : {g l : ℕ} {q : PropertiesValue} {ds : List CommentValue} → Chosen (Properties t (pos 0) FlowKey i) g q → LineEnd t g l ds → Keyless t e n i

-- the line at k has the next entry of a collection with this kind and the column m
pub data NextEntry (t : List ℕ) : Bool → ℕ → ℕ → Type 0 where
  next_item : {m k p : ℕ} → LineText t k m p → DashAt t (k + m) → NextEntry t true m k
  next_pair : {m k p : ℕ} → LineText t k m p → NextEntry t false m k

-- the line at k has no such entry and is not deeper, or no line is there
pub record NoEntry (t : List ℕ) (sequence : Bool) (m k : ℕ) : Type 0 where
  pub no_next : NextEntry t sequence m k → ⊥
  pub not_deeper : (l p : ℕ) → LineText t k l p → l ≤ m

-- the line at k is deeper: it has more than m spaces
pub record DeeperLine (t : List ℕ) (m k : ℕ) : Type 0 where
  pub column : ℕ
  pub first : ℕ
  pub line : LineText t k column first
  pub deep : m < column

-- an entry after others; or the first entry. The key of a first entry was read before the reader knew that a mapping
-- begins with it: in the indentation n of the awaited node, and before the mapping counted as open
pub data Origin : Type 0 where
  Later : Origin
  First : ℤ → Origin

abbrev pub key_limit : ℕ → Origin → ℕ
key_limit e Later = e
key_limit e (First n) = suc e

abbrev pub key_indent : ℕ → Origin → ℤ
key_indent m Later = pos m +ℤ pos 1
key_indent m (First n) = n +ℤ pos 1

pub data BlockTask : Type 0 where
  -- a node awaited after an indicator, or at the outermost call; the flag: a collection may begin on the line
  Awaited : Bool → ℤ → Ctx → Ahead → ℕ → BlockTask
  -- a node awaited after the end of a line, which is read from the offset on
  Below : ℤ → Ctx → Ahead → ℕ → BlockTask
  -- a node with its first character on the line at the offset
  Inline : ℤ → Ctx → Columns → Ahead → ℕ → BlockTask
  -- a block scalar, or a flow node without properties at the end of a line
  Leaf : ℤ → Ahead → ℕ → BlockTask
  -- entries at a column, the first at the offset; one entry
  Items : Bool → ℕ → Origin → ℕ → BlockTask
  Item : Bool → ℕ → Origin → ℕ → BlockTask

-- a block collection of entries found from i on
unfoldable pub collected : Ahead → Bool → ℕ → ParsedNode → Option ParsedNode
collected a sequence i f = found f.end (suc f.height) false (headed a (collection sequence false i f.meaning.finish f.meaning))

unfoldable pub leaf_found : Ahead → ℕ → ℕ → Meaning → List CommentValue → Option ParsedNode
leaf_found a j h x ds = found j h false (headed a (noting x ds))

unfoldable pub item_found : ℕ → ParsedNode → Option ParsedNode
item_found i f = found f.end f.height false (entering i None f.meaning)

unfoldable pub lone_key : ℕ → ParsedNode → Option ParsedNode
lone_key i f = found f.end f.height false (entering i None f.meaning ⊕ empty_node f.meaning.finish)

unfoldable pub lone_value : ℕ → ParsedNode → Option ParsedNode
lone_value i f = found f.end f.height false (entering i (Some i) (empty_node i) ⊕ f.meaning)

-- a key, its `:` at k, and its value
unfoldable pub pair_found : ℕ → ℕ → ParsedNode → ParsedNode → Option ParsedNode
pair_found i k f g = found g.end (max f.height g.height) false (entering i (Some k) f.meaning ⊕ g.meaning)

unfoldable pub items_found : ParsedNode → ParsedNode → Option ParsedNode
items_found f g = found g.end (max f.height g.height) false (f.meaning ⊕ g.meaning)

-- a mapping begins there: with a `?` or a `:`, or with a key
pub data MappingAt (t : List ℕ) (e : ℕ) (n : ℤ) (p : ℕ) : Type 0 where
  by_question : SignAt t 63 p → MappingAt t e n p
  by_colon : SignAt t 58 p → MappingAt t e n p
  by_key : {k : ℕ} {f : ParsedNode} → Parses t e (ANode (n +ℤ pos 1) FlowOut p) (Some f) → KeyBefore t p f k → MappingAt t e n p

-- no collection begins there with a sign
pub record NoSign (t : List ℕ) (cols : Columns) (p : ℕ) : Type 0 where
  pub no_dash : {m : ℕ} → cols.sequence ≡ Some m → DashAt t p → ⊥
  pub no_question : {m : ℕ} → cols.mapping ≡ Some m → SignAt t 63 p → ⊥
  pub no_colon : {m : ℕ} → cols.mapping ≡ Some m → SignAt t 58 p → ⊥

-- no collection begins at p with a key: no mapping may begin there, or the flow node there is no key
pub data NoKeyAt (t : List ℕ) (e : ℕ) (n : ℤ) (cols : Columns) (p : ℕ) : Type 0 where
  no_column : cols.mapping ≡ None → NoKeyAt t e n cols p
  unfit_node : {o : Option ParsedNode} → Parses t e (ANode (n +ℤ pos 1) FlowOut p) o → NoKey t p o → NoKeyAt t e n cols p

-- the awaited node may be a flow node without properties of its own: no properties begin at p, and if properties are
-- before the node, no alias begins at p
pub record MayLeaf (t : List ℕ) (a : Ahead) (p : ℕ) : Type 0 where
  pub no_props : begins_properties (code t p) ≡ false
  pub no_alias : {h : PropertiesHeld} → a ≡ Props h → begins_alias (code t p) ≡ false

pub data Whole (t : List ℕ) : ℕ → BlockTask → Option ParsedNode → Type 0 where
  -- after an indicator: the line ends there, or white space is before the node
  awaited_below : {e i k : ℕ} {b : Bool} {n : ℤ} {c : Ctx} {a : Ahead} {ds : List CommentValue} {o : Option ParsedNode} → Chosen (LineEnd t i) k ds
      → Whole t e (Below n c a i) o → Whole t e (Awaited b n c a i) o
  awaited_inline : {e i p : ℕ} {b : Bool} {n : ℤ} {c : Ctx} {a : Ahead} {cols : Columns} {w : List ℕ} {o : Option ParsedNode} → Stuck (LineEnd t i)
      → Many t is_white i p w → i < p → is_white (code t p) ≡ false → Compact t b n i p cols → Whole t e (Inline n c cols a p) o
      → Whole t e (Awaited b n c a i) o
  awaited_missed : {e i : ℕ} {b : Bool} {n : ℤ} {c : Ctx} {a : Ahead} → Stuck (LineEnd t i) → is_white (code t i) ≡ false
      → Whole t e (Awaited b n c a i) None
  -- after the end of a line
  below_alone : {e i k : ℕ} {n : ℤ} {c : Ctx} {a : Ahead} {ds : List CommentValue} → Chosen (LineEnd t i) k ds → NoNode t n c i k
      → Whole t e (Below n c a i) (alone a k ds)
  below_node : {e i k m p : ℕ} {n : ℤ} {c : Ctx} {a : Ahead} {cols : Columns} {ds : List CommentValue} {o : Option ParsedNode} → Chosen (LineEnd t i) k ds
      → LineText t k m p → Begins t n c i k m p → LineColumns n c k m p cols → Whole t e (Inline n c cols (past a ds) p) o
      → Whole t e (Below n c a i) (outcome_after a ds o)
  below_missed : {e i : ℕ} {n : ℤ} {c : Ctx} {a : Ahead} → Stuck (LineEnd t i) → Whole t e (Below n c a i) None
  -- a collection that begins with a `-`, with a `?` or a `:`, or with a key
  sequence_read : {e m p : ℕ} {n : ℤ} {c : Ctx} {cols : Columns} {a : Ahead} {f : ParsedNode} → cols.sequence ≡ Some m → DashAt t p
      → Whole t e (Items true m (First n) p) (Some f) → Whole t (suc e) (Inline n c cols a p) (collected a true p f)
  sequence_missed : {e m p : ℕ} {n : ℤ} {c : Ctx} {cols : Columns} {a : Ahead} → cols.sequence ≡ Some m → DashAt t p
      → Whole t e (Items true m (First n) p) None → Whole t (suc e) (Inline n c cols a p) None
  sequence_too_deep : {m p : ℕ} {n : ℤ} {c : Ctx} {cols : Columns} {a : Ahead} → cols.sequence ≡ Some m → DashAt t p
      → Whole t 0 (Inline n c cols a p) None
  mapping_read : {e m p : ℕ} {n : ℤ} {c : Ctx} {cols : Columns} {a : Ahead} {f : ParsedNode} → (DashAt t p → ⊥) → cols.mapping ≡ Some m
      → MappingAt t (suc e) n p → Whole t e (Items false m (First n) p) (Some f) → Whole t (suc e) (Inline n c cols a p) (collected a false p f)
  mapping_missed : {e m p : ℕ} {n : ℤ} {c : Ctx} {cols : Columns} {a : Ahead} → (DashAt t p → ⊥) → cols.mapping ≡ Some m
      → MappingAt t (suc e) n p → Whole t e (Items false m (First n) p) None → Whole t (suc e) (Inline n c cols a p) None
  mapping_too_deep : {m p : ℕ} {n : ℤ} {c : Ctx} {cols : Columns} {a : Ahead} → (DashAt t p → ⊥) → cols.mapping ≡ Some m
      → MappingAt t 0 n p → Whole t 0 (Inline n c cols a p) None
  -- no collection: properties up to the line's end, or before a leaf; a leaf
  properties_below : {e p g k : ℕ} {n : ℤ} {c : Ctx} {cols : Columns} {a z : Ahead} {q : PropertiesValue} {ds : List CommentValue} {o : Option ParsedNode}
      → NoSign t cols p → Chosen (Properties t (pos 0) FlowKey p) g q → Chosen (LineEnd t g) k ds → Joins a q p g z
      → Whole t e (Below n c z g) o → Whole t e (Inline n c cols a p) o
  properties_leaf : {e p g k : ℕ} {n : ℤ} {c : Ctx} {cols : Columns} {a z : Ahead} {q : PropertiesValue} {w : List ℕ} {o : Option ParsedNode}
      → NoSign t cols p → NoKeyAt t e n cols p → Chosen (Properties t (pos 0) FlowKey p) g q → Stuck (LineEnd t g) → Many t is_white g k w → g < k
      → is_white (code t k) ≡ false → Joins a q p g z → Whole t e (Leaf n z k) o → Whole t e (Inline n c cols a p) o
  properties_alone_missed : {e p g : ℕ} {n : ℤ} {c : Ctx} {cols : Columns} {a : Ahead} {q : PropertiesValue} → NoSign t cols p → NoKeyAt t e n cols p
      → Chosen (Properties t (pos 0) FlowKey p) g q → Stuck (LineEnd t g) → is_white (code t g) ≡ false → Whole t e (Inline n c cols a p) None
  properties_apart_below : {e p g k : ℕ} {n : ℤ} {c : Ctx} {cols : Columns} {a : Ahead} {q : PropertiesValue} {ds : List CommentValue}
      → NoSign t cols p → Chosen (Properties t (pos 0) FlowKey p) g q → Chosen (LineEnd t g) k ds → Apart a q → Whole t e (Inline n c cols a p) None
  properties_apart : {e p g : ℕ} {n : ℤ} {c : Ctx} {cols : Columns} {a : Ahead} {q : PropertiesValue} → NoSign t cols p → NoKeyAt t e n cols p
      → Chosen (Properties t (pos 0) FlowKey p) g q → Stuck (LineEnd t g) → Apart a q → Whole t e (Inline n c cols a p) None
  leaf_there : {e p : ℕ} {n : ℤ} {c : Ctx} {cols : Columns} {a : Ahead} {o : Option ParsedNode} → NoSign t cols p → NoKeyAt t e n cols p
      → Stuck (Properties t (pos 0) FlowKey p) → Whole t e (Leaf n a p) o → Whole t e (Inline n c cols a p) o
  -- leaves: after a block scalar no rest of a line is read; an alias has no properties
  scalar_read : {e p j : ℕ} {n : ℤ} {a : Ahead} {x : Meaning} → Chosen (BlockScalar t n p) j x → Whole t e (Leaf n a p) (leaf_found a j 0 x [])
  leaf_read : {e p j : ℕ} {n : ℤ} {a : Ahead} {ds : List CommentValue} {f : ParsedNode} → Stuck (BlockScalar t n p) → MayLeaf t a p
      → Parses t e (ANode (n +ℤ pos 1) FlowOut p) (Some f) → Chosen (LineEnd t f.end) j ds
      → Whole t e (Leaf n a p) (leaf_found a j f.height f.meaning ds)
  leaf_unended : {e p : ℕ} {n : ℤ} {a : Ahead} {f : ParsedNode} → Stuck (BlockScalar t n p) → MayLeaf t a p
      → Parses t e (ANode (n +ℤ pos 1) FlowOut p) (Some f) → Stuck (LineEnd t f.end) → Whole t e (Leaf n a p) None
  leaf_missed : {e p : ℕ} {n : ℤ} {a : Ahead} → Stuck (BlockScalar t n p) → MayLeaf t a p
      → Parses t e (ANode (n +ℤ pos 1) FlowOut p) None → Whole t e (Leaf n a p) None
  leaf_refused : {e p : ℕ} {n : ℤ} {a : Ahead} → Stuck (BlockScalar t n p) → (MayLeaf t a p → ⊥) → Whole t e (Leaf n a p) None
  -- entries
  items_missed : {e m i : ℕ} {s : Bool} {q : Origin} → Whole t e (Item s m q i) None → Whole t e (Items s m q i) None
  items_last : {e m i : ℕ} {s : Bool} {q : Origin} {f : ParsedNode} → Whole t e (Item s m q i) (Some f) → NoEntry t s m f.end → Whole t e (Items s m q i) (Some f)
  items_deeper : {e m i : ℕ} {s : Bool} {q : Origin} {f : ParsedNode} → Whole t e (Item s m q i) (Some f) → DeeperLine t m f.end → Whole t e (Items s m q i) None
  items_then : {e m i : ℕ} {s : Bool} {q : Origin} {f g : ParsedNode} → Whole t e (Item s m q i) (Some f) → NextEntry t s m f.end
      → Whole t e (Items s m Later (f.end + m)) (Some g) → Whole t e (Items s m q i) (items_found f g)
  items_then_missed : {e m i : ℕ} {s : Bool} {q : Origin} {f : ParsedNode} → Whole t e (Item s m q i) (Some f) → NextEntry t s m f.end
      → Whole t e (Items s m Later (f.end + m)) None → Whole t e (Items s m q i) None
  -- one entry: after `-`; after `?`, with or without a value; after `:`; with a key
  item_read : {e m i : ℕ} {q : Origin} {f : ParsedNode} → DashAt t i → Whole t e (Awaited true (pos m) BlockIn (Indicator (i + 1)) (i + 1)) (Some f)
      → Whole t e (Item true m q i) (item_found i f)
  item_missed : {e m i : ℕ} {q : Origin} → DashAt t i → Whole t e (Awaited true (pos m) BlockIn (Indicator (i + 1)) (i + 1)) None
      → Whole t e (Item true m q i) None
  item_undashed : {e m i : ℕ} {q : Origin} → (DashAt t i → ⊥) → Whole t e (Item true m q i) None
  question_missed : {e m i : ℕ} {q : Origin} → SignAt t 63 i → Whole t e (Awaited true (pos m) BlockOut (Indicator (i + 1)) (i + 1)) None
      → Whole t e (Item false m q i) None
  question_alone : {e m i : ℕ} {q : Origin} {f : ParsedNode} → SignAt t 63 i → Whole t e (Awaited true (pos m) BlockOut (Indicator (i + 1)) (i + 1)) (Some f)
      → (ColonLine t m f.end → ⊥) → Whole t e (Item false m q i) (lone_key i f)
  question_and_value : {e m i : ℕ} {q : Origin} {f g : ParsedNode} → SignAt t 63 i → Whole t e (Awaited true (pos m) BlockOut (Indicator (i + 1)) (i + 1)) (Some f)
      → ColonLine t m f.end → Whole t e (Awaited true (pos m) BlockOut (Indicator (f.end + m + 1)) (f.end + m + 1)) (Some g)
      → Whole t e (Item false m q i) (pair_found i (f.end + m) f g)
  question_value_missed : {e m i : ℕ} {q : Origin} {f : ParsedNode} → SignAt t 63 i → Whole t e (Awaited true (pos m) BlockOut (Indicator (i + 1)) (i + 1)) (Some f)
      → ColonLine t m f.end → Whole t e (Awaited true (pos m) BlockOut (Indicator (f.end + m + 1)) (f.end + m + 1)) None
      → Whole t e (Item false m q i) None
  colon_read : {e m i : ℕ} {q : Origin} {f : ParsedNode} → SignAt t 58 i → Whole t e (Awaited false (pos m) BlockOut (Indicator (i + 1)) (i + 1)) (Some f)
      → Whole t e (Item false m q i) (lone_value i f)
  colon_missed : {e m i : ℕ} {q : Origin} → SignAt t 58 i → Whole t e (Awaited false (pos m) BlockOut (Indicator (i + 1)) (i + 1)) None
      → Whole t e (Item false m q i) None
  key_read : {e m i k : ℕ} {q : Origin} {f g : ParsedNode} → (SignAt t 63 i → ⊥) → (SignAt t 58 i → ⊥) → Parses t (key_limit e q) (ANode (key_indent m q) FlowOut i) (Some f)
      → f.height ≤ e → KeyBefore t i f k → Whole t e (Awaited false (pos m) BlockOut (Indicator (k + 1)) (k + 1)) (Some g)
      → Whole t e (Item false m q i) (pair_found i k f g)
  key_value_missed : {e m i k : ℕ} {q : Origin} {f : ParsedNode} → (SignAt t 63 i → ⊥) → (SignAt t 58 i → ⊥) → Parses t (key_limit e q) (ANode (key_indent m q) FlowOut i) (Some f)
      → f.height ≤ e → KeyBefore t i f k → Whole t e (Awaited false (pos m) BlockOut (Indicator (k + 1)) (k + 1)) None
      → Whole t e (Item false m q i) None
  no_key : {e m i : ℕ} {q : Origin} → (SignAt t 63 i → ⊥) → (SignAt t 58 i → ⊥) → Keyless t (key_limit e q) (key_indent m q) i
      → Whole t e (Item false m q i) None
  key_too_deep : {e m i k : ℕ} {q : Origin} {f : ParsedNode} → (SignAt t 63 i → ⊥) → (SignAt t 58 i → ⊥)
      → Parses t (key_limit e q) (ANode (key_indent m q) FlowOut i) (Some f) → e < f.height → KeyBefore t i f k → Whole t e (Item false m q i) None
