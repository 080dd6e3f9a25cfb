-- The part of a broken node that is read: `Halts t e ws task o` means that o is the part of a task up to the last
-- offset at which it may end, without the text after that offset. ws are the columns of the entries around the task
-- that have a `?`, and would have no value if the part ended there: so the part may not end before a `:` of one of
-- these entries. `Halts` uses `Whole` for the end of an entry that others follow.
use Rattle.std.specs.Prelude.{◌≡◌, ℕ, suc, ◌+◌, ◌<◌, ◌≤◌, ℤ, pos, ◌+ℤ◌, Bool, true, false, List, [], ◌∷◌, Option, Some, None, encode_utf8_all}
use Rattle.yf_chars.specs.declared.context.Ctx.{Ctx}
use Rattle.yf_chars.specs.declared.context.Ctx.TheVariants.{BlockOut, BlockIn, FlowOut, FlowKey}
use Rattle.yf_chars.specs.Text.{code}
use Rattle.yf_chars.specs.Class.{is_white}
use Rattle.yf_chars.specs.Chain.{Stuck, Chosen, Many}
use Rattle.yf_comments.specs.Comment.{CommentValue}
use Rattle.yf_comments.specs.Comments.{LineEnd}
use Rattle.yf_events.specs.declared.event.ScalarStyle.TheVariants.{Plain as PlainStyle}
use Rattle.yf_plain.specs.Plain.{Plain}
use Rattle.yf_props.specs.Names.{Properties, PropertiesValue}
use Rattle.yf_grammar.specs.Productions.BlockScalar.{BlockScalar}
use Rattle.yf_grammar.specs.Productions.Grammar.{ColonLine}
use Rattle.yf_grammar.specs.Productions.Meaning.{Meaning, noting, scalar}
use Rattle.yf_grammar.specs.FlowReader.Parser.{ParsedNode, found, Parses, ANode, begins_plain}
use Rattle.yf_grammar.specs.BlockReader.BlockParser.{DashAt, SignAt, LineText, Columns, Compact, LineColumns, Begins, NoNode, Ahead, Indicator, headed, past, outcome_after, alone, Joins, Apart, KeyBefore, Keyless, NextEntry, MappingAt, NoSign, NoKeyAt, MayLeaf, Origin, Later, First, key_limit, key_indent, BlockTask, Awaited, Below, Inline, Leaf, Items, Item, collected, leaf_found, item_found, lone_key, lone_value, pair_found, items_found, Whole}

-- no `:` of an entry with a `?` at one of the columns is on the line at j
pub data NoColonAt (t : List ℕ) (j : ℕ) : List ℕ → Type 0 where
  none_open : NoColonAt t j []
  one_open : {w : ℕ} {ws : List ℕ} → (ColonLine t w j → ⊥) → NoColonAt t j ws → NoColonAt t j (w ∷ ws)

-- the end of a line, and comment lines, up to an offset at which all nodes may end
pub record MayEnd (t : List ℕ) (ws : List ℕ) (i j : ℕ) (ds : List CommentValue) : Type 0 where
  pub line : LineEnd t i j ds
  pub allowed : NoColonAt t j ws

-- a plain scalar with the end of its last line, all of it or without its last lines
pub data PlainPart (t : List ℕ) (n : ℤ) (ws : List ℕ) (i : ℕ) : ℕ → Meaning → Type 0 where
  plain_part : {l j : ℕ} {x : List ℕ} {ds : List CommentValue} → Plain t n FlowOut i l x → MayEnd t ws l j ds
      → PlainPart t n ws i j (noting (scalar PlainStyle (encode_utf8_all x) [] i l) ds)

-- a block scalar, which has one end
pub record ScalarPart (t : List ℕ) (n : ℤ) (ws : List ℕ) (i j : ℕ) (x : Meaning) : Type 0 where
  pub scalar : BlockScalar t n i j x
  pub allowed : NoColonAt t j ws

-- only the `Ahead`
pub data Alone (t : List ℕ) (ws : List ℕ) (a : Ahead) (i : ℕ) : Option ParsedNode → Type 0 where
  alone_to : {k : ℕ} {ds : List CommentValue} → Chosen (MayEnd t ws i) k ds → Alone t ws a i (alone a k ds)
  alone_nowhere : Stuck (MayEnd t ws i) → Alone t ws a i None

-- nothing was found, or P does not hold at the end of the part that was found
pub data NoneAfter (P : ℕ → Type 0) : Option ParsedNode → Type 0 where
  not_found : NoneAfter P None
  not_after : {f : ParsedNode} → (P f.end → ⊥) → NoneAfter P (Some f)

-- `f` of an outcome, or `None` if the outcome is `None`
unfoldable pub then_found : (ParsedNode → Option ParsedNode) → Option ParsedNode → Option ParsedNode
then_found f None = None
then_found f (Some x) = f x

unfoldable pub with_plain : Ahead → ℕ → Meaning → Option ParsedNode
with_plain a j x = found j 0 false (headed a x)

pub data Halts (t : List ℕ) : ℕ → List ℕ → BlockTask → Option ParsedNode → Type 0 where
  halts_below : {e i k : ℕ} {ws : List ℕ} {b : Bool} {n : ℤ} {c : Ctx} {a : Ahead} {ds : List CommentValue} {o : Option ParsedNode} → Chosen (LineEnd t i) k ds
      → Halts t e ws (Below n c a i) o → Halts t e ws (Awaited b n c a i) o
  halts_inline : {e i p : ℕ} {ws : List ℕ} {b : Bool} {n : ℤ} {c : Ctx} {a : Ahead} {cols : Columns} {w : List ℕ} {o : Option ParsedNode}
      → Stuck (LineEnd t i) → Many t is_white i p w → i < p → is_white (code t p) ≡ false → Compact t b n i p cols
      → Halts t e ws (Inline n c cols a p) o → Halts t e ws (Awaited b n c a i) o
  halts_missed : {e i : ℕ} {ws : List ℕ} {b : Bool} {n : ℤ} {c : Ctx} {a : Ahead} → Stuck (LineEnd t i) → is_white (code t i) ≡ false
      → Halts t e ws (Awaited b n c a i) None
  -- if a node begins on a line but has no end, the task may end after its `Ahead`, before that node
  halts_alone : {e i k : ℕ} {ws : List ℕ} {n : ℤ} {c : Ctx} {a : Ahead} {ds : List CommentValue} {o : Option ParsedNode} → Chosen (LineEnd t i) k ds
      → NoNode t n c i k → Alone t ws a i o → Halts t e ws (Below n c a i) o
  halts_node : {e i k m p : ℕ} {ws : List ℕ} {n : ℤ} {c : Ctx} {a : Ahead} {cols : Columns} {ds : List CommentValue} {f : ParsedNode}
      → Chosen (LineEnd t i) k ds → LineText t k m p → Begins t n c i k m p → LineColumns n c k m p cols
      → Halts t e ws (Inline n c cols (past a ds) p) (Some f) → Halts t e ws (Below n c a i) (outcome_after a ds (Some f))
  halts_before_node : {e i k m p : ℕ} {ws : List ℕ} {n : ℤ} {c : Ctx} {a : Ahead} {cols : Columns} {ds : List CommentValue} {o : Option ParsedNode}
      → Chosen (LineEnd t i) k ds → LineText t k m p → Begins t n c i k m p → LineColumns n c k m p cols
      → Halts t e ws (Inline n c cols (past a ds) p) None → Alone t ws a i o → Halts t e ws (Below n c a i) o
  halts_unended : {e i : ℕ} {ws : List ℕ} {n : ℤ} {c : Ctx} {a : Ahead} → Stuck (LineEnd t i) → Halts t e ws (Below n c a i) None
  -- collections
  halts_sequence : {e m p : ℕ} {ws : List ℕ} {n : ℤ} {c : Ctx} {cols : Columns} {a : Ahead} {o : Option ParsedNode} → cols.sequence ≡ Some m → DashAt t p
      → Halts t e ws (Items true m (First n) p) o → Halts t (suc e) ws (Inline n c cols a p) (then_found (collected a true p) o)
  halts_sequence_too_deep : {m p : ℕ} {ws : List ℕ} {n : ℤ} {c : Ctx} {cols : Columns} {a : Ahead} → cols.sequence ≡ Some m → DashAt t p
      → Halts t 0 ws (Inline n c cols a p) None
  halts_mapping : {e m p : ℕ} {ws : List ℕ} {n : ℤ} {c : Ctx} {cols : Columns} {a : Ahead} {o : Option ParsedNode} → (DashAt t p → ⊥) → cols.mapping ≡ Some m
      → MappingAt t (suc e) n p → Halts t e ws (Items false m (First n) p) o → Halts t (suc e) ws (Inline n c cols a p) (then_found (collected a false p) o)
  halts_mapping_too_deep : {m p : ℕ} {ws : List ℕ} {n : ℤ} {c : Ctx} {cols : Columns} {a : Ahead} → (DashAt t p → ⊥) → cols.mapping ≡ Some m
      → MappingAt t 0 n p → Halts t 0 ws (Inline n c cols a p) None
  -- properties and leaves
  halts_properties_below : {e p g k : ℕ} {ws : List ℕ} {n : ℤ} {c : Ctx} {cols : Columns} {a z : Ahead} {q : PropertiesValue} {ds : List CommentValue}
      {o : Option ParsedNode} → NoSign t cols p → Chosen (Properties t (pos 0) FlowKey p) g q → Chosen (LineEnd t g) k ds → Joins a q p g z
      → Halts t e ws (Below n c z g) o → Halts t e ws (Inline n c cols a p) o
  halts_properties_leaf : {e p g k : ℕ} {ws : List ℕ} {n : ℤ} {c : Ctx} {cols : Columns} {a z : Ahead} {q : PropertiesValue} {w : List ℕ}
      {o : Option ParsedNode} → NoSign t cols p → NoKeyAt t e n cols p → Chosen (Properties t (pos 0) FlowKey p) g q → Stuck (LineEnd t g) → Many t is_white g k w → g < k
      → is_white (code t k) ≡ false → Joins a q p g z → Halts t e ws (Leaf n z k) o → Halts t e ws (Inline n c cols a p) o
  halts_properties_missed : {e p g : ℕ} {ws : List ℕ} {n : ℤ} {c : Ctx} {cols : Columns} {a : Ahead} {q : PropertiesValue} → NoSign t cols p → NoKeyAt t e n cols p
      → Chosen (Properties t (pos 0) FlowKey p) g q → Stuck (LineEnd t g) → is_white (code t g) ≡ false → Halts t e ws (Inline n c cols a p) None
  halts_properties_apart_below : {e p g k : ℕ} {ws : List ℕ} {n : ℤ} {c : Ctx} {cols : Columns} {a : Ahead} {q : PropertiesValue}
      {ds : List CommentValue} → NoSign t cols p → Chosen (Properties t (pos 0) FlowKey p) g q → Chosen (LineEnd t g) k ds → Apart a q
      → Halts t e ws (Inline n c cols a p) None
  halts_properties_apart : {e p g : ℕ} {ws : List ℕ} {n : ℤ} {c : Ctx} {cols : Columns} {a : Ahead} {q : PropertiesValue} → NoSign t cols p
      → NoKeyAt t e n cols p → Chosen (Properties t (pos 0) FlowKey p) g q → Stuck (LineEnd t g) → Apart a q
      → Halts t e ws (Inline n c cols a p) None
  halts_leaf : {e p : ℕ} {ws : List ℕ} {n : ℤ} {c : Ctx} {cols : Columns} {a : Ahead} {o : Option ParsedNode} → NoSign t cols p → NoKeyAt t e n cols p
      → Stuck (Properties t (pos 0) FlowKey p) → Halts t e ws (Leaf n a p) o → Halts t e ws (Inline n c cols a p) o
  halts_scalar : {e p j : ℕ} {ws : List ℕ} {n : ℤ} {a : Ahead} {x : Meaning} → Chosen (ScalarPart t n ws p) j x
      → Halts t e ws (Leaf n a p) (leaf_found a j 0 x [])
  halts_scalar_before : {e p j : ℕ} {ws : List ℕ} {n : ℤ} {a : Ahead} {x : Meaning} → Chosen (BlockScalar t n p) j x
      → Stuck (ScalarPart t n ws p) → Halts t e ws (Leaf n a p) None
  halts_plain : {e p j : ℕ} {ws : List ℕ} {n : ℤ} {a : Ahead} {x : Meaning} → Stuck (BlockScalar t n p) → MayLeaf t a p → begins_plain (code t p) ≡ true
      → Chosen (PlainPart t (n +ℤ pos 1) ws p) j x → Halts t e ws (Leaf n a p) (with_plain a j x)
  halts_plain_missed : {e p : ℕ} {ws : List ℕ} {n : ℤ} {a : Ahead} → Stuck (BlockScalar t n p) → MayLeaf t a p → begins_plain (code t p) ≡ true
      → Stuck (PlainPart t (n +ℤ pos 1) ws p) → Halts t e ws (Leaf n a p) None
  halts_content : {e p j : ℕ} {ws : List ℕ} {n : ℤ} {a : Ahead} {ds : List CommentValue} {f : ParsedNode} → Stuck (BlockScalar t n p) → MayLeaf t a p
      → begins_plain (code t p) ≡ false → Parses t e (ANode (n +ℤ pos 1) FlowOut p) (Some f) → Chosen (MayEnd t ws f.end) j ds
      → Halts t e ws (Leaf n a p) (leaf_found a j f.height f.meaning ds)
  halts_content_unended : {e p : ℕ} {ws : List ℕ} {n : ℤ} {a : Ahead} {f : ParsedNode} → Stuck (BlockScalar t n p) → MayLeaf t a p
      → begins_plain (code t p) ≡ false → Parses t e (ANode (n +ℤ pos 1) FlowOut p) (Some f) → Stuck (MayEnd t ws f.end)
      → Halts t e ws (Leaf n a p) None
  halts_content_missed : {e p : ℕ} {ws : List ℕ} {n : ℤ} {a : Ahead} → Stuck (BlockScalar t n p) → MayLeaf t a p
      → begins_plain (code t p) ≡ false → Parses t e (ANode (n +ℤ pos 1) FlowOut p) None → Halts t e ws (Leaf n a p) None
  halts_refused : {e p : ℕ} {ws : List ℕ} {n : ℤ} {a : Ahead} → Stuck (BlockScalar t n p) → (MayLeaf t a p → ⊥) → Halts t e ws (Leaf n a p) None
  -- entries: up to the last halt of those after a whole entry, otherwise within that entry
  halts_item : {e m i : ℕ} {ws : List ℕ} {s : Bool} {q : Origin} {r o : Option ParsedNode} → Whole t e (Item s m q i) r → NoneAfter (NextEntry t s m) r
      → Halts t e ws (Item s m q i) o → Halts t e ws (Items s m q i) o
  halts_before_item : {e m i : ℕ} {ws : List ℕ} {s : Bool} {q : Origin} {f : ParsedNode} {o : Option ParsedNode} → Whole t e (Item s m q i) (Some f) → NextEntry t s m f.end
      → Halts t e ws (Items s m Later (f.end + m)) None → Halts t e ws (Item s m q i) o → Halts t e ws (Items s m q i) o
  halts_items : {e m i : ℕ} {ws : List ℕ} {s : Bool} {q : Origin} {f g : ParsedNode} → Whole t e (Item s m q i) (Some f) → NextEntry t s m f.end
      → Halts t e ws (Items s m Later (f.end + m)) (Some g) → Halts t e ws (Items s m q i) (items_found f g)
  -- one entry
  halts_dash : {e m i : ℕ} {q : Origin} {ws : List ℕ} {o : Option ParsedNode} → DashAt t i → Halts t e ws (Awaited true (pos m) BlockIn (Indicator (i + 1)) (i + 1)) o
      → Halts t e ws (Item true m q i) (then_found (item_found i) o)
  halts_undashed : {e m i : ℕ} {q : Origin} {ws : List ℕ} → (DashAt t i → ⊥) → Halts t e ws (Item true m q i) None
  halts_question : {e m i : ℕ} {q : Origin} {ws : List ℕ} {r o : Option ParsedNode} → SignAt t 63 i
      → Whole t e (Awaited true (pos m) BlockOut (Indicator (i + 1)) (i + 1)) r → NoneAfter (ColonLine t m) r
      → Halts t e (m ∷ ws) (Awaited true (pos m) BlockOut (Indicator (i + 1)) (i + 1)) o
      → Halts t e ws (Item false m q i) (then_found (lone_key i) o)
  halts_before_value : {e m i : ℕ} {q : Origin} {ws : List ℕ} {f : ParsedNode} {o : Option ParsedNode} → SignAt t 63 i
      → Whole t e (Awaited true (pos m) BlockOut (Indicator (i + 1)) (i + 1)) (Some f) → ColonLine t m f.end
      → Halts t e ws (Awaited true (pos m) BlockOut (Indicator (f.end + m + 1)) (f.end + m + 1)) None
      → Halts t e (m ∷ ws) (Awaited true (pos m) BlockOut (Indicator (i + 1)) (i + 1)) o
      → Halts t e ws (Item false m q i) (then_found (lone_key i) o)
  halts_value : {e m i : ℕ} {q : Origin} {ws : List ℕ} {f g : ParsedNode} → SignAt t 63 i
      → Whole t e (Awaited true (pos m) BlockOut (Indicator (i + 1)) (i + 1)) (Some f) → ColonLine t m f.end
      → Halts t e ws (Awaited true (pos m) BlockOut (Indicator (f.end + m + 1)) (f.end + m + 1)) (Some g)
      → Halts t e ws (Item false m q i) (pair_found i (f.end + m) f g)
  halts_colon : {e m i : ℕ} {q : Origin} {ws : List ℕ} {o : Option ParsedNode} → SignAt t 58 i
      → Halts t e ws (Awaited false (pos m) BlockOut (Indicator (i + 1)) (i + 1)) o → Halts t e ws (Item false m q i) (then_found (lone_value i) o)
  halts_key : {e m i k : ℕ} {q : Origin} {ws : List ℕ} {f : ParsedNode} {o : Option ParsedNode} → (SignAt t 63 i → ⊥) → (SignAt t 58 i → ⊥)
      → Parses t (key_limit e q) (ANode (key_indent m q) FlowOut i) (Some f) → f.height ≤ e → KeyBefore t i f k
      → Halts t e ws (Awaited false (pos m) BlockOut (Indicator (k + 1)) (k + 1)) o
      → Halts t e ws (Item false m q i) (then_found (pair_found i k f) o)
  halts_no_key : {e m i : ℕ} {q : Origin} {ws : List ℕ} → (SignAt t 63 i → ⊥) → (SignAt t 58 i → ⊥) → Keyless t (key_limit e q) (key_indent m q) i
      → Halts t e ws (Item false m q i) None
  halts_key_too_deep : {e m i k : ℕ} {q : Origin} {ws : List ℕ} {f : ParsedNode} → (SignAt t 63 i → ⊥) → (SignAt t 58 i → ⊥)
      → Parses t (key_limit e q) (ANode (key_indent m q) FlowOut i) (Some f) → e < f.height → KeyBefore t i f k → Halts t e ws (Item false m q i) None
