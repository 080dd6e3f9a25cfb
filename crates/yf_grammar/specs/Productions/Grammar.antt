-- The nested productions as one inductive relation: `Derives t h p i j x` means that the production p derives the
-- characters of the text t from i to j with the meaning x, and that at most h collections are open at once (a single
-- pair counts as a mapping). n is an indentation, from -1; c is a context; m is the column of the entries of a block
-- collection. Flow nodes: YAML 1.2.2, chapter 7; block nodes: chapter 8.
use Rattle.std.specs.Prelude.{◌≡◌, ℕ, suc, max, ◌+◌, ◌-◌, ◌≤◌, ℤ, pos, ◌+ℤ◌, ◌≤ℤ◌, Bool, true, false, List, [], ◌∷◌, ◌++◌, Some, None, length, take, drop, encode_utf8_all}
use Rattle.std.specs.Str.{chars}
use Rattle.yf_chars.specs.declared.context.Ctx.{Ctx}
use Rattle.yf_chars.specs.declared.context.Ctx.TheVariants.{BlockOut, BlockIn, FlowOut, FlowIn, BlockKey, FlowKey}
use Rattle.yf_chars.specs.Text.{code}
use Rattle.yf_chars.specs.Class.{is_ns_char, is_plain_safe, is_white_or_end}
use Rattle.yf_lines.specs.Basic.{is_block, SeparateInLine, Spaces}
use Rattle.yf_comments.specs.Comment.{CommentValue}
use Rattle.yf_comments.specs.Comments.{Separate, LineEnd}
use Rattle.yf_events.specs.declared.event.ScalarStyle.TheVariants.{Plain, Single, Double}
use Rattle.yf_plain.specs.Plain.{PlainText}
use Rattle.yf_props.specs.Names.{Alias, Properties, PropertiesValue}
use Rattle.yf_grammar.specs.Productions.BlockScalar.{BlockScalar}
use Rattle.yf_quoted.specs.Quoted.{Piece, text_of, SingleQuoted, DoubleQuoted}
pub use Rattle.yf_quoted.specs.Quoted.{bad_escapes}
use Rattle.yf_grammar.specs.Productions.Meaning.{Meaning, ◌⊕◌, meaning_after, noting, scalar, alias_to, empty_node, collection, with_props, entering}

-- a flag for the kind of a collection is true for a sequence; a flag for the kind of a node is true for a node like
-- those of JSON: a quoted scalar or a flow collection, with or without properties
pub data Production : Type 0 where
  -- ns-flow-node(n,c)
  FlowNode : ℤ → Ctx → Production
  -- ns-flow-yaml-node(n,c) or c-flow-json-node(n,c)
  NodeOf : Bool → ℤ → Ctx → Production
  -- c-flow-json-content(n,c)
  JsonContent : ℤ → Ctx → Production
  -- ns-s-flow-seq-entries(n,c) or ns-s-flow-map-entries(n,c); one entry of them
  Entries : Bool → ℤ → Ctx → Production
  Entry : Bool → ℤ → Ctx → Production
  -- ns-flow-pair(n,c): a single pair
  Pair : ℤ → Ctx → Production
  -- ns-flow-map-explicit-entry(n,c) and ns-flow-map-implicit-entry(n,c), of an entry that begins at the offset
  Explicit : ℤ → Ctx → ℕ → Production
  Implicit : ℤ → Ctx → ℕ → Production
  -- the `:` and the value: c-ns-flow-map-separate-value(n,c), or c-ns-flow-map-adjacent-value(n,c) after a JSON key
  ValueOf : Bool → ℤ → Ctx → Production
  -- ns-s-implicit-yaml-key(c) or c-s-implicit-json-key(c)
  KeyOf : Bool → Ctx → Production
  -- s-l+block-node(n,c)
  BlockNode : ℤ → Ctx → Production
  -- l+block-sequence and ns-l-compact-sequence, or l+block-mapping and ns-l-compact-mapping, from the first entry on;
  -- one entry of them
  BlockEntries : Bool → ℕ → Production
  BlockEntry : Bool → ℕ → Production
  -- s-l+block-indented(n,c), for a column n
  BlockIndented : ℕ → Ctx → Production
  -- c-l-block-map-implicit-value: the `:` and the value
  BlockValue : ℕ → Production

-- in-flow(c)
abbrev pub in_flow : Ctx → Ctx
in_flow BlockOut = BlockOut
in_flow BlockIn = BlockIn
in_flow FlowOut = FlowIn
in_flow FlowIn = FlowIn
in_flow BlockKey = FlowKey
in_flow FlowKey = FlowKey

-- the brackets of a flow collection
abbrev pub opening : Bool → ℕ
opening true = 91
opening false = 123

abbrev pub closing : Bool → ℕ
closing true = 93
closing false = 125

-- s-separate(n,c)?
pub data MaySeparate (t : List ℕ) (n : ℤ) (c : Ctx) : ℕ → ℕ → List CommentValue → Type 0 where
  unseparated : {i : ℕ} → MaySeparate t n c i i []
  separated : {i j : ℕ} {cs : List CommentValue} → Separate t n c i j cs → MaySeparate t n c i j cs

-- s-separate-in-line?
pub data MaySeparateInLine (t : List ℕ) : ℕ → ℕ → Type 0 where
  unseparated_in_line : {i : ℕ} → MaySeparateInLine t i i
  separated_in_line : {i j : ℕ} → SeparateInLine t i j → MaySeparateInLine t i j

-- the number of characters between two offsets
unfoldable pub characters_between : List ℕ → ℕ → ℕ → ℕ
characters_between t i j = length (chars (take (j - i) (drop i t)))

-- the maximum number of characters of an implicit key, with the white space after it
abbrev pub KEY_LIMIT : ℕ
KEY_LIMIT = 1024

-- a `:` before the offset may be read after a node of that kind: after a node like YAML's, no plain character may
-- follow it
abbrev pub MayBeColon : Bool → List ℕ → ℕ → Ctx → Type 0
MayBeColon true t i c = Unit {0}
MayBeColon false t i c = is_plain_safe (code t i) c ≡ false

-- the separation before the value, which may be missing only after a JSON key
abbrev pub ValueSeparate : Bool → List ℕ → ℤ → Ctx → ℕ → ℕ → List CommentValue → Type 0
ValueSeparate true = MaySeparate
ValueSeparate false = Separate

-- the least column of a block collection's entries in a node at n: a sequence may be at its key's column
abbrev pub least_column : Bool → ℤ → Ctx → ℤ
least_column true n BlockOut = n
least_column _ n _ = n +ℤ pos 1

-- an explicit entry's `:` is at the column m of the line that begins at j (s-indent, `:`, and white space or the line's
-- end)
pub record ColonLine (t : List ℕ) (m j : ℕ) : Type 0 where
  pub indent : Spaces t j m
  pub colon : code t (j + m) ≡ 58
  pub follows : is_white_or_end (code t (j + m + 1)) ≡ true

pub data Derives (t : List ℕ) : ℕ → Production → ℕ → ℕ → Meaning → Type 0 where
  -- ns-flow-node(n,c)
  flow_node : {h i j : ℕ} {json : Bool} {n : ℤ} {c : Ctx} {x : Meaning}
      → Derives t h (NodeOf json n c) i j x → Derives t h (FlowNode n c) i j x
  -- ns-flow-yaml-node(n,c)
  an_alias : {i j : ℕ} {n : ℤ} {c : Ctx} {name : List ℕ} → is_block c ≡ false → Alias t i j name
      → Derives t 0 (NodeOf false n c) i j (alias_to name i j)
  a_plain : {i j : ℕ} {n : ℤ} {c : Ctx} {x : List ℕ} → PlainText t n c i j x
      → Derives t 0 (NodeOf false n c) i j (scalar Plain (encode_utf8_all x) [] i j)
  a_plain_with : {i g k j : ℕ} {n : ℤ} {c : Ctx} {p : PropertiesValue} {cs : List CommentValue} {x : List ℕ}
      → Properties t n c i g p → Separate t n c g k cs → PlainText t n c k j x
      → Derives t 0 (NodeOf false n c) i j
      (meaning_after (p.comments ++ cs) (with_props p.props p.tag_offset i g (scalar Plain (encode_utf8_all x) [] k j)))
  properties_alone : {i j : ℕ} {n : ℤ} {c : Ctx} {p : PropertiesValue} → is_block c ≡ false → Properties t n c i j p
      → Derives t 0 (NodeOf false n c) i j (meaning_after p.comments (with_props p.props p.tag_offset i j (empty_node j)))
  -- c-flow-json-node(n,c)
  a_json : {h i j : ℕ} {n : ℤ} {c : Ctx} {x : Meaning} → Derives t h (JsonContent n c) i j x → Derives t h (NodeOf true n c) i j x
  a_json_with : {h i g k j : ℕ} {n : ℤ} {c : Ctx} {p : PropertiesValue} {cs : List CommentValue} {x : Meaning}
      → Properties t n c i g p → Separate t n c g k cs → Derives t h (JsonContent n c) k j x
      → Derives t h (NodeOf true n c) i j (meaning_after (p.comments ++ cs) (with_props p.props p.tag_offset i g x))
  -- c-flow-json-content(n,c)
  a_single : {i j : ℕ} {n : ℤ} {c : Ctx} {x : List ℕ} → SingleQuoted t n c i j x
      → Derives t 0 (JsonContent n c) i j (scalar Single (encode_utf8_all x) [] i j)
  a_double : {i j : ℕ} {n : ℤ} {c : Ctx} {x : List Piece} → DoubleQuoted t n c i j x
      → Derives t 0 (JsonContent n c) i j (scalar Double (encode_utf8_all (text_of x)) (bad_escapes x) i j)
  an_empty_collection : {i j : ℕ} (sequence : Bool) {n : ℤ} {c : Ctx} {cs : List CommentValue} → is_block c ≡ false
      → code t i ≡ opening sequence → MaySeparate t n c (i + 1) j cs → code t j ≡ closing sequence
      → Derives t 1 (JsonContent n c) i (j + 1)
      (collection sequence true i (j + 1) (record { events = []; comments = cs; escapes = []; finish = j }))
  a_collection : {h i k j : ℕ} (sequence : Bool) {n : ℤ} {c : Ctx} {cs : List CommentValue} {x : Meaning} → is_block c ≡ false
      → code t i ≡ opening sequence → MaySeparate t n c (i + 1) k cs → Derives t h (Entries sequence n (in_flow c)) k j x
      → code t j ≡ closing sequence
      → Derives t (suc h) (JsonContent n c) i (j + 1) (collection sequence true i (j + 1) (meaning_after cs x))
  -- ns-s-flow-seq-entries(n,c) and ns-s-flow-map-entries(n,c)
  last_entry : {h i k j : ℕ} {sequence : Bool} {n : ℤ} {c : Ctx} {cs : List CommentValue} {x : Meaning}
      → Derives t h (Entry sequence n c) i k x → MaySeparate t n c k j cs
      → Derives t h (Entries sequence n c) i j (noting x cs)
  last_entry_with_comma : {h i k l j : ℕ} {sequence : Bool} {n : ℤ} {c : Ctx} {cs ds : List CommentValue} {x : Meaning}
      → Derives t h (Entry sequence n c) i k x → MaySeparate t n c k l cs → code t l ≡ 44 → MaySeparate t n c (l + 1) j ds
      → Derives t h (Entries sequence n c) i j (noting x (cs ++ ds))
  more_entries : {h g i k l m j : ℕ} {sequence : Bool} {n : ℤ} {c : Ctx} {cs ds : List CommentValue} {x y : Meaning}
      → Derives t h (Entry sequence n c) i k x → MaySeparate t n c k l cs → code t l ≡ 44 → MaySeparate t n c (l + 1) m ds
      → Derives t g (Entries sequence n c) m j y
      → Derives t (max h g) (Entries sequence n c) i j (noting x (cs ++ ds) ⊕ y)
  -- an entry of a flow sequence: a node, or a single pair, which is a mapping
  a_node_entry : {h i j : ℕ} {n : ℤ} {c : Ctx} {x : Meaning} → Derives t h (FlowNode n c) i j x
      → Derives t h (Entry true n c) i j (entering i None x)
  a_pair_entry : {h i j : ℕ} {n : ℤ} {c : Ctx} {x : Meaning} → Derives t h (Pair n c) i j x
      → Derives t (suc h) (Entry true n c) i j (entering i None (collection false true i x.finish x))
  -- ns-flow-map-entry(n,c)
  an_explicit_entry : {h i k j : ℕ} {n : ℤ} {c : Ctx} {cs : List CommentValue} {x : Meaning} → code t i ≡ 63
      → Separate t n c (i + 1) k cs → Derives t h (Explicit n c i) k j x → Derives t h (Entry false n c) i j (meaning_after cs x)
  an_implicit_entry : {h i j : ℕ} {n : ℤ} {c : Ctx} {x : Meaning} → Derives t h (Implicit n c i) i j x
      → Derives t h (Entry false n c) i j x
  -- ns-flow-pair(n,c)
  an_explicit_pair : {h i k j : ℕ} {n : ℤ} {c : Ctx} {cs : List CommentValue} {x : Meaning} → code t i ≡ 63
      → Separate t n c (i + 1) k cs → Derives t h (Explicit n c i) k j x → Derives t h (Pair n c) i j (meaning_after cs x)
  a_keyed_pair : {h g i k j : ℕ} {json : Bool} {n : ℤ} {c : Ctx} {x y : Meaning} → Derives t h (KeyOf json FlowKey) i k x
      → Derives t g (ValueOf json n c) k j y → Derives t (max h g) (Pair n c) i j (entering i (Some k) x ⊕ y)
  an_unkeyed_pair : {h i j : ℕ} {n : ℤ} {c : Ctx} {x : Meaning} → Derives t h (ValueOf false n c) i j x
      → Derives t h (Pair n c) i j (entering i (Some i) (empty_node i) ⊕ x)
  -- ns-flow-map-explicit-entry(n,c)
  explicit_with : {h s i j : ℕ} {n : ℤ} {c : Ctx} {x : Meaning} → Derives t h (Implicit n c s) i j x
      → Derives t h (Explicit n c s) i j x
  explicit_without : {s i : ℕ} {n : ℤ} {c : Ctx} → is_block c ≡ false
      → Derives t 0 (Explicit n c s) i i (entering s None (empty_node (s + 1)) ⊕ empty_node (s + 1))
  -- ns-flow-map-implicit-entry(n,c)
  key_alone : {h s i j : ℕ} {json : Bool} {n : ℤ} {c : Ctx} {x : Meaning} → Derives t h (NodeOf json n c) i j x
      → Derives t h (Implicit n c s) i j (entering s None x ⊕ empty_node x.finish)
  key_and_value : {h g s i l k j : ℕ} {json : Bool} {n : ℤ} {c : Ctx} {cs : List CommentValue} {x y : Meaning}
      → Derives t h (NodeOf json n c) i l x → MaySeparate t n c l k cs → Derives t g (ValueOf json n c) k j y
      → Derives t (max h g) (Implicit n c s) i j (noting (entering s (Some k) x) cs ⊕ y)
  value_alone : {h s i j : ℕ} {n : ℤ} {c : Ctx} {x : Meaning} → Derives t h (ValueOf false n c) i j x
      → Derives t h (Implicit n c s) i j (entering s (Some i) (empty_node i) ⊕ x)
  -- c-ns-flow-map-separate-value(n,c) and c-ns-flow-map-adjacent-value(n,c)
  empty_value : {i : ℕ} {json : Bool} {n : ℤ} {c : Ctx} → is_block c ≡ false → code t i ≡ 58 → MayBeColon json t (i + 1) c
      → Derives t 0 (ValueOf json n c) i (i + 1) (empty_node (i + 1))
  a_value : {h i k j : ℕ} {json : Bool} {n : ℤ} {c : Ctx} (cs : List CommentValue) {x : Meaning} → code t i ≡ 58
      → MayBeColon json t (i + 1) c → ValueSeparate json t n c (i + 1) k cs → Derives t h (FlowNode n c) k j x
      → Derives t h (ValueOf json n c) i j (meaning_after cs x)
  -- ns-s-implicit-yaml-key(c) and c-s-implicit-json-key(c)
  a_key : {h i k j : ℕ} {json : Bool} {c : Ctx} {x : Meaning} → Derives t h (NodeOf json (pos 0) c) i k x
      → MaySeparateInLine t k j → characters_between t i j ≤ KEY_LIMIT → Derives t h (KeyOf json c) i j x
  -- s-l+block-scalar(n,c)
  a_block_scalar : {i k j : ℕ} {n : ℤ} {c : Ctx} {cs : List CommentValue} {x : Meaning} → is_block c ≡ true
      → Separate t (n +ℤ pos 1) c i k cs → BlockScalar t n k j x → Derives t 0 (BlockNode n c) i j (meaning_after cs x)
  a_block_scalar_with : {i f g k j : ℕ} {n : ℤ} {c : Ctx} {cs ds : List CommentValue} {p : PropertiesValue} {x : Meaning}
      → is_block c ≡ true → Separate t (n +ℤ pos 1) c i f cs → Properties t (n +ℤ pos 1) c f g p
      → Separate t (n +ℤ pos 1) c g k ds → BlockScalar t n k j x
      → Derives t 0 (BlockNode n c) i j (meaning_after (cs ++ p.comments ++ ds) (with_props p.props p.tag_offset f g x))
  -- s-l+block-collection(n,c)
  a_block_collection : {h i k m j : ℕ} {sequence : Bool} {n : ℤ} {c : Ctx} {cs : List CommentValue} {x : Meaning}
      → is_block c ≡ true → LineEnd t i k cs → Spaces t k m → least_column sequence n c ≤ℤ pos m
      → Derives t h (BlockEntries sequence m) (k + m) j x
      → Derives t (suc h) (BlockNode n c) i j (meaning_after cs (collection sequence false (k + m) x.finish x))
  a_block_collection_with : {h i f g k m j : ℕ} {sequence : Bool} {n : ℤ} {c : Ctx} {cs ds : List CommentValue} {p : PropertiesValue}
      {x : Meaning} → is_block c ≡ true → Separate t (n +ℤ pos 1) c i f cs → Properties t (n +ℤ pos 1) c f g p → LineEnd t g k ds
      → Spaces t k m → least_column sequence n c ≤ℤ pos m → Derives t h (BlockEntries sequence m) (k + m) j x
      → Derives t (suc h) (BlockNode n c) i j
      (meaning_after (cs ++ p.comments ++ ds) (with_props p.props p.tag_offset f g (collection sequence false (k + m) x.finish x)))
  -- s-l+flow-in-block(n)
  flow_in_block : {h i k l j : ℕ} {n : ℤ} {c : Ctx} {cs ds : List CommentValue} {x : Meaning} → is_block c ≡ true
      → Separate t (n +ℤ pos 1) FlowOut i k cs → Derives t h (FlowNode (n +ℤ pos 1) FlowOut) k l x → LineEnd t l j ds
      → Derives t h (BlockNode n c) i j (meaning_after cs (noting x ds))
  -- the entries of a block collection, all at one column; the first begins at once
  a_last_entry : {h m i j : ℕ} {sequence : Bool} {x : Meaning} → Derives t h (BlockEntry sequence m) i j x
      → Derives t h (BlockEntries sequence m) i j x
  an_entry_before : {h g m i k j : ℕ} {sequence : Bool} {x y : Meaning} → Derives t h (BlockEntry sequence m) i k x → Spaces t k m
      → Derives t g (BlockEntries sequence m) (k + m) j y → Derives t (max h g) (BlockEntries sequence m) i j (x ⊕ y)
  -- c-l-block-seq-entry(n)
  a_dash_entry : {h m i j : ℕ} {x : Meaning} → code t i ≡ 45 → is_ns_char (code t (i + 1)) ≡ false
      → Derives t h (BlockIndented m BlockIn) (i + 1) j x → Derives t h (BlockEntry true m) i j (entering i None x)
  -- c-l-block-map-explicit-entry(n): white space or the line's end follows `?` and `:`; the value is empty only if no
  -- such `:` is on the next line
  an_explicit_entry_with : {h g m i k j : ℕ} {x y : Meaning} → code t i ≡ 63 → is_white_or_end (code t (i + 1)) ≡ true
      → Derives t h (BlockIndented m BlockOut) (i + 1) k x → ColonLine t m k
      → Derives t g (BlockIndented m BlockOut) (k + m + 1) j y
      → Derives t (max h g) (BlockEntry false m) i j (entering i (Some (k + m)) x ⊕ y)
  an_explicit_key_alone : {h m i j : ℕ} {x : Meaning} → code t i ≡ 63 → is_white_or_end (code t (i + 1)) ≡ true
      → Derives t h (BlockIndented m BlockOut) (i + 1) j x → (ColonLine t m j → ⊥)
      → Derives t h (BlockEntry false m) i j (entering i None x ⊕ empty_node x.finish)
  -- ns-l-block-map-implicit-entry(n)
  a_keyed_entry : {h g m i k j : ℕ} {json : Bool} {x y : Meaning} → Derives t h (KeyOf json BlockKey) i k x
      → Derives t g (BlockValue m) k j y → Derives t (max h g) (BlockEntry false m) i j (entering i (Some k) x ⊕ y)
  an_unkeyed_entry : {h m i j : ℕ} {x : Meaning} → Derives t h (BlockValue m) i j x
      → Derives t h (BlockEntry false m) i j (entering i (Some i) (empty_node i) ⊕ x)
  -- c-l-block-map-implicit-value(n)
  a_block_value : {h m i j : ℕ} {x : Meaning} → code t i ≡ 58 → Derives t h (BlockNode (pos m) BlockOut) (i + 1) j x
      → Derives t h (BlockValue m) i j x
  an_empty_block_value : {m i j : ℕ} {cs : List CommentValue} → code t i ≡ 58 → LineEnd t (i + 1) j cs
      → Derives t 0 (BlockValue m) i j (noting (empty_node (i + 1)) cs)
  -- s-l+block-indented(n,c): a compact collection, a node, or nothing, after an indicator
  a_compact_collection : {h l m i j : ℕ} {sequence : Bool} {c : Ctx} {x : Meaning} → is_block c ≡ true → Spaces t i l
      → Derives t h (BlockEntries sequence (m + 1 + l)) (i + l) j x
      → Derives t (suc h) (BlockIndented m c) i j (collection sequence false (i + l) x.finish x)
  an_indented_node : {h m i j : ℕ} {c : Ctx} {x : Meaning} → Derives t h (BlockNode (pos m) c) i j x
      → Derives t h (BlockIndented m c) i j x
  nothing_indented : {m i j : ℕ} {c : Ctx} {cs : List CommentValue} → is_block c ≡ true → LineEnd t i j cs
      → Derives t 0 (BlockIndented m c) i j (noting (empty_node i) cs)
