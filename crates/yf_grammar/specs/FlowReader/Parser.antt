-- The recursive reader between the grammar and the code. It takes the longest part of each leaf production, reads each
-- entry once, and never goes back. It is a relation between a task at an offset and its outcome, since the leaf readers
-- are known only by their relations. It has one outcome at each offset. The readers of the crates above find that
-- outcome in one pass, with a stack of its unfinished calls.
use Rattle.std.specs.Prelude.{◌≡◌, ◌≢◌, ℕ, suc, max, ◌+◌, ◌<◌, ◌≤◌, ℤ, Bool, true, false, not, ◌==◌, ◌||◌, List, [], ◌++◌, Option, Some, None, encode_utf8_all}
use Rattle.yf_chars.specs.declared.context.Ctx.{Ctx}
use Rattle.yf_chars.specs.Text.{code}
use Rattle.yf_chars.specs.Class.{is_break_char, is_white}
use Rattle.yf_chars.specs.Chain.{Stuck, Chosen, Many}
use Rattle.yf_comments.specs.Comment.{CommentValue}
use Rattle.yf_comments.specs.Comments.{Separate}
use Rattle.yf_events.specs.declared.event.ScalarStyle.TheVariants.{Plain as PlainStyle, Single as SingleStyle, Double as DoubleStyle}
use Rattle.yf_plain.specs.Plain.{Plain}
use Rattle.yf_props.specs.Names.{Alias, Properties, PropertiesValue}
use Rattle.yf_quoted.specs.Quoted.{Piece, text_of, SingleQuoted, DoubleQuoted}
use Rattle.yf_grammar.specs.Productions.Grammar.{bad_escapes, in_flow, opening, closing, characters_between, KEY_LIMIT, MayBeColon}
use Rattle.yf_grammar.specs.Productions.Meaning.{Meaning, ◌⊕◌, meaning_after, noting, scalar, alias_to, empty_node, collection, with_props, entering}

-- the end of a node or of a list of entries, the number of collections open in it at once, whether it is a node like
-- those of JSON, and its meaning
pub record ParsedNode : Type 0 where
  pub end : ℕ
  pub height : ℕ
  pub json : Bool
  pub meaning : Meaning

unfoldable pub found : ℕ → ℕ → Bool → Meaning → Option ParsedNode
found end height json meaning = Some (record { end = end; height = height; json = json; meaning = meaning })

-- the longest separation from an offset, or nothing if none begins there
pub data Gap (t : List ℕ) (n : ℤ) (c : Ctx) : ℕ → ℕ → List CommentValue → Type 0 where
  longest_gap : {i j : ℕ} {cs : List CommentValue} → Chosen (Separate t n c i) j cs → Gap t n c i j cs
  no_gap : {i : ℕ} → Stuck (Separate t n c i) → Gap t n c i i []

-- no line break is between the offsets
pub record OnOneLine (t : List ℕ) (i j : ℕ) : Type 0 where
  pub each : (h : ℕ) → i ≤ h → h < j → is_break_char (code t h) ≡ false

-- the first character of an alias, of properties, of content (a quote or bracket), or otherwise of a plain scalar
unfoldable pub begins_alias : ℕ → Bool
begins_alias c = c == 42

unfoldable pub begins_properties : ℕ → Bool
begins_properties c = (c == 38) || (c == 33)

unfoldable pub begins_content : ℕ → Bool
begins_content c = (c == 39) || (c == 34) || (c == 91) || (c == 123)

unfoldable pub begins_plain : ℕ → Bool
begins_plain c = not (begins_alias c || begins_properties c || begins_content c)

-- the `:` of a value is at i, after a node that is like those of JSON if `json` is true
pub record ColonAt (t : List ℕ) (json : Bool) (c : Ctx) (i : ℕ) : Type 0 where
  pub colon : code t i ≡ 58
  pub follows : MayBeColon json t (i + 1) c

-- a key of a single pair: on one line, and not too long; white space may follow it
pub record PairKey (t : List ℕ) (c : Ctx) (i : ℕ) (f : ParsedNode) (k : ℕ) : Type 0 where
  pub whites : List ℕ
  pub run : Many t is_white f.end k whites
  pub line : OnOneLine t i k
  pub short : characters_between t i k ≤ KEY_LIMIT
  pub colon : ColonAt t f.json c k

-- a flag for the kind of a collection is true for a sequence
pub data Task : Type 0 where
  -- a flow node; a quoted scalar or flow collection
  ANode : ℤ → Ctx → ℕ → Task
  AContent : ℤ → Ctx → ℕ → Task
  -- entries up to the closing bracket, from an entry or that bracket on; one entry
  TheEntries : Bool → ℤ → Ctx → ℕ → Task
  AnEntry : Bool → ℤ → Ctx → ℕ → Task
  -- the rest after `?` and its separation, at the second offset, of a mapping's entry that begins at the first
  AnExplicit : ℤ → Ctx → ℕ → ℕ → Task
  -- a key or a lone value at the second offset, in a mapping's entry that begins at the first
  AnImplicit : ℤ → Ctx → ℕ → ℕ → Task
  -- the `:` and the value; the flag says whether the node before the `:` is like those of JSON
  AValue : Bool → ℤ → Ctx → ℕ → Task

-- a node with its properties from i to g and the separation after them
unfoldable pub propertied : PropertiesValue → List CommentValue → ℕ → ℕ → ParsedNode → Option ParsedNode
propertied p cs i g f = Some (record f { meaning = meaning_after (p.comments ++ cs) (with_props p.props p.tag_offset i g f.meaning) })

-- only the properties, which end at g
unfoldable pub lone_properties : PropertiesValue → ℕ → ℕ → Option ParsedNode
lone_properties p i g = found g 0 false (meaning_after p.comments (with_props p.props p.tag_offset i g (empty_node g)))

unfoldable pub plain_found : List ℕ → ℕ → ℕ → Option ParsedNode
plain_found x i j = found j 0 false (scalar PlainStyle (encode_utf8_all x) [] i j)

-- the collection that begins at i, of entries found up to its closing bracket
unfoldable pub bracketed : Bool → ℕ → List CommentValue → ParsedNode → Option ParsedNode
bracketed sequence i cs f =
    found (f.end + 1) (suc f.height) true (collection sequence true i (f.end + 1) (meaning_after cs f.meaning))

-- an entry before the others
unfoldable pub joined : ParsedNode → List CommentValue → ParsedNode → Option ParsedNode
joined f cs g = found g.end (max f.height g.height) true (noting f.meaning cs ⊕ g.meaning)

-- a key with its value
unfoldable pub paired : ℕ → ℕ → ParsedNode → List CommentValue → ParsedNode → Option ParsedNode
paired s k f cs g = found g.end (max f.height g.height) false (noting (entering s (Some k) f.meaning) cs ⊕ g.meaning)

-- a single pair as an entry of a sequence
unfoldable pub pair_entry : ℕ → ParsedNode → Option ParsedNode
pair_entry i f = found f.end (suc f.height) false (entering i None (collection false true i f.meaning.finish f.meaning))

-- only comments
unfoldable pub only : List CommentValue → ℕ → Meaning
only cs finish = record { events = []; comments = cs; escapes = []; finish = finish }

-- the outcome of a task with a limit of further collections that may be opened
pub data Parses (t : List ℕ) : ℕ → Task → Option ParsedNode → Type 0 where
  alias_read : {e i j : ℕ} {n : ℤ} {c : Ctx} {name : List ℕ} → Chosen (Alias t i) j name
      → Parses t e (ANode n c i) (found j 0 false (alias_to name i j))
  alias_missed : {e i : ℕ} {n : ℤ} {c : Ctx} → begins_alias (code t i) ≡ true → Stuck (Alias t i)
      → Parses t e (ANode n c i) None
  plain_read : {e i j : ℕ} {n : ℤ} {c : Ctx} {x : List ℕ} → begins_plain (code t i) ≡ true → Chosen (Plain t n c i) j x
      → Parses t e (ANode n c i) (plain_found x i j)
  plain_missed : {e i : ℕ} {n : ℤ} {c : Ctx} → begins_plain (code t i) ≡ true → Stuck (Plain t n c i)
      → Parses t e (ANode n c i) None
  content_read : {e i : ℕ} {n : ℤ} {c : Ctx} {o : Option ParsedNode} → begins_content (code t i) ≡ true → Parses t e (AContent n c i) o
      → Parses t e (ANode n c i) o
  -- properties: after them content, a plain scalar, or nothing
  properties_missed : {e i : ℕ} {n : ℤ} {c : Ctx} → begins_properties (code t i) ≡ true → Stuck (Properties t n c i)
      → Parses t e (ANode n c i) None
  properties_content : {e i g k : ℕ} {n : ℤ} {c : Ctx} {p : PropertiesValue} {cs : List CommentValue} {f : ParsedNode}
      → Chosen (Properties t n c i) g p → Chosen (Separate t n c g) k cs → begins_content (code t k) ≡ true
      → Parses t e (AContent n c k) (Some f) → Parses t e (ANode n c i) (propertied p cs i g f)
  properties_plain : {e i g k j : ℕ} {n : ℤ} {c : Ctx} {p : PropertiesValue} {cs : List CommentValue} {x : List ℕ}
      → Chosen (Properties t n c i) g p → Chosen (Separate t n c g) k cs → begins_content (code t k) ≡ false
      → Chosen (Plain t n c k) j x
      → Parses t e (ANode n c i) (propertied p cs i g (record { end = j; height = 0; json = false; meaning = scalar PlainStyle (encode_utf8_all x) [] k j }))
  properties_end : {e i g : ℕ} {n : ℤ} {c : Ctx} {p : PropertiesValue} → Chosen (Properties t n c i) g p → Stuck (Separate t n c g)
      → Parses t e (ANode n c i) (lone_properties p i g)
  properties_before_broken : {e i g k : ℕ} {n : ℤ} {c : Ctx} {p : PropertiesValue} {cs : List CommentValue}
      → Chosen (Properties t n c i) g p → Chosen (Separate t n c g) k cs → begins_content (code t k) ≡ true
      → Parses t e (AContent n c k) None → Parses t e (ANode n c i) (lone_properties p i g)
  properties_before_other : {e i g k : ℕ} {n : ℤ} {c : Ctx} {p : PropertiesValue} {cs : List CommentValue}
      → Chosen (Properties t n c i) g p → Chosen (Separate t n c g) k cs → begins_content (code t k) ≡ false
      → Stuck (Plain t n c k) → Parses t e (ANode n c i) (lone_properties p i g)
  -- quoted scalars
  single_read : {e i j : ℕ} {n : ℤ} {c : Ctx} {x : List ℕ} → Chosen (SingleQuoted t n c i) j x
      → Parses t e (AContent n c i) (found j 0 true (scalar SingleStyle (encode_utf8_all x) [] i j))
  single_missed : {e i : ℕ} {n : ℤ} {c : Ctx} → code t i ≡ 39 → Stuck (SingleQuoted t n c i) → Parses t e (AContent n c i) None
  double_read : {e i j : ℕ} {n : ℤ} {c : Ctx} {x : List Piece} → Chosen (DoubleQuoted t n c i) j x
      → Parses t e (AContent n c i) (found j 0 true (scalar DoubleStyle (encode_utf8_all (text_of x)) (bad_escapes x) i j))
  double_missed : {e i : ℕ} {n : ℤ} {c : Ctx} → code t i ≡ 34 → Stuck (DoubleQuoted t n c i) → Parses t e (AContent n c i) None
  -- flow collections
  too_deep : {i : ℕ} {n : ℤ} {c : Ctx} (sequence : Bool) → code t i ≡ opening sequence → Parses t 0 (AContent n c i) None
  collection_read : {e i k : ℕ} {n : ℤ} {c : Ctx} (sequence : Bool) {cs : List CommentValue} {f : ParsedNode} → code t i ≡ opening sequence
      → Gap t n c (i + 1) k cs → Parses t e (TheEntries sequence n (in_flow c) k) (Some f)
      → Parses t (suc e) (AContent n c i) (bracketed sequence i cs f)
  collection_missed : {e i k : ℕ} {n : ℤ} {c : Ctx} (sequence : Bool) (cs : List CommentValue) → code t i ≡ opening sequence
      → Gap t n c (i + 1) k cs → Parses t e (TheEntries sequence n (in_flow c) k) None
      → Parses t (suc e) (AContent n c i) None
  -- entries, up to the closing bracket
  entries_end : {e i : ℕ} {sequence : Bool} {n : ℤ} {c : Ctx} → code t i ≡ closing sequence
      → Parses t e (TheEntries sequence n c i) (found i 0 true (only [] i))
  entry_missed : {e i : ℕ} {sequence : Bool} {n : ℤ} {c : Ctx} → code t i ≢ closing sequence
      → Parses t e (AnEntry sequence n c i) None → Parses t e (TheEntries sequence n c i) None
  entry_last : {e i k : ℕ} {sequence : Bool} {n : ℤ} {c : Ctx} {cs : List CommentValue} {f : ParsedNode} → code t i ≢ closing sequence
      → Parses t e (AnEntry sequence n c i) (Some f) → Gap t n c f.end k cs → code t k ≡ closing sequence
      → Parses t e (TheEntries sequence n c i) (found k f.height true (noting f.meaning cs))
  entry_then : {e i k m : ℕ} {sequence : Bool} {n : ℤ} {c : Ctx} {cs ds : List CommentValue} {f g : ParsedNode} → code t i ≢ closing sequence
      → Parses t e (AnEntry sequence n c i) (Some f) → Gap t n c f.end k cs → code t k ≡ 44 → Gap t n c (k + 1) m ds
      → Parses t e (TheEntries sequence n c m) (Some g) → Parses t e (TheEntries sequence n c i) (joined f (cs ++ ds) g)
  entry_then_missed : {e i k m : ℕ} {sequence : Bool} {n : ℤ} {c : Ctx} (cs ds : List CommentValue) {f : ParsedNode}
      → code t i ≢ closing sequence → Parses t e (AnEntry sequence n c i) (Some f) → Gap t n c f.end k cs → code t k ≡ 44
      → Gap t n c (k + 1) m ds → Parses t e (TheEntries sequence n c m) None → Parses t e (TheEntries sequence n c i) None
  entry_unclosed : {e i k : ℕ} {sequence : Bool} {n : ℤ} {c : Ctx} (cs : List CommentValue) {f : ParsedNode} → code t i ≢ closing sequence
      → Parses t e (AnEntry sequence n c i) (Some f) → Gap t n c f.end k cs → code t k ≢ closing sequence → code t k ≢ 44
      → Parses t e (TheEntries sequence n c i) None
  -- an entry of a mapping: after `?` and a separation, or without
  mapping_explicit : {e i k : ℕ} {n : ℤ} {c : Ctx} {cs : List CommentValue} {f : ParsedNode} → code t i ≡ 63
      → Chosen (Separate t n c (i + 1)) k cs → Parses t e (AnExplicit n c i k) (Some f)
      → Parses t e (AnEntry false n c i) (Some (record f { meaning = meaning_after cs f.meaning }))
  mapping_explicit_missed : {e i k : ℕ} {n : ℤ} {c : Ctx} (cs : List CommentValue) → code t i ≡ 63
      → Chosen (Separate t n c (i + 1)) k cs → Parses t e (AnExplicit n c i k) None → Parses t e (AnEntry false n c i) None
  mapping_sign_alone : {e i : ℕ} {n : ℤ} {c : Ctx} {o : Option ParsedNode} → code t i ≡ 63 → Stuck (Separate t n c (i + 1))
      → Parses t e (AnImplicit n c i i) o → Parses t e (AnEntry false n c i) o
  mapping_implicit : {e i : ℕ} {n : ℤ} {c : Ctx} {o : Option ParsedNode} → code t i ≢ 63
      → Parses t e (AnImplicit n c i i) o → Parses t e (AnEntry false n c i) o
  -- after `?`: nothing before a comma or a bracket, otherwise a key or a value
  explicit_nothing : {e s i : ℕ} {n : ℤ} {c : Ctx} → (code t i == 44) || (code t i == 93) || (code t i == 125) ≡ true
      → Parses t e (AnExplicit n c s i) (found i 0 false (entering s None (empty_node (s + 1)) ⊕ empty_node (s + 1)))
  explicit_something : {e s i : ℕ} {n : ℤ} {c : Ctx} {o : Option ParsedNode} → (code t i == 44) || (code t i == 93) || (code t i == 125) ≡ false
      → Parses t e (AnImplicit n c s i) o → Parses t e (AnExplicit n c s i) o
  -- a key with or without a value, or only a value
  lone_value : {e s i : ℕ} {n : ℤ} {c : Ctx} {f : ParsedNode} → ColonAt t false c i → Parses t e (AValue false n c i) (Some f)
      → Parses t e (AnImplicit n c s i) (Some (record f { meaning = entering s (Some i) (empty_node i) ⊕ f.meaning }))
  key_missed : {e s i : ℕ} {n : ℤ} {c : Ctx} → (ColonAt t false c i → ⊥) → Parses t e (ANode n c i) None
      → Parses t e (AnImplicit n c s i) None
  key_with_value : {e s i k : ℕ} {n : ℤ} {c : Ctx} {cs : List CommentValue} {f g : ParsedNode} → (ColonAt t false c i → ⊥)
      → Parses t e (ANode n c i) (Some f) → Gap t n c f.end k cs → ColonAt t f.json c k → Parses t e (AValue f.json n c k) (Some g)
      → Parses t e (AnImplicit n c s i) (paired s k f cs g)
  key_without_value : {e s i k : ℕ} {n : ℤ} {c : Ctx} (cs : List CommentValue) {f : ParsedNode} → (ColonAt t false c i → ⊥)
      → Parses t e (ANode n c i) (Some f) → Gap t n c f.end k cs → (ColonAt t f.json c k → ⊥)
      → Parses t e (AnImplicit n c s i) (Some (record f { meaning = entering s None f.meaning ⊕ empty_node f.meaning.finish }))
  -- an entry of a sequence: a single pair, which takes one from the limit, or a node
  pair_explicit : {e i k : ℕ} {n : ℤ} {c : Ctx} {cs : List CommentValue} {f : ParsedNode} → code t i ≡ 63
      → Chosen (Separate t n c (i + 1)) k cs → Parses t e (AnExplicit n c i k) (Some f)
      → Parses t (suc e) (AnEntry true n c i) (pair_entry i (record f { meaning = meaning_after cs f.meaning }))
  pair_explicit_missed : {e i k : ℕ} {n : ℤ} {c : Ctx} (cs : List CommentValue) → code t i ≡ 63
      → Chosen (Separate t n c (i + 1)) k cs → Parses t e (AnExplicit n c i k) None → Parses t (suc e) (AnEntry true n c i) None
  pair_explicit_too_deep : {i k : ℕ} {n : ℤ} {c : Ctx} (cs : List CommentValue) → code t i ≡ 63
      → Chosen (Separate t n c (i + 1)) k cs → Parses t 0 (AnEntry true n c i) None
  pair_of_value : {e i : ℕ} {n : ℤ} {c : Ctx} {f : ParsedNode} → ColonAt t false c i → Parses t e (AValue false n c i) (Some f)
      → Parses t (suc e) (AnEntry true n c i) (pair_entry i (record f { meaning = entering i (Some i) (empty_node i) ⊕ f.meaning }))
  pair_of_value_too_deep : {i : ℕ} {n : ℤ} {c : Ctx} → ColonAt t false c i → Parses t 0 (AnEntry true n c i) None
  item_missed : {e i : ℕ} {n : ℤ} {c : Ctx} → (code t i ≡ 63 → Stuck (Separate t n c (i + 1))) → (ColonAt t false c i → ⊥)
      → Parses t e (ANode n c i) None → Parses t e (AnEntry true n c i) None
  pair_of_key : {e i k : ℕ} {n : ℤ} {c : Ctx} {f g : ParsedNode} → (code t i ≡ 63 → Stuck (Separate t n c (i + 1))) → (ColonAt t false c i → ⊥)
      → Parses t (suc e) (ANode n c i) (Some f) → PairKey t c i f k → f.height ≤ e → Parses t e (AValue f.json n c k) (Some g)
      → Parses t (suc e) (AnEntry true n c i)
      (pair_entry i (record { end = g.end; height = max f.height g.height; json = false; meaning = entering i (Some k) f.meaning ⊕ g.meaning }))
  pair_too_deep : {e i k : ℕ} {n : ℤ} {c : Ctx} {f : ParsedNode} → (code t i ≡ 63 → Stuck (Separate t n c (i + 1))) → (ColonAt t false c i → ⊥)
      → Parses t e (ANode n c i) (Some f) → PairKey t c i f k → e ≤ f.height → Parses t e (AnEntry true n c i) None
  item_read : {e i : ℕ} {n : ℤ} {c : Ctx} {f : ParsedNode} → (code t i ≡ 63 → Stuck (Separate t n c (i + 1))) → (ColonAt t false c i → ⊥)
      → Parses t e (ANode n c i) (Some f) → ((k : ℕ) → PairKey t c i f k → ⊥)
      → Parses t e (AnEntry true n c i) (Some (record f { meaning = entering i None f.meaning }))
  -- a value: the node after the separation, which may be missing only after a key like JSON's; otherwise an empty node
  value_read : {e i k : ℕ} {json : Bool} {n : ℤ} {c : Ctx} {cs : List CommentValue} {f : ParsedNode} → Chosen (Separate t n c (i + 1)) k cs
      → Parses t e (ANode n c k) (Some f) → Parses t e (AValue json n c i) (Some (record f { meaning = meaning_after cs f.meaning }))
  value_empty : {e i k : ℕ} {json : Bool} {n : ℤ} {c : Ctx} (cs : List CommentValue) → Chosen (Separate t n c (i + 1)) k cs
      → Parses t e (ANode n c k) None → Parses t e (AValue json n c i) (found (i + 1) 0 false (empty_node (i + 1)))
  value_adjacent : {e i : ℕ} {n : ℤ} {c : Ctx} {f : ParsedNode} → Stuck (Separate t n c (i + 1))
      → Parses t e (ANode n c (i + 1)) (Some f) → Parses t e (AValue true n c i) (Some f)
  value_adjacent_empty : {e i : ℕ} {n : ℤ} {c : Ctx} → Stuck (Separate t n c (i + 1))
      → Parses t e (ANode n c (i + 1)) None → Parses t e (AValue true n c i) (found (i + 1) 0 false (empty_node (i + 1)))
  value_missing : {e i : ℕ} {n : ℤ} {c : Ctx} → Stuck (Separate t n c (i + 1))
      → Parses t e (AValue false n c i) (found (i + 1) 0 false (empty_node (i + 1)))
