-- The rest of a flow collection while it is read: the outcome of the collection follows from the outcome of its awaited
-- part. So a reader with a stack of open collections has the outcome of the recursive reader.
use Rattle.std.specs.Prelude.{◌≡◌, ℕ, suc, max, ◌+◌, ℤ, Bool, true, false, ◌==◌, ◌||◌, List, [], ◌++◌, Some, None}
use Rattle.yf_chars.specs.declared.context.Ctx.{Ctx}
use Rattle.yf_chars.specs.Text.{code}
use Rattle.yf_chars.specs.Chain.{Stuck, Chosen}
use Rattle.yf_comments.specs.Comment.{CommentValue}
use Rattle.yf_comments.specs.Comments.{Separate}
use Rattle.yf_props.specs.Names.{Properties, PropertiesValue}
use Rattle.yf_grammar.specs.Productions.Meaning.{Meaning, ◌⊕◌, meaning_after, noting, collection, entering, with_props}
use Rattle.yf_grammar.specs.FlowReader.Parser.{ParsedNode, Gap, ColonAt, ANode, AContent, TheEntries, AnEntry, AnExplicit, AnImplicit, AValue, Parses, begins_content, only}

-- the collection from i on with the entries x, in which h collections are open at once, and with the further entries g
abbrev pub closed : Bool → ℕ → ℕ → Meaning → ParsedNode → ParsedNode
closed sequence i h x g =
    record { end = g.end + 1; height = suc (max h g.height); json = true; meaning = collection sequence true i (g.end + 1) (x ⊕ g.meaning) }

-- the collection without further entries, closed by the bracket at k
abbrev pub ended_at : Bool → ℕ → ℕ → Meaning → ℕ → ParsedNode
ended_at sequence i h x k = record { end = k + 1; height = suc h; json = true; meaning = collection sequence true i (k + 1) x }

-- further entries of the collection are awaited at k, or its closing bracket; c is the context of the collection, d
-- that within it
pub record EntriesAwaited (t : List ℕ) (e : ℕ) (sequence : Bool) (n : ℤ) (c d : Ctx) (i h : ℕ) (x : Meaning) (k : ℕ) : Type 0 where
  pub some : (g : ParsedNode) → Parses t e (TheEntries sequence n d k) (Some g) → Parses t (suc e) (AContent n c i) (Some (closed sequence i h x g))
  pub none : Parses t e (TheEntries sequence n d k) None → Parses t (suc e) (AContent n c i) None

-- further entries are awaited after a separation, which may be missing
pub record SeparationAwaited (t : List ℕ) (e : ℕ) (sequence : Bool) (n : ℤ) (c d : Ctx) (i h : ℕ) (x : Meaning) (at : ℕ) : Type 0 where
  pub past : (k : ℕ) (cs : List CommentValue) → Gap t n d at k cs → EntriesAwaited t e sequence n c d i h (noting x cs) k

-- an entry from s to j, of either kind
pub record IsEntry (t : List ℕ) (e : ℕ) (sequence : Bool) (n : ℤ) (d : Ctx) (s j h : ℕ) (x : Meaning) : Type 0 where
  pub json : Bool
  pub read : Parses t e (AnEntry sequence n d s) (Some (record { end = j; height = h; json = json; meaning = x }))

-- a single pair takes one from the limit, and is a mapping of its own
abbrev pub with_pair : Bool → ℕ → ℕ
with_pair false e = e
with_pair true e = suc e

abbrev pub wrapped : Bool → ℕ → Meaning → Meaning
wrapped false s x = x
wrapped true s x = entering s None (collection false true s x.finish x)

-- the rest of an entry that begins at s is awaited at p, after `?` and its separation; x is the part so far
pub record RestAwaited (t : List ℕ) (e : ℕ) (sequence : Bool) (n : ℤ) (d : Ctx) (pair : Bool) (s : ℕ) (x : Meaning) (p : ℕ) : Type 0 where
  pub some : (f : ParsedNode) → Parses t e (AnExplicit n d s p) (Some f)
      → IsEntry t (with_pair pair e) sequence n d s f.end (with_pair pair f.height) (wrapped pair s (x ⊕ f.meaning))
  pub none : Parses t e (AnExplicit n d s p) None → Parses t (with_pair pair e) (AnEntry sequence n d s) None

-- a key, or a value without a key, is awaited at p in the entry that begins at s; x is the part so far
pub record KeyAwaited (t : List ℕ) (e : ℕ) (sequence : Bool) (n : ℤ) (d : Ctx) (pair : Bool) (s : ℕ) (x : Meaning) (p : ℕ) : Type 0 where
  pub some : (f : ParsedNode) → Parses t e (AnImplicit n d s p) (Some f)
      → IsEntry t (with_pair pair e) sequence n d s f.end (with_pair pair f.height) (wrapped pair s (x ⊕ f.meaning))
  pub none : Parses t e (AnImplicit n d s p) None → Parses t (with_pair pair e) (AnEntry sequence n d s) None

-- a value is awaited, from its `:` at v on, after a key with h collections open at once; `json` says that the key is
-- like those of JSON
pub record ValueAwaited (t : List ℕ) (e : ℕ) (sequence : Bool) (n : ℤ) (d : Ctx) (pair : Bool) (s : ℕ) (json : Bool) (h : ℕ) (x : Meaning) (v : ℕ) : Type 0 where
  pub some : (g : ParsedNode) → Parses t e (AValue json n d v) (Some g)
      → IsEntry t (with_pair pair e) sequence n d s g.end (with_pair pair (max h g.height)) (wrapped pair s (x ⊕ g.meaning))

-- the node of a value is awaited at p, after the `:` and a separation if there is one
pub record ValueNodeAwaited (t : List ℕ) (e : ℕ) (sequence : Bool) (n : ℤ) (d : Ctx) (pair : Bool) (s h : ℕ) (x : Meaning) (p : ℕ) : Type 0 where
  pub some : (g : ParsedNode) → Parses t e (ANode n d p) (Some g)
      → IsEntry t (with_pair pair e) sequence n d s g.end (with_pair pair (max h g.height)) (wrapped pair s (x ⊕ g.meaning))
  -- the entry ends before the separation
  pub none : Parses t e (ANode n d p) None
      → (j : ℕ) × (cs : List CommentValue) × (y : Meaning) × IsEntry t (with_pair pair e) sequence n d s j (with_pair pair h) y × Gap t n d j p cs

-- a comma or a closing bracket, which ends an entry
abbrev pub is_entry_end : ℕ → Bool
is_entry_end c = (c == 44) || (c == 93) || (c == 125)

-- the entry begins neither with `?` and a separation nor with a value, so a node is awaited there
pub record ItemAwaited (t : List ℕ) (n : ℤ) (d : Ctx) (s : ℕ) : Type 0 where
  pub no_sign : code t s ≡ 63 → Stuck (Separate t n d (s + 1))
  pub no_value : ColonAt t false d s → ⊥

-- a node is awaited at p in the entry that begins at s: x is the part of the entry before it, with h collections open
-- at once
pub data NodeAwaited (t : List ℕ) (n : ℤ) (d : Ctx) (s : ℕ) : Bool → ℕ → Bool → ℕ → ℕ → Meaning → Type 0 where
  as_item : {e : ℕ} → ItemAwaited t n d s → NodeAwaited t n d s true e false s 0 (only [] 0)
  as_key : {sequence pair : Bool} {e p : ℕ} {x : Meaning} → KeyAwaited t e sequence n d pair s x p → (ColonAt t false d p → ⊥)
      → NodeAwaited t n d s sequence e pair p 0 x
  as_value : {sequence pair : Bool} {e p h : ℕ} {x : Meaning} → ValueNodeAwaited t e sequence n d pair s h x p → is_entry_end (code t p) ≡ false
      → NodeAwaited t n d s sequence e pair p h x

-- the text before the content of a node: nothing, or properties from i to g and a separation
pub data Before : Type 0 where
  Bare : Before
  Propertied : PropertiesValue → List CommentValue → ℕ → ℕ → Before

abbrev pub over : Before → Meaning → Meaning
over Bare x = x
over (Propertied p cs i g) x = meaning_after (p.comments ++ cs) (with_props p.props p.tag_offset i g x)

-- a node with content that begins at k with a quote or a bracket
pub data NodeOver (t : List ℕ) (n : ℤ) (d : Ctx) : ℕ → ℕ → Before → Type 0 where
  bare_there : {i : ℕ} → begins_content (code t i) ≡ true → NodeOver t n d i i Bare
  properties_there : {i g k : ℕ} {p : PropertiesValue} {cs : List CommentValue} → Chosen (Properties t n d i) g p → Chosen (Separate t n d g) k cs
      → begins_content (code t k) ≡ true → NodeOver t n d i k (Propertied p cs i g)

-- an offset after an entry that ends at j: j itself, or the end of the separation, if there is one, with its comments
pub data Within (t : List ℕ) (n : ℤ) (d : Ctx) (j : ℕ) : ℕ → List CommentValue → Type 0 where
  not_yet : Within t n d j j []
  gap_past : {k : ℕ} {cs : List CommentValue} → Gap t n d j k cs → Within t n d j k cs
