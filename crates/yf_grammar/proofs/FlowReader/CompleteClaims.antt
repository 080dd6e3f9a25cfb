-- The completeness of each production: inside of a flow collection, and before text that can follow it there, the
-- reader finds it as it is derived, with each limit that it stays within. A key is derived in a context of its own and
-- read as a node, so each claim holds for all wider contexts.
use Rattle.std.proofs.Common.{◌≡◌, ℕ, ℤ, suc, max, ◌+◌, ◌≤◌, Bool, true, false, List, Option, Some, None, refl, ◌∙◌, arith}
use Rattle.std.specs.Str.{IsUtf8}
use Rattle.yf_chars.specs.declared.context.Ctx.{Ctx}
use Rattle.yf_chars.specs.declared.context.Ctx.TheVariants.{FlowKey}
use Rattle.yf_chars.specs.Text.{code}
use Rattle.yf_lines.specs.Basic.{is_block, Clear}
use Rattle.yf_lines.proofs.BasicLemmas.{clear_front}
use Rattle.yf_comments.specs.Comment.{CommentValue}
use Rattle.yf_comments.specs.Comments.{Separate}
use Rattle.yf_plain.specs.Kept.{is_inside}
use Rattle.yf_grammar.specs.Productions.Meaning.{Meaning, ◌⊕◌, meaning_after, noting, entering, empty_node, collection}
use Rattle.yf_grammar.specs.Productions.Grammar.{Production, FlowNode, NodeOf, JsonContent, Entries, Entry, Pair, Explicit, Implicit, ValueOf, KeyOf, BlockNode, BlockEntries, BlockEntry, BlockIndented, BlockValue, MaySeparate, MaySeparateInLine, characters_between, KEY_LIMIT, closing}
use Rattle.yf_grammar.specs.FlowReader.Parser.{ParsedNode, found, Task, ANode, AContent, TheEntries, AnEntry, AnExplicit, AnImplicit, AValue, ColonAt, OnOneLine, Parses}
use Rattle.yf_grammar.proofs.Ends.GapLemmas.{Visible}
use Rattle.yf_grammar.proofs.FlowReader.FlowStarts.{is_end, NodeStarts, may_line_forward}
use Rattle.yf_grammar.proofs.Ends.WiderLemmas.{Wider, may_line_separate}
use Rattle.yf_grammar.proofs.FlowReader.NodeExact.{Followed, Ending}
use Rattle.yf_grammar.proofs.FlowReader.ContentExact.{Reaches, EntriesFound, EntryFound}
use Rattle.yf_grammar.proofs.FlowReader.EntryExact.{exact_entry, mapping_explicit_exact, pair_explicit_exact, keyed_pair, keyed_pair_exact}
use Rattle.yf_grammar.proofs.FlowReader.PairKeys.{make_key, key_unique}
use Rattle.yf_grammar.proofs.FlowReader.CompleteSteps.{end_visible, stop_of_colon, node_no_colon, sign_stuck, mapping_nothing, pair_nothing}

-- each outcome is the derived part
abbrev pub Exactly : List ℕ → ℕ → Task → ℕ → ℕ → Meaning → Type 0
Exactly t e task j h x = (o : Option ParsedNode) → Parses t e task o → (b : Bool) × (o ≡ found j h b x)

-- a key or a value follows `?` and a separation, and is found; or nothing follows
pub data ExplicitClaim (t : List ℕ) (m : ℤ) (d : Ctx) (s : ℕ) : ℕ → ℕ → ℕ → Meaning → Type 0 where
  entry_goes_on : {h i j : ℕ} {x : Meaning} → Visible t i → is_end (code t i) ≡ false
      → (Clear t i j → Ending t m d j → (e : ℕ) → h ≤ e → Exactly t e (AnExplicit m d s i) j h x) → ExplicitClaim t m d s h i j x
  nothing_is_at : {i : ℕ} → ExplicitClaim t m d s 0 i i (entering s None (empty_node (s + 1)) ⊕ empty_node (s + 1))

-- a key is a node on one line, not too long, with white space after it
pub record KeyClaim (t : List ℕ) (h : ℕ) (json : Bool) (i j : ℕ) (x : Meaning) : Type 0 where
  pub node_end : ℕ
  pub separation : MaySeparateInLine t node_end j
  pub short : characters_between t i j ≤ KEY_LIMIT
  pub line : OnOneLine t i j
  pub starts : (m : ℤ) (d : Ctx) → is_inside d ≡ true → NodeStarts t d i node_end
  pub exact : (m : ℤ) (d : Ctx) → is_inside d ≡ true → Clear t i node_end → Followed t m d json node_end → (e : ℕ) → h ≤ e → (o : Option ParsedNode)
      → Parses t e (ANode m d i) o → o ≡ found node_end h json x

abbrev pub Claim : List ℕ → ℕ → Production → ℕ → ℕ → Meaning → Type 0
Claim t h (FlowNode n c) i j x = (m : ℤ) (d : Ctx) → is_inside d ≡ true → Wider n c m d → Clear t i j → Ending t m d j → (e : ℕ) → h ≤ e → Exactly t e (ANode m d i) j h x
Claim t h (NodeOf json n c) i j x = (m : ℤ) (d : Ctx) → is_inside d ≡ true → Wider n c m d → Clear t i j → Followed t m d json j → (e : ℕ) → h ≤ e → (o : Option ParsedNode)
    → Parses t e (ANode m d i) o → o ≡ found j h json x
Claim t h (JsonContent n c) i j x = (m : ℤ) (d : Ctx) → is_block d ≡ false → Wider n c m d → Clear t i j → (e : ℕ) → h ≤ e → (o : Option ParsedNode)
    → Parses t e (AContent m d i) o → Reaches t o j h x
Claim t h (Entries s n c) i j x = (m : ℤ) (d : Ctx) → is_inside d ≡ true → Wider n c m d → Clear t i j → code t j ≡ closing s → (e : ℕ) → h ≤ e → (o : Option ParsedNode)
    → Parses t e (TheEntries s m d i) o → EntriesFound o j h x
Claim t h (Entry s n c) i j x = (m : ℤ) (d : Ctx) → is_inside d ≡ true → Wider n c m d → Clear t i j → (l : ℕ) (cs : List CommentValue) → MaySeparate t m d j l cs
    → is_end (code t l) ≡ true → (e : ℕ) → h ≤ e → (o : Option ParsedNode) → Parses t e (AnEntry s m d i) o → EntryFound t m d o l h (noting x cs)
Claim t h (Pair n c) i j x = (m : ℤ) (d : Ctx) → is_inside d ≡ true → Wider n c m d → Clear t i j → (l : ℕ) (cs : List CommentValue) → MaySeparate t m d j l cs
    → is_end (code t l) ≡ true → (e : ℕ) → suc h ≤ e → (o : Option ParsedNode) → Parses t e (AnEntry true m d i) o
    → EntryFound t m d o l (suc h) (noting (entering i None (collection false true i x.finish x)) cs)
Claim t h (Explicit n c s) i j x = (m : ℤ) (d : Ctx) → is_inside d ≡ true → Wider n c m d → ExplicitClaim t m d s h i j x
Claim t h (Implicit n c s) i j x = (m : ℤ) (d : Ctx) → is_inside d ≡ true → Wider n c m d → Clear t i j → Ending t m d j → (e : ℕ) → h ≤ e → Exactly t e (AnImplicit m d s i) j h x
Claim t h (ValueOf json n c) i j x = (m : ℤ) (d : Ctx) → is_inside d ≡ true → Wider n c m d → Clear t i j → Ending t m d j → (e : ℕ) → h ≤ e → Exactly t e (AValue json m d i) j h x
Claim t h (KeyOf json c) i j x = c ≡ FlowKey → KeyClaim t h json i j x
Claim t h (BlockNode n c) i j x = Unit {0}
Claim t h (BlockEntries s m) i j x = Unit {0}
Claim t h (BlockEntry s m) i j x = Unit {0}
Claim t h (BlockIndented m c) i j x = Unit {0}
Claim t h (BlockValue m) i j x = Unit {0}

pub ending_at : {t : List ℕ} {n : ℤ} {c : Ctx} {j l : ℕ} {cs : List CommentValue} → MaySeparate t n c j l cs → is_end (code t l) ≡ true → Ending t n c j
ending_at {l = l} {cs = cs} m e = record { place = l; comments = cs; gap = m; ends = e }

pub followed_at : {t : List ℕ} {n : ℤ} {c : Ctx} {json : Bool} {j k : ℕ} {cs : List CommentValue} → MaySeparate t n c j k cs → ColonAt t json c k → Followed t n c json j
followed_at {t} {k = k} {cs = cs} m q = record { place = k; comments = cs; gap = m; stop = stop_of_colon (code t k) q.colon; colon = λ e. q.follows }

keyed_found : (i k j h g : ℕ) (x y : Meaning)
    → keyed_pair i k j h g x y ≡ found j (suc (max h g)) false (entering i None (collection false true i (entering i (Some k) x ⊕ y).finish (entering i (Some k) x ⊕ y)))
unfolding keyed_pair
keyed_found i k j h g x y = refl

module _ {t : List ℕ} (u : IsUtf8 t) {m : ℤ} {d : Ctx} where
  -- an explicit entry of a mapping, and a pair of a sequence
  pub explicit_entry : {e i k j l h : ℕ} {cs ds : List CommentValue} {x : Meaning} {o : Option ParsedNode} → ExplicitClaim t m d i h k j x → code t i ≡ 63 → Separate t m d (i + 1) k cs
      → Clear t k j → MaySeparate t m d j l ds → is_end (code t l) ≡ true → h ≤ e → Parses t e (AnEntry false m d i) o → EntryFound t m d o l h (noting (meaning_after cs x) ds)
  explicit_entry {e = e} {j = j} {l = l} {h = h} {cs = cs} {x = x} (entry_goes_on v n f) q s k g b le r =
      let a = mapping_explicit_exact j h x q s v (λ w p. f k (ending_at g b) e le w p) r in
      exact_entry j h a.0 (meaning_after cs x) g (end_visible l b) a.1
  explicit_entry nothing_is_at q s k g b le r = mapping_nothing u q s g b r

  pub explicit_pair : {e i k j l h : ℕ} {cs ds : List CommentValue} {x : Meaning} {o : Option ParsedNode} → ExplicitClaim t m d i h k j x → code t i ≡ 63 → Separate t m d (i + 1) k cs
      → Clear t k j → MaySeparate t m d j l ds → is_end (code t l) ≡ true → suc h ≤ e → Parses t e (AnEntry true m d i) o
      → EntryFound t m d o l (suc h) (noting (entering i None (collection false true i (meaning_after cs x).finish (meaning_after cs x))) ds)
  explicit_pair {e = e} {i = i} {j = j} {l = l} {h = h} {cs = cs} {x = x} (entry_goes_on v n f) q s k g b le r =
      let a = pair_explicit_exact j h x q s v le (λ z w y p. f k (ending_at g b) z y w p) r in
      exact_entry j (suc h) false (entering i None (collection false true i (meaning_after cs x).finish (meaning_after cs x))) g (end_visible l b) a
  explicit_pair nothing_is_at q s k g b le r = pair_nothing u q s g b le r

  -- a pair of a key and its value
  pub keyed_entry : {e h i k l : ℕ} {json : Bool} {ds : List CommentValue} {x : Meaning} {o : Option ParsedNode} (j g : ℕ) (y : Meaning) → is_inside d ≡ true → KeyClaim t h json i k x → ColonAt t json d k
      → Clear t i k → ((e : ℕ) → g ≤ e → Exactly t e (AValue json m d k) j g y) → MaySeparate t m d j l ds → is_end (code t l) ≡ true → suc (max h g) ≤ e
      → Parses t e (AnEntry true m d i) o
      → EntryFound t m d o l (suc (max h g)) (noting (entering i None (collection false true i (entering i (Some k) x ⊕ y).finish (entering i (Some k) x ⊕ y))) ds)
  keyed_entry {e = e} {h = h} {i = i} {k = k} {l = l} {json = json} {x = x} j g y s a q c v z b le r =
      let st = a.starts m d s in
      let whites = may_line_separate m d a.separation in
      let key = make_key i (record { end = a.node_end; height = h; json = json; meaning = x }) a.separation a.line a.short q in
      let p = keyed_pair_exact a.node_end j h g json x y (sign_stuck d i u st.question) (node_no_colon st) le key (λ w o. key_unique key o)
      (λ w o. a.exact m d s (clear_front (may_line_forward a.separation) c) (followed_at whites q) e (omega arith) w o)
      (λ f w n o. v f n w o) r in
      exact_entry j (suc (max h g)) false (entering i None (collection false true i (entering i (Some k) x ⊕ y).finish (entering i (Some k) x ⊕ y))) z (end_visible l b)
      (p ∙ keyed_found i k j h g x y)
