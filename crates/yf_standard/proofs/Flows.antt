-- Flow nodes (7.4 and 7.5): from the standard's productions to the relation `Node` of `Grammar`.
use Rattle.std.proofs.Common.{◌≡◌, ℕ, ◌+◌, ◌-◌, ◌<◌, ◌≤◌, ℤ, pos, Bool, true, false, List, [], length, take, drop, refl, sym, ap, ◌∙◌, subst, ◌⊎◌, inl, inr, arith}
use Rattle.std.specs.Str.{chars}
use Rattle.yf_chars.specs.declared.context.Ctx.{Ctx}
use Rattle.yf_chars.specs.declared.context.Ctx.TheVariants.{BlockOut, BlockIn, FlowOut, FlowIn, BlockKey, FlowKey}
use Rattle.yf_chars.specs.Text.{code}
use Rattle.yf_chars.specs.Class.{is_plain_safe}
use Rattle.yf_lines.specs.Basic.{SeparateInLine, is_block}
use Rattle.yf_comments.specs.Comments.{Separate}
use Rattle.yf_plain.specs.Plain.{PlainText}
use Rattle.yf_props.specs.Names.{Alias, Properties}
use Rattle.yf_grammar.specs.Productions.Meaning.{Meaning}
use Rattle.yf_grammar.specs.Productions.Grammar.{Production, Derives, MaySeparate, MaySeparateInLine, in_flow, characters_between, opening, closing}
use Rattle.yf_grammar.specs.Productions.Grammar.Production.{FlowNode, NodeOf, JsonContent, Entries, Entry, Pair, Explicit, Implicit, ValueOf, KeyOf}
use Rattle.yf_grammar.specs.Productions.Grammar.MaySeparate.{unseparated, separated}
use Rattle.yf_grammar.specs.Productions.Grammar.MaySeparateInLine.{unseparated_in_line, separated_in_line}
use Rattle.yf_grammar.specs.Productions.Grammar.Derives.{flow_node, an_alias, a_plain, a_plain_with, properties_alone, a_json, a_json_with, an_empty_collection, a_collection, last_entry, last_entry_with_comma, more_entries, a_node_entry, a_pair_entry, an_explicit_entry, an_implicit_entry, an_explicit_pair, a_keyed_pair, an_unkeyed_pair, explicit_with, explicit_without, key_alone, key_and_value, value_alone, empty_value, a_value, a_key}
use Rattle.yf_standard.specs.Characters.{x, ns-plain-safe, c-mapping-key, c-mapping-value, c-collect-entry, c-sequence-start, c-sequence-end, c-mapping-start, c-mapping-end}
use Rattle.yf_standard.specs.Productions.{in-flow-context}
use Rattle.yf_standard.proofs.Basics.{SomeOf, CharOf, char_is}
use Rattle.yf_standard.proofs.Sets.{plain_safe_is}

-- a node with some meaning, with room for e open collections
pub record SomeNode (t : List ℕ) (e : ℕ) (p : Production) (i j : ℕ) : Type 0 where
  pub height : ℕ
  pub meaning : Meaning
  pub node : Derives t height p i j meaning
  pub fits : height ≤ e

pub node_is : {t : List ℕ} {p : Production} {i j h e : ℕ} {m : Meaning} → Derives t h p i j m → h ≤ e → SomeNode t e p i j
node_is {h = h} {m = m} d l = record { height = h; meaning = m; node = d; fits = l }

-- s-separate(n,c)?
abbrev pub May : List ℕ → ℤ → Ctx → ℕ → ℕ → Type 0
May t n c i j = (i ≡ j) ⊎ SomeOf (Separate t n c) i j

pub may_read : (t : List ℕ) (n : ℤ) (c : Ctx) (i j : ℕ) → May t n c i j → SomeOf (MaySeparate t n c) i j
may_read t n c i j (inl e) = ([], subst (λ k. MaySeparate t n c i k []) e unseparated)
may_read t n c i j (inr s) = (s.0, separated s.1)

-- one character of a set with one element
abbrev pub SignOf : List ℕ → ℕ → ℕ → ℕ → Type 0
SignOf t d i j = (code t i ≡ d) × (i + 1 ≡ j)

-- a node, in a context in which the standard has flow nodes
abbrev pub NodeIn : List ℕ → ℕ → Ctx → Production → ℕ → ℕ → Type 0
NodeIn t e c p i j = is_block c ≡ false → SomeNode t e p i j

-- brackets with entries between them, or without
abbrev pub Between : List ℕ → ℕ → Bool → ℤ → Ctx → ℕ → ℕ → Type 0
Between t e s n c k j = (m : ℕ) × (((k ≡ m) ⊎ NodeIn t e c (Entries s n (in_flow c)) k m) × SignOf t (closing s) m j)

pub brackets_read : (t : List ℕ) (e r : ℕ) (s : Bool) (n : ℤ) (c : Ctx) (i j : ℕ) → r < e → is_block c ≡ false
    → (g : ℕ) × (SignOf t (opening s) i g × ((k : ℕ) × (May t n c g k × Between t r s n c k j))) → SomeNode t e (JsonContent n c) i j
brackets_read t e r s n c i j w b d = go d.1.1.1.1.1.0 where
  k : ℕ
  k = d.1.1.0

  m : ℕ
  m = d.1.1.1.1.0

  sep : SomeOf (MaySeparate t n c) (i + 1) k
  sep = let y = may_read t n c d.0 k d.1.1.1.0 in (y.0, subst (λ p. MaySeparate t n c p k y.0) (sym d.1.0.1) y.1)

  close : (code t m ≡ closing s) × (m + 1 ≡ j)
  close = d.1.1.1.1.1.1

  go : ((k ≡ m) ⊎ NodeIn t r c (Entries s n (in_flow c)) k m) → SomeNode t e (JsonContent n c) i j
  go (inl z) =
      let q : SomeOf (MaySeparate t n c) (i + 1) m = (sep.0, subst (λ p. MaySeparate t n c (i + 1) p sep.0) z sep.1) in
      subst (λ p. SomeNode t e (JsonContent n c) i p) close.1 (node_is (an_empty_collection s b d.1.0.0 q.1 close.0) (omega (arith, w)))
  go (inr f) = let x = f b in let l = x.fits in subst (λ p. SomeNode t e (JsonContent n c) i p) close.1 (node_is (a_collection s b d.1.0.0 sep.1 x.node close.0) (omega (arith, l, w)))

-- [138] and [141]
abbrev pub More : List ℕ → ℕ → Bool → ℤ → Ctx → ℕ → ℕ → Type 0
More t e s n c k j = (l : ℕ) × (SignOf t 44 k l × ((m : ℕ) × (May t n c l m × ((m ≡ j) ⊎ NodeIn t e c (Entries s n c) m j))))

pub entries_read : (t : List ℕ) (e : ℕ) (s : Bool) (n : ℤ) (c : Ctx) (i j : ℕ) → is_block c ≡ false
    → (g : ℕ) × (NodeIn t e c (Entry s n c) i g × ((k : ℕ) × (May t n c g k × ((k ≡ j) ⊎ More t e s n c k j)))) → SomeNode t e (Entries s n c) i j
entries_read t e s n c i j b d = go d.1.1.1.1 where
  k : ℕ
  k = d.1.1.0

  sep : SomeOf (MaySeparate t n c) d.0 k
  sep = may_read t n c d.0 k d.1.1.1.0

  after_comma : (l m : ℕ) → SignOf t 44 k l → May t n c l m → ((m ≡ j) ⊎ NodeIn t e c (Entries s n c) m j) → SomeNode t e (Entries s n c) i j
  after_comma l m o w (inl q) =
      let r = may_read t n c l m w in
      let v : MaySeparate t n c (k + 1) j r.0 = subst (λ p. MaySeparate t n c (k + 1) p r.0) q (subst (λ p. MaySeparate t n c p m r.0) (sym o.1) r.1) in
      let x = d.1.0 b in node_is (last_entry_with_comma x.node sep.1 o.0 v) x.fits
  after_comma l m o w (inr q) =
      let r = may_read t n c l m w in
      let v : MaySeparate t n c (k + 1) m r.0 = subst (λ p. MaySeparate t n c p m r.0) (sym o.1) r.1 in
      let x = d.1.0 b in let y = q b in let f = x.fits in let g = y.fits in node_is (more_entries x.node sep.1 o.0 v y.node) (omega (arith, f, g))

  go : ((k ≡ j) ⊎ More t e s n c k j) → SomeNode t e (Entries s n c) i j
  go (inl z) = let x = d.1.0 b in node_is (last_entry x.node (subst (λ p. MaySeparate t n c d.0 p sep.0) z sep.1)) x.fits
  go (inr r) = after_comma r.0 r.1.1.0 r.1.0 r.1.1.1.0 r.1.1.1.1

-- [142] and [150]: ? and an explicit entry
abbrev pub Marked : List ℕ → ℕ → ℤ → Ctx → ℕ → ℕ → Type 0
Marked t e n c i j = (g : ℕ) × (SignOf t 63 i g × ((k : ℕ) × (SomeOf (Separate t n c) g k × (is_block c ≡ false → (s : ℕ) → SomeNode t e (Explicit n c s) k j))))

marked_separate : (t : List ℕ) (e : ℕ) (n : ℤ) (c : Ctx) (i j : ℕ) (d : Marked t e n c i j) → Separate t n c (i + 1) d.1.1.0 d.1.1.1.0.0
marked_separate t e n c i j d = subst (λ p. Separate t n c p d.1.1.0 d.1.1.1.0.0) (sym d.1.0.1) d.1.1.1.0.1

pub map_entry_read : (t : List ℕ) (e : ℕ) (n : ℤ) (c : Ctx) (i j : ℕ) → is_block c ≡ false → Marked t e n c i j ⊎ (is_block c ≡ false → (s : ℕ) → SomeNode t e (Implicit n c s) i j) → SomeNode t e (Entry false n c) i j
map_entry_read t e n c i j b (inl d) = let x = d.1.1.1.1 b i in node_is (an_explicit_entry d.1.0.0 (marked_separate t e n c i j d) x.node) x.fits
map_entry_read t e n c i j b (inr f) = let d = f b i in node_is (an_implicit_entry d.node) d.fits

-- with the room of a single pair
pub pair_read : (t : List ℕ) (e : ℕ) (n : ℤ) (c : Ctx) (i j : ℕ) → is_block c ≡ false → Marked t e n c i j ⊎ NodeIn t e c (Pair n c) i j → SomeNode t e (Pair n c) i j
pair_read t e n c i j b (inl d) = let x = d.1.1.1.1 b i in node_is (an_explicit_pair d.1.0.0 (marked_separate t e n c i j d) x.node) x.fits
pair_read t e n c i j b (inr f) = f b

-- [143]
pub explicit_read : (t : List ℕ) (e : ℕ) (n : ℤ) (c : Ctx) (i j s : ℕ) → is_block c ≡ false
    → (is_block c ≡ false → (s : ℕ) → SomeNode t e (Implicit n c s) i j) ⊎ ((k : ℕ) × ((i ≡ k) × (k ≡ j))) → SomeNode t e (Explicit n c s) i j
explicit_read t e n c i j s b (inl f) = let d = f b s in node_is (explicit_with d.node) d.fits
explicit_read t e n c i j s b (inr z) = subst (λ p. SomeNode t e (Explicit n c s) i p) (z.1.0 ∙ z.1.1) (node_is (explicit_without b) (omega arith))

-- [145] and [148]
pub key_entry_read : (t : List ℕ) (e : ℕ) (json : Bool) (n : ℤ) (c : Ctx) (i j s : ℕ) → is_block c ≡ false
    → (l : ℕ) × (NodeIn t e c (NodeOf json n c) i l × (((k : ℕ) × (May t n c l k × NodeIn t e c (ValueOf json n c) k j)) ⊎ (l ≡ j))) → SomeNode t e (Implicit n c s) i j
key_entry_read t e json n c i j s b d = go d.1.1 where
  go : ((k : ℕ) × (May t n c d.0 k × NodeIn t e c (ValueOf json n c) k j)) ⊎ (d.0 ≡ j) → SomeNode t e (Implicit n c s) i j
  go (inl v) = let w = may_read t n c d.0 v.0 v.1.0 in let x = d.1.0 b in let y = v.1.1 b in let f = x.fits in let g = y.fits in node_is (key_and_value x.node w.1 y.node) (omega (arith, f, g))
  go (inr z) = let x = d.1.0 b in subst (λ p. SomeNode t e (Implicit n c s) i p) z (node_is (key_alone x.node) x.fits)

-- [147] and [149]
pub separate_value_read : (t : List ℕ) (e : ℕ) (n : ℤ) (c : Ctx) (i j : ℕ) → is_block c ≡ false
    → (g : ℕ) × (SignOf t 58 i g × ((f : ℕ) × (((ns-plain-safe c (code t g) ≡ false) × (g ≡ f))
    × (((k : ℕ) × (SomeOf (Separate t n c) f k × NodeIn t e c (FlowNode n c) k j)) ⊎ (f ≡ j))))) → SomeNode t e (ValueOf false n c) i j
separate_value_read t e n c i j b d = go d.1.1.1.1 where
  f : ℕ
  f = d.1.1.0

  same : i + 1 ≡ f
  same = d.1.0.1 ∙ d.1.1.1.0.1

  free : is_plain_safe (code t (i + 1)) c ≡ false
  free = sym (plain_safe_is c (code t (i + 1))) ∙ ap (λ p. ns-plain-safe c (code t p)) d.1.0.1 ∙ d.1.1.1.0.0

  go : ((k : ℕ) × (SomeOf (Separate t n c) f k × NodeIn t e c (FlowNode n c) k j)) ⊎ (f ≡ j) → SomeNode t e (ValueOf false n c) i j
  go (inl v) =
      let x = v.1.1 b in node_is (a_value v.1.0.0 d.1.0.0 free (subst (λ p. Separate t n c p v.0 v.1.0.0) (sym same) v.1.0.1) x.node) x.fits
  go (inr z) = subst (λ p. SomeNode t e (ValueOf false n c) i p) (same ∙ z) (node_is (empty_value b d.1.0.0 free) (omega arith))

pub adjacent_value_read : (t : List ℕ) (e : ℕ) (n : ℤ) (c : Ctx) (i j : ℕ) → is_block c ≡ false
    → (g : ℕ) × (SignOf t 58 i g × (((k : ℕ) × (May t n c g k × NodeIn t e c (FlowNode n c) k j)) ⊎ (g ≡ j))) → SomeNode t e (ValueOf true n c) i j
adjacent_value_read t e n c i j b d = go d.1.1 where
  go : ((k : ℕ) × (May t n c d.0 k × NodeIn t e c (FlowNode n c) k j)) ⊎ (d.0 ≡ j) → SomeNode t e (ValueOf true n c) i j
  go (inl v) =
      let w = may_read t n c d.0 v.0 v.1.0 in
      let x = v.1.1 b in node_is (a_value w.0 d.1.0.0 tt (subst (λ p. MaySeparate t n c p v.0 w.0) (sym d.1.0.1) w.1) x.node) x.fits
  go (inr z) = subst (λ p. SomeNode t e (ValueOf true n c) i p) (d.1.0.1 ∙ z) (node_is (empty_value b d.1.0.0 tt) (omega arith))

-- [151] to [153]
pub keyed_pair_read : (t : List ℕ) (e : ℕ) (json : Bool) (n : ℤ) (c : Ctx) (i j : ℕ) → is_block c ≡ false
    → (k : ℕ) × (NodeIn t e FlowKey (KeyOf json FlowKey) i k × NodeIn t e c (ValueOf json n c) k j) → SomeNode t e (Pair n c) i j
keyed_pair_read t e json n c i j b d = let x = d.1.0 refl in let y = d.1.1 b in let f = x.fits in let g = y.fits in node_is (a_keyed_pair x.node y.node) (omega (arith, f, g))

-- [154] and [155]
pub key_read : (t : List ℕ) (e : ℕ) (json : Bool) (c : Ctx) (i j : ℕ) → is_block c ≡ false
    → ((k : ℕ) × (NodeIn t e c (NodeOf json (pos 0) c) i k × ((k ≡ j) ⊎ SeparateInLine t k j))) × (length (chars (take (j - i) (drop i t))) ≤ 1024)
    → SomeNode t e (KeyOf json c) i j
unfolding characters_between
key_read t e json c i j b d = go d.0.1.1 where
  go : ((d.0.0 ≡ j) ⊎ SeparateInLine t d.0.0 j) → SomeNode t e (KeyOf json c) i j
  go (inl z) = let x = d.0.1.0 b in node_is (a_key x.node (subst (λ p. MaySeparateInLine t d.0.0 p) z unseparated_in_line) d.1) x.fits
  go (inr s) = let x = d.0.1.0 b in node_is (a_key x.node (separated_in_line s) d.1) x.fits

-- [159] to [161]
pub yaml_node_read : (t : List ℕ) (e : ℕ) (n : ℤ) (c : Ctx) (i j : ℕ) → is_block c ≡ false
    → SomeOf (Alias t) i j ⊎ (SomeOf (PlainText t n c) i j
    ⊎ ((g : ℕ) × (SomeOf (Properties t n c) i g × (((k : ℕ) × (SomeOf (Separate t n c) g k × SomeOf (PlainText t n c) k j)) ⊎ (g ≡ j)))))
    → SomeNode t e (NodeOf false n c) i j
yaml_node_read t e n c i j b (inl a) = node_is (an_alias b a.1) (omega arith)
yaml_node_read t e n c i j b (inr (inl p)) = node_is (a_plain p.1) (omega arith)
yaml_node_read t e n c i j b (inr (inr d)) = go d.1.1 where
  go : ((k : ℕ) × (SomeOf (Separate t n c) d.0 k × SomeOf (PlainText t n c) k j)) ⊎ (d.0 ≡ j) → SomeNode t e (NodeOf false n c) i j
  go (inl v) = node_is (a_plain_with d.1.0.1 v.1.0.1 v.1.1.1) (omega arith)
  go (inr z) = subst (λ p. SomeNode t e (NodeOf false n c) i p) z (node_is (properties_alone b d.1.0.1) (omega arith))

pub json_node_read : (t : List ℕ) (e : ℕ) (n : ℤ) (c : Ctx) (i j : ℕ) → is_block c ≡ false
    → (k : ℕ) × (((i ≡ k) ⊎ ((g : ℕ) × (SomeOf (Properties t n c) i g × SomeOf (Separate t n c) g k))) × NodeIn t e c (JsonContent n c) k j)
    → SomeNode t e (NodeOf true n c) i j
json_node_read t e n c i j b d = go d.1.0 where
  go : ((i ≡ d.0) ⊎ ((g : ℕ) × (SomeOf (Properties t n c) i g × SomeOf (Separate t n c) g d.0))) → SomeNode t e (NodeOf true n c) i j
  go (inl z) = let x = d.1.1 b in subst (λ p. SomeNode t e (NodeOf true n c) p j) (sym z) (node_is (a_json x.node) x.fits)
  go (inr p) = let x = d.1.1 b in node_is (a_json_with p.1.0.1 p.1.1.1 x.node) x.fits

abbrev pub ContentOf : List ℕ → ℕ → ℤ → Ctx → ℕ → ℕ → Type 0
ContentOf t e n c i j = SomeOf (PlainText t n c) i j ⊎ NodeIn t e c (JsonContent n c) i j

abbrev pub ContentIn : List ℕ → ℕ → ℤ → Ctx → ℕ → ℕ → Type 0
ContentIn t e n c i j = is_block c ≡ false → ContentOf t e n c i j

pub flow_node_read : (t : List ℕ) (e : ℕ) (n : ℤ) (c : Ctx) (i j : ℕ) → is_block c ≡ false
    → SomeOf (Alias t) i j ⊎ (ContentIn t e n c i j
    ⊎ ((g : ℕ) × (SomeOf (Properties t n c) i g × (((k : ℕ) × (SomeOf (Separate t n c) g k × ContentIn t e n c k j)) ⊎ (g ≡ j)))))
    → SomeNode t e (FlowNode n c) i j
flow_node_read t e n c i j b (inl a) = node_is (flow_node (an_alias b a.1)) (omega arith)
flow_node_read t e n c i j b (inr (inl d)) = alone (d b) where
  alone : ContentOf t e n c i j → SomeNode t e (FlowNode n c) i j
  alone (inl p) = node_is (flow_node (a_plain p.1)) (omega arith)
  alone (inr d) = let x = d b in node_is (flow_node (a_json x.node)) x.fits
flow_node_read t e n c i j b (inr (inr d)) = go d.1.1 where
  content : (k : ℕ) → SomeOf (Separate t n c) d.0 k → ContentOf t e n c k j → SomeNode t e (FlowNode n c) i j
  content k s (inl p) = node_is (flow_node (a_plain_with d.1.0.1 s.1 p.1)) (omega arith)
  content k s (inr q) = let x = q b in node_is (flow_node (a_json_with d.1.0.1 s.1 x.node)) x.fits

  go : ((k : ℕ) × (SomeOf (Separate t n c) d.0 k × ContentIn t e n c k j)) ⊎ (d.0 ≡ j) → SomeNode t e (FlowNode n c) i j
  go (inl v) = content v.0 v.1.0 (v.1.1 b)
  go (inr z) = subst (λ p. SomeNode t e (FlowNode n c) i p) z (node_is (flow_node (properties_alone b d.1.0.1)) (omega arith))

-- characters of sets with one element, as signs
pub flow_still : (c : Ctx) → is_block c ≡ false → is_block (in-flow-context c) ≡ false
flow_still BlockOut b = b
flow_still BlockIn b = b
flow_still FlowOut b = b
flow_still FlowIn b = b
flow_still BlockKey b = b
flow_still FlowKey b = b

pub flow_same : (c : Ctx) → in-flow-context c ≡ in_flow c
flow_same BlockOut = refl
flow_same BlockIn = refl
flow_same FlowOut = refl
flow_same FlowIn = refl
flow_same BlockKey = refl
flow_same FlowKey = refl

pub sequence_read : (t : List ℕ) (e : ℕ) (n : ℤ) (c : Ctx) (i j : ℕ)
    → (g : ℕ) × (CharOf t c-sequence-start i g × ((k : ℕ) × (May t n c g k × ((m : ℕ) × (((k ≡ m) ⊎ (is_block c ≡ false → SomeNode t e (Entries true n (in_flow c)) k m)) × CharOf t c-sequence-end m j)))))
    → (g : ℕ) × (SignOf t 91 i g × ((k : ℕ) × (May t n c g k × Between t e true n c k j)))
unfolding c-sequence-start c-sequence-end
sequence_read t e n c i j d =
    (d.0, (char_is t i d.0 91 (omega arith) d.1.0, (d.1.1.0, (d.1.1.1.0, (d.1.1.1.1.0, (d.1.1.1.1.1.0, char_is t d.1.1.1.1.0 j 93 (omega arith) d.1.1.1.1.1.1))))))

pub mapping_read : (t : List ℕ) (e : ℕ) (n : ℤ) (c : Ctx) (i j : ℕ)
    → (g : ℕ) × (CharOf t c-mapping-start i g × ((k : ℕ) × (May t n c g k × ((m : ℕ) × (((k ≡ m) ⊎ NodeIn t e (in-flow-context c) (Entries false n (in-flow-context c)) k m) × CharOf t c-mapping-end m j)))))
    → (g : ℕ) × (SignOf t 123 i g × ((k : ℕ) × (May t n c g k × Between t e false n c k j)))
unfolding c-mapping-start c-mapping-end
mapping_read t e n c i j d =
    (d.0, (char_is t i d.0 123 (omega arith) d.1.0, (d.1.1.0, (d.1.1.1.0, (d.1.1.1.1.0, (go d.1.1.1.1.1.0, char_is t d.1.1.1.1.0 j 125 (omega arith) d.1.1.1.1.1.1)))))) where
      go : {k m : ℕ} → (k ≡ m) ⊎ NodeIn t e (in-flow-context c) (Entries false n (in-flow-context c)) k m → (k ≡ m) ⊎ NodeIn t e c (Entries false n (in_flow c)) k m
      go (inl e) = inl e
      go {k} {m} (inr f) = inr (λ b. subst (λ x. SomeNode t e (Entries false n x) k m) (flow_same c) (f (flow_still c b)))

pub entries_signs : (t : List ℕ) (e : ℕ) (s : Bool) (n : ℤ) (c : Ctx) (i j : ℕ)
    → (g : ℕ) × (NodeIn t e c (Entry s n c) i g × ((k : ℕ) × (May t n c g k
    × ((k ≡ j) ⊎ ((l : ℕ) × (CharOf t c-collect-entry k l × ((m : ℕ) × (May t n c l m × ((m ≡ j) ⊎ NodeIn t e c (Entries s n c) m j)))))))))
    → (g : ℕ) × (NodeIn t e c (Entry s n c) i g × ((k : ℕ) × (May t n c g k × ((k ≡ j) ⊎ More t e s n c k j))))
unfolding c-collect-entry
entries_signs t e s n c i j d = (d.0, (d.1.0, (d.1.1.0, (d.1.1.1.0, go d.1.1.1.1)))) where
  go : {k : ℕ} → (k ≡ j) ⊎ ((l : ℕ) × (CharOf t (x 44) k l × ((m : ℕ) × (May t n c l m × ((m ≡ j) ⊎ NodeIn t e c (Entries s n c) m j))))) → (k ≡ j) ⊎ More t e s n c k j
  go (inl e) = inl e
  go {k} (inr r) = inr (r.0, (char_is t k r.0 44 (omega arith) r.1.0, r.1.1))

-- a single pair is a collection with less room for open collections
abbrev pub PairIn : List ℕ → ℕ → ℤ → Ctx → ℕ → ℕ → Type 0
PairIn t e n c i j = is_block c ≡ false → (r : ℕ) × ((r < e) × SomeNode t r (Pair n c) i j)

pub seq_entry_read : (t : List ℕ) (e : ℕ) (n : ℤ) (c : Ctx) (i j : ℕ) → is_block c ≡ false → PairIn t e n c i j ⊎ NodeIn t e c (FlowNode n c) i j → SomeNode t e (Entry true n c) i j
seq_entry_read t e n c i j b (inl d) = let r = d b in let l = r.1.0 in let x = r.1.1 in let f = x.fits in node_is (a_pair_entry x.node) (omega (arith, f, l))
seq_entry_read t e n c i j b (inr d) = let x = d b in node_is (a_node_entry x.node) x.fits

pub marked_signs : (t : List ℕ) (e : ℕ) (n : ℤ) (c : Ctx) (i j : ℕ)
    → (g : ℕ) × (CharOf t c-mapping-key i g × ((k : ℕ) × (SomeOf (Separate t n c) g k × (is_block c ≡ false → (s : ℕ) → SomeNode t e (Explicit n c s) k j)))) → Marked t e n c i j
unfolding c-mapping-key
marked_signs t e n c i j d = (d.0, (char_is t i d.0 63 (omega arith) d.1.0, d.1.1))

pub empty_key_read : (t : List ℕ) (e : ℕ) (n : ℤ) (c : Ctx) (i j s : ℕ) → is_block c ≡ false → NodeIn t e c (ValueOf false n c) i j → SomeNode t e (Implicit n c s) i j
empty_key_read t e n c i j s b d = let x = d b in node_is (value_alone x.node) x.fits

pub unkeyed_read : (t : List ℕ) (e : ℕ) (n : ℤ) (c : Ctx) (i j : ℕ) → is_block c ≡ false → NodeIn t e c (ValueOf false n c) i j → SomeNode t e (Pair n c) i j
unkeyed_read t e n c i j b d = let x = d b in node_is (an_unkeyed_pair x.node) x.fits

pub colon_sign : {R : ℕ → Type 0} (t : List ℕ) (i j : ℕ) → (g : ℕ) × (CharOf t c-mapping-value i g × R g) → (g : ℕ) × (SignOf t 58 i g × R g)
unfolding c-mapping-value
colon_sign t i j d = (d.0, (char_is t i d.0 58 (omega arith) d.1.0, d.1.1))
