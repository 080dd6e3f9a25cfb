-- Block nodes (8.2): from the standard's productions to the relation `Node` of `Grammar`.
use Rattle.std.proofs.Common.{◌≡◌, ℕ, ◌+◌, ◌<◌, ℤ, pos, ◌+ℤ◌, ◌-ℤ◌, ◌≤ℤ◌, Bool, true, false, List, refl, sym, ap, ◌∙◌, subst, ◌⊎◌, inl, inr, arith}
use Rattle.std.proofs.lemmas.Int.{ints}
use Rattle.yf_chars.specs.declared.context.Ctx.{Ctx}
use Rattle.yf_chars.specs.declared.context.Ctx.TheVariants.{BlockOut, BlockIn, FlowOut, BlockKey}
use Rattle.yf_chars.specs.Text.{code}
use Rattle.yf_chars.specs.Class.{is_ns_char, is_white_or_end}
use Rattle.yf_lines.specs.Basic.{is_block, Spaces, Indent}
use Rattle.yf_lines.specs.Basic.Indent.{exactly}
use Rattle.yf_comments.specs.Comments.{Separate, LineEnd}
use Rattle.yf_props.specs.Names.{Properties}
use Rattle.yf_grammar.specs.Productions.BlockScalar.{BlockScalar}
use Rattle.yf_grammar.specs.Productions.Grammar.{ColonLine, least_column}
use Rattle.yf_grammar.specs.Productions.Grammar.Production.{FlowNode, KeyOf, BlockNode, BlockEntries, BlockEntry, BlockIndented, BlockValue}
use Rattle.yf_grammar.specs.Productions.Grammar.Derives.{a_block_scalar, a_block_scalar_with, a_block_collection, a_block_collection_with, flow_in_block, a_last_entry, an_entry_before, a_dash_entry, an_explicit_entry_with, an_explicit_key_alone, a_keyed_entry, an_unkeyed_entry, a_block_value, an_empty_block_value, a_compact_collection, an_indented_node, nothing_indented}
use Rattle.yf_standard.specs.Characters.{ns-char, c-sequence-entry, c-mapping-key}
use Rattle.yf_standard.specs.Productions.{plus}
use Rattle.yf_standard.specs.Rules.{ValueLine}
use Rattle.yf_standard.proofs.Reading.{Star}
use Rattle.yf_standard.proofs.Reading.Star.{none, more}
use Rattle.yf_standard.proofs.Basics.{SomeOf, CharOf, char_is}
use Rattle.yf_standard.proofs.Sets.{ns_char_is}
use Rattle.yf_standard.proofs.Flows.{SomeNode, SignOf, node_is}
use Rattle.yf_lines.proofs.FoldLemmas.{indent_width}

-- at a column, if n is one
abbrev pub AtColumn : (ℕ → ℕ → ℕ → Type 0) → ℤ → ℕ → ℕ → Type 0
AtColumn R n i j = (m : ℕ) → n ≡ pos m → R m i j

abbrev pub EntryAt : List ℕ → ℕ → Bool → ℤ → ℕ → ℕ → Type 0
EntryAt t room s n i j = (m : ℕ) → n ≡ pos m → SomeNode t room (BlockEntry s m) i j

abbrev pub EntriesAt : List ℕ → ℕ → Bool → ℤ → ℕ → ℕ → Type 0
EntriesAt t room s n i j = (m : ℕ) → n ≡ pos m → SomeNode t room (BlockEntries s m) i j

-- entries after the first: s-indent(n) and an entry
abbrev pub Further : List ℕ → ℕ → Bool → ℤ → ℕ → ℕ → Type 0
Further t room s n = Star (λ i j. (k : ℕ) × (Indent t n i k × EntryAt t room s n k j))

pub entries_from : (t : List ℕ) (room : ℕ) (s : Bool) (n : ℤ) (i k j m : ℕ) → n ≡ pos m → EntryAt t room s n i k → Further t room s n k j → SomeNode t room (BlockEntries s m) i j
entries_from t room s n i k j m e f none = let d = f m e in node_is (a_last_entry d.node) d.fits
entries_from t room s n i k j m e f (more {k = h} d r) =
    let g = f m e in
    let rest = entries_from t room s n d.0 h j m e d.1.1 r in
    go d.1.0 rest g where
      go : {l : ℕ} → Indent t n k l → SomeNode t room (BlockEntries s m) l j → SomeNode t room (BlockEntry s m) i k → SomeNode t room (BlockEntries s m) i j
      go (exactly p q sp) rest g =
          let same : p ≡ m = indent_width (sym q ∙ e) in
          let w : Spaces t k m = subst (λ z. Spaces t k z) same sp in
          let v : SomeNode t room (BlockEntries s m) (k + m) j = subst (λ z. SomeNode t room (BlockEntries s m) (k + z) j) same rest in
          let f = g.fits in let q = v.fits in node_is (an_entry_before g.node w v.node) (omega (arith, f, q))

-- [186] and [195]
pub compact_read : (t : List ℕ) (room : ℕ) (s : Bool) (n : ℤ) (i j : ℕ) → (k : ℕ) × (EntryAt t room s n i k × Further t room s n k j) → EntriesAt t room s n i j
compact_read t room s n i j d = λ m e. entries_from t room s n i d.0 j m e d.1.0 d.1.1

-- [183] and [187]: entries at one column, n + 1 or more, the first after its indentation
abbrev pub ColumnFrom : List ℕ → ℕ → Bool → ℤ → ℕ → ℕ → Type 0
ColumnFrom t room s low i j = (m : ℕ) × (Spaces t i m × ((low ≤ℤ pos m) × SomeNode t room (BlockEntries s m) (i + m) j))

pub column_read : (t : List ℕ) (room : ℕ) (s : Bool) (n : ℤ) (i j : ℕ)
    → (m : ℕ) × ((k : ℕ) × (((h : ℕ) × (Indent t (plus n (1 + m)) i h × EntryAt t room s (plus n (1 + m)) h k)) × Further t room s (plus n (1 + m)) k j))
    → ColumnFrom t room s (n +ℤ pos 1) i j
column_read t room s n i j d = go d.1.1.0.1.0 d.1.1.0.1.1 where
  c : ℤ
  c = plus n (1 + d.0)

  go : {h : ℕ} → Indent t (plus n (1 + d.0)) i h → EntryAt t room s (plus n (1 + d.0)) h d.1.0 → ColumnFrom t room s (n +ℤ pos 1) i j
  go (exactly p q sp) f =
      let low : (n +ℤ pos 1) ≤ℤ pos p = omega (arith, ints, q) in
      (p, (sp, (low, entries_from t room s (plus n (1 + d.0)) (i + p) d.1.0 j p q f d.1.1.1)))

-- [184]
pub dash_read : (t : List ℕ) (room : ℕ) (n : ℤ) (i j : ℕ)
    → (g : ℕ) × (SignOf t 45 i g × ((f : ℕ) × (((ns-char (code t g) ≡ false) × (g ≡ f)) × ((m : ℕ) → n ≡ pos m → SomeNode t room (BlockIndented m BlockIn) f j))))
    → EntryAt t room true n i j
dash_read t room n i j d = λ m e.
    let same : d.1.1.0 ≡ i + 1 = sym d.1.1.1.0.1 ∙ sym d.1.0.1 in
    let b : SomeNode t room (BlockIndented m BlockIn) (i + 1) j = subst (λ z. SomeNode t room (BlockIndented m BlockIn) z j) same (d.1.1.1.1 m e) in
    let free : is_ns_char (code t (i + 1)) ≡ false = ap (λ z. is_ns_char (code t z)) d.1.0.1 ∙ sym (ns_char_is (code t d.0)) ∙ d.1.1.1.0.0 in
    node_is (a_dash_entry d.1.0.0 free b.node) b.fits

-- with less room
abbrev pub Smaller : (ℕ → Type 0) → ℕ → Type 0
Smaller P e = (r : ℕ) × ((r < e) × P r)

-- [185]
pub indented_read : (t : List ℕ) (room : ℕ) (n : ℤ) (c : Ctx) (i j m : ℕ) → is_block c ≡ true → n ≡ pos m
    → ((l : ℕ) × ((k : ℕ) × (Indent t (pos l) i k × (Smaller (λ r. EntriesAt t r true (plus n (1 + l)) k j) room ⊎ Smaller (λ r. EntriesAt t r false (plus n (1 + l)) k j) room))))
    ⊎ ((is_block c ≡ true → SomeNode t room (BlockNode n c) i j) ⊎ ((k : ℕ) × ((i ≡ k) × SomeOf (LineEnd t) k j)))
    → SomeNode t room (BlockIndented m c) i j
indented_read t room n c i j m b e (inl d) = go d.1.1.0 d.1.1.1 where
  l : ℕ
  l = d.0

  column : plus n (1 + d.0) ≡ pos (m + 1 + d.0)
  column = omega (arith, ints, e)

  compact : (s : Bool) {k : ℕ} → Indent t (pos d.0) i k → Smaller (λ r. EntriesAt t r s (plus n (1 + d.0)) k j) room → SomeNode t room (BlockIndented m c) i j
  compact s (exactly p q sp) f =
      let same : p ≡ d.0 = sym (indent_width q) in
      let w : Spaces t i d.0 = subst (λ z. Spaces t i z) same sp in
      let v : SomeNode t f.0 (BlockEntries s (m + 1 + d.0)) (i + d.0) j = subst (λ z. SomeNode t f.0 (BlockEntries s (m + 1 + d.0)) (i + z) j) same (f.1.1 (m + 1 + d.0) column) in
      let a = v.fits in let y = f.1.0 in node_is (a_compact_collection b w v.node) (omega (arith, a, y))

  go : {k : ℕ} → Indent t (pos d.0) i k → Smaller (λ r. EntriesAt t r true (plus n (1 + d.0)) k j) room ⊎ Smaller (λ r. EntriesAt t r false (plus n (1 + d.0)) k j) room → SomeNode t room (BlockIndented m c) i j
  go s (inl f) = compact true s f
  go s (inr f) = compact false s f
indented_read t room n c i j m b e (inr (inl d)) =
    let f : SomeNode t room (BlockNode (pos m) c) i j = subst (λ z. SomeNode t room (BlockNode z c) i j) e (d b) in node_is (an_indented_node f.node) f.fits
indented_read t room n c i j m b e (inr (inr d)) = subst (λ z. SomeNode t room (BlockIndented m c) z j) (sym d.1.0) (node_is (nothing_indented b d.1.1.1) (omega arith))

-- [189] to [191]
abbrev pub Question : List ℕ → ℕ → ℤ → ℕ → ℕ → Type 0
Question t room n i j = (m : ℕ) → n ≡ pos m → (code t i ≡ 63) × ((is_white_or_end (code t (i + 1)) ≡ true) × SomeNode t room (BlockIndented m BlockOut) (i + 1) j)

abbrev pub Colon : List ℕ → ℕ → ℤ → ℕ → ℕ → Type 0
Colon t room n i j = (m : ℕ) → n ≡ pos m → ColonLine t m i × SomeNode t room (BlockIndented m BlockOut) (i + m + 1) j

pub question_read : (t : List ℕ) (room : ℕ) (n : ℤ) (i j : ℕ)
    → (g : ℕ) × (SignOf t 63 i g × ((f : ℕ) × (((is_white_or_end (code t g) ≡ true) × (g ≡ f)) × ((m : ℕ) → n ≡ pos m → SomeNode t room (BlockIndented m BlockOut) f j))))
    → Question t room n i j
question_read t room n i j d = λ m e.
    let same : d.1.1.0 ≡ i + 1 = sym d.1.1.1.0.1 ∙ sym d.1.0.1 in
    (d.1.0.0, (ap (λ z. is_white_or_end (code t z)) d.1.0.1 ∙ d.1.1.1.0.0, subst (λ z. SomeNode t room (BlockIndented m BlockOut) z j) same (d.1.1.1.1 m e)))

pub colon_read : (t : List ℕ) (room : ℕ) (n : ℤ) (i j : ℕ)
    → (h : ℕ) × (Indent t n i h × ((g : ℕ) × (SignOf t 58 h g × ((f : ℕ) × (((is_white_or_end (code t g) ≡ true) × (g ≡ f)) × ((m : ℕ) → n ≡ pos m → SomeNode t room (BlockIndented m BlockOut) f j))))))
    → Colon t room n i j
colon_read t room n i j d = λ m e. go m e d.1.0 d.1.1 where
  go : {h : ℕ} (m : ℕ) → n ≡ pos m → Indent t n i h
      → (g : ℕ) × (SignOf t 58 h g × ((f : ℕ) × (((is_white_or_end (code t g) ≡ true) × (g ≡ f)) × ((m : ℕ) → n ≡ pos m → SomeNode t room (BlockIndented m BlockOut) f j))))
      → ColonLine t m i × SomeNode t room (BlockIndented m BlockOut) (i + m + 1) j
  go m e (exactly p q sp) r =
      let same : p ≡ m = indent_width (sym q ∙ e) in
      let at : i + p ≡ i + m = ap (λ z. i + z) same in
      let next : r.0 ≡ i + m + 1 = sym r.1.0.1 ∙ ap (λ z. z + 1) at in
      let f : r.1.1.0 ≡ i + m + 1 = sym r.1.1.1.0.1 ∙ next in (
        record {
          indent = subst (λ z. Spaces t i z) same sp;
          colon = sym (ap (code t) at) ∙ r.1.0.0;
          follows = sym (ap (λ z. is_white_or_end (code t z)) next) ∙ r.1.1.1.0.0;
        },
        subst (λ z. SomeNode t room (BlockIndented m BlockOut) z j) f (r.1.1.1.1 m e),
      )

pub explicit_entry_read : (t : List ℕ) (room : ℕ) (n : ℤ) (i j : ℕ)
    → (k : ℕ) × (Question t room n i k × (Colon t room n k j ⊎ ((f : ℕ) × (((ValueLine t n k → ⊥) × (k ≡ f)) × (f ≡ j))))) → EntryAt t room false n i j
explicit_entry_read t room n i j d = λ m e. go m e (d.1.0 m e) d.1.1 where
  go : (m : ℕ) → n ≡ pos m → (code t i ≡ 63) × ((is_white_or_end (code t (i + 1)) ≡ true) × SomeNode t room (BlockIndented m BlockOut) (i + 1) d.0)
      → (Colon t room n d.0 j ⊎ ((f : ℕ) × (((ValueLine t n d.0 → ⊥) × (d.0 ≡ f)) × (f ≡ j)))) → SomeNode t room (BlockEntry false m) i j
  go m e q (inl c) = let v = c m e in let x = q.1.1 in let y = v.1 in let f = x.fits in let g = y.fits in node_is (an_explicit_entry_with q.0 q.1.0 x.node v.0 y.node) (omega (arith, f, g))
  go m e q (inr a) =
      let same : d.0 ≡ j = a.1.0.1 ∙ a.1.1 in
      subst (λ z. SomeNode t room (BlockEntry false m) i z) same
      (let x = q.1.1 in node_is (an_explicit_key_alone q.0 q.1.0 x.node (λ l. a.1.0.0 (record { m = m; column = e; indent = l.indent; colon = l.colon; follows = l.follows }))) x.fits)

-- [192]
pub implicit_entry_read : (t : List ℕ) (room : ℕ) (n : ℤ) (i j : ℕ)
    → (k : ℕ) × (((SomeNode t room (KeyOf true BlockKey) i k ⊎ SomeNode t room (KeyOf false BlockKey) i k) ⊎ (i ≡ k)) × ((m : ℕ) → n ≡ pos m → SomeNode t room (BlockValue m) k j))
    → EntryAt t room false n i j
implicit_entry_read t room n i j d = λ m e. go m d.1.0 (d.1.1 m e) where
  go : (m : ℕ) → ((SomeNode t room (KeyOf true BlockKey) i d.0 ⊎ SomeNode t room (KeyOf false BlockKey) i d.0) ⊎ (i ≡ d.0)) → SomeNode t room (BlockValue m) d.0 j → SomeNode t room (BlockEntry false m) i j
  go m (inl (inl k)) v = let f = k.fits in let g = v.fits in node_is (a_keyed_entry k.node v.node) (omega (arith, f, g))
  go m (inl (inr k)) v = let f = k.fits in let g = v.fits in node_is (a_keyed_entry k.node v.node) (omega (arith, f, g))
  go m (inr e) v = subst (λ z. SomeNode t room (BlockEntry false m) z j) (sym e) (node_is (an_unkeyed_entry v.node) v.fits)

-- [194]
pub value_read : (t : List ℕ) (room : ℕ) (n : ℤ) (i j m : ℕ) → n ≡ pos m
    → (g : ℕ) × (SignOf t 58 i g × ((is_block BlockOut ≡ true → SomeNode t room (BlockNode n BlockOut) g j) ⊎ ((k : ℕ) × ((g ≡ k) × SomeOf (LineEnd t) k j))))
    → SomeNode t room (BlockValue m) i j
value_read t room n i j m e d = go d.1.1 where
  go : (is_block BlockOut ≡ true → SomeNode t room (BlockNode n BlockOut) d.0 j) ⊎ ((k : ℕ) × ((d.0 ≡ k) × SomeOf (LineEnd t) k j)) → SomeNode t room (BlockValue m) i j
  go (inl f) =
      let b : SomeNode t room (BlockNode (pos m) BlockOut) d.0 j = subst (λ z. SomeNode t room (BlockNode z BlockOut) d.0 j) e (f refl) in
      let c : SomeNode t room (BlockNode (pos m) BlockOut) (i + 1) j = subst (λ z. SomeNode t room (BlockNode (pos m) BlockOut) z j) (sym d.1.0.1) b in
      node_is (a_block_value d.1.0.0 c.node) c.fits
  go (inr r) = node_is (an_empty_block_value d.1.0.0 (subst (λ z. LineEnd t z j r.1.1.0) (sym (d.1.0.1 ∙ r.1.0)) r.1.1.1)) (omega arith)

-- [197]
pub flow_in_block_read : (t : List ℕ) (room : ℕ) (n : ℤ) (c : Ctx) (i j : ℕ) → is_block c ≡ true
    → (k : ℕ) × (SomeOf (Separate t (n +ℤ pos 1) FlowOut) i k × ((l : ℕ) × (SomeNode t room (FlowNode (n +ℤ pos 1) FlowOut) k l × SomeOf (LineEnd t) l j))) → SomeNode t room (BlockNode n c) i j
flow_in_block_read t room n c i j b d = let x = d.1.1.1.0 in node_is (flow_in_block b d.1.0.1 x.node d.1.1.1.1.1) x.fits

-- [199]
pub block_scalar_read : (t : List ℕ) (room : ℕ) (n : ℤ) (c : Ctx) (i j : ℕ) → is_block c ≡ true
    → (f : ℕ) × (SomeOf (Separate t (n +ℤ pos 1) c) i f × ((k : ℕ) × (((f ≡ k) ⊎ ((g : ℕ) × (SomeOf (Properties t (n +ℤ pos 1) c) f g × SomeOf (Separate t (n +ℤ pos 1) c) g k)))
    × SomeOf (BlockScalar t n) k j))) → SomeNode t room (BlockNode n c) i j
block_scalar_read t room n c i j b d = go d.1.1.1.0 where
  go : ((d.0 ≡ d.1.1.0) ⊎ ((g : ℕ) × (SomeOf (Properties t (n +ℤ pos 1) c) d.0 g × SomeOf (Separate t (n +ℤ pos 1) c) g d.1.1.0))) → SomeNode t room (BlockNode n c) i j
  go (inl e) = node_is (a_block_scalar b (subst (λ z. Separate t (n +ℤ pos 1) c i z d.1.0.0) e d.1.0.1) d.1.1.1.1.1) (omega arith)
  go (inr p) = node_is (a_block_scalar_with b d.1.0.1 p.1.0.1 p.1.1.1 d.1.1.1.1.1) (omega arith)

-- [200] and [201]
pub seq_space_read : (t : List ℕ) (room : ℕ) (n : ℤ) (c : Ctx) (i j : ℕ) → ColumnFrom t room true (n +ℤ pos 1) i j → ColumnFrom t room true (least_column true n BlockIn) i j
seq_space_read t room n c i j d = d

pub seq_space_out_read : (t : List ℕ) (room : ℕ) (n : ℤ) (i j : ℕ) → ColumnFrom t room true ((n -ℤ pos 1) +ℤ pos 1) i j → ColumnFrom t room true n i j
seq_space_out_read t room n i j d = let low : n ≤ℤ pos d.0 = omega (arith, ints, d.1.1.0) in (d.0, (d.1.0, (low, d.1.1.1)))

pub collection_read : (t : List ℕ) (room : ℕ) (n : ℤ) (c : Ctx) (i j : ℕ) → is_block c ≡ true
    → (g : ℕ) × (((i ≡ g) ⊎ ((f : ℕ) × (SomeOf (Separate t (n +ℤ pos 1) c) i f × SomeOf (Properties t (n +ℤ pos 1) c) f g)))
    × ((k : ℕ) × (SomeOf (LineEnd t) g k × (Smaller (λ r. ColumnFrom t r true (least_column true n c) k j) room ⊎ Smaller (λ r. ColumnFrom t r false (n +ℤ pos 1) k j) room)))) → SomeNode t room (BlockNode n c) i j
collection_read t room n c i j b d = kinds d.1.1.1.1 where
  g : ℕ
  g = d.0

  k : ℕ
  k = d.1.1.0

  built : (s : Bool) → Smaller (λ r. ColumnFrom t r s (least_column s n c) d.1.1.0 j) room → ((i ≡ d.0) ⊎ ((f : ℕ) × (SomeOf (Separate t (n +ℤ pos 1) c) i f × SomeOf (Properties t (n +ℤ pos 1) c) f d.0)))
      → SomeNode t room (BlockNode n c) i j
  built s y (inl e) = let x = y.1.1 in let v = x.1.1.1 in let f = v.fits in let g = y.1.0 in node_is (a_block_collection b (subst (λ z. LineEnd t z d.1.1.0 d.1.1.1.0.0) (sym e) d.1.1.1.0.1) x.1.0 x.1.1.0 v.node) (omega (arith, f, g))
  built s y (inr p) = let x = y.1.1 in let v = x.1.1.1 in let f = v.fits in let g = y.1.0 in node_is (a_block_collection_with b p.1.0.1 p.1.1.1 d.1.1.1.0.1 x.1.0 x.1.1.0 v.node) (omega (arith, f, g))

  kinds : Smaller (λ r. ColumnFrom t r true (least_column true n c) d.1.1.0 j) room ⊎ Smaller (λ r. ColumnFrom t r false (n +ℤ pos 1) d.1.1.0 j) room → SomeNode t room (BlockNode n c) i j
  kinds (inl x) = built true x d.1.0
  kinds (inr x) = built false x d.1.0

pub dash_sign : {R : ℕ → Type 0} (t : List ℕ) (i j : ℕ) → (g : ℕ) × (CharOf t c-sequence-entry i g × R g) → (g : ℕ) × (SignOf t 45 i g × R g)
unfolding c-sequence-entry
dash_sign t i j d = (d.0, (char_is t i d.0 45 (omega arith) d.1.0, d.1.1))

pub question_sign : {R : ℕ → Type 0} (t : List ℕ) (i j : ℕ) → (g : ℕ) × (CharOf t c-mapping-key i g × R g) → (g : ℕ) × (SignOf t 63 i g × R g)
unfolding c-mapping-key
question_sign t i j d = (d.0, (char_is t i d.0 63 (omega arith) d.1.0, d.1.1))

pub either_key : {A B : Type 0} → (is_block BlockKey ≡ false → A) ⊎ (is_block BlockKey ≡ false → B) → A ⊎ B
either_key (inl a) = inl (a refl)
either_key (inr b) = inr (b refl)

pub either_scalar : {A : Type 0} → A ⊎ A → A
either_scalar (inl a) = a
either_scalar (inr a) = a

pub either_column : {t : List ℕ} {room : ℕ} {n low : ℤ} {i j : ℕ} (c : Ctx) → is_block c ≡ true
    → (is_block c ≡ true → Smaller (λ r. ColumnFrom t r true low i j) room) ⊎ Smaller (λ r. ColumnFrom t r false n i j) room
    → Smaller (λ r. ColumnFrom t r true low i j) room ⊎ Smaller (λ r. ColumnFrom t r false n i j) room
either_column c b (inl a) = inl (a b)
either_column c b (inr a) = inr a
