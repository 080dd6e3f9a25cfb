-- Trees with the entries of block collections at the columns of the layout, as the trees of a layout have.
use Rattle.std.proofs.Common.{◌≡◌, ℕ, ◌+◌, ◌<◌, ◌≤◌, Bool, true, false, true≢false, List, [], ◌∷◌, Some, refl, sym, ◌∙◌, subst}
use Rattle.std.specs.Prelude.{◌&&◌, not, if◌then◌else◌}
use Rattle.std.proofs.lemmas.Option.{same_Some}
use Rattle.yf_chars.specs.Class.{is_white_or_end}
use Rattle.yf_chars.specs.Text.{code}
use Rattle.yf_lines.specs.Basic.{LineStart}
use Rattle.yf_props.specs.Props.{PropsValue}
use Rattle.yf_events.specs.declared.event.Entry.{Entry}
use Rattle.yf_events.specs.declared.event.ScalarStyle.{ScalarStyle}
use Rattle.yf_events.specs.Tree.{NodeOffsets, Node, scalar, alias, sequence, mapping, Items, no_items, item, Pairs, no_pairs, pair, DocumentTree, is_block_collection, is_sequence, standing}
use Rattle.yf_laws.specs.Layouts.ReadableTrees.{is_block_style}
use Rattle.yf_forms.specs.NormalForms.Normal.{is_implicit, value_entries}
use Rattle.yf_forms.specs.declared.style.Style.{Style}
use Rattle.yf_print.specs.Layouts.SourceColumns.{column_by, is_white_or_sign}

-- the offset is that many columns right of the start of a line, after signs and spaces of one byte
pub record ColumnAt (t : List ℕ) (m i : ℕ) : Type 0 where
  pub line : ℕ
  pub start : LineStart t line
  pub is : i ≡ line + m
  pub least : (k : ℕ) → k < m → 32 ≤ code t (line + k)
  pub most : (k : ℕ) → k < m → code t (line + k) < 127
  -- and after nothing else
  pub source : column_by is_white_or_sign t i ≡ Some m

-- the entry of the node begins at the column, counted from 0
pub record EntryOn (t : List ℕ) (m : ℕ) (x : Node) : Type 0 where
  pub entry : Entry
  pub is : (standing x).entry ≡ Some entry
  pub column : ColumnAt t m entry.start

-- the entry of the key doesn't begin with a `?` that marks a key
pub record Unquestioned (t : List ℕ) (k : Node) : Type 0 where
  pub entry : Entry
  pub is : (standing k).entry ≡ Some entry
  pub none : code t entry.start ≡ 63 → is_white_or_end (code t (entry.start + 1)) ≡ true → ⊥

-- it begins with such a `?`
pub record Questioned (t : List ℕ) (k : Node) : Type 0 where
  pub entry : Entry
  pub is : (standing k).entry ≡ Some entry
  pub sign : code t entry.start ≡ 63
  pub white : is_white_or_end (code t (entry.start + 1)) ≡ true

-- the column of the entries of a key's value
abbrev pub entries_after : Style → ℕ → Node → Node → ℕ
entries_after s m k v = if is_implicit s m k then value_entries s m v else m + s.indent

-- nodes on one line: neither block collections nor block scalars
abbrev mutual
  pub Blockless : Node → Type 0
  Blockless (scalar at props style text lines) = is_block_style style ≡ false
  Blockless (alias at name) = Unit {0}
  Blockless (sequence at flow props xs) = (flow ≡ true) × BlocklessItems xs
  Blockless (mapping at flow props ps) = (flow ≡ true) × BlocklessPairs ps

  pub BlocklessItems : Items → Type 0
  BlocklessItems no_items = Unit {0}
  BlocklessItems (item x xs) = Blockless x × BlocklessItems xs

  pub BlocklessPairs : Pairs → Type 0
  BlocklessPairs no_pairs = Unit {0}
  BlocklessPairs (pair k v ps) = Blockless k × (Blockless v × BlocklessPairs ps)

-- A node with its entries at one column, or its content at another; Content is the condition on a block scalar.
mutual
  pub data SetNode (t : List ℕ) (s : Style) (Content : ℕ → Node → Type 0) : ℕ → ℕ → Node → Type 0 where
    set_line : {m l : ℕ} {x : Node} → Blockless x → SetNode t s Content m l x
    set_scalar : {m l : ℕ} {at : NodeOffsets} {props : PropsValue} {style : ScalarStyle} {text : List ℕ} {lines : List (List ℕ)} → is_block_style style ≡ true
        → Content l (scalar at props style text lines) → SetNode t s Content m l (scalar at props style text lines)
    set_sequence : {m l : ℕ} {at : NodeOffsets} {props : PropsValue} {x : Node} {xs : Items} → EntryOn t m x → SetItems t s Content m (item x xs)
        → SetNode t s Content m l (sequence at false props (item x xs))
    set_mapping : {m l : ℕ} {at : NodeOffsets} {props : PropsValue} {k v : Node} {ps : Pairs} → EntryOn t m k → SetPairs t s Content m (pair k v ps)
        → SetNode t s Content m l (mapping at false props (pair k v ps))

  pub data SetItems (t : List ℕ) (s : Style) (Content : ℕ → Node → Type 0) : ℕ → Items → Type 0 where
    no_set_items : {m : ℕ} → SetItems t s Content m no_items
    set_item : {m : ℕ} {x : Node} {xs : Items} → EntryOn t m x → SetNode t s Content (m + s.indent) (m + s.indent) x → SetItems t s Content m xs → SetItems t s Content m (item x xs)

  pub data SetPairs (t : List ℕ) (s : Style) (Content : ℕ → Node → Type 0) : ℕ → Pairs → Type 0 where
    no_set_pairs : {m : ℕ} → SetPairs t s Content m no_pairs
    set_pair : {m : ℕ} {k v : Node} {ps : Pairs} → EntryOn t m k → (is_implicit s m k ≡ true → Unquestioned t k) → (is_implicit s m k ≡ false → Questioned t k)
        → SetNode t s Content (m + s.indent) (m + s.indent) k → SetNode t s Content (entries_after s m k v) (m + s.indent) v → SetPairs t s Content m ps
        → SetPairs t s Content m (pair k v ps)

-- documents' roots
pub data SetDocuments (t : List ℕ) (s : Style) (Content : ℕ → Node → Type 0) : List DocumentTree → Type 0 where
  no_set_documents : SetDocuments t s Content []
  set_document : {d : DocumentTree} {ds : List DocumentTree} → SetNode t s Content 0 s.indent d.root → SetDocuments t s Content ds → SetDocuments t s Content (d ∷ ds)

-- The condition on a value: a sequence is at the column of its key without `?` if the style has it so, and otherwise
-- further in.

pub data SetValue (t : List ℕ) (s : Style) (Content : ℕ → Node → Type 0) (m : ℕ) (k v : Node) : Type 0 where
  beside : s.seq_indent ≡ false → is_block_collection v ≡ true → is_sequence v ≡ true → Unquestioned t k → SetNode t s Content m (m + s.indent) v → SetValue t s Content m k v
  inside : (s.seq_indent ≡ false → is_block_collection v ≡ true → is_sequence v ≡ true → Unquestioned t k → ⊥) → SetNode t s Content (m + s.indent) (m + s.indent) v
      → SetValue t s Content m k v

questioned_not : {t : List ℕ} {k : Node} → Questioned t k → Unquestioned t k → ⊥
questioned_not {t} a b =
    let one : a.entry ≡ b.entry = same_Some _ _ (sym a.is ∙ b.is) in
    b.none (subst (λ (e : Entry). code t e.start ≡ 63) one a.sign) (subst (λ (e : Entry). is_white_or_end (code t (e.start + 1)) ≡ true) one a.white)

-- a node that isn't a block collection has no entries at a column
set_moved : {t : List ℕ} {s : Style} {Content : ℕ → Node → Type 0} {m l : ℕ} {x : Node} (n : ℕ) → is_block_collection x ≡ false → SetNode t s Content m l x → SetNode t s Content n l x
set_moved n e (set_line b) = set_line b
set_moved n e (set_scalar f c) = set_scalar f c
set_moved n e (set_sequence o a) = absurd (true≢false e)
set_moved n e (set_mapping o a) = absurd (true≢false e)

pub value_set : {t : List ℕ} {s : Style} {Content : ℕ → Node → Type 0} {m : ℕ} {k v : Node} → (is_implicit s m k ≡ true → Unquestioned t k) → (is_implicit s m k ≡ false → Questioned t k)
    → SetNode t s Content (entries_after s m k v) (m + s.indent) v → SetValue t s Content m k v
value_set {t} {s} {Content} {m} {k} {v} free marked a = by_key (is_implicit s m k) refl where
  Here : ℕ → Type 0
  Here n = SetNode t s Content n (m + s.indent) v

  by_block : (b : Bool) → is_block_collection v ≡ b → is_sequence v ≡ true → s.seq_indent ≡ false → Unquestioned t k → Here m → SetValue t s Content m k v
  by_block true e f g h c = beside g e f h c
  by_block false e f g h c = inside (λ x y z w. true≢false (sym y ∙ e)) (set_moved (m + s.indent) e c)

  by_sequence : (p q : Bool) → is_sequence v ≡ p → s.seq_indent ≡ q → Unquestioned t k → Here (if p && not q then m else m + s.indent) → SetValue t s Content m k v
  by_sequence true false e f h c = by_block (is_block_collection v) refl e f h c
  by_sequence true true e f h c = inside (λ x y z w. true≢false (sym f ∙ x)) c
  by_sequence false q e f h c = inside (λ x y z w. true≢false (sym z ∙ e)) c

  by_key : (b : Bool) → is_implicit s m k ≡ b → SetValue t s Content m k v
  by_key true e = by_sequence (is_sequence v) s.seq_indent refl refl (free e) (subst (λ b. Here (if b then value_entries s m v else m + s.indent)) e a)
  by_key false e = inside (λ x y z w. questioned_not (marked e) w) (subst (λ b. Here (if b then value_entries s m v else m + s.indent)) e a)

-- Entries, the first of them at the column.

pub data SetFirst (t : List ℕ) (s : Style) (Content : ℕ → Node → Type 0) (m : ℕ) : Items → Type 0 where
  set_first : {x : Node} {xs : Items} → EntryOn t m x → SetItems t s Content m (item x xs) → SetFirst t s Content m (item x xs)

pub data SetFirstPair (t : List ℕ) (s : Style) (Content : ℕ → Node → Type 0) (m : ℕ) : Pairs → Type 0 where
  set_first_pair : {k v : Node} {ps : Pairs} → EntryOn t m k → SetPairs t s Content m (pair k v ps) → SetFirstPair t s Content m (pair k v ps)
