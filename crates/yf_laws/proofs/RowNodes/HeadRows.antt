-- The rows before the node of a document, as they are found: those before its `---`, and its own.
use Rattle.std.proofs.Common.{◌≡◌, ℕ, suc, ◌+◌, Bool, true, false, List, [], ◌∷◌, ◌++◌, length, refl, subst, arith}
use Rattle.yf_events.specs.declared.directive.Directive.{Directive}
use Rattle.yf_laws.proofs.RowNodes.PlacedRows.{PlacedRow}

-- that many rows without a leaf
pub data BareRows : ℕ → List PlacedRow → Type 0 where
  no_head_row : BareRows 0 []
  one_head_row : {n : ℕ} {h : PlacedRow} {hs : List PlacedRow} → h.leaves ≡ [] → BareRows n hs → BareRows (suc n) (h ∷ hs)

pub bare_join : {m n : ℕ} {xs ys : List PlacedRow} (k : ℕ) → k ≡ m + n → BareRows m xs → BareRows n ys → BareRows k (xs ++ ys)
bare_join {ys = ys} k e no_head_row b = subst (λ z. BareRows z ys) (omega (arith, e)) b
bare_join {n = n} {ys = ys} k e (one_head_row {n = m} {h = h} {hs = hs} f a) b =
    let next : suc (m + n) ≡ k = omega (arith, e) in
    subst (λ z. BareRows z (h ∷ (hs ++ ys))) next (one_head_row f (bare_join (m + n) refl a b))

-- and the row of a `---` that begins at an offset
pub data HeadRows (start : ℕ) : ℕ → List PlacedRow → Type 0 where
  mark_head : {h : PlacedRow} → h.leaves ≡ [] → h.from ≡ start → HeadRows start 0 (h ∷ [])
  more_heads : {n : ℕ} {h : PlacedRow} {hs : List PlacedRow} → h.leaves ≡ [] → HeadRows start n hs → HeadRows start (suc n) (h ∷ hs)

pub heads_join : {start n : ℕ} {xs : List PlacedRow} (h : PlacedRow) → BareRows n xs → h.leaves ≡ [] → h.from ≡ start → HeadRows start n (xs ++ (h ∷ []))
heads_join h no_head_row e f = mark_head e f
heads_join h (one_head_row g a) e f = more_heads g (heads_join h a e f)

-- the number of rows before it: the directives, and before those a `...` in documents that are not the first
abbrev pub heads_before : Bool → List Directive → ℕ
heads_before true ds = length ds
heads_before false [] = 0
heads_before false (d ∷ ds) = suc (length (d ∷ ds))

pub later_heads : (ds : List Directive) → (ds ≡ [] → ⊥) → heads_before false ds ≡ suc (heads_before true ds)
later_heads [] n = absurd (n refl)
later_heads (d ∷ ds) n = refl
