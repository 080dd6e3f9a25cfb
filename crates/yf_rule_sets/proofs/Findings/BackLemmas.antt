-- Laws of going back from a cursor: counting the characters from an offset to the cursor.
use Rattle.std.proofs.Common.{◌≡◌, ℕ, ◌+◌, ◌-◌, ◌<◌, ◌≤◌, ◌⊎◌, true, false, List, [], ◌∷◌, zero, suc, length, refl, sym, subst, ap, inl, inr, ⊎_elim, arith, length-append}
use Rattle.std.specs.Prelude.{slice_get, Some}
use Rattle.std.specs.Str.{IsCharBoundary, IsUtf8}
use Rattle.std.proofs.lemmas.Bool.{cases_Bool, cases_lt, lt-ltb}
use Rattle.std.proofs.lemmas.Bool.Decides.{nat_tests}
use Rattle.yf_chars.specs.Chain.{Many}
use Rattle.yf_chars.specs.Chain.Chain.{done, step}
use Rattle.yf_chars.specs.Chain.One.{one}
use Rattle.yf_chars.specs.Text.{begins, code, next, no_char, CharAt}
use Rattle.yf_chars.proofs.ChainLemmas.{chain_append}
use Rattle.yf_chars.proofs.TextLemmas.{begins_from_boundary, boundary_from_begins, code-nowhere, next_later, reads_there}
use Rattle.yf_lines.specs.declared.line.Line.{Line}
use Rattle.yf_lines.specs.Lines.{AreLines, LineHolds, PlaceOf, is_char}
use Rattle.yf_lines.specs.Lines.ColumnOf.{among_marks}
use Rattle.yf_lines.specs.Lines.PlaceOf.{in_line}
use Rattle.yf_lines.proofs.PlaceLemmas.{not_inside}
use Rattle.yf_rule_sets.specs.RuleSets.Places.{HasColumn}

-- each character takes at least one byte
run_long : {t : List ℕ} {i j : ℕ} {x : List ℕ} → Many t is_char i j x → i + length x ≤ j
run_long done = omega arith
run_long {t} (step (one {i = i} p) rest) = let n = next_later t i in let m = run_long rest in omega (arith, n, m)

-- one run of characters is between two offsets
same_run : {t : List ℕ} {i j k : ℕ} {x y : List ℕ} → Many t is_char i j x → Many t is_char i k y → j ≡ k → x ≡ y
same_run done done e = refl
same_run {t} done (step (one {i = i} p) rest) e = absurd (let n = next_later t i in let m = run_long rest in omega (arith, n, m, e))
same_run {t} (step (one {i = i} p) rest) done e = absurd (let n = next_later t i in let m = run_long rest in omega (arith, n, m, e))
same_run {t} (step (one {i = i} p) rest) (step (one q) more) e = ap (λ z. code t i ∷ z) (same_run rest more e)

pub is_real : (c : ℕ) → is_char c ≡ true → c < no_char
is_real c e = grind (arith, nat_tests)

-- a run that ends at a boundary begins at one
run_start : {t : List ℕ} {i j : ℕ} {x : List ℕ} → IsCharBoundary t j → Many t is_char i j x → IsCharBoundary t i
run_start b done = b
run_start {t} b (step (one {i = i} p) rest) =
    ⊎_elim (λ (e : begins t i ≡ true). boundary_from_begins t i e)
    (λ (e : begins t i ≡ false). absurd (let n = code-nowhere t i e in let m = is_real (code t i) p in omega (arith, n, m)))
    (cases_Bool (begins t i))

-- a run of characters is between two boundaries
characters_between : (t : List ℕ) (i j : ℕ) → IsUtf8 t → IsCharBoundary t i → IsCharBoundary t j → i ≤ j → (x : List ℕ) × Many t is_char i j x
characters_between t i j u a b w = go j i (omega arith) a w where
  go : (n i : ℕ) → j ≤ i + n → IsCharBoundary t i → i ≤ j → (x : List ℕ) × Many t is_char i j x
  go zero i l a w = ([], subst (λ k. Many t is_char i k []) (let e : i ≡ j = omega arith in e) done)
  go (suc n) i l a w =
      ⊎_elim (λ (h : i < j).
      let r : CharAt t i (code t i) (next t i) = reads_there t i u (begins_from_boundary t i a (omega (arith, b.0))) in
      let late = r.later in
      let within : next t i ≤ j = ⊎_elim (λ (o : j < next t i). absurd (not_inside t i (code t i) (next t i) j u a r b h o)) (λ (o : next t i ≤ j). o) (cases_lt j (next t i)) in
      let more = go n (next t i) (omega (arith, l, late)) r.boundary within in
      (code t i ∷ more.0, step (one (lt-ltb (code t i) no_char r.below)) more.1))
      (λ (h : j ≤ i). ([], subst (λ k. Many t is_char i k []) (let e : i ≡ j = omega arith in e) done))
      (cases_lt i j)

-- an offset this many characters before the cursor is one of the marks of the line, or is after them
marks_or_after : (t : List ℕ) (start at column offset : ℕ) (y : List ℕ) → IsUtf8 t → (r : HasColumn t start at column) → IsCharBoundary t offset → Many t is_char offset at y
    → ((offset < r.follows) × (column ≤ length y)) ⊎ ((z : List ℕ) × Many t is_char r.follows offset z × (column ≡ length z + length y + 1))
marks_or_after t start at column offset y u r b m =
    let first = run_start r.boundary r.run in
    let c = r.count in
    ⊎_elim (λ (h : offset < r.follows).
    let z = characters_between t offset r.follows u b first (omega arith) in
    let same = ap length (same_run m (chain_append z.1 r.run) refl) in
    let some = longer z.1 h in
    inl (h, omega (arith, c, same, some, length-append z.0 r.characters)))
    (λ (h : r.follows ≤ offset).
    let z = characters_between t r.follows offset u first b h in
    let same = ap length (same_run r.run (chain_append z.1 m) refl) in
    inr (z.0, z.1, omega (arith, c, same, length-append z.0 y)))
    (cases_lt offset r.follows)
  where
    longer : {i j : ℕ} {x : List ℕ} → Many t is_char i j x → i < j → 0 < length x
    longer done h = absurd (omega (arith, h))
    longer (step (one p) rest) h = omega arith

pub reached_before : (t : List ℕ) (start at column offset d : ℕ) (y : List ℕ) → IsUtf8 t → HasColumn t start at column → IsCharBoundary t offset → Many t is_char offset at y
    → length y < column → d ≡ column - length y → HasColumn t start offset d
reached_before t start at column offset d y u r b m h e =
    ⊎_elim (λ (w : (offset < r.follows) × (column ≤ length y)). absurd (omega (arith, w.1, h)))
    (λ (w : (z : List ℕ) × Many t is_char r.follows offset z × (column ≡ length z + length y + 1)).
    let count : d ≡ length w.0 + 1 = omega (arith, w.2, e) in
    let long = run_long w.1 in
    record { follows = r.follows; marks = r.marks; characters = w.0; run = w.1; count = count; boundary = b; room = omega (arith, count, long) })
    (marks_or_after t start at column offset y u r b m)

pub place_at_marks : (t : List ℕ) (ls : List Line) (l : Line) (k number at column offset : ℕ) (y : List ℕ) → IsUtf8 t → AreLines t ls → slice_get ls k ≡ Some l
    → number ≡ k + 1 → LineHolds l offset → HasColumn t l.start at column → IsCharBoundary t offset → Many t is_char offset at y → column ≤ length y → PlaceOf t offset number 1
place_at_marks t ls l k number at column offset y u a e n h r b m w =
    ⊎_elim (λ (q : (offset < r.follows) × (column ≤ length y)). subst (λ j. PlaceOf t offset j 1) (sym n) (in_line k a e h (among_marks r.marks q.0)))
    (λ (q : (z : List ℕ) × Many t is_char r.follows offset z × (column ≡ length z + length y + 1)). absurd (omega (arith, q.2, w)))
    (marks_or_after t l.start at column offset y u r b m)
