-- The offset of the position of an offset is that offset.
use Rattle.std.proofs.Common.{◌≡◌, ℕ, zero, suc, ◌+◌, ◌-◌, ◌<◌, ◌≤◌, ◌==◌, Bool, true, false, not, ◌||◌, ◌&&◌, ⊎_elim, List, [], ◌∷◌, length, drop, get_or, refl, sym, ap, ◌∙◌, subst, arith, ltb, leb, min}
use Rattle.std.proofs.lemmas.Bool.{both_ways, cases_Bool, cases_lt, and_left, and_right, and_cases, or_parts, or_cases, eqb-true, ne_eqb, lt-ltb, le-ltb, lt-leb, leb-true, ltb-true, ltb-false, leb-false, and_parts}
use Rattle.std.proofs.lemmas.List.{get_or-drop, get_or_past, length-drop}
use Rattle.std.specs.Str.{IsCharBoundary}
use Rattle.yf_positions.specs.declared.encoding.Encoding.{Encoding}
use Rattle.yf_positions.specs.declared.position.LspPosition.{LspPosition}
use Rattle.yf_positions.specs.Units.{byte_units, is_break, continues}
use Rattle.yf_positions.specs.Lines.{ends_line, lines_before, line_start, inside_break}
use Rattle.yf_positions.specs.Offsets.{bytes_within, units_before, character_start, position_at, position_of, offset_of}
use Rattle.yf_positions.proofs.LineLemmas.{start_below, start_within}
use Rattle.yf_positions.proofs.ColumnLemmas.{some_units, no_units, start_here, within_bound}

-- without units left, no byte is taken at the start of a character
none_within : (e : Encoding) (t : List ℕ) → continues (get_or t 0 0) ≡ false → bytes_within e t 0 ≡ 0
none_within e [] h = refl
none_within e (c ∷ t) h =
    let some : 0 < byte_units e c = some_units e c h in
    ⊎_elim (λ (f : is_break c ≡ true). rw f refl)
    (λ (f : is_break c ≡ false). rw (f, lt-ltb 0 (byte_units e c) some) refl)
    (cases_Bool (is_break c))

one_more_within : (e : Encoding) (c : ℕ) (t : List ℕ) (k : ℕ) → is_break c ≡ false
    → bytes_within e (c ∷ t) (byte_units e c + k) ≡ suc (bytes_within e t k)
one_more_within e c t k f =
    let d : byte_units e c + k - byte_units e c ≡ k = omega arith in
    rw (f, le-ltb (byte_units e c + k) (byte_units e c) (omega arith), d) refl

inside_tail : (c : ℕ) (t : List ℕ) (i : ℕ) → inside_break (c ∷ t) (suc i) ≡ false → inside_break t i ≡ false
inside_tail c t zero h = refl
inside_tail c t (suc i) h = h

feed_follows : (c d : ℕ) (t : List ℕ) (i : ℕ) → (c == 13) ≡ true → (d == 10) ≡ true → lines_before (d ∷ t) i ≡ 0
    → inside_break (c ∷ d ∷ t) (suc i) ≡ false → ⊥
feed_follows c d t zero f g l a = both_ways (inside_break (c ∷ d ∷ t) 1) a (rw (f, g) refl)
feed_follows c d t (suc i) f g l a = let no : suc (lines_before t i) ≡ 0 = rw g at l in omega arith

-- a byte that ends no line, with no line end after it up to an offset that is not inside of a break
no_break : (c : ℕ) (t : List ℕ) (i : ℕ) → ends_line c t ≡ false → lines_before t i ≡ 0
    → inside_break (c ∷ t) (suc i) ≡ false → is_break c ≡ false
no_break c [] i e l a =
    ⊎_elim (λ (f : (c == 13) ≡ true). absurd (let no : ends_line c [] ≡ true =
    rw (f, ne_eqb c 10 (λ g. let h : c ≡ 13 = eqb-true c 13 f in omega arith)) refl in both_ways (ends_line c []) e no))
    (λ (f : (c == 13) ≡ false). rw ((or_parts (c == 10) (c == 13 && true) e).0, f) refl)
    (cases_Bool (c == 13))
no_break c (d ∷ t) i e l a =
    let first : (c == 10) ≡ false = (or_parts (c == 10) (c == 13 && not (d == 10)) e).0 in
    ⊎_elim (λ (f : (c == 13) ≡ true).
    ⊎_elim (λ (g : (d == 10) ≡ true). absurd (feed_follows c d t i f g l a))
    (λ (g : (d == 10) ≡ false). absurd (let no : ends_line c (d ∷ t) ≡ true = rw (first, f, g) refl in
    both_ways (ends_line c (d ∷ t)) e no))
    (cases_Bool (d == 10)))
    (λ (f : (c == 13) ≡ false). rw (first, f) refl)
    (cases_Bool (c == 13))

-- in the first line
flat : (e : Encoding) (t : List ℕ) (i : ℕ) → i ≤ length t → lines_before t i ≡ 0 → continues (get_or t i 0) ≡ false
    → inside_break t i ≡ false → bytes_within e t (units_before e t i) ≡ i
flat e [] i l n h a = omega arith
flat e (c ∷ t) zero l n h a = none_within e (c ∷ t) h
flat e (c ∷ t) (suc i) l n h a =
    ⊎_elim (λ (f : ends_line c t ≡ true). absurd (let no : suc (lines_before t i) ≡ 0 = rw f at n in omega arith))
    (λ (f : ends_line c t ≡ false).
    let n2 : lines_before t i ≡ 0 = rw f at n in
    let b : is_break c ≡ false = no_break c t i f n2 a in
    let rest : bytes_within e t (units_before e t i) ≡ i = flat e t i (omega arith) n2 h (inside_tail c t i a) in
    let here : units_before e (c ∷ t) (suc i) ≡ byte_units e c + units_before e t i = rw b refl in
    ap (bytes_within e (c ∷ t)) here ∙ one_more_within e c t (units_before e t i) b ∙ ap suc rest)
    (cases_Bool (ends_line c t))

-- from the line's start, at any offset
abbrev pub Inverse : Encoding → List ℕ → ℕ → ℕ → Type 0
Inverse e t i s = bytes_within e (drop s t) (units_before e (drop s t) (i - s)) ≡ i - s

moved : (e : Encoding) (c : ℕ) (t : List ℕ) (i s : ℕ) → Inverse e t i s → Inverse e (c ∷ t) (suc i) (suc s)
moved e c t i s h = let d : suc i - suc s ≡ i - s = omega arith in rw d h

from_start : (e : Encoding) (t : List ℕ) (i : ℕ) → bytes_within e t (units_before e t i) ≡ i → Inverse e t i 0
from_start e t i h = let d : i - 0 ≡ i = omega arith in rw d h

line_shift : (c : ℕ) (t : List ℕ) (n : ℕ) → ends_line c t ≡ false → 0 < n → line_start (c ∷ t) n ≡ suc (line_start t n)
line_shift c t zero f p = absurd (omega arith)
line_shift c t (suc n) f p = rw f refl

pub inverse : (e : Encoding) (t : List ℕ) (i : ℕ) → i ≤ length t → continues (get_or t i 0) ≡ false
    → inside_break t i ≡ false → Inverse e t i (line_start t (lines_before t i))
inverse e [] i l h a = from_start e [] i (flat e [] i l refl h a)
inverse e (c ∷ t) zero l h a = from_start e (c ∷ t) 0 (none_within e (c ∷ t) h)
inverse e (c ∷ t) (suc i) l h a =
    let rest : Inverse e t i (line_start t (lines_before t i)) = inverse e t i (omega arith) h (inside_tail c t i a) in
    ⊎_elim (λ (f : ends_line c t ≡ true).
    let s : line_start (c ∷ t) (lines_before (c ∷ t) (suc i)) ≡ suc (line_start t (lines_before t i)) =
    rw (f, f) refl in
    subst (λ z. Inverse e (c ∷ t) (suc i) z) (sym s) (moved e c t i (line_start t (lines_before t i)) rest))
    (λ (f : ends_line c t ≡ false).
    let n : lines_before (c ∷ t) (suc i) ≡ lines_before t i = rw f refl in
    ⊎_elim (λ (p : 0 < lines_before t i).
    let s : line_start (c ∷ t) (lines_before (c ∷ t) (suc i)) ≡ suc (line_start t (lines_before t i)) =
    ap (line_start (c ∷ t)) n ∙ line_shift c t (lines_before t i) f p in
    subst (λ z. Inverse e (c ∷ t) (suc i) z) (sym s) (moved e c t i (line_start t (lines_before t i)) rest))
    (λ (p : lines_before t i ≤ 0).
    let z : lines_before (c ∷ t) (suc i) ≡ 0 = n ∙ (omega arith) in
    let s : line_start (c ∷ t) (lines_before (c ∷ t) (suc i)) ≡ 0 = ap (line_start (c ∷ t)) z in
    subst (λ w. Inverse e (c ∷ t) (suc i) w) (sym s) (from_start e (c ∷ t) (suc i) (flat e (c ∷ t) (suc i) l z h a)))
    (cases_lt 0 (lines_before t i)))
    (cases_Bool (ends_line c t))

pub offset-position : (e : Encoding) (t : List ℕ) (i : ℕ) → i ≤ length t → continues (get_or t i 0) ≡ false
    → inside_break t i ≡ false → offset_of e t (position_at e t i) ≡ i
offset-position e t i l h a =
    let n = lines_before t i in
    let below : line_start t (lines_before t i) ≤ i = start_below t (lines_before t i) i (omega arith) in
    ap (λ z. line_start t (lines_before t i) + z) (inverse e t i l h a) ∙ (omega arith)

-- at a boundary, no byte continues a character
pub boundary_starts : (t : List ℕ) (i : ℕ) → IsCharBoundary t i → continues (get_or t i 0) ≡ false
boundary_starts t i b =
    ⊎_elim (λ (l : i < length t).
    ⊎_elim (λ (s : get_or t i 0 < 128). and_left (leb 128 (get_or t i 0)) (ltb (get_or t i 0) 192)
    (lt-leb 128 (get_or t i 0) s))
    (λ (s : 128 ≤ get_or t i 0). and_right (leb 128 (get_or t i 0)) (ltb (get_or t i 0) 192)
    (le-ltb (get_or t i 0) 192 (b.1 l s)))
    (cases_lt (get_or t i 0) 128))
    (λ (l : length t ≤ i). rw (get_or_past t i 0 l) refl)
    (cases_lt i (length t))

pub boundary_from : (t : List ℕ) (i : ℕ) → i ≤ length t → continues (get_or t i 0) ≡ false → IsCharBoundary t i
boundary_from t i l h = (
  l,
  λ _ s.
      ⊎_elim (λ (f : leb 128 (get_or t i 0) ≡ false). absurd (let low = leb-false 128 (get_or t i 0) f in omega arith))
      (λ (f : ltb (get_or t i 0) 192 ≡ false). ltb-false (get_or t i 0) 192 f)
      (and_cases (leb 128 (get_or t i 0)) (ltb (get_or t i 0) 192) h),
)

pub min_same : (i n : ℕ) → i ≤ n → min i n ≡ i
min_same i n h = omega arith

pub positions_invert : (e : Encoding) (t : List ℕ) (i : ℕ) → IsCharBoundary t i → inside_break t i ≡ false
    → offset_of e t (position_of e t i) ≡ i
positions_invert e t i b a =
    let l : i ≤ length t = b.0 in
    let h = boundary_starts t i b in
    let same : character_start t (min i (length t)) ≡ i = ap (character_start t) (min_same i (length t) l)
    ∙ start_here t i h in
    ap (λ z. offset_of e t (position_at e t z)) same ∙ offset-position e t i l h a

-- the offset of a position
break_starts : (b : ℕ) → is_break b ≡ true → continues b ≡ false
break_starts b h =
    ⊎_elim (λ (f : (b == 10) ≡ true). let e : b ≡ 10 = eqb-true b 10 f in
    and_left (leb 128 b) (ltb b 192) (lt-leb 128 b (omega arith)))
    (λ (f : (b == 13) ≡ true). let e : b ≡ 13 = eqb-true b 13 f in
    and_left (leb 128 b) (ltb b 192) (lt-leb 128 b (omega arith)))
    (or_cases (b == 10) (b == 13) h)

counted_starts : (e : Encoding) (b k : ℕ) → k < byte_units e b → continues b ≡ false
counted_starts e b k h =
    ⊎_elim (λ (f : continues b ≡ true).
    let parts = and_parts (leb 128 b) (ltb b 192) f in
    let none : byte_units e b ≡ 0 = no_units e b (leb-true 128 b parts.0) (ltb-true b 192 parts.1) in
    absurd (omega arith))
    (λ (f : continues b ≡ false). f)
    (cases_Bool (continues b))

within_starts : (e : Encoding) (t : List ℕ) (k : ℕ) → continues (get_or t (bytes_within e t k) 0) ≡ false
within_starts e [] k = refl
within_starts e (c ∷ t) k =
    ⊎_elim (λ (f : (is_break c || ltb k (byte_units e c)) ≡ true).
    rw f (⊎_elim (λ (g : is_break c ≡ true). break_starts c g)
    (λ (g : ltb k (byte_units e c) ≡ true). counted_starts e c k (ltb-true k (byte_units e c) g))
    (or_cases (is_break c) (ltb k (byte_units e c)) f)))
    (λ (f : (is_break c || ltb k (byte_units e c)) ≡ false). rw f (within_starts e t (k - byte_units e c)))
    (cases_Bool (is_break c || ltb k (byte_units e c)))

pub offset_boundary : (e : Encoding) (t : List ℕ) (s k : ℕ) → s ≤ length t
    → IsCharBoundary t (s + bytes_within e (drop s t) k)
offset_boundary e t s k l =
    let size : bytes_within e (drop s t) k ≤ length (drop s t) = within_bound e (drop s t) k in
    boundary_from t (s + bytes_within e (drop s t) k) (omega (arith, length-drop s t))
    (ap continues (sym (get_or-drop s t (bytes_within e (drop s t) k) 0)) ∙ within_starts e (drop s t) k)

pub taken : (e : Encoding) (t : List ℕ) (k j : ℕ) → j < bytes_within e t k → is_break (get_or t j 0) ≡ false
taken e [] k j h = absurd (omega arith)
taken e (c ∷ t) k zero h =
    ⊎_elim (λ (f : (is_break c || ltb k (byte_units e c)) ≡ true). absurd (let no : 0 < 0 = rw f at h in omega arith))
    (λ (f : (is_break c || ltb k (byte_units e c)) ≡ false). (or_parts (is_break c) (ltb k (byte_units e c)) f).0)
    (cases_Bool (is_break c || ltb k (byte_units e c)))
taken e (c ∷ t) k (suc j) h =
    ⊎_elim (λ (f : (is_break c || ltb k (byte_units e c)) ≡ true). absurd (let no : suc j < 0 = rw f at h in
    omega arith))
    (λ (f : (is_break c || ltb k (byte_units e c)) ≡ false).
    let more : suc j < suc (bytes_within e t (k - byte_units e c)) = rw f at h in
    taken e t (k - byte_units e c) j (omega arith))
    (cases_Bool (is_break c || ltb k (byte_units e c)))

ten_thirteen : (c : ℕ) → (c == 10) ≡ true → (c == 13) ≡ true → ⊥
ten_thirteen c x y = let a : c ≡ 10 = eqb-true c 10 x in let b : c ≡ 13 = eqb-true c 13 y in omega arith

ends_apart : (ten thirteen next : Bool) → (ten ≡ true → thirteen ≡ true → ⊥) → (ten || (thirteen && not next)) ≡ true
    → (thirteen && next) ≡ false
ends_apart true true next n h = absurd (n refl refl)
ends_apart true false next n h = refl
ends_apart false true true n h = absurd (both_ways false refl h)
ends_apart false true false n h = refl
ends_apart false false next n h = refl

after_end : (c : ℕ) (t : List ℕ) (s : ℕ) → ends_line c t ≡ true → inside_break t s ≡ false
    → inside_break (c ∷ t) (suc s) ≡ false
after_end c t zero f a = ends_apart (c == 10) (c == 13) (get_or t 0 0 == 10) (λ x y. ten_thirteen c x y) f
after_end c t (suc s) f a = a

after_no_end : (c : ℕ) (t : List ℕ) (n : ℕ) → ends_line c t ≡ false → inside_break t (line_start t (suc n)) ≡ false
    → inside_break (c ∷ t) (suc (line_start t (suc n))) ≡ false
after_no_end c [] n f a = and_right (c == 13) false refl
after_no_end c (d ∷ t) n f a = a

-- no line begins inside of a break
start_apart : (t : List ℕ) (n : ℕ) → inside_break t (line_start t n) ≡ false
start_apart [] n = refl
start_apart (c ∷ t) zero = refl
start_apart (c ∷ t) (suc n) =
    ⊎_elim (λ (f : ends_line c t ≡ true). rw f (after_end c t (line_start t n) f (start_apart t n)))
    (λ (f : ends_line c t ≡ false). rw f (after_no_end c t n f (start_apart t (suc n))))
    (cases_Bool (ends_line c t))

-- nor is an offset inside of one that is in a line
in_line_apart : (t : List ℕ) (s j : ℕ) → inside_break t s ≡ false
    → ((k : ℕ) → k < j → is_break (get_or (drop s t) k 0) ≡ false) → inside_break t (s + j) ≡ false
in_line_apart t s zero a h = let e : s + 0 ≡ s = omega arith in rw e a
in_line_apart t s (suc j) a h =
    let e : s + suc j ≡ suc (s + j) = omega arith in
    let b : is_break (get_or t (s + j) 0) ≡ false = ap is_break (sym (get_or-drop s t j 0)) ∙ h j (omega arith) in
    rw e (and_left (get_or t (s + j) 0 == 13) (get_or t (suc (s + j)) 0 ==
    10) (or_parts (get_or t (s + j) 0 == 10) (get_or t (s + j) 0 == 13) b).1)

pub position_boundary : (e : Encoding) (t : List ℕ) (p : LspPosition) → IsCharBoundary t (offset_of e t p)
position_boundary e t p = offset_boundary e t (line_start t p.line) p.character (start_within t p.line)

pub offset_apart : (e : Encoding) (t : List ℕ) (p : LspPosition) → inside_break t (offset_of e t p) ≡ false
offset_apart e t p = in_line_apart t (line_start t p.line) (bytes_within e (drop (line_start t p.line) t) p.character)
    (start_apart t p.line) (λ k h. taken e (drop (line_start t p.line) t) p.character k h)

-- so each offset of a position has a position of its own
pub offsets_invert : (e : Encoding) (t : List ℕ) (p : LspPosition)
    → offset_of e t (position_of e t (offset_of e t p)) ≡ offset_of e t p
offsets_invert e t p = positions_invert e t (offset_of e t p) (position_boundary e t p) (offset_apart e t p)
