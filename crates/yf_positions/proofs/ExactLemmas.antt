-- The offset of a position is the last one in its line that is not after the position.
use Rattle.std.proofs.Common.{◌≡◌, ℕ, zero, suc, ◌+◌, ◌-◌, ◌<◌, ◌≤◌, true, false, ◌||◌, ⊎_elim, List, [], ◌∷◌, length, drop, get_or, refl, sym, ap, ◌∙◌, subst, arith, ltb}
use Rattle.std.proofs.lemmas.Bool.{cases_Bool, or_parts, le-ltb, ltb-false}
use Rattle.std.proofs.lemmas.List.{get_or-drop, length-drop}
use Rattle.std.specs.Str.{IsCharBoundary}
use Rattle.yf_positions.specs.declared.encoding.Encoding.{Encoding}
use Rattle.yf_positions.specs.declared.position.LspPosition.{LspPosition}
use Rattle.yf_positions.specs.Units.{byte_units, is_break}
use Rattle.yf_positions.specs.Lines.{ends_line, lines_before, line_start, inside_break, IsUnbroken}
use Rattle.yf_positions.specs.Offsets.{bytes_within, units_before, column_at, offset_of}
use Rattle.yf_positions.specs.Laws.{IsOffsetOf}
use Rattle.yf_positions.proofs.LineLemmas.{start_below, start_past, start_within, unbroken_same}
use Rattle.yf_positions.proofs.ColumnLemmas.{within_bound, within_end}
use Rattle.yf_positions.proofs.InverseLemmas.{inverse, boundary_starts, taken, position_boundary, offset_apart}

-- more units take no fewer bytes
within_grows : (e : Encoding) (t : List ℕ) (k n : ℕ) → k ≤ n → bytes_within e t k ≤ bytes_within e t n
within_grows e [] k n h = omega arith
within_grows e (c ∷ t) k n h =
    let rest : bytes_within e t (k - byte_units e c) ≤ bytes_within e t (n - byte_units e c) =
    within_grows e t (k - byte_units e c) (n - byte_units e c) (omega arith) in
    ⊎_elim (λ (f : (is_break c || ltb k (byte_units e c)) ≡ true). let none : bytes_within e (c ∷ t) k ≡ 0 =
    rw f refl in omega (arith, none))
    (λ (f : (is_break c || ltb k (byte_units e c)) ≡ false).
    let parts = or_parts (is_break c) (ltb k (byte_units e c)) f in
    let more : ltb n (byte_units e c) ≡ false = le-ltb n (byte_units e c) (let low =
    ltb-false k (byte_units e c) parts.1 in omega arith) in
    let one : bytes_within e (c ∷ t) k ≡ suc (bytes_within e t (k - byte_units e c)) = rw f refl in
    let two : bytes_within e (c ∷ t) n ≡ suc (bytes_within e t (n - byte_units e c)) = rw (parts.0, more) refl in
    omega (arith, one, two))
    (cases_Bool (is_break c || ltb k (byte_units e c)))

-- the bytes that are taken have no more units
units_within : (e : Encoding) (t : List ℕ) (k : ℕ) → units_before e t (bytes_within e t k) ≤ k
units_within e [] k = omega arith
units_within e (c ∷ t) k =
    let rest : units_before e t (bytes_within e t (k - byte_units e c)) ≤ k - byte_units e c =
    units_within e t (k - byte_units e c) in
    ⊎_elim (λ (f : (is_break c || ltb k (byte_units e c)) ≡ true).
    let none : units_before e (c ∷ t) (bytes_within e (c ∷ t) k) ≡ 0 = rw f refl in
    omega (arith, none))
    (λ (f : (is_break c || ltb k (byte_units e c)) ≡ false).
    let parts = or_parts (is_break c) (ltb k (byte_units e c)) f in
    let low : byte_units e c ≤ k = ltb-false k (byte_units e c) parts.1 in
    let one : bytes_within e (c ∷ t) k ≡ suc (bytes_within e t (k - byte_units e c)) = rw f refl in
    let two : units_before e (c ∷ t) (suc (bytes_within e t (k - byte_units e c)))
    ≡ byte_units e c + units_before e t (bytes_within e t (k - byte_units e c)) = rw parts.0 refl in
    let same : units_before e (c ∷ t) (bytes_within e (c ∷ t) k)
    ≡ byte_units e c + units_before e t (bytes_within e t (k - byte_units e c)) = ap (units_before e (c ∷ t)) one
    ∙ two in
    omega (arith, same))
    (cases_Bool (is_break c || ltb k (byte_units e c)))

-- the number of lines that end before the start of a line is the line's index
start_line : (t : List ℕ) (n : ℕ) → n ≤ lines_before t (length t) → lines_before t (line_start t n) ≡ n
start_line [] n h = omega arith
start_line (c ∷ t) zero h = refl
start_line (c ∷ t) (suc n) h =
    ⊎_elim (λ (f : ends_line c t ≡ true).
    let more : suc n ≤ suc (lines_before t (length t)) = rw f at h in
    rw f (ap suc (start_line t n (omega arith))))
    (λ (f : ends_line c t ≡ false).
    let more : suc n ≤ lines_before t (length t) = rw f at h in
    rw f (start_line t (suc n) more))
    (cases_Bool (ends_line c t))

in_line : (e : Encoding) (t : List ℕ) (p : LspPosition) → IsUnbroken t (line_start t p.line) (offset_of e t p)
in_line e t p =
    let s = line_start t p.line in
    let within : line_start t p.line ≤ length t = start_within t p.line in
    let size : length (drop (line_start t p.line) t) ≡ length t - line_start t p.line = length-drop s t in
    let bound : bytes_within e (drop (line_start t p.line) t) p.character ≤ length (drop (line_start t p.line) t) =
    within_bound e (drop s t) p.character in
    record {
      order = omega arith;
      bound = omega arith;
      none = λ k a b.
          let place : line_start t p.line + (k - line_start t p.line) ≡ k = omega arith in
          ap (λ z. is_break (get_or t z 0)) (sym place) ∙ ap is_break (sym (get_or-drop s t (k - s) 0))
          ∙ taken e (drop s t) p.character (k - s) (omega arith);
    }

no_later : (e : Encoding) (t : List ℕ) (p : LspPosition) (i : ℕ) → IsCharBoundary t i → inside_break t i ≡ false
    → lines_before t i ≡ p.line → column_at e t (line_start t p.line) i ≤ p.character → i ≤ offset_of e t p
no_later e t p i b a line column =
    let s = line_start t p.line in
    let below : line_start t p.line ≤ i = start_below t p.line i (omega arith) in
    let back : bytes_within e (drop (line_start t p.line) t) (column_at e t (line_start t p.line) i)
    ≡ i - line_start t p.line =
    subst (λ n. bytes_within e (drop (line_start t n) t) (column_at e t (line_start t n) i) ≡ i - line_start t n) line
    (inverse e t i b.0 (boundary_starts t i b) a) in
    let more : bytes_within e (drop (line_start t p.line) t) (column_at e t (line_start t p.line) i) ≤ bytes_within e
    (drop (line_start t p.line) t) p.character = within_grows e (drop s t) (column_at e t s i) p.character column in
    omega arith

pub offsets_exact : (e : Encoding) (t : List ℕ) (p : LspPosition) → p.line ≤ lines_before t (length t)
    → IsOffsetOf e t p (offset_of e t p)
offsets_exact e t p l =
    let s = line_start t p.line in
    let shift : line_start t p.line + bytes_within e (drop (line_start t p.line) t) p.character - line_start t p.line
    ≡ bytes_within e (drop (line_start t p.line) t) p.character = omega arith in
    record {
      boundary = position_boundary e t p;
      apart = offset_apart e t p;
      line = unbroken_same t s (offset_of e t p) (in_line e t p) ∙ start_line t p.line l;
      column = subst (λ n. units_before e (drop s t) n ≤ p.character) (sym shift)
          (units_within e (drop s t) p.character);
      last = no_later e t p;
    }

pub later_lines : (e : Encoding) (t : List ℕ) (p : LspPosition) → lines_before t (length t) < p.line
    → offset_of e t p ≡ length t
later_lines e t p h =
    let end : line_start t p.line ≡ length t = start_past t p.line h in
    let none : bytes_within e (drop (line_start t p.line) t) p.character ≡ 0 =
    within_end e t (line_start t p.line) p.character (omega arith) in
    omega arith
