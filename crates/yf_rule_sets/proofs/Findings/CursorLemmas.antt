-- Laws of the cursors of a pass over a text.
use Rattle.std.proofs.Common.{◌≡◌, ℕ, ◌+◌, ◌<◌, ◌≤◌, List, [], ◌∷◌, ◌++◌, Bool, zero, suc, length, sym, subst, ap, refl, arith, length-append, Some}
use Rattle.std.specs.Prelude.{IfSome, slice_get}
use Rattle.std.specs.Str.{IsCharBoundary, IsUtf8}
use Rattle.std.proofs.lemmas.List.{length_push}
use Rattle.std.proofs.lemmas.Option.{slice_get_past}
use Rattle.yf_chars.specs.Chain.{Many}
use Rattle.yf_chars.specs.Chain.Chain.{done, step}
use Rattle.yf_chars.specs.Chain.One.{one}
use Rattle.yf_chars.proofs.ChainLemmas.{chain_append}
use Rattle.yf_lines.specs.declared.line.Line.{Line}
use Rattle.yf_chars.specs.Text.{code}
use Rattle.yf_chars.proofs.TextLemmas.{reads_byte}
use Rattle.yf_lines.proofs.PlaceLemmas.{characters_more}
use Rattle.yf_lines.specs.Basic.{Spaces}
use Rattle.yf_lines.specs.Lines.{AreLines, LineHolds, Marks, PlaceOf, ColumnOf, is_char, is_mark}
use Rattle.yf_lines.specs.Lines.ColumnOf.{among_marks, after_marks}
use Rattle.yf_lines.specs.Lines.PlaceOf.{in_line}
use Rattle.yf_rule_sets.specs.declared.facts.cursor.Cursor.{Cursor}
use Rattle.yf_rule_sets.specs.RuleSets.Places.{HasColumn, IsCursor}

-- the fact of a cursor in its line
pub reached_in : (t : List ℕ) (ls : List Line) (s : Cursor) (l : Line) → IsCursor t ls s → slice_get ls s.line ≡ Some l → HasColumn t l.start s.at s.column
reached_in t ls s l h e = subst (λ o. IfSome o (λ (m : Line). HasColumn t m.start s.at s.column)) e h.reached

pub cursor_of : (t : List ℕ) (ls : List Line) (s : Cursor) (l : Line) → slice_get ls s.line ≡ Some l → HasColumn t l.start s.at s.column → IsCursor t ls s
cursor_of t ls s l e r = record { reached = subst (λ o. IfSome o (λ (m : Line). HasColumn t m.start s.at s.column)) (sym e) r }

-- a cursor after the last line is valid
pub no_cursor : (t : List ℕ) (ls : List Line) (s : Cursor) → length ls ≤ s.line → IsCursor t ls s
no_cursor t ls s h = record { reached = subst (λ o. IfSome o (λ (m : Line). HasColumn t m.start s.at s.column)) (sym (slice_get_past ls s.line h)) tt }

-- the offset after the marks of a line has column 1
pub reached_first : (t : List ℕ) (start at : ℕ) → Marks t start at → IsCharBoundary t at → HasColumn t start at 1
reached_first t start at m b =
    record { follows = at; marks = m; characters = []; run = done; count = omega arith; boundary = b; room = omega arith }

-- after the spaces of a line
spaces_run : (t : List ℕ) (i k : ℕ) → IsUtf8 t → IsCharBoundary t i → Spaces t i k → (x : List ℕ) × Many t is_char i (i + k) x × (length x ≡ k) × IsCharBoundary t (i + k)
spaces_run t i zero u b f = ([], subst (λ j. Many t is_char i j []) (omega arith) done, refl, subst (IsCharBoundary t) (omega arith) b)
spaces_run t i (suc k) u b f =
    let r = spaces_run t i k u b (record { each = λ m l. f.each m (omega (arith, l)) }) in
    let s = reads_byte t (i + k) 32 u (f.each k (omega arith)) (omega arith) in (
      r.0 ++ code t (i + k) ∷ [],
      subst (λ j. Many t is_char i j (r.0 ++ code t (i + k) ∷ [])) (omega arith) (characters_more t i (i + k) 32 (i + k + 1) r.0 r.1 s),
      omega (arith, r.2, length_push r.0 (code t (i + k))),
      subst (IsCharBoundary t) (omega arith) s.boundary,
    )

pub reached_indent : (t : List ℕ) (i k at : ℕ) → IsUtf8 t → IsCharBoundary t i → Spaces t i k → 0 < k → at ≡ i + k → HasColumn t i at (k + 1)
reached_indent t i k at u b f h e =
    let r = spaces_run t i k u b f in
    let first : code t i ≡ 32 = subst (λ j. code t j ≡ 32) (omega arith) (f.each 0 h) in
    subst (λ j. HasColumn t i j (k + 1)) (sym e) (record {
      follows = i;
      marks = record { marks = []; run = done; stops = ap is_mark first };
      characters = r.0;
      run = r.1;
      count = omega (arith, r.2);
      boundary = r.3;
      room = omega arith;
    })

-- more characters of the line
pub reached_more : (t : List ℕ) (start at column offset d : ℕ) (x : List ℕ) → HasColumn t start at column → Many t is_char at offset x
    → d ≡ column + length x → IsCharBoundary t offset → d ≤ offset + 1 → HasColumn t start offset d
reached_more t start at column offset d x r m e b room = record {
  follows = r.follows;
  marks = r.marks;
  characters = r.characters ++ x;
  run = chain_append r.run m;
  count = let n = r.count in omega (arith, n, e, length-append r.characters x);
  boundary = b;
  room = room;
}

pub place_reached : (t : List ℕ) (ls : List Line) (l : Line) (k number offset d : ℕ) → AreLines t ls → slice_get ls k ≡ Some l → number ≡ k + 1
    → LineHolds l offset → HasColumn t l.start offset d → PlaceOf t offset number d
place_reached t ls l k number offset d a e n h r =
    let column : ColumnOf t l.start offset d = subst (ColumnOf t l.start offset) (sym r.count) (after_marks r.marks r.run) in
    subst (λ m. PlaceOf t offset m d) (sym n) (in_line k a e h column)

-- the run of no characters ends at its start
pub many_none : {t : List ℕ} {p : ℕ → Bool} {i j : ℕ} {x : List ℕ} → Many t p i j x → length x ≡ 0 → i ≡ j
many_none done e = refl
many_none (step (one h) rest) e = let none : ⊥ = omega (arith, e) in absurd none

-- an offset before a cursor in column 1 is one of the marks of the line
pub place_among : (t : List ℕ) (ls : List Line) (l : Line) (k number at column offset : ℕ) → AreLines t ls → slice_get ls k ≡ Some l
    → number ≡ k + 1 → LineHolds l offset → HasColumn t l.start at column → column ≡ 1 → offset < at → PlaceOf t offset number 1
place_among t ls l k number at column offset a e n h r first before =
    let none : length r.characters ≡ 0 = let c = r.count in omega (arith, c, first) in
    let there : offset < r.follows = let j = many_none r.run none in omega (arith, j, before) in
    subst (λ m. PlaceOf t offset m 1) (sym n) (in_line k a e h (among_marks r.marks there))
