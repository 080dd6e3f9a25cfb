-- Laws of positions: finding a line and a column, and the unique position of an offset.
use Rattle.std.proofs.Common.{◌≡◌, ◌≢◌, ℕ, ◌+◌, ◌-◌, ◌<◌, ◌≤◌, true, List, [], ◌∷◌, ◌++◌, length, get_or, take, drop, Some, refl, sym, ap, ◌∙◌, subst, ⊎_elim, arith, true≢false, append_assoc, append-nil, length-append, length-drop, take-append-drop}
use Rattle.std.proofs.lemmas.Bool.{cases_lt, cases_eq, lt-ltb}
use Rattle.std.proofs.lemmas.List.{length-take-le}
use Rattle.std.proofs.lemmas.Option.{same_Some, slice_get-get_or, slice_get_within}
use Rattle.std.proofs.lemmas.Str as S
use Rattle.std.proofs.lemmas.Str.{length-encode}
use Rattle.std.specs.List.{slice_get}
use Rattle.std.specs.Str.{IsUtf8, IsCharBoundary}
use lib.Utf8.{encodes, encode}
use Rattle.yf_chars.specs.Text.{code, next, no_char, CharAt}
use Rattle.yf_chars.specs.Chain.{Chain, Functional, Many}
use Rattle.yf_chars.specs.Chain.Chain.{done, step}
use Rattle.yf_chars.proofs.TextLemmas.{begins_from_boundary, drop_there}
use Rattle.yf_chars.proofs.ChainLemmas.{many_more, chain_forward, one_functional, Meets, chain_meet}
use Rattle.yf_chars.proofs.ChainLemmas.Meets.{goes_on, falls_short}
use Rattle.yf_lines.specs.declared.line.Line.{Line}
use Rattle.yf_lines.specs.Basic.{Break}
use Rattle.yf_lines.specs.Lines.{LineEnd, AreLines, Marks, LineHolds, LinesBegunAt, ColumnOf, NewLine, PlaceOf, is_char}
use Rattle.yf_lines.specs.Lines.LineEnd.{at_break, at_end}
use Rattle.yf_lines.specs.Lines.LineHolds.{inside, at_text_end}
use Rattle.yf_lines.specs.Lines.ColumnOf.{among_marks, after_marks}
use Rattle.yf_lines.specs.Lines.NewLine.{of_empty, of_break}
use Rattle.yf_lines.specs.Lines.PlaceOf.{in_line, after_lines}
use Rattle.yf_lines.proofs.BasicLemmas.{break_end, break_forward}
use Rattle.yf_lines.proofs.LineLemmas.{end_within, lines_unique}
use Rattle.yf_lines.proofs.MarkLemmas.{marks_unique, ends_by_break}
use Rattle.yf_lines.proofs.TableLemmas.{Follow, follow, line_at, line_before}

-- no character begins within another one
first_part : (c n : ℕ) (rest cs : List ℕ) (xs : List ℕ) → xs ≡ encode c ++ rest → encodes cs ≡ take n xs → 0 < n → n ≤ length xs → length (encode c) ≤ n
first_part c n rest [] xs e u z l = let q : 0 ≡ length (take n xs) = ap length u in absurd (omega (arith, length-take-le n xs l))
first_part c n rest (d ∷ ds) xs e u z l =
    let whole : encode d ++ (encodes ds ++ drop n xs) ≡ encode c ++ rest =
    sym (append_assoc (encode d) (encodes ds) (drop n xs)) ∙ ap (λ w. w ++ drop n xs) u ∙ take-append-drop n xs ∙ e in
    let same : d ≡ c = (S.encode_same d c (encodes ds ++ drop n xs) rest whole).0 in
    let long : length (encode d ++ encodes ds) ≡ n = ap length u ∙ length-take-le n xs l in
    let q : length (encode d) ≡ length (encode c) = ap (λ w. length (encode w)) same in
    omega (arith, length-append (encode d) (encodes ds))

pub not_inside : (t : List ℕ) (i c j e : ℕ) → IsUtf8 t → IsCharBoundary t i → CharAt t i c j → IsCharBoundary t e → i < e → e < j → ⊥
unfolding next
not_inside t i c j e u b r d l s =
    let w : i < length t = omega (arith, d.0) in
    let cut = drop_there t i u (begins_from_boundary t i b w) in
    let part : IsUtf8 (take (e - i) (drop i t)) = S.IsUtf8-between t i e u (omega arith) b d in
    let n = first_part (code t i) (e - i) cut.0 part.0 (drop i t) cut.1 part.1.1 (omega arith) (omega (arith, length-drop i t, d.0)) in
    absurd (omega (arith, r.end, length-encode (code t i)))

-- the characters so far, and one more
pub characters_more : (t : List ℕ) (m i c j : ℕ) (x : List ℕ) → Many t is_char m i x → CharAt t i c j → Many t is_char m j (x ++ code t i ∷ [])
characters_more t m i c j x a r =
    let b : is_char (code t i) ≡ true = lt-ltb (code t i) no_char (omega (arith, r.char, r.below)) in
    subst (λ k. Many t is_char m k (x ++ code t i ∷ [])) r.end (many_more t is_char a b)

-- no line has begun: the text is empty
pub place_in_empty : (t : List ℕ) (ls : List Line) (offset : ℕ) → AreLines t ls → offset ≤ length t → LinesBegunAt ls offset 0 → PlaceOf t offset 1 1
place_in_empty t ls offset a w b = go ls a (follow a) b where
  go : (ls : List Line) → AreLines t ls → Follow t 0 (length t) ls → LinesBegunAt ls offset 0 → PlaceOf t offset 1 1
  go [] a f b = after_lines a (omega (arith, f)) (of_empty (sym f))
  go (l ∷ ls) a f b = let s = b.follows 0 l refl (omega arith) in absurd (omega (arith, f.0))

-- the last line that has begun holds the offset, or no line holds it
module _ (t : List ℕ) (ls : List Line) (offset k : ℕ) (l : Line) (a : AreLines t ls) (there : slice_get ls k ≡ Some l) (b : LinesBegunAt ls offset (k + 1)) (w : offset ≤ length t) where
  next_after : k + 1 < length ls → offset < l.next
  next_after s =
      let e : slice_get ls (k + 1) ≡ Some (get_or ls (k + 1) l) = slice_get-get_or ls (k + 1) l s in
      let n = line_before t ls 0 (length t) k (k + 1) l (get_or ls (k + 1) l) (follow a) there e (omega arith) in
      let o = b.follows (k + 1) (get_or ls (k + 1) l) e (omega arith) in omega (arith, n.1 refl)

  last_reaches : length ls ≤ k + 1 → l.next ≡ length t
  last_reaches s =
      let r = line_at t ls 0 (length t) k l (follow a) there in
      r.last (let q = slice_get_within ls k l there in omega arith)

  pub held : (l.end < l.next → offset ≢ l.next) → LineHolds l offset
  held n =
      let r = line_at t ls 0 (length t) k l (follow a) there in
      let o : l.start ≤ offset = b.before k l there (omega arith) in
      ⊎_elim (λ (s : k + 1 < length ls). inside o (next_after s))
      (λ (s : length ls ≤ k + 1).
      let e : l.next ≡ length t = last_reaches s in
      ⊎_elim (λ (p : offset < l.next). inside o p)
      (λ (p : l.next ≤ offset).
      let q : l.next ≡ offset = omega arith in
      ⊎_elim (λ (d : l.end < l.next). absurd (n d (sym q))) (λ (d : l.next ≤ l.end). at_text_end (let v = end_within r.made.ends in omega (arith, v.0)) q) (cases_lt l.end l.next))
      (cases_lt offset l.next))
      (cases_lt (k + 1) (length ls))

  pub place_held : (c : ℕ) → (l.end < l.next → offset ≢ l.next) → ColumnOf t l.start offset c → PlaceOf t offset (k + 1) c
  place_held c n d = in_line k a there (held n) d

  break_of_end : {h j : ℕ} → LineEnd t h j → h < j → Break t h j
  break_of_end (at_break d) s = d
  break_of_end (at_end e) s = absurd (omega arith)

  pub place_after : l.end < l.next → offset ≡ l.next → PlaceOf t offset (k + 1 + 1) 1
  place_after d q =
      let r = line_at t ls 0 (length t) k l (follow a) there in
      let v = slice_get_within ls k l there in
      let s : length ls ≤ k + 1 = ⊎_elim (λ (m : k + 1 < length ls). let o = next_after m in absurd (omega arith)) (λ (m : length ls ≤ k + 1). m) (cases_lt (k + 1) (length ls)) in
      let e : l.next ≡ length t = last_reaches s in
      let n : length ls ≡ k + 1 = omega arith in
      let new : NewLine t = of_break (subst (λ j. Break t l.end j) e (break_of_end r.made.ends d)) in
      subst (λ m. PlaceOf t offset (m + 1) 1) n (after_lines a (q ∙ e) new)

-- the position of an offset is unique
chain_nothing : {A : Type 0} {S : ℕ → ℕ → List A → Type 0} {i j : ℕ} {z : List A} → Functional S → Chain S i j z → i ≡ j → z ≡ []
chain_nothing f done e = refl
chain_nothing f (step s c) e = let a = f.forward s in let b = chain_forward f c in absurd (omega arith)

chain_same : {A : Type 0} {S : ℕ → ℕ → List A → Type 0} {j : ℕ} {x y : List A} → Functional S → Meets S j j x y → x ≡ y
chain_same {x = x} f (goes_on z c e) = sym (e ∙ ap (λ w. x ++ w) (chain_nothing f c refl) ∙ append-nil x)
chain_same {y = y} f (falls_short z c e) = e ∙ ap (λ w. y ++ w) (chain_nothing f c refl) ∙ append-nil y

same_characters : (t : List ℕ) (i j : ℕ) (x y : List ℕ) → Many t is_char i j x → Many t is_char i j y → x ≡ y
same_characters t i j x y a b = chain_same (one_functional t is_char) (chain_meet (one_functional t is_char) a b)

among_or_after : {t : List ℕ} {i o j k : ℕ} {y : List ℕ} → Marks t i j → o < j → Marks t i k → Many t is_char k o y → ⊥
among_or_after {t} {i} {o} {j} {k} a l b d =
    let e = marks_unique t i j k a b in let f = chain_forward (one_functional t is_char) d in absurd (omega arith)

pub column_unique : {t : List ℕ} {i o c d : ℕ} → ColumnOf t i o c → ColumnOf t i o d → c ≡ d
column_unique (among_marks a l) (among_marks b m) = refl
column_unique (among_marks a l) (after_marks b y) = absurd (among_or_after a l b y)
column_unique (after_marks a x) (among_marks b m) = absurd (among_or_after b m a x)
column_unique {t} {i} {o} (after_marks {j} {x} a p) (after_marks {j = k} {x = y} b q) =
    let e : k ≡ j = marks_unique t i k j b a in
    ap (λ w. length w + 1) (same_characters t j o x y p (subst (λ m. Many t is_char m o y) e q))

held_from : {l : Line} {o : ℕ} → l.start < l.next → LineHolds l o → (l.start ≤ o) × (o ≤ l.next) × (l.next ≤ o → l.end ≡ l.next)
held_from w (inside a b) = (a, omega arith, λ q. absurd (omega arith))
held_from w (at_text_end a b) = (omega arith, omega arith, λ _. a)

end_at_text_end : {t : List ℕ} {h j : ℕ} → LineEnd t h j → h ≡ j → j ≡ length t
end_at_text_end (at_break b) e = let f = break_forward b in absurd (omega arith)
end_at_text_end (at_end q) e = q

module _ (t : List ℕ) (ls : List Line) (o : ℕ) (a : AreLines t ls) where
  not_both : (k m : ℕ) (l n : Line) → slice_get ls k ≡ Some l → slice_get ls m ≡ Some n → LineHolds l o → LineHolds n o → k < m → ⊥
  not_both k m l n e f p q s =
      let before = line_before t ls 0 (length t) k m l n (follow a) e f s in
      let x = (line_at t ls 0 (length t) k l (follow a) e).made in
      let y = (line_at t ls 0 (length t) m n (follow a) f).made in
      let u = held_from x.order p in
      let v = held_from y.order q in
      let top : l.next ≡ length t = end_at_text_end x.ends (u.2 (omega (arith, before.0, v.0))) in
      let w = end_within y.ends in
      let d = y.order in
      absurd (omega (arith, before.0, w.1))

  same_index : (k m : ℕ) (l n : Line) → slice_get ls k ≡ Some l → slice_get ls m ≡ Some n → LineHolds l o → LineHolds n o → k ≡ m
  same_index k m l n e f p q =
      ⊎_elim (λ (s : k < m). absurd (not_both k m l n e f p q s))
      (λ (s : m ≤ k). ⊎_elim (λ (d : k ≡ m). d) (λ (d : k ≢ m). absurd (not_both m k n l f e q p (omega arith))) (cases_eq k m))
      (cases_lt k m)

  no_new_line : (k : ℕ) (l : Line) → slice_get ls k ≡ Some l → LineHolds l o → o ≡ length t → NewLine t → ⊥
  no_new_line k l e p q (of_empty z) =
      let x = (line_at t ls 0 (length t) k l (follow a) e).made in
      let d = x.order in let w = end_within x.ends in absurd (omega (arith, w.1))
  no_new_line k l e p q (of_break b) =
      let x = (line_at t ls 0 (length t) k l (follow a) e).made in
      let d = x.order in
      let w = end_within x.ends in
      let u = held_from x.order p in
      let z : l.end ≡ l.next = u.2 (omega (arith, w.1)) in
      let n : l.next ≡ length t = end_at_text_end x.ends z in
      absurd (true≢false (sym (ends_by_break t (length t) (break_end b)) ∙ x.unbroken.none (length t - 1) (omega arith) (omega arith)))

same_held : (t : List ℕ) (o : ℕ) (ls ms : List Line) (k m c d : ℕ) (l n : Line) → AreLines t ls → AreLines t ms → slice_get ls k ≡ Some l → slice_get ms m ≡ Some n
    → LineHolds l o → LineHolds n o → ColumnOf t l.start o c → ColumnOf t n.start o d → (k + 1 ≡ m + 1) × (c ≡ d)
same_held t o ls ms k m c d l n a b e f p q x y =
    let g : slice_get ls m ≡ Some n = ap (λ w. slice_get w m) (lines_unique t ls ms a b) ∙ f in
    let i : k ≡ m = same_index t ls o a k m l n e g p q in
    let same : l ≡ n = same_Some _ _ (sym e ∙ ap (λ w. slice_get ls w) i ∙ g) in
    (ap (λ w. w + 1) i, column_unique x (subst (λ (w : Line). ColumnOf t w.start o d) (sym same) y))

pub place_unique : {t : List ℕ} {o a b c d : ℕ} → PlaceOf t o a b → PlaceOf t o c d → (a ≡ c) × (b ≡ d)
place_unique {t} {o} (in_line {ls} {l} {c} k a e p x) (in_line {ls = ms} {l = n} {c = d} m b f q y) = same_held t o ls ms k m c d l n a b e f p q x y
place_unique {t} {o} (in_line {ls} {l} k a e p x) (after_lines b q n) = absurd (no_new_line t ls o a k l e p q n)
place_unique {t} {o} (after_lines b q n) (in_line {ls} {l} k a e p x) = absurd (no_new_line t ls o a k l e p q n)
place_unique {t} (after_lines {ls} a p n) (after_lines {ls = ms} b q m) = (ap (λ w. length w + 1) (lines_unique t ls ms a b), refl)
