-- The lines of a text by their line feeds, one after the other.
use Rattle.std.proofs.Common.{◌≡◌, ℕ, zero, suc, ◌+◌, ◌-◌, ◌<◌, ◌≤◌, ◌==◌, true, false, ⊎_elim, List, [], ◌∷◌, length, take, drop, get_or, refl, sym, ap, ◌∙◌, subst, arith, drop-drop, get_or-drop, length-drop, add-one}
use Rattle.std.proofs.lemmas.Bool.{cases_Bool, cases_lt, eqb-true, ne_eqb, and_left, and_right}
use Rattle.std.proofs.lemmas.List.{get_or_past}
use Rattle.std.proofs.lemmas.Str.{IsCharBoundary-start, IsCharBoundary-end, IsCharBoundary-after_ascii}
use Rattle.std.specs.Str.{IsCharBoundary, IsUtf8}
use Rattle.yf_diff.specs.Texts.{lines_of, before_lines}
use Rattle.yf_positions.specs.declared.encoding.Encoding.{Encoding}
use Rattle.yf_positions.specs.Lines.{inside_break}
use Rattle.yf_positions.specs.Offsets.{offset_of, position_of}
use Rattle.yf_positions.specs.Edits.{AfterFeed}
use Rattle.yf_positions.proofs.InverseLemmas.{positions_invert}

-- the first line of a text, and the lines after it
record FirstLine (t line : List ℕ) (rest : List (List ℕ)) : Type 0 where
  bound : length line ≤ length t
  front : take (length line) t ≡ line
  later : lines_of (drop (length line) t) ≡ rest
  feed : (k : ℕ) → length line ≡ suc k → length line < length t → get_or t k 0 ≡ 10

some_lines : (c : ℕ) (ls : List (List ℕ)) → before_lines c ls ≡ [] → ⊥
some_lines c [] e = cc
some_lines c (l ∷ ls) e = cc

lines_none : (t : List ℕ) → lines_of t ≡ [] → t ≡ []
lines_none [] e = refl
lines_none (c ∷ t) e =
    ⊎_elim (λ (f : (c == 10) ≡ true). absurd (let no : (c ∷ []) ∷ lines_of t ≡ [] = rw f at e in cc))
    (λ (f : (c == 10) ≡ false). absurd (some_lines c (lines_of t) (let same : before_lines c (lines_of t) ≡ [] =
    rw f at e in same)))
    (cases_Bool (c == 10))

one_feed : (c : ℕ) (t : List ℕ) → c ≡ 10 → FirstLine (c ∷ t) (c ∷ []) (lines_of t)
one_feed c t e = record {
  bound = omega arith;
  front = refl;
  later = refl;
  feed = λ k a b. let z : k ≡ 0 = omega arith in subst (λ n. get_or (c ∷ t) n 0 ≡ 10) (sym z) e;
}

one_byte : (c : ℕ) → FirstLine (c ∷ []) (c ∷ []) []
one_byte c = record { bound = omega arith; front = refl; later = refl; feed = λ k a b. absurd (omega arith) }

more_feed : (c : ℕ) (t line : List ℕ) (rest : List (List ℕ)) → FirstLine t line rest → 0 < length line → (k : ℕ)
    → suc (length line) ≡ suc k → suc (length line) < suc (length t) → get_or (c ∷ t) k 0 ≡ 10
more_feed c t line rest h p zero a b = absurd (omega arith)
more_feed c t line rest h p (suc k) a b = h.feed k (omega arith) (omega arith)

one_more : (c : ℕ) (t line : List ℕ) (rest : List (List ℕ)) → 0 < length line → FirstLine t line rest
    → FirstLine (c ∷ t) (c ∷ line) rest
one_more c t line rest p h = record {
  bound = omega (arith, h.bound);
  front = ap (λ z. c ∷ z) h.front;
  later = h.later;
  feed = λ k a b. more_feed c t line rest h p k a b;
}

some_before : (c : ℕ) (ls : List (List ℕ)) (line : List ℕ) (rest : List (List ℕ)) → before_lines c ls ≡ line ∷ rest
    → 0 < length line
some_before c [] line rest e = let is : line ≡ c ∷ [] = cc in rw is (omega arith)
some_before c (l ∷ ls) line rest e = let is : line ≡ c ∷ l = cc in rw is (omega arith)

some_first : (t line : List ℕ) (rest : List (List ℕ)) → lines_of t ≡ line ∷ rest → 0 < length line
some_first [] line rest e = absurd (cc)
some_first (c ∷ t) line rest e =
    ⊎_elim (λ (f : (c == 10) ≡ true). let same : (c ∷ []) ∷ lines_of t ≡ line ∷ rest = rw f at e in
    let is : line ≡ c ∷ [] = cc in rw is (omega arith))
    (λ (f : (c == 10) ≡ false). some_before c (lines_of t) line rest (let same : before_lines c (lines_of t)
    ≡ line ∷ rest = rw f at e in same))
    (cases_Bool (c == 10))

before_first : (c : ℕ) (t : List ℕ) (ls : List (List ℕ)) (line : List ℕ) (rest : List (List ℕ)) → lines_of t ≡ ls
    → before_lines c ls ≡ line ∷ rest → ((l : List ℕ) (r : List (List ℕ)) → lines_of t ≡ l ∷ r → FirstLine t l r)
    → FirstLine (c ∷ t) line rest
before_first c t [] line rest is e h =
    let none : t ≡ [] = lines_none t is in
    let one : line ≡ c ∷ [] = cc in
    let no : rest ≡ [] = cc in
    subst (λ z. FirstLine (c ∷ z) line rest) (sym none)
    (subst (λ z. FirstLine (c ∷ []) z rest) (sym one)
    (subst (λ z. FirstLine (c ∷ []) (c ∷ []) z) (sym no) (one_byte c)))
before_first c t (l ∷ ls) line rest is e h =
    let one : line ≡ c ∷ l = cc in
    let no : rest ≡ ls = cc in
    subst (λ z. FirstLine (c ∷ t) z rest) (sym one)
    (subst (λ z. FirstLine (c ∷ t) (c ∷ l) z) (sym no) (one_more c t l ls (some_first t l ls is) (h l ls is)))

first_line : (t line : List ℕ) (rest : List (List ℕ)) → lines_of t ≡ line ∷ rest → FirstLine t line rest
first_line [] line rest e = absurd (cc)
first_line (c ∷ t) line rest e =
    ⊎_elim (λ (f : (c == 10) ≡ true).
    let same : (c ∷ []) ∷ lines_of t ≡ line ∷ rest = rw f at e in
    let one : line ≡ c ∷ [] = cc in
    let no : rest ≡ lines_of t = cc in
    subst (λ z. FirstLine (c ∷ t) z rest) (sym one)
    (subst (λ z. FirstLine (c ∷ t) (c ∷ []) z) (sym no) (one_feed c t (eqb-true c 10 f))))
    (λ (f : (c == 10) ≡ false).
    let same : before_lines c (lines_of t) ≡ line ∷ rest = rw f at e in
    before_first c t (lines_of t) line rest refl same (λ l r is. first_line t l r is))
    (cases_Bool (c == 10))

-- the line at an offset is passed
pub record Passed (t : List ℕ) (i : ℕ) (line : List ℕ) (rest : List (List ℕ)) : Type 0 where
  pub some : 0 < length line
  pub front : take (length line) (drop i t) ≡ line
  pub later : lines_of (drop (i + length line) t) ≡ rest
  pub feed : AfterFeed t (i + length line)

pub passed_line : (t : List ℕ) (i : ℕ) (line : List ℕ) (rest : List (List ℕ)) → i ≤ length t
    → lines_of (drop i t) ≡ line ∷ rest → Passed t i line rest
passed_line t i line rest l e =
    let first : FirstLine (drop i t) line rest = first_line (drop i t) line rest e in
    let some : 0 < length line = some_first (drop i t) line rest e in
    let size : length (drop i t) ≡ length t - i = length-drop i t in
    let bound : length line ≤ length (drop i t) = first.bound in
    record {
      some = some;
      front = first.front;
      later = ap lines_of (sym (drop-drop (length line) i t)) ∙ first.later;
      feed = record {
        bound = omega arith;
        feed = λ k a b.
            let n : length line ≡ suc (k - i) = omega arith in
            let place : i + (k - i) ≡ k = omega arith in
            ap (λ z. get_or t z 0) (sym place) ∙ sym (get_or-drop i t (k - i) 0) ∙ first.feed (k - i) n (omega arith);
      };
    }

-- if no line is left, the text ends
pub none_left : (t : List ℕ) (i : ℕ) → i ≤ length t → lines_of (drop i t) ≡ [] → i ≡ length t
none_left t i l e =
    let none : length (drop i t) ≡ 0 = ap length (lines_none (drop i t) e) in
    omega (arith, length-drop i t)

-- an offset after a line feed is between two characters, and not inside of a break
pub feed_boundary : (t : List ℕ) (i : ℕ) → IsUtf8 t → AfterFeed t i → IsCharBoundary t i
feed_boundary t zero u a = IsCharBoundary-start t u
feed_boundary t (suc i) u a =
    ⊎_elim (λ (l : suc i < length t).
    let feed : get_or t i 0 ≡ 10 = a.feed i refl l in
    subst (λ k. IsCharBoundary t k) (add-one i) (IsCharBoundary-after_ascii t i u (omega arith) (omega arith)))
    (λ (l : length t ≤ suc i).
    let end : suc i ≡ length t = omega (arith, a.bound) in
    subst (λ k. IsCharBoundary t k) (sym end) (IsCharBoundary-end t))
    (cases_lt (suc i) (length t))

pub feed_apart : (t : List ℕ) (i : ℕ) → AfterFeed t i → inside_break t i ≡ false
feed_apart t zero a = refl
feed_apart t (suc i) a =
    ⊎_elim (λ (l : suc i < length t).
    let feed : get_or t i 0 ≡ 10 = a.feed i refl l in
    and_left (get_or t i 0 == 13) (get_or t (suc i) 0 == 10) (ne_eqb (get_or t i 0) 13 (λ e. omega arith)))
    (λ (l : length t ≤ suc i).
    let past : get_or t (suc i) 0 ≡ 0 = get_or_past t (suc i) 0 l in
    and_right (get_or t i 0 == 13) (get_or t (suc i) 0 == 10) (ne_eqb (get_or t (suc i) 0) 10 (λ e. omega arith)))
    (cases_lt (suc i) (length t))

pub feed_none : (t : List ℕ) → AfterFeed t 0
feed_none t = record { bound = omega arith; feed = λ k e l. absurd (omega arith) }

-- so its position leads back to it
pub feed_position : (e : Encoding) (t : List ℕ) (i : ℕ) → IsUtf8 t → AfterFeed t i
    → offset_of e t (position_of e t i) ≡ i
feed_position e t i u a = positions_invert e t i (feed_boundary t i u a) (feed_apart t i a)
