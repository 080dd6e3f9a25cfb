-- The characters and lines of double-quoted scalars (7.3.1, 5.7) add to content what `Quoted` of yf_quoted derives, in
-- which two escapes that are the halves of a pair are one character.
use Rattle.std.proofs.Common.{◌≡◌, ◌≢◌, ℕ, ◌+◌, ◌-◌, Bool, true, false, true≢false, ◌==◌, ◌&&◌, not, List, [], ◌∷◌, ◌++◌, Some, None, if◌then◌else◌, refl, sym, ap, ◌∙◌, subst, ◌⊎◌, inl, inr, ⊎_elim, arith}
use Rattle.std.proofs.lemmas.Bool.{cases_Bool, and_parts, eqb-true, eq-eqb}
use lib.Utf8.{scalar}
use Rattle.yf_chars.specs.Text.{code, next}
use Rattle.yf_chars.specs.Signs.{BACKSLASH, DOUBLE_QUOTE}
use Rattle.yf_chars.specs.Class.{is_nb_json}
use Rattle.yf_chars.specs.Chain.{Chain}
use Rattle.yf_chars.specs.Chain.Chain.{done, step}
use Rattle.yf_chars.specs.Escape.{named, number, NumericEscape, is_high, is_low, joined, NoLow, Escape}
use Rattle.yf_chars.specs.Escape.Escape.{by_letter, by_two, by_four, by_half, by_pair, by_eight}
use Rattle.yf_quoted.specs.Quoted.{Piece, goods, DoubleChar}
use Rattle.yf_quoted.specs.Quoted.Piece.{good, bad}
use Rattle.yf_quoted.specs.Quoted.DoubleChar.{unescaped, escaped, wrong}
use Rattle.yf_standard.specs.Characters.{x, ◌∖◌, nb-json, c-escape, c-double-quote}
use Rattle.yf_standard.specs.Contents.{Mark, marks, one_char, escape_value, piece_of, is_pair, pieces}
use Rattle.yf_standard.specs.Contents.Mark.{char, escape}
use Rattle.yf_standard.proofs.Meant.{Then, Either, Character}
use Rattle.yf_standard.proofs.Meant.Then.{both}
use Rattle.yf_standard.proofs.Meant.Either.{left, right}
use Rattle.yf_standard.proofs.Meant.Character.{character}
use Rattle.yf_standard.proofs.Sets.{nb_json_is}
use Rattle.yf_standard.proofs.Doubles.{Lone, no_low_of}
use Rattle.yf_standard.proofs.Doubles.Lone.{lone_char, lone_letter, lone_two, lone_four, lone_eight}
use Rattle.yf_chars.proofs.EscapeLemmas.{not_low, no_name, unnamed_x, unnamed_u, unnamed_U}

-- [62] and [107]: a character, or an escape, with its mark
pub data Marked (t : List ℕ) : ℕ → ℕ → List Mark → Type 0 where
  a_char : {i : ℕ} → is_nb_json (code t i) ≡ true → code t i ≢ BACKSLASH → code t i ≢ DOUBLE_QUOTE → Marked t i (next t i) (char (code t i) ∷ [])
  a_letter : {i v : ℕ} → code t i ≡ BACKSLASH → named (code t (i + 1)) ≡ Some v → Marked t i (i + 2) (escape v i (i + 2) ∷ [])
  a_two : {i v : ℕ} → NumericEscape t i 120 2 v → Marked t i (i + 4) (escape v i (i + 4) ∷ [])
  a_four : {i v : ℕ} → NumericEscape t i 117 4 v → Marked t i (i + 6) (escape v i (i + 6) ∷ [])
  an_eight : {i v : ℕ} → NumericEscape t i 85 8 v → Marked t i (i + 10) (escape v i (i + 10) ∷ [])

-- the number of an escape by digits
digits_value : {t : List ℕ} {i c k v j : ℕ} → NumericEscape t i c k v → named c ≡ None → j ≡ i + 2 + k → escape_value t i j (named (code t (i + 1))) ≡ v
unfolding escape_value
digits_value {t} {i} {c} {k} {v} {j} n u e =
    let q : j - (i + 2) ≡ k = omega (arith, e) in
    ap (escape_value t i j) (ap named n.letter ∙ u) ∙ ap (number t (i + 2)) q ∙ n.digits.value

pub escape_marked : {t : List ℕ} {i j : ℕ} → code t i ≡ BACKSLASH → Lone t i j → Marked t i j (escape (escape_value t i j (named (code t (i + 1)))) i j ∷ [])
unfolding escape_value
escape_marked b (lone_char a n d) = absurd (n b)
escape_marked {t} b (lone_letter {i = i} {v = v} a e) =
    let q : v ≡ escape_value t i (i + 2) (named (code t (i + 1))) = sym (ap (escape_value t i (i + 2)) e) in
    subst (λ z. Marked t i (i + 2) (escape z i (i + 2) ∷ [])) q (a_letter a e)
escape_marked {t} b (lone_two {i = i} n) =
    subst (λ z. Marked t i (i + 4) (escape z i (i + 4) ∷ [])) (sym (digits_value n unnamed_x (omega arith))) (a_two n)
escape_marked {t} b (lone_four {i = i} n) =
    subst (λ z. Marked t i (i + 6) (escape z i (i + 6) ∷ [])) (sym (digits_value n unnamed_u (omega arith))) (a_four n)
escape_marked {t} b (lone_eight {i = i} n) =
    subst (λ z. Marked t i (i + 10) (escape z i (i + 10) ∷ [])) (sym (digits_value n unnamed_U (omega arith))) (an_eight n)

pub backslash_first : {t : List ℕ} {Q : ℕ → ℕ → List Mark → Type 0} {i j : ℕ} {y : List Mark} → Then (Character t one_char c-escape) Q i j y → code t i ≡ BACKSLASH
unfolding c-escape x
backslash_first {t} (both (character {i = i} e) r) = eqb-true (code t i) 92 e

-- [107]
pub double_char_marked : {t : List ℕ} {i j : ℕ} {y : List Mark} → Either (Marked t) (Character t one_char (nb-json ∖ c-escape ∖ c-double-quote)) i j y → Marked t i j y
unfolding ◌∖◌ x c-escape c-double-quote
double_char_marked (left m) = m
double_char_marked {t} (right (character {i = i} e)) =
    let p = and_parts (nb-json (code t i) && not (code t i == 92)) (not (code t i == 34)) e in
    let q = and_parts (nb-json (code t i)) (not (code t i == 92)) p.0 in
    a_char (sym (nb_json_is (code t i)) ∙ q.0) (differs (code t i) 92 q.1) (differs (code t i) 34 p.1)
  where
    differs : (c k : ℕ) → not (c == k) ≡ true → c ≢ k
    differs c k e z = true≢false (sym e ∙ rw (eq-eqb c k z) refl)

-- the meaning of an escape, or of the first half of a pair
pub as_piece : {t : List ℕ} {i j v : ℕ} → Escape t i j v → DoubleChar t i j (piece_of v i ∷ [])
unfolding piece_of
as_piece {t} {i} {j} {v} e = ⊎_elim known unknown (cases_Bool (scalar v)) where
  known : scalar v ≡ true → DoubleChar t i j ((if scalar v then good v else bad i) ∷ [])
  known s = subst (λ z. DoubleChar t i j ((if z then good v else bad i) ∷ [])) (sym s) (escaped e s)

  unknown : scalar v ≡ false → DoubleChar t i j ((if scalar v then good v else bad i) ∷ [])
  unknown n = subst (λ z. DoubleChar t i j ((if z then good v else bad i) ∷ [])) (sym n) (wrong e (λ s. true≢false (sym s ∙ n)))

pub four_piece : {t : List ℕ} {i v : ℕ} → NumericEscape t i 117 4 v → NoLow t (i + 6) → DoubleChar t i (i + 6) (piece_of v i ∷ [])
four_piece {t} {i} {v} a n = ⊎_elim (λ (h : is_high v ≡ true). as_piece (by_half a h n)) (λ (l : is_high v ≡ false). as_piece (by_four a l)) (cases_Bool (is_high v))

-- an escape and a mark after it that are not a pair
apart : (v i k w g j : ℕ) (y : List Mark) → is_pair v i k w g j ≡ false → pieces (escape v i k ∷ escape w g j ∷ y) ≡ piece_of v i ∷ pieces (escape w g j ∷ y)
unfolding pieces
apart v i k w g j y e = rw e refl

unequal : (a b : ℕ) → a ≢ b → (a == b) ≡ false
unequal a b n = ⊎_elim (λ (e : (a == b) ≡ true). absurd (n (eqb-true a b e))) (λ e. e) (cases_Bool (a == b))

none_right : (b : Bool) → (b && false) ≡ false
none_right true = refl
none_right false = refl

last_false : (a b c : Bool) → c ≡ false → (a && (b && c)) ≡ false
last_false true true c e = e
last_false true false c e = refl
last_false false b c e = refl

pub not_first : (i k v : ℕ) (y : List Mark) → k ≢ i + 6 → pieces (escape v i k ∷ y) ≡ piece_of v i ∷ pieces y
unfolding pieces is_pair
not_first i k v [] n = refl
not_first i k v (char c ∷ y) n = refl
not_first i k v (escape w g j ∷ y) n = apart v i k w g j y (rw (unequal k (i + 6) n, none_right (is_high v && is_low w)) refl)

not_second : (i k v w g j : ℕ) (y : List Mark) → j ≢ k + 6 → pieces (escape v i k ∷ escape w g j ∷ y) ≡ piece_of v i ∷ pieces (escape w g j ∷ y)
unfolding is_pair
not_second i k v w g j y n =
    apart v i k w g j y (rw (unequal j (k + 6) n, none_right (g == k), none_right (k == i + 6), none_right (is_high v && is_low w)) refl)

not_high : (i k v w g j : ℕ) (y : List Mark) → is_high v ≡ false → pieces (escape v i k ∷ escape w g j ∷ y) ≡ piece_of v i ∷ pieces (escape w g j ∷ y)
unfolding is_pair
not_high i k v w g j y n = apart v i k w g j y (rw n refl)

not_a_low : (i k v w g j : ℕ) (y : List Mark) → is_low w ≡ false → pieces (escape v i k ∷ escape w g j ∷ y) ≡ piece_of v i ∷ pieces (escape w g j ∷ y)
unfolding is_pair
not_a_low i k v w g j y n = apart v i k w g j y (rw (n, none_right (is_high v)) refl)

a_pair : (i v w : ℕ) (y : List Mark) → is_high v ≡ true → is_low w ≡ true
    → pieces (escape v i (i + 6) ∷ escape w (i + 6) (i + 6 + 6) ∷ y) ≡ piece_of (joined v w) i ∷ pieces y
unfolding pieces is_pair
a_pair i v w y h l = rw (h, l, eq-eqb (i + 6) (i + 6) refl, eq-eqb (i + 6 + 6) (i + 6 + 6) refl) refl

pub pieces_marks : (u : List ℕ) (y : List Mark) → pieces (marks u ++ y) ≡ goods u ++ pieces y
unfolding pieces
pieces_marks [] y = refl
pieces_marks (c ∷ u) y = ap (λ z. good c ∷ z) (pieces_marks u y)

-- the marks don't begin with the second half of a pair whose first half ends at i
abbrev pub Fresh : ℕ → List Mark → Type 0
Fresh i [] = Unit {0}
Fresh i (char c ∷ y) = Unit {0}
Fresh i (escape w g j ∷ y) = g ≡ i → j ≡ i + 6 → is_low w ≡ false

pub fresh_after : (i v : ℕ) (y : List Mark) → Fresh (i + 6) y → pieces (escape v i (i + 6) ∷ y) ≡ piece_of v i ∷ pieces y
unfolding pieces is_pair
fresh_after i v [] f = refl
fresh_after i v (char c ∷ y) f = refl
fresh_after i v (escape w g j ∷ y) f = ⊎_elim same (λ n. apart v i (i + 6) w g j y (last_false (is_high v && is_low w) (i + 6 == i + 6) ((g == i + 6) && (j == i + 6 + 6)) n)) (cases_Bool ((g == i + 6) && (j == i + 6 + 6))) where
  same : ((g == i + 6) && (j == i + 6 + 6)) ≡ true → pieces (escape v i (i + 6) ∷ escape w g j ∷ y) ≡ piece_of v i ∷ pieces (escape w g j ∷ y)
  same e = let p = and_parts (g == i + 6) (j == i + 6 + 6) e in not_a_low i (i + 6) v w g j y (f (eqb-true g (i + 6) p.0) (eqb-true j (i + 6 + 6) p.1))

-- two adjacent escapes with four digits: a pair, or two separate escapes
abbrev Paired : List ℕ → ℕ → ℕ → ℕ → Type 0
Paired t i v w = ((is_high v ≡ true) × (is_low w ≡ true)) ⊎ ((is_high v ≡ false) ⊎ ((is_low w ≡ false) × NoLow t (i + 6)))

paired : {t : List ℕ} {w : ℕ} (i v : ℕ) → NumericEscape t (i + 6) 117 4 w → Paired t i v w
paired {t} {w} i v b =
    ⊎_elim (λ (h : is_high v ≡ true). ⊎_elim (λ (l : is_low w ≡ true). inl (h, l)) (λ (m : is_low w ≡ false). inr (inr (m, not_low b m))) (cases_Bool (is_low w)))
    (λ (l : is_high v ≡ false). inr (inl l)) (cases_Bool (is_high v))

pair_piece : {t : List ℕ} {i v w : ℕ} → NumericEscape t i 117 4 v → is_high v ≡ true → NumericEscape t (i + 6) 117 4 w → is_low w ≡ true
    → DoubleChar t i (i + 6 + 6) (piece_of (joined v w) i ∷ [])
pair_piece {t} {i} {v} {w} a h b l =
    let e : i + 12 ≡ i + 6 + 6 = omega arith in subst (λ z. DoubleChar t i z (piece_of (joined v w) i ∷ [])) e (as_piece (by_pair a h b l))

-- no half of a pair begins with another mark
pub char_low : {t : List ℕ} {i : ℕ} → code t i ≢ BACKSLASH → NoLow t i
char_low n = no_low_of (λ q. absurd (n q))

letter_low : {t : List ℕ} {i v : ℕ} → named (code t (i + 1)) ≡ Some v → NoLow t i
letter_low e = no_low_of (λ _ q. no_name 117 unnamed_u q e)

other_low : {t : List ℕ} {i c k v : ℕ} → NumericEscape t i c k v → c ≢ 117 → NoLow t i
other_low n d = no_low_of (λ _ q. absurd (d (sym n.letter ∙ q)))

-- an escape by four digits, and the mark directly after it
pub data FourThen (t : List ℕ) (i k v : ℕ) (x y : List Mark) : Type 0 where
  alone : DoubleChar t i (i + 6) (piece_of v i ∷ []) → pieces (escape v i (i + 6) ∷ (x ++ y)) ≡ piece_of v i ∷ pieces (x ++ y) → FourThen t i k v x y
  as_pair : {p : Piece} → DoubleChar t i k (p ∷ []) → pieces (escape v i (i + 6) ∷ (x ++ y)) ≡ p ∷ pieces y → FourThen t i k v x y

pub four_then : {t : List ℕ} {i k v : ℕ} {x : List Mark} (y : List Mark) → NumericEscape t i 117 4 v → Marked t (i + 6) k x → FourThen t i k v x y
unfolding pieces
four_then y a (a_char b d e) = alone (four_piece a (char_low d)) refl
four_then {i = i} {v = v} y a (a_letter {v = w} b d) = alone (four_piece a (letter_low d)) (not_second i (i + 6) v w (i + 6) (i + 6 + 2) y (λ q. absurd (omega (arith, q))))
four_then {i = i} {v = v} y a (a_two {v = w} b) = alone (four_piece a (other_low b (λ q. absurd (omega (arith, q))))) (not_second i (i + 6) v w (i + 6) (i + 6 + 4) y (λ q. absurd (omega (arith, q))))
four_then {i = i} {v = v} y a (an_eight {v = w} b) = alone (four_piece a (other_low b (λ q. absurd (omega (arith, q))))) (not_second i (i + 6) v w (i + 6) (i + 6 + 10) y (λ q. absurd (omega (arith, q))))
four_then {t} {i} {v = v} y a (a_four {v = w} b) = ⊎_elim (λ (p : (is_high v ≡ true) × (is_low w ≡ true)). as_pair (pair_piece a p.0 b p.1) (a_pair i v w y p.0 p.1)) (λ o. ⊎_elim by_first by_second o) (paired i v b) where
  by_first : is_high v ≡ false → FourThen t i (i + 6 + 6) v (escape w (i + 6) (i + 6 + 6) ∷ []) y
  by_first l = alone (as_piece (by_four a l)) (not_high i (i + 6) v w (i + 6) (i + 6 + 6) y l)

  by_second : (is_low w ≡ false) × NoLow t (i + 6) → FourThen t i (i + 6 + 6) v (escape w (i + 6) (i + 6 + 6) ∷ []) y
  by_second m = alone (four_piece a m.1) (not_a_low i (i + 6) v w (i + 6) (i + 6 + 6) y m.0)

-- a key's characters, in sequence
module _ {t : List ℕ} where
  char_first : {i k j : ℕ} {z : List Piece} (y : List Mark) (q : List Piece) → DoubleChar t i k q → Chain (DoubleChar t) k j z → pieces y ≡ q ++ z → Chain (DoubleChar t) i j (pieces y)
  char_first {i = i} {j = j} y q c r e = subst (λ z. Chain (DoubleChar t) i j z) (sym e) (step c r)

  four_chars : {i k j v : ℕ} {x y : List Mark} → FourThen t i k v x y → Chain (DoubleChar t) (i + 6) j (pieces (x ++ y)) → Chain (DoubleChar t) k j (pieces y) → Chain (DoubleChar t) i j (pieces (escape v i (i + 6) ∷ (x ++ y)))
  four_chars {i = i} {v = v} {x = x} {y = y} (alone c e) r s = char_first (escape v i (i + 6) ∷ (x ++ y)) (piece_of v i ∷ []) c r e
  four_chars {i = i} {v = v} {x = x} {y = y} (as_pair {p = p} c e) r s = char_first (escape v i (i + 6) ∷ (x ++ y)) (p ∷ []) c s e

  pub chars_pieces : {i j : ℕ} {x : List Mark} → Chain (Marked t) i j x → NoLow t j → Chain (DoubleChar t) i j (pieces x)
  unfolding pieces
  chars_pieces done n = done
  chars_pieces (step {y = y} (a_char {i = i} a b c) s) n = char_first (char (code t i) ∷ y) (good (code t i) ∷ []) (unescaped a b c) (chars_pieces s n) refl
  chars_pieces (step {y = y} (a_letter {i = i} {v = v} a b) s) n = char_first (escape v i (i + 2) ∷ y) (piece_of v i ∷ []) (as_piece (by_letter a b)) (chars_pieces s n) (not_first i (i + 2) v y (λ q. absurd (omega (arith, q))))
  chars_pieces (step {y = y} (a_two {i = i} {v = v} a) s) n = char_first (escape v i (i + 4) ∷ y) (piece_of v i ∷ []) (as_piece (by_two a)) (chars_pieces s n) (not_first i (i + 4) v y (λ q. absurd (omega (arith, q))))
  chars_pieces (step {y = y} (an_eight {i = i} {v = v} a) s) n = char_first (escape v i (i + 10) ∷ y) (piece_of v i ∷ []) (as_piece (by_eight a)) (chars_pieces s n) (not_first i (i + 10) v y (λ q. absurd (omega (arith, q))))
  chars_pieces (step (a_four {i = i} {v = v} a) done) n = char_first (escape v i (i + 6) ∷ []) (piece_of v i ∷ []) (four_piece a n) done refl
  chars_pieces (step (a_four a) (step {y = y} m s)) n = four_chars (four_then y a m) (chars_pieces (step m s) n) (chars_pieces s n)
