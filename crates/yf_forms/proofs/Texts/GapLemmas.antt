-- Laws of the white space, line breaks and comments at the head of a list.
use Rattle.std.proofs.Common.{◌≡◌, ◌≢◌, ℕ, suc, ◌+◌, ◌<◌, ◌≤◌, Bool, true, false, List, [], ◌∷◌, length, take, drop, get_or, min, max, ⊎_elim, ap, ◌∙◌, sym, subst, refl, arith, add-one, drop-cons}
use Rattle.std.proofs.lemmas.Bool.{ne_eqb, cases_lt}
use Rattle.std.proofs.lemmas.List.{take_min, length-take, get_or-take, drop_all}
use Rattle.std.specs.Prelude.{if◌then◌else◌, ◌==◌}
use Rattle.yf_chars.specs.Class.{is_break_char, is_white}
use Rattle.yf_props.specs.Props.{PropsValue}
use Rattle.yf_events.specs.declared.event.Span.{Span}
use Rattle.yf_forms.specs.Nodes.ContentStart.{content_start, gap_len, past_gap, past_second, property_len}

pub gap_feed : (k : Bool) (b : ℕ) (bs : List ℕ) → b ≡ 10 → gap_len k (b ∷ bs) ≡ suc (gap_len false bs)
unfolding gap_len is_break_char is_white
gap_feed k b bs e = ap (λ x. gap_len k (x ∷ bs)) e

pub gap_return : (k : Bool) (b : ℕ) (bs : List ℕ) → b ≡ 13 → gap_len k (b ∷ bs) ≡ suc (gap_len false bs)
unfolding gap_len is_break_char is_white
gap_return k b bs e = ap (λ x. gap_len k (x ∷ bs)) e

pub gap_comment : (k : Bool) (b : ℕ) (bs : List ℕ) → b ≢ 10 → b ≢ 13 → k ≡ true → gap_len k (b ∷ bs) ≡ suc (gap_len true bs)
unfolding gap_len is_break_char is_white
gap_comment k b bs m n e = rw (e, ne_eqb b 10 m, ne_eqb b 13 n) refl

pub gap_space : (k : Bool) (b : ℕ) (bs : List ℕ) → k ≡ false → b ≡ 32 → gap_len k (b ∷ bs) ≡ suc (gap_len false bs)
unfolding gap_len is_break_char is_white
gap_space k b bs f e = rw (f, e) refl

pub gap_tab : (k : Bool) (b : ℕ) (bs : List ℕ) → k ≡ false → b ≡ 9 → gap_len k (b ∷ bs) ≡ suc (gap_len false bs)
unfolding gap_len is_break_char is_white
gap_tab k b bs f e = rw (f, e) refl

pub gap_sign : (k : Bool) (b : ℕ) (bs : List ℕ) → k ≡ false → b ≡ 35 → gap_len k (b ∷ bs) ≡ suc (gap_len true bs)
unfolding gap_len is_break_char is_white
gap_sign k b bs f e = rw (f, e) refl

pub gap_none : (k : Bool) (b : ℕ) (bs : List ℕ) → b ≢ 10 → b ≢ 13 → k ≡ false → b ≢ 32 → b ≢ 9 → b ≢ 35 → gap_len k (b ∷ bs) ≡ 0
unfolding gap_len is_break_char is_white
gap_none k b bs m n f s h d = rw (f, ne_eqb b 10 m, ne_eqb b 13 n, ne_eqb b 32 s, ne_eqb b 9 h, ne_eqb b 35 d) refl

-- the byte at that index is the first of those from it on, in the prefix of a list
pub drop_front : (xs : List ℕ) (n i : ℕ) → i < min n (length xs) → drop i (take (min n (length xs)) xs) ≡ get_or xs i 0 ∷ drop (i + 1) (take (min n (length xs)) xs)
drop_front xs n i h =
    let ys = take (min n (length xs)) xs in
    let l : length ys ≡ min n (length xs) = rw (take_min n xs) (length-take n xs) in
    let e : get_or ys i 0 ≡ get_or xs i 0 = get_or-take (min n (length xs)) xs i 0 h in
    subst (λ k. drop i ys ≡ get_or ys i 0 ∷ drop k ys) (sym (add-one i)) (drop-cons ys i 0 (omega (arith, l, h))) ∙ ap (λ b. b ∷ drop (i + 1) ys) e

-- one byte of the gap, and the byte after it
pub gap_more : (xs : List ℕ) (n i m : ℕ) (k d : Bool) → i < min n (length xs) → m ≡ i + gap_len k (drop i (take (min n (length xs)) xs))
    → ((bs : List ℕ) → gap_len k (get_or xs i 0 ∷ bs) ≡ suc (gap_len d bs)) → m ≡ i + 1 + gap_len d (drop (i + 1) (take (min n (length xs)) xs))
gap_more xs n i m k d h e f =
    let g = ap (gap_len k) (drop_front xs n i h) ∙ f (drop (i + 1) (take (min n (length xs)) xs)) in
    omega (arith, e, g)

pub gap_over : (xs : List ℕ) (n i m : ℕ) (k : Bool) → i < min n (length xs) → m ≡ i + gap_len k (drop i (take (min n (length xs)) xs))
    → ((bs : List ℕ) → gap_len k (get_or xs i 0 ∷ bs) ≡ 0) → i ≡ m
gap_over xs n i m k h e f =
    let g = ap (gap_len k) (drop_front xs n i h) ∙ f (drop (i + 1) (take (min n (length xs)) xs)) in
    omega (arith, e, g)

-- nothing is after the end
gap_of_none : (k : Bool) → gap_len k [] ≡ 0
unfolding gap_len
gap_of_none k = refl

pub gap_past : (xs : List ℕ) (n i : ℕ) (k : Bool) → min n (length xs) ≤ i → gap_len k (drop i (take (min n (length xs)) xs)) ≡ 0
gap_past xs n i k h =
    let ys = take (min n (length xs)) xs in
    let l : length ys ≤ min n (length xs) = rw (take_min n xs) (omega (arith, length-take n xs)) in
    ap (gap_len k) (drop_all i ys (omega (arith, l, h))) ∙ gap_of_none k

pub past_gap_is : (t : List ℕ) (i n m : ℕ) → i + gap_len false (drop i (take (min n (length t)) t)) ≡ m → m ≡ past_gap t i n
unfolding past_gap
past_gap_is t i n m e = sym e ∙ ap (λ ys. i + gap_len false (drop i ys)) (take_min n t)

-- a pass over the gap at `at` that has come to i: it ends there, or with the part of the text
pub gap_ends : (t bs : List ℕ) (n stop i at : ℕ) (k : Bool) → bs ≡ t → stop ≡ min n (length bs) → i < stop
    → at + gap_len false (drop at (take stop bs)) ≡ i + gap_len k (drop i (take stop bs)) → ((cs : List ℕ) → gap_len k (get_or bs i 0 ∷ cs) ≡ 0)
    → i ≡ past_gap t at n
gap_ends t bs n stop i at k e s h inv f =
    let m = at + gap_len false (drop at (take (min n (length bs)) bs)) in
    let inv' : m ≡ i + gap_len k (drop i (take (min n (length bs)) bs)) = rw (sym s) inv in
    let over : i ≡ m = gap_over bs n i m k (rw (sym s) h) inv' f in
    subst (λ ts. i ≡ past_gap ts at n) e (over ∙ past_gap_is bs at n m refl)

pub gap_runs_out : (t bs : List ℕ) (n stop i at m : ℕ) (k : Bool) → bs ≡ t → stop ≡ min n (length bs) → stop ≤ i → at ≤ i → (at ≤ stop → i ≤ stop)
    → at + gap_len false (drop at (take stop bs)) ≡ i + gap_len k (drop i (take stop bs)) → m ≡ max at stop → m ≡ past_gap t at n
gap_runs_out t bs n stop i at m k e s h b w inv x =
    subst (λ ts. m ≡ past_gap ts at n) e (⊎_elim
    (λ (l : stop < at).
    let z : gap_len false (drop at (take (min n (length bs)) bs)) ≡ 0 = gap_past bs n at false (omega (arith, s, l)) in
    past_gap_is bs at n m (omega (arith, z, x, l)))
    (λ (l : at ≤ stop).
    let z : gap_len k (drop i (take (min n (length bs)) bs)) ≡ 0 = gap_past bs n i k (omega (arith, s, h)) in
    let inv' : at + gap_len false (drop at (take (min n (length bs)) bs)) ≡ i + gap_len k (drop i (take (min n (length bs)) bs)) = rw (sym s) inv in
    let y : i ≤ stop = w l in
    past_gap_is bs at n m (omega (arith, z, inv', x, l, y, h)))
    (cases_lt stop at))

-- The content of a node begins at its start or after it.

past_gap_later : (t : List ℕ) (i end : ℕ) → i ≤ past_gap t i end
unfolding past_gap
past_gap_later t i end = omega arith

second_later : (t : List ℕ) (i end : ℕ) (props : PropsValue) → i ≤ past_second t i end props
unfolding past_second
second_later t i end props = by (property_len t i props == 0) where
  by : (b : Bool) → i ≤ (if b then i else past_gap t (i + property_len t i props) end)
  by true = omega arith
  by false = let l = past_gap_later t (i + property_len t i props) end in omega (arith, l)

pub content_later : (t : List ℕ) (s : Span) (props : PropsValue) → s.start ≤ content_start t s props
unfolding content_start
content_later t s props = by (property_len t s.start props == 0) where
  by : (b : Bool) → s.start ≤ (if b then s.start else past_second t (past_gap t (s.start + property_len t s.start props) s.end) s.end props)
  by true = omega arith
  by false =
      let l = past_gap_later t (s.start + property_len t s.start props) s.end in
      let m = second_later t (past_gap t (s.start + property_len t s.start props) s.end) s.end props in
      omega (arith, l, m)
