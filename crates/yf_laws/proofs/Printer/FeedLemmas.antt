-- Rows that are added to a draft in sequence are printed as the lines of the layout: the comments before each row are
-- those followed by an item on it.
use Rattle.std.proofs.Common.{◌≡◌, ℕ, zero, suc, ◌+◌, Bool, true, false, ◌&&◌, List, [], ◌∷◌, ◌++◌, length, get_or, take, drop, refl, sym, ap, ◌∙◌, arith}
use Rattle.std.specs.Prelude.{filter, not, ◌||◌, nat_lt, nat_le, if◌then◌else◌}
use Rattle.std.specs.List.{list_all, list_any}
use Rattle.std.proofs.lemmas.Bool.{and_parts}
use Rattle.std.proofs.lemmas.Bool.Decides.{nat_tests}
use Rattle.std.proofs.lemmas.List.{take-append-drop}
use Rattle.std.proofs.lemmas.List.Elements.{filter-append}
use Rattle.yf_comments.specs.Comment.{CommentValue}
use Rattle.yf_forms.specs.Passes.Searches.{count_to}

-- comments that ascend
abbrev pub ascend : List CommentValue → Bool
ascend [] = true
ascend (c ∷ cs) = list_all (λ d. nat_le c.offset d.offset) cs && ascend cs

-- the comments that do not trail; the first comment has that index
abbrev pub left : List Bool → ℕ → List CommentValue → List CommentValue
left trailing k [] = []
left trailing k (c ∷ cs) = if get_or trailing k false then left trailing (k + 1) cs else c ∷ left trailing (k + 1) cs

abbrev pub precedes : List ℕ → CommentValue → Bool
precedes items c = list_any (λ item. nat_lt c.offset item) items

-- the number of comments that the offsets count off: each in turn those at the front that are before it
abbrev pub counted : List ℕ → List CommentValue → ℕ
counted [] cs = 0
counted (o ∷ os) cs = count_to o cs + counted os (drop (count_to o cs) cs)

pub left_append : (trailing : List Bool) (k : ℕ) (xs ys : List CommentValue) → left trailing k (xs ++ ys) ≡ left trailing k xs ++ left trailing (k + length xs) ys
left_append trailing k [] ys = let n : k ≡ k + 0 = omega arith in ap (λ m. left trailing m ys) n
left_append trailing k (x ∷ xs) ys =
    let n : (k + 1) + length xs ≡ k + suc (length xs) = omega arith in
    by (get_or trailing k false) (left_append trailing (k + 1) xs ys ∙ ap (λ m. left trailing (k + 1) xs ++ left trailing m ys) n) where
      by : (b : Bool) → left trailing (k + 1) (xs ++ ys) ≡ left trailing (k + 1) xs ++ left trailing (k + suc (length xs)) ys
          → (if b then left trailing (k + 1) (xs ++ ys) else x ∷ left trailing (k + 1) (xs ++ ys))
          ≡ (if b then left trailing (k + 1) xs else x ∷ left trailing (k + 1) xs) ++ left trailing (k + suc (length xs)) ys
      by true h = h
      by false h = ap (λ w. x ∷ w) h

-- all of them have an offset before this one, or all at or after it
abbrev before : ℕ → List CommentValue → Bool
before o cs = list_all (λ c. nat_lt c.offset o) cs

abbrev pub from_on : ℕ → List CommentValue → Bool
from_on o cs = list_all (λ c. not (nat_lt c.offset o)) cs

counted_before : (o : ℕ) (cs : List CommentValue) → before o (take (count_to o cs) cs) ≡ true
counted_before o [] = refl
counted_before o (c ∷ cs) = by (nat_lt c.offset o) refl (counted_before o cs) where
  by : (b : Bool) → nat_lt c.offset o ≡ b → before o (take (count_to o cs) cs) ≡ true
      → before o (take (if b then suc (count_to o cs) else 0) (c ∷ cs)) ≡ true
  by true e h = ap (λ w. w && before o (take (count_to o cs) cs)) e ∙ h
  by false e h = refl

later : (o n : ℕ) (cs : List CommentValue) → list_all (λ d. nat_le n d.offset) cs ≡ true → nat_lt n o ≡ false → from_on o cs ≡ true
later o n [] a e = refl
later o n (c ∷ cs) a e =
    let parts = and_parts (nat_le n c.offset) (list_all (λ d. nat_le n d.offset) cs) a in
    ap (λ w. not w && from_on o cs) (not_less n c.offset o parts.0 e) ∙ later o n cs parts.1 e where
      not_less : (n m o : ℕ) → nat_le n m ≡ true → nat_lt n o ≡ false → nat_lt m o ≡ false
      not_less n m o l e = grind (arith, nat_tests)

counted_rest : (o : ℕ) (cs : List CommentValue) → ascend cs ≡ true → from_on o (drop (count_to o cs) cs) ≡ true
counted_rest o [] a = refl
counted_rest o (c ∷ cs) a = by (nat_lt c.offset o) refl (counted_rest o cs parts.1) where
  parts : (list_all (λ d. nat_le c.offset d.offset) cs ≡ true) × (ascend cs ≡ true)
  parts = and_parts (list_all (λ d. nat_le c.offset d.offset) cs) (ascend cs) a

  by : (b : Bool) → nat_lt c.offset o ≡ b → from_on o (drop (count_to o cs) cs) ≡ true
      → from_on o (drop (if b then suc (count_to o cs) else 0) (c ∷ cs)) ≡ true
  by true e h = h
  by false e h = ap (λ w. not w && from_on o cs) e ∙ later o c.offset cs parts.0 e

pub ascend_rest : (n : ℕ) (cs : List CommentValue) → ascend cs ≡ true → ascend (drop n cs) ≡ true
ascend_rest zero cs a = a
ascend_rest (suc n) [] a = refl
ascend_rest (suc n) (c ∷ cs) a = ascend_rest n cs (and_parts (list_all (λ d. nat_le c.offset d.offset) cs) (ascend cs) a).1

-- The comments left among those before an offset precede it; the others precede only another item.

all_precede : (o : ℕ) (os : List ℕ) (trailing : List Bool) (k : ℕ) (cs : List CommentValue) → before o cs ≡ true
    → filter (precedes (o ∷ os)) (left trailing k cs) ≡ left trailing k cs
all_precede o os trailing k [] a = refl
all_precede o os trailing k (c ∷ cs) a = by (get_or trailing k false) (all_precede o os trailing (k + 1) cs parts.1) where
  parts : (nat_lt c.offset o ≡ true) × (before o cs ≡ true)
  parts = and_parts (nat_lt c.offset o) (before o cs) a

  by : (b : Bool) → filter (precedes (o ∷ os)) (left trailing (k + 1) cs) ≡ left trailing (k + 1) cs
      → filter (precedes (o ∷ os)) (if b then left trailing (k + 1) cs else c ∷ left trailing (k + 1) cs)
      ≡ (if b then left trailing (k + 1) cs else c ∷ left trailing (k + 1) cs)
  by true h = h
  by false h =
      ap (λ w. if w || precedes os c then c ∷ filter (precedes (o ∷ os)) (left trailing (k + 1) cs) else filter (precedes (o ∷ os)) (left trailing (k + 1) cs)) parts.0
      ∙ ap (λ w. c ∷ w) (h)

none_stays : (o : ℕ) (os : List ℕ) (trailing : List Bool) (k : ℕ) (cs : List CommentValue) → before o cs ≡ true
    → filter (λ c. not (precedes (o ∷ os) c)) (left trailing k cs) ≡ []
none_stays o os trailing k [] a = refl
none_stays o os trailing k (c ∷ cs) a = by (get_or trailing k false) (none_stays o os trailing (k + 1) cs parts.1) where
  parts : (nat_lt c.offset o ≡ true) × (before o cs ≡ true)
  parts = and_parts (nat_lt c.offset o) (before o cs) a

  by : (b : Bool) → filter (λ c. not (precedes (o ∷ os) c)) (left trailing (k + 1) cs) ≡ []
      → filter (λ c. not (precedes (o ∷ os) c)) (if b then left trailing (k + 1) cs else c ∷ left trailing (k + 1) cs) ≡ []
  by true h = h
  by false h =
      ap (λ w. if not (w || precedes os c) then c ∷ filter (λ c. not (precedes (o ∷ os) c)) (left trailing (k + 1) cs) else filter (λ c. not (precedes (o ∷ os) c)) (left trailing (k + 1) cs)) parts.0
      ∙ h

-- for comments from an offset on, a test depends only on the other items
as_others : (o : ℕ) (os : List ℕ) (f : Bool → Bool) (trailing : List Bool) (k : ℕ) (cs : List CommentValue) → from_on o cs ≡ true
    → filter (λ c. f (precedes (o ∷ os) c)) (left trailing k cs) ≡ filter (λ c. f (precedes os c)) (left trailing k cs)
as_others o os f trailing k [] a = refl
as_others o os f trailing k (c ∷ cs) a = by (get_or trailing k false) (as_others o os f trailing (k + 1) cs parts.1) where
  parts : (not (nat_lt c.offset o) ≡ true) × (from_on o cs ≡ true)
  parts = and_parts (not (nat_lt c.offset o)) (from_on o cs) a

  is_false : (b : Bool) → not b ≡ true → b ≡ false
  is_false true e = absurd cc
  is_false false e = refl

  by : (b : Bool) → filter (λ c. f (precedes (o ∷ os) c)) (left trailing (k + 1) cs) ≡ filter (λ c. f (precedes os c)) (left trailing (k + 1) cs)
      → filter (λ c. f (precedes (o ∷ os) c)) (if b then left trailing (k + 1) cs else c ∷ left trailing (k + 1) cs)
      ≡ filter (λ c. f (precedes os c)) (if b then left trailing (k + 1) cs else c ∷ left trailing (k + 1) cs)
  by true h = h
  by false h =
      ap (λ w. if f (w || precedes os c) then c ∷ filter (λ c. f (precedes (o ∷ os) c)) (left trailing (k + 1) cs) else filter (λ c. f (precedes (o ∷ os) c)) (left trailing (k + 1) cs)) (is_false (nat_lt c.offset o) parts.0)
      ∙ ap (λ w. if f (precedes os c) then c ∷ w else w) (h)

none_precedes : (cs : List CommentValue) → filter (precedes []) cs ≡ []
none_precedes [] = refl
none_precedes (c ∷ cs) = none_precedes cs

all_stay : (cs : List CommentValue) → filter (λ c. not (precedes [] c)) cs ≡ cs
all_stay [] = refl
all_stay (c ∷ cs) = ap (λ w. c ∷ w) (all_stay cs)

length_counted : (o : ℕ) (cs : List CommentValue) → length (take (count_to o cs) cs) ≡ count_to o cs
length_counted o [] = refl
length_counted o (c ∷ cs) = by (nat_lt c.offset o) (length_counted o cs) where
  by : (b : Bool) → length (take (count_to o cs) cs) ≡ count_to o cs
      → length (take (if b then suc (count_to o cs) else 0) (c ∷ cs)) ≡ (if b then suc (count_to o cs) else 0)
  by true h = ap suc h
  by false h = refl

pub drop_twice : (n m : ℕ) (cs : List CommentValue) → drop m (drop n cs) ≡ drop (n + m) cs
drop_twice zero m cs = let e : m ≡ 0 + m = omega arith in ap (λ w. drop w cs) e
drop_twice (suc n) m [] = none m ∙ sym (none (suc n + m)) where
  none : (m : ℕ) → drop {A = CommentValue} m [] ≡ []
  none zero = refl
  none (suc m) = refl
drop_twice (suc n) m (c ∷ cs) = let e : suc (n + m) ≡ suc n + m = omega arith in drop_twice n m cs ∙ ap (λ w. drop w (c ∷ cs)) e

take_sum : (n m : ℕ) (cs : List CommentValue) → take (n + m) cs ≡ take n cs ++ take m (drop n cs)
take_sum zero m cs = let e : 0 + m ≡ m = omega arith in ap (λ w. take w cs) e
take_sum (suc n) m [] = let e : suc n + m ≡ suc (n + m) = omega arith in ap (λ w. take w []) e ∙ sym (none m) where
  none : (m : ℕ) → take {A = CommentValue} m [] ≡ []
  none zero = refl
  none (suc m) = refl
take_sum (suc n) m (c ∷ cs) = let e : suc n + m ≡ suc (n + m) = omega arith in ap (λ w. take w (c ∷ cs)) e ∙ ap (λ w. c ∷ w) (take_sum n m cs)

-- Of ascending comments, those followed by an item come first, and the others stay.

pub first_ones : (items : List ℕ) (trailing : List Bool) (k : ℕ) (cs : List CommentValue) → ascend cs ≡ true
    → filter (precedes items) (left trailing k cs) ≡ left trailing k (take (counted items cs) cs)
first_ones [] trailing k cs a = none_precedes (left trailing k cs)
first_ones (o ∷ os) trailing k cs a =
    let n = count_to o cs in
    let xs = take n cs in
    let ys = drop n cs in
    ap (λ w. filter (precedes (o ∷ os)) (left trailing k w)) (sym (take-append-drop n cs))
    ∙ (ap (filter (precedes (o ∷ os))) (left_append trailing k xs ys)
    ∙ (filter-append (precedes (o ∷ os)) (left trailing k xs) (left trailing (k + length xs) ys)
    ∙ (ap (λ w. w ++ filter (precedes (o ∷ os)) (left trailing (k + length xs) ys)) (all_precede o os trailing k xs (counted_before o cs))
    ∙ (ap (λ w. left trailing k xs ++ w) (as_others o os (λ b. b) trailing (k + length xs) ys (counted_rest o cs a)
    ∙ first_ones os trailing (k + length xs) ys (ascend_rest n cs a))
    ∙ (sym (left_append trailing k xs (take (counted os ys) ys))
    ∙ ap (left trailing k) (sym (take_sum n (counted os ys) cs)))))))

pub other_ones : (items : List ℕ) (trailing : List Bool) (k : ℕ) (cs : List CommentValue) → ascend cs ≡ true
    → filter (λ c. not (precedes items c)) (left trailing k cs) ≡ left trailing (k + counted items cs) (drop (counted items cs) cs)
other_ones [] trailing k cs a = let e : k ≡ k + 0 = omega arith in all_stay (left trailing k cs) ∙ ap (λ w. left trailing w cs) e
other_ones (o ∷ os) trailing k cs a =
    let n = count_to o cs in
    let xs = take n cs in
    let ys = drop n cs in
    let p = λ (c : CommentValue). not (precedes (o ∷ os) c) in
    let l : length xs ≡ n = length_counted o cs in
    let e : k + length xs + counted os ys ≡ k + (n + counted os ys) = omega (arith, l) in
    ap (λ w. filter p (left trailing k w)) (sym (take-append-drop n cs))
    ∙ (ap (filter p) (left_append trailing k xs ys)
    ∙ (filter-append p (left trailing k xs) (left trailing (k + length xs) ys)
    ∙ (ap (λ w. w ++ filter p (left trailing (k + length xs) ys)) (none_stays o os trailing k xs (counted_before o cs))
    ∙ (as_others o os not trailing (k + length xs) ys (counted_rest o cs a)
    ∙ (other_ones os trailing (k + length xs) ys (ascend_rest n cs a)
    ∙ (ap (λ w. left trailing w (drop (counted os ys) ys)) e
    ∙ ap (left trailing (k + (n + counted os ys))) (drop_twice n (counted os ys) cs)))))))
