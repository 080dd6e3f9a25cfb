-- The first comment after a leaf is the one that the layout finds and that the pass counts, if no comment is at the
-- leaf's start.
use Rattle.std.proofs.Common.{◌≡◌, ℕ, suc, Bool, true, false, not, ◌&&◌, List, [], ◌∷◌, ◌++◌, length, Option, Some, None, refl, sym, ap, ◌∙◌, arith}
use Rattle.std.specs.Prelude.{◌==◌, find, zip, nat_lt, nat_le, option_map, slice_get, if◌then◌else◌}
use Rattle.std.specs.List.{list_all}
use Rattle.std.proofs.lemmas.Bool.{and_parts}
use Rattle.std.proofs.lemmas.Bool.Decides.{nat_tests}
use Rattle.yf_comments.specs.Comment.{CommentValue}
use Rattle.yf_events.specs.declared.event.Span.{Span}
use Rattle.yf_forms.specs.Passes.Searches.{count_to}
use Rattle.yf_laws.specs.Layouts.Layout.{Remark, Source, first_comment, is_before, next_leaf}
use Rattle.yf_laws.proofs.Printer.FeedLemmas.{ascend}

-- the number of comments before the next leaf
abbrev pub until : Option ℕ → List CommentValue → ℕ
until None cs = length cs
until (Some end) cs = count_to end cs

-- the remark at an index, if that is before another index
abbrev pub pick : ℕ → ℕ → List Remark → Option Remark
pick n u rs = if nat_lt n u then slice_get rs n else None

-- no comment is at that offset
abbrev pub none_at : ℕ → List CommentValue → Bool
none_at o cs = list_all (λ c. not (c.offset == o)) cs

after : (o n : ℕ) → nat_lt n o ≡ false → not (n == o) ≡ true → nat_lt o n ≡ true
after o n e f = grind (arith, nat_tests)

not_after : (o n : ℕ) → nat_lt n o ≡ true → nat_lt o n ≡ false
not_after o n e = grind (arith, nat_tests)

before_next : (n o e : ℕ) → nat_lt n o ≡ true → nat_lt o e ≡ true → nat_lt n e ≡ true
before_next n o e f g = grind (arith, nat_tests)

not_before : (n m e : ℕ) → nat_le n m ≡ true → nat_lt n e ≡ false → nat_lt m e ≡ false
not_before n m e f g = grind (arith, nat_tests)

one_further : (n u : ℕ) → nat_lt (suc n) (suc u) ≡ nat_lt n u
one_further n u = grind (arith, nat_tests)

positive : (n : ℕ) → nat_lt 0 (suc n) ≡ true
positive n = grind (arith, nat_tests)

-- none of those from the next leaf on is chosen
none_found : (start n end : ℕ) (cs : List CommentValue) (bs : List Bool) → list_all (λ d. nat_le n d.offset) cs ≡ true → nat_lt n end ≡ false
    → find (λ (r : Remark). nat_lt start r.0.offset && is_before r.0.offset (Some end)) (zip cs bs) ≡ None
none_found start n end [] bs a e = refl
none_found start n end (c ∷ cs) [] a e = refl
none_found start n end (c ∷ cs) (b ∷ bs) a e =
    let parts = and_parts (nat_le n c.offset) (list_all (λ d. nat_le n d.offset) cs) a in
    let rest : Option Remark = find (λ (r : Remark). nat_lt start r.0.offset && is_before r.0.offset (Some end)) (zip cs bs) in
    ap (λ w. if nat_lt start c.offset && w then Some (c, b) else rest) (not_before n c.offset end parts.0 e)
    ∙ (ap (λ w. if w then Some (c, b) else rest) (never (nat_lt start c.offset)) ∙ none_found start n end cs bs parts.1 e) where
      never : (b : Bool) → (b && false) ≡ false
      never true = refl
      never false = refl

-- the next leaf begins later
abbrev pub Later : ℕ → Option ℕ → Type 0
Later start None = Unit {0}
Later start (Some end) = nat_lt start end ≡ true

pick_later : (start : ℕ) (next : Option ℕ) (c : CommentValue) (b : Bool) (cs : List CommentValue) (bs : List Bool) → Later start next → nat_lt c.offset start ≡ true
    → pick (suc (count_to start cs)) (until next (c ∷ cs)) ((c, b) ∷ zip cs bs) ≡ pick (count_to start cs) (until next cs) (zip cs bs)
pick_later start None c b cs bs l e = ap (λ w. if w then slice_get (zip cs bs) (count_to start cs) else None) (one_further (count_to start cs) (length cs))
pick_later start (Some end) c b cs bs l e =
    ap (λ w. if nat_lt (suc (count_to start cs)) (if w then suc (count_to end cs) else 0) then slice_get (zip cs bs) (count_to start cs) else None)
    (before_next c.offset start end e l)
    ∙ ap (λ w. if w then slice_get (zip cs bs) (count_to start cs) else None) (one_further (count_to start cs) (count_to end cs))

pub first_picked : (start : ℕ) (next : Option ℕ) (cs : List CommentValue) (bs : List Bool) → ascend cs ≡ true → none_at start cs ≡ true → Later start next
    → find (λ (r : Remark). nat_lt start r.0.offset && is_before r.0.offset next) (zip cs bs) ≡ pick (count_to start cs) (until next cs) (zip cs bs)
first_picked start next [] bs a n l = sym (nothing (nat_lt 0 (until next []))) where
  nothing : (b : Bool) → if◌then◌else◌ {A = Option Remark} b (slice_get [] 0) None ≡ None
  nothing true = refl
  nothing false = refl
first_picked start next (c ∷ cs) [] a n l = sym (nothing (count_to start (c ∷ cs)) (nat_lt (count_to start (c ∷ cs)) (until next (c ∷ cs)))) where
  nothing : (m : ℕ) (b : Bool) → if◌then◌else◌ {A = Option Remark} b (slice_get [] m) None ≡ None
  nothing m true = refl
  nothing m false = refl
first_picked start next (c ∷ cs) (b ∷ bs) a n l = by (nat_lt c.offset start) refl (first_picked start next cs bs parts.1 apart.1 l) where
  parts : (list_all (λ d. nat_le c.offset d.offset) cs ≡ true) × (ascend cs ≡ true)
  parts = and_parts (list_all (λ d. nat_le c.offset d.offset) cs) (ascend cs) a

  apart : (not (c.offset == start) ≡ true) × (none_at start cs ≡ true)
  apart = and_parts (not (c.offset == start)) (none_at start cs) n

  rest : Option ℕ → Option Remark
  rest o = find (λ (r : Remark). nat_lt start r.0.offset && is_before r.0.offset o) (zip cs bs)

  -- a comment after the leaf's start
  here : (o : Option ℕ) → (if is_before c.offset o then Some (c, b) else rest o) ≡ pick 0 (until o (c ∷ cs)) ((c, b) ∷ zip cs bs)
  here None = ap (λ w. if w then Some (c, b) else None) (sym (positive (length cs)))
  here (Some end) = before_end (nat_lt c.offset end) refl where
    before_end : (w : Bool) → nat_lt c.offset end ≡ w
        → (if w then Some (c, b) else rest (Some end)) ≡ pick 0 (if w then suc (count_to end cs) else 0) ((c, b) ∷ zip cs bs)
    before_end true e = ap (λ w. if w then Some (c, b) else None) (sym (positive (count_to end cs)))
    before_end false e = none_found start c.offset end cs bs parts.0 e

  by : (w : Bool) → nat_lt c.offset start ≡ w → rest next ≡ pick (count_to start cs) (until next cs) (zip cs bs)
      → (if nat_lt start c.offset && is_before c.offset next then Some (c, b) else rest next)
      ≡ pick (if w then suc (count_to start cs) else 0) (until next (c ∷ cs)) ((c, b) ∷ zip cs bs)
  by true e h =
      ap (λ w. if w && is_before c.offset next then Some (c, b) else rest next) (not_after start c.offset e)
      ∙ (h ∙ sym (pick_later start next c b cs bs l e))
  by false e h = ap (λ w. if w && is_before c.offset next then Some (c, b) else rest next) (after start c.offset e apart.0) ∙ here next

-- Leaves with starts that rise.

abbrev pub rising : List Span → Bool
rising [] = true
rising (s ∷ ss) = list_all (λ r. nat_lt s.start r.start) ss && rising ss

abbrev pub start_of_first : List Span → Option ℕ
start_of_first [] = None
start_of_first (s ∷ ss) = Some s.start

itself : (n : ℕ) → nat_lt n n ≡ false
itself n = grind (arith, nat_tests)

all_parts : (s : Span) (xs ys : List Span) → list_all (λ (r : Span). nat_lt s.start r.start) (xs ++ ys) ≡ true → list_all (λ (r : Span). nat_lt s.start r.start) ys ≡ true
all_parts s [] ys e = e
all_parts s (x ∷ xs) ys e = all_parts s xs ys (and_parts (nat_lt s.start x.start) (list_all (λ r. nat_lt s.start r.start) (xs ++ ys)) e).1

head_later : (n : ℕ) (s : Span) (ys : List Span) → list_all (λ (r : Span). nat_lt n r.start) (s ∷ ys) ≡ true → nat_lt n s.start ≡ true
head_later n s ys e = (and_parts (nat_lt n s.start) (list_all (λ r. nat_lt n r.start) ys) e).0

-- the next leaf after one of them is its successor
pub next_after : (xs : List Span) (s : Span) (ys : List Span) → rising (xs ++ (s ∷ ys)) ≡ true → next_leaf (xs ++ (s ∷ ys)) s.start ≡ start_of_first ys
next_after [] s [] r = ap (λ b. option_map (λ (x : Span). x.start) (if b then Some s else None)) (itself s.start)
next_after [] s (y ∷ ys) r =
    let parts = and_parts (list_all (λ x. nat_lt s.start x.start) (y ∷ ys)) (rising (y ∷ ys)) r in
    ap (λ b. option_map (λ (x : Span). x.start) (if b then Some s else find (λ (x : Span). nat_lt s.start x.start) (y ∷ ys))) (itself s.start)
    ∙ ap (λ b. option_map (λ (x : Span). x.start) (if b then Some y else find (λ (x : Span). nat_lt s.start x.start) ys)) (head_later s.start y ys parts.0)
next_after (x ∷ xs) s ys r =
    let parts = and_parts (list_all (λ z. nat_lt x.start z.start) (xs ++ (s ∷ ys))) (rising (xs ++ (s ∷ ys))) r in
    ap (λ b. option_map (λ (z : Span). z.start) (if b then Some x else find (λ (z : Span). nat_lt s.start z.start) (xs ++ (s ∷ ys))))
    (not_after s.start x.start (head_later x.start s ys (all_parts x xs (s ∷ ys) parts.0)))
    ∙ next_after xs s ys parts.1

pub next_later : (s : Span) (ys : List Span) → rising (s ∷ ys) ≡ true → Later s.start (start_of_first ys)
next_later s [] r = tt
next_later s (y ∷ ys) r = head_later s.start y ys (and_parts (list_all (λ x. nat_lt s.start x.start) (y ∷ ys)) (rising (y ∷ ys)) r).0

pub rising_after : (xs ys : List Span) → rising (xs ++ ys) ≡ true → rising ys ≡ true
rising_after [] ys r = r
rising_after (x ∷ xs) ys r = rising_after xs ys (and_parts (list_all (λ z. nat_lt x.start z.start) (xs ++ ys)) (rising (xs ++ ys)) r).1

-- So the first comment after a leaf is the one at the index that the pass counts, if it is before the next leaf.
pub first_counted : (c : Source) (cs : List CommentValue) (bs : List Bool) (xs : List Span) (s : Span) (ys : List Span) → c.remarks ≡ zip cs bs → c.leaves ≡ xs ++ (s ∷ ys)
    → ascend cs ≡ true → rising (xs ++ (s ∷ ys)) ≡ true → none_at s.start cs ≡ true
    → first_comment c s ≡ pick (count_to s.start cs) (until (start_of_first ys) cs) (zip cs bs)
first_counted c cs bs xs s ys r l a u n =
    ap (λ w. find (λ (r : Remark). nat_lt s.start r.0.offset && is_before r.0.offset (next_leaf c.leaves s.start)) w) r
    ∙ (ap (λ w. find (λ (r : Remark). nat_lt s.start r.0.offset && is_before r.0.offset (next_leaf w s.start)) (zip cs bs)) l
    ∙ (ap (λ o. find (λ (r : Remark). nat_lt s.start r.0.offset && is_before r.0.offset o) (zip cs bs)) (next_after xs s ys u)
    ∙ first_picked s.start (start_of_first ys) cs bs a n (next_later s ys (rising_after xs (s ∷ ys) u))))
