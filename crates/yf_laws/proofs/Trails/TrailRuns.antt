-- What the pass over leaves finds: for each leaf the comment that is counted after it, if it trails the leaf and no
-- key.
use Rattle.std.proofs.Common.{◌≡◌, ◌≢◌, ℕ, suc, ◌+◌, ◌≤◌, ◌<◌, Bool, true, false, not, ◌&&◌, List, [], ◌∷◌, ◌++◌, length, map, drop, get_or, Option, Some, None, refl, sym, ap, ◌∙◌, arith}
use Rattle.std.specs.Prelude.{nat_lt, if◌then◌else◌}
use Rattle.std.specs.List.{list_all}
use Rattle.std.proofs.lemmas.Bool.{and_parts}
use Rattle.std.proofs.lemmas.List.{get_or-set_other, get_or-set_same, length-set}
use Rattle.yf_comments.specs.Comment.{CommentValue}
use Rattle.yf_events.specs.declared.event.Span.{Span}
use Rattle.yf_events.specs.declared.lists.Lists.{Lists}
use Rattle.yf_print.specs.declared.trails.Leaf.{Leaf}
use Rattle.yf_forms.specs.Passes.Searches.{count_to}
use Rattle.yf_print.specs.Passes.TrailPass.{TrailsSoFar, ended, given, given_if, is_at, state, trails_leaf}
use Rattle.yf_laws.proofs.Trails.LeafMarks.{Mark, in_order, not_at, past_marks}
use Rattle.yf_laws.proofs.Trails.TrailChoice.{rising, start_of_first, until}
use Rattle.yf_chars.proofs.Tests.{below, is_less}
use Rattle.yf_laws.proofs.Printer.FedLemmas.{count_within}

-- Counting from one offset on to a later one counts all before the later one.

pub counted_on : (o p : ℕ) (cs : List CommentValue) → o < p → count_to o cs + count_to p (drop (count_to o cs) cs) ≡ count_to p cs
counted_on o p [] l = refl
counted_on o p (c ∷ cs) l = by (nat_lt c.offset o) refl (counted_on o p cs l) where
  by : (b : Bool) → nat_lt c.offset o ≡ b → count_to o cs + count_to p (drop (count_to o cs) cs) ≡ count_to p cs
      → (if b then suc (count_to o cs) else 0) + count_to p (drop (if b then suc (count_to o cs) else 0) (c ∷ cs)) ≡ count_to p (c ∷ cs)
  by true e h =
      let more : suc (count_to o cs) + count_to p (drop (count_to o cs) cs) ≡ suc (count_to p cs) = omega (arith, h) in
      let low : c.offset < o = is_less c.offset o e in
      more ∙ sym (ap (λ w. if w then suc (count_to p cs) else 0) (below c.offset p (omega (arith, l, low))))
  by false e h = none (count_to p (c ∷ cs)) where
    none : (n : ℕ) → 0 + n ≡ n
    none n = omega arith

-- Leaves in sequence.

abbrev pub leaf_in : Lists → Mark → Leaf
leaf_in r l = record { event = l.event; end = l.span.end; first = count_to l.span.start r.comments }

abbrev pub spans : List Mark → List Span
spans ls = map (λ l. l.span) ls

abbrev pub end_of : Lists → List Mark → ℕ
end_of r ls = until (start_of_first (spans ls)) r.comments

abbrev pub closed_all : Lists → List Mark → TrailsSoFar → TrailsSoFar
closed_all r [] f = f
closed_all r (l ∷ ls) f = closed_all r ls (given r (Some (leaf_in r l)) (end_of r ls) f)

run_after : (r : Lists) (l : Mark) (ls : List Mark) (f : TrailsSoFar) → rising (spans (l ∷ ls)) ≡ true
    → ended r (past_marks r ls (state f (Some (leaf_in r l)))) ≡ closed_all r (l ∷ ls) f
run_after r l [] f u = refl
run_after r l (m ∷ ls) f u =
    let parts = and_parts (list_all (λ (s : Span). nat_lt l.span.start s.start) (spans (m ∷ ls))) (rising (spans (m ∷ ls))) u in
    let later : nat_lt l.span.start m.span.start ≡ true = (and_parts (nat_lt l.span.start m.span.start) (list_all (λ (s : Span). nat_lt l.span.start s.start) (spans ls)) parts.0).0 in
    ap (λ n. ended r (past_marks r ls (state (given r (Some (leaf_in r l)) n f) (Some (record { event = m.event; end = m.span.end; first = n })))))
    (counted_on l.span.start m.span.start r.comments (is_less l.span.start m.span.start later))
    ∙ run_after r m ls (given r (Some (leaf_in r l)) (end_of r (m ∷ ls)) f) parts.1

pub run_is : (r : Lists) (ls : List Mark) (f : TrailsSoFar) → rising (spans ls) ≡ true → ended r (past_marks r ls (state f None)) ≡ closed_all r ls f
run_is r [] f u = refl
run_is r (l ∷ ls) f u =
    let none : 0 + count_to l.span.start r.comments ≡ count_to l.span.start r.comments = omega arith in
    ap (λ n. ended r (past_marks r ls (state f (Some (record { event = l.event; end = l.span.end; first = n }))))) none ∙ run_after r l ls f u

-- The result for one leaf.

-- the marks of comments from an index on are equal
pub record Agree (n : ℕ) (one other : List Bool) : Type 0 where
  pub agree : (k : ℕ) → n ≤ k → get_or one k false ≡ get_or other k false

agree_later : (n m : ℕ) (one other : List Bool) → n ≤ m → Agree n one other → Agree m one other
agree_later n m one other l a = record { agree = λ k h. a.agree k (omega (arith, l, h)) }

pub trails_alike : (r : Lists) (one other : List Bool) (l : Leaf) (u : ℕ) → Agree l.first one other → trails_leaf r one l u ≡ trails_leaf r other l u
trails_alike r one other l u a =
    ap (λ b. nat_lt l.first u && (not b && is_at r l.end l.first)) (a.agree l.first (omega arith))

pub given_agrees : (r : Lists) (l : Leaf) (u : ℕ) (f : TrailsSoFar) (other : List Bool) → l.first ≤ u → Agree l.first f.trailing other → Agree u (given r (Some l) u f).trailing other
given_agrees r l u f other h a = by (trails_leaf r f.trailing l u) refl where
  by : (b : Bool) → trails_leaf r f.trailing l u ≡ b → Agree u (given_if b l f).trailing other
  by false e = agree_later l.first u f.trailing other h a
  by true e =
      let low : l.first < u = is_less l.first u (and_parts (nat_lt l.first u) _ e).0 in
      record {
        agree = λ k g.
            let other_one : k ≢ l.first = λ q. absurd (omega (arith, low, g, q)) in
            get_or-set_other f.trailing l.first k true false other_one ∙ a.agree k (omega (arith, low, g));
      }

-- the result for the event at an index isn't changed by other leaves

given_elsewhere : (r : Lists) (l : Leaf) (u : ℕ) (f : TrailsSoFar) (j : ℕ) → j ≢ l.event → get_or (given r (Some l) u f).of_leaf j None ≡ get_or f.of_leaf j None
given_elsewhere r l u f j n = by (trails_leaf r f.trailing l u) where
  by : (b : Bool) → get_or (given_if b l f).of_leaf j None ≡ get_or f.of_leaf j None
  by true = get_or-set_other f.of_leaf l.event j (Some l.first) None n
  by false = refl

closed_elsewhere : (r : Lists) (ls : List Mark) (f : TrailsSoFar) (j : ℕ) → not_at j ls ≡ true → get_or (closed_all r ls f).of_leaf j None ≡ get_or f.of_leaf j None
closed_elsewhere r [] f j n = refl
closed_elsewhere r (l ∷ ls) f j n =
    let parts = and_parts (nat_lt j l.event) (not_at j ls) n in
    let low : j < l.event = is_less j l.event parts.0 in
    closed_elsewhere r ls (given r (Some (leaf_in r l)) (end_of r ls) f) j parts.1
    ∙ given_elsewhere r (leaf_in r l) (end_of r ls) f j (λ q. absurd (omega (arith, low, q)))

given_length : (r : Lists) (l : Leaf) (u : ℕ) (f : TrailsSoFar) → length (given r (Some l) u f).of_leaf ≡ length f.of_leaf
given_length r l u f = by (trails_leaf r f.trailing l u) where
  by : (b : Bool) → length (given_if b l f).of_leaf ≡ length f.of_leaf
  by true = length-set f.of_leaf l.event (Some l.first)
  by false = refl

counted_later : (o p : ℕ) (cs : List CommentValue) → o < p → count_to o cs ≤ count_to p cs
counted_later o p cs l = let e = counted_on o p cs l in omega (arith, e)

counted_to_end : (r : Lists) (l : Mark) (ls : List Mark) → rising (spans (l ∷ ls)) ≡ true → count_to l.span.start r.comments ≤ end_of r ls
counted_to_end r l [] u = count_within l.span.start r.comments
counted_to_end r l (m ∷ ls) u =
    let parts = and_parts (list_all (λ (s : Span). nat_lt l.span.start s.start) (spans (m ∷ ls))) (rising (spans (m ∷ ls))) u in
    let later : nat_lt l.span.start m.span.start ≡ true = (and_parts (nat_lt l.span.start m.span.start) (list_all (λ (s : Span). nat_lt l.span.start s.start) (spans ls)) parts.0).0 in
    counted_later l.span.start m.span.start r.comments (is_less l.span.start m.span.start later)

-- the comment that trails the leaf, if these trail keys
abbrev pub found_of : Lists → List Bool → Mark → List Mark → Option ℕ
found_of r keys l ls = if trails_leaf r keys (leaf_in r l) (end_of r ls) then Some (count_to l.span.start r.comments) else None

-- from the first leaf on, the marks of comments are those of the keys
abbrev pub AgreeFrom : Lists → List Mark → List Bool → List Bool → Type 0
AgreeFrom r [] one other = Unit {0}
AgreeFrom r (l ∷ ls) one other = Agree (count_to l.span.start r.comments) one other

pub agree_after : (r : Lists) (l : Mark) (ls : List Mark) (f : TrailsSoFar) (keys : List Bool) → rising (spans (l ∷ ls)) ≡ true → AgreeFrom r (l ∷ ls) f.trailing keys
    → AgreeFrom r ls (given r (Some (leaf_in r l)) (end_of r ls) f).trailing keys
agree_after r l [] f keys u a = tt
agree_after r l (m ∷ ls) f keys u a = given_agrees r (leaf_in r l) (end_of r (m ∷ ls)) f keys (counted_to_end r l (m ∷ ls) u) a

pub found_at : (r : Lists) (xs : List Mark) (l : Mark) (ys : List Mark) (f : TrailsSoFar) (keys : List Bool) → rising (spans (xs ++ (l ∷ ys))) ≡ true → in_order (xs ++ (l ∷ ys)) ≡ true
    → AgreeFrom r (xs ++ (l ∷ ys)) f.trailing keys → l.event < length f.of_leaf → get_or f.of_leaf l.event None ≡ None
    → get_or (closed_all r (xs ++ (l ∷ ys)) f).of_leaf l.event None ≡ found_of r keys l ys
found_at r [] l ys f keys u o a w n =
    closed_elsewhere r ys (given r (Some (leaf_in r l)) (end_of r ys) f) l.event (and_parts (not_at l.event ys) (in_order ys) o).0
    ∙ (by (trails_leaf r f.trailing (leaf_in r l) (end_of r ys))
    ∙ ap (λ b. if b then Some (count_to l.span.start r.comments) else None) (trails_alike r f.trailing keys (leaf_in r l) (end_of r ys) a)) where
      by : (b : Bool) → get_or (given_if b (leaf_in r l) f).of_leaf l.event None ≡ (if b then Some (count_to l.span.start r.comments) else None)
      by true = get_or-set_same f.of_leaf l.event (Some (count_to l.span.start r.comments)) None w
      by false = n
found_at r (x ∷ xs) l ys f keys u o a w n =
    let us = and_parts (list_all (λ (s : Span). nat_lt x.span.start s.start) (spans (xs ++ (l ∷ ys)))) (rising (spans (xs ++ (l ∷ ys)))) u in
    let os = and_parts (not_at x.event (xs ++ (l ∷ ys))) (in_order (xs ++ (l ∷ ys))) o in
    let end : ℕ = end_of r (xs ++ (l ∷ ys)) in
    let g : TrailsSoFar = given r (Some (leaf_in r x)) end f in
    let low : x.event < l.event = is_less x.event l.event (among xs os.0) in
    let long = given_length r (leaf_in r x) end f in
    found_at r xs l ys g keys us.1 os.1 (agree_after r x (xs ++ (l ∷ ys)) f keys u a) (omega (arith, w, long))
    (given_elsewhere r (leaf_in r x) end f l.event (λ q. absurd (omega (arith, low, q))) ∙ n) where
      among : (xs : List Mark) → not_at x.event (xs ++ (l ∷ ys)) ≡ true → nat_lt x.event l.event ≡ true
      among [] e = (and_parts (nat_lt x.event l.event) (not_at x.event ys) e).0
      among (z ∷ zs) e = among zs (and_parts (nat_lt x.event z.event) (not_at x.event (zs ++ (l ∷ ys))) e).1
