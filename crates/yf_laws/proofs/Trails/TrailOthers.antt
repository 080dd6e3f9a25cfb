-- The comments that the pass finds to trail nothing are those that the layout puts on lines of their own.
use Rattle.std.proofs.Common.{◌≡◌, ℕ, zero, suc, ◌+◌, Bool, true, false, not, ◌&&◌, List, [], ◌∷◌, ◌++◌, length, map, flat_map, get_or, Option, Some, None, refl, sym, ap, ◌∙◌, arith}
use Rattle.std.specs.Prelude.{◌||◌, ◌==◌, filter, nat_lt, option_to_list, slice_get, zip, if◌then◌else◌}
use Rattle.std.specs.List.{list_all, list_any}
use Rattle.std.proofs.lemmas.Bool.{and_parts}
use Rattle.std.proofs.lemmas.Bool.Decides.{nat_tests}
use Rattle.std.proofs.lemmas.Grind.{flat_map-append}
use Rattle.yf_comments.specs.Comment.{CommentValue}
use Rattle.yf_events.specs.declared.event.Span.{Span}
use Rattle.yf_events.proofs.Advances.{not_zero}
use Rattle.yf_laws.specs.Layouts.Layout.{Remark, Source, first_comment, is_among, own_line_comments, trailing, trailing_leaf}
use Rattle.yf_print.specs.Layouts.Rows.{Row}
use Rattle.yf_laws.proofs.Printer.FeedLemmas.{left}
use Rattle.yf_forms.proofs.Decide.LeafLemmas.{same, other as differ_back}
use Rattle.yf_laws.proofs.SameReading.CommentsCut.{among_join}

-- Comments by their offsets.

shuffled : (a b c d : Bool) → ((a || b) || (c || d)) ≡ ((a || c) || (b || d))
shuffled true b c d = refl
shuffled false true true d = refl
shuffled false true false d = refl
shuffled false false true d = refl
shuffled false false false d = refl

-- the comments that trail the rows are those that trail keys and those that trail leaves
pub among_rows : (c : Source) (rows : List Row) (d : CommentValue)
    → is_among (flat_map (trailing c) rows) d
    ≡ (is_among (flat_map (λ row. option_to_list row.key_comment) rows) d
    || is_among (flat_map (λ leaf. trailing_leaf c leaf (first_comment c leaf)) (flat_map (λ row. row.leaves) rows)) d)
among_rows c [] d = refl
among_rows c (row ∷ rows) d =
    let of_leaf : Span → List CommentValue = λ leaf. trailing_leaf c leaf (first_comment c leaf) in
    let key : List CommentValue = option_to_list row.key_comment in
    let mine : List CommentValue = flat_map of_leaf row.leaves in
    let keys : List CommentValue = flat_map (λ (r : Row). option_to_list r.key_comment) rows in
    let others : List Span = flat_map (λ (r : Row). r.leaves) rows in
    among_join (trailing c row) (flat_map (trailing c) rows) d
    ∙ (ap (λ b. b || is_among (flat_map (trailing c) rows) d) (among_join key mine d)
    ∙ (ap (λ b. (is_among key d || is_among mine d) || b) (among_rows c rows d)
    ∙ (shuffled (is_among key d) (is_among mine d) (is_among keys d) (is_among (flat_map of_leaf others) d)
    ∙ (ap (λ b. b || (is_among mine d || is_among (flat_map of_leaf others) d)) (sym (among_join key keys d))
    ∙ (ap (λ b. is_among (key ++ keys) d || b) (sym (among_join mine (flat_map of_leaf others) d))
    ∙ ap (λ w. is_among (key ++ keys) d || is_among w d) (sym (flat_map-append of_leaf row.leaves others)))))))

-- The comments that are left.

pub firsts : (cs : List CommentValue) (bs : List Bool) → length bs ≡ length cs → map (λ (r : Remark). r.0) (zip cs bs) ≡ cs
firsts [] [] e = refl
firsts [] (b ∷ bs) e = refl
firsts (c ∷ cs) [] e = absurd (omega (arith, e))
firsts (c ∷ cs) (b ∷ bs) e = ap (λ w. c ∷ w) (firsts cs bs (omega (arith, e)))

left_is : (marks : List Bool) (p : CommentValue → Bool) (j : ℕ) (cs : List CommentValue) → ((n : ℕ) (d : CommentValue) → slice_get cs n ≡ Some d → get_or marks (j + n) false ≡ p d)
    → left marks j cs ≡ filter (λ d. not (p d)) cs
left_is marks p j [] h = refl
left_is marks p j (c ∷ cs) h =
    let here : j + 0 ≡ j = omega arith in
    ap (λ b. if b then left marks (j + 1) cs else c ∷ left marks (j + 1) cs) (ap (λ n. get_or marks n false) (sym here) ∙ h 0 c refl)
    ∙ by (p c) (left_is marks p (j + 1) cs (λ n d e. let next : j + 1 + n ≡ j + suc n = omega arith in ap (λ m. get_or marks m false) next ∙ h (suc n) d e)) where
      by : (b : Bool) → left marks (j + 1) cs ≡ filter (λ d. not (p d)) cs
          → (if b then left marks (j + 1) cs else c ∷ left marks (j + 1) cs) ≡ (if not b then c ∷ filter (λ d. not (p d)) cs else filter (λ d. not (p d)) cs)
      by true e = e
      by false e = ap (λ w. c ∷ w) e

-- the marks say for each comment whether it trails a row
pub others_left : (c : Source) (cs : List CommentValue) (bs marks : List Bool) (rows : List Row) → c.remarks ≡ zip cs bs → length bs ≡ length cs
    → ((n : ℕ) (d : CommentValue) → slice_get cs n ≡ Some d → get_or marks n false ≡ is_among (flat_map (trailing c) rows) d)
    → left marks 0 cs ≡ own_line_comments c rows
others_left c cs bs marks rows m e h =
    left_is marks (is_among (flat_map (trailing c) rows)) 0 cs (λ n d q. let here : 0 + n ≡ n = omega arith in ap (λ k. get_or marks k false) here ∙ h n d q)
    ∙ ap (filter (λ d. not (is_among (flat_map (trailing c) rows) d))) (sym (firsts cs bs e) ∙ ap (map (λ (r : Remark). r.0)) (sym m))

-- Comments at indices.

abbrev pub strict : List CommentValue → Bool
strict [] = true
strict (c ∷ cs) = list_all (λ d. nat_lt c.offset d.offset) cs && strict cs

later_one : (n : ℕ) (cs : List CommentValue) (k : ℕ) (d : CommentValue) → list_all (λ (d : CommentValue). nat_lt n d.offset) cs ≡ true → slice_get cs k ≡ Some d → nat_lt n d.offset ≡ true
later_one n [] k d a e = absurd cc
later_one n (c ∷ cs) zero d a e = let same : c ≡ d = cc in ap (λ w. nat_lt n w.offset) (sym same) ∙ (and_parts (nat_lt n c.offset) (list_all (λ (d : CommentValue). nat_lt n d.offset) cs) a).0
later_one n (c ∷ cs) (suc k) d a e = later_one n cs k d (and_parts (nat_lt n c.offset) (list_all (λ (d : CommentValue). nat_lt n d.offset) cs) a).1 e

differ : (n m : ℕ) → nat_lt n m ≡ true → (n == m) ≡ false
differ n m e = grind (arith, nat_tests)

zero_suc : (n : ℕ) → (0 == suc n) ≡ false
zero_suc n = grind (arith, nat_tests)

suc_suc : (n m : ℕ) → (suc n == suc m) ≡ (n == m)
suc_suc n m = grind (arith, nat_tests)

-- comments with rising offsets are determined by their offsets
same_place : (cs : List CommentValue) (n k : ℕ) (a d : CommentValue) → strict cs ≡ true → slice_get cs n ≡ Some a → slice_get cs k ≡ Some d → (a.offset == d.offset) ≡ (n == k)
same_place [] n k a d s e f = absurd cc
same_place (c ∷ cs) zero zero a d s e f =
    let one : a ≡ c = cc in let other : d ≡ c = cc in
    ap (λ w. w.offset == d.offset) one ∙ (ap (λ w. c.offset == w.offset) other ∙ (same c.offset ∙ sym (same 0)))
same_place (c ∷ cs) zero (suc k) a d s e f =
    let one : a ≡ c = cc in
    ap (λ w. w.offset == d.offset) one
    ∙ (differ c.offset d.offset (later_one c.offset cs k d (and_parts (list_all (λ d. nat_lt c.offset d.offset) cs) (strict cs) s).0 f) ∙ sym (zero_suc k))
same_place (c ∷ cs) (suc n) zero a d s e f =
    let other : d ≡ c = cc in
    ap (λ w. a.offset == w.offset) other
    ∙ (differ_back c.offset a.offset (later_one c.offset cs n a (and_parts (list_all (λ d. nat_lt c.offset d.offset) cs) (strict cs) s).0 e) ∙ sym (not_zero n))
same_place (c ∷ cs) (suc n) (suc k) a d s e f =
    same_place cs n k a d (and_parts (list_all (λ d. nat_lt c.offset d.offset) cs) (strict cs) s).1 e f ∙ sym (suc_suc n k)

abbrev pub at_indices : List CommentValue → List ℕ → List CommentValue
at_indices cs ns = flat_map (λ n. option_to_list (slice_get cs n)) ns

abbrev pub has : ℕ → List ℕ → Bool
has k ns = list_any (λ n. n == k) ns

within_get : (cs : List CommentValue) (n k : ℕ) (d : CommentValue) → slice_get cs n ≡ None → slice_get cs k ≡ Some d → (n == k) ≡ false
within_get [] n k d e f = absurd cc
within_get (c ∷ cs) zero k d e f = absurd cc
within_get (c ∷ cs) (suc n) zero d e f = not_zero n
within_get (c ∷ cs) (suc n) (suc k) d e f = suc_suc n k ∙ within_get cs n k d e f

pub among_indices : (cs : List CommentValue) (ns : List ℕ) (k : ℕ) (d : CommentValue) → strict cs ≡ true → slice_get cs k ≡ Some d → is_among (at_indices cs ns) d ≡ has k ns
among_indices cs [] k d s e = refl
among_indices cs (n ∷ ns) k d s e =
    among_join (option_to_list (slice_get cs n)) (at_indices cs ns) d
    ∙ (ap (λ b. is_among (option_to_list (slice_get cs n)) d || b) (among_indices cs ns k d s e) ∙ ap (λ b. b || has k ns) (by (slice_get cs n) refl)) where
      or_false : (b : Bool) → (b || false) ≡ b
      or_false true = refl
      or_false false = refl

      by : (o : Option CommentValue) → slice_get cs n ≡ o → is_among (option_to_list o) d ≡ (n == k)
      by None q = sym (within_get cs n k d q e)
      by (Some a) q = or_false (a.offset == d.offset) ∙ same_place cs n k a d s q e
