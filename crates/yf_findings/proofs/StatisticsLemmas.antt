-- The rows of the rules, and their order.
use Rattle.std.proofs.Common.{◌≡◌, ℕ, ◌+◌, ◌<◌, ◌≤◌, List, [], ◌∷◌, ◌++◌, Bool, true, false, add-one, ap, append_assoc, append-nil, length, take, get_or, sym, subst, zero-add, ◌∙◌, refl, arith}
use Rattle.std.specs.Prelude.{bytes_eq, ◌||◌, if◌then◌else◌}
use Rattle.std.specs.Ordering.{nat_cmp, ordering_reverse}
use Rattle.std.specs.Cmp.{IsStrictWeakOrder, IsTotalOrder}
use Rattle.std.specs.List.{All, count_by, list_any}
use Rattle.std.specs.List.Sorted.{IsPermutation, IsSortedBy}
use Rattle.std.proofs.lemmas.Cmp.{nat_cmp_total, nat_list_cmp_total, on_total, then_total}
use Rattle.std.proofs.lemmas.List.Elements.{All-push}
use Rattle.std.proofs.lemmas.List.Folds.{list_any_more}
use Rattle.std.proofs.lemmas.List.Sorted.{All-permutation, ranks_by, sum_by-IsPermutation}
use Rattle.std.proofs.lemmas.List.Sums.{sum_by-append, sum_by_push}
use Rattle.std.proofs.lemmas.Slice.Eq.{bytes_eq-Decides}
use Rattle.yf_findings.specs.Statistics.{AddsRow, AreCounted, IsRow, blanks, comes_before, is_of, is_row, occurs, row_cmp, rows_of}
use Rattle.yf_findings.specs.Statistics.AddsRow.{has_row, added}
use Rattle.yf_findings.specs.declared.statistics.FoundRule.{FoundRule}
use Rattle.yf_findings.specs.declared.statistics.RuleCount.{RuleCount}

pub no_blanks : (page : List ℕ) → page ≡ page ++ blanks 0
unfolding blanks
no_blanks page = sym (append-nil page)

pub more_blanks : (old new page : List ℕ) (n : ℕ) → page ≡ old ++ blanks n → new ≡ page ++ 32 ∷ [] → new ≡ old ++ blanks (n + 1)
unfolding blanks
more_blanks old new page n e f = rw add-one (f ∙ (ap (λ x. x ++ 32 ∷ []) e ∙ append_assoc old (blanks n) (32 ∷ [])))

-- ---- the order

higher_total : IsTotalOrder (λ (a b : RuleCount). nat_cmp b.count a.count)
higher_total = record {
  antisymm = λ a b. nat_cmp_total.antisymm b.count a.count;
  trans = λ a b c h k. nat_cmp_total.trans c.count b.count a.count k h;
  congr = λ a b c e.
      nat_cmp_total.antisymm c.count a.count ∙ ap ordering_reverse (sym (nat_cmp_total.congr b.count a.count c.count e))
      ∙ sym (nat_cmp_total.antisymm c.count b.count);
}

row_total : IsTotalOrder row_cmp
row_total = then_total higher_total (on_total (λ (r : RuleCount). r.rule.now) nat_list_cmp_total)

pub comes_before_is_order : IsStrictWeakOrder comes_before
comes_before_is_order = ranks_by row_total (λ (r : RuleCount). r)

-- ---- one row for each rule

abbrev Agrees : Bool → ℕ → Type 0
Agrees true n = 1 ≤ n
Agrees false n = n ≡ 0

agree_more : (b rest : Bool) (n : ℕ) → Agrees rest n → Agrees (b || rest) ((if b then 1 else 0) + n)
agree_more true rest n h = omega arith
agree_more false true n h = omega (arith, h)
agree_more false false n h = omega (arith, h)

count_cons : {X : Type 0} (p : X → Bool) (x : X) (xs : List X) → count_by p (x ∷ xs) ≡ (if p x then 1 else 0) + count_by p xs
count_cons p x xs =
    let e : count_by p (x ∷ xs) ≡ count_by p (x ∷ []) + count_by p xs = sum_by-append (λ y. if p y then 1 else 0) (x ∷ []) xs in
    e ∙ ap (λ n. n + count_by p xs) (zero-add (if p x then 1 else 0))

any_counts : {X : Type 0} (p : X → Bool) (xs : List X) → Agrees (list_any p xs) (count_by p xs)
any_counts p [] = refl
any_counts p (x ∷ xs) =
    subst (Agrees (p x || list_any p xs)) (sym (count_cons p x xs)) (agree_more (p x) (list_any p xs) (count_by p xs) (any_counts p xs))

had_row : (b before any : Bool) (n : ℕ) → n ≡ (if before then 1 else 0) → Agrees any n → (b ≡ true → any ≡ true)
    → n ≡ (if before || b then 1 else 0)
had_row b true any n e a h = e
had_row false false any n e a h = e
had_row true false any n e a h = let a1 : 1 ≤ n = subst (λ x. Agrees x n) (h refl) a in absurd (omega (arith, a1, e))

got_row : (b before any : Bool) (n m : ℕ) → n ≡ (if before then 1 else 0) → Agrees any n → (b ≡ true → any ≡ false)
    → m ≡ n + (if b then 1 else 0) → m ≡ (if before || b then 1 else 0)
got_row false true any n m e a h f = omega (arith, e, f)
got_row false false any n m e a h f = omega (arith, e, f)
got_row true true any n m e a h f = let a1 : n ≡ 0 = subst (λ x. Agrees x n) (h refl) a in absurd (omega (arith, a1, e))
got_row true false any n m e a h f = omega (arith, e, f)

module _ (all found : List FoundRule) (k : ℕ) (d : FoundRule) (within : k < length found) where
  other_row : {old new : List RuleCount} (rule : List ℕ) → rule ≡ (get_or found k d).rule.now → AddsRow all rule old new
      → ((id : List ℕ) → rows_of id old ≡ occurs id (take k found)) → (id : List ℕ)
      → rows_of id new ≡ (if list_any (is_of id) (take k found) || bytes_eq rule id then 1 else 0)
  other_row {old} rule same (has_row any e) before id =
      ap (rows_of id) e
      ∙ had_row (bytes_eq rule id) (list_any (is_of id) (take k found)) (list_any (is_row id) old) (rows_of id old) (before id)
      (any_counts (is_row id) old) (λ t. subst (λ x. list_any (is_row x) old ≡ true) ((bytes_eq-Decides rule id).0 t) any)
  other_row {old} {new} rule same (added {r = r} none row is e) before id =
      let more : rows_of id new ≡ rows_of id old + (if bytes_eq rule id then 1 else 0) =
      ap (rows_of id) e ∙ sum_by_push (λ x. if is_row id x then 1 else 0) old r
      ∙ ap (λ x. rows_of id old + (if bytes_eq x id then 1 else 0)) is in
      got_row (bytes_eq rule id) (list_any (is_of id) (take k found)) (list_any (is_row id) old) (rows_of id old) (rows_of id new)
      (before id) (any_counts (is_row id) old) (λ t. subst (λ x. list_any (is_row x) old ≡ false) ((bytes_eq-Decides rule id).0 t) none) more

  pub once_more : {old new : List RuleCount} → AddsRow all (get_or found k d).rule.now old new
      → ((id : List ℕ) → rows_of id old ≡ occurs id (take k found)) → (id : List ℕ) → rows_of id new ≡ occurs id (take (k + 1) found)
  once_more adds before id =
      other_row (get_or found k d).rule.now refl adds before id
      ∙ ap (λ (b : Bool). if b then 1 else 0) (sym (list_any_more (is_of id) found k d within))

pub each_more : {found : List FoundRule} {id : List ℕ} {old new : List RuleCount} → AddsRow found id old new → All (IsRow found) old
    → All (IsRow found) new
each_more {found} (has_row any e) each = subst (All (IsRow found)) (sym e) each
each_more {found} {id} {old} (added {r = r} none row is e) each = subst (All (IsRow found)) (sym e) (All-push (IsRow found) old r each row)

pub all_counted : (found : List FoundRule) (rows sorted : List RuleCount) → All (IsRow found) rows
    → ((id : List ℕ) → rows_of id rows ≡ occurs id found) → IsPermutation rows sorted → IsSortedBy comes_before sorted
    → AreCounted found sorted
all_counted found rows sorted each once same order = record {
  each = All-permutation (IsRow found) rows sorted same each;
  once = λ id. sum_by-IsPermutation (λ r. if is_row id r then 1 else 0) rows sorted same ∙ once id;
  order = order;
}
