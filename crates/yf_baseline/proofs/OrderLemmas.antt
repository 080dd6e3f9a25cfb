-- The entries of findings don't depend on the order of the findings.
use Rattle.std.proofs.Common.{◌≡◌, ℕ, ◌+◌, ◌<◌, ◌≤◌, Bool, true, false, List, [], ◌∷◌, ◌++◌, length, map, take, drop}
use Rattle.std.proofs.Common.{inl, inr, refl, sym, ap, ◌∙◌, subst, arith, if◌then◌else◌}
use Rattle.std.specs.Prelude.{bytes_eq}
use Rattle.std.specs.List.Sorted.{IsPermutation}
use Rattle.std.proofs.lemmas.Bool.{cases_eq}
use Rattle.std.proofs.lemmas.Cmp.{nat_list_eq_equiv}
use Rattle.std.proofs.lemmas.List.{drop_at, take_at}
use Rattle.std.proofs.lemmas.List.Sorted.{IsPermutation-map, sum_by-IsPermutation}
use Rattle.std.proofs.lemmas.List.Sums.{sum_by-cons}
use Rattle.std.proofs.lemmas.Slice.Eq.{bytes_eq-Decides}
use Rattle.yf_baseline.specs.Entries.{Kept, entries_after, entry_at, kept, mark}
use Rattle.yf_baseline.specs.Laws.{EntriesIgnoreOrder, Has, HashesAreLong}
use Rattle.yf_baseline.specs.SeenTexts.{occurrences}
use Rattle.yf_baseline.specs.declared.entry.Entry.{Entry}
use Rattle.yf_baseline.proofs.CountLemmas.{occurrences-push}

abbrev mark_in : Entry → List ℕ
mark_in e = mark (kept e.rule e.hash)

abbrev marks : List Kept → List (List ℕ)
marks ks = map (λ k. mark k) ks

occurrences-cons : (text other : List ℕ) (texts : List (List ℕ)) →
    occurrences text (other ∷ texts) ≡ (if bytes_eq text other then 1 else 0) + occurrences text texts
occurrences-cons text other texts = sum_by-cons (λ x. if bytes_eq text x then 1 else 0) other texts

one : (text : List ℕ) → ◌≡◌ {A = ℕ} (if bytes_eq text text then 1 else 0) 1
one text = rw (nat_list_eq_equiv.refl text) refl

-- the entries of the remaining findings
record Bounds (file : List ℕ) (seen : List (List ℕ)) (ks : List Kept) (e : Entry) : Type 0 where
  named : e.file ≡ file
  long : length e.hash ≡ 64
  low : occurrences (mark_in e) seen ≤ e.ordinal
  high : e.ordinal < occurrences (mark_in e) seen + occurrences (mark_in e) (marks ks)

bounds : (file : List ℕ) (seen : List (List ℕ)) (ks : List Kept) (e : Entry) → HashesAreLong ks →
    Has (entries_after file seen ks) e → Bounds file seen ks e
bounds file seen [] e long h = absurd h
bounds file seen (k ∷ ks) e long (inl same) =
    let low : occurrences (mark k) seen ≤ occurrences (mark k) seen = omega arith in
    let cons : occurrences (mark k) (marks (k ∷ ks)) ≡ (if bytes_eq (mark k) (mark k) then 1 else 0)
    + occurrences (mark k) (marks ks) = occurrences-cons (mark k) (mark k) (marks ks) in
    let high : occurrences (mark k) seen < occurrences (mark k) seen + occurrences (mark k) (marks (k ∷ ks)) =
    omega (arith, cons, one (mark k)) in
    let here : Bounds file seen (k ∷ ks) (entry_at file k (occurrences (mark k) seen)) = record {
      named = refl;
      long = long.0;
      low = low;
      high = high;
    } in
    subst (Bounds file seen (k ∷ ks)) (sym same) here
bounds file seen (k ∷ ks) e long (inr later) =
    let b = bounds file (seen ++ mark k ∷ []) ks e long.1 later in
    let push : occurrences (mark_in e) (seen ++ mark k ∷ []) ≡
    occurrences (mark_in e) seen + (if bytes_eq (mark_in e) (mark k) then 1 else 0) =
    occurrences-push (mark_in e) (mark k) seen in
    let cons : occurrences (mark_in e) (marks (k ∷ ks)) ≡
    (if bytes_eq (mark_in e) (mark k) then 1 else 0) + occurrences (mark_in e) (marks ks) =
    occurrences-cons (mark_in e) (mark k) (marks ks) in
    record {
      named = b.named;
      long = b.long;
      low = omega (arith, b.low, push);
      high = omega (arith, b.high, push, cons);
    }

-- the mark of an entry says its rule and its hash
same_mark : (e : Entry) (k : Kept) → length e.hash ≡ 64 → length k.hash ≡ 64 → mark_in e ≡ mark k →
    (e.rule ≡ k.rule) × (e.hash ≡ k.hash)
same_mark e k long other same = (
  sym (drop_at e.hash e.rule 64 long) ∙ ap (drop 64) same ∙ drop_at k.hash k.rule 64 other,
  sym (take_at e.hash e.rule 64 long) ∙ ap (take 64) same ∙ take_at k.hash k.rule 64 other,
)

within : (file : List ℕ) (seen : List (List ℕ)) (ks : List Kept) (e : Entry) → HashesAreLong ks →
    Bounds file seen ks e → Has (entries_after file seen ks) e
within file seen [] e long b =
    let high : e.ordinal < occurrences (mark_in e) seen + 0 = b.high in
    absurd (omega (arith, b.low, high))
within file seen (k ∷ ks) e long b =
    cases
    (λ low. within file (seen ++ mark k ∷ []) ks e long.1 (record {
      named = b.named;
      long = b.long;
      low = low;
      high = omega (arith, b.high, push, cons);
    }))
    (bytes_eq (mark_in e) (mark k)) refl
  where
    push : occurrences (mark_in e) (seen ++ mark k ∷ []) ≡
        occurrences (mark_in e) seen + (if bytes_eq (mark_in e) (mark k) then 1 else 0)
    push = occurrences-push (mark_in e) (mark k) seen

    cons : occurrences (mark_in e) (marks (k ∷ ks)) ≡
        (if bytes_eq (mark_in e) (mark k) then 1 else 0) + occurrences (mark_in e) (marks ks)
    cons = occurrences-cons (mark_in e) (mark k) (marks ks)

    here_is : mark_in e ≡ mark k → (e.ordinal ≡ occurrences (mark_in e) seen) → Has (entries_after file seen (k ∷ ks)) e
    here_is same here =
        let parts = same_mark e k b.long long.0 same in
        let ordinal : e.ordinal ≡ occurrences (mark k) seen = here ∙ ap (λ m. occurrences m seen) same in
        inl (λ i. record { file = b.named i; rule = parts.0 i; hash = parts.1 i; ordinal = ordinal i })

    cases : (occurrences (mark_in e) (seen ++ mark k ∷ []) ≤ e.ordinal →
        Has (entries_after file (seen ++ mark k ∷ []) ks) e) → (t : Bool) → bytes_eq (mark_in e) (mark k) ≡ t →
        Has (entries_after file seen (k ∷ ks)) e
    cases again true equal = elim (cases_eq e.ordinal (occurrences (mark_in e) seen)) [
      | inl here ↦ here_is ((bytes_eq-Decides (mark_in e) (mark k)).0 equal) here
      | inr other ↦ inr (again (omega (arith, b.low, other, rw equal at push)))
    ]
    cases again false differs = inr (again (omega (arith, b.low, rw differs at push)))

pub entries_ignore_order : EntriesIgnoreOrder
entries_ignore_order file some others long same e has =
    let b = bounds file [] some e long.0 has in
    let moved : IsPermutation (marks some) (marks others) = IsPermutation-map (λ k. mark k) some others same in
    let count : occurrences (mark_in e) (marks others) ≡ occurrences (mark_in e) (marks some) =
    sum_by-IsPermutation (λ x. if bytes_eq (mark_in e) x then 1 else 0) (marks some) (marks others) moved in
    within file [] others e long.1 (record {
      named = b.named;
      long = b.long;
      low = b.low;
      high = omega (arith, b.high, count);
    })
