-- Sets of names: the look-ups in a list of names, in any order.
use Rattle.std.proofs.Common.{◌≡◌, ℕ, Bool, true, false, ◌||◌, List, [], ◌∷◌, ◌++◌, map, refl, sym, ap, ◌∙◌, subst, true≢false, if◌then◌else◌}
use Rattle.std.proofs.lemmas.Map.Text.{is_eq-slice_cmp}
use Rattle.std.proofs.lemmas.Slice.Eq.{bytes_eq-Decides}
use Rattle.std.specs.Borrow.{Bor}
use Rattle.std.specs.BTreeMap.{is_at}
use Rattle.std.specs.BTreeSet as sorted
use Rattle.std.specs.Cmp.Lexicographic.{slice_cmp}
use Rattle.std.specs.List.{list_any}
use Rattle.std.specs.Ordering.{is_eq, match_ordering, nat_cmp}
use Rattle.std.specs.declared.cmp.Ordering.{Ordering}
use Rattle.std.specs.declared.cmp.Ordering.TheVariants.{Less, Equal, Greater}
use Rattle.std.specs.Str.{bytes_eq}
use Rattle.indexmap.specs.IndexSet as kept
use Rattle.yf_stream.specs.TagPass.{SameNames}
use Rattle.yf_stream.specs.WellFormed.{has_name}

abbrev pub names_of : List (Bor (List ℕ)) → List (List ℕ)
names_of ks = map (λ (k : Bor (List ℕ)). k.now) ks

pub same_bytes : (a b : List ℕ) → bytes_eq a b ≡ true → a ≡ b
same_bytes a b e = (bytes_eq-Decides a b).0 e

pub bytes_itself : (a : List ℕ) → bytes_eq a a ≡ true
bytes_itself a = (bytes_eq-Decides a a).1 refl

pub bytes_turned : (a b : List ℕ) → bytes_eq a b ≡ bytes_eq b a
bytes_turned a b = go (bytes_eq a b) (bytes_eq b a) refl refl where
  go : (x y : Bool) → bytes_eq a b ≡ x → bytes_eq b a ≡ y → x ≡ y
  go true true e f = refl
  go false false e f = refl
  go true false e f = absurd (true≢false (sym (bytes_itself b) ∙ ap (λ z. bytes_eq b z) (sym (same_bytes a b e)) ∙ f))
  go false true e f = absurd (true≢false (sym (bytes_itself a) ∙ ap (λ z. bytes_eq a z) (sym (same_bytes b a f)) ∙ e))

or_joined : (a b c : Bool) → (a || (b || c)) ≡ ((a || b) || c)
or_joined true b c = refl
or_joined false b c = refl

or_turned : (a b c : Bool) → (a || (b || c)) ≡ (b || (a || c))
or_turned true true c = refl
or_turned true false c = refl
or_turned false b c = refl

or_again : (a b : Bool) → (a ≡ true → b ≡ true) → b ≡ (a || b)
or_again true b f = f refl
or_again false b f = refl

or_swapped : (a b : Bool) → (a || b) ≡ (b || a)
or_swapped true true = refl
or_swapped true false = refl
or_swapped false true = refl
or_swapped false false = refl

or_one : (a : Bool) → (a || false) ≡ a
or_one true = refl
or_one false = refl

pub name_in_both : (a b : List (Bor (List ℕ))) (x : List ℕ) → has_name (names_of (a ++ b)) x ≡ (has_name (names_of a) x || has_name (names_of b) x)
name_in_both [] b x = refl
name_in_both (k ∷ a) b x =
    ap (λ z. bytes_eq k.now x || z) (name_in_both a b x) ∙ or_joined (bytes_eq k.now x) (has_name (names_of a) x) (has_name (names_of b) x)

-- the look-up of a name in an `IndexSet` and in a `BTreeSet`
pub name_by_any : (ks : List (Bor (List ℕ))) (x : List ℕ) → list_any (λ (k : Bor (List ℕ)). bytes_eq x k.now) ks ≡ has_name (names_of ks) x
name_by_any [] x = refl
name_by_any (k ∷ ks) x = ap (λ z. z || list_any (λ (k : Bor (List ℕ)). bytes_eq x k.now) ks) (bytes_turned x k.now) ∙ ap (λ z. bytes_eq k.now x || z) (name_by_any ks x)

pub name_by_order : (ks : List (Bor (List ℕ))) (x : List ℕ) → list_any (is_at (λ (k : Bor (List ℕ)). slice_cmp nat_cmp x k.now)) ks ≡ has_name (names_of ks) x
name_by_order [] x = refl
name_by_order (k ∷ ks) x =
    ap (λ z. z || list_any (is_at (λ (k : Bor (List ℕ)). slice_cmp nat_cmp x k.now)) ks) (is_eq-slice_cmp x k.now ∙ bytes_turned x k.now)
    ∙ ap (λ z. bytes_eq k.now x || z) (name_by_order ks x)

found_as : (ks : List (Bor (List ℕ))) (a x : List ℕ) → has_name (names_of ks) a ≡ true → bytes_eq a x ≡ true → has_name (names_of ks) x ≡ true
found_as ks a x e f = subst (λ z. has_name (names_of ks) z ≡ true) (same_bytes a x f) e

-- an inserted name is found, and the others as before
pub name_kept_in : (ks : List (Bor (List ℕ))) (n : Bor (List ℕ)) (x : List ℕ)
    → has_name (names_of (kept.insert_key (λ (a b : Bor (List ℕ)). bytes_eq a.now b.now) ks n)) x ≡ (bytes_eq n.now x || has_name (names_of ks) x)
name_kept_in ks n x = go (list_any (λ (k : Bor (List ℕ)). bytes_eq n.now k.now) ks) refl where
  go : (b : Bool) → list_any (λ (k : Bor (List ℕ)). bytes_eq n.now k.now) ks ≡ b
      → has_name (names_of (if b then ks else ks ++ n ∷ [])) x ≡ (bytes_eq n.now x || has_name (names_of ks) x)
  go true e = or_again (bytes_eq n.now x) (has_name (names_of ks) x) (λ f. found_as ks n.now x (sym (name_by_any ks n.now) ∙ e) f)
  go false e =
      name_in_both ks (n ∷ []) x ∙ ap (λ z. has_name (names_of ks) x || z) (or_one (bytes_eq n.now x)) ∙ or_swapped (has_name (names_of ks) x) (bytes_eq n.now x)

pub name_sorted_in : (ks : List (Bor (List ℕ))) (n : Bor (List ℕ)) (x : List ℕ)
    → has_name (names_of (sorted.insert_key (λ (a b : Bor (List ℕ)). slice_cmp nat_cmp a.now b.now) ks n)) x ≡ (bytes_eq n.now x || has_name (names_of ks) x)
name_sorted_in [] n x = refl
name_sorted_in (k ∷ ks) n x = go (slice_cmp nat_cmp n.now k.now) refl (name_sorted_in ks n x) where
  go : (o : Ordering) → slice_cmp nat_cmp n.now k.now ≡ o
      → has_name (names_of (sorted.insert_key (λ (a b : Bor (List ℕ)). slice_cmp nat_cmp a.now b.now) ks n)) x ≡ (bytes_eq n.now x || has_name (names_of ks) x)
      → has_name (names_of (match_ordering o (n ∷ k ∷ ks) (k ∷ ks) (k ∷ sorted.insert_key (λ (a b : Bor (List ℕ)). slice_cmp nat_cmp a.now b.now) ks n))) x
      ≡ (bytes_eq n.now x || (bytes_eq k.now x || has_name (names_of ks) x))
  go Less e h = refl
  go Equal e h =
      let same : n.now ≡ k.now = same_bytes n.now k.now (sym (is_eq-slice_cmp n.now k.now) ∙ ap is_eq e) in
      or_again (bytes_eq n.now x) (bytes_eq k.now x || has_name (names_of ks) x)
      (λ f. ap (λ z. z || has_name (names_of ks) x) (ap (λ z. bytes_eq z x) (sym same) ∙ f))
  go Greater e h =
      ap (λ z. bytes_eq k.now x || z) h ∙ or_turned (bytes_eq k.now x) (bytes_eq n.now x) (has_name (names_of ks) x)

-- among two lists, one more name in the first, and in the second
pub more_in_first : (few others : List (Bor (List ℕ))) {more : List (Bor (List ℕ))} (n : Bor (List ℕ)) {names : List (List ℕ)} → names_of (few ++ others) ≡ names
    → more ≡ kept.insert_key (λ (a b : Bor (List ℕ)). bytes_eq a.now b.now) few n → SameNames (names_of (more ++ others)) (n.now ∷ names)
more_in_first few others {more} n {names} e f = record {
  each = λ x.
      name_in_both more others x ∙ ap (λ z. has_name (names_of z) x || has_name (names_of others) x) f
      ∙ ap (λ z. z || has_name (names_of others) x) (name_kept_in few n x)
      ∙ sym (or_joined (bytes_eq n.now x) (has_name (names_of few) x) (has_name (names_of others) x))
      ∙ ap (λ z. bytes_eq n.now x || z) (sym (name_in_both few others x) ∙ ap (λ z. has_name z x) e);
}

pub more_in_second : (few others : List (Bor (List ℕ))) {more : List (Bor (List ℕ))} (n : Bor (List ℕ)) {names : List (List ℕ)} → names_of (few ++ others) ≡ names
    → more ≡ sorted.insert_key (λ (a b : Bor (List ℕ)). slice_cmp nat_cmp a.now b.now) others n → SameNames (names_of (few ++ more)) (n.now ∷ names)
more_in_second few others {more} n {names} e f = record {
  each = λ x.
      name_in_both few more x ∙ ap (λ z. has_name (names_of few) x || has_name (names_of z) x) f
      ∙ ap (λ z. has_name (names_of few) x || z) (name_sorted_in others n x)
      ∙ or_turned (has_name (names_of few) x) (bytes_eq n.now x) (has_name (names_of others) x)
      ∙ ap (λ z. bytes_eq n.now x || z) (sym (name_in_both few others x) ∙ ap (λ z. has_name z x) e);
}
