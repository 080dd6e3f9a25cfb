-- The first wrong key of members with ascending keys is the least one.
use Rattle.std.proofs.Common.{◌≡◌, ◌⊎◌, ℕ, Bool, true, false, List, [], ◌∷◌, Option, Some, None, if◌then◌else◌}
use Rattle.std.proofs.Common.{Ordering, Less, Equal, Greater, string_bytes, nat_cmp, is_eq}
use Rattle.std.proofs.Common.{refl, sym, ap, subst, ◌∙◌, inl, inr}
use Rattle.std.specs.Prelude.{⊤}
use Rattle.std.proofs.lemmas.Cmp.{nat_list_cmp_total}
use Rattle.std.proofs.lemmas.Option.{same_Some}
use Rattle.std.proofs.lemmas.Slice.Eq.{bytes_eq-Decides}
use Rattle.std.proofs.lemmas.Map.Text.{is_eq-slice_cmp}
use Rattle.std.specs.Cmp.{tied_itself}
use Rattle.std.specs.Cmp.Lexicographic.{slice_cmp}
use Rattle.std.specs.List.{AllByRecursion}
use Rattle.std.specs.List.Sorted.{IsStrictlySortedBy}
use Rattle.std.specs.Map.{keys_of}
use Rattle.std.specs.Ordering.{match_ordering, ordering_reverse}
use Rattle.std.specs.String.{string_cmp}
use Rattle.toml.specs.Data.{Data, Members, no_members, member, get_member}
use Rattle.toml.specs.View.{view, members_view}
use Rattle.toml.proofs.Views.{Entry}
use Rattle.yf_settings.specs.Settings.{is_right, IsRight, IsLeastWrong}

-- The first key with a wrong value.
abbrev pub first_wrong : Bool → Bool → Members → Option (List ℕ)
first_wrong version patterns no_members = None
first_wrong version patterns (member key value rest) =
    if is_right version patterns key value then first_wrong version patterns rest else Some key

-- Each key has P.
abbrev pub KeysHave : (List ℕ → Type 0) → Members → Type 0
KeysHave P no_members = ⊤
KeysHave P (member key value rest) = P key × KeysHave P rest

abbrev pub Ascend : Members → Type 0
Ascend no_members = ⊤
Ascend (member key value rest) = KeysHave (λ k. slice_cmp nat_cmp key k ≡ Less) rest × Ascend rest

keys_have : (P : List ℕ → Type 0) (es : List Entry) → AllByRecursion (λ k. P (string_bytes k)) (keys_of es)
    → KeysHave P (members_view es)
keys_have P [] all = all
keys_have P (e ∷ es) all = (all.0, keys_have P es all.1)

-- The keys of a map ascend.
pub map_ascends : (es : List Entry) → IsStrictlySortedBy string_cmp (keys_of es) → Ascend (members_view es)
unfolding IsStrictlySortedBy
map_ascends [] sorted = sorted
map_ascends (e ∷ es) sorted =
    (keys_have (λ k. slice_cmp nat_cmp (string_bytes e.0) k ≡ Less) es sorted.0, map_ascends es sorted.1)

same_bytes : (k l : List ℕ) → slice_cmp nat_cmp k l ≡ Equal → k ≡ l
same_bytes k l e = (bytes_eq-Decides k l).0 (sym (is_eq-slice_cmp k l) ∙ ap is_eq e)

found_by : (k l : List ℕ) (d v : Data) (rest : Members) (o : Ordering) → slice_cmp nat_cmp k l ≡ o
    → match_ordering o (get_member k rest) (Some d) (get_member k rest) ≡ Some v
    → ((k ≡ l) × (d ≡ v)) ⊎ (get_member k rest ≡ Some v)
found_by k l d v rest Less e found = inr found
found_by k l d v rest Equal e found = inl (same_bytes k l e, same_Some _ _ found)
found_by k l d v rest Greater e found = inr found

-- A key is the first one, or one of the rest.
found_cases : (k l : List ℕ) (d v : Data) (rest : Members) → get_member k (member l d rest) ≡ Some v
    → ((k ≡ l) × (d ≡ v)) ⊎ (get_member k rest ≡ Some v)
found_cases k l d v rest found = found_by k l d v rest (slice_cmp nat_cmp k l) refl found

key_has : (P : List ℕ → Type 0) (k : List ℕ) (v : Data) (ms : Members) → KeysHave P ms → get_member k ms ≡ Some v
    → P k
key_has P k v no_members all found = cc
key_has P k v (member l d rest) all found = elim (found_cases k l d v rest found) [
  | inl e ↦ subst P (sym e.0) all.0
  | inr f ↦ key_has P k v rest all.1 f
]

module _ (version patterns : Bool) where
  right_by : (b : Bool) (l : List ℕ) (d : Data) (rest : Members) → is_right version patterns l d ≡ b
      → (if b then first_wrong version patterns rest else Some l) ≡ None
      → (first_wrong version patterns rest ≡ None → (key : List ℕ) → IsRight version patterns rest key)
      → (key : List ℕ) → IsRight version patterns (member l d rest) key
  right_by true l d rest right none more key value found = elim (found_cases key l d value rest found) [
    | inl e ↦ rw (e.0, ← e.1) right
    | inr f ↦ more none key value f
  ]
  right_by false l d rest right none more key value found = cc

  -- If there is no first wrong key, each key is right.
  pub all_right : (ms : Members) → first_wrong version patterns ms ≡ None → (key : List ℕ)
      → IsRight version patterns ms key
  all_right no_members none key value found = cc
  all_right (member l d rest) none key value found =
      right_by (is_right version patterns l d) l d rest refl none (all_right rest) key value found

  -- A key above the first one is found in the rest.
  found_past : (k l : List ℕ) (d : Data) (rest : Members) → slice_cmp nat_cmp l k ≡ Less
      → get_member k (member l d rest) ≡ get_member k rest
  found_past k l d rest less =
      let more : slice_cmp nat_cmp k l ≡ Greater = nat_list_cmp_total.antisymm k l ∙ ap ordering_reverse less in
      rw more

  least_more : (l : List ℕ) (d : Data) (rest : Members) (key : List ℕ) → is_right version patterns l d ≡ true
      → KeysHave (λ k. slice_cmp nat_cmp l k ≡ Less) rest
      → IsLeastWrong version patterns rest key → IsLeastWrong version patterns (member l d rest) key
  least_more l d rest key right above below =
      let less : slice_cmp nat_cmp l key ≡ Less =
      key_has (λ k. slice_cmp nat_cmp l k ≡ Less) key below.wrong.0 rest above below.wrong.1 in
      record {
        wrong = (below.wrong.0, found_past key l d rest less ∙ below.wrong.1, below.wrong.2);
        least = λ other w. elim (found_cases other l d w.0 rest w.1) [
          | inl e ↦ let bad : is_right version patterns l d ≡ false = rw (← e.0, e.1) (w.2) in cc
          | inr f ↦ below.least other (w.0, f, w.2)
        ];
      }

  least_here : (l : List ℕ) (d : Data) (rest : Members) → is_right version patterns l d ≡ false
      → KeysHave (λ k. slice_cmp nat_cmp l k ≡ Less) rest
      → IsLeastWrong version patterns (member l d rest) l
  least_here l d rest wrong above = record {
    wrong = (d, rw (tied_itself nat_list_cmp_total l) refl, wrong);
    least = λ other w. elim (found_cases other l d w.0 rest w.1) [
      | inl e ↦ rw (e.0, tied_itself nat_list_cmp_total l) refl
      | inr f ↦ rw (key_has (λ k. slice_cmp nat_cmp l k ≡ Less) other w.0 rest above f) refl
    ];
  }

  least_by : (b : Bool) (l : List ℕ) (d : Data) (rest : Members) (key : List ℕ) → is_right version patterns l d ≡ b
      → (if b then first_wrong version patterns rest else Some l) ≡ Some key
      → KeysHave (λ k. slice_cmp nat_cmp l k ≡ Less) rest
      → (first_wrong version patterns rest ≡ Some key → IsLeastWrong version patterns rest key)
      → IsLeastWrong version patterns (member l d rest) key
  least_by true l d rest key right first above more = least_more l d rest key right above (more first)
  least_by false l d rest key wrong first above more =
      subst (λ k. IsLeastWrong version patterns (member l d rest) k) (same_Some _ _ first) (least_here l d rest wrong
      above)

  -- The first wrong key is the least one.
  pub first_is_least : (ms : Members) (key : List ℕ) → Ascend ms → first_wrong version patterns ms ≡ Some key
      → IsLeastWrong version patterns ms key
  first_is_least no_members key ascend first = cc
  first_is_least (member l d rest) key ascend first =
      least_by (is_right version patterns l d) l d rest key refl first ascend.0 (first_is_least rest key ascend.1)

  pub first_found : (e : Entry) (es : List Entry) → is_right version patterns (string_bytes e.0) (view e.1) ≡ false
      → first_wrong version patterns (members_view (e ∷ es)) ≡ Some (string_bytes e.0)
  first_found e es wrong = rw wrong refl
