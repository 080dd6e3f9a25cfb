-- Tags that are kept for the events that have one, and the list with a tag or none for each event.
use Rattle.std.proofs.Common.{ℕ, zero, suc, ◌+◌, ◌-◌, ◌<◌, ◌≤◌, ◌≡◌, ◌≢◌, ◌==◌, List, [], ◌∷◌, ◌++◌, length, get_or, Option, Some, None, Result, Ok, Err, if◌then◌else◌, inl, inr, refl, sym, ap, ◌∙◌, subst, arith, append-nil, append_assoc, replicate}
use Rattle.std.specs.Prelude.{slice_get, MatchResult}
use Rattle.std.specs.List.Sorted.{IsSearchInRange, IsBinarySearchResult, IsNonDecreasingBy}
use Rattle.std.specs.Ordering.{nat_cmp, ordering_index}
use Rattle.std.proofs.lemmas.Bool.{cases_lt}
use Rattle.std.proofs.lemmas.Bool.Decides.{nat_tests}
use Rattle.std.proofs.lemmas.Cmp.{ranked}
use Rattle.std.proofs.lemmas.List.{get_or_append_left, get_or_default, length_push}
use Rattle.std.proofs.lemmas.List.Sorted.{IsNonDecreasingBy-from_default}
use Rattle.yf_events.specs.Tags.{TagsInOrder, event_at, tag_at, tags_listed}
use Rattle.yf_events.specs.declared.tags.TaggedEvent.{TaggedEvent}

abbrev no_tag : TaggedEvent
no_tag = record { event = 0; tag = [] }

-- no tag is kept for the event
absent : (ts : List TaggedEvent) (i : ℕ) → ((k : ℕ) → k < length ts → event_at ts k ≢ i) → tag_at ts i ≡ None
absent [] i other = refl
absent (t ∷ ts) i other = grind (arith, nat_tests, other 0 (omega arith), absent ts i (λ k l. other (suc k) (omega (arith, l))))

-- the first tag that is kept for the event
present : (ts : List TaggedEvent) (i k : ℕ) → k < length ts → event_at ts k ≡ i → ((j : ℕ) → j < k → event_at ts j ≢ i) → tag_at ts i ≡ Some (get_or ts k no_tag).tag
present [] i k l is other = absurd (omega (arith, l))
present (t ∷ ts) i zero l is other = grind (arith, nat_tests, is)
present (t ∷ ts) i (suc k) l is other = grind (arith, nat_tests, other 0 (omega arith), present ts i k (omega (arith, l)) is (λ j m. other (suc j) (omega (arith, m))))

-- one tag more

tag_before : (ts : List TaggedEvent) (t : TaggedEvent) (i : ℕ) → t.event ≢ i → tag_at (ts ++ t ∷ []) i ≡ tag_at ts i
tag_before [] t i other = grind (arith, nat_tests, other)
tag_before (x ∷ ts) t i other = ap (λ w. if x.event == i then Some x.tag else w) (tag_before ts t i other)

tag_added : (ts : List TaggedEvent) (t : TaggedEvent) → ((k : ℕ) → k < length ts → event_at ts k ≢ t.event) → tag_at (ts ++ t ∷ []) t.event ≡ Some t.tag
tag_added [] t other = grind (arith, nat_tests)
tag_added (x ∷ ts) t other = grind (arith, nat_tests, other 0 (omega arith), tag_added ts t (λ k l. other (suc k) (omega (arith, l))))

listed_before : (n : ℕ) (ts : List TaggedEvent) (t : TaggedEvent) → n ≤ t.event → tags_listed n (ts ++ t ∷ []) ≡ tags_listed n ts
listed_before zero ts t l = refl
listed_before (suc n) ts t l =
    ap (λ w. w ++ tag_at (ts ++ t ∷ []) n ∷ []) (listed_before n ts t (omega (arith, l)))
    ∙ ap (λ w. tags_listed n ts ++ w ∷ []) (tag_before ts t n (λ same. omega (arith, l, same)))

-- the list of tags

pub listed_length : (n : ℕ) (ts : List TaggedEvent) → length (tags_listed n ts) ≡ n
listed_length zero ts = refl
listed_length (suc n) ts = length_push (tags_listed n ts) (tag_at ts n) ∙ omega (arith, listed_length n ts)

got_in : {X : Type 0} (xs : List X) (y : X) (i : ℕ) → i < length xs → slice_get (xs ++ y ∷ []) i ≡ slice_get xs i
got_in [] y i l = absurd (omega (arith, l))
got_in (x ∷ xs) y zero l = refl
got_in (x ∷ xs) y (suc i) l = got_in xs y i (omega (arith, l))

got_last : {X : Type 0} (xs : List X) (y : X) (i : ℕ) → i ≡ length xs → slice_get (xs ++ y ∷ []) i ≡ Some y
got_last [] y zero e = refl
got_last [] y (suc i) e = absurd (omega (arith, e))
got_last (x ∷ xs) y zero e = absurd (omega (arith, e))
got_last (x ∷ xs) y (suc i) e = got_last xs y i (omega (arith, e))

pub listed_at : (n : ℕ) (ts : List TaggedEvent) (i : ℕ) → i < n → slice_get (tags_listed n ts) i ≡ Some (tag_at ts i)
listed_at zero ts i l = absurd (omega (arith, l))
listed_at (suc n) ts i l = elim (cases_lt i n) [
  | inl less ↦ got_in (tags_listed n ts) (tag_at ts n) i (omega (arith, less, listed_length n ts)) ∙ listed_at n ts i less
  | inr least ↦
      let same : i ≡ n = omega (arith, l, least) in
      subst (λ w. slice_get (tags_listed n ts ++ tag_at ts n ∷ []) w ≡ Some (tag_at ts w)) (sym same)
      (got_last (tags_listed n ts) (tag_at ts n) n (omega (arith, listed_length n ts)))
]

-- the next event has no tag
pub next_untagged : (n count : ℕ) (ts : List TaggedEvent) → TagsInOrder n ts → count ≡ n + 1 → tags_listed count ts ≡ tags_listed n ts ++ None ∷ []
next_untagged n count ts r e =
    let later : count ≡ suc n = omega (arith, e) in
    ap (λ w. tags_listed w ts) later
    ∙ ap (λ w. tags_listed n ts ++ w ∷ []) (absent ts n (λ k l same. omega (arith, r.within k l, same)))

-- the next event has a tag
pub next_tagged : (n count : ℕ) (ts after : List TaggedEvent) (t : TaggedEvent) → TagsInOrder n ts → count ≡ n + 1 → t.event ≡ n → after ≡ ts ++ t ∷ []
    → tags_listed count after ≡ tags_listed n ts ++ Some t.tag ∷ []
next_tagged n count ts after t r e is more =
    let later : count ≡ suc n = omega (arith, e) in
    let added : tag_at (ts ++ t ∷ []) n ≡ Some t.tag = subst (λ w. tag_at (ts ++ t ∷ []) w ≡ Some t.tag) is (tag_added ts t (λ k l same. omega (arith, r.within k l, same, is))) in
    ap (λ w. tags_listed w after) later
    ∙ ap (λ w. tags_listed (suc n) w) more
    ∙ ap (λ w. w ++ tag_at (ts ++ t ∷ []) n ∷ []) (listed_before n ts t (omega (arith, is)))
    ∙ ap (λ w. tags_listed n ts ++ w ∷ []) added

event_before : (ts : List TaggedEvent) (t : TaggedEvent) (k : ℕ) → k < length ts → event_at (ts ++ t ∷ []) k ≡ event_at ts k
event_before ts t k l = ap (λ w. w.event) (get_or_append_left ts (t ∷ []) no_tag k l)

-- a search by the events

abbrev RisesIn : List TaggedEvent → Type 0
RisesIn ts = (j k : ℕ) → j < k → k < length ts → event_at ts j < event_at ts k

comparisons_rise : (ts : List TaggedEvent) (i : ℕ) → RisesIn ts → IsNonDecreasingBy (λ t. ordering_index (nat_cmp t.event i)) ts
comparisons_rise ts i rise = IsNonDecreasingBy-from_default (λ t. ordering_index (nat_cmp t.event i)) ts no_tag (λ j k le within.
    let events_rise : event_at ts j ≤ event_at ts k = grind (arith, rise j k, λ (same : j ≡ k). ap (event_at ts) same) in
    grind (arith, nat_tests))

pub searched : (ts : List TaggedEvent) (i : ℕ) (r : Result ℕ ℕ) → RisesIn ts → IsSearchInRange r (length ts) → IsBinarySearchResult (λ t. nat_cmp t.event i) ts r
    → MatchResult r (λ k. (k < length ts) × (event_at ts k ≡ i)) (λ x. tag_at ts i ≡ None)
searched ts i (Ok k) rise within equal = (within, ranked _ i _ (sym (equal no_tag)))
searched ts i (Err k) rise within parted = absent ts i (λ j l same. elim (cases_lt j k) [
  | inl less ↦ let below : event_at ts j < i = ranked _ i _ (sym ((parted (comparisons_rise ts i rise)).0 j no_tag (omega (arith, within)) less)) in omega (arith, below, same)
  | inr least ↦ let above : i < event_at ts j = ranked _ i _ (sym ((parted (comparisons_rise ts i rise)).1 j no_tag least l)) in omega (arith, above, same)
])

-- an index between two tags, and just after the first of them
module _ (ts : List TaggedEvent) (i place : ℕ) (rise : RisesIn ts) (within : place ≤ length ts) (below : 0 < place → event_at ts (place - 1) < i) where
  before_place : (j : ℕ) → j < place → event_at ts j < i
  before_place j l = elim (cases_lt j (place - 1)) [
    | inl earlier ↦ let a : event_at ts j < event_at ts (place - 1) = rise j (place - 1) earlier (omega (arith, l, within)) in let b = below (omega (arith, l)) in omega (arith, a, b)
    | inr last ↦ let e : j ≡ place - 1 = omega (arith, l, last) in subst (λ w. event_at ts w < i) (sym e) (below (omega (arith, l)))
  ]

  from_place : (i < event_at ts place) → (j : ℕ) → place ≤ j → j < length ts → i < event_at ts j
  from_place above j m l = elim (cases_lt place j) [
    | inl later ↦ let a : event_at ts place < event_at ts j = rise place j later l in omega (arith, a, above)
    | inr first ↦ let e : place ≡ j = omega (arith, m, first) in subst (λ w. i < event_at ts w) e above
  ]

  pub between : (place < length ts → i < event_at ts place) → tag_at ts i ≡ None
  between above = absent ts i (λ j l same. elim (cases_lt j place) [
    | inl less ↦ let a = before_place j less in omega (arith, a, same)
    | inr least ↦ let a = from_place (above (omega (arith, least, l))) j least l in omega (arith, a, same)
  ])

-- an element that was read
pub read_event : (ts : List TaggedEvent) (k : ℕ) (t : TaggedEvent) → k < length ts → (get_or ts k t).event ≡ event_at ts k
read_event ts k t l = ap (λ w. w.event) (sym (get_or_default ts k no_tag t l))

-- the tag of an event, found at an index

pub tag_found : (n : ℕ) (ts : List TaggedEvent) (v : List (Option (List ℕ))) (i k : ℕ) (t : TaggedEvent) → tags_listed n ts ≡ v → RisesIn ts → i < length v
    → (k < length ts) × (event_at ts k ≡ i) → t ≡ get_or ts k t → slice_get v i ≡ Some (Some t.tag)
tag_found n ts v i k t seen rise l at is =
    let inside : i < n = omega (arith, l, ap length seen, listed_length n ts) in
    let read : get_or ts k no_tag ≡ t = get_or_default ts k no_tag t at.0 ∙ sym is in
    ap (λ w. slice_get w i) (sym seen) ∙ listed_at n ts i inside
    ∙ ap Some (present ts i k at.0 at.1 (λ j m same. omega (arith, rise j k m at.0, same, at.1)) ∙ ap (λ w. Some w.tag) read)

pub no_tag_found : (n : ℕ) (ts : List TaggedEvent) (v : List (Option (List ℕ))) (i : ℕ) → tags_listed n ts ≡ v → i < length v → tag_at ts i ≡ None
    → slice_get v i ≡ Some None
no_tag_found n ts v i seen l none =
    let inside : i < n = omega (arith, l, ap length seen, listed_length n ts) in
    ap (λ w. slice_get w i) (sym seen) ∙ listed_at n ts i inside ∙ ap Some none

-- no tags are kept
pub none_kept : (n : ℕ) (ts : List TaggedEvent) (i : ℕ) → i < length (tags_listed n ts) → length ts ≡ 0 → slice_get (tags_listed n ts) i ≡ Some None
none_kept n [] i l none = no_tag_found n [] (tags_listed n []) i refl l refl
none_kept n (t ∷ ts) i l none = absurd (omega (arith, none))

-- the next events have no tag
pub next_all_untagged : (j n count : ℕ) (ts : List TaggedEvent) → TagsInOrder n ts → count ≡ n + j → tags_listed count ts ≡ tags_listed n ts ++ replicate j None
next_all_untagged zero n count ts r e =
    let same : count ≡ n = omega (arith, e) in
    ap (λ w. tags_listed w ts) same ∙ sym (append-nil (tags_listed n ts))
next_all_untagged (suc j) n count ts r e =
    let more : TagsInOrder (suc n) ts = record { rise = r.rise; within = λ k l. omega (arith, r.within k l) } in
    next_all_untagged j (suc n) count ts more (omega (arith, e))
    ∙ ap (λ w. w ++ replicate j None) (next_untagged n (suc n) ts r (omega arith))
    ∙ append_assoc (tags_listed n ts) (None ∷ []) (replicate j None)
