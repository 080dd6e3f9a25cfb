-- Binary search among open collections, the innermost last, finds the collections that an entry ends, as the definition
-- does one by one.
use Rattle.std.proofs.Common.{◌≡◌, ℕ, ◌-◌, ◌<◌, ◌≤◌, Bool, true, false, true≢false, List, [], ◌∷◌, ◌++◌, length, take, drop, get_or, reverse, Option, Some, None, Result, Ok, Err, refl, sym, ap, ◌∙◌, subst, arith, append-nil, append_assoc}
use Rattle.std.specs.Prelude.{not, nat_lt, filter, is_some, if◌then◌else◌, OnErr, OnOk}
use Rattle.std.specs.List.{All}
use Rattle.std.specs.List.Sorted.{IsNonDecreasingBy, IsPartitionPoint, IsPartitionedBy}
use Rattle.std.proofs.lemmas.Bool.{not-false, not-true, not_from_false}
use Rattle.std.proofs.lemmas.Bool.Decides.{nat_tests}
use Rattle.std.proofs.lemmas.List.{reverse-append, reverse-reverse, take-append-drop, take_all}
use Rattle.std.proofs.lemmas.List.Elements.{All-append, All-cons, All-filter, All-head, All-nil, All-tail, All-weaker, filter-append, filter_passes}
use Rattle.std.proofs.lemmas.List.Sorted.{IsNonDecreasingBy-push, IsNonDecreasingBy-take}
use Rattle.yf_print.specs.Layouts.CommentColumns.{OpenBlock, goes_on, innermost_source, inward_from, is_ended_by, not_ended, not_left, open_after, or_else, or_source, placed_in, unless_left}
use Rattle.yf_print.specs.Passes.HeldBlocks.{IsHeld, IsSourced, RanksFall, has_source, rank, source_of}
use Rattle.yf_print.proofs.Pass.HeldLists.{All-reverse, ended_above, ends_above, falls_filter, falls_rest, filter-reverse, front_all, further_rank, left_below, leaves_below, on_top, one_cut, rest_all, reversed_parts, rises_reversed, same_rank}

-- The test of the search.

pub ended_last : (y : OpenBlock) (bs : List OpenBlock) → IsNonDecreasingBy rank bs → IsPartitionedBy (λ b. not (is_ended_by y b)) bs
ended_last y bs rises i j d a l e =
    let order : rank (get_or bs i d) ≤ rank (get_or bs j d) = rises i j d a l in
    let here : rank (get_or bs j d) ≤ rank y = leaves_below y (get_or bs j d) (not-true (is_ended_by y (get_or bs j d)) e) in
    not_from_false (is_ended_by y (get_or bs i d)) (left_below y (get_or bs i d) (omega (arith, order, here)))

pub outer_first : (y : OpenBlock) (bs : List OpenBlock) → IsNonDecreasingBy rank bs → IsPartitionedBy (λ b. is_ended_by b y) bs
outer_first y bs rises i j d a l e =
    let order : rank (get_or bs i d) ≤ rank (get_or bs j d) = rises i j d a l in
    let here : rank (get_or bs j d) < rank y = ends_above (get_or bs j d) y e in
    ended_above (get_or bs i d) y (omega (arith, order, here))

pub turned : (y : OpenBlock) (bs : List OpenBlock) (i : ℕ)
    → IsPartitionPoint (λ b. not (is_ended_by y b) ≡ true) (λ b. not (is_ended_by y b) ≡ false) bs i
    → IsPartitionPoint (λ b. is_ended_by y b ≡ false) (λ b. is_ended_by y b ≡ true) bs i
turned y bs i p = (λ k d a b. not-true (is_ended_by y (get_or bs k d)) (p.0 k d a b), λ k d a b. not-false (is_ended_by y (get_or bs k d)) (p.1 k d a b))

pub held_rises : (all sourced : List OpenBlock) → IsHeld all sourced → IsNonDecreasingBy rank all
held_rises all sourced h = subst (λ z. IsNonDecreasingBy rank z) (reverse-reverse all) (rises_reversed (reverse all) h.ranks)

pub sourced_reversed : (all sourced : List OpenBlock) → IsHeld all sourced → filter has_source (reverse all) ≡ reverse sourced
sourced_reversed all sourced h = filter-reverse has_source all ∙ ap reverse (sym h.are)

pub sourced_rises : (all sourced : List OpenBlock) → IsHeld all sourced → IsNonDecreasingBy rank sourced
sourced_rises all sourced h =
    subst (λ z. IsNonDecreasingBy rank z) (ap reverse (sourced_reversed all sourced h) ∙ reverse-reverse sourced)
    (rises_reversed (filter has_source (reverse all)) (falls_filter has_source (reverse all) h.ranks))

pub held_sources : (all sourced : List OpenBlock) → IsHeld all sourced → IsSourced sourced
held_sources all sourced h = record {
  each = subst (λ z. All (λ b. has_source b ≡ true) z) (sym h.are) (filter_passes has_source all);
  rises = h.rises;
}

-- One by one.

not_ended_past : (y : OpenBlock) (us vs : List OpenBlock) → All (λ b. is_ended_by y b ≡ true) us → not_ended y (us ++ vs) ≡ not_ended y vs
not_ended_past y [] vs a = refl
not_ended_past y (u ∷ us) vs a =
    ap (λ z. if z then not_ended y (us ++ vs) else u ∷ (us ++ vs)) (All-head (λ b. is_ended_by y b ≡ true) u us a) ∙ not_ended_past y us vs (All-tail (λ b. is_ended_by y b ≡ true) u us a)

not_ended_here : (y : OpenBlock) (vs : List OpenBlock) → All (λ b. is_ended_by y b ≡ false) vs → not_ended y vs ≡ vs
not_ended_here y [] a = refl
not_ended_here y (v ∷ vs) a = ap (λ z. if z then not_ended y vs else v ∷ vs) (All-head (λ b. is_ended_by y b ≡ false) v vs a)

inward_past : (y : OpenBlock) (us vs : List OpenBlock) → All (λ b. is_ended_by y b ≡ true) us
    → inward_from y (us ++ vs) ≡ us ++ inward_from y vs
inward_past y [] vs a = refl
inward_past y (u ∷ us) vs a =
    ap (λ z. if z then u ∷ inward_from y (us ++ vs) else u ∷ []) (All-head (λ b. is_ended_by y b ≡ true) u us a) ∙ ap (λ z. u ∷ z) (inward_past y us vs (All-tail (λ b. is_ended_by y b ≡ true) u us a))

abbrev pub CutBy : OpenBlock → List OpenBlock → ℕ → Type 0
CutBy y bs i = IsPartitionPoint (λ b. is_ended_by y b ≡ false) (λ b. is_ended_by y b ≡ true) bs i

-- The cut between the collections that an entry ends and the others.

module _ (y : OpenBlock) (bs : List OpenBlock) (i : ℕ) (l : i ≤ length bs) (p : CutBy y bs i) where
  pub stay_all : All (λ b. is_ended_by y b ≡ false) (take i bs)
  stay_all = front_all (λ b. is_ended_by y b ≡ false) bs i l p.0

  end_all : All (λ b. is_ended_by y b ≡ true) (drop i bs)
  end_all = rest_all (λ b. is_ended_by y b ≡ true) bs i l p.1

  ended_inner : All (λ b. is_ended_by y b ≡ true) (reverse (drop i bs))
  ended_inner = All-reverse (λ b. is_ended_by y b ≡ true) (drop i bs) end_all

  pub left_is : not_ended y (reverse bs) ≡ reverse (take i bs)
  left_is =
      ap (not_ended y) (reversed_parts bs i)
      ∙ (not_ended_past y (reverse (drop i bs)) (reverse (take i bs)) ended_inner
      ∙ not_ended_here y (reverse (take i bs)) (All-reverse (λ b. is_ended_by y b ≡ false) (take i bs) stay_all))

-- Both lists have the same cut.

pub held_cut : (y : OpenBlock) (all sourced : List OpenBlock) (i j : ℕ) → IsHeld all sourced → i ≤ length all → j ≤ length sourced
    → CutBy y all i → CutBy y sourced j
    → IsHeld (take i all) (take j sourced)
held_cut y all sourced i j h l m p q = record {
  ranks = falls_rest (reverse (drop i all)) (reverse (take i all)) (subst RanksFall (reversed_parts all i) h.ranks);
  are = one_cut (is_ended_by y) (take j sourced) (drop j sourced) (filter has_source (take i all)) (filter has_source (drop i all))
      (take-append-drop j sourced ∙ (h.are ∙ (ap (filter has_source) (sym (take-append-drop i all)) ∙ filter-append has_source (take i all) (drop i all))))
      (stay_all y sourced j m q) (end_all y sourced j m q) (All-filter has_source (λ b. is_ended_by y b ≡ false) (take i all) (stay_all y all i l p))
      (All-filter has_source (λ b. is_ended_by y b ≡ true) (drop i all) (end_all y all i l p));
  rises = IsNonDecreasingBy-take source_of j sourced h.rises;
}

pub cut_to : (y : OpenBlock) {all sourced seen read now left : List OpenBlock} (i j : ℕ) → IsHeld all sourced → seen ≡ all
    → read ≡ sourced → i ≤ length seen → j ≤ length read → CutBy y seen i → CutBy y read j
    → now ≡ take i all → left ≡ take j sourced → IsHeld now left
cut_to y {all} {sourced} {seen} {read} {now} {left} i j h e f l m p q g k =
    let held : IsHeld (take i all) (take j sourced) =
    held_cut y all sourced i j h (subst (λ z. i ≤ length z) e l) (subst (λ z. j ≤ length z) f m) (subst (λ z. CutBy y z i) e p) (subst (λ z. CutBy y z j) f q) in
    subst (λ z. IsHeld z left) (sym g) (subst (λ z. IsHeld (take i all) z) (sym k) held)

pub cut_left : (y : OpenBlock) {all seen now : List OpenBlock} (i : ℕ) → seen ≡ all → i ≤ length seen → CutBy y seen i
    → now ≡ take i all → reverse now ≡ not_ended y (reverse all)
cut_left y {all} {seen} i e l p g = ap reverse g ∙ (ap (λ z. reverse (take i z)) (sym e) ∙ (sym (left_is y seen i l p) ∙ ap (λ z. not_ended y (reverse z)) e))

-- A collection within all of them.

further_all : (y : OpenBlock) (bs : List OpenBlock) → RanksFall bs → All (λ b. is_ended_by y b ≡ false) bs → goes_on y bs ≡ false
    → All (λ c. rank c < rank y) bs
further_all y [] r a e = All-nil (λ c. rank c < rank y)
further_all y (b ∷ bs) r a e =
    let below : rank b < rank y = further_rank y b (All-head (λ b. is_ended_by y b ≡ false) b bs a) e in
    All-cons (λ c. rank c < rank y) b bs below (All-weaker (λ c. rank c < rank b) (λ c. rank c < rank y) (λ c l. omega (arith, l, below)) bs r.0)

pub some_source : (b : OpenBlock) → has_source b ≡ true → b.source ≡ Some (source_of b)
some_source b e = go b.source e where
  go : (o : Option ℕ) → is_some o ≡ true → o ≡ Some (or_else o 0)
  go None f = absurd (true≢false (sym f))
  go (Some n) f = refl

-- the innermost collection with a source column
pub last_source : (sourced : List OpenBlock) (d : OpenBlock) → IsSourced sourced → 0 < length sourced
    → innermost_source (reverse sourced) ≡ Some (source_of (get_or sourced (length sourced - 1) d))
last_source sourced d s l =
    let n : ℕ = length sourced in
    let b : OpenBlock = get_or sourced (n - 1) d in
    let whole : take n sourced ≡ sourced = take_all n sourced (omega arith) in
    ap (λ z. innermost_source (reverse z)) (sym whole)
    ∙ (ap innermost_source (on_top sourced n d l (omega arith))
    ∙ ap (λ o. or_source o (innermost_source (reverse (take (n - 1) sourced)))) (some_source b (s.each (n - 1) d (omega (arith, l)))))

sourced_innermost : (bs : List OpenBlock) → innermost_source (filter has_source bs) ≡ innermost_source bs
sourced_innermost [] = refl
sourced_innermost (b ∷ bs) = go b.source refl (sourced_innermost bs) where
  go : (o : Option ℕ) → b.source ≡ o → innermost_source (filter has_source bs) ≡ innermost_source bs
      → innermost_source (if is_some o then b ∷ filter has_source bs else filter has_source bs) ≡ or_source o (innermost_source bs)
  go None e h = h
  go (Some n) e h = ap (λ o. or_source o (innermost_source (filter has_source bs))) e

pub placed_in_sourced : (y : OpenBlock) (all sourced : List OpenBlock) → IsHeld all sourced
    → placed_in y (reverse sourced) ≡ placed_in y (reverse all)
placed_in_sourced y all sourced h =
    ap (λ o. record y { source = unless_left o y.source }) (ap innermost_source (sym (sourced_reversed all sourced h)) ∙ sourced_innermost (reverse all))

-- its source column is not left of those around it
right_of_last : (y : OpenBlock) (sourced : List OpenBlock) (d : OpenBlock) → IsSourced sourced → 0 < length sourced
    → has_source (placed_in y (reverse sourced)) ≡ true
    → source_of (get_or sourced (length sourced - 1) d) ≤ source_of (placed_in y (reverse sourced))
right_of_last y sourced d s l e = go y.source (innermost_source (reverse sourced)) (last_source sourced d s l) e where
  m : ℕ
  m = source_of (get_or sourced (length sourced - 1) d)

  chosen : (n : ℕ) (v : Bool) → nat_lt n m ≡ v → is_some (if v then None else Some n) ≡ true → m ≤ or_else (if v then None else Some n) 0
  chosen n true f g = absurd (true≢false (sym g))
  chosen n false f g = grind (arith, nat_tests)

  placed : (o : Option ℕ) → is_some (not_left m o) ≡ true → m ≤ or_else (not_left m o) 0
  placed None g = absurd (true≢false (sym g))
  placed (Some n) g = chosen n (nat_lt n m) refl g

  go : (own o : Option ℕ) → o ≡ Some m → is_some (unless_left o own) ≡ true → m ≤ or_else (unless_left o own) 0
  go own o f g = subst (λ z. is_some (unless_left z own) ≡ true → m ≤ or_else (unless_left z own) 0) (sym f) (placed own) g

pub held_pushed : (y : OpenBlock) (all sourced : List OpenBlock) → IsHeld all sourced → All (λ b. is_ended_by y b ≡ false) all
    → goes_on y (reverse all) ≡ false
    → IsHeld (all ++ (placed_in y (reverse sourced) ∷ [])) (sourced ++ filter has_source (placed_in y (reverse sourced) ∷ []))
held_pushed y all sourced h a e = record {
  ranks = subst RanksFall (sym (reverse-append all (block ∷ []))) (further_all y (reverse all) h.ranks (All-reverse (λ b. is_ended_by y b ≡ false) all a) e, h.ranks);
  are = ap (λ z. z ++ filter has_source (block ∷ [])) h.are ∙ sym (filter-append has_source all (block ∷ []));
  rises = go (has_source block) refl;
} where
  block : OpenBlock
  block = placed_in y (reverse sourced)

  go : (v : Bool) → has_source block ≡ v → IsNonDecreasingBy source_of (sourced ++ (if v then block ∷ [] else []))
  go true f = IsNonDecreasingBy-push source_of sourced block h.rises (λ d l. right_of_last y sourced d (held_sources all sourced h) l f)
  go false f = subst (λ z. IsNonDecreasingBy source_of z) (sym (append-nil sourced)) h.rises

-- The open collections after an entry.

pub opened_known : (y : OpenBlock) (bs now : List OpenBlock) → now ≡ not_ended y bs → goes_on y now ≡ true → now ≡ open_after y bs
opened_known y bs now e f = ap (λ v. if v then now else placed_in y now ∷ now) (sym f) ∙ ap (λ z. if goes_on y z then z else placed_in y z ∷ z) e

pub opened_new : (y : OpenBlock) (bs now next : List OpenBlock) → now ≡ not_ended y bs → goes_on y now ≡ false
    → next ≡ placed_in y now ∷ now → next ≡ open_after y bs
opened_new y bs now next e f g = g ∙ (ap (λ v. if v then now else placed_in y now ∷ now) (sym f) ∙ ap (λ z. if goes_on y z then z else placed_in y z ∷ z) e)

pub held_after : {A E : Type 0} (y : OpenBlock) {all sourced seen now left : List OpenBlock} (block : OpenBlock) (r : Result A E)
    → IsHeld all sourced → All (λ b. is_ended_by y b ≡ false) all → goes_on y (reverse all) ≡ false
    → seen ≡ sourced → block ≡ placed_in y (reverse seen) → OnOk r ((now ≡ all ++ (block ∷ [])) × (left ≡ sourced ++ filter has_source (block ∷ []))) → OnErr r ((now ≡ all) × (left ≡ sourced)) → IsHeld now left
held_after y {all} {sourced} {seen} {now} {left} block (Ok v) h a e f g pushed kept =
    let placed : block ≡ placed_in y (reverse sourced) = g ∙ ap (λ z. placed_in y (reverse z)) f in
    subst (λ z. IsHeld z left) (sym (pushed.0 ∙ ap (λ z. all ++ (z ∷ [])) placed))
    (subst (λ z. IsHeld (all ++ (placed_in y (reverse sourced) ∷ [])) z) (sym (pushed.1 ∙ ap (λ z. sourced ++ filter has_source (z ∷ [])) placed)) (held_pushed y all sourced h a e))
held_after y {all} {sourced} {seen} {now} {left} block (Err v) h a e f g pushed kept = subst (λ z. IsHeld z left) (sym kept.0) (subst (λ z. IsHeld all z) (sym kept.1) h)

pub opened_after : {A E : Type 0} (y : OpenBlock) (bs now : List OpenBlock) (left : Type 0) {all sourced seen : List OpenBlock} (block : OpenBlock) (r : Result A E) → IsHeld all sourced → reverse all ≡ not_ended y bs → goes_on y (reverse all) ≡ false
    → seen ≡ sourced → block ≡ placed_in y (reverse seen) → OnOk r ((now ≡ all ++ (block ∷ [])) × left) → OnOk r (reverse now ≡ open_after y bs)
opened_after y bs now left {all} {sourced} {seen} block (Ok v) h n e f g pushed =
    opened_new y bs (reverse all) (reverse now) n e
    (ap reverse pushed.0
    ∙ (reverse-append all (block ∷ [])
    ∙ ap (λ z. z ∷ reverse all) (g ∙ (ap (λ z. placed_in y (reverse z)) f ∙ placed_in_sourced y all sourced h))))
opened_after y bs now left block (Err v) h n e f g pushed = tt

-- The collections from the entry's own one inward.

abbrev pub OuterBy : OpenBlock → List OpenBlock → ℕ → Type 0
OuterBy y bs k = IsPartitionPoint (λ b. is_ended_by b y ≡ true) (λ b. is_ended_by b y ≡ false) bs k

-- the collections that an entry ends, before those that it doesn't end
record Parted (y : OpenBlock) (bs : List OpenBlock) : Type 0 where
  ended : List OpenBlock
  is : bs ≡ ended ++ not_ended y bs
  inner : All (λ b. is_ended_by y b ≡ true) ended
  around : All (λ b. is_ended_by y b ≡ false) (not_ended y bs)

parted : (y : OpenBlock) (bs : List OpenBlock) → RanksFall bs → Parted y bs
parted y [] r = record { ended = []; is = refl; inner = All-nil (λ b. is_ended_by y b ≡ true); around = All-nil (λ b. is_ended_by y b ≡ false) }
parted y (b ∷ bs) r = go (is_ended_by y b) refl (parted y bs r.1) where
  go : (v : Bool) → is_ended_by y b ≡ v → Parted y bs → Parted y (b ∷ bs)
  go true e p =
      let same : not_ended y (b ∷ bs) ≡ not_ended y bs = ap (λ z. if z then not_ended y bs else b ∷ bs) e in
      record {
        ended = b ∷ p.ended;
        is = ap (λ z. b ∷ z) p.is ∙ ap (λ z. b ∷ (p.ended ++ z)) (sym same);
        inner = All-cons (λ c. is_ended_by y c ≡ true) b p.ended e p.inner;
        around = subst (λ z. All (λ c. is_ended_by y c ≡ false) z) (sym same) p.around;
      }
  go false e p =
      let same : not_ended y (b ∷ bs) ≡ b ∷ bs = ap (λ z. if z then not_ended y bs else b ∷ bs) e in
      let here : rank b ≤ rank y = leaves_below y b e in
      record {
        ended = [];
        is = sym same;
        inner = All-nil (λ c. is_ended_by y c ≡ true);
        around = subst (λ z. All (λ c. is_ended_by y c ≡ false) z) (sym same)
            (All-cons (λ c. is_ended_by y c ≡ false) b bs e (All-weaker (λ c. rank c < rank b) (λ c. is_ended_by y c ≡ false) (λ c l. left_below y c (omega (arith, l, here))) bs r.0));
      }

module _ (y : OpenBlock) (ended : List OpenBlock) (a : All (λ b. is_ended_by y b ≡ true) ended) where
  inner_all : All (λ b. is_ended_by b y ≡ false) ended
  inner_all = All-weaker (λ b. is_ended_by y b ≡ true) (λ b. is_ended_by b y ≡ false) (λ b e. let above : rank y < rank b = ends_above y b e in left_below b y (omega (arith, above))) ended a

  inward_parts : (ws us vs : List OpenBlock) → RanksFall ws → All (λ b. is_ended_by y b ≡ false) ws → goes_on y ws ≡ true
      → filter has_source (ended ++ ws) ≡ us ++ vs → All (λ b. is_ended_by b y ≡ false) us → All (λ b. is_ended_by b y ≡ true) vs → filter has_source (ended ++ inward_from y ws) ≡ us
  inward_parts [] us vs r s e f g h = absurd (true≢false (sym e))
  inward_parts (w ∷ ws) us vs r s e f g h =
      let same : rank y ≡ rank w = same_rank y w e in
      let here : inward_from y (w ∷ ws) ≡ w ∷ [] = ap (λ z. if z then w ∷ inward_from y ws else w ∷ []) (All-head (λ b. is_ended_by y b ≡ false) w ws s) in
      let inner : All (λ b. is_ended_by b y ≡ false) (ended ++ (w ∷ [])) =
      All-append (λ b. is_ended_by b y ≡ false) ended (w ∷ []) inner_all (All-cons (λ b. is_ended_by b y ≡ false) w [] (left_below w y (omega (arith, same))) (All-nil (λ b. is_ended_by b y ≡ false))) in
      let outer : All (λ b. is_ended_by b y ≡ true) ws = All-weaker (λ c. rank c < rank w) (λ b. is_ended_by b y ≡ true) (λ c l. ended_above c y (omega (arith, l, same))) ws r.0 in
      let parts : filter has_source (ended ++ (w ∷ [])) ++ filter has_source ws ≡ us ++ vs =
      sym (filter-append has_source (ended ++ (w ∷ [])) ws) ∙ (ap (filter has_source) (append_assoc ended (w ∷ []) ws) ∙ f) in
      ap (λ z. filter has_source (ended ++ z)) here
      ∙ one_cut (λ b. is_ended_by b y) (filter has_source (ended ++ (w ∷ []))) (filter has_source ws) us vs parts
      (All-filter has_source (λ b. is_ended_by b y ≡ false) (ended ++ (w ∷ [])) inner) (All-filter has_source (λ b. is_ended_by b y ≡ true) ws outer) g h

pub inner_sources : (y : OpenBlock) (bs ss : List OpenBlock) (k : ℕ) → RanksFall bs → filter has_source bs ≡ reverse ss → k ≤ length ss
    → OuterBy y ss k
    → goes_on y (not_ended y bs) ≡ true → filter has_source (inward_from y bs) ≡ reverse (drop k ss)
inner_sources y bs ss k r f l q e =
    let p : Parted y bs = parted y bs r in
    ap (λ z. filter has_source (inward_from y z)) p.is
    ∙ (ap (filter has_source) (inward_past y p.ended (not_ended y bs) p.inner)
    ∙ inward_parts y p.ended p.inner (not_ended y bs) (reverse (drop k ss)) (reverse (take k ss)) (falls_rest p.ended (not_ended y bs) (subst RanksFall p.is r)) p.around e
    (ap (filter has_source) (sym p.is) ∙ (f ∙ reversed_parts ss k))
    (All-reverse (λ b. is_ended_by b y ≡ false) (drop k ss) (rest_all (λ b. is_ended_by b y ≡ false) ss k l q.1))
    (All-reverse (λ b. is_ended_by b y ≡ true) (take k ss) (front_all (λ b. is_ended_by b y ≡ true) ss k l q.0)))
