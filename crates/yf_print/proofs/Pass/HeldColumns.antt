-- Binary search among open collections, the innermost last, finds the column of a comment, as the definition does one
-- by one.
use Rattle.std.proofs.Common.{◌≡◌, ℕ, ◌-◌, ◌<◌, ◌≤◌, Bool, true, false, true≢false, List, [], ◌∷◌, ◌++◌, length, take, drop, get_or, reverse, Option, Some, None, Result, refl, sym, ap, ◌∙◌, subst, arith, ⊎_elim, leb, ltb}
use Rattle.std.specs.Prelude.{nat_lt, filter, is_some, if◌then◌else◌, IfOk}
use Rattle.std.specs.List.{All}
use Rattle.std.specs.List.Sorted.{IsPartitionPoint}
use Rattle.std.proofs.lemmas.Bool.{cases_lt, eq-eqb, le-ltb, leb-false, leb-true, lt-ltb, ltb-false, ltb-true, ne_eqb}
use Rattle.std.proofs.lemmas.List.{get_or_default, length-drop, length-reverse, take_all, take_rest}
use Rattle.std.specs.Option.{unwrap_or}
use Rattle.std.proofs.lemmas.List.Elements.{All-drop, All-head, All-tail, All-weaker}
use Rattle.std.proofs.lemmas.List.Sorted.{IsNonDecreasingBy-drop}
use Rattle.yf_print.specs.Layouts.CommentColumns.{OpenBlock, at_margin, begins_entry, column_among, column_at, column_in, column_left, further_in, goes_on, inward_from, is_source, left_or, not_ended, or_else}
use Rattle.yf_print.specs.Passes.HeldBlocks.{IsHeld, IsSourced, has_source, source_of}
use Rattle.yf_print.proofs.Pass.HeldLists.{All-reverse, on_top, rest_all, reversed_parts}
use Rattle.yf_print.proofs.Pass.HeldBlocks.{CutBy, OuterBy, inner_sources, left_is, some_source, sourced_reversed}

-- Collections without a source column don't count.

no_source : (k : ℕ) (o : Option ℕ) → is_some o ≡ false → is_source k o ≡ false
no_source k None e = refl
no_source k (Some n) e = absurd (true≢false e)

at_sourced : (k : ℕ) (bs : List OpenBlock) → column_at k (filter has_source bs) ≡ column_at k bs
at_sourced k [] = refl
at_sourced k (b ∷ bs) = go (has_source b) refl (at_sourced k bs) where
  go : (v : Bool) → has_source b ≡ v → column_at k (filter has_source bs) ≡ column_at k bs
      → column_at k (if v then b ∷ filter has_source bs else filter has_source bs) ≡ (if is_source k b.source then Some b.printed else column_at k bs)
  go true e h = ap (λ z. if is_source k b.source then Some b.printed else z) h
  go false e h = h ∙ sym (ap (λ z. if z then Some b.printed else column_at k bs) (no_source k b.source e))

left_sourced : (indent : ℕ) (may : Bool) (k : ℕ) (bs : List OpenBlock)
    → column_left indent may k (filter has_source bs) ≡ column_left indent may k bs
left_sourced indent may k [] = refl
left_sourced indent may k (b ∷ bs) = go b.source refl (left_sourced indent may k bs) (left_sourced indent false k bs) where
  same : Option ℕ
  same = column_left indent may k (filter has_source bs)

  later : Option ℕ
  later = column_left indent false k (filter has_source bs)

  go : (o : Option ℕ) → b.source ≡ o → same ≡ column_left indent may k bs → later ≡ column_left indent false k bs
      → column_left indent may k (if is_some o then b ∷ filter has_source bs else filter has_source bs) ≡ left_or indent may k o b.printed (column_left indent may k bs) (column_left indent false k bs)
  go None e g h = g
  go (Some n) e g h = ap (λ o. left_or indent may k o b.printed same later) e ∙ ap (λ z. if nat_lt n k then Some (further_in indent may b.printed) else z) h

pub at_held : (k : ℕ) (all sourced : List OpenBlock) → IsHeld all sourced → column_at k (reverse sourced) ≡ column_at k (reverse all)
at_held k all sourced h = ap (column_at k) (sym (sourced_reversed all sourced h)) ∙ at_sourced k (reverse all)

pub left_among : (indent : ℕ) (may : Bool) (k : ℕ) (bs ss : List OpenBlock) → filter has_source bs ≡ ss
    → column_left indent may k ss ≡ column_left indent may k bs
left_among indent may k bs ss e = ap (column_left indent may k) (sym e) ∙ left_sourced indent may k bs

pub sourced_drop : (n : ℕ) (bs : List OpenBlock) → IsSourced bs → IsSourced (drop n bs)
sourced_drop n bs s = record { each = All-drop (λ b. has_source b ≡ true) n bs s.each; rises = IsNonDecreasingBy-drop source_of n bs s.rises }

-- The collection at a column.

not_source : (k : ℕ) (b : OpenBlock) → (source_of b ≡ k → ⊥) → is_source k b.source ≡ false
not_source k b f = go b.source f where
  go : (o : Option ℕ) → (or_else o 0 ≡ k → ⊥) → is_source k o ≡ false
  go None g = refl
  go (Some n) g = ne_eqb n k g

at_past : (k : ℕ) (us vs : List OpenBlock) → All (λ b. is_source k b.source ≡ false) us → column_at k (us ++ vs) ≡ column_at k vs
at_past k [] vs a = refl
at_past k (u ∷ us) vs a =
    ap (λ z. if z then Some u.printed else column_at k (us ++ vs)) (All-head (λ b. is_source k b.source ≡ false) u us a) ∙ at_past k us vs (All-tail (λ b. is_source k b.source ≡ false) u us a)

at_none : (k : ℕ) (us : List OpenBlock) → All (λ b. is_source k b.source ≡ false) us → column_at k us ≡ None
at_none k [] a = refl
at_none k (u ∷ us) a =
    ap (λ z. if z then Some u.printed else column_at k us) (All-head (λ b. is_source k b.source ≡ false) u us a) ∙ at_none k us (All-tail (λ b. is_source k b.source ≡ false) u us a)

abbrev pub UpTo : ℕ → List OpenBlock → ℕ → Type 0
UpTo k bs n = IsPartitionPoint (λ b. leb (source_of b) k ≡ true) (λ b. leb (source_of b) k ≡ false) bs n

module _ (k : ℕ) (bs : List OpenBlock) (n : ℕ) (l : n ≤ length bs) (s : IsSourced bs) (p : UpTo k bs n) where
  right_not : All (λ b. is_source k b.source ≡ false) (drop n bs)
  right_not =
      All-weaker (λ b. leb (source_of b) k ≡ false) (λ b. is_source k b.source ≡ false)
      (λ b e. let right : k < source_of b = leb-false (source_of b) k e in not_source k b (λ f. omega (arith, right, f))) (drop n bs) (rest_all (λ b. leb (source_of b) k ≡ false) bs n l p.1)

  pub at_found : (d : OpenBlock) → 0 < n → source_of (get_or bs (n - 1) d) ≡ k
      → column_at k (reverse bs) ≡ Some (get_or bs (n - 1) d).printed
  at_found d o e =
      let b : OpenBlock = get_or bs (n - 1) d in
      let here : is_source k b.source ≡ true = ap (is_source k) (some_source b (s.each (n - 1) d (omega (arith, o, l)))) ∙ eq-eqb (source_of b) k e in
      ap (column_at k) (reversed_parts bs n)
      ∙ (at_past k (reverse (drop n bs)) (reverse (take n bs)) (All-reverse (λ b. is_source k b.source ≡ false) (drop n bs) right_not)
      ∙ (ap (column_at k) (on_top bs n d o l) ∙ ap (λ z. if z then Some b.printed else column_at k (reverse (take (n - 1) bs))) here))

  pub at_nowhere : (o : OpenBlock) → (0 < n → source_of (get_or bs (n - 1) o) ≡ k → ⊥) → column_at k (reverse bs) ≡ None
  at_nowhere o f = at_none k (reverse bs) (All-reverse (λ b. is_source k b.source ≡ false) bs each) where
    each : All (λ b. is_source k b.source ≡ false) bs
    each j d m =
        not_source k (get_or bs j d) (λ e.
        ⊎_elim (λ (a : j < n).
        let rises : source_of (get_or bs j d) ≤ source_of (get_or bs (n - 1) d) = s.rises j (n - 1) d (omega (arith, a)) (omega (arith, a, l)) in
        let upto : source_of (get_or bs (n - 1) d) ≤ k = leb-true (source_of (get_or bs (n - 1) d)) k (p.0 (n - 1) d (omega arith) (omega (arith, a))) in
        let same : source_of (get_or bs (n - 1) d) ≡ source_of (get_or bs (n - 1) o) = ap source_of (get_or_default bs (n - 1) d o (omega (arith, a, l))) in
        f (omega (arith, a)) (omega (arith, rises, upto, e, same)))
        (λ (a : n ≤ j). let right : k < source_of (get_or bs j d) = leb-false (source_of (get_or bs j d)) k (p.1 j d a m) in omega (arith, right, e))
        (cases_lt j n))

-- The collection left of a column.

abbrev pub LeftOf : ℕ → List OpenBlock → ℕ → Type 0
LeftOf k bs n = IsPartitionPoint (λ b. ltb (source_of b) k ≡ true) (λ b. ltb (source_of b) k ≡ false) bs n

-- a collection with a source column that isn't left of k
record IsRight (k : ℕ) (b : OpenBlock) : Type 0 where
  has : has_source b ≡ true
  right : k ≤ source_of b

module _ (indent k : ℕ) where
  right_one : (may : Bool) (b : OpenBlock) (bs : List OpenBlock) → IsRight k b
      → column_left indent may k (b ∷ bs) ≡ column_left indent false k bs
  right_one may b bs r =
      ap (λ o. left_or indent may k o b.printed (column_left indent may k bs) (column_left indent false k bs)) (some_source b r.has)
      ∙ ap (λ z. if z then Some (further_in indent may b.printed) else column_left indent false k bs) (le-ltb (source_of b) k r.right)

  right_past : (us vs : List OpenBlock) → All (IsRight k) us → column_left indent false k (us ++ vs) ≡ column_left indent false k vs
  right_past [] vs a = refl
  right_past (u ∷ us) vs a = right_one false u (us ++ vs) (All-head (IsRight k) u us a) ∙ right_past us vs (All-tail (IsRight k) u us a)

  right_none : (may : Bool) (us : List OpenBlock) → All (IsRight k) us → column_left indent may k us ≡ None
  right_none may [] a = refl
  right_none may (u ∷ us) a = right_one may u us (All-head (IsRight k) u us a) ∙ right_none false us (All-tail (IsRight k) u us a)

  -- if one is right of it
  right_some : (may : Bool) (us vs : List OpenBlock) → 0 < length us → All (IsRight k) us
      → column_left indent may k (us ++ vs) ≡ column_left indent false k vs
  right_some may [] vs l a = absurd (omega arith)
  right_some may (u ∷ us) vs l a = right_one may u (us ++ vs) (All-head (IsRight k) u us a) ∙ right_past us vs (All-tail (IsRight k) u us a)

  left_one : (may : Bool) (b : OpenBlock) (bs : List OpenBlock) → has_source b ≡ true → source_of b < k
      → column_left indent may k (b ∷ bs) ≡ Some (further_in indent may b.printed)
  left_one may b bs e l =
      ap (λ o. left_or indent may k o b.printed (column_left indent may k bs) (column_left indent false k bs)) (some_source b e)
      ∙ ap (λ z. if z then Some (further_in indent may b.printed) else column_left indent false k bs) (lt-ltb (source_of b) k l)

module _ (indent : ℕ) (may : Bool) (k : ℕ) (bs : List OpenBlock) (n : ℕ) (l : n ≤ length bs) (s : IsSourced bs) (p : LeftOf k bs n) where
  right_all : All (IsRight k) (drop n bs)
  right_all = rest_all (IsRight k) bs n l (λ j d a b. record { has = s.each j d b; right = ltb-false (source_of (get_or bs j d)) k (p.1 j d a b) })

  right_inner : All (IsRight k) (reverse (drop n bs))
  right_inner = All-reverse (IsRight k) (drop n bs) right_all

  -- the innermost of those left of it
  here : (now : Bool) (d : OpenBlock) → 0 < n
      → column_left indent now k (reverse (take n bs)) ≡ Some (further_in indent now (get_or bs (n - 1) d).printed)
  here now d o =
      ap (column_left indent now k) (on_top bs n d o l)
      ∙ left_one indent k now (get_or bs (n - 1) d) (reverse (take (n - 1) bs)) (s.each (n - 1) d (omega (arith, o, l)))
      (ltb-true (source_of (get_or bs (n - 1) d)) k (p.0 (n - 1) d (omega arith) (omega (arith, o))))

  pub left_nowhere : n ≡ 0 → column_left indent may k (reverse bs) ≡ None
  left_nowhere e = right_none indent k may (reverse bs) (All-reverse (IsRight k) bs (subst (λ z. All (IsRight k) (drop z bs)) e right_all))

  pub left_within : (d : OpenBlock) → 0 < n → n < length bs → column_left indent may k (reverse bs) ≡ Some (get_or bs (n - 1) d).printed
  left_within d o m =
      let long : length (reverse (drop n bs)) ≡ length bs - n = length-reverse (drop n bs) ∙ length-drop n bs in
      ap (column_left indent may k) (reversed_parts bs n) ∙ (right_some indent k may (reverse (drop n bs)) (reverse (take n bs)) (omega (arith, long, m)) right_inner ∙ here false d o)

  pub left_last : (d : OpenBlock) (f : ℕ) → 0 < n → length bs ≤ n → f ≡ further_in indent may (get_or bs (n - 1) d).printed
      → column_left indent may k (reverse bs) ≡ Some f
  left_last d f o m e = ap (λ z. column_left indent may k (reverse z)) (sym (take_all n bs m)) ∙ (here may d o ∙ ap Some (sym e))

-- The result is that for all open collections.

pub at_open : (k : ℕ) {now all sourced seen : List OpenBlock} {o : Option ℕ} → reverse all ≡ now → IsHeld all sourced → seen ≡ sourced
    → o ≡ column_at k (reverse seen) → o ≡ column_at k now
at_open k {all = all} {sourced = sourced} v h s e = e ∙ (ap (λ z. column_at k (reverse z)) s ∙ (at_held k all sourced h ∙ ap (column_at k) v))

pub left_open_all : (indent : ℕ) (may : Bool) (k : ℕ) {now all sourced seen : List OpenBlock} {o : Option ℕ} → reverse all ≡ now
    → IsHeld all sourced → seen ≡ sourced
    → o ≡ column_left indent may k (reverse seen) → o ≡ column_left indent may k now
left_open_all indent may k {all = all} {sourced = sourced} v h s e =
    e ∙ (ap (λ z. column_left indent may k (reverse z)) s ∙ (left_among indent may k (reverse all) (reverse sourced) (sourced_reversed all sourced h) ∙ ap (column_left indent may k) v))

pub left_inward : (indent : ℕ) (may : Bool) (k : ℕ) (y : OpenBlock) {now all sourced read seen : List OpenBlock} (n : ℕ) {o : Option ℕ}
    → reverse all ≡ now → IsHeld all sourced → read ≡ sourced → seen ≡ sourced
    → n ≤ length read → OuterBy y read n → goes_on y (not_ended y now) ≡ true → o ≡ column_left indent may k (reverse (take (length seen - n) (drop n seen))) → o ≡ column_left indent may k (inward_from y now)
left_inward indent may k y {now} {all} {sourced} {read} {seen} n v h r s l p g e =
    let inner : filter has_source (inward_from y (reverse all)) ≡ reverse (drop n sourced) =
    inner_sources y (reverse all) sourced n h.ranks (sourced_reversed all sourced h) (subst (λ z. n ≤ length z) r l) (subst (λ z. OuterBy y z n) r p) (ap (λ z. goes_on y (not_ended y z)) v ∙ g) in
    e
    ∙ (ap (λ z. column_left indent may k (reverse z)) (take_rest seen n ∙ ap (drop n) s)
    ∙ (left_among indent may k (inward_from y (reverse all)) (reverse (drop n sourced)) inner ∙ ap (λ z. column_left indent may k (inward_from y z)) v))

unwrap_is : (o : Option ℕ) (other : ℕ) → unwrap_or o other ≡ or_else o other
unwrap_is None other = refl
unwrap_is (Some n) other = refl

pub among_is : (indent : ℕ) (may : Bool) (next k : ℕ) (inner all : List OpenBlock) (left : Option ℕ) {u r : ℕ}
    → left ≡ column_left indent may k inner → u ≡ unwrap_or left next
    → r ≡ or_else (column_at k all) (at_margin k all u) → r ≡ column_among indent may next k inner all
among_is indent may next k inner all left e f g =
    g ∙ ap (λ z. or_else (column_at k all) (at_margin k all z)) (f ∙ (unwrap_is left next ∙ ap (λ o. or_else o next) e))

-- whether an entry goes on with the open collections
pub goes_as : (y : OpenBlock) {now all seen read : List OpenBlock} (n : ℕ) {g : Bool} → reverse all ≡ now → seen ≡ all → read ≡ all
    → n ≤ length seen → CutBy y seen n → g ≡ goes_on y (reverse (take n read))
    → goes_on y (not_ended y now) ≡ g
goes_as y {now} {all} {seen} {read} n v s r l p e =
    ap (λ z. goes_on y (not_ended y z)) (sym v ∙ ap reverse (sym s)) ∙ (ap (goes_on y) (left_is y seen n l p) ∙ (ap (λ z. goes_on y (reverse (take n z))) (s ∙ sym r) ∙ sym e))

module _ (indent : ℕ) (may : Bool) (next k : ℕ) (y : OpenBlock) (now : List OpenBlock) where
  pub at_known : {E : Type 0} (r : Result ℕ E) → goes_on y (not_ended y now) ≡ true
      → IfOk r (λ c. c ≡ column_among indent may next k (inward_from y now) now)
      → IfOk r (λ c. c ≡ column_in indent may next k (begins_entry y) now)
  at_known r g h =
      subst (λ z. IfOk r (λ c. c ≡ (if z then column_among indent may next k (inward_from y now) now else if is_source k y.source then next else or_else (column_at k now) (at_margin k now next)))) (sym g) h

  new : (v : Bool) → goes_on y (not_ended y now) ≡ false → is_source k y.source ≡ v
      → (if v then next else or_else (column_at k now) (at_margin k now next)) ≡ column_in indent may next k (begins_entry y) now
  new v g e =
      ap (λ z. if z then next else or_else (column_at k now) (at_margin k now next)) (sym e)
      ∙ ap (λ z. if z then column_among indent may next k (inward_from y now) now else if is_source k y.source then next else or_else (column_at k now) (at_margin k now next)) (sym g)

  pub at_first : goes_on y (not_ended y now) ≡ false → is_source k y.source ≡ true → next ≡ column_in indent may next k (begins_entry y) now
  at_first g e = new true g e

  pub at_other : {r : ℕ} → goes_on y (not_ended y now) ≡ false → is_source k y.source ≡ false
      → r ≡ or_else (column_at k now) (at_margin k now next) → r ≡ column_in indent may next k (begins_entry y) now
  at_other g e f = f ∙ new false g e
