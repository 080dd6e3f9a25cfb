-- Rows cut the comments if their items rise, each leaf begins at an item of its row, no comment is between the first
-- leaf of a row and its last item, and the comment that trails a row is the first after an item on it and before the
-- leaves of later rows.
use Rattle.std.proofs.Common.{◌≡◌, ◌≢◌, ℕ, max, ◌+◌, ◌<◌, ◌≤◌, true, false, true≢false, ◌||◌, List, [], ◌∷◌, ◌++◌, flat_map, Some, None, refl, sym, ap, ◌∙◌, subst, arith, ◌⊎◌, inl, inr, ⊎_elim}
use Rattle.std.specs.Prelude.{◌==◌, nat_lt}
use Rattle.std.specs.List.{list_any}
use Rattle.std.proofs.lemmas.Bool.{cases_lt}
use Rattle.std.proofs.lemmas.Bool.Decides.{nat_tests}
use Rattle.yf_chars.specs.Text.{code}
use Rattle.yf_comments.specs.Comment.{CommentValue}
use Rattle.yf_events.specs.declared.event.Span.{Span}
use Rattle.yf_stream.specs.ReadingOf.{last_leaf}
use Rattle.yf_laws.proofs.SameReading.RowSteps.{leaves_begin}
use Rattle.yf_laws.specs.Layouts.Layout.{Remark, Source, first_comment, is_among, trailing}
use Rattle.yf_print.specs.Layouts.Rows.{Row}
use Rattle.yf_laws.proofs.Derived.LayoutSteps.{a_leaf, leaf_steps}
use Rattle.yf_laws.proofs.SameReading.CommentsCut.{In, in_first, in_rest, Each, each_none, each_more, Over, BegunCut, TrailCut, none_trails, one_trails, Flowing, no_flow, a_flow}
use Rattle.yf_laws.proofs.SameReading.FoundAgain.{Unsigned, no_start, a_start}
use Rattle.yf_laws.proofs.SameReading.PrintSteps.{begun}
use Rattle.yf_laws.proofs.Trails.RowLeaves.{leaves_on}
use Rattle.yf_laws.proofs.SameReading.StartsBefore.{AllFrom, none_later, one_later, later_from, AllBelow, none_earlier, one_earlier}
use Rattle.yf_laws.proofs.Derived.StepsInText.{starts_of, starts_append}

-- The last item of a row, which is the greatest.

abbrev pub greatest : List ℕ → ℕ
greatest [] = 0
greatest (i ∷ is) = max i (greatest is)

none_less : (d : ℕ) → nat_lt d 0 ≡ false
none_less d = grind (arith, nat_tests)

less_than_either : (d i m : ℕ) → (nat_lt d i || nat_lt d m) ≡ nat_lt d (max i m)
less_than_either d i m = grind (arith, nat_tests)

pub precedes_greatest : (is : List ℕ) (d : ℕ) → list_any (λ i. nat_lt d i) is ≡ nat_lt d (greatest is)
precedes_greatest [] d = sym (none_less d)
precedes_greatest (i ∷ is) d = ap (λ b. nat_lt d i || b) (precedes_greatest is d) ∙ less_than_either d i (greatest is)

-- some of the items, in their order
pub data Sub : List ℕ → List ℕ → Type 0 where
  sub_none : {is : List ℕ} → Sub [] is
  sub_take : {i : ℕ} {ss is : List ℕ} → Sub ss is → Sub (i ∷ ss) (i ∷ is)
  sub_skip : {i : ℕ} {ss is : List ℕ} → Sub ss is → Sub ss (i ∷ is)

pub sub_from : {n : ℕ} {ss is : List ℕ} → Sub ss is → AllFrom n is → AllFrom n ss
sub_from sub_none a = none_later
sub_from (sub_take s) (one_later l a) = one_later l (sub_from s a)
sub_from (sub_skip s) (one_later l a) = sub_from s a

below_more : {m n : ℕ} {ss : List ℕ} → m ≤ n → AllBelow m ss → AllBelow n ss
below_more l none_earlier = none_earlier
below_more l (one_earlier m a) = one_earlier (omega (arith, l, m)) (below_more l a)

sub_below : {ss is : List ℕ} → Sub ss is → AllBelow (greatest is + 1) ss
sub_below sub_none = none_earlier
sub_below (sub_take s) = one_earlier (omega arith) (below_more (omega arith) (sub_below s))
sub_below (sub_skip s) = below_more (omega arith) (sub_below s)

-- one of them
pub sub_one_below : {i : ℕ} {is : List ℕ} → Sub (i ∷ []) is → i ≤ greatest is
sub_one_below s = go (sub_below s) where
  go : {i n : ℕ} → AllBelow (n + 1) (i ∷ []) → i ≤ n
  go (one_earlier l a) = omega (arith, l)

pub sub_one_from : {n i : ℕ} {is : List ℕ} → Sub (i ∷ []) is → AllFrom n is → n ≤ i
sub_one_from s a = go (sub_from s a) where
  go : {n i : ℕ} → AllFrom n (i ∷ []) → n ≤ i
  go (one_later l b) = l

-- A row.

pub record RowFits (cs : List CommentValue) (row : Row) : Type 0 where
  pub among : Sub (starts_of row.leaves) row.items
  pub still : (d : CommentValue) → In d cs → d.offset < greatest row.items → AllFrom d.offset (starts_of row.leaves)

below_sign : {t : List ℕ} {n : ℕ} {ss : List ℕ} (o : ℕ) → code t o ≡ 35 → n ≤ o + 1 → AllBelow n ss → Unsigned t ss → AllBelow o ss
below_sign o e l none_earlier no_start = none_earlier
below_sign {t} o e l (one_earlier {s = s} m a) (a_start v u) =
    let apart : s ≢ o = λ z. v (ap (code t) z ∙ e) in one_earlier (omega (arith, l, m, apart)) (below_sign o e l a u)

leaves_cut : {t : List ℕ} {cs : List CommentValue} {row : Row} (it : ℕ) → ((d : CommentValue) → In d cs → code t d.offset ≡ 35) → Unsigned t (starts_of row.leaves) → RowFits cs row
    → BegunCut cs (starts_of row.leaves) (greatest row.items) (max it (greatest row.items))
leaves_cut it sign u f = record { still = f.still; follows = λ d i l. below_sign d.offset (sign d i) (omega (arith, l)) (sub_below f.among) u }

-- the starts of the leaves on rows
abbrev pub starts_on : List Row → List ℕ
starts_on [] = []
starts_on (row ∷ rows) = starts_of row.leaves ++ starts_on rows

pub starts_are : (rows : List Row) → starts_on rows ≡ starts_of (leaves_on rows)
starts_are [] = refl
starts_are (row ∷ rows) = ap (λ w. starts_of row.leaves ++ w) (starts_are rows) ∙ sym (starts_append row.leaves (leaves_on rows))

leaves_begun : (ls : List Span) → leaf_steps ls ≡ begun (starts_of ls)
leaves_begun [] = refl
leaves_begun (l ∷ ls) = ap (λ w. a_leaf ∷ w) (leaves_begun ls)

-- a leaf is on the first of these rows
pub data LeafNext : List Row → Type 0 where
  leaf_next : {row : Row} {rows : List Row} (s : ℕ) → Sub (s ∷ []) (starts_of row.leaves) → LeafNext (row ∷ rows)

-- one of these leaves
pub data Has (s : Span) : List Span → Type 0 where
  has_first : {ss : List Span} → Has s (s ∷ ss)
  has_rest : {r : Span} {ss : List Span} → Has s ss → Has s (r ∷ ss)

-- A comment that trails a row is in one of its leaves, or on the line on which that leaf ends, and that leaf is the
-- last before it; or, if it trails the row's key, it is before a leaf of the next row.
pub data Near (c : Source) (row : Row) (e : CommentValue) : List Row → Type 0 where
  at_leaf : {rows : List Row} (s : Span) (r : Remark) → Has s row.leaves → last_leaf None e.offset c.leaves ≡ Some s → first_comment c s ≡ Some r → r.0 ≡ e
      → (nat_lt e.offset s.end || r.1) ≡ true → Near c row e rows
  before_leaf : {rows : List Row} → row.key_comment ≡ Some e → (next : Row) (more : List Row) → rows ≡ next ∷ more → (s : Span) → Has s next.leaves → e.offset < s.start → Near c row e rows

-- What trails a row: nothing, or the first comment after an item on it and before the leaves of later rows. The item
-- begins a leaf; or the row has no leaf, and the comment trails its key. A comment that trails a key is before a row
-- with a leaf.
pub data RowTrail (c : Source) (cs : List CommentValue) (row : Row) (rows : List Row) : Type 0 where
  untrailed : trailing c row ≡ [] → RowTrail c cs row rows
  trailed_after : (e : CommentValue) (a : ℕ) → trailing c row ≡ e ∷ [] → In e cs → Sub (a ∷ []) row.items → a < e.offset → ((d : CommentValue) → In d cs → d.offset < e.offset → d.offset < a)
      → greatest row.items ≤ e.offset → AllFrom (e.offset + 1) (starts_of (leaves_on rows)) → Sub (a ∷ []) (starts_of row.leaves) ⊎ ((row.leaves ≡ []) × (is_among c.key_comments e ≡ true))
      → (is_among c.key_comments e ≡ false) ⊎ LeafNext rows → Near c row e rows → RowTrail c cs row rows

-- rows whose items rise from an offset on, each with what trails it
pub data Upright (c : Source) (cs : List CommentValue) : ℕ → List Row → Type 0 where
  no_upright : {it : ℕ} → Upright c cs it []
  an_upright : {it : ℕ} {row : Row} {rows : List Row} → AllFrom it row.items → AllFrom (max it (greatest row.items)) (starts_of (leaves_on rows)) → RowFits cs row → RowTrail c cs row rows
      → Upright c cs (max it (greatest row.items)) rows → Upright c cs it (row ∷ rows)

module _ (c : Source) (cs : List CommentValue) where
  same_among : (ds : List CommentValue) (d e : CommentValue) → d.offset ≡ e.offset → is_among ds d ≡ is_among ds e
  same_among ds d e q = ap (λ o. list_any (λ (x : CommentValue). x.offset == o) ds) q

  -- e trails no key, and each comment before it is before the offset `it`; or e is before `it`
  abbrev Ahead : CommentValue → ℕ → Type 0
  Ahead e it = ((is_among c.key_comments e ≡ false) × ((d : CommentValue) → In d cs → d.offset < e.offset → d.offset < it)) ⊎ (e.offset < it)

  ahead_more : (e : CommentValue) {it n : ℕ} → it ≤ n → Ahead e it → Ahead e n
  ahead_more e l (inl p) = inl (p.0, λ d i m. let k : d.offset < _ = p.1 d i m in omega (arith, l, k))
  ahead_more e l (inr m) = inr (omega (arith, l, m))

  -- it is before the comment that trails one of these rows
  before_trail : (e : CommentValue) {it : ℕ} {row : Row} {rows : List Row} → Ahead e it → AllFrom it row.items → AllFrom (e.offset + 1) (starts_of row.leaves) → RowTrail c cs row rows
      → Over (e.offset + 1) (trailing c row)
  before_trail e ahead from later (untrailed q) = subst (λ w. Over (e.offset + 1) w) (sym q) each_none
  before_trail e {it} {row} ahead from later (trailed_after d a q i s l f g h k n near) = subst (λ w. Over (e.offset + 1) w) (sym q) (each_more {d = d} (⊎_elim by_leaf by_key k) each_none) where
    at : it ≤ a
    at = sub_one_from s from

    by_leaf : Sub (a ∷ []) (starts_of row.leaves) → e.offset + 1 ≤ d.offset
    by_leaf z = let m : e.offset + 1 ≤ a = sub_one_from z later in omega (arith, m, l)

    other : (is_among c.key_comments d ≡ true) → (is_among c.key_comments e ≡ false) × ((x : CommentValue) → In x cs → x.offset < e.offset → x.offset < it) → e.offset + 1 ≤ d.offset
    other z p =
        let apart : d.offset ≢ e.offset = λ w. true≢false (sym z ∙ (same_among c.key_comments d e w ∙ p.0)) in
        ⊎_elim (λ (w : d.offset < e.offset). let m : d.offset < it = p.1 d i w in absurd (omega (arith, m, at, l))) (λ (w : e.offset ≤ d.offset). omega (arith, w, apart)) (cases_lt d.offset e.offset)

    by_key : (row.leaves ≡ []) × (is_among c.key_comments d ≡ true) → e.offset + 1 ≤ d.offset
    by_key z = ⊎_elim (λ p. other z.1 p) (λ (w : e.offset < it). omega (arith, w, at, l)) ahead

  each_both : {P : CommentValue → Type 0} {xs ys : List CommentValue} → Each P xs → Each P ys → Each P (xs ++ ys)
  each_both each_none b = b
  each_both (each_more p a) b = each_more p (each_both a b)

  leaves_parts : (xs ys : List Span) {n : ℕ} → AllFrom n (starts_of (xs ++ ys)) → AllFrom n (starts_of xs) × AllFrom n (starts_of ys)
  leaves_parts [] ys a = (none_later, a)
  leaves_parts (x ∷ xs) ys (one_later l a) = let r = leaves_parts xs ys a in (one_later l r.0, r.1)

  before_trails : (e : CommentValue) {it : ℕ} {rows : List Row} → Ahead e it → AllFrom (e.offset + 1) (starts_of (leaves_on rows)) → Upright c cs it rows
      → Over (e.offset + 1) (flat_map (trailing c) rows)
  before_trails e ahead later no_upright = each_none
  before_trails e ahead later (an_upright {row = row} {rows = rows} from rest fits trail more) =
      let parts = leaves_parts row.leaves (leaves_on rows) later in
      each_both (before_trail e ahead from parts.0 trail) (before_trails e (ahead_more e (omega arith) ahead) parts.1 more)

  -- if the first row has a leaf that starts after the comment
  before_next : (e : CommentValue) {it : ℕ} {rows : List Row} → LeafNext rows → AllFrom (e.offset + 1) (starts_of (leaves_on rows)) → Upright c cs it rows
      → Over (e.offset + 1) (flat_map (trailing c) rows)
  before_next e {it} (leaf_next s z) later (an_upright {row = row} {rows = rows} from rest fits trail more) =
      let parts = leaves_parts row.leaves (leaves_on rows) later in
      let high : e.offset + 1 ≤ s = sub_one_from z parts.0 in
      let top : s ≤ greatest row.items = sub_one_below (sub_sub z fits.among) in
      each_both (first parts.0 trail) (before_trails e (inr (omega (arith, high, top))) parts.1 more) where
        sub_sub : {xs ys zs : List ℕ} → Sub xs ys → Sub ys zs → Sub xs zs
        sub_sub sub_none b = sub_none
        sub_sub a (sub_skip b) = sub_skip (sub_sub a b)
        sub_sub (sub_take a) (sub_take b) = sub_take (sub_sub a b)
        sub_sub (sub_skip a) (sub_take b) = sub_skip (sub_sub a b)

        none_on : (x : ℕ) → Sub (x ∷ []) (starts_of row.leaves) → row.leaves ≡ [] → ⊥
        none_on x w q = go (subst (λ ls. Sub (x ∷ []) (starts_of ls)) q w) where
          go : Sub (x ∷ []) [] → ⊥
          go w = elim w [ ]

        first : AllFrom (e.offset + 1) (starts_of row.leaves) → RowTrail c cs row rows → Over (e.offset + 1) (trailing c row)
        first low (untrailed q) = subst (λ w. Over (e.offset + 1) w) (sym q) each_none
        first low (trailed_after d a q i s0 l f g h k n y) = subst (λ w. Over (e.offset + 1) w) (sym q) (each_more {d = d} (⊎_elim
            (λ (w : Sub (a ∷ []) (starts_of row.leaves)). let m : e.offset + 1 ≤ a = sub_one_from w low in omega (arith, m, l))
            (λ (w : (row.leaves ≡ []) × (is_among c.key_comments d ≡ true)). absurd (none_on s z w.0)) k) each_none)

  -- Such rows cut the comments.

  -- what trails a row cuts the comments, whatever is counted
  pub row_cut_by : {it : ℕ} {row : Row} {rows : List Row} → AllFrom it row.items → Upright c cs (max it (greatest row.items)) rows → RowTrail c cs row rows
      → TrailCut c cs (greatest row.items) (max it (greatest row.items)) row rows
  row_cut_by from more (untrailed q) = none_trails q
  row_cut_by {it} {row} {rows} from more (trailed_after e a q i s l f g h k n near) =
      let at : it ≤ a = sub_one_from s from in
      let top : a ≤ greatest row.items = sub_one_below s in
      one_trails e q i (omega (arith, at, l, g)) (λ d j m. let z : d.offset < a = f d j m in omega (arith, z, top))
      (⊎_elim (λ (z : is_among c.key_comments e ≡ false). before_trails e (inl (z, λ d j m. let w : d.offset < a = f d j m in omega (arith, w, top))) h more)
      (λ (z : LeafNext rows). before_next e z h more) n)

  leaves_near : {row : Row} {rows : List Row} → RowTrail c cs row rows → (d : CommentValue) → In d (trailing c row) → AllFrom d.offset (starts_on rows)
  leaves_near {row} {rows} (untrailed q) d i = none q i where
    none : {ds : List CommentValue} → ds ≡ [] → In d ds → AllFrom d.offset (starts_on rows)
    none e in_first = absurd cc
    none e (in_rest j) = absurd cc
  leaves_near {row} {rows} (trailed_after e a q i s l f g h k n near) d j = one q j where
    only : {ds : List CommentValue} → ds ≡ [] → In d ds → AllFrom d.offset (starts_on rows)
    only z in_first = absurd cc
    only z (in_rest m) = absurd cc

    one : {ds : List CommentValue} → ds ≡ e ∷ [] → In d ds → AllFrom d.offset (starts_on rows)
    one z (in_first {cs = w}) = let same : d ≡ e = cc in subst (λ ss. AllFrom d.offset ss) (sym (starts_are rows)) (subst (λ (v : CommentValue). AllFrom v.offset (starts_of (leaves_on rows))) (sym same) (later_from (omega arith) h))
    one z (in_rest {cs = w} m) = only {ds = w} (cc) m

  pub rows_flow : {t : List ℕ} {it : ℕ} {rows : List Row} → ((d : CommentValue) → In d cs → code t d.offset ≡ 35) → Unsigned t (starts_of (leaves_on rows)) → Upright c cs it rows
      → Flowing leaves_begin c cs it rows (starts_on rows)
  rows_flow sign u no_upright = no_flow
  rows_flow {t} {it} sign u (an_upright {row = row} {rows = rows} from rest fits trail more) =
      let parts = unsigned_parts row.leaves (leaves_on rows) u in
      a_flow (greatest row.items) (starts_of row.leaves) (leaves_begun row.leaves) (λ d. precedes_greatest row.items d.offset) (leaves_cut it sign parts.0 fits)
      (subst (λ ss. AllFrom (max it (greatest row.items)) ss) (sym (starts_are rows)) rest) (leaves_near trail) (row_cut_by from more trail) (rows_flow sign parts.1 more) where
        unsigned_parts : (xs ys : List Span) → Unsigned t (starts_of (xs ++ ys)) → Unsigned t (starts_of xs) × Unsigned t (starts_of ys)
        unsigned_parts [] ys u = (no_start, u)
        unsigned_parts (x ∷ xs) ys (a_start v u) = let r = unsigned_parts xs ys u in (a_start v r.0, r.1)
