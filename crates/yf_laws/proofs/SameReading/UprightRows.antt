-- Rows that fit the comments, and whose items rise, are upright: it is known which comment trails each.
use Rattle.std.proofs.Common.{◌≡◌, ◌≢◌, ℕ, max, ◌+◌, ◌<◌, ◌≤◌, Bool, true, ◌&&◌, List, [], ◌∷◌, ◌++◌, flat_map, Option, Some, None, refl, sym, ap, ◌∙◌, subst, arith, append_assoc, append-nil, inl, inr, ⊎_elim, ◌⊎◌}
use Rattle.std.specs.Prelude.{find, nat_lt, option_to_list, zip, if◌then◌else◌}
use Rattle.std.specs.List.{list_all}
use Rattle.std.proofs.lemmas.Bool.{and_from, and_parts, cases_lt}
use Rattle.yf_comments.specs.Comment.{CommentValue}
use Rattle.yf_events.specs.declared.event.Span.{Span}
use Rattle.yf_stream.specs.ReadingOf.{last_leaf}
use Rattle.yf_laws.specs.Layouts.Layout.{Source, is_among, is_before, trailing}
use Rattle.yf_print.specs.Layouts.Rows.{Row}
use Rattle.yf_laws.proofs.Writable.StillLeaves.{Still, between}
use Rattle.yf_laws.proofs.SameReading.CommentsCut.{In, Upward}
use Rattle.yf_laws.proofs.SameReading.ItemsOrder.{items_on, sub_join, sub_twice, rises_greatest}
use Rattle.yf_laws.proofs.OfTexts.MarksOrder.{Rises, rises_after, rises_order}
use Rattle.yf_laws.proofs.SameReading.QuietTrees.{Free}
use Rattle.yf_laws.proofs.SameReading.RowFlow.{Sub, sub_none, sub_take, sub_skip, sub_from, sub_one_from, greatest, leaf_next, Has, has_first, has_rest, at_leaf, before_leaf, RowTrail, untrailed, trailed_after, Upright, no_upright, an_upright}
use Rattle.yf_laws.proofs.Trails.RowLeaves.{leaves_on}
use Rattle.yf_laws.proofs.Trails.RowTrails.{KeyLast, TidyRows, among_after, keys_of, leaves_silent, trail_of}
use Rattle.yf_laws.proofs.SameReading.RowsFit.{LineFits, no_key, a_key, RowsFit, no_rows_fit, row_fits, RisesApart, rises_apart, rises_from}
use Rattle.yf_laws.proofs.SameReading.StartsBefore.{AllFrom, none_later, one_later, later_from}
use Rattle.yf_laws.proofs.Derived.StepsInText.{starts_of, starts_append}
use Rattle.yf_laws.proofs.Trails.TrailChoice.{rising, rising_after, start_of_first}
use Rattle.yf_laws.proofs.Trails.TrailFirst.{found_first, LeafTrail, nothing_trails, it_trails, leaf_trail, last_trails}
use Rattle.yf_chars.proofs.Tests.{below, not_below, is_less}

-- The leaves on rows are among their items.
rows_among : {cs : List CommentValue} {rows : List Row} → RowsFit cs rows → Sub (starts_of (leaves_on rows)) (items_on rows)
rows_among no_rows_fit = sub_none
rows_among (row_fits {row = row} {rows = rows} f k a) = subst (λ w. Sub w (row.items ++ items_on rows)) (sym (starts_append row.leaves (leaves_on rows))) (sub_join f.among (rows_among a))

-- The last of some leaves.
pub data EndsIn : List Span → Type 0 where
  ends_in_none : EndsIn []
  ends_in : (ls : List Span) (s : Span) → EndsIn (ls ++ (s ∷ []))

pub ending_of : (ls : List Span) → EndsIn ls
ending_of [] = ends_in_none
ending_of (l ∷ ls) = go (ending_of ls) where
  go : {ls : List Span} → EndsIn ls → EndsIn (l ∷ ls)
  go ends_in_none = ends_in [] l
  go (ends_in ls s) = ends_in (l ∷ ls) s

last_begins : (ls : List Span) (s : Span) → Sub (s.start ∷ []) (starts_of (ls ++ (s ∷ [])))
last_begins [] s = sub_take sub_none
last_begins (l ∷ ls) s = sub_skip (last_begins ls s)

last_has : (ls : List Span) (s : Span) → Has s (ls ++ (s ∷ []))
last_has [] s = has_first
last_has (l ∷ ls) s = has_rest (last_has ls s)

-- Leaves after a comment.

later_all : (n m : ℕ) (ss : List Span) → n ≤ m → list_all (λ (r : Span). nat_lt m r.start) ss ≡ true → AllFrom n (starts_of ss)
later_all n m [] l e = none_later
later_all n m (s ∷ ss) l e =
    let parts = and_parts (nat_lt m s.start) (list_all (λ (r : Span). nat_lt m r.start) ss) e in
    let far : m < s.start = is_less m s.start parts.0 in
    one_later (omega (arith, l, far)) (later_all n m ss l parts.1)

leaves_later : (o : ℕ) (post : List Span) → is_before o (start_of_first post) ≡ true → rising post ≡ true → AllFrom (o + 1) (starts_of post)
leaves_later o [] e r = none_later
leaves_later o (s ∷ ss) e r =
    let l : o < s.start = is_less o s.start e in
    one_later (omega (arith, l)) (later_all (o + 1) s.start ss (omega (arith, l)) (and_parts (list_all (λ (x : Span). nat_lt s.start x.start) ss) (rising ss) r).0)

-- the last leaf that begins before a comment
stays : (s : Span) (o : ℕ) (post : List Span) → AllFrom (o + 1) (starts_of post) → last_leaf (Some s) o post ≡ Some s
stays s o [] a = refl
stays s o (p ∷ post) (one_later l a) =
    ap (λ b. last_leaf (if b then Some p else Some s) o post) (not_below p.start o (omega (arith, l))) ∙ stays s o post a

pub last_is : (pre : List Span) (s : Span) (post : List Span) (o : ℕ) → s.start < o → AllFrom (o + 1) (starts_of post) → (found : Option Span) → last_leaf found o (pre ++ (s ∷ post)) ≡ Some s
last_is [] s post o l a found = ap (λ b. last_leaf (if b then Some s else found) o post) (below s.start o l) ∙ stays s o post a
last_is (p ∷ pre) s post o l a found = last_is pre s post o l a (if nat_lt p.start o then Some p else found)

-- no offset d before e is after a
not_between : (a e d : ℕ) (s : ℕ) → e < s → d < e → ((nat_lt a d && nat_lt d s) ≡ true → e ≤ d) → d ≤ a
not_between a e d s l m f =
    ⊎_elim (λ (w : a < d). let z : e ≤ d = f (and_from _ _ (below a d w) (below d s (omega (arith, l, m)))) in absurd (omega (arith, m, z))) (λ (w : d ≤ a). w) (cases_lt a d)

module _ (c : Source) (cs : List CommentValue) (bs : List Bool) (remarks : c.remarks ≡ zip cs bs) (up : rising c.leaves ≡ true) (order : Upward 0 cs)
    (free : (n : ℕ) → Sub (n ∷ []) (starts_of c.leaves) → Free cs n) where
  -- leaves of a row are among those of the source
  of_source : (pre : List Span) (ls post : List Span) → c.leaves ≡ pre ++ (ls ++ post) → {n : ℕ} → Sub (n ∷ []) (starts_of ls) → Free cs n
  of_source pre ls post e {n} s = free n (subst (λ w. Sub (n ∷ []) (starts_of w)) (sym e) (there pre)) where
    front : (ls : List Span) → Sub (n ∷ []) (starts_of ls) → Sub (n ∷ []) (starts_of (ls ++ post))
    front [] a = elim a [ ]
    front (l ∷ ls) (sub_take a) = sub_take sub_none
    front (l ∷ ls) (sub_skip a) = sub_skip (front ls a)

    there : (pre : List Span) → Sub (n ∷ []) (starts_of (pre ++ (ls ++ post)))
    there [] = front ls s
    there (p ∷ pre) = sub_skip (there pre)

  -- a row is not before a comment after one of its leaves
  beyond : (row : Row) (e : CommentValue) (a : ℕ) → LineFits cs row.items (starts_of row.leaves) → In e cs → Sub (a ∷ []) (starts_of row.leaves) → a < e.offset → greatest row.items ≤ e.offset
  beyond row e a f i s l =
      ⊎_elim (λ (w : e.offset < greatest row.items). let z : e.offset ≤ a = sub_one_from s (f.still e i w) in absurd (omega (arith, z, l))) (λ (w : greatest row.items ≤ e.offset). w) (cases_lt e.offset (greatest row.items))

  -- what trails a row without a comment that trails its key
  leaf_row : (pre : List Span) (row : Row) (rows : List Row) → c.leaves ≡ pre ++ (row.leaves ++ leaves_on rows) → LineFits cs row.items (starts_of row.leaves) → Still cs row.leaves → row.key_comment ≡ None
      → RowTrail c cs row rows
  leaf_row pre row rows e f still q = go row.leaves refl (ending_of row.leaves) where
    trails_are : trailing c row ≡ flat_map (trail_of c) row.leaves
    trails_are = ap (λ o. option_to_list o ++ flat_map (trail_of c) row.leaves) q

    by : (ls : List Span) (s : Span) {w : List CommentValue} → row.leaves ≡ ls ++ (s ∷ []) → c.leaves ≡ (pre ++ ls) ++ (s ∷ leaves_on rows) → trailing c row ≡ w → LeafTrail c cs s (leaves_on rows) w → RowTrail c cs row rows
    by ls s g apart h nothing_trails = untrailed h
    by ls s g apart h (it_trails r n test a k) =
        let d : CommentValue = r.0 in
        let here : Sub (s.start ∷ []) (starts_of row.leaves) = subst (λ w. Sub (s.start ∷ []) (starts_of w)) (sym g) (last_begins ls s) in
        let rest : rising (leaves_on rows) ≡ true = rising_after row.leaves (leaves_on rows) (rising_after pre (row.leaves ++ leaves_on rows) (subst (λ w. rising w ≡ true) e up)) in
        let later : AllFrom (d.offset + 1) (starts_of (leaves_on rows)) = leaves_later d.offset (leaves_on rows) a.before rest in
        trailed_after d s.start h a.among (sub_twice here f.among) a.after
        (λ x i l. let low : x.offset ≤ s.start = a.first x i l in let other : x.offset ≢ s.start = of_source pre row.leaves (leaves_on rows) e here x i in omega (arith, low, other))
        (beyond row d s.start f a.among here a.after) later (inl here) (inl k)
        (at_leaf s r (subst (λ w. Has s w) (sym g) (last_has ls s)) (ap (last_leaf None d.offset) apart ∙ last_is (pre ++ ls) s (leaves_on rows) d.offset a.after later None) n refl test)

    go : (ls : List Span) → row.leaves ≡ ls → EndsIn ls → RowTrail c cs row rows
    go [] g ends_in_none = untrailed (trails_are ∙ ap (flat_map (trail_of c)) g)
    go all g (ends_in ls s) =
        let there : c.leaves ≡ pre ++ ((ls ++ (s ∷ [])) ++ leaves_on rows) = e ∙ ap (λ w. pre ++ (w ++ leaves_on rows)) g in
        let apart : c.leaves ≡ (pre ++ ls) ++ (s ∷ leaves_on rows) = there ∙ (ap (λ w. pre ++ w) (append_assoc ls (s ∷ []) (leaves_on rows)) ∙ sym (append_assoc pre ls (s ∷ leaves_on rows))) in
        by ls s g apart (trails_are ∙ (ap (flat_map (trail_of c)) g ∙ last_trails c cs bs remarks up order pre ls s (leaves_on rows) there (subst (λ w. Still cs w) g still)))
        (leaf_trail c cs bs remarks up order (pre ++ ls) s (leaves_on rows) apart)

  -- and a row with one
  key_row : (pre : List Span) (row next : Row) (rows : List Row) → c.leaves ≡ pre ++ (row.leaves ++ leaves_on (next ∷ rows)) → LineFits cs row.items (starts_of row.leaves) → Still cs row.leaves
      → (e : CommentValue) (a : ℕ) (s : Span) (ss : List Span) → row.key_comment ≡ Some e → Sub (a ∷ []) row.items → Free cs a → Sub (a ∷ []) (starts_of row.leaves) ⊎ ((row.leaves ≡ []) × (greatest row.items ≤ a))
      → next.leaves ≡ s ∷ ss → find (between a s.start) cs ≡ Some e → is_among c.key_comments e ≡ true → KeyLast cs e row.leaves (leaves_on (next ∷ rows)) → RowTrail c cs row (next ∷ rows)
  key_row pre row next rows eq f still e a s ss q item apart at first g among last =
      let trails : trailing c row ≡ e ∷ [] =
      ap (λ o. option_to_list o ++ flat_map (trail_of c) row.leaves) q ∙ ap (λ w. e ∷ w) (leaves_silent c cs bs remarks up e pre row.leaves (leaves_on (next ∷ rows)) eq among still last) in
      let w = found_first (between a s.start) cs 0 e order g in
      let parts = and_parts (nat_lt a e.offset) (nat_lt e.offset s.start) w.passes in
      let after : a < e.offset = is_less a e.offset parts.0 in
      let before : e.offset < s.start = is_less e.offset s.start parts.1 in
      let rest : rising (leaves_on (next ∷ rows)) ≡ true = rising_after row.leaves (leaves_on (next ∷ rows)) (rising_after pre (row.leaves ++ leaves_on (next ∷ rows)) (subst (λ z. rising z ≡ true) eq up)) in
      let there : is_before e.offset (start_of_first (leaves_on (next ∷ rows))) ≡ true = ap (λ z. is_before e.offset (start_of_first (z ++ leaves_on rows))) first ∙ parts.1 in
      trailed_after e a trails w.among item after
      (λ d i l. let low : d.offset ≤ a = not_between a e.offset d.offset s.start before l (w.first d i) in let other : d.offset ≢ a = apart d i in omega (arith, low, other))
      (⊎_elim (λ (z : Sub (a ∷ []) (starts_of row.leaves)). beyond row e a f w.among z after) (λ (z : (row.leaves ≡ []) × (greatest row.items ≤ a)). let top = z.1 in omega (arith, top, after)) at)
      (leaves_later e.offset (leaves_on (next ∷ rows)) there rest)
      (⊎_elim (λ (z : Sub (a ∷ []) (starts_of row.leaves)). inl z) (λ (z : (row.leaves ≡ []) × (greatest row.items ≤ a)). inr (z.0, among)) at)
      (inr (leaf_next s.start (subst (λ z. Sub (s.start ∷ []) (starts_of z)) (sym first) (sub_take sub_none))))
      (before_leaf q next rows refl s (subst (λ z. Has s z) (sym first) has_first) before)

  with_trail : {it n : ℕ} (row : Row) (rows : List Row) → LineFits cs row.items (starts_of row.leaves) → RowsFit cs rows → (r : RisesApart it n row.items (items_on rows)) → RowTrail c cs row rows
      → Upright c cs (max it (greatest row.items)) rows → Upright c cs it (row ∷ rows)
  with_trail {it} row rows f more r trail rest =
      let low : it ≤ r.middle = rises_order r.one in
      let top : greatest row.items ≤ r.middle = rises_greatest r.one in
      an_upright (rises_from r.one) (later_from (omega (arith, low, top)) (sub_from (rows_among more) (rises_from r.two))) (record { among = f.among; still = f.still }) trail rest

  up_to : {it n : ℕ} (row : Row) (rows : List Row) (r : RisesApart it n row.items (items_on rows)) → Rises (max it (greatest row.items)) (items_on rows) n
  up_to {it} row rows r =
      let low : it ≤ r.middle = rises_order r.one in
      let top : greatest row.items ≤ r.middle = rises_greatest r.one in
      rises_after (omega (arith, low, top)) r.two

  pub rows_upright : (pre : List Span) (before : List CommentValue) {it n : ℕ} (rows : List Row) → c.leaves ≡ pre ++ leaves_on rows → c.key_comments ≡ before ++ keys_of rows → TidyRows cs rows [] → RowsFit cs rows
      → Rises it (items_on rows) n → Upright c cs it rows
  rows_upright pre before [] e k t f r = no_upright
  rows_upright pre before (row ∷ rows) e k t (row_fits f (no_key q) more) r =
      let parts = rises_apart row.items (items_on rows) r in
      with_trail row rows f more parts (leaf_row pre row rows e f t.0.still q)
      (rows_upright (pre ++ row.leaves) (before ++ option_to_list row.key_comment) rows (e ∙ sym (append_assoc pre row.leaves (leaves_on rows)))
      (k ∙ sym (append_assoc before (option_to_list row.key_comment) (keys_of rows))) t.1 more (up_to row rows parts))
  rows_upright pre before (row ∷ (next ∷ rows)) e k t (row_fits f (a_key d a s ss q i z at first g) more) r =
      let parts = rises_apart row.items (items_on (next ∷ rows)) r in
      let among : is_among c.key_comments d ≡ true =
      ap (λ w. is_among w d) (k ∙ ap (λ o. before ++ (option_to_list o ++ keys_of (next ∷ rows))) q) ∙ among_after before (keys_of (next ∷ rows)) d in
      let last : KeyLast cs d row.leaves (leaves_on (next ∷ rows)) = subst (λ w. KeyLast cs d row.leaves w) (append-nil (leaves_on (next ∷ rows))) (t.0.key d q).1 in
      with_trail row (next ∷ rows) f more parts (key_row pre row next rows e f t.0.still d a s ss q i z at first g among last)
      (rows_upright (pre ++ row.leaves) (before ++ option_to_list row.key_comment) (next ∷ rows) (e ∙ sym (append_assoc pre row.leaves (leaves_on (next ∷ rows))))
      (k ∙ sym (append_assoc before (option_to_list row.key_comment) (keys_of (next ∷ rows)))) t.1 more (up_to row (next ∷ rows) parts))
