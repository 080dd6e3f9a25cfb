-- Rows cut the comments of a text if, for each row, no comment is between its first and its last item, and the comment
-- that trails it, if any, is the first after its items.
use Rattle.std.proofs.Common.{◌≡◌, ℕ, max, ◌+◌, ◌<◌, ◌≤◌, Bool, true, false, List, [], ◌∷◌, ◌++◌, flat_map, refl, sym, ap, ◌∙◌, subst, arith, cond, append_assoc, append-nil, ⊎_elim}
use Rattle.std.specs.Prelude.{not, ◌||◌, ◌==◌, nat_lt, filter}
use Rattle.std.proofs.lemmas.Bool.{cases_lt}
use Rattle.std.proofs.lemmas.Bool.Decides.{nat_tests}
use Rattle.std.proofs.lemmas.List.Elements.{filter-append}
use Rattle.std.proofs.lemmas.List.Folds.{list_any-append}
use Rattle.yf_comments.specs.Comment.{CommentValue}
use Rattle.yf_grammar.proofs.Documents.CommentOrder.{Ascend, no_more, one_more}
use Rattle.yf_laws.specs.Layouts.Decorated.{comments_left}
use Rattle.yf_laws.specs.Layouts.Layout.{Source, is_among, precedes_item, trailing}
use Rattle.yf_print.specs.Layouts.Rows.{Row}
use Rattle.yf_laws.proofs.Derived.LayoutSteps.{Step}
use Rattle.yf_laws.proofs.SameReading.PrintSteps.{begun, AllLater, no_later, more_later, AllEarlier, no_earlier, more_earlier, Cuts, none_cut, row_cut}
use Rattle.yf_laws.proofs.SameReading.StartsBefore.{AllFrom, later_join, later_from, AllBelow}
use Rattle.yf_forms.proofs.Decide.LeafLemmas.{same as itself}

-- Comments of a list.

pub data In (d : CommentValue) : List CommentValue → Type 0 where
  in_first : {cs : List CommentValue} → In d (d ∷ cs)
  in_rest : {c : CommentValue} {cs : List CommentValue} → In d cs → In d (c ∷ cs)

pub in_after : {d : CommentValue} {cs : List CommentValue} (done : List CommentValue) → In d cs → In d (done ++ cs)
in_after [] a = a
in_after (c ∷ done) a = in_rest (in_after done a)

pub in_before : {d : CommentValue} {cs : List CommentValue} (more : List CommentValue) → In d cs → In d (cs ++ more)
in_before more in_first = in_first
in_before more (in_rest a) = in_rest (in_before more a)

-- for each comment of a list
pub data Each (P : CommentValue → Type 0) : List CommentValue → Type 0 where
  each_none : Each P []
  each_more : {d : CommentValue} {ds : List CommentValue} → P d → Each P ds → Each P (d ∷ ds)

pub each_map : {P Q : CommentValue → Type 0} {ds : List CommentValue} → ((d : CommentValue) → In d ds → P d → Q d) → Each P ds → Each Q ds
each_map f each_none = each_none
each_map f (each_more {d = d} p a) = each_more (f d in_first p) (each_map (λ e i. f e (in_rest i)) a)

pub each_join : {P : CommentValue → Type 0} {xs ys : List CommentValue} → Each P xs → Each P ys → Each P (xs ++ ys)
each_join each_none b = b
each_join (each_more p a) b = each_more p (each_join a b)

pub each_at : {P : CommentValue → Type 0} {d : CommentValue} {ds : List CommentValue} → Each P ds → In d ds → P d
each_at each_none i = elim i [ ]
each_at (each_more p a) in_first = p
each_at (each_more p a) (in_rest i) = each_at a i

pub each_rest : {P : CommentValue → Type 0} {d : CommentValue} {ds : List CommentValue} → Each P (d ∷ ds) → Each P ds
each_rest (each_more p a) = a

abbrev pub Under : ℕ → List CommentValue → Type 0
Under h ds = Each (λ d. d.offset < h) ds

abbrev pub Over : ℕ → List CommentValue → Type 0
Over h ds = Each (λ d. h ≤ d.offset) ds

-- in order, from an offset on
pub data Upward : ℕ → List CommentValue → Type 0 where
  upward_none : {i : ℕ} → Upward i []
  upward_more : {i : ℕ} {c : CommentValue} {cs : List CommentValue} → i ≤ c.offset → Upward (c.offset + 1) cs → Upward i (c ∷ cs)

pub upward_over : {i : ℕ} {cs : List CommentValue} (h : ℕ) → h ≤ i → Upward i cs → Over h cs
upward_over h l upward_none = each_none
upward_over h l (upward_more m a) = each_more (omega (arith, l, m)) (upward_over h (omega (arith, l, m)) a)

pub upward_of : {t : List ℕ} {i j : ℕ} {cs : List CommentValue} → Ascend t i cs j → Upward i cs
upward_of (no_more l) = upward_none
upward_of (one_more l s a) = upward_more l (upward_of a)

-- Lists that are filtered.

pub keep_all : (p : CommentValue → Bool) {xs : List CommentValue} → Each (λ d. p d ≡ true) xs → filter p xs ≡ xs
keep_all p each_none = refl
keep_all p (each_more {d = d} {ds = ds} e a) = ap (λ b. cond b (d ∷ filter p ds) (filter p ds)) e ∙ ap (λ w. d ∷ w) (keep_all p a)

pub drop_all : (p : CommentValue → Bool) {xs : List CommentValue} → Each (λ d. p d ≡ false) xs → filter p xs ≡ []
drop_all p each_none = refl
drop_all p (each_more {d = d} {ds = ds} e a) = ap (λ b. cond b (d ∷ filter p ds) (filter p ds)) e ∙ drop_all p a

each_filter : {P : CommentValue → Type 0} (p : CommentValue → Bool) {xs : List CommentValue} → Each P xs → Each P (filter p xs)
each_filter p each_none = each_none
each_filter {P} p (each_more {d = d} {ds = ds} e a) = go (p d) (each_filter p a) where
  go : (b : Bool) → Each P (filter p ds) → Each P (cond b (d ∷ filter p ds) (filter p ds))
  go true f = each_more e f
  go false f = f

kept_own : (own : CommentValue → Bool) (ahead trails more : List CommentValue) → Each (λ d. own d ≡ true) ahead → Each (λ d. own d ≡ false) trails
    → filter own (ahead ++ (trails ++ more)) ≡ ahead ++ filter own more
kept_own own ahead trails more a b =
    filter-append own ahead (trails ++ more) ∙ (ap (λ w. w ++ filter own (trails ++ more)) (keep_all own a)
    ∙ ap (λ w. ahead ++ w) (filter-append own trails more ∙ ap (λ w. w ++ filter own more) (drop_all own b)))

cut_before : (p own : CommentValue → Bool) (ahead trails more : List CommentValue) → Each (λ d. own d ≡ true) ahead → Each (λ d. p d ≡ true) ahead → Each (λ d. own d ≡ false) trails
    → Each (λ d. p d ≡ false) more → filter p (filter own (ahead ++ (trails ++ more))) ≡ ahead
cut_before p own ahead trails more a q b m =
    ap (filter p) (kept_own own ahead trails more a b) ∙ (filter-append p ahead (filter own more)
    ∙ (ap (λ w. w ++ filter p (filter own more)) (keep_all p q) ∙ (ap (λ w. ahead ++ w) (drop_all p (each_filter own m)) ∙ append-nil ahead)))

turned : (b c : Bool) → b ≡ c → not b ≡ not c
turned b c e = ap not e

cut_after : (p own : CommentValue → Bool) (ahead trails more : List CommentValue) → Each (λ d. own d ≡ true) ahead → Each (λ d. p d ≡ true) ahead → Each (λ d. own d ≡ false) trails
    → Each (λ d. p d ≡ false) more → filter (λ d. not (p d)) (filter own (ahead ++ (trails ++ more))) ≡ filter own more
cut_after p own ahead trails more a q b m =
    let r : CommentValue → Bool = λ d. not (p d) in
    ap (filter r) (kept_own own ahead trails more a b) ∙ (filter-append r ahead (filter own more)
    ∙ (ap (λ w. w ++ filter r (filter own more)) (drop_all r (each_map (λ d i e. turned (p d) true e) q)) ∙ keep_all r (each_filter own (each_map (λ d i e. turned (p d) false e) m))))

-- Comments among those that trail.

other_below : (x d h : ℕ) → x < h → h ≤ d → (x == d) ≡ false
other_below x d h l m = grind (arith, nat_tests)

other_above : (x d h : ℕ) → d < h → h ≤ x → (x == d) ≡ false
other_above x d h l m = grind (arith, nat_tests)

pub none_below : {h : ℕ} {ds : List CommentValue} (d : CommentValue) → h ≤ d.offset → Under h ds → is_among ds d ≡ false
none_below d l each_none = refl
none_below {h} d l (each_more {d = x} {ds = ds} m a) = ap (λ b. b || is_among ds d) (other_below x.offset d.offset h m l) ∙ none_below d l a

pub none_above : {h : ℕ} {ds : List CommentValue} (d : CommentValue) → d.offset < h → Over h ds → is_among ds d ≡ false
none_above d l each_none = refl
none_above {h} d l (each_more {d = x} {ds = ds} m a) = ap (λ b. b || is_among ds d) (other_above x.offset d.offset h l m) ∙ none_above d l a

pub among_join : (xs ys : List CommentValue) (d : CommentValue) → is_among (xs ++ ys) d ≡ (is_among xs d || is_among ys d)
among_join xs ys d = list_any-append (λ (x : CommentValue). x.offset == d.offset) xs ys

among_in : (d : CommentValue) {ds : List CommentValue} → In d ds → is_among ds d ≡ true
among_in d (in_first {cs = cs}) = ap (λ b. b || is_among cs d) (itself d.offset)
among_in d (in_rest {c = c} {cs = cs} i) = ap (λ b. (c.offset == d.offset) || b) (among_in d i) ∙ always (c.offset == d.offset) where
  always : (b : Bool) → (b || true) ≡ true
  always true = refl
  always false = refl

abbrev pub own_of : List CommentValue → CommentValue → Bool
own_of all d = not (is_among all d)

-- Rows.

-- the order of what begins on a row, the comments before the last item on it, and the comments from its top on
pub record BegunCut (cs : List CommentValue) (ss : List ℕ) (cut top : ℕ) : Type 0 where
  pub still : (d : CommentValue) → In d cs → d.offset < cut → AllFrom d.offset ss
  pub follows : (d : CommentValue) → In d cs → top ≤ d.offset → AllBelow d.offset ss

-- what trails a row, before further rows
pub data TrailCut (c : Source) (cs : List CommentValue) (cut top : ℕ) (row : Row) (rows : List Row) : Type 0 where
  none_trails : trailing c row ≡ [] → TrailCut c cs cut top row rows
  one_trails : (e : CommentValue) → trailing c row ≡ e ∷ [] → In e cs → top ≤ e.offset → ((d : CommentValue) → In d cs → d.offset < e.offset → d.offset < cut)
      → Over (e.offset + 1) (flat_map (trailing c) rows) → TrailCut c cs cut top row rows

-- rows whose items rise from an offset on; f returns what begins on a row, and the list has the offsets of all of that
pub data Flowing (f : Row → List Step) (c : Source) (cs : List CommentValue) : ℕ → List Row → List ℕ → Type 0 where
  no_flow : {it : ℕ} → Flowing f c cs it [] []
  a_flow : {it : ℕ} {row : Row} {rows : List Row} {rs : List ℕ} (cut : ℕ) (ss : List ℕ) → f row ≡ begun ss → ((d : CommentValue) → precedes_item row d ≡ nat_lt d.offset cut)
      → BegunCut cs ss cut (max it cut) → AllFrom (max it cut) rs → ((d : CommentValue) → In d (trailing c row) → AllFrom d.offset rs) → TrailCut c cs cut (max it cut) row rows
      → Flowing f c cs (max it cut) rows rs → Flowing f c cs it (row ∷ rows) (ss ++ rs)

pub flowing_over : {f : Row → List Step} {c : Source} {cs : List CommentValue} {it : ℕ} {rows : List Row} {starts : List ℕ} (h : ℕ) → h ≤ it → Flowing f c cs it rows starts
    → Over h (flat_map (trailing c) rows)
flowing_over h l no_flow = each_none
flowing_over {f} {c} {cs} {it = it} h l (a_flow {row = row} {rows = rows} cut ss a p leaves later near trail more) = go (flowing_over h (omega (arith, l)) more) trail where
  go : Over h (flat_map (trailing c) rows) → TrailCut c cs cut (max it cut) row rows → Over h (trailing c row ++ flat_map (trailing c) rows)
  go rest (none_trails e) = subst (λ w. Over h (w ++ flat_map (trailing c) rows)) (sym e) rest
  go rest (one_trails d e i m f o) = subst (λ w. Over h (w ++ flat_map (trailing c) rows)) (sym e) (each_more (omega (arith, l, m)) rest)

-- Comments on both sides of an offset, and of a comment.

record Parted (cut hi : ℕ) (left : List CommentValue) : Type 0 where
  ahead : List CommentValue
  more : List CommentValue
  is : left ≡ ahead ++ more
  under : Under cut ahead
  upward : Upward (max hi cut) more

part : (cut : ℕ) {i : ℕ} {left : List CommentValue} (hi : ℕ) → hi ≤ i → Upward i left → Parted cut hi left
part cut hi l upward_none = record { ahead = []; more = []; is = refl; under = each_none; upward = upward_none }
part cut hi l (upward_more {c = c} {cs = cs} m a) = ⊎_elim (λ (z : c.offset < cut). go z (part cut hi (omega (arith, l, m)) a))
    (λ (z : cut ≤ c.offset). record { ahead = []; more = c ∷ cs; is = refl; under = each_none; upward = upward_more (omega (arith, l, m, z)) a }) (cases_lt c.offset cut) where
      go : c.offset < cut → Parted cut hi cs → Parted cut hi (c ∷ cs)
      go z w = record { ahead = c ∷ w.ahead; more = w.more; is = ap (λ v. c ∷ v) w.is; under = each_more z w.under; upward = w.upward }

record Around (e : CommentValue) (left : List CommentValue) : Type 0 where
  ahead : List CommentValue
  more : List CommentValue
  is : left ≡ ahead ++ (e ∷ more)
  under : Under e.offset ahead
  upward : Upward (e.offset + 1) more

around : {e : CommentValue} {left : List CommentValue} (i : ℕ) → In e left → Upward i left → Around e left
around i (in_first {cs = cs}) (upward_more l a) = record { ahead = []; more = cs; is = refl; under = each_none; upward = a }
around {e} i (in_rest {c = c} {cs = cs} j) (upward_more l a) =
    let w = around (c.offset + 1) j a in
    let far : c.offset + 1 ≤ e.offset = each_at (upward_over (c.offset + 1) (omega arith) a) j in
    record { ahead = c ∷ w.ahead; more = w.more; is = ap (λ v. c ∷ v) w.is; under = each_more (omega (arith, far)) w.under; upward = w.upward }

-- a comment that isn't among those before an offset
in_left : {e : CommentValue} {hi : ℕ} {done left : List CommentValue} → Under hi done → hi ≤ e.offset → In e (done ++ left) → In e left
in_left each_none l i = i
in_left (each_more m a) l in_first = absurd (omega (arith, l, m))
in_left (each_more m a) l (in_rest i) = in_left a l i

-- The comments cut by the rows.

module _ (f : Row → List Step) (c : Source) (cs all : List CommentValue) where
  -- a comment before those of later rows, and after those of earlier ones
  owned : (d : CommentValue) (gone trails rest : List CommentValue) → all ≡ gone ++ (trails ++ rest) → is_among gone d ≡ false → is_among trails d ≡ false → is_among rest d ≡ false
      → own_of all d ≡ true
  owned d gone trails rest e a b f =
      ap (λ w. not (is_among w d)) e ∙ (ap not (among_join gone (trails ++ rest) d) ∙ (ap (λ w. not (w || is_among (trails ++ rest) d)) a
      ∙ (ap not (among_join trails rest d) ∙ (ap (λ w. not (w || is_among rest d)) b ∙ ap not f))))

  trailed : (e : CommentValue) (gone rest : List CommentValue) → all ≡ gone ++ ((e ∷ []) ++ rest) → own_of all e ≡ false
  trailed e gone rest q = ap (λ w. not (is_among w e)) q ∙ ap not (among_in e (in_after gone in_first))

  cut_none : {left : List CommentValue} (hi : ℕ) (gone : List CommentValue) → Upward hi left → Under hi gone → all ≡ gone ++ [] → filter (own_of all) left ≡ left
  cut_none hi gone up under e =
      keep_all (own_of all) (each_map (λ d i l. owned d gone [] [] e (none_below d l under) refl refl) (upward_over hi (omega arith) up))

  -- whatever comments are left, and whatever trailed earlier rows
  abbrev pub CutAnywhere : ℕ → List Row → List ℕ → Type 0
  CutAnywhere it rows starts = (hi : ℕ) (done left gone : List CommentValue) → it ≤ hi → cs ≡ done ++ left → Under hi done → Upward hi left → Under hi gone
      → all ≡ gone ++ flat_map (trailing c) rows → Over hi (flat_map (trailing c) rows) → Cuts f c (own_of all) left rows starts

  pub cuts_made : {it : ℕ} {rows : List Row} {starts : List ℕ} → Flowing f c cs it rows starts → CutAnywhere it rows starts
  cuts_made no_flow hi done left gone l split before up under are over = none_cut (cut_none hi gone up under are)
  cuts_made {it} (a_flow {row = row} {rows = rows} {rs = rs} cut ss begins p leaves later near trail flow) hi done left gone l split before up under are over =
      go (cuts_made flow) trail where
        rest : List CommentValue
        rest = flat_map (trailing c) rows

        own : CommentValue → Bool
        own = own_of all

        here : (d : CommentValue) → In d left → In d cs
        here d i = subst (λ w. In d w) (sym split) (in_after done i)

        not_less : (m n : ℕ) → n ≤ m → nat_lt m n ≡ false
        not_less m n z = grind (arith, nat_tests)

        less : (m n : ℕ) → m < n → nat_lt m n ≡ true
        less m n z = grind (arith, nat_tests)

        yes : (d : CommentValue) → d.offset < cut → precedes_item row d ≡ true
        yes d z = p d ∙ less d.offset cut z

        no : (d : CommentValue) → cut ≤ d.offset → precedes_item row d ≡ false
        no d z = p d ∙ not_less d.offset cut z

        from_top : Over (max it cut) rest
        from_top = flowing_over (max it cut) (omega arith) flow

        all_later : {ds : List CommentValue} → ((d : CommentValue) → In d ds → In d left) → Under cut ds → AllLater ds (ss ++ rs)
        all_later g each_none = no_later
        all_later g (each_more {d = d} m a) =
            more_later (later_join (leaves.still d (here d (g d in_first)) m) (later_from (omega (arith, m)) later)) (all_later (λ e i. g e (in_rest i)) a)

        all_after : {ds : List CommentValue} → ((d : CommentValue) → In d ds → In d left) → Over (max it cut) ds → AllEarlier ds ss
        all_after g each_none = no_earlier
        all_after g (each_more {d = d} m a) = more_earlier (leaves.follows d (here d (g d in_first)) m) (all_after (λ e i. g e (in_rest i)) a)

        go : CutAnywhere (max it cut) rows rs → TrailCut c cs cut (max it cut) row rows → Cuts f c own left (row ∷ rows) (ss ++ rs)
        go further_cut (none_trails e) =
            let w = part cut hi (omega arith) up in
            let inside : (d : CommentValue) → In d w.ahead → In d left = λ d i. subst (λ v. In d v) (sym w.is) (in_before w.more i) in
            let beyond : (d : CommentValue) → In d w.more → In d left = λ d i. subst (λ v. In d v) (sym w.is) (in_after w.ahead i) in
            let from_hi : Over hi rest = subst (λ v. Over hi (v ++ rest)) e over in
            let high : Over hi w.ahead = each_map (λ d i z. each_at (upward_over hi (omega arith) up) (inside d i)) w.under in
            let same : all ≡ gone ++ ([] ++ rest) = are ∙ ap (λ v. gone ++ (v ++ rest)) e in
            let kept : Each (λ d. own d ≡ true) w.ahead =
            each_map (λ d i z. owned d gone [] rest same (none_below d (each_at high i) under) refl (none_above d (omega (arith, z)) from_top)) w.under in
            let ahead : Each (λ d. precedes_item row d ≡ true) w.ahead = each_map (λ d i z. yes d z) w.under in
            let more : Each (λ d. precedes_item row d ≡ false) w.more = each_map (λ d i z. no d z) (upward_over cut (omega arith) w.upward) in
            let whole : left ≡ w.ahead ++ (trailing c row ++ w.more) = w.is ∙ ap (λ v. w.ahead ++ (v ++ w.more)) (sym e) in
            let none : Each (λ d. own d ≡ false) (trailing c row) = subst (λ v. Each (λ d. own d ≡ false) v) (sym e) each_none in
            let further : Over (max hi cut) rest = each_map (λ d i z. let y : hi ≤ d.offset = each_at from_hi i in omega (arith, z, y)) from_top in
            row_cut ss w.ahead w.more begins whole
            (ap (λ v. filter (precedes_item row) (filter own v)) whole ∙ cut_before (precedes_item row) own w.ahead (trailing c row) w.more kept ahead none more)
            (ap (λ v. comments_left row (filter own v)) whole ∙ cut_after (precedes_item row) own w.ahead (trailing c row) w.more kept ahead none more)
            (all_later inside w.under) (subst (λ v. AllLater v rs) (sym e) no_later)
            (subst (λ v. AllEarlier (v ++ w.more) ss) (sym e) (all_after beyond (upward_over (max it cut) (omega (arith, l)) w.upward)))
            (further_cut (max hi cut) (done ++ w.ahead) w.more gone (omega (arith, l)) (split ∙ (ap (λ v. done ++ v) w.is ∙ sym (append_assoc done w.ahead w.more)))
            (each_join (each_map (λ d i z. omega (arith, z)) before) (each_map (λ d i z. omega (arith, z)) w.under)) w.upward (each_map (λ d i z. omega (arith, z)) under) same further)
        go further_cut (one_trails x e i m earlier g) =
            let low : hi ≤ x.offset = each_at over (subst (λ v. In x (v ++ rest)) (sym e) in_first) in
            let w = around hi (in_left before low (subst (λ v. In x v) split i)) up in
            let inside : (d : CommentValue) → In d w.ahead → In d left = λ d j. subst (λ v. In d v) (sym w.is) (in_before (x ∷ w.more) j) in
            let beyond : (d : CommentValue) → In d (x ∷ w.more) → In d left = λ d j. subst (λ v. In d v) (sym w.is) (in_after w.ahead j) in
            let high : Over hi w.ahead = each_map (λ d j z. each_at (upward_over hi (omega arith) up) (inside d j)) w.under in
            let same : all ≡ gone ++ ((x ∷ []) ++ rest) = are ∙ ap (λ v. gone ++ (v ++ rest)) e in
            let kept : Each (λ d. own d ≡ true) w.ahead =
            each_map (λ d j z. owned d gone (x ∷ []) rest same (none_below d (each_at high j) under) (none_above {h = x.offset} d z (each_more {d = x} (omega arith) each_none)) (none_above d (omega (arith, z)) g)) w.under in
            let cut_under : Under cut w.ahead = each_map (λ d j z. earlier d (here d (inside d j)) z) w.under in
            let ahead : Each (λ d. precedes_item row d ≡ true) w.ahead = each_map (λ d j z. yes d z) cut_under in
            let cut_over : Over (max it cut) (x ∷ w.more) = each_more m (upward_over (max it cut) (omega (arith, m)) w.upward) in
            let more : Each (λ d. precedes_item row d ≡ false) w.more = each_map (λ d j z. no d z) (upward_over cut (omega (arith, m)) w.upward) in
            let whole : left ≡ w.ahead ++ (trailing c row ++ w.more) = w.is ∙ ap (λ v. w.ahead ++ (v ++ w.more)) (sym e) in
            let none : Each (λ d. own d ≡ false) (trailing c row) = subst (λ v. Each (λ d. own d ≡ false) v) (sym e) (each_more (trailed x gone rest same) each_none) in
            row_cut ss w.ahead w.more begins whole
            (ap (λ v. filter (precedes_item row) (filter own v)) whole ∙ cut_before (precedes_item row) own w.ahead (trailing c row) w.more kept ahead none more)
            (ap (λ v. comments_left row (filter own v)) whole ∙ cut_after (precedes_item row) own w.ahead (trailing c row) w.more kept ahead none more)
            (all_later inside cut_under) (subst (λ v. AllLater v rs) (sym e) (more_later (near x (subst (λ v. In x v) (sym e) in_first)) no_later))
            (subst (λ v. AllEarlier (v ++ w.more) ss) (sym e) (all_after beyond cut_over))
            (further_cut (x.offset + 1) (done ++ (w.ahead ++ (x ∷ []))) w.more (gone ++ (x ∷ [])) (omega (arith, m))
            (split ∙ (ap (λ v. done ++ v) (w.is ∙ sym (append_assoc w.ahead (x ∷ []) w.more)) ∙ sym (append_assoc done (w.ahead ++ (x ∷ [])) w.more)))
            (each_join (each_map (λ d j z. omega (arith, z, low)) before) (each_join (each_map (λ d j z. omega (arith, z)) w.under) (each_more {d = x} (omega arith) each_none))) w.upward
            (each_join (each_map (λ d j z. omega (arith, z, low)) under) (each_more {d = x} (omega arith) each_none)) (same ∙ sym (append_assoc gone (x ∷ []) rest)) g)
