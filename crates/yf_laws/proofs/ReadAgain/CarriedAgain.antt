-- The comments that are found after each row of a laid-out text are carried by the same rows of its reading.
use Rattle.std.proofs.Common.{◌≡◌, ℕ, ◌+◌, ◌<◌, ◌≤◌, Bool, true, false, List, [], ◌∷◌, ◌++◌, drop, flat_map, length, refl, sym, ap, ◌∙◌, subst, arith, append_assoc, append-nil}
use Rattle.std.specs.Prelude.{nat_lt}
use Rattle.std.specs.List.{list_any}
use Rattle.yf_comments.specs.Comment.{CommentValue}
use Rattle.yf_comments.specs.GapLines.{remarks_of}
use Rattle.yf_comments.proofs.GapLinesLemmas.{texts}
use Rattle.yf_laws.specs.Layouts.RowComments.{carried_texts}
use Rattle.yf_laws.specs.Layouts.Decorated.{Deco}
use Rattle.yf_laws.specs.Layouts.Layout.{Source, may_be_blank_after, precedes_item, trailing}
use Rattle.yf_forms.specs.Nodes.Lines.{trimmed}
use Rattle.yf_print.specs.Layouts.Rows.{Row}
use Rattle.yf_laws.proofs.SameReading.CommentsCut.{In, in_first, in_rest, Each, each_none, each_more, each_at, each_join, each_map, Under, Over, Upward, upward_none, upward_more, upward_over, in_after}
use Rattle.yf_laws.proofs.ReadAgain.GapsAgain.{Blanks, gap_with}
use Rattle.yf_laws.proofs.RowNodes.PlacedRows.{PlacedRow}
use Rattle.yf_laws.proofs.SameReading.PrintSteps.{trimmed_texts}
use Rattle.yf_laws.proofs.ReadAgain.RowsAgain.{Apart, Carry, last_carries, row_carries, Merged, none_merged, one_trails, one_is_at, merged_stand, each_back}
use Rattle.yf_print.specs.Layouts.KeptColumns.{Columns, is_before_first}
use Rattle.yf_chars.proofs.Tests.{below, not_below}
use Rattle.yf_laws.proofs.OutputLines.ColumnsHold.{every}
use Rattle.yf_laws.proofs.RowNodes.QuietPlaces.{under_more}

-- the comments after each row; the last list has those of each row separately
pub data Owns : List PlacedRow → List Deco → ℕ → List (List CommentValue) → ℕ → Type 0 where
  last_owns : {p : PlacedRow} {d : Deco} {i j : ℕ} {own : List CommentValue} → p.from ≡ i → i ≤ p.upto → p.upto ≤ j → Upward p.upto own → Under j own → texts own ≡ carried_texts d → Owns (p ∷ []) (d ∷ []) i (own ∷ []) j
  row_owns : {p : PlacedRow} {ps : List PlacedRow} {d : Deco} {ds : List Deco} {i k l j : ℕ} {own : List CommentValue} {owns : List (List CommentValue)} → p.from ≡ i → i ≤ p.upto → p.upto ≤ k → Upward p.upto own → Under k own
      → texts own ≡ carried_texts d → k ≤ l → Owns ps ds l owns j → Owns (p ∷ ps) (d ∷ ds) i (own ∷ owns) j

-- all of them, and those of them on lines of their own
abbrev pub all_of : List (List CommentValue) → List CommentValue
all_of [] = []
all_of (own ∷ owns) = own ++ all_of owns

abbrev pub standing_of : Deco → List CommentValue → List CommentValue
standing_of d own = drop (length d.trails) own

abbrev pub all_standing : List Deco → List (List CommentValue) → List CommentValue
all_standing [] owns = []
all_standing (d ∷ ds) [] = []
all_standing (d ∷ ds) (own ∷ owns) = standing_of d own ++ all_standing ds owns

-- A comment trails if one did when the row was laid out: the first comment after the items of the row.
pub data TrailTied (c : Source) (cs : List CommentValue) (row : Row) (p : PlacedRow) (d : Deco) : Type 0 where
  nothing_trails : trailing c row ≡ [] → d.trails ≡ [] → TrailTied c cs row p d
  first_trails : (e : CommentValue) (x : List ℕ) → trailing c row ≡ e ∷ [] → d.trails ≡ x ∷ [] → trimmed x ≡ x → In e cs → p.upto ≤ e.offset → ((b : CommentValue) → In b cs → p.upto ≤ b.offset → e.offset ≤ b.offset)
      → TrailTied c cs row p d

-- a cut at or after the start of the row parts the comments that precede its items from the others; before a row
-- without items no comment was laid out on a line of its own
pub data NextTied (cs : List CommentValue) (next : Row) (o : PlacedRow) (d : Deco) : Type 0 where
  bare_next : next.items ≡ [] → remarks_of d.gap ≡ [] → NextTied cs next o d
  items_next : (cut : ℕ) → ((b : CommentValue) → precedes_item next b ≡ nat_lt b.offset cut) → ((b : CommentValue) → b.offset < o.from → is_before_first next.items b.offset ≡ true) → o.from ≤ cut → ((b : CommentValue) → In b cs → o.upto ≤ b.offset → cut ≤ b.offset) → NextTied cs next o d

-- rows of a reading with the comments cs, at the rows with what they carry
pub data Tied (t : List ℕ) (g : Columns) (c : Source) (cs : List CommentValue) : List Row → List PlacedRow → List Deco → List (List CommentValue) → Type 0 where
  last_tied : {row : Row} {p : PlacedRow} {d : Deco} {own : List CommentValue} (hs : List CommentValue) → TrailTied c cs row p d → d.gap ≡ gap_with g row.ending 0 hs false
      → Blanks t (may_be_blank_after row.ending) false d.gap (standing_of d own) false → Tied t g c cs (row ∷ []) (p ∷ []) (d ∷ []) (own ∷ [])
  row_tied : {row next : Row} {rows : List Row} {p o : PlacedRow} {ps : List PlacedRow} {d : Deco} {ds : List Deco} {own : List CommentValue} {owns : List (List CommentValue)} (hs : List CommentValue) (b : Bool)
      → TrailTied c cs row p d → d.gap ≡ gap_with g row.ending next.column hs b → Blanks t (may_be_blank_after row.ending) false d.gap (standing_of d own) next.blank_before → NextTied cs next o d
      → Tied t g c cs (next ∷ rows) (o ∷ ps) ds owns → Tied t g c cs (row ∷ next ∷ rows) (p ∷ o ∷ ps) (d ∷ ds) (own ∷ owns)

pub record CarryAgain (t : List ℕ) (g : Columns) (c : Source) (rows : List Row) (ds : List Deco) (owns : List (List CommentValue)) : Type 0 where
  pub carry : Carry t g c rows ds (all_standing ds owns)
  pub merged : Merged (flat_map (trailing c) rows) (all_standing ds owns) (all_of owns)

-- Order.

upward_less : {h k : ℕ} {cs : List CommentValue} → k ≤ h → Upward h cs → Upward k cs
upward_less l upward_none = upward_none
upward_less l (upward_more m a) = upward_more (omega (arith, l, m)) a

pub upward_join : {h k : ℕ} {xs ys : List CommentValue} → h ≤ k → Upward h xs → Under k xs → Upward k ys → Upward h (xs ++ ys)
upward_join l upward_none each_none b = upward_less l b
upward_join l (upward_more m a) (each_more n u) b = upward_more m (upward_join (omega (arith, n)) a u b)

pub owns_upward : {ps : List PlacedRow} {ds : List Deco} {i j : ℕ} {owns : List (List CommentValue)} → Owns ps ds i owns j → Upward i (all_of owns)
owns_upward (last_owns {i = i} {own = own} f l m up u is) = subst (λ z. Upward i z) (sym (append-nil own)) (upward_less l up)
owns_upward (row_owns f l m up u is n more) = upward_less l (upward_join m up u (upward_less n (owns_upward more)))

pub standing_over : {h : ℕ} {ts hs cs : List CommentValue} → Merged ts hs cs → Over h cs → Over h hs
standing_over none_merged a = each_none
standing_over (one_trails m) (each_more l a) = standing_over m a
standing_over (one_is_at m) (each_more l a) = each_more l (standing_over m a)

-- The first comment after a row.

same_first : {h : ℕ} {e o : CommentValue} {before rest : List CommentValue} → Under h before → h ≤ e.offset → Upward h (o ∷ rest) → e.offset ≤ o.offset → In e (before ++ (o ∷ rest)) → e ≡ o
same_first each_none l up n in_first = refl
same_first {e = e} {o = o} each_none l (upward_more m a) n (in_rest i) = absurd (let far : o.offset + 1 ≤ e.offset = each_at (upward_over (o.offset + 1) (omega arith) a) i in omega (arith, far, n))
same_first (each_more m a) l up n in_first = absurd (omega (arith, m, l))
same_first (each_more m a) l up n (in_rest i) = same_first a l up n i

record OwnSplit (c : Source) (row : Row) (d : Deco) (own : List CommentValue) : Type 0 where
  is : own ≡ trailing c row ++ standing_of d own
  trails : trimmed_texts (trailing c row) ≡ d.trails

own_split : {c : Source} {cs : List CommentValue} {row : Row} {p : PlacedRow} {d : Deco} (before own rest : List CommentValue) → Under p.from before → p.from ≤ p.upto → Upward p.upto (own ++ rest) → texts own ≡ carried_texts d
    → cs ≡ before ++ (own ++ rest) → TrailTied c cs row p d → OwnSplit c row d own
own_split {c} {row = row} {d = d} before own rest u l up is e (nothing_trails f g) =
    record { is = ap (λ z. drop (length z) own) (sym g) ∙ ap (λ z. z ++ standing_of d own) (sym f); trails = ap trimmed_texts f ∙ sym g }
own_split {d = d} before [] rest u l up is e (first_trails x w f g t i m n) = absurd (let none : [] ≡ w ∷ remarks_of d.gap = is ∙ ap (λ z. z ++ remarks_of d.gap) g in cc)
own_split {c} {row = row} {p = p} {d = d} before (o ∷ own) rest u l up is e (first_trails x w f g t i m n) =
    let low : p.upto ≤ o.offset = first_low up in
    let near : x.offset ≤ o.offset = n o (subst (λ z. In o z) (sym e) (in_after before in_first)) low in
    let same : x ≡ o = same_first (under_more l u) m up near (subst (λ z. In x z) e i) in
    let all : o.text ∷ texts own ≡ w ∷ remarks_of d.gap = is ∙ ap (λ z. z ++ remarks_of d.gap) g in
    let text : o.text ≡ w = cc in
    record {
      is = ap (λ z. z ∷ own) (sym same) ∙ (ap (λ z. z ++ own) (sym f) ∙ ap (λ z. trailing c row ++ drop (length z) (o ∷ own)) (sym g));
      trails = ap trimmed_texts f ∙ (ap (λ (z : CommentValue). trimmed z.text ∷ []) same ∙ (ap (λ z. trimmed z ∷ []) text ∙ (ap (λ z. z ∷ []) t ∙ sym g)));
    } where
      first_low : {h : ℕ} {b : CommentValue} {bs : List CommentValue} → Upward h (b ∷ bs) → h ≤ b.offset
      first_low (upward_more m a) = m

trails_merged : {ts hs cs : List CommentValue} (xs : List CommentValue) → Merged ts hs cs → Merged (xs ++ ts) hs (xs ++ cs)
trails_merged [] m = m
trails_merged (x ∷ xs) m = one_trails (trails_merged xs m)

both_merged : {ts hs cs own : List CommentValue} (xs ys : List CommentValue) → own ≡ xs ++ ys → Merged ts hs cs → Merged (xs ++ ts) (ys ++ hs) (own ++ cs)
both_merged {ts} {hs} {cs} {own} xs ys e m =
    subst (λ z. Merged (xs ++ ts) (ys ++ hs) z) (sym (append_assoc xs ys cs) ∙ ap (λ z. z ++ cs) (sym e)) (trails_merged xs (merged_stand ys m))

-- Before the next row.

pub none_is_at : (xs : List (List ℕ)) (own : List CommentValue) → texts own ≡ xs → drop (length xs) own ≡ []
none_is_at [] [] e = refl
none_is_at [] (o ∷ own) e = absurd cc
none_is_at (x ∷ xs) [] e = absurd cc
none_is_at (x ∷ xs) (o ∷ own) e = none_is_at xs own (let rest : texts own ≡ xs = cc in rest)

each_less : {cut k : ℕ} {cs : List CommentValue} (row : Row) → ((b : CommentValue) → precedes_item row b ≡ nat_lt b.offset cut) → k ≤ cut → Under k cs → Each (λ d. precedes_item row d ≡ true) cs
each_less row f l each_none = each_none
each_less {cut} row f l (each_more {d = d} m a) = each_more (f d ∙ below d.offset cut (omega (arith, l, m))) (each_less row f l a)

each_not : {cut k : ℕ} {cs : List CommentValue} (row : Row) → ((b : CommentValue) → precedes_item row b ≡ nat_lt b.offset cut) → cut ≤ k → Over k cs → Each (λ d. precedes_item row d ≡ false) cs
each_not row f l each_none = each_none
each_not {cut} row f l (each_more {d = d} m a) = each_more (f d ∙ not_below d.offset cut (omega (arith, l, m))) (each_not row f l a)

pub next_apart : {cs : List CommentValue} {next : Row} {o : PlacedRow} {d : Deco} {k : ℕ} (here left : List CommentValue) → NextTied cs next o d → (remarks_of d.gap ≡ [] → here ≡ []) → k ≤ o.from → Under k here
    → ((cut : ℕ) → ((b : CommentValue) → In b cs → o.upto ≤ b.offset → cut ≤ b.offset) → Over cut left) → Apart next here left
next_apart {next = next} here left (bare_next e f) g l u v =
    record { first = subst (λ z. Each (λ d. is_before_first next.items d.offset ≡ true) z) (sym (g f)) each_none; before = subst (λ z. Each (λ d. precedes_item next d ≡ true) z) (sym (g f)) each_none; follows = every (λ d. ap (λ z. list_any (λ i. nat_lt d.offset i) z) e) left }
next_apart {next = next} here left (items_next cut f h l m) g n u v = record { first = each_map (λ d i z. h d (omega (arith, n, z))) u; before = each_less next f (omega (arith, l, n)) u; follows = each_not {k = cut} next f (omega arith) (v cut m) }

-- what follows begins at or after a cut
pub cut_over : {ts hs all cs : List CommentValue} {upto : ℕ} (before : List CommentValue) → cs ≡ before ++ all → Merged ts hs all → Over upto all → (cut : ℕ) → ((b : CommentValue) → In b cs → upto ≤ b.offset → cut ≤ b.offset) → Over cut hs
cut_over {cs = cs} before e m a cut f = standing_over m (each_map (λ b i l. f b (subst (λ z. In b z) (sym e) (in_after before i)) l) a)

-- Rows.

pub first_over : {o : PlacedRow} {ps : List PlacedRow} {ds : List Deco} {i j : ℕ} {owns : List (List CommentValue)} → Owns (o ∷ ps) ds i owns j → Over o.upto (all_of owns)
first_over (last_owns {p = p} {own = own} f l m up u is) = subst (λ z. Over p.upto z) (sym (append-nil own)) (upward_over p.upto (omega arith) up)
first_over (row_owns {p = p} f l m up u is n more) = each_join (upward_over p.upto (omega arith) up) (upward_over p.upto (omega (arith, m, n)) (owns_upward more))

pub first_from : {o : PlacedRow} {ps : List PlacedRow} {ds : List Deco} {i j : ℕ} {owns : List (List CommentValue)} → Owns (o ∷ ps) ds i owns j → o.from ≡ i
first_from (last_owns f l m up u is) = f
first_from (row_owns f l m up u is n more) = f

pub carry_again : {t : List ℕ} {g : Columns} {c : Source} {cs : List CommentValue} {rows : List Row} {ps : List PlacedRow} {ds : List Deco} {i j : ℕ} {owns : List (List CommentValue)} (before : List CommentValue) → Under i before → cs ≡ before ++ all_of owns
    → Owns ps ds i owns j → Tied t g c cs rows ps ds owns → CarryAgain t g c rows ds owns
carry_again {t = text} {g = g} {c = c} before u e (last_owns {p = p} {d = d} {own = own} f l m up v is) (last_tied {row = row} hs t q w) =
    let s = own_split before own [] (subst (λ z. Under z before) (sym f) u) (omega (arith, l, f)) (subst (λ z. Upward p.upto z) (sym (append-nil own)) up) is e t in
    record {
      carry = subst (λ z. Carry text g c (row ∷ []) (d ∷ []) z) (sym (append-nil (standing_of d own))) (last_carries hs s.trails q w);
      merged = both_merged (trailing c row) (standing_of d own) s.is none_merged;
    }
carry_again before u e (row_owns f l m up v is n more) (last_tied hs t q w) = elim more [ ]
carry_again {t = text} {g = g} {c = c} before u e (row_owns {p = p} {d = d} {ds = ds} {k = k} {l = low} {own = own} {owns = owns} f l m up v is n more) (row_tied {row = row} {next = next} {rows = rows} {o = o} hs b t q w x others) =
    let from : o.from ≡ low = first_from more in
    let rest : Upward k (all_of owns) = upward_less n (owns_upward more) in
    let s = own_split before own (all_of owns) (subst (λ z. Under z before) (sym f) u) (omega (arith, l, f)) (upward_join m up v rest) is e t in
    let down : Under low (before ++ own) = each_join (under_more (omega (arith, l, m, n)) u) (under_more n v) in
    let further : CarryAgain text g c (next ∷ rows) ds owns = carry_again (before ++ own) down (e ∙ sym (append_assoc before own (all_of owns))) more others in
    let here : Under k (standing_of d own) = each_back (trailing c row) (standing_of d own) (subst (λ z. Under k z) s.is v) in
    let bare : remarks_of d.gap ≡ [] → standing_of d own ≡ [] = λ z. none_is_at d.trails own (is ∙ (ap (λ y. d.trails ++ y) z ∙ append-nil d.trails)) in
    let apart : Apart next (standing_of d own) (all_standing ds owns) =
    next_apart (standing_of d own) (all_standing ds owns) x bare (omega (arith, n, from)) here (cut_over (before ++ own) (e ∙ sym (append_assoc before own (all_of owns))) further.merged (first_over more)) in
    record {
      carry = row_carries hs b s.trails q w apart further.carry;
      merged = both_merged (trailing c row) (standing_of d own) s.is further.merged;
    }
