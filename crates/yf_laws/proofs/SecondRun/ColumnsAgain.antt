-- A comment that is printed at its column, among collections at theirs, has that column again.
use Rattle.std.proofs.Common.{◌≡◌, ℕ, zero, suc, ◌+◌, ◌<◌, Bool, true, false, List, [], ◌∷◌, map, Option, Some, None, refl, sym, ap, ◌∙◌, subst, true≢false, arith}
use Rattle.std.specs.Prelude.{◌==◌, ◌&&◌, not, nat_lt, if◌then◌else◌}
use Rattle.std.proofs.lemmas.Bool.{and_parts, eqb-true}
use Rattle.std.proofs.lemmas.Option.{same_Some}
use Rattle.yf_print.specs.Layouts.CommentColumns.{Beginning, begins_node, begins_document, begins_entry, is_ended_by, not_ended, goes_on, inward_from, is_source, or_else, column_at, at_margin, further_in, left_or, column_left, column_among, column_before_new, column_in, comment_column}
use Rattle.yf_print.specs.declared.open_blocks.OpenBlock.{OpenBlock}
use Rattle.yf_chars.proofs.Tests.{below, none_some}
use Rattle.yf_forms.proofs.Decide.FlagLemmas.{same as equal_to}

-- a collection as it is printed
abbrev pub as_printed : OpenBlock → OpenBlock
as_printed b = record { source = Some b.printed; printed = b.printed; is_sequence = b.is_sequence }

abbrev pub all_printed : List OpenBlock → List OpenBlock
all_printed bs = map as_printed bs

abbrev pub begin_printed : Beginning → Beginning
begin_printed begins_node = begins_node
begin_printed begins_document = begins_document
begin_printed (begins_entry y) = begins_entry (as_printed y)

-- one of them is printed at that column
pub data HasColumn (c : ℕ) : List OpenBlock → Type 0 where
  column_here : {b : OpenBlock} {bs : List OpenBlock} → b.printed ≡ c → HasColumn c (b ∷ bs)
  column_there : {b : OpenBlock} {bs : List OpenBlock} → HasColumn c bs → HasColumn c (b ∷ bs)

-- from the innermost on, each is at the column of the next one or one indentation further in
pub data InSteps (indent : ℕ) : List OpenBlock → Type 0 where
  no_step : InSteps indent []
  last_step : {b : OpenBlock} → InSteps indent (b ∷ [])
  same_step : {b c : OpenBlock} {bs : List OpenBlock} → b.printed ≡ c.printed → InSteps indent (c ∷ bs) → InSteps indent (b ∷ c ∷ bs)
  inner_step : {b c : OpenBlock} {bs : List OpenBlock} → b.printed ≡ c.printed + indent → InSteps indent (c ∷ bs) → InSteps indent (b ∷ c ∷ bs)

-- the column of the next line
pub data NextIsAt (next : ℕ) : Beginning → Type 0 where
  next_node : NextIsAt next begins_node
  next_document : next ≡ 0 → NextIsAt next begins_document
  next_entry : {y : OpenBlock} → y.printed ≡ next → NextIsAt next (begins_entry y)

-- The column that is found.

-- it is a column of one of them
found_in : (k : ℕ) (bs : List OpenBlock) {c : ℕ} → column_at k bs ≡ Some c → HasColumn c bs
found_in k [] e = absurd (none_some e)
found_in k (b ∷ bs) {c} e = go (is_source k b.source) (λ f. found_in k bs f) e where
  go : (p : Bool) → (column_at k bs ≡ Some c → HasColumn c bs) → (if p then Some b.printed else column_at k bs) ≡ Some c → HasColumn c (b ∷ bs)
  go true rest f = column_here (same_Some b.printed c f)
  go false rest f = column_there (rest f)

-- if all are at their printed columns, it is the column that was searched for
found_same : (k : ℕ) (bs : List OpenBlock) {c : ℕ} → column_at k (all_printed bs) ≡ Some c → c ≡ k
found_same k [] e = absurd (none_some e)
found_same k (b ∷ bs) {c} e = go (b.printed == k) refl (λ f. found_same k bs f) e where
  go : (p : Bool) → (b.printed == k) ≡ p → (column_at k (all_printed bs) ≡ Some c → c ≡ k) → (if p then Some b.printed else column_at k (all_printed bs)) ≡ Some c → c ≡ k
  go true f rest g = sym (same_Some b.printed c g) ∙ eqb-true b.printed k f
  go false f rest g = rest g

-- and each such column is found
found_printed : {c : ℕ} {bs : List OpenBlock} → HasColumn c bs → column_at c (all_printed bs) ≡ Some c
found_printed {c} (column_here {b = b} {bs = bs} e) = ap (λ p. if p then Some b.printed else column_at c (all_printed bs)) (equal_to b.printed c e) ∙ ap Some e
found_printed {c} (column_there {b = b} {bs = bs} h) = go (b.printed == c) refl (found_printed h) where
  go : (p : Bool) → (b.printed == c) ≡ p → column_at c (all_printed bs) ≡ Some c → (if p then Some b.printed else column_at c (all_printed bs)) ≡ Some c
  go true f rest = ap Some (eqb-true b.printed c f)
  go false f rest = rest

-- the nearest column to the left is that of one of them, or one indentation right of the innermost
pub data LeftFound (indent c : ℕ) : Bool → List OpenBlock → Type 0 where
  left_column : {may : Bool} {bs : List OpenBlock} → HasColumn c bs → LeftFound indent c may bs
  right_of_all : {b : OpenBlock} {bs : List OpenBlock} → b.printed + indent ≡ c → LeftFound indent c true (b ∷ bs)

left_further : {indent c : ℕ} {may : Bool} {b : OpenBlock} {bs : List OpenBlock} → InSteps indent (b ∷ bs) → LeftFound indent c may bs → LeftFound indent c may (b ∷ bs)
left_further s (left_column h) = left_column (column_there h)
left_further (same_step e s) (right_of_all f) = right_of_all (omega (arith, e, f))
left_further (inner_step e s) (right_of_all f) = left_column (column_here (omega (arith, e, f)))

left_never : {indent c : ℕ} {may : Bool} {b : OpenBlock} {bs : List OpenBlock} → LeftFound indent c false bs → LeftFound indent c may (b ∷ bs)
left_never (left_column h) = left_column (column_there h)

steps_after : {indent : ℕ} {b : OpenBlock} {bs : List OpenBlock} → InSteps indent (b ∷ bs) → InSteps indent bs
steps_after last_step = no_step
steps_after (same_step e s) = s
steps_after (inner_step e s) = s

left_found : (indent : ℕ) (may : Bool) (k : ℕ) (bs : List OpenBlock) {c : ℕ} → InSteps indent bs → column_left indent may k bs ≡ Some c → LeftFound indent c may bs
left_found indent may k [] s e = absurd (none_some e)
left_found indent may k (b ∷ bs) {c} s e = go b.source (λ f. left_found indent may k bs (steps_after s) f) (λ f. left_found indent false k bs (steps_after s) f) e where
  further : (m : Bool) → further_in indent m b.printed ≡ c → LeftFound indent c m (b ∷ bs)
  further true f = right_of_all f
  further false f = left_column (column_here f)

  chosen : (p : Bool) → (column_left indent false k bs ≡ Some c → LeftFound indent c false bs) → (if p then Some (further_in indent may b.printed) else column_left indent false k bs) ≡ Some c → LeftFound indent c may (b ∷ bs)
  chosen true later f = further may (same_Some (further_in indent may b.printed) c f)
  chosen false later f = left_never (later f)

  go : (o : Option ℕ) → (column_left indent may k bs ≡ Some c → LeftFound indent c may bs) → (column_left indent false k bs ≡ Some c → LeftFound indent c false bs)
      → left_or indent may k o b.printed (column_left indent may k bs) (column_left indent false k bs) ≡ Some c → LeftFound indent c may (b ∷ bs)
  go None same later f = left_further s (same f)
  go (Some n) same later f = chosen (nat_lt n k) later f

-- Columns that stay.

data Stays (indent : ℕ) (next c : ℕ) : Bool → List OpenBlock → List OpenBlock → Type 0 where
  stays_at : {may : Bool} {inner all : List OpenBlock} → HasColumn c all → Stays indent next c may inner all
  stays_at_margin : {may : Bool} {b : OpenBlock} {inner bs : List OpenBlock} → c ≡ 0 → Stays indent next c may inner (b ∷ bs)
  stays_right : {b : OpenBlock} {inner all : List OpenBlock} → b.printed + indent ≡ c → Stays indent next c true (b ∷ inner) all
  stays_alone : {may : Bool} → c ≡ next → Stays indent next c may [] []

margin_only : (c : ℕ) (bs : List OpenBlock) (other : ℕ) → 0 < c → at_margin c bs other ≡ other
margin_only c [] other l = refl
margin_only zero (b ∷ bs) other l = absurd (omega (arith, l))
margin_only (suc c) (b ∷ bs) other l = refl

margin_none : (bs : List OpenBlock) (c other : ℕ) → c ≡ 0 → (b : OpenBlock) → at_margin c (b ∷ bs) other ≡ c
margin_none bs zero other e b = refl
margin_none bs (suc c) other e b = absurd (omega (arith, e))

or_found : (o : Option ℕ) (c other : ℕ) → ((n : ℕ) → o ≡ Some n → n ≡ c) → other ≡ c → or_else o other ≡ c
or_found None c other f e = e
or_found (Some n) c other f e = f n refl

stays : (indent next c : ℕ) {may : Bool} {inner all : List OpenBlock} → 0 < indent → Stays indent next c may inner all → column_among indent may next c (all_printed inner) (all_printed all) ≡ c
stays indent next c {may} {inner} {all} l (stays_at h) =
    ap (λ o. or_else o (at_margin c (all_printed all) (or_else (column_left indent may c (all_printed inner)) next))) (found_printed h)
stays indent next c {may} {inner} l (stays_at_margin {b = b} {bs = bs} e) =
    or_found (column_at c (all_printed (b ∷ bs))) c (at_margin c (all_printed (b ∷ bs)) (or_else (column_left indent may c (all_printed inner)) next))
    (λ n f. found_same c (b ∷ bs) f) (margin_none (all_printed bs) c (or_else (column_left indent may c (all_printed inner)) next) e (as_printed b))
stays indent next c {all = all} l (stays_right {b = b} {inner = inner} e) =
    let left : column_left indent true c (all_printed (b ∷ inner)) ≡ Some (b.printed + indent) =
    ap (λ p. if p then Some (b.printed + indent) else column_left indent false c (all_printed inner)) (below b.printed c (omega (arith, e, l))) in
    or_found (column_at c (all_printed all)) c (at_margin c (all_printed all) (or_else (column_left indent true c (all_printed (b ∷ inner))) next)) (λ n f. found_same c all f)
    (margin_only c (all_printed all) (or_else (column_left indent true c (all_printed (b ∷ inner))) next) (omega (arith, e, l)) ∙ (ap (λ o. or_else o next) left ∙ e))
stays indent next c l (stays_alone e) = sym e

-- the column of the next line, if no collection decides the comment's column
pub data NextStays (next : ℕ) : List OpenBlock → List OpenBlock → Type 0 where
  next_column : {inner all : List OpenBlock} → HasColumn next all → NextStays next inner all
  next_margin : {b : OpenBlock} {inner bs : List OpenBlock} → next ≡ 0 → NextStays next inner (b ∷ bs)
  next_alone : NextStays next [] []

next_kept : {indent next : ℕ} {may : Bool} {inner all : List OpenBlock} → NextStays next inner all → Stays indent next next may inner all
next_kept (next_column h) = stays_at h
next_kept (next_margin e) = stays_at_margin e
next_kept next_alone = stays_alone refl

left_stays : {indent next c : ℕ} {may : Bool} {inner all : List OpenBlock} → (HasColumn c inner → HasColumn c all) → LeftFound indent c may inner → Stays indent next c may inner all
left_stays f (left_column h) = stays_at (f h)
left_stays f (right_of_all e) = stays_right e

among_stays : (indent : ℕ) (may : Bool) (next k : ℕ) (inner all : List OpenBlock) → InSteps indent inner → ((c : ℕ) → HasColumn c inner → HasColumn c all) → NextStays next inner all
    → Stays indent next (column_among indent may next k inner all) may inner all
among_stays indent may next k inner all s front n = go (column_at k all) refl where
  third : (o : Option ℕ) → column_left indent may k inner ≡ o → Stays indent next (or_else o next) may inner all
  third None e = next_kept n
  third (Some c) e = left_stays (front c) (left_found indent may k inner s e)

  second : (h : ℕ) (bs : List OpenBlock) → all ≡ bs → Stays indent next (at_margin h bs (or_else (column_left indent may k inner) next)) may inner all
  second h [] e = third (column_left indent may k inner) refl
  second zero (b ∷ bs) e = subst (λ z. Stays indent next 0 may inner z) (sym e) (stays_at_margin refl)
  second (suc h) (b ∷ bs) e = third (column_left indent may k inner) refl

  go : (o : Option ℕ) → column_at k all ≡ o → Stays indent next (or_else o (at_margin k all (or_else (column_left indent may k inner) next))) may inner all
  go None e = second k all refl
  go (Some c) e = stays_at (found_in k all e)

-- The collections from one inward.

steps_inward : {indent : ℕ} (y : OpenBlock) {bs : List OpenBlock} → InSteps indent bs → InSteps indent (inward_from y bs)
steps_inward y no_step = no_step
steps_inward {indent} y (last_step {b = b}) = go (is_ended_by y b) where
  go : (p : Bool) → InSteps indent (if p then b ∷ [] else b ∷ [])
  go true = last_step
  go false = last_step
steps_inward {indent} y (same_step {b = b} {c = c} {bs = bs} e s) = go (is_ended_by y b) (is_ended_by y c) (steps_inward y s) where
  go : (p q : Bool) → InSteps indent (if q then c ∷ inward_from y bs else c ∷ []) → InSteps indent (if p then b ∷ (if q then c ∷ inward_from y bs else c ∷ []) else b ∷ [])
  go true true r = same_step e r
  go true false r = same_step e r
  go false q r = last_step
steps_inward {indent} y (inner_step {b = b} {c = c} {bs = bs} e s) = go (is_ended_by y b) (is_ended_by y c) (steps_inward y s) where
  go : (p q : Bool) → InSteps indent (if q then c ∷ inward_from y bs else c ∷ []) → InSteps indent (if p then b ∷ (if q then c ∷ inward_from y bs else c ∷ []) else b ∷ [])
  go true true r = inner_step e r
  go true false r = inner_step e r
  go false q r = last_step

column_inward : (y : OpenBlock) (bs : List OpenBlock) {c : ℕ} → HasColumn c (inward_from y bs) → HasColumn c bs
column_inward y [] h = h
column_inward y (b ∷ bs) {c} h = go (is_ended_by y b) (column_inward y bs) h where
  go : (p : Bool) → (HasColumn c (inward_from y bs) → HasColumn c bs) → HasColumn c (if p then b ∷ inward_from y bs else b ∷ []) → HasColumn c (b ∷ bs)
  go true f (column_here e) = column_here e
  go true f (column_there i) = column_there (f i)
  go false f (column_here e) = column_here e
  go false f (column_there i) = elim i [ ]

printed_inward : (y : OpenBlock) (bs : List OpenBlock) → inward_from (as_printed y) (all_printed bs) ≡ all_printed (inward_from y bs)
printed_inward y [] = refl
printed_inward y (b ∷ bs) = go (is_ended_by y b) (printed_inward y bs) where
  go : (p : Bool) → inward_from (as_printed y) (all_printed bs) ≡ all_printed (inward_from y bs)
      → (if p then as_printed b ∷ inward_from (as_printed y) (all_printed bs) else as_printed b ∷ []) ≡ all_printed (if p then b ∷ inward_from y bs else b ∷ [])
  go true e = ap (λ z. as_printed b ∷ z) e
  go false e = refl

pub printed_not_ended : (y : OpenBlock) (bs : List OpenBlock) → not_ended (as_printed y) (all_printed bs) ≡ all_printed (not_ended y bs)
printed_not_ended y [] = refl
printed_not_ended y (b ∷ bs) = go (is_ended_by y b) (printed_not_ended y bs) where
  go : (p : Bool) → not_ended (as_printed y) (all_printed bs) ≡ all_printed (not_ended y bs)
      → (if p then not_ended (as_printed y) (all_printed bs) else as_printed b ∷ all_printed bs) ≡ all_printed (if p then not_ended y bs else b ∷ bs)
  go true e = e
  go false e = refl

pub printed_goes_on : (y : OpenBlock) (bs : List OpenBlock) → goes_on (as_printed y) (all_printed bs) ≡ goes_on y bs
printed_goes_on y [] = refl
printed_goes_on y (b ∷ bs) = refl

pub goes_on_printed : (y : OpenBlock) (bs : List OpenBlock) → goes_on (as_printed y) (not_ended (as_printed y) (all_printed bs)) ≡ goes_on y (not_ended y bs)
goes_on_printed y bs = ap (goes_on (as_printed y)) (printed_not_ended y bs) ∙ printed_goes_on y (not_ended y bs)

-- a collection that continues is one of them
column_of_same : (y : OpenBlock) (bs : List OpenBlock) → goes_on y bs ≡ true → HasColumn y.printed bs
column_of_same y [] e = absurd (true≢false (sym e))
column_of_same y (b ∷ bs) e =
    column_here (sym (eqb-true y.printed b.printed (and_parts (y.printed == b.printed) (not (b.is_sequence && not y.is_sequence) && not (y.is_sequence && not b.is_sequence)) e).0))

column_left_over : (y : OpenBlock) (bs : List OpenBlock) {c : ℕ} → HasColumn c (not_ended y bs) → HasColumn c bs
column_left_over y [] h = h
column_left_over y (b ∷ bs) {c} h = go (is_ended_by y b) (column_left_over y bs) h where
  go : (p : Bool) → (HasColumn c (not_ended y bs) → HasColumn c bs) → HasColumn c (if p then not_ended y bs else b ∷ bs) → HasColumn c (b ∷ bs)
  go true f i = column_there (f i)
  go false f i = i

-- Again.

document_next : {next : ℕ} (all : List OpenBlock) → next ≡ 0 → NextStays next all all
document_next [] e = next_alone
document_next (b ∷ bs) e = next_margin e

-- before a new collection
new_stays : (next k : ℕ) (source : Option ℕ) (all : List OpenBlock) {y c : ℕ} → y ≡ next → column_before_new next k source all ≡ c → column_before_new next c (Some y) (all_printed all) ≡ c
new_stays next k source all {y} {c} at e = go (is_source k source) e where
  at_next : next ≡ c → column_before_new next c (Some y) (all_printed all) ≡ c
  at_next f = ap (λ p. if p then next else or_else (column_at c (all_printed all)) (at_margin c (all_printed all) next)) (equal_to y c (at ∙ f)) ∙ f

  elsewhere : (p : Bool) → (y == c) ≡ p → or_else (column_at c (all_printed all)) (at_margin c (all_printed all) next) ≡ c → (if p then next else or_else (column_at c (all_printed all)) (at_margin c (all_printed all) next)) ≡ c
  elsewhere true f g = sym at ∙ eqb-true y c f
  elsewhere false f g = g

  margin : (h : ℕ) (bs : List OpenBlock) → all ≡ bs → at_margin h bs next ≡ c → column_before_new next c (Some y) (all_printed all) ≡ c
  margin h [] f g = at_next g
  margin zero (b ∷ bs) f g = elsewhere (y == c) refl (ap (λ z. or_else (column_at c (all_printed z)) (at_margin c (all_printed z) next)) f
      ∙ or_found (column_at c (all_printed (b ∷ bs))) c (at_margin c (all_printed (b ∷ bs)) next) (λ n i. found_same c (b ∷ bs) i) (margin_none (all_printed bs) c next (sym g) (as_printed b)))
  margin (suc h) (b ∷ bs) f g = at_next g

  further : (o : Option ℕ) → column_at k all ≡ o → or_else o (at_margin k all next) ≡ c → column_before_new next c (Some y) (all_printed all) ≡ c
  further None f g = margin k all refl g
  further (Some n) f g = elsewhere (y == c) refl (ap (λ o. or_else o (at_margin c (all_printed all) next)) (found_printed (subst (λ z. HasColumn z all) g (found_in k all f))))

  go : (p : Bool) → (if p then next else or_else (column_at k all) (at_margin k all next)) ≡ c → column_before_new next c (Some y) (all_printed all) ≡ c
  go true f = at_next f
  go false f = further (column_at k all) refl f

-- before an entry
entry_stays : (indent : ℕ) (may : Bool) (next k : ℕ) (y : OpenBlock) (all : List OpenBlock) {c : ℕ} → 0 < indent → InSteps indent all → y.printed ≡ next
    → column_in indent may next k (begins_entry y) all ≡ c → column_in indent may next c (begins_entry (as_printed y)) (all_printed all) ≡ c
entry_stays indent may next k y all {c} l s at e = go (goes_on y (not_ended y all)) refl e where
  other : ℕ
  other = column_before_new next c (Some y.printed) (all_printed all)

  go : (p : Bool) → goes_on y (not_ended y all) ≡ p → (if p then column_among indent may next k (inward_from y all) all else column_before_new next k y.source all) ≡ c
      → column_in indent may next c (begins_entry (as_printed y)) (all_printed all) ≡ c
  go true f g =
      ap (λ p. if p then column_among indent may next c (inward_from (as_printed y) (all_printed all)) (all_printed all) else other) (goes_on_printed y all ∙ f)
      ∙ (ap (λ z. column_among indent may next c z (all_printed all)) (printed_inward y all)
      ∙ stays indent next c l (subst (λ z. Stays indent next z may (inward_from y all) all) g
      (among_stays indent may next k (inward_from y all) all (steps_inward y s) (λ d h. column_inward y all h)
      (next_column (subst (λ z. HasColumn z all) at (column_left_over y all (column_of_same y (not_ended y all) f)))))))
  go false f g =
      ap (λ p. if p then column_among indent may next c (inward_from (as_printed y) (all_printed all)) (all_printed all) else other) (goes_on_printed y all ∙ f)
      ∙ new_stays next k y.source all at g

column_stays : (indent : ℕ) (may : Bool) (next k : ℕ) (begin : Beginning) (all : List OpenBlock) {c : ℕ} → 0 < indent → InSteps indent all → NextIsAt next begin
    → column_in indent may next k begin all ≡ c → column_in indent may next c (begin_printed begin) (all_printed all) ≡ c
column_stays indent may next k begins_node all l s n e = e
column_stays indent may next k begins_document all l s (next_document z) e =
    stays indent next _ l (subst (λ z. Stays indent next z may all all) e (among_stays indent may next k all all s (λ d h. h) (document_next all z)))
column_stays indent may next k (begins_entry y) all l s (next_entry at) e = entry_stays indent may next k y all l s at e

-- a comment at the column of the next line stays there
pub next_stays : (indent : ℕ) (may : Bool) (next : ℕ) (begin : Beginning) (all : List OpenBlock) → 0 < indent → InSteps indent all → NextIsAt next begin
    → column_in indent may next next (begin_printed begin) (all_printed all) ≡ next
next_stays indent may next begins_node all l s n = refl
next_stays indent may next begins_document all l s (next_document z) = stays indent next next l (next_kept (document_next all z))
next_stays indent may next (begins_entry y) all l s (next_entry at) = go (goes_on y (not_ended y all)) refl where
  other : ℕ
  other = column_before_new next next (Some y.printed) (all_printed all)

  go : (p : Bool) → goes_on y (not_ended y all) ≡ p → column_in indent may next next (begins_entry (as_printed y)) (all_printed all) ≡ next
  go true f =
      ap (λ p. if p then column_among indent may next next (inward_from (as_printed y) (all_printed all)) (all_printed all) else other) (goes_on_printed y all ∙ f)
      ∙ (ap (λ z. column_among indent may next next z (all_printed all)) (printed_inward y all)
      ∙ stays indent next next l (next_kept (next_column (subst (λ z. HasColumn z all) at (column_left_over y all (column_of_same y (not_ended y all) f))))))
  go false f =
      ap (λ p. if p then column_among indent may next next (inward_from (as_printed y) (all_printed all)) (all_printed all) else other) (goes_on_printed y all ∙ f)
      ∙ ap (λ p. if p then next else or_else (column_at next (all_printed all)) (at_margin next (all_printed all) next)) (equal_to y.printed next at)

-- the law
pub column_again : (indent : ℕ) (may : Bool) (next : ℕ) (k : Option ℕ) (begin : Beginning) (all : List OpenBlock) → 0 < indent → InSteps indent all → NextIsAt next begin
    → comment_column indent may next (Some (comment_column indent may next k begin all)) (begin_printed begin) (all_printed all) ≡ comment_column indent may next k begin all
column_again indent may next None begin all l s n = next_stays indent may next begin all l s n
column_again indent may next (Some k) begin all l s n = column_stays indent may next k begin all l s n refl
