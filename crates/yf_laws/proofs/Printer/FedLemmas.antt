-- Rows that are added to a draft in sequence are printed as the lines of the layout.
use Rattle.std.proofs.Common.{◌≡◌, ℕ, zero, suc, ◌+◌, ◌-◌, ◌≤◌, Bool, true, false, ◌&&◌, List, [], ◌∷◌, ◌++◌, length, map, flat_map, get_or, take, drop, replicate, Option, Some, None, refl, sym, ap, ◌∙◌, subst, arith, append_assoc, append-nil}
use Rattle.std.specs.Prelude.{filter, not, min, option_to_list, if◌then◌else◌, nat_lt}
use Rattle.std.proofs.lemmas.List.{length-drop}
use Rattle.std.proofs.lemmas.Grind.{flat_map-append}
use Rattle.yf_comments.specs.Comment.{CommentValue}
use Rattle.yf_events.specs.declared.event.Span.{Span}
use Rattle.yf_events.specs.Tree.{DocumentTree}
use Rattle.yf_events.specs.declared.lists.Lists.{Lists}
use Rattle.yf_forms.specs.declared.style.Style.{Style}
use Rattle.yf_laws.specs.Layouts.Decorated.{ending_after, rows_of}
use Rattle.yf_print.specs.Passes.Drafts.{after_line, all_met, all_passed, between, blank_text, closed, Draft, finished, fresh, has_no_lines, line_column, LineMarks, met_lines, no_draft, no_marks, opened, or_first, own_line, own_line_if, own_lines, past, remarks, Remarks, with_blank, with_line}
use Rattle.yf_forms.specs.Passes.Searches.{count_to}
use Rattle.yf_print.specs.declared.open_blocks.OpenBlock.{OpenBlock}
use Rattle.yf_laws.specs.Layouts.Layout.{bytes_after, comment_line, first_comment, layout, Line, line_bytes, lines_of, may_be_blank_after, own_line_comments, precedes_item, row_line, Source, source_of, trailing, trailing_leaf}
use Rattle.yf_forms.specs.Nodes.Lines.{after_two_spaces, ended, trimmed}
use Rattle.yf_print.specs.Layouts.Rows.{Row, Ending, anywhere, at_text_start}
use Rattle.yf_laws.proofs.Printer.FeedLemmas.{ascend, ascend_rest, counted, drop_twice, first_ones, left, other_ones}
use Rattle.yf_print.specs.Layouts.KeptColumns.{Columns, after_row, columns_of, is_bodyless, keeps_blocks}
use Rattle.yf_laws.proofs.OutputLines.ColumnsHold.{WalkFrom, above_walk, every, left_walk}
use Rattle.yf_laws.proofs.SameReading.CommentsCut.{Each, each_more, each_none}
use Rattle.yf_laws.proofs.Printer.ColumnsFed.{after_same, chains, each_column, firsts, last_column, leaves_marked, marks_are, no_lines_same, starts_marked}

-- Rows as parts of a draft.

abbrev pub key_text : Option CommentValue → List ℕ
key_text None = []
key_text (Some c) = after_two_spaces c

abbrev pub all_past : List CommentValue → List ℕ → Draft → Draft
all_past cs [] d = d
all_past cs (o ∷ os) d = all_past cs os (past cs o d)

-- adds the parts of a row to the current line; t returns what trails a leaf
abbrev pub with_row : Remarks → (Span → List ℕ) → Row → Draft → Draft
with_row r t row d = all_past r.comments row.items (record d {
  line = d.line ++ (row.text ++ key_text row.key_comment);
  trails = d.trails ++ flat_map t row.leaves;
  body = d.body ++ flat_map ended row.body;
  may_follow = d.may_follow && may_be_blank_after row.ending;
  marks = leaves_marked row.leaves (starts_marked r row.starts d.marks);
})

-- each row on a line of its own
abbrev pub fed : Remarks → (Span → List ℕ) → List Row → Draft → Draft
fed r t [] d = d
fed r t (row ∷ rows) d = fed r t rows (with_row r t row (with_blank row.blank_before (opened r row.column d)))

-- what trails a leaf
abbrev pub trail : Source → Span → List ℕ
trail c leaf = flat_map after_two_spaces (trailing_leaf c leaf (first_comment c leaf))

-- Comments on lines of their own.

abbrev pub gap_bytes : (CommentValue → ℕ) → Bool → List CommentValue → List ℕ
gap_bytes h may [] = []
gap_bytes h may (c ∷ cs) =
    (blank_text (c.blank_before && may) ++ (replicate (h c) 32 ++ (trimmed c.text ++ (10 ∷ [])))) ++ gap_bytes h true cs

abbrev pub may_after : Bool → List CommentValue → Bool
may_after may [] = may
may_after may (c ∷ cs) = true

still : (cs : List CommentValue) → may_after true cs ≡ true
still [] = refl
still (c ∷ cs) = refl

abbrev with_gap : (CommentValue → ℕ) → List CommentValue → Draft → Draft
with_gap h cs d = record d { text = d.text ++ gap_bytes h d.blank_may_follow cs; blank_may_follow = may_after d.blank_may_follow cs }

own_is : (marks : List Bool) (h : CommentValue → ℕ) (k : ℕ) (cs : List CommentValue) (d : Draft) → own_lines marks h k cs d ≡ with_gap h (left marks k cs) d
unfolding own_lines
own_is marks h k [] d = ap (λ w. record d { text = w }) (sym (append-nil d.text))
own_is marks h k (c ∷ cs) d = by (get_or marks k false) (λ e. own_is marks h (k + 1) cs e) where
  piece : List ℕ
  piece = blank_text (c.blank_before && d.blank_may_follow) ++ (replicate (h c) 32 ++ (trimmed c.text ++ (10 ∷ [])))

  by : (b : Bool) → ((e : Draft) → own_lines marks h (k + 1) cs e ≡ with_gap h (left marks (k + 1) cs) e)
      → own_lines marks h (k + 1) cs (own_line_if b (h c) c d) ≡ with_gap h (if b then left marks (k + 1) cs else c ∷ left marks (k + 1) cs) d
  by true f = f d
  by false f =
      f (own_line (h c) c d)
      ∙ (ap (λ w. record d { text = w; blank_may_follow = may_after true (left marks (k + 1) cs) }) (append_assoc d.text piece (gap_bytes h true (left marks (k + 1) cs)))
      ∙ ap (λ w. record d { text = d.text ++ (piece ++ gap_bytes h true (left marks (k + 1) cs)); blank_may_follow = w }) (still (left marks (k + 1) cs)))

-- comments at equal columns
gap_same : {h f : CommentValue → ℕ} (may : Bool) {cs : List CommentValue} → Each (λ c. h c ≡ f c) cs → gap_bytes h may cs ≡ gap_bytes f may cs
gap_same may each_none = refl
gap_same {h} {f} may (each_more {d = c} {ds = cs} e more) =
    ap (λ n. (blank_text (c.blank_before && may) ++ (replicate n 32 ++ (trimmed c.text ++ (10 ∷ [])))) ++ gap_bytes h true cs) e
    ∙ ap (λ w. (blank_text (c.blank_before && may) ++ (replicate (f c) 32 ++ (trimmed c.text ++ (10 ∷ [])))) ++ w) (gap_same true more)

-- comments as lines of the layout

blank_same : (b c : Bool) (e : Ending) → c ≡ may_be_blank_after e → if◌then◌else◌ {A = List ℕ} (may_be_blank_after e && b) (10 ∷ []) [] ≡ blank_text (b && c)
blank_same true c e h = rw h (by (may_be_blank_after e)) where
  by : (m : Bool) → if◌then◌else◌ {A = List ℕ} (m && true) (10 ∷ []) [] ≡ blank_text m
  by true = refl
  by false = refl
blank_same false c e h = by (may_be_blank_after e) where
  by : (m : Bool) → if◌then◌else◌ {A = List ℕ} (m && false) (10 ∷ []) [] ≡ []
  by true = refl
  by false = refl

gap_law : (g : Columns) (before : Ending) (column : ℕ) (cs : List CommentValue) (ls : List Line)
    → bytes_after before (map (comment_line g column) cs ++ ls)
    ≡ gap_bytes (λ c. g c column) (may_be_blank_after before) cs ++ bytes_after (ending_after before cs) ls
gap_law g before column [] ls = refl
gap_law g before column (c ∷ cs) ls =
    let h : CommentValue → ℕ = λ c. g c column in
    let text : List ℕ = replicate (h c) 32 ++ (trimmed c.text ++ (10 ∷ [])) in
    let blank : List ℕ = blank_text (c.blank_before && may_be_blank_after before) in
    let rest : List ℕ = bytes_after anywhere (map (comment_line g column) cs ++ ls) in
    ap (λ w. w ++ ((replicate (h c) 32 ++ (ended (trimmed c.text) ++ [])) ++ rest)) (blank_same c.blank_before (may_be_blank_after before) before refl)
    ∙ (ap (λ w. blank ++ ((replicate (h c) 32 ++ w) ++ rest)) (append-nil (ended (trimmed c.text)))
    ∙ (ap (λ w. blank ++ (text ++ w)) (gap_law g anywhere column cs ls ∙ ap (λ e. gap_bytes h true cs ++ bytes_after e ls) (always cs))
    ∙ (ap (λ w. blank ++ w) (sym (append_assoc text (gap_bytes h true cs) (bytes_after anywhere ls)))
    ∙ (sym (append_assoc blank (text ++ gap_bytes h true cs) (bytes_after anywhere ls))
    ∙ ap (λ w. w ++ bytes_after anywhere ls) (sym (append_assoc blank text (gap_bytes h true cs))))))) where
      always : (cs : List CommentValue) → ending_after anywhere cs ≡ anywhere
      always [] = refl
      always (d ∷ ds) = refl

may_same : (before : Ending) (cs : List CommentValue) → may_be_blank_after (ending_after before cs) ≡ may_after (may_be_blank_after before) cs
may_same before [] = refl
may_same before (c ∷ cs) = refl

-- A row of the layout.

flat_twice : (f : Span → List CommentValue) (leaves : List Span)
    → flat_map after_two_spaces (flat_map f leaves) ≡ flat_map (λ leaf. flat_map after_two_spaces (f leaf)) leaves
flat_twice f [] = refl
flat_twice f (x ∷ xs) =
    flat_map-append after_two_spaces (f x) (flat_map f xs) ∙ ap (λ w. flat_map after_two_spaces (f x) ++ w) (flat_twice f xs)

key_flat : (k : Option CommentValue) → flat_map after_two_spaces (option_to_list k) ≡ key_text k
key_flat None = refl
key_flat (Some c) = append-nil (after_two_spaces c)

trails_flat : (c : Source) (row : Row) → flat_map after_two_spaces (trailing c row) ≡ key_text row.key_comment ++ flat_map (trail c) row.leaves
trails_flat c row =
    flat_map-append after_two_spaces (option_to_list row.key_comment) (flat_map (λ leaf. trailing_leaf c leaf (first_comment c leaf)) row.leaves)
    ∙ (ap (λ w. w ++ flat_map after_two_spaces (flat_map (λ leaf. trailing_leaf c leaf (first_comment c leaf)) row.leaves)) (key_flat row.key_comment)
    ∙ ap (λ w. key_text row.key_comment ++ w) (flat_twice (λ leaf. trailing_leaf c leaf (first_comment c leaf)) row.leaves))

row_law : (c : Source) (row : Row)
    → replicate row.column 32 ++ ((row.text ++ key_text row.key_comment) ++ (flat_map (trail c) row.leaves ++ (10 ∷ flat_map ended row.body)))
    ≡ line_bytes (row_line c row)
row_law c row =
    let key : List ℕ = key_text row.key_comment in
    let trails : List ℕ = flat_map (trail c) row.leaves in
    let body : List ℕ = flat_map ended row.body in
    ap (λ w. replicate row.column 32 ++ w)
    (append_assoc row.text key (trails ++ (10 ∷ body))
    ∙ (ap (λ w. row.text ++ w) (sym (append_assoc key trails (10 ∷ body)) ∙ ap (λ w. w ++ (10 ∷ body)) (sym (trails_flat c row)))
    ∙ (sym (append_assoc row.text (flat_map after_two_spaces (trailing c row)) (10 ∷ body))
    ∙ sym (append_assoc (row.text ++ flat_map after_two_spaces (trailing c row)) (10 ∷ []) body))))

-- Drafts between rows.

abbrev between_rows : List ℕ → ℕ → Bool → Bool → ℕ → Bool → List OpenBlock → Bool → Draft
between_rows text column blank follow met may bs bodyless = record {
  text = text;
  is_open = false;
  column = column;
  line = [];
  trails = [];
  body = [];
  blank_before = blank;
  may_follow = follow;
  met = met;
  passed = met;
  blank_may_follow = may;
  first = None;
  marks = no_marks;
  chain = bs;
  is_bodyless = bodyless;
}

abbrev on_row : List ℕ → ℕ → List ℕ → List ℕ → List ℕ → Bool → Bool → ℕ → ℕ → Bool → Option ℕ → LineMarks → List OpenBlock → Bool → Draft
on_row text column line trails body blank follow met passed may first marks bs bodyless = record {
  text = text;
  is_open = true;
  column = column;
  line = line;
  trails = trails;
  body = body;
  blank_before = blank;
  may_follow = follow;
  met = met;
  passed = passed;
  blank_may_follow = may;
  first = first;
  marks = marks;
  chain = bs;
  is_bodyless = bodyless;
}

-- the items that are passed
past_is : (cs : List CommentValue) (items : List ℕ) (d : Draft) → all_past cs items d ≡ record d { met = d.met + counted items (drop d.met cs); first = firsts items d.first }
past_is cs [] d = let e : d.met ≡ d.met + 0 = omega arith in ap (λ w. record d { met = w }) e
past_is cs (o ∷ os) d =
    let n : ℕ = count_to o (drop d.met cs) in
    let first : Option ℕ = firsts os (or_first d.first o) in
    let e : d.met + n + counted os (drop n (drop d.met cs)) ≡ d.met + (n + counted os (drop n (drop d.met cs))) = omega arith in
    past_is cs os (past cs o d)
    ∙ (ap (λ w. record d { met = d.met + n + counted os w; first = first }) (sym (drop_twice d.met n cs)) ∙ ap (λ w. record d { met = w; first = first }) e)

-- the line is printed, after the comments that were passed
closed_is : (r : Remarks) (text line trails body : List ℕ) (column : ℕ) (blank follow may : Bool) (met passed : ℕ) (first : Option ℕ) (marks : LineMarks) (bs : List OpenBlock) (bodyless : Bool)
    → (h : CommentValue → ℕ) → h ≡ line_column r column (on_row text column line trails body blank follow met passed may first marks bs bodyless)
    → closed r (on_row text column line trails body blank follow met passed may first marks bs bodyless)
    ≡ between_rows ((text ++ gap_bytes h may (left r.trailing passed (between passed (min met (length r.comments)) r.comments)))
    ++ (blank_text (blank && may_after may (left r.trailing passed (between passed (min met (length r.comments)) r.comments)))
    ++ (replicate column 32 ++ (line ++ (trails ++ (10 ∷ body)))))) column blank follow met follow (after_line marks bs) (has_no_lines body)
closed_is r text line trails body column blank follow may met passed first marks bs bodyless h e =
    ap (λ w. with_line (all_passed (own_lines r.trailing w passed (between passed (min met (length r.comments)) r.comments) (on_row text column line trails body blank follow met passed may first marks bs bodyless)))) (sym e)
    ∙ ap (λ w. with_line (all_passed w))
    (own_is r.trailing h passed (between passed (min met (length r.comments)) r.comments) (on_row text column line trails body blank follow met passed may first marks bs bodyless))

-- the end prints the same text if the line is already printed
closing : (r : Remarks) (t : Span → List ℕ) (rows : List Row) (d e : Draft) → closed r d ≡ e → closed r e ≡ e
    → finished r (fed r t rows d) ≡ finished r (fed r t rows e)
closing r t [] d e h k = ap (λ w. (met_lines r 0 (all_met r w)).text) (h ∙ sym k)
closing r t (row ∷ rows) d e h k =
    ap (λ w. finished r (fed r t rows (with_row r t row (with_blank row.blank_before (fresh row.column w))))) (h ∙ sym k)

-- All rows.

pub count_within : (o : ℕ) (cs : List CommentValue) → count_to o cs ≤ length cs
count_within o [] = omega arith
count_within o (c ∷ cs) = by (nat_lt c.offset o) (count_within o cs) where
  by : (b : Bool) → count_to o cs ≤ length cs → (if b then suc (count_to o cs) else 0) ≤ suc (length cs)
  by true h = omega (arith, h)
  by false h = omega arith

counted_within : (items : List ℕ) (cs : List CommentValue) → counted items cs ≤ length cs
counted_within [] cs = omega arith
counted_within (o ∷ os) cs =
    let a : count_to o cs ≤ length cs = count_within o cs in
    let b : length (drop (count_to o cs) cs) ≡ length cs - count_to o cs = length-drop (count_to o cs) cs in
    let h = counted_within os (drop (count_to o cs) cs) in
    omega (arith, a, b, h)

all_taken : (n : ℕ) (cs : List CommentValue) → length cs ≤ n → take n cs ≡ cs
all_taken zero [] l = refl
all_taken zero (c ∷ cs) l = absurd (omega arith)
all_taken (suc n) [] l = refl
all_taken (suc n) (c ∷ cs) l = ap (λ w. c ∷ w) (all_taken n cs (omega arith))

comments_left : (r : Remarks) (g : Columns) (h : CommentValue → ℕ) (before : Ending) (text : List ℕ) (p : ℕ) → p ≤ length r.comments → Each (λ c. h c ≡ g c 0) (left r.trailing p (drop p r.comments))
    → text ++ gap_bytes h (may_be_blank_after before) (left r.trailing p (between p (min (length r.comments) (length r.comments)) r.comments))
    ≡ text ++ bytes_after before (map (comment_line g 0) (left r.trailing p (drop p r.comments)))
comments_left r g h before text p l same =
    let cs : List CommentValue = left r.trailing p (drop p r.comments) in
    let long : length (drop p r.comments) ≡ length r.comments - p = length-drop p r.comments in
    ap (λ w. text ++ gap_bytes h (may_be_blank_after before) (left r.trailing p w))
    (all_taken (min (length r.comments) (length r.comments) - p) (drop p r.comments) (omega (arith, long)))
    ∙ ap (λ w. text ++ w)
    (gap_same (may_be_blank_after before) same
    ∙ (sym (append-nil (gap_bytes (λ c. g c 0) (may_be_blank_after before) cs))
    ∙ (sym (gap_law g before 0 cs []) ∙ ap (bytes_after before) (append-nil (map (comment_line g 0) cs)))))

-- text, comments, a row, and what follows them
row_after : (g : Columns) (before : Ending) (text : List ℕ) (column : ℕ) (mine : List CommentValue) (l : Line) (rest : List Line) (bytes : List ℕ)
    → bytes ≡ line_bytes l
    → ((text ++ gap_bytes (λ c. g c column) (may_be_blank_after before) mine)
    ++ (blank_text (l.blank_before && may_after (may_be_blank_after before) mine) ++ bytes)) ++ bytes_after l.ending rest
    ≡ text ++ bytes_after before (map (comment_line g column) mine ++ (l ∷ rest))
row_after g before text column mine l rest bytes e =
    let gap : List ℕ = gap_bytes (λ c. g c column) (may_be_blank_after before) mine in
    let blank : List ℕ = blank_text (l.blank_before && may_after (may_be_blank_after before) mine) in
    let more : List ℕ = bytes_after l.ending rest in
    append_assoc (text ++ gap) (blank ++ bytes) more
    ∙ (append_assoc text gap ((blank ++ bytes) ++ more)
    ∙ ap (λ w. text ++ w)
    (ap (λ w. gap ++ w)
    (append_assoc blank bytes more
    ∙ (ap (λ w. blank ++ (w ++ more)) e
    ∙ ap (λ w. w ++ (line_bytes l ++ more))
    (sym (blank_same l.blank_before (may_after (may_be_blank_after before) mine) (ending_after before mine) (sym (may_same before mine))))))
    ∙ sym (gap_law g before column mine (l ∷ rest))))

pub fed_bytes : (c : Source) (r : Remarks) (g : Columns) → ascend r.comments ≡ true → (rows : List Row) (before : Ending) (text : List ℕ) (column : ℕ) (blank follow : Bool) (p : ℕ) (bs : List OpenBlock) (bodyless : Bool)
    → p ≤ length r.comments → Each (WalkFrom r.text r.style g bs bodyless rows) (left r.trailing p (drop p r.comments))
    → finished r (fed r (trail c) rows (between_rows text column blank follow p (may_be_blank_after before) bs bodyless))
    ≡ text ++ bytes_after before (lines_of g c (left r.trailing p (drop p r.comments)) rows)
fed_bytes c r g a [] before text column blank follow p bs bodyless l walk =
    let here : Draft = all_met r (between_rows text column blank follow p (may_be_blank_after before) bs bodyless) in
    ap (λ w. (all_passed w).text) (own_is r.trailing (line_column r 0 here) p (between p (min (length r.comments) (length r.comments)) r.comments) here)
    ∙ comments_left r g (line_column r 0 here) before text p l (last_column r here refl refl refl refl walk)
fed_bytes c r g a (row ∷ rows) before text column blank follow p bs bodyless l walk =
    let cs : List CommentValue = r.comments in
    let ds : List CommentValue = drop p cs in
    let n : ℕ = counted row.items ds in
    let may : Bool = may_be_blank_after before in
    let next : Bool = may_be_blank_after row.ending in
    let key : List ℕ = row.text ++ key_text row.key_comment in
    let trails : List ℕ = flat_map (trail c) row.leaves in
    let body : List ℕ = flat_map ended row.body in
    let marks : LineMarks = leaves_marked row.leaves (starts_marked r row.starts no_marks) in
    let now : Draft = on_row text row.column key trails body row.blank_before next (p + n) p may (firsts row.items None) marks bs bodyless in
    let h : CommentValue → ℕ = line_column r row.column now in
    let mid : List CommentValue = left r.trailing p (between p (min (p + n) (length cs)) cs) in
    let mine : List CommentValue = filter (precedes_item row) (left r.trailing p ds) in
    let others : List CommentValue = filter (λ d. not (precedes_item row d)) (left r.trailing p ds) in
    let bytes : List ℕ = replicate row.column 32 ++ (key ++ (trails ++ (10 ∷ body))) in
    let long : length ds ≡ length cs - p = length-drop p cs in
    let within : n ≤ length ds = counted_within row.items ds in
    let cut : min (p + n) (length cs) - p ≡ n = omega (arith, long, within, l) in
    let risen : ascend ds ≡ true = ascend_rest p cs a in
    let same : mid ≡ mine = ap (λ w. left r.trailing p (take w ds)) cut ∙ sym (first_ones row.items r.trailing p ds risen) in
    let rest : left r.trailing (p + n) (drop (p + n) cs) ≡ others =
    ap (left r.trailing (p + n)) (sym (drop_twice p n cs)) ∙ sym (other_ones row.items r.trailing p ds risen) in
    let shut = ap (closed r) (past_is cs row.items (on_row text row.column key trails body row.blank_before next p p may None marks bs bodyless))
    ∙ closed_is r text key trails body row.column row.blank_before next may (p + n) p (firsts row.items None) marks bs bodyless h refl in
    let columns : Each (λ d. h d ≡ g d row.column) mine = each_column r now refl refl refl refl (above_walk walk) in
    let opens : keeps_blocks r.style ≡ true → (after_row r.text row bs ≡ after_line marks bs) × (is_bodyless row.body ≡ has_no_lines body) =
    λ e. (sym (after_same bs (marks_are r row e)), sym (no_lines_same row.body)) in
    let more : Each (WalkFrom r.text r.style g (after_line marks bs) (has_no_lines body) rows) (left r.trailing (p + n) (drop (p + n) cs)) =
    subst (λ z. Each (WalkFrom r.text r.style g (after_line marks bs) (has_no_lines body) rows) z) (sym rest) (chains r opens (left_walk walk)) in
    closing r (trail c) rows (with_row r (trail c) row (with_blank row.blank_before (fresh row.column (between_rows text column blank follow p may bs bodyless)))) _ shut refl
    ∙ (fed_bytes c r g a rows row.ending ((text ++ gap_bytes h may mid) ++ (blank_text (row.blank_before && may_after may mid) ++ bytes)) row.column row.blank_before next (p + n) (after_line marks bs) (has_no_lines body) (omega (arith, long, within, l)) more
    ∙ (ap (λ w. ((text ++ gap_bytes h may w) ++ (blank_text (row.blank_before && may_after may w) ++ bytes)) ++ bytes_after row.ending (lines_of g c (left r.trailing (p + n) (drop (p + n) cs)) rows)) same
    ∙ (ap (λ w. ((text ++ gap_bytes h may mine) ++ (blank_text (row.blank_before && may_after may mine) ++ bytes)) ++ bytes_after row.ending (lines_of g c w rows)) rest
    ∙ (ap (λ w. ((text ++ w) ++ (blank_text (row.blank_before && may_after may mine) ++ bytes)) ++ bytes_after row.ending (lines_of g c others rows)) (gap_same may columns)
    ∙ row_after g before text row.column mine (row_line c row) (lines_of g c others rows) bytes (row_law c row)))))

-- a layout is its rows, added to an empty draft, if the comments that do not trail are those on lines of their own
pub layout_fed : (t : List ℕ) (m : Lists) (s : Style) (trees : List DocumentTree) (marks : List Bool) → ascend m.comments ≡ true
    → left marks 0 m.comments ≡ own_line_comments (source_of m (rows_of m s trees)) (rows_of m s trees)
    → finished (remarks t s m.comments marks) (fed (remarks t s m.comments marks) (trail (source_of m (rows_of m s trees))) (rows_of m s trees) no_draft)
    ≡ layout t m s trees
layout_fed t m s trees marks a h =
    let rows : List Row = rows_of m s trees in
    let c : Source = source_of m rows in
    fed_bytes c (remarks t s m.comments marks) (columns_of t s rows) a rows at_text_start [] 0 false false 0 [] true (omega arith) (every (λ d. record { is = λ next. refl }) (left marks 0 m.comments))
    ∙ ap (λ w. bytes_after at_text_start (lines_of (columns_of t s rows) c w rows)) h
