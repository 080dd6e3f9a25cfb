-- Each row of a laid-out text carries again what it carried, if its comments are those of the text and its notes on
-- blank lines are right.
use Rattle.std.proofs.Common.{◌≡◌, ℕ, ◌<◌, ◌≤◌, true, false, ◌||◌, List, [], ◌∷◌, ◌++◌, flat_map, Option, Some, None, refl, sym, ap, ◌∙◌, subst, arith, append_assoc, ⊎_elim}
use Rattle.std.specs.Prelude.{option_to_list, zip}
use Rattle.std.proofs.lemmas.Bool.{cases_lt}
use Rattle.yf_chars.specs.Text.{code}
use Rattle.yf_lines.specs.Lines.{AreLines}
use Rattle.yf_lines.specs.declared.line.Line.{Line}
use Rattle.yf_comments.specs.Comment.{CommentValue}
use Rattle.yf_comments.specs.GapLines.{remarks_of}
use Rattle.yf_comments.proofs.GapLinesLemmas.{texts}
use Rattle.yf_events.specs.declared.event.Span.{Span}
use Rattle.yf_stream.specs.ReadingOf.{leaf_lines}
use Rattle.yf_laws.specs.Layouts.RowComments.{carried_texts}
use Rattle.yf_laws.specs.Layouts.Decorated.{Deco}
use Rattle.yf_laws.specs.Layouts.Layout.{Source, is_among, trailing}
use Rattle.yf_print.specs.Layouts.Rows.{Row}
use Rattle.yf_laws.proofs.ReadAgain.AllBlanks.{AllBlanks, last_blanks, row_blanks}
use Rattle.yf_laws.proofs.ReadAgain.CarriedAgain.{Owns, last_owns, row_owns, Tied, last_tied, row_tied, TrailTied, nothing_trails, all_of, first_from, owns_upward}
use Rattle.yf_laws.proofs.SameReading.CommentsCut.{In, in_first, in_after, in_before, each_none, each_more, each_join, each_map, Under, Over, upward_over, among_join, none_below, none_above}
use Rattle.yf_laws.proofs.SameReading.FoundAgain.{Unsigned}
use Rattle.yf_laws.proofs.ReadAgain.OwnsAgain.{RowExtents, last_extent, row_extent}
use Rattle.yf_laws.proofs.RowNodes.PlacedRows.{Inside, none_inside, one_inside, PlacedRow}
use Rattle.yf_laws.proofs.RowNodes.QuietPlaces.{Quiet, AllQuiet, quiet_row}
use Rattle.yf_laws.proofs.SameReading.RowFlow.{RowTrail, untrailed, trailed_after, Upright, no_upright, an_upright}
use Rattle.yf_laws.proofs.Trails.RowLeaves.{leaves_on}
use Rattle.yf_laws.proofs.ReadAgain.RowExtents.{RowExtent}
use Rattle.yf_laws.proofs.ReadAgain.RowTies.{Tie, node_tie, start_tie, head_tie, Ties, no_ties, a_tie, tie_leaves, LaidRows, last_laid, row_laid, next_tied}
use Rattle.yf_laws.proofs.Trails.RowTrails.{keys_of, trail_of}
use Rattle.yf_laws.proofs.SameReading.StartsBefore.{AllFrom, none_later, one_later, later_join}
use Rattle.yf_laws.proofs.Derived.StepsInText.{starts_of, starts_append}
use Rattle.yf_laws.proofs.ReadAgain.TrailAgain.{LaidRow, row_trail_tied, sub_inside}
use Rattle.yf_laws.proofs.Trails.TrailChoice.{rising}
use Rattle.yf_print.specs.Layouts.KeptColumns.{Columns}
use Rattle.yf_chars.proofs.Tests.{none_some, no_nil, no_cons}

abbrev offset_or : List CommentValue → ℕ
offset_or [] = 0
offset_or (c ∷ cs) = c.offset

inside_from : {i j n : ℕ} {ss : List ℕ} → n ≤ i → Inside i j ss → AllFrom n ss
inside_from l none_inside = none_later
inside_from l (one_inside m n a) = one_later (omega (arith, l, m)) (inside_from l a)

pub extent_first : {t : List ℕ} {p : PlacedRow} {ps : List PlacedRow} {ds : List Deco} {owns : List (List CommentValue)} → RowExtents t (p ∷ ps) ds owns → Inside p.from p.upto p.items
extent_first (last_extent a) = a.items
extent_first (row_extent a l more) = a.items

-- the leaves of rows begin at or after the first row
leaves_from : {t : List ℕ} {cs : List CommentValue} {xs rows : List Row} {ps : List PlacedRow} {ds : List Deco} {i j : ℕ} {owns : List (List CommentValue)} (n : ℕ) → n ≤ i → Ties cs xs rows ps → Owns ps ds i owns j → RowExtents t ps ds owns
    → AllFrom n (starts_of (leaves_on rows))
leaves_from n l no_ties a b = none_later
leaves_from n l (a_tie {row = row} tie no_ties) (last_owns f m k up u is) (last_extent s) =
    subst (λ z. AllFrom n z) (sym (starts_append row.leaves []))
    (later_join (subst (λ z. AllFrom n (starts_of z)) (sym (tie_leaves tie)) (inside_from (omega (arith, l, f)) s.starts)) none_later)
leaves_from n l (a_tie tie ties) (row_owns f m k up u is o more) (last_extent s) = elim more [ ]
leaves_from n l (a_tie {row = row} {rows = rows} tie ties) (row_owns f m k up u is o more) (row_extent s near extents) =
    subst (λ z. AllFrom n z) (sym (starts_append row.leaves (leaves_on rows)))
    (later_join (subst (λ z. AllFrom n (starts_of z)) (sym (tie_leaves tie)) (inside_from (omega (arith, l, f)) s.starts)) (leaves_from n (omega (arith, l, m, k, o)) ties more extents))

module _ {t : List ℕ} (lines : List Line) (are_lines : AreLines t lines) (c : Source) (cs : List CommentValue) (remarks : c.remarks ≡ zip cs (leaf_lines lines c.leaves cs))
    (sign : (d : CommentValue) → In d cs → code t d.offset ≡ 35) (up : rising c.leaves ≡ true) (unsigned : Unsigned t (starts_of c.leaves)) where
  -- what trails a row with a comment that trails its key
  key_trails : (row : Row) (k : CommentValue) → row.key_comment ≡ Some k → trailing c row ≡ k ∷ flat_map (trail_of c) row.leaves
  key_trails row k e = ap (λ o. option_to_list o ++ flat_map (trail_of c) row.leaves) e

  -- it is after an item on the row, with no other comment between
  key_is_at : {x row : Row} {rows : List Row} {p : PlacedRow} (P : ℕ → Type 0) (k : CommentValue) → row.key_comment ≡ Some k → Tie cs x row p → Inside p.from p.upto p.items → RowTrail c cs row rows
      → ((a : ℕ) → p.from ≤ a → a ≤ p.upto → a < k.offset → ((d : CommentValue) → In d cs → d.offset < k.offset → d.offset < a) → P k.offset) → P k.offset
  key_is_at P k e (start_tie s a b d none f g) inside trail go = absurd (none_some (sym none ∙ e))
  key_is_at P k e (head_tie a b d f none) inside trail go = absurd (none_some (sym none ∙ e))
  key_is_at {row = row} P k e (node_tie items leaves bare) inside (untrailed q) go = absurd (no_nil {A = CommentValue} (sym (key_trails row k e) ∙ q))
  key_is_at {row = row} {p = p} P k e (node_tie items leaves bare) inside (trailed_after d a q i s l f g h m n near) go =
      let same : d.offset ≡ k.offset = ap offset_or (sym q ∙ key_trails row k e) in
      let bounds = sub_inside s (subst (λ z. Inside p.from p.upto z) (sym items) inside) in
      go a bounds.0 bounds.1 (omega (arith, l, same)) (λ v j w. f v j (omega (arith, w, same)))

  key_over : {x row : Row} {rows : List Row} {p : PlacedRow} (n : ℕ) → n ≤ p.from → (o : Option CommentValue) → row.key_comment ≡ o → Tie cs x row p → Inside p.from p.upto p.items → RowTrail c cs row rows
      → Over n (option_to_list row.key_comment)
  key_over n l None e tie inside trail = subst (λ z. Over n (option_to_list z)) (sym e) each_none
  key_over n l (Some k) e tie inside trail =
      subst (λ z. Over n (option_to_list z)) (sym e) (each_more (key_is_at (λ z. n ≤ z) k e tie inside trail (λ a low high after first. omega (arith, l, low, after))) each_none)

  -- and before the first of the comments after the row
  key_under : {x row : Row} {rows : List Row} {p : PlacedRow} {d : Deco} {place : ℕ} (own : List CommentValue) → ((b : CommentValue) → In b own → In b cs) → Over p.upto own → Under place own → texts own ≡ carried_texts d → LaidRow d row
      → (o : Option CommentValue) → row.key_comment ≡ o → Tie cs x row p → Inside p.from p.upto p.items → RowTrail c cs row rows → Under place (option_to_list row.key_comment)
  key_under {place = place} own among over under is laid None e tie inside trail = subst (λ z. Under place (option_to_list z)) (sym e) each_none
  key_under {row = row} {p = p} {d = d} {place = place} own among over under is laid (Some k) e tie inside trail =
      subst (λ z. Under place (option_to_list z)) (sym e) (each_more (key_is_at (λ z. z < place) k e tie inside trail (λ a low high after first. by own d.trails refl among over under is a high first)) each_none) where
        by : (os : List CommentValue) (xs : List (List ℕ)) → d.trails ≡ xs → ((b : CommentValue) → In b os → In b cs) → Over p.upto os → Under place os → texts os ≡ carried_texts d → (a : ℕ) → a ≤ p.upto
            → ((v : CommentValue) → In v cs → v.offset < k.offset → v.offset < a) → k.offset < place
        by os [] f g m n w a high first = absurd (none_some (sym (laid.keyless f) ∙ e))
        by [] (x ∷ xs) f g m n w a high first = absurd (no_cons {A = List ℕ} (w ∙ ap (λ z. z ++ remarks_of d.gap) f))
        by (o ∷ os) (x ∷ xs) f g (each_more m ms) (each_more n ns) w a high first =
            ⊎_elim (λ (z : o.offset < k.offset). let y : o.offset < a = first o (g o in_first) z in absurd (omega (arith, y, high, m))) (λ (z : k.offset ≤ o.offset). omega (arith, z, n)) (cases_lt o.offset k.offset)

  keys_over : {xs rows : List Row} {ps : List PlacedRow} {ds : List Deco} {i j it : ℕ} {owns : List (List CommentValue)} (n : ℕ) → n ≤ i → Ties cs xs rows ps → Owns ps ds i owns j → RowExtents t ps ds owns → Upright c cs it rows
      → Over n (keys_of rows)
  keys_over n l no_ties a b no_upright = each_none
  keys_over n l (a_tie {row = row} tie ties) (last_owns f m k up u is) (last_extent s) (an_upright first later fits trail more) =
      each_join (key_over n (omega (arith, l, f)) row.key_comment refl tie s.items trail) (no_keys ties) where
        no_keys : {xs rows : List Row} → Ties cs xs rows [] → Over n (keys_of rows)
        no_keys no_ties = each_none
  keys_over n l (a_tie tie ties) (row_owns f m k up u is o more) (last_extent s) (an_upright first later fits trail others) = elim more [ ]
  keys_over n l (a_tie {row = row} tie ties) (row_owns f m k up u is o more) (row_extent s near extents) (an_upright first later fits trail others) =
      each_join (key_over n (omega (arith, l, f)) row.key_comment refl tie s.items trail) (keys_over n (omega (arith, l, m, k, o)) ties more extents others)

  -- One row.

  among_own : (before own rest : List CommentValue) → cs ≡ before ++ (own ++ rest) → (b : CommentValue) → In b own → In b cs
  among_own before own rest e b i = subst (λ z. In b z) (sym e) (in_after before (in_before rest i))

  unkeyed : {top : ℕ} (row : Row) (kb ks : List CommentValue) (o : CommentValue) (low : ℕ) → c.key_comments ≡ kb ++ (option_to_list row.key_comment ++ ks) → row.key_comment ≡ None → Under low kb → low ≤ o.offset → o.offset < top → Over top ks
      → is_among c.key_comments o ≡ false
  unkeyed row kb ks o low e none under l m over =
      ap (λ z. is_among z o) (e ∙ ap (λ v. kb ++ (option_to_list v ++ ks)) none)
      ∙ (among_join kb ks o ∙ (ap (λ b. b || is_among ks o) (none_below o l under) ∙ none_above o m over))

  bare_tied : {p : PlacedRow} {d : Deco} (row : Row) → row.leaves ≡ [] → row.key_comment ≡ None → LaidRow d row → TrailTied c cs row p d
  bare_tied row none key laid = nothing_trails (ap (λ o. option_to_list o ++ flat_map (trail_of c) row.leaves) key ∙ ap (flat_map (trail_of c)) none) (laid.bare none key)

  one_tied : {x row : Row} {rows : List Row} {p : PlacedRow} {d : Deco} {own : List CommentValue} {place top : ℕ} (pre : List Span) (kb before rest ks : List CommentValue) → Tie cs x row p → LaidRow d row → RowExtent t d p own place
      → Quiet cs p → RowTrail c cs row rows → c.leaves ≡ pre ++ (row.leaves ++ leaves_on rows) → AllFrom top (starts_of (leaves_on rows)) → c.key_comments ≡ kb ++ (option_to_list row.key_comment ++ ks) → Under p.from kb
      → Over top ks → cs ≡ before ++ (own ++ rest) → Under p.from before → Over p.upto own → Under top own → Over place rest → p.from ≤ p.upto → texts own ≡ carried_texts d → TrailTied c cs row p d
  one_tied {row = row} {rows = rows} {p = p} pre kb before rest ks (node_tie items leaves bare) laid extent quiet trail all later keys kbs kss are early over under far order is =
      row_trail_tied lines are_lines c cs remarks sign up unsigned row rows pre before rest laid leaves extent all later
      (λ none o low high. unkeyed row kb ks o p.from keys none kbs (omega (arith, order, low)) high kss) are early over under far is (subst (λ z. Inside p.from p.upto z) (sym items) extent.items) quiet trail
  one_tied {row = row} pre kb before rest ks (start_tie s a none b key l g) laid extent quiet trail all later keys kbs kss are early over under far order is = bare_tied row none key laid
  one_tied {row = row} pre kb before rest ks (head_tie a b none e key) laid extent quiet trail all later keys kbs kss are early over under far order is = bare_tied row none key laid

  -- All rows.

  under_wider : {m n : ℕ} {bs : List CommentValue} → m ≤ n → Under m bs → Under n bs
  under_wider l a = each_map (λ b i m. omega (arith, l, m)) a

  pub tied_rows : {g : Columns} {xs rows : List Row} {ps : List PlacedRow} {ds : List Deco} {i j it : ℕ} {owns : List (List CommentValue)} (pre : List Span) (kb before : List CommentValue) → Ties cs xs rows ps → LaidRows g xs rows ds → Owns ps ds i owns j
      → RowExtents t ps ds owns → Upright c cs it rows → AllQuiet cs ps → AllBlanks t rows ds owns → c.leaves ≡ pre ++ leaves_on rows → c.key_comments ≡ kb ++ keys_of rows → Under i kb → Under i before → cs ≡ before ++ all_of owns
      → Tied t g c cs rows ps ds owns
  tied_rows pre kb before no_ties laid own extents rising_rows quiet notes all keys kbs early are = elim own [ ]
  tied_rows pre kb before (a_tie tie no_ties) (last_laid hs laid gap) (row_owns f l m over under is n more) extents rising_rows quiet notes all keys kbs early are = elim more [ ]
  tied_rows pre kb before (a_tie tie no_ties) (last_laid hs laid gap) (last_owns {p = p} f l m over under is) (last_extent extent) (an_upright first later fits trail more) (quiet_row q quiet) (last_blanks here_noted) all keys kbs early are =
      last_tied hs (one_tied pre kb before [] [] tie laid extent q trail all none_later keys (subst (λ z. Under z kb) (sym f) kbs) each_none are (subst (λ z. Under z before) (sym f) early) (upward_over p.upto (omega arith) over)
      under each_none (omega (arith, f, l)) is) gap here_noted
  tied_rows pre kb before (a_tie {row = row} tie (a_tie {row = next} next_tie ties)) (row_laid {rows = rows} hs b laid gap bare others) (row_owns {p = p} {k = k} {l = low} {own = own} {owns = owns} f l m over under is n more)
      (row_extent {o = o} {k = place} extent near extents) (an_upright first later fits trail others_rise) (quiet_row q quiet) (row_blanks here_noted more_noted) all keys kbs early are =
      let from : o.from ≡ low = first_from more in
      let here : Under o.from own = under_wider (omega (arith, n, from)) under in
      let ahead : Over p.upto own = upward_over p.upto (omega arith) over in
      let key : Under low (option_to_list row.key_comment) =
      key_under own (among_own before own (all_of owns) are) ahead (subst (λ z. Under z own) from here) is laid row.key_comment refl tie extent.items trail in
      row_tied hs b
      (one_tied pre kb before (all_of owns) (keys_of (next ∷ rows)) tie laid extent q trail all (leaves_from o.from (omega (arith, from)) (a_tie next_tie ties) more extents) keys (subst (λ z. Under z kb) (sym f) kbs)
      (keys_over o.from (omega (arith, from)) (a_tie next_tie ties) more extents others_rise) are (subst (λ z. Under z before) (sym f) early) ahead here (upward_over place (omega (arith, near, from)) (owns_upward more)) (omega (arith, f, l)) is)
      gap here_noted (next_tied next_tie (extent_first extents) bare)
      (tied_rows (pre ++ row.leaves) (kb ++ option_to_list row.key_comment) (before ++ own) (a_tie next_tie ties) others more extents others_rise quiet more_noted (all ∙ sym (append_assoc pre row.leaves (leaves_on (next ∷ rows))))
      (keys ∙ sym (append_assoc kb (option_to_list row.key_comment) (keys_of (next ∷ rows)))) (each_join (under_wider (omega (arith, l, m, n)) kbs) key) (each_join (under_wider (omega (arith, l, m, n)) early) (under_wider n under))
      (are ∙ sym (append_assoc before own (all_of owns))))
