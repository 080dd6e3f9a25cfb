-- A document from its rows: its directives, its `---` and its node.
use Rattle.std.proofs.Common.{◌≡◌, ℕ, ◌+◌, ◌<◌, ◌≤◌, pos, Bool, true, false, List, [], ◌∷◌, ◌++◌, length, map, slice_range, refl, sym, ap, ◌∙◌, subst, arith, append-nil, length-append}
use Rattle.std.specs.Prelude.{is_some, ◌-ℤ◌, ◌≤ℤ◌, ◌&&◌, ◌==◌}
use Rattle.std.specs.Str.{IsUtf8}
use Rattle.std.proofs.lemmas.Int.{ints}
use Rattle.std.proofs.lemmas.List.{map-append}
use Rattle.std.proofs.lemmas.Bool.{not-false}
use Rattle.yf_chars.specs.declared.context.Ctx.TheVariants.{BlockIn}
use Rattle.yf_chars.specs.Text.{code}
use Rattle.yf_lines.specs.Basic.{is_three, LineStart, Clear}
use Rattle.yf_lines.specs.LineText.{IsLineText, Follows}
use Rattle.yf_lines.specs.LineText.Follows.{byte_follows}
use Rattle.yf_lines.proofs.RestLemmas.{Rest, rest_spaces, rest_text, line_nothing}
use Rattle.yf_comments.specs.Comment.{CommentValue}
use Rattle.yf_comments.specs.Comments.{LineEnd}
use Rattle.yf_comments.proofs.GapLinesLemmas.{texts, texts_append}
use Rattle.yf_events.specs.Event.{EventInText}
use Rattle.yf_events.specs.declared.directive.Directive.{Directive}
use Rattle.yf_events.specs.Tree.{Node, is_sequence}
use Rattle.yf_grammar.specs.Productions.Grammar.{Derives, BlockNode, least_column}
use Rattle.yf_grammar.specs.Productions.Meaning.{Meaning, meaning_after, noting, empty_node}
use Rattle.yf_grammar.specs.Productions.TreesOfMeaning.{tall}
use Rattle.yf_grammar.proofs.Ends.BlankRuns.{ContentBefore, after_byte}
use Rattle.yf_grammar.proofs.Documents.CommentOrder.{Ascend, end_ascends}
use Rattle.yf_grammar.proofs.NodesInText.MeantLemmas.{texts_after, texts_noting, texts_empty, after_comments}
use Rattle.yf_stream.specs.Stream.{ExplicitNode, DirectiveLines, Directives}
use Rattle.yf_stream.specs.Stream.ExplicitNode.{marked_node, marked_nothing}
use Rattle.yf_stream.specs.Stream.DirectiveLines.{last_directive, more_directives}
use Rattle.yf_stream.proofs.Uniqueness.OneDirective.{ascii_ns}
use Rattle.yf_laws.specs.Layouts.RowComments.{AreDecos, carried_texts, comments_in, Calm}
use Rattle.yf_laws.specs.Layouts.Decorated.{Deco, first, after, trails_then, end_then, lines_then}
use Rattle.yf_laws.specs.Layouts.FitDocuments.{is_apart, FitDirective, FitDirectives, fit_no_directives, fit_directive}
use Rattle.yf_forms.specs.NormalForms.Normal.{LayoutSetting, root_margins}
use Rattle.yf_print.specs.Layouts.Rows.{Row, directive_row, joined_words, begins_below}
use Rattle.yf_laws.proofs.Derived.LayoutSteps.{leaf_steps, comment_steps, steps_in}
use Rattle.yf_laws.proofs.Derived.ClearRows.{AreRowTexts, rows_clear_after, place_of_rest}
use Rattle.yf_laws.proofs.OutputLines.DirectiveEnds.{directive_seen}
use Rattle.yf_laws.proofs.OutputLines.HeldLemmas.{EventsHeld, Held, bare_row, empty_silent, held_next, held_line, row_ended}
use Rattle.yf_laws.proofs.OutputLines.WellSet.{set_append}
use Rattle.yf_laws.proofs.RowNodes.FoundNodes.{FoundNode, found_after, found_noting, found_nothing}
use Rattle.yf_laws.proofs.Derived.LaidRows.{steps_append, laid_row}
use Rattle.yf_laws.proofs.Derived.NodePlaces.{below_at}
use Rattle.yf_laws.proofs.Derived.NodesMade.{Stood, Claim, no_row, some_rows, noting_nothing}
use Rattle.yf_laws.proofs.RowNodes.HeadRows.{BareRows, no_head_row, one_head_row, bare_join}
use Rattle.yf_laws.proofs.RowNodes.PlacedRows.{never_bare, none_inside, one_inside, PlacedRow, AtRow, no_leaf_to, after_line, RowsIn, last_row, row_before, rows_in_append}
use Rattle.yf_laws.proofs.Derived.RowEnds.{row_end, first_deco, after_decos}
use Rattle.yf_laws.proofs.Columns.SetMeant.{column_start, SetDone, SetMeant, set_done, done_after, done_empty}
use Rattle.yf_laws.proofs.Columns.SetNodes.{ColumnAt}
use Rattle.yf_laws.proofs.Derived.StepsInText.{Stand, stand_after, stand_join, comments_stand, MeaningLaid, laid_after, laid_next, laid_empty}
use Rattle.yf_lines.proofs.VisibleLines.{visible_line, visible_at}
use Rattle.yf_forms.proofs.Decide.LeafLemmas.{same}

-- The `---` and the node after it.

pub record ExplicitMade (t : List ℕ) (s : LayoutSetting) (x : Node) (rs : List Row) (ds : List Deco) (q : ℕ) (r : List ℕ) : Type 0 where
  pub height : ℕ
  pub place : ℕ
  pub meaning : Meaning
  pub node : ExplicitNode t height q place meaning
  pub low : height ≤ tall x
  pub rest : Rest t place r
  pub start : LineStart t place
  pub head : PlacedRow
  pub starts : head.items ≡ q ∷ []
  pub unleaved : head.leaves ≡ []
  pub from : head.from ≡ q
  pub inner : List PlacedRow
  pub meant : FoundNode t s (root_margins s.style) x meaning inner
  pub placed : RowsIn t rs (head ∷ inner) ds q meaning.comments place r
  pub is : texts meaning.comments ≡ comments_in rs ds
  pub laid : MeaningLaid q place meaning (steps_in rs ds)
  pub held : Held t meaning rs ds r
  pub set : SetDone t s.style 0 s.style.indent meaning.events

-- the row of a `---`
abbrev mark_row : ℕ → PlacedRow
mark_row q = record { items = q ∷ []; leaves = []; commented = false; column = 0; from = q; upto = q + 3 }

mark_is_at : {row : Row} (q : ℕ) → row.column ≡ 0 → length row.text ≡ 3 → is_some row.key_comment ≡ false → AtRow row q (mark_row q)
mark_is_at q column width key = record {
  from = refl;
  order = omega arith;
  size = λ z. omega (arith, width);
  items = one_inside (omega arith) (omega arith) none_inside;
  leaves = none_inside;
  commented = key;
  bare = λ z. never_bare z;
  column = column;
}

three_stand : (t : List ℕ) (q c : ℕ) → code t q ≡ c → code t (q + 1) ≡ c → code t (q + 2) ≡ c → is_three t q c ≡ true
unfolding is_three
three_stand t q c a b d =
    ap (λ z. (z == c) && ((code t (q + 1) == c) && (code t (q + 2) == c))) a ∙ (ap (λ z. (c == c) && ((z == c) && (code t (q + 2) == c))) b
    ∙ (ap (λ z. (c == c) && ((c == c) && (z == c))) d ∙ ap (λ z. z && (z && z)) (same c)))

pub three_at : {t : List ℕ} (c : ℕ) {q : ℕ} {r : List ℕ} → IsUtf8 t → 32 ≤ c → c < 127 → Rest t q (c ∷ c ∷ c ∷ r) → (is_three t q c ≡ true) × Rest t (q + 3) r
three_at {t} c {q} {r} u l h s =
    let one = visible_at c u l h s in
    let two = visible_at c u l h one.1 in
    let three = visible_at c u l h two.1 in
    let second : q + 1 + 1 ≡ q + 2 = omega arith in
    let third : q + 1 + 1 + 1 ≡ q + 3 = omega arith in
    (three_stand t q c one.0 two.0 (subst (λ k. code t k ≡ c) second three.0), subst (λ k. Rest t k r) third three.1)

pub three_after : {t : List ℕ} (c : ℕ) {q : ℕ} {r : List ℕ} → IsUtf8 t → 36 ≤ c → c < 127 → Rest t q (c ∷ c ∷ c ∷ r) → ContentBefore t (q + 3)
three_after {t} c {q} u l h s =
    let one = visible_at c u (omega (arith, l)) h s in
    let two = visible_at c u (omega (arith, l)) h one.1 in
    let three = visible_at c u (omega (arith, l)) h two.1 in
    let place : q + 1 + 1 + 1 ≡ q + 3 = omega arith in
    subst (λ k. ContentBefore t k) place (after_byte (q + 1 + 1) u three.0 (omega (arith, h)) (ascii_ns c (omega (arith, l)) h))

dashes_line : IsLineText (45 ∷ 45 ∷ 45 ∷ [])
dashes_line = visible_line 45 (omega arith) (omega arith) (visible_line 45 (omega arith) (omega arith) (visible_line 45 (omega arith) (omega arith) line_nothing))

root_least : (sequence : Bool) → least_column sequence (pos 0 -ℤ pos 1) BlockIn ≤ℤ pos 0
root_least true = omega (arith, ints)
root_least false = omega (arith, ints)

pub root_stood : (s : LayoutSetting) (x : Node) → Stood s x (pos 0 -ℤ pos 1) BlockIn (root_margins s.style)
root_stood s x = record { block = refl; least = root_least (is_sequence x); lines = omega arith }

pub explicit_made : {t : List ℕ} {s : LayoutSetting} {x : Node} {rs : List Row} (row : Row) (ds : List Deco) (r : List ℕ) (q : ℕ) → row.leaves ≡ [] → row.body ≡ [] → row.column ≡ 0 → length row.text ≡ 3 → is_some row.key_comment ≡ false → Claim s x (root_margins s.style) rs → AreRowTexts rs → IsUtf8 t → AreDecos ds → Calm rs (after ds) r
    → Rest t q (45 ∷ 45 ∷ 45 ∷ end_then (first ds) [] (lines_then rs (after ds) r)) → ExplicitMade t s x (row ∷ rs) ds q r
explicit_made {t} {s} {x} row ds r q none bare column width key (no_row m) free u a k w =
    let mark = three_at 45 u (omega arith) (omega arith) w in
    let end = row_end (first ds) r u (first_deco a) mark.1 in
    record {
      height = 0;
      place = end.place;
      meaning = noting (empty_node (q + 3)) end.comments;
      node = marked_nothing mark.0 end.end;
      low = omega arith;
      rest = end.rest;
      start = end.start;
      head = mark_row q;
      starts = refl;
      unleaved = refl;
      from = refl;
      inner = [];
      meant = found_noting end.comments (found_nothing (q + 3) (m.meant (q + 3)));
      placed = subst (λ v. RowsIn t (row ∷ []) (mark_row q ∷ []) ds q v end.place r) (sym (noting_nothing (q + 3) end.comments))
          (last_row (mark_is_at q column width key) (record { ascend = end_ascends end.end; is = end.is; start = end.start; tail = after_line bare end.end no_leaf_to }) end.rest);
      is = texts_noting (empty_node (q + 3)) end.comments ∙ (ap (λ z. z ++ texts end.comments) (texts_empty (q + 3)) ∙ (end.is ∙ sym (append-nil (carried_texts (first ds)))));
      laid = subst (λ z. MeaningLaid q end.place (noting (empty_node (q + 3)) end.comments) (leaf_steps z ++ (comment_steps (carried_texts (first ds)) ++ []))) (sym none)
          (laid_row (empty_node (q + 3)) end.comments [] (laid_empty (q + 3) (omega arith)) (end_ascends end.end) end.is);
      set = done_empty (q + 3) end.comments;
      held = held_line (empty_node (q + 3)) end.comments row ds r bare (empty_silent (q + 3)) (row_ended (first ds) r u (three_after 45 u (omega arith) (omega arith) w) (first_deco a) mark.1 end.end);
    }
explicit_made {t} {s} {x} row ds r q none bare column width key (some_rows {r = y} {rs = ys} f g m) lines u a k w =
    let mark = three_at 45 u (omega arith) (omega arith) w in
    let end = row_end (first ds) (lines_then (y ∷ ys) (after ds) r) u (first_deco a) mark.1 in
    let spaces = rest_spaces y.column end.place u end.rest in
    let node = m.made (pos 0 -ℤ pos 1) BlockIn (after ds) r (end.place + y.column) u (root_stood s x) (after_decos a) k spaces.1 in
    let derived : Derives t node.height (BlockNode (pos 0 -ℤ pos 1) BlockIn) (q + 3) node.place (meaning_after end.comments node.meaning) =
    below_at 0 refl refl (λ e. omega arith) (λ e. g (not-false (begins_below x) e)) end.end end.start spaces.0 node.at in
    let free = rows_clear_after (45 ∷ 45 ∷ 45 ∷ []) 3 ds r u dashes_line (omega arith) lines a w in
    let clear : Clear t (q + 3) node.place = subst (λ j. Clear t (q + 3) j) (place_of_rest free.rest node.rest) free.clear in
    record {
      height = node.height;
      place = node.place;
      meaning = meaning_after end.comments node.meaning;
      node = marked_node mark.0 (record { derived = derived; clear = clear });
      low = node.low;
      rest = node.rest;
      start = node.start;
      head = mark_row q;
      starts = refl;
      unleaved = refl;
      from = refl;
      inner = node.found_rows;
      meant = found_after end.comments node.meant;
      placed = subst (λ v. RowsIn t (row ∷ y ∷ ys) (mark_row q ∷ node.found_rows) ds q v node.place r) (sym (after_comments end.comments node.meaning))
          (row_before (mark_is_at q column width key) (record { ascend = end_ascends end.end; is = end.is; start = end.start; tail = after_line bare end.end no_leaf_to }) end.rest node.placed);
      is = texts_after end.comments node.meaning ∙ (ap (λ z. z ++ texts node.meaning.comments) end.is ∙ ap (λ z. carried_texts (first ds) ++ z) node.is);
      laid = subst (λ z. MeaningLaid q node.place (meaning_after end.comments node.meaning) (leaf_steps z ++ (comment_steps (carried_texts (first ds)) ++ steps_in (y ∷ ys) (after ds)))) (sym none)
          (laid_after (omega arith) (laid_next end.comments node.meaning (end_ascends end.end) end.is (omega arith) node.laid));
      set = done_after end.comments node.meaning (set_done (λ b. subst (λ z. ColumnAt t z (end.place + y.column)) (g b) (column_start u end.start spaces.0))
          (subst (λ k. SetMeant t s.style 0 k (begins_below x) (end.place + y.column) node.meaning) (omega arith) node.set));
      held = held_next end.comments node.meaning row (y ∷ ys) ds r bare
          (row_ended (first ds) (lines_then (y ∷ ys) (after ds) r) u (three_after 45 u (omega arith) (omega arith) w) (first_deco a) mark.1 end.end) node.held;
    }

-- Directives.

pub record DirectivesMade (t : List ℕ) (dirs : List Directive) (rs : List Row) (ds : List Deco) (q : ℕ) (r : List ℕ) : Type 0 where
  pub place : ℕ
  pub meaning : Directives
  pub lines : DirectiveLines t q place meaning
  pub words : map (λ (e : Directive). e.words) meaning.directives ≡ map (λ (e : Directive). e.words) dirs
  pub rest : Rest t place r
  pub is : texts meaning.comments ≡ comments_in rs ds
  pub stand : Stand q [] meaning.comments (steps_in rs ds) place
  pub held : (es : List EventInText) → EventsHeld t es meaning.comments rs ds r
  pub found_rows : List PlacedRow
  pub heads : BareRows (length meaning.directives) found_rows
  pub placed : RowsIn t rs found_rows ds q meaning.comments place r

percent_line : {w : List ℕ} → IsLineText w → IsLineText (37 ∷ w)
percent_line a = visible_line 37 (omega arith) (omega arith) a

apart_follows : (xs : List (List ℕ)) (r : List ℕ) → Follows is_apart (trails_then xs (10 ∷ r))
apart_follows [] r = byte_follows (omega arith) refl
apart_follows (x ∷ xs) r = byte_follows (omega arith) refl

row_is_at : {i j : ℕ} {cs : List CommentValue} (row : Row) (ds : List Deco) → row.leaves ≡ [] → Stand i [] cs (comment_steps (carried_texts (first ds))) j
    → Stand i [] cs (steps_in (row ∷ []) ds) j
row_is_at {i} {j} {cs} row ds none a =
    subst (λ z. Stand i [] cs (leaf_steps z ++ (comment_steps (carried_texts (first ds)) ++ [])) j) (sym none)
    (subst (λ z. Stand i [] cs z j) (sym (append-nil (comment_steps (carried_texts (first ds))))) a)

one_directive : {t : List ℕ} {d : Directive} (row : Row) (ds : List Deco) (r : List ℕ) (q : ℕ) → row.leaves ≡ [] → row.body ≡ [] → row.text ≡ 37 ∷ joined_words d.words → is_some row.key_comment ≡ false → FitDirective d.words → IsUtf8 t → AreDecos ds
    → Rest t q (37 ∷ (joined_words d.words ++ end_then (first ds) [] r)) → DirectivesMade t (d ∷ []) (row ∷ []) ds q r
one_directive {t} {d} row ds r q none bare said key fit u a w =
    let at = fit.made q (end_then (first ds) [] r) u (apart_follows (first ds).trails _) w in
    let sign = visible_at 37 u (omega arith) (omega arith) w in
    let text = rest_text (37 ∷ joined_words d.words) u (percent_line fit.line) w in
    let end = row_end (first ds) r u (first_deco a) text.rest in
    record {
      place = end.place;
      meaning = record { directives = record { offset = q; words = slice_range t (q + 1) at.middle ∷ at.others } ∷ []; comments = end.comments };
      lines = last_directive sign.0 at.name at.parameters end.end;
      words = ap (λ z. z ∷ []) at.are;
      rest = end.rest;
      is = end.is ∙ sym (append-nil (carried_texts (first ds)));
      found_rows = record { items = q ∷ []; leaves = []; commented = false; column = row.column; from = q; upto = q + length row.text } ∷ [];
      heads = one_head_row refl no_head_row;
      placed = last_row (record {
        from = refl;
        order = omega arith;
        size = λ z. refl;
        items = one_inside (omega arith) (omega arith) none_inside;
        leaves = none_inside;
        commented = key;
        bare = λ z. never_bare z;
        column = refl;
      }) (record {
        ascend = subst (λ v. Ascend t (q + length v) end.comments end.place) (sym said) (end_ascends end.end);
        is = end.is;
        start = end.start;
        tail = after_line bare (subst (λ v. LineEnd t (q + length v) end.place end.comments) (sym said) end.end) no_leaf_to;
      }) end.rest;
      stand = row_is_at row ds none (stand_after (omega arith) (comments_stand (end_ascends end.end) end.is));
      held = λ es. let ended = row_ended (first ds) r u (directive_seen u at) (first_deco a) text.rest end.end in record { comments = ended.comments; bodies = (bare_row t es row (first ds) r bare ended.seen, tt) };
    }

pub directives_made : {t : List ℕ} {d : Directive} {dirs : List Directive} (row : Row) (ds : List Deco) (r : List ℕ) (q : ℕ) → row.leaves ≡ [] → row.body ≡ [] → row.text ≡ 37 ∷ joined_words d.words → is_some row.key_comment ≡ false → FitDirective d.words → FitDirectives dirs → IsUtf8 t → AreDecos ds
    → Rest t q (37 ∷ (joined_words d.words ++ end_then (first ds) [] (lines_then (map directive_row dirs) (after ds) r)))
    → DirectivesMade t (d ∷ dirs) (row ∷ map directive_row dirs) ds q r
directives_made {d = d} row ds r q none bare said key fit fit_no_directives u a w = one_directive {d = d} row ds r q none bare said key fit u a w
directives_made {t} {d = d} row ds r q none bare said key fit (fit_directive {d = e} {ds = es} f fs) u a w =
    let one = one_directive {d = d} row ds (lines_then (map directive_row (e ∷ es)) (after ds) r) q none bare said key fit u a w in
    let more = directives_made {d = e} {dirs = es} (directive_row e) (after ds) r one.place refl refl refl refl f fs u (after_decos a) one.rest in
    record {
      place = more.place;
      meaning = record { directives = one.meaning.directives ++ more.meaning.directives; comments = one.meaning.comments ++ more.meaning.comments };
      lines = more_directives one.lines more.lines;
      words = map-append (λ (e : Directive). e.words) one.meaning.directives more.meaning.directives
          ∙ (ap (λ z. z ++ map (λ (e : Directive). e.words) more.meaning.directives) one.words ∙ ap (λ z. d.words ∷ z) more.words);
      rest = more.rest;
      is = texts_append one.meaning.comments more.meaning.comments ∙ (ap (λ z. z ++ texts more.meaning.comments) (one.is ∙ append-nil (carried_texts (first ds)))
          ∙ ap (λ z. carried_texts (first ds) ++ z) more.is);
      found_rows = one.found_rows ++ more.found_rows;
      heads = bare_join (length (one.meaning.directives ++ more.meaning.directives)) (length-append one.meaning.directives more.meaning.directives) one.heads more.heads;
      placed = rows_in_append one.placed (subst (λ z. RowsIn t (map directive_row (e ∷ es)) more.found_rows (after ds) z more.meaning.comments more.place r) (omega arith) more.placed);
      stand = subst (λ z. Stand q [] (one.meaning.comments ++ more.meaning.comments) z more.place) (sym (steps_append (row ∷ []) (map directive_row (e ∷ es)) ds)) (stand_join one.stand more.stand);
      held = λ ps. record {
        comments = set_append t one.meaning.comments more.meaning.comments (one.held ps).comments (more.held ps).comments;
        bodies = ((one.held ps).bodies.0, (more.held ps).bodies);
      };
    }
