-- A literal or folded scalar from its row: its header, its lines and what it carries.
use Rattle.std.proofs.Common.{◌≡◌, ◌≢◌, ℕ, zero, suc, ◌+◌, ◌-◌, ◌<◌, ◌≤◌, ℤ, pos, Bool, true, false, true≢false, List, [], ◌∷◌, ◌++◌, length, map, replicate, Option, Some, None, refl, sym, ap, ◌∙◌, subst, arith, append_assoc, append-nil, ⊎_elim}
use Rattle.std.specs.Prelude.{◌+ℤ◌, is_some, if◌then◌else◌}
use Rattle.std.specs.Str.{IsUtf8}
use Rattle.std.proofs.lemmas.Bool.{cases_Bool}
use Rattle.yf_chars.specs.declared.context.Ctx.{Ctx}
use Rattle.yf_lines.specs.Basic.{LineStart}
use Rattle.yf_lines.specs.Basic.LineStart.{after_break}
use Rattle.yf_lines.specs.LineText.{IsLineText}
use Rattle.yf_lines.proofs.RestLemmas.{Rest, rest_text, rest_break, line_nothing, line_append}
use Rattle.yf_comments.specs.Comments.Separate.{in_node}
use Rattle.yf_comments.specs.GapLines.{AllLeft, remarks_of}
use Rattle.yf_comments.proofs.GapLinesLemmas.{gap_at}
use Rattle.yf_block_scalar.specs.Body.{base}
use Rattle.yf_block_scalar.specs.Content.{feeds}
use Rattle.yf_block_scalar.specs.Placed.{lines_then as scalar_lines, trail_then, Below, KeptGap, scalar_then}
use Rattle.yf_block_scalar.specs.Written.{style_bytes, digit_bytes, sign_bytes, AreLineTexts, EndsWithContent, StartsUnspaced}
use Rattle.yf_block_scalar.specs.declared.header.Chomp.TheVariants.{Keep}
use Rattle.yf_block_scalar.specs.declared.header.Header.{Header}
use Rattle.yf_block_scalar.proofs.PlacedScalar.{placed}
use Rattle.yf_props.specs.Props.{PropsValue, no_props}
use Rattle.yf_props.specs.Written.{IsProps, props_bytes, tag_offset_at}
use Rattle.yf_events.specs.declared.event.ScalarStyle.{ScalarStyle}
use Rattle.yf_events.specs.declared.event.ScalarStyle.TheVariants.{Plain, Single, Double, Literal, Folded}
use Rattle.yf_events.specs.declared.event.Span.{Span}
use Rattle.yf_events.specs.Tree.{NodeOffsets, scalar, spans_of_leaf}
use Rattle.yf_grammar.specs.Productions.Grammar.{Derives, BlockNode}
use Rattle.yf_grammar.specs.Productions.Grammar.Derives.{a_block_scalar, a_block_scalar_with}
use Rattle.yf_grammar.specs.Productions.Meaning.{Meaning, meaning_after, with_props}
use Rattle.yf_grammar.proofs.Documents.CommentOrder.{ascend_after, scalar_ascends}
use Rattle.yf_grammar.proofs.WrittenTexts.LeafBack.{propertied}
use Rattle.yf_grammar.proofs.NodesInText.MeantLemmas.{texts_with_props}
use Rattle.yf_forms.specs.Nodes.BlockLines.{begins_with_space, block_lines, chomping_sign, content_lines, digit_text, final_feeds, header_text, is_kept_tail, line_at, style_sign}
use Rattle.yf_laws.specs.Nodes.BlockValues.{chomp_of, digit_of, header_of}
use Rattle.yf_laws.specs.Layouts.RowComments.{IsDeco, AreDecos, carried_texts, CalmBody}
use Rattle.yf_laws.specs.Layouts.Decorated.{GapLine, gap_then, Deco, first, trails_then, body_then, end_then, inline_then}
use Rattle.yf_laws.specs.Layouts.ReadableTrees.{FitScalar, FitProps, no_fit_props, some_fit_props, is_block_style, IsNoMarker}
use Rattle.yf_laws.specs.Layouts.Layout.{may_be_blank_after}
use Rattle.yf_forms.specs.NormalForms.Normal.{LayoutSetting, Margins}
use Rattle.yf_forms.specs.Nodes.OneLine.{spaced, props_text}
use Rattle.yf_print.specs.Layouts.Rows.{begins_below, Row, Ending, block_scalar, tail_ending, rows}
use Rattle.yf_forms.specs.Nodes.Lines.{is_empty_text}
use Rattle.yf_laws.proofs.Derived.LayoutSteps.{a_leaf, leaf_steps, comment_steps, steps_in}
use Rattle.yf_laws.proofs.Derived.ClearRows.{unmarked_first, unmarked_nothing, line_indented, AreBodyTexts, no_body_text, body_text, place_of_rest}
use Rattle.yf_laws.proofs.Derived.CollectionsMade.{same_props, some_props, comments_with_props}
use Rattle.yf_laws.proofs.OutputLines.HeldLemmas.{held_scalar}
use Rattle.yf_laws.proofs.Columns.SetMeant.{SetMeant, set_block}
use Rattle.yf_laws.proofs.Derived.NodePlaces.{apart_at, both_after}
use Rattle.yf_laws.proofs.Derived.NodesMade.{Stood, NodeMade, Claim, some_rows}
use Rattle.yf_laws.proofs.RowNodes.PlacedRows.{after_scalar, last_end, leaf_to, no_leaf_to, RowsIn, last_row}
use Rattle.yf_laws.proofs.Derived.RowEnds.{trails_at, first_deco}
use Rattle.yf_laws.proofs.Derived.ScalarFound.{bare_found, leaf_row, leaf_is_at, props_found}
use Rattle.yf_laws.proofs.OutputLines.ScalarHeld.{AllSigns, after_signs, signs_append, HeaderNotes, header_notes, ScalarReached, passed_header, scalar_comments, scalar_reached}
use Rattle.yf_laws.proofs.Derived.ScalarsInText.{ScalarMade, bare_scalar, props_scalar}
use Rattle.yf_laws.proofs.OutputLines.ScalarTails.{ScalarTail, scalar_tail}
use Rattle.yf_laws.proofs.Derived.StepsInText.{MeaningLaid, laid_scalar, laid_scalar_with}
use Rattle.yf_laws.proofs.OutputLines.WellSet.{AllSet}
use Rattle.yf_laws.proofs.OutputLines.ScalarBytes.{header_bytes_are, lines_are, trail_of, trail_is, trail_fits, trail_comments}
use Rattle.yf_grammar.proofs.FlowReader.ParserLemmas.{after_nothing}
use Rattle.yf_lines.proofs.VisibleLines.{visible_line}
use Rattle.yf_laws.proofs.Printer.LeafPrinted.{header_filled}
use Rattle.yf_grammar.proofs.BlockOutcomes.BlockGaps.{block_no_key}

-- What follows it.

kept_gap : (text : List ℕ) (gap : List GapLine) → (may_be_blank_after (tail_ending (is_kept_tail (final_feeds text))) ≡ false → KeptGap Keep gap) → KeptGap (chomp_of (final_feeds text)) gap
kept_gap text gap f = go (final_feeds text) f where
  go : (n : ℕ) → (may_be_blank_after (tail_ending (is_kept_tail n)) ≡ false → KeptGap Keep gap) → KeptGap (chomp_of n) gap
  go zero g = tt
  go (suc zero) g = tt
  go (suc (suc n)) g = g refl

calm_body : (column n : ℕ) (ls : List (List ℕ)) (ending : Ending) (gap : List GapLine) (r : List ℕ) → EndsWithContent ls → CalmBody (map (line_at column) (ls ++ replicate n [])) column ending gap r
    → AllLeft column gap × (Below column r × (may_be_blank_after ending ≡ false → KeptGap Keep gap))
calm_body column n [] ending gap r last c = absurd last
calm_body column n (x ∷ ls) ending gap r last c = c

-- The lines are texts of their own.

line_at_text : (column : ℕ) (x : List ℕ) → IsLineText x → IsLineText (line_at column x)
line_at_text column [] a = line_nothing
line_at_text column (b ∷ x) a = line_indented column a

line_at_unmarked : (column : ℕ) (x : List ℕ) → 0 < column → IsNoMarker (line_at column x)
line_at_unmarked column [] l = unmarked_nothing
line_at_unmarked zero (b ∷ x) l = absurd (omega arith)
line_at_unmarked (suc k) (b ∷ x) l = unmarked_first 32 (replicate k 32 ++ (b ∷ x)) (omega arith) (λ e. omega arith) (λ e. omega arith) (λ e. omega arith)

tail_texts : (column n : ℕ) → AreBodyTexts (map (line_at column) (replicate n []))
tail_texts column zero = no_body_text
tail_texts column (suc n) = body_text line_nothing unmarked_nothing (tail_texts column n)

pub body_texts : (column n : ℕ) (ls : List (List ℕ)) → 0 < column → AreLineTexts ls → AreBodyTexts (map (line_at column) (ls ++ replicate n []))
body_texts column n [] l a = tail_texts column n
body_texts column n (x ∷ ls) l a = body_text (line_at_text column x a.0) (line_at_unmarked column x l) (body_texts column n ls l a.1)

-- a line starts at the end of a row with a body
record Started (t : List ℕ) (r : List ℕ) : Type 0 where
  pub place : ℕ
  pub start : LineStart t place
  pub rest : Rest t place r

body_start : {t : List ℕ} {xs : List (List ℕ)} (r : List ℕ) {q : ℕ} → IsUtf8 t → AreBodyTexts xs → LineStart t q → Rest t q (body_then xs r) → Started t r
body_start r {q} u no_body_text l s = record { place = q; start = l; rest = s }
body_start r u (body_text {x = x} {xs = xs} a n more) l s =
    let at = rest_text x u a s in
    let end = rest_break u at.rest in
    body_start r u more (after_break end.0) end.1

end_start : {t : List ℕ} (d : Deco) {body : List (List ℕ)} (r : List ℕ) {q : ℕ} → IsUtf8 t → IsDeco d → AreBodyTexts body → Rest t q (end_then d body r) → Started t r
end_start d {body} r u a b s =
    let line = trails_at d.trails (body_then body (gap_then d.gap r)) u a.trails s in
    let lines = body_start (gap_then d.gap r) u b line.start line.rest in
    let gap = gap_at d.gap r u a.gap lines.start lines.rest in
    record { place = gap.place; start = gap.start; rest = gap.rest }

-- The node.

wide_enough : (n : ℤ) (column indent : ℕ) → 2 ≤ indent → indent ≤ 8 → column ≡ base n + indent → (base n < column) × ((column ≤ base n + 9) × (column - base n ≡ indent))
wide_enough n column indent wide near e = (omega arith, (omega arith, omega arith))

unspaced_of : {style : ScalarStyle} {text : List ℕ} {lines : List (List ℕ)} (indent : ℕ) → FitScalar style text lines → digit_of indent text ≡ None → StartsUnspaced (content_lines style text lines)
unspaced_of {style} {text} indent f e = ⊎_elim (λ (h : begins_with_space text ≡ true). absurd (some_digit (sym (ap (λ b. if b then Some indent else None) h) ∙ e)))
    (λ (h : begins_with_space text ≡ false). f.unspaced h) (cases_Bool (begins_with_space text)) where
      some_digit : Some indent ≡ None → ⊥
      some_digit e = true≢false (ap is_some e)

pub header_line : (style : ScalarStyle) (indent : ℕ) (text : List ℕ) → indent ≤ 8 → IsLineText (header_text style indent text)
header_line style indent text near = line_append (sign_line style) (line_append (digit_line (begins_with_space text)) (chomp_line (final_feeds text))) where
  sign_line : (style : ScalarStyle) → IsLineText (style_sign style)
  sign_line Plain = visible_line 124 (omega arith) (omega arith) line_nothing
  sign_line Single = visible_line 124 (omega arith) (omega arith) line_nothing
  sign_line Double = visible_line 124 (omega arith) (omega arith) line_nothing
  sign_line Literal = visible_line 124 (omega arith) (omega arith) line_nothing
  sign_line Folded = visible_line 62 (omega arith) (omega arith) line_nothing

  digit_line : (b : Bool) → IsLineText (if b then (48 + indent) ∷ [] else [])
  digit_line true = visible_line (48 + indent) (omega arith) (omega arith) line_nothing
  digit_line false = line_nothing

  chomp_line : (n : ℕ) → IsLineText (chomping_sign n)
  chomp_line zero = visible_line 45 (omega arith) (omega arith) line_nothing
  chomp_line (suc zero) = line_nothing
  chomp_line (suc (suc n)) = visible_line 43 (omega arith) (omega arith) line_nothing

-- and are signs
header_signs : (style : ScalarStyle) (indent : ℕ) (text : List ℕ) → indent ≤ 8 → AllSigns (header_text style indent text)
header_signs style indent text near =
    signs_append (style_sign style) (digit_text indent text ++ chomping_sign (final_feeds text)) (style_signs style)
    (signs_append (digit_text indent text) (chomping_sign (final_feeds text)) (digit_signs (begins_with_space text)) (chomp_signs (final_feeds text))) where
      style_signs : (style : ScalarStyle) → AllSigns (style_sign style)
      style_signs Plain = ((omega arith, omega arith), tt)
      style_signs Single = ((omega arith, omega arith), tt)
      style_signs Double = ((omega arith, omega arith), tt)
      style_signs Literal = ((omega arith, omega arith), tt)
      style_signs Folded = ((omega arith, omega arith), tt)

      digit_signs : (b : Bool) → AllSigns (if b then (48 + indent) ∷ [] else [])
      digit_signs true = ((omega arith, omega arith), tt)
      digit_signs false = tt

      chomp_signs : (n : ℕ) → AllSigns (chomping_sign n)
      chomp_signs zero = ((omega arith, omega arith), tt)
      chomp_signs (suc zero) = tt
      chomp_signs (suc (suc n)) = ((omega arith, omega arith), tt)

some_bytes : (w : List ℕ) → is_empty_text w ≡ false → w ≢ []
some_bytes [] e f = true≢false e
some_bytes (b ∷ w) e f = cc

-- the scalar from its header on, after the text of the row before it
scalar_at : {t : List ℕ} {style : ScalarStyle} {text : List ℕ} {lines : List (List ℕ)} (indent : ℕ) (n : ℤ) (column : ℕ) (d : Deco) (r : List ℕ) (q : ℕ) → FitScalar style text lines → 2 ≤ indent → indent ≤ 8
    → column ≡ base n + indent → IsUtf8 t → IsDeco d → CalmBody (block_lines style column text lines) column (tail_ending (is_kept_tail (final_feeds text))) d.gap r
    → Rest t q (header_text style indent text ++ end_then d (block_lines style column text lines) r)
    → ScalarMade t n (header_of style indent text) (content_lines style text lines) (final_feeds text - 1) (d.trails ++ remarks_of d.gap) q r (body_then (block_lines style column text lines) (gap_then d.gap r))
    (end_then d (block_lines style column text lines) r)
scalar_at {t} {style} {text} {lines} indent n column d r q f wide near e u a calm w =
    let ls : List (List ℕ) = content_lines style text lines in
    let count : ℕ = final_feeds text - 1 in
    let h : Header = header_of style indent text in
    let sizes = wide_enough n column indent wide near e in
    let quiet = calm_body column count ls (tail_ending (is_kept_tail (final_feeds text))) d.gap r f.last calm in
    let shape : header_text style indent text ++ end_then d (block_lines style column text lines) r ≡ scalar_then h (column - base n) (trail_of d.trails) column ls count (gap_then d.gap r) =
    header_bytes_are style indent text (end_then d (block_lines style column text lines) r)
    ∙ (ap (λ z. style_bytes h.folded ++ (digit_bytes h.digit indent ++ (sign_bytes h.chomp ++ trails_then d.trails (10 ∷ z)))) (lines_are column ls count (gap_then d.gap r))
    ∙ (ap (λ z. style_bytes h.folded ++ (digit_bytes h.digit indent ++ (sign_bytes h.chomp ++ z))) (trail_is d.trails (scalar_lines column ls (feeds count ++ gap_then d.gap r)) a.trails)
    ∙ ap (λ z. style_bytes h.folded ++ (digit_bytes h.digit z ++ (sign_bytes h.chomp ++ trail_then (trail_of d.trails) (scalar_lines column ls (feeds count ++ gap_then d.gap r))))) (sym sizes.1.1))) in
    let reached = scalar_reached f.last (placed n column h (trail_of d.trails) ls count d.gap u sizes.0 sizes.1.0 f.texts f.last (unspaced_of indent f) (trail_fits d.trails a.trails) a.gap quiet.0
    (kept_gap text d.gap quiet.1.1) quiet.1.0 (subst (λ z. Rest t q z) shape w)) in
    let made : ScalarReached t n h ls count (d.trails ++ remarks_of d.gap) q r = subst (λ z. ScalarReached t n h ls count (z ++ remarks_of d.gap) q r) (trail_comments d.trails a.trails) reached in
    let header : List ℕ = header_text style indent text in
    let body : List (List ℕ) = block_lines style column text lines in
    let signs = header_signs style indent text near in
    let some = some_bytes header (header_filled style indent text) in
    let text_end = rest_text header u (header_line style indent text near) w in
    record {
      reached = made;
      passed = passed_header header d body r u (header_line style indent text near) signs some a w made.head;
      comments = scalar_comments header d body r u signs some a w text_end.rest made.node.derived;
      seen = record { at = q + length header; follows = after_signs header (end_then d body r) q u signs some w; rest = text_end.rest };
    }

pub header_unmarked : (style : ScalarStyle) (indent : ℕ) (text : List ℕ) → IsNoMarker (header_text style indent text)
header_unmarked Plain indent text = unmarked_first 124 (digit_text indent text ++ chomping_sign (final_feeds text)) (omega arith) (λ e. omega arith) (λ e. omega arith) (λ e. omega arith)
header_unmarked Single indent text = unmarked_first 124 (digit_text indent text ++ chomping_sign (final_feeds text)) (omega arith) (λ e. omega arith) (λ e. omega arith) (λ e. omega arith)
header_unmarked Double indent text = unmarked_first 124 (digit_text indent text ++ chomping_sign (final_feeds text)) (omega arith) (λ e. omega arith) (λ e. omega arith) (λ e. omega arith)
header_unmarked Literal indent text = unmarked_first 124 (digit_text indent text ++ chomping_sign (final_feeds text)) (omega arith) (λ e. omega arith) (λ e. omega arith) (λ e. omega arith)
header_unmarked Folded indent text = unmarked_first 62 (digit_text indent text ++ chomping_sign (final_feeds text)) (omega arith) (λ e. omega arith) (λ e. omega arith) (λ e. omega arith)

pub spaced_some : (x y : List ℕ) → is_empty_text x ≡ false → is_empty_text y ≡ false → spaced x y ≡ x ++ (32 ∷ y)
spaced_some [] y e f = absurd (true≢false e)
spaced_some (b ∷ x) [] e f = absurd (true≢false f)
spaced_some (b ∷ x) (c ∷ y) e f = refl

-- the scalar has lines
pub body_some : (column n : ℕ) (ls : List (List ℕ)) → EndsWithContent ls → map (line_at column) (ls ++ replicate n []) ≡ [] → ⊥
body_some column n [] last e = last
body_some column n (x ∷ ls) last e = absurd cc

-- with properties
pub header_with : {p : PropsValue} (style : ScalarStyle) (indent : ℕ) (text : List ℕ) → IsProps p → p ≢ no_props → spaced (props_text p) (header_text style indent text) ≡ props_bytes p ++ (32 ∷ header_text style indent text)
header_with {p} style indent text k n =
    ap (λ z. spaced z (header_text style indent text)) (same_props k) ∙ spaced_some (props_bytes p) (header_text style indent text) (some_props k n) (header_filled style indent text)

props_set : (t : List ℕ) (p : PropsValue) (o : Option ℕ) (q g : ℕ) (m : Meaning) → AllSet t m.comments → AllSet t (with_props p o q g m).comments
unfolding with_props
props_set t p o q g m a = a

one_leaf : (o : Option Span) → is_some o ≡ true → leaf_steps (spans_of_leaf o) ≡ a_leaf ∷ []
one_leaf None e = absurd (true≢false (sym e))
one_leaf (Some s) e = refl

scalar_steps : (row : Row) (ds : List Deco) → leaf_steps row.leaves ≡ a_leaf ∷ [] → a_leaf ∷ comment_steps (carried_texts (first ds)) ≡ steps_in (row ∷ []) ds
scalar_steps row ds e =
    ap (λ z. a_leaf ∷ z) (sym (append-nil (comment_steps (carried_texts (first ds))))) ∙ ap (λ z. z ++ (comment_steps (carried_texts (first ds)) ++ [])) (sym e)

notes_of : {t : List ℕ} {n : ℤ} (s : LayoutSetting) (style : ScalarStyle) (text : List ℕ) (lines : List (List ℕ)) (margins : Margins) (ds : List Deco) (r : List ℕ) (q : ℕ) → IsUtf8 t → AreDecos ds
    → (made : ScalarMade t n (header_of style s.style.indent text) (content_lines style text lines) (final_feeds text - 1) ((first ds).trails ++ remarks_of (first ds).gap) q r (body_then (block_lines style margins.lines text lines) (gap_then (first ds).gap r))
    (end_then (first ds) (block_lines style margins.lines text lines) r))
    → Rest t q (header_text style s.style.indent text ++ end_then (first ds) (block_lines style margins.lines text lines) r) → HeaderNotes t q made.reached.start made.reached.header.comments (first ds).trails
notes_of s style text lines margins ds r q u a made w =
    header_notes (header_text style s.style.indent text) (first ds) (block_lines style margins.lines text lines) r u (header_line style s.style.indent text s.style.indent_to) (header_signs style s.style.indent text s.style.indent_to)
    (some_bytes (header_text style s.style.indent text) (header_filled style s.style.indent text)) (first_deco a) w made.reached.head

tail_of : {t : List ℕ} {n : ℤ} (s : LayoutSetting) {style : ScalarStyle} {text : List ℕ} {lines : List (List ℕ)} (f : FitScalar style text lines) (margins : Margins) (ds : List Deco) (r : List ℕ) (q : ℕ) → IsUtf8 t → 0 < margins.lines
    → (made : ScalarMade t n (header_of style s.style.indent text) (content_lines style text lines) (final_feeds text - 1) ((first ds).trails ++ remarks_of (first ds).gap) q r (body_then (block_lines style margins.lines text lines) (gap_then (first ds).gap r))
    (end_then (first ds) (block_lines style margins.lines text lines) r))
    → HeaderNotes t q made.reached.start made.reached.header.comments (first ds).trails → ScalarTail t (first ds) q made.reached.node.meaning.finish made.reached.node.place made.reached.node.meaning.comments
tail_of s {style} {text} {lines} f margins ds r q u deep made notes =
    scalar_tail style text lines s.style.indent margins.lines (first ds) u (body_some margins.lines (final_feeds text - 1) (content_lines style text lines) f.last)
    (body_texts margins.lines (final_feeds text - 1) (content_lines style text lines) deep f.texts) made.reached made.passed notes

module _ {s : LayoutSetting} {at : NodeOffsets} {style : ScalarStyle} {text : List ℕ} {lines : List (List ℕ)} (placed_at : is_some at.span ≡ true) (f : FitScalar style text lines) where
  bare_made : {t : List ℕ} (row : Row) (margins : Margins) (n : ℤ) (c : Ctx) (ds : List Deco) (r : List ℕ) (q : ℕ) → row.text ≡ header_text style s.style.indent text → row.body ≡ block_lines style margins.lines text lines
      → row.lines ≡ margins.lines → leaf_steps row.leaves ≡ a_leaf ∷ [] → is_some row.key_comment ≡ false → IsUtf8 t → Stood s (scalar at no_props style text lines) n c margins → AreDecos ds → CalmBody (block_lines style margins.lines text lines) margins.lines (tail_ending (is_kept_tail (final_feeds text))) (first ds).gap r
      → Rest t q (inline_then (row ∷ []) ds r) → NodeMade t s n c margins (scalar at no_props style text lines) (row ∷ []) ds q r
  bare_made {t} row margins n c ds r q said body said_lines leaf key u stood a calm w =
      let there : Rest t q (header_text style s.style.indent text ++ end_then (first ds) (block_lines style margins.lines text lines) r) =
      subst (λ z. Rest t q (header_text style s.style.indent text ++ end_then (first ds) z r)) body (subst (λ z. Rest t q (z ++ end_then (first ds) row.body r)) said w) in
      let made = scalar_at s.style.indent n margins.lines (first ds) r q f s.style.indent_from s.style.indent_to stood.lines u (first_deco a) calm there in
      let node = made.reached.node in
      let text_end = rest_text (header_text style s.style.indent text) u (header_line style s.style.indent text s.style.indent_to) there in
      let deep : 0 < margins.lines = above_zero n stood.lines in
      let begun = end_start (first ds) r u (first_deco a) (body_texts margins.lines (final_feeds text - 1) (content_lines style text lines) deep f.texts) text_end.rest in
      let notes = notes_of s style text lines margins ds r q u a made there in
      let tail = tail_of s f margins ds r q u deep made notes in
      let later = tail.later in
      record {
        height = 0;
        place = node.place;
        meaning = node.meaning;
        at = apart_at refl (λ k cs sep. a_block_scalar stood.block (in_node (block_no_key c stood.block) sep) node.derived);
        low = omega arith;
        rest = node.rest;
        start = subst (λ j. LineStart t j) (place_of_rest begun.rest node.rest) begun.start;
        found_rows = leaf_row row.column q node.meaning.finish ∷ [];
        meant = bare_found s margins row.column s.style.indent q node.meaning placed_at f node.events node.escapes;
        placed = last_row (leaf_is_at node.meaning.finish (λ z. body_some margins.lines (final_feeds text - 1) (content_lines style text lines) f.last (sym body ∙ z)) key)
            (record {
              ascend = scalar_ascends node.derived;
              is = node.is;
              start = subst (λ j. LineStart t j) (place_of_rest begun.rest node.rest) begun.start;
              tail = after_scalar tail.first (λ z. body_some margins.lines (final_feeds text - 1) (content_lines style text lines) f.last (sym body ∙ z)) tail.is tail.trail tail.from tail.line tail.order (omega (arith, later))
                  (leaf_to later (omega arith) no_leaf_to) last_end tail.blank tail.broken tail.rest tail.ended tail.rows;
            }) node.rest;
        is = node.is ∙ sym (append-nil (carried_texts (first ds)));
        laid = subst (λ z. MeaningLaid q node.place node.meaning z) (scalar_steps row ds leaf) (laid_scalar q node.meaning.finish (omega arith) node.events (scalar_ascends node.derived) node.is);
        set = let found = bare_found {t = t} {at = at} s margins row.column s.style.indent q node.meaning placed_at f node.events node.escapes in
            subst (λ k. SetMeant t s.style margins.entries k (begins_below (scalar at no_props style text lines)) q node.meaning) stood.lines
            (set_block (block_lines style margins.lines text lines) (gap_then (first ds).gap r) found.alike found.events f.block deep (bare_scalar s.style.indent margins.lines u f made));
        held = held_scalar node.meaning row ds r margins.lines (block_lines style margins.lines text lines) body said_lines made.comments made.seen (bare_scalar s.style.indent margins.lines u f made);
      }
    where
      above_zero : (n : ℤ) {k : ℕ} → k ≡ base n + s.style.indent → 0 < k
      above_zero n e = let wide : 2 ≤ s.style.indent = s.style.indent_from in omega (arith, wide, e)

  props_made : {t : List ℕ} {p : PropsValue} (row : Row) (margins : Margins) (n : ℤ) (c : Ctx) (ds : List Deco) (r : List ℕ) (q : ℕ) → IsProps p → p ≢ no_props → row.text ≡ props_bytes p ++ (32 ∷ header_text style s.style.indent text)
      → row.body ≡ block_lines style margins.lines text lines → row.lines ≡ margins.lines → leaf_steps row.leaves ≡ a_leaf ∷ [] → is_some row.key_comment ≡ false → IsUtf8 t → Stood s (scalar at p style text lines) n c margins → AreDecos ds
      → CalmBody (block_lines style margins.lines text lines) margins.lines (tail_ending (is_kept_tail (final_feeds text))) (first ds).gap r
      → Rest t q (inline_then (row ∷ []) ds r) → NodeMade t s n c margins (scalar at p style text lines) (row ∷ []) ds q r
  props_made {t} {p} row margins n c ds r q props some said body said_lines leaf key u stood a calm w =
      let z : List ℕ = end_then (first ds) (block_lines style margins.lines text lines) r in
      let there : Rest t q (props_bytes p ++ (32 ∷ (header_text style s.style.indent text ++ z))) =
      subst (λ v. Rest t q v) (append_assoc (props_bytes p) (32 ∷ header_text style s.style.indent text) z)
      (subst (λ v. Rest t q ((props_bytes p ++ (32 ∷ header_text style s.style.indent text)) ++ end_then (first ds) v r)) body (subst (λ v. Rest t q (v ++ end_then (first ds) row.body r)) said w)) in
      let before = propertied (n +ℤ pos 1) c (header_text style s.style.indent text ++ z) u props some there in
      let i : ℕ = q + length (props_bytes p) + 1 in
      let made = scalar_at s.style.indent n margins.lines (first ds) r i f s.style.indent_from s.style.indent_to stood.lines u (first_deco a) calm before.rest in
      let node = made.reached.node in
      let text_end = rest_text (header_text style s.style.indent text) u (header_line style s.style.indent text s.style.indent_to) before.rest in
      let deep : 0 < margins.lines = above_zero n stood.lines in
      let begun = end_start (first ds) r u (first_deco a) (body_texts margins.lines (final_feeds text - 1) (content_lines style text lines) deep f.texts) text_end.rest in
      let notes = notes_of s style text lines margins ds r i u a made before.rest in
      let tail = tail_of s f margins ds r i u deep made notes in
      let later = tail.later in
      let from = tail.from in
      let o : Option ℕ = tag_offset_at q p.anchor p.tag in
      let g : ℕ = q + length (props_bytes p) in
      record {
        height = 0;
        place = node.place;
        meaning = with_props p o q g node.meaning;
        at = apart_at refl (λ k cs sep. subst (λ m. Derives t 0 (BlockNode n c) k node.place m) (both_after cs [] (with_props p o q g node.meaning) ∙ ap (λ m. meaning_after cs m) (after_nothing (with_props p o q g node.meaning)))
            (a_block_scalar_with stood.block (in_node (block_no_key c stood.block) sep) before.properties before.separate node.derived));
        low = omega arith;
        rest = node.rest;
        start = subst (λ j. LineStart t j) (place_of_rest begun.rest node.rest) begun.start;
        found_rows = leaf_row row.column q node.meaning.finish ∷ [];
        meant = props_found s margins row.column s.style.indent i q g p o node.meaning placed_at f node.events node.escapes;
        placed = subst (λ v. RowsIn t (row ∷ []) (leaf_row row.column q node.meaning.finish ∷ []) ds q v node.place r) (sym (comments_with_props p o q g node.meaning))
            (last_row (leaf_is_at node.meaning.finish (λ v. body_some margins.lines (final_feeds text - 1) (content_lines style text lines) f.last (sym body ∙ v)) key)
            (record {
              ascend = ascend_after (omega arith) (scalar_ascends node.derived);
              is = node.is;
              start = subst (λ j. LineStart t j) (place_of_rest begun.rest node.rest) begun.start;
              tail = after_scalar tail.first (λ v. body_some margins.lines (final_feeds text - 1) (content_lines style text lines) f.last (sym body ∙ v)) tail.is tail.trail (omega (arith, from)) tail.line tail.order (omega (arith, later))
                  (leaf_to (omega (arith, later)) (omega arith) no_leaf_to) last_end tail.blank tail.broken tail.rest tail.ended tail.rows;
            }) node.rest);
        is = texts_with_props p o q g node.meaning ∙ (node.is ∙ sym (append-nil (carried_texts (first ds))));
        laid = subst (λ z. MeaningLaid q node.place (with_props p o q g node.meaning) z) (scalar_steps row ds leaf)
            (laid_scalar_with p o q g i node.meaning.finish node.meaning (omega arith) node.events (scalar_ascends node.derived) node.is);
        set = let found = props_found {t = t} {at = at} s margins row.column s.style.indent i q g p o node.meaning placed_at f node.events node.escapes in
            subst (λ k. SetMeant t s.style margins.entries k (begins_below (scalar at p style text lines)) q (with_props p o q g node.meaning)) stood.lines
            (set_block (block_lines style margins.lines text lines) (gap_then (first ds).gap r) found.alike found.events f.block deep (props_scalar s.style.indent margins.lines u f made q g p o (n +ℤ pos 1) c before.properties before.separate));
        held = held_scalar (with_props p o q g node.meaning) row ds r margins.lines (block_lines style margins.lines text lines) body said_lines (props_set t p o q g node.meaning made.comments) made.seen
            (props_scalar s.style.indent margins.lines u f made q g p o (n +ℤ pos 1) c before.properties before.separate);
      }
    where
      above_zero : (n : ℤ) {k : ℕ} → k ≡ base n + s.style.indent → 0 < k
      above_zero n e = let wide : 2 ≤ s.style.indent = s.style.indent_from in omega (arith, wide, e)

  block_claim : {p : PropsValue} (margins : Margins) → FitProps p → Claim s (scalar at p style text lines) margins (block_scalar s.style margins (scalar at p style text lines) p style text lines)
  block_claim margins no_fit_props =
      some_rows (λ z. refl) (λ z. absurd (true≢false (sym z))) (record { made = λ {t} n c ds r q u stood a calm w. bare_made _ margins n c ds r q refl refl refl (one_leaf at.span placed_at) refl u stood a calm.0 w })
  block_claim margins (some_fit_props {p = p} k n) =
      some_rows (λ z. refl) (λ z. absurd (true≢false (sym z))) (record {
        made = λ {t} m c ds r q u stood a calm w.
            props_made _ margins m c ds r q k n (header_with style s.style.indent text k n) refl refl (one_leaf at.span placed_at) refl u stood a calm.0 w;
      })

-- its rows, by its style
pub scalar_rows_are : (c : LayoutSetting) (margins : Margins) (at : NodeOffsets) (p : PropsValue) (text : List ℕ) (lines : List (List ℕ)) (style : ScalarStyle) → is_block_style style ≡ true
    → rows c margins (scalar at p style text lines) ≡ block_scalar c.style margins (scalar at p style text lines) p style text lines
scalar_rows_are c margins at p text lines Plain e = absurd (true≢false (sym e))
scalar_rows_are c margins at p text lines Single e = absurd (true≢false (sym e))
scalar_rows_are c margins at p text lines Double e = absurd (true≢false (sym e))
scalar_rows_are c margins at p text lines Literal e = refl
scalar_rows_are c margins at p text lines Folded e = refl

pub scalar_claim : (c : LayoutSetting) (margins : Margins) {at : NodeOffsets} {p : PropsValue} {style : ScalarStyle} {text : List ℕ} {lines : List (List ℕ)} → is_some at.span ≡ true → FitProps p → FitScalar style text lines
    → Claim c (scalar at p style text lines) margins (rows c margins (scalar at p style text lines))
scalar_claim c margins {at} {p} {style} {text} {lines} e k f =
    subst (λ rs. Claim c (scalar at p style text lines) margins rs) (sym (scalar_rows_are c margins at p text lines style f.block)) (block_claim e f margins k)
