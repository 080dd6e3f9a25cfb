-- The bytes of rows of texts within lines, with what they carry, are UTF-8.
use Rattle.std.proofs.Common.{◌≡◌, ℕ, ◌<◌, ◌≤◌, Bool, true, false, List, [], ◌∷◌, ◌++◌, map, replicate, sym, ap, ◌∙◌, subst, arith, append_assoc}
use Rattle.std.specs.Str.{IsUtf8}
use Rattle.std.proofs.lemmas.Str.{IsUtf8-append, IsUtf8-nil}
use Rattle.yf_lines.specs.LineText.{IsLineText}
use Rattle.yf_lines.proofs.RestLemmas.{line_nothing, line_append}
use Rattle.yf_comments.specs.GapLines.{AreGapLines}
use Rattle.yf_events.specs.declared.directive.Directive.{Directive}
use Rattle.yf_events.specs.declared.document.Doc.{Doc}
use Rattle.yf_events.specs.Tree.{DocumentTree}
use Rattle.yf_laws.specs.Layouts.RowComments.{IsDeco, AreDecos}
use Rattle.yf_laws.specs.Layouts.Decorated.{GapLine, blank, remark, gap_then, Deco, first, after, trails_then, body_then, end_then, lines_then}
use Rattle.yf_laws.specs.Layouts.FitDocuments.{FitDirectives, fit_no_directives, fit_directive, FitDocuments, fit_no_documents, fit_document}
use Rattle.yf_forms.specs.NormalForms.Normal.{LayoutSetting, root_margins}
use Rattle.yf_print.specs.Layouts.Rows.{Row, directive_row, end_rows, beginning_at, begun_at, all_rows, stream_rows}
use Rattle.yf_laws.proofs.Derived.ClearRows.{line_indented, remark_line, trails_bytes, trails_are, trails_line, AreBodyTexts, no_body_text, body_text, AreRowTexts, no_row_text, row_text}
use Rattle.yf_laws.proofs.Texts.LineUtf8.{line_utf8, feed_utf8}
use Rattle.yf_laws.proofs.Derived.RowEnds.{first_deco, after_decos}
use Rattle.yf_laws.proofs.Derived.RowTexts.{row_texts}
use Rattle.yf_laws.proofs.OutputLines.SeenTexts.{IsSeen, seen_ascii}
use Rattle.yf_lines.proofs.VisibleLines.{visible_line}

ended_utf8 : {w z : List ℕ} → IsLineText w → IsUtf8 z → IsUtf8 (w ++ (10 ∷ z))
ended_utf8 {w} {z} a u = IsUtf8-append w (10 ∷ z) (line_utf8 a) (feed_utf8 u)

gap_utf8 : (gap : List GapLine) (r : List ℕ) → AreGapLines gap → IsUtf8 r → IsUtf8 (gap_then gap r)
gap_utf8 [] r a u = u
gap_utf8 (blank ∷ gs) r a u = feed_utf8 (gap_utf8 gs r a u)
gap_utf8 (remark column text ∷ gs) r a u =
    subst (λ w. IsUtf8 w) (append_assoc (replicate column 32) text (10 ∷ gap_then gs r)) (ended_utf8 (line_indented column (remark_line a.0)) (gap_utf8 gs r a.1 u))

-- rows with their lines, each with a text that begins visibly
pub data AreLines : List (List ℕ) → Type 0 where
  no_line : AreLines []
  line_more : {x : List ℕ} {xs : List (List ℕ)} → IsLineText x → AreLines xs → AreLines (x ∷ xs)

pub data RowLines : List Row → Type 0 where
  no_rows : RowLines []
  row_more : {x : Row} {xs : List Row} → IsLineText x.text → IsSeen x.text → AreLines x.body → RowLines xs → RowLines (x ∷ xs)

pub body_lines : {xs : List (List ℕ)} → AreBodyTexts xs → AreLines xs
body_lines no_body_text = no_line
body_lines (body_text a n more) = line_more a (body_lines more)

text_lines : {xs : List Row} → AreRowTexts xs → RowLines xs
text_lines no_row_text = no_rows
text_lines (row_text a more) = row_more a.text a.seen (body_lines a.body) (text_lines more)

both_lines : {xs ys : List Row} → RowLines xs → RowLines ys → RowLines (xs ++ ys)
both_lines no_rows b = b
both_lines (row_more a s k more) b = row_more a s k (both_lines more b)

body_utf8 : {xs : List (List ℕ)} (r : List ℕ) → AreLines xs → IsUtf8 r → IsUtf8 (body_then xs r)
body_utf8 r no_line u = u
body_utf8 r (line_more a more) u = ended_utf8 a (body_utf8 r more u)

row_utf8 : (x : Row) (d : Deco) (r : List ℕ) → IsLineText x.text → AreLines x.body → IsDeco d → IsUtf8 r → IsUtf8 (replicate x.column 32 ++ (x.text ++ end_then d x.body r))
row_utf8 x d r a b k u =
    let z : List ℕ = body_then x.body (gap_then d.gap r) in
    let line : replicate x.column 32 ++ (x.text ++ trails_then d.trails (10 ∷ z)) ≡ (replicate x.column 32 ++ (x.text ++ trails_bytes d.trails)) ++ (10 ∷ z) =
    ap (λ v. replicate x.column 32 ++ (x.text ++ v)) (trails_are d.trails (10 ∷ z)) ∙ (ap (λ v. replicate x.column 32 ++ v) (sym (append_assoc x.text (trails_bytes d.trails) (10 ∷ z)))
    ∙ sym (append_assoc (replicate x.column 32) (x.text ++ trails_bytes d.trails) (10 ∷ z))) in
    subst (λ w. IsUtf8 w) (sym line) (ended_utf8 (line_indented x.column (line_append a (trails_line d.trails k.trails))) (body_utf8 (gap_then d.gap r) b (gap_utf8 d.gap r k.gap u)))

rows_utf8 : {rs : List Row} (ds : List Deco) (r : List ℕ) → RowLines rs → AreDecos ds → IsUtf8 r → IsUtf8 (lines_then rs ds r)
rows_utf8 ds r no_rows k u = u
rows_utf8 ds r (row_more {x = x} {xs = xs} a s b more) k u = row_utf8 x (first ds) (lines_then xs (after ds) r) a b (first_deco k) (rows_utf8 (after ds) r more (after_decos k) u)

-- The rows of a stream.

three_line : (c : ℕ) → 32 ≤ c → c < 127 → IsLineText (c ∷ c ∷ c ∷ [])
three_line c l h = visible_line c l h (visible_line c l h (visible_line c l h line_nothing))

three_seen : (c : ℕ) → 36 ≤ c → c < 127 → IsSeen (c ∷ c ∷ c ∷ [])
three_seen c l h = seen_ascii c (c ∷ c ∷ []) (omega arith) h (λ e. omega arith)

start_lines : (start : ℕ) {rs : List Row} → RowLines rs → RowLines (beginning_at start rs)
start_lines start no_rows = no_rows
start_lines start (row_more a s k more) = row_more a s k more

end_lines : (b : Bool) (dirs : List Directive) → RowLines (end_rows b dirs)
end_lines true dirs = no_rows
end_lines false [] = no_rows
end_lines false (d ∷ ds) = row_more (three_line 46 (omega arith) (omega arith)) (three_seen 46 (omega arith) (omega arith)) no_line no_rows

directive_lines : {dirs : List Directive} → FitDirectives dirs → RowLines (map directive_row dirs)
directive_lines fit_no_directives = no_rows
directive_lines (fit_directive f fs) = row_more (visible_line 37 (omega arith) (omega arith) f.line) (seen_ascii 37 _ (omega arith) (omega arith) (λ e. omega arith)) no_line (directive_lines fs)

pub stream_lines : (c : LayoutSetting) {ds : List Doc} {xs : List DocumentTree} (b : Bool) → FitDocuments c.style ds xs → RowLines (stream_rows c b ds xs)
stream_lines c b fit_no_documents = no_rows
stream_lines c b (fit_document {d = d} {x = x} f fit more) =
    let wide : 2 ≤ c.style.indent = c.style.indent_from in
    both_lines (both_lines (start_lines d.start (both_lines (end_lines b d.directives) (both_lines (directive_lines f) (row_more (three_line 45 (omega arith) (omega arith)) (three_seen 45 (omega arith) (omega arith)) no_line no_rows))))
    (text_lines (row_texts c (root_margins c.style) (omega (arith, wide)) fit))) (stream_lines c false more)

begun_lines : (start : ℕ) {rs : List Row} → RowLines rs → RowLines (begun_at start rs)
begun_lines start no_rows = no_rows
begun_lines start (row_more a s k more) = row_more a s k more

pub all_lines : (c : LayoutSetting) (bare : Bool) {ds : List Doc} {xs : List DocumentTree} → FitDocuments c.style ds xs → RowLines (all_rows c bare ds xs)
all_lines c false fit = stream_lines c true fit
all_lines c true fit_no_documents = no_rows
all_lines c true (fit_document {d = d} {x = x} f fit more) =
    let wide : 2 ≤ c.style.indent = c.style.indent_from in
    both_lines (begun_lines d.start (text_lines (row_texts c (root_margins c.style) (omega (arith, wide)) fit))) (stream_lines c false more)

-- so the layout of such documents is UTF-8
pub layout_utf8 : (c : LayoutSetting) (bare : Bool) {ds : List Doc} {xs : List DocumentTree} (gap : List GapLine) (decos : List Deco) → FitDocuments c.style ds xs → AreGapLines gap → AreDecos decos
    → IsUtf8 (gap_then gap (lines_then (all_rows c bare ds xs) decos []))
layout_utf8 c bare {ds} {xs} gap decos fit g k = gap_utf8 gap (lines_then (all_rows c bare ds xs) decos []) g (rows_utf8 decos [] (all_lines c bare fit) k IsUtf8-nil)
