-- A formatted text is empty if and only if the text has neither a document nor a comment.
use Rattle.std.proofs.Common.{◌≡◌, ℕ, Bool, true, false, List, [], ◌∷◌, ◌++◌, length, length-append, map, flat_map, replicate, refl, sym, ap, ◌∙◌, arith}
use Rattle.std.specs.Prelude.{filter, not}
use Rattle.yf_comments.specs.Comment.{CommentValue}
use Rattle.yf_events.specs.Tree.{DocumentTree}
use Rattle.yf_events.specs.declared.directive.Directive.{Directive}
use Rattle.yf_events.specs.declared.document.Doc.{Doc}
use Rattle.yf_events.specs.declared.lists.Lists.{Lists}
use Rattle.yf_stream.proofs.LawsHold.{readings_are_one}
use Rattle.yf_forms.specs.declared.style.Style.{Style}
use Rattle.yf_laws.specs.Preservation.CommentsPlaced.{rows_in, source_in, columns_in}
use Rattle.yf_laws.specs.Preservation.EmptyTexts.{IsEmptyAlike}
use Rattle.yf_laws.specs.Format.{IsFormatting}
use Rattle.yf_laws.specs.Layouts.Layout.{Line, Source, blank_line, bytes_after, comment_line, is_among, line_bytes, lines_of, lines_with_comments, own_line_comments, precedes_item, row_line, source_of}
use Rattle.yf_forms.specs.Nodes.Lines.{ended}
use Rattle.yf_forms.specs.NormalForms.Normal.{LayoutSetting, root_margins, setting_of}
use Rattle.yf_print.specs.Layouts.Rows.{Ending, Row, at_text_start, beginning_at, directive_row, end_rows, rows, start_row, stream_rows, all_rows, begun_at}
use Rattle.yf_laws.proofs.Keeps.KeyDecides.{as_many_notes}
use Rattle.yf_laws.proofs.Derived.BareFound.{rows_some}
use Rattle.yf_forms.specs.NormalForms.BareStart.{is_bare}
use Rattle.yf_laws.specs.Layouts.FitDocuments.{FitDocuments, fit_document, FitsBare, fits_bare, fit_no_documents}
use Rattle.yf_laws.proofs.Derived.FormatsRead.{formats_bare, formats_fit}
use Rattle.yf_laws.proofs.Trails.TrailOthers.{firsts}
use Rattle.std.specs.Str.{IsUtf8}
use Rattle.yf_print.specs.Layouts.KeptColumns.{Columns}

-- Lines have bytes, and documents have rows.

no_lines : (e : Ending) (ls : List Line) → bytes_after e ls ≡ [] → ls ≡ []
no_lines e [] f = refl
no_lines e (l ∷ ls) f =
    let none : length (blank_line e l ++ (line_bytes l ++ bytes_after l.ending ls)) ≡ 0 = ap length f in
    absurd (omega (
      arith,
      none,
      length-append (blank_line e l) (line_bytes l ++ bytes_after l.ending ls),
      length-append (line_bytes l) (bytes_after l.ending ls),
      length-append (replicate l.column 32) (ended l.text ++ flat_map ended l.body),
      length-append (ended l.text) (flat_map ended l.body),
      length-append l.text (10 ∷ []),
    ))

joined_none : {X : Type 0} (xs : List X) (y : X) (ys : List X) → xs ++ (y ∷ ys) ≡ [] → ⊥
joined_none [] y ys e = cc
joined_none (x ∷ xs) y ys e = cc

rows_none : (g : Columns) (c : Source) (own : List CommentValue) (rows : List Row) → lines_of g c own rows ≡ [] → (rows ≡ []) × (own ≡ [])
rows_none g c [] [] e = (refl, refl)
rows_none g c (d ∷ own) [] e = absurd cc
rows_none g c own (x ∷ xs) e =
    absurd (joined_none (map (comment_line g x.column) (filter (precedes_item x) own)) (row_line c x) (lines_of g c (filter (λ d. not (precedes_item x d)) own) xs) e)

begun_some : (start : ℕ) (ds : List Directive) → beginning_at start (end_rows true ds ++ (map directive_row ds ++ (start_row ∷ []))) ≡ [] → ⊥
begun_some start [] e = cc
begun_some start (d ∷ ds) e = cc

first_none : (a b more : List Row) → (a ++ b) ++ more ≡ [] → a ≡ []
first_none [] b more e = refl
first_none (x ∷ a) b more e = absurd cc

documents_none : (c : LayoutSetting) (ds : List Doc) (trees : List DocumentTree) → length ds ≡ length trees → stream_rows c true ds trees ≡ [] → ds ≡ []
documents_none c [] trees l e = refl
documents_none c (d ∷ ds) [] l e = absurd (omega (arith, l))
documents_none c (d ∷ ds) (x ∷ xs) l e =
    absurd (begun_some d.start d.directives
    (first_none (beginning_at d.start (end_rows true d.directives ++ (map directive_row d.directives ++ (start_row ∷ [])))) (rows c (root_margins c.style) x.root) (stream_rows c false ds xs) e))

fit_count : (house : Style) {ds : List Doc} {xs : List DocumentTree} → FitDocuments house ds xs → length ds ≡ length xs
fit_count house fit_no_documents = refl
fit_count house (fit_document f fit more) = let n = fit_count house more in omega (arith, n)

all_none : (c : LayoutSetting) (bare : Bool) (ds : List Doc) (trees : List DocumentTree) → FitDocuments c.style ds trees → FitsBare bare ds trees → all_rows c bare ds trees ≡ [] → ds ≡ []
all_none c false ds trees fit fits e = documents_none c ds trees (fit_count c.style fit) e
all_none c true [] trees fit fits e = elim fits [ ]
all_none c true (d ∷ ds) [] fit fits e = elim fit [ ]
all_none c true (d ∷ ds) (x ∷ xs) (fit_document f fit more) (fits_bare none some) e = absurd (bare_none (rows c (root_margins c.style) x.root) e (rows_some c fit some)) where
  bare_none : (rs : List Row) → begun_at d.start rs ++ stream_rows c false ds xs ≡ [] → (rs ≡ [] → ⊥) → ⊥
  bare_none [] e n = n refl
  bare_none (r ∷ rs) e n = cc

nothing_laid : (c : LayoutSetting) (bare : Bool) (trees : List DocumentTree) → all_rows c bare [] trees ≡ []
nothing_laid c true trees = refl
nothing_laid c false trees = refl

-- Comments without a row.

all_own : (cs : List CommentValue) → filter (λ d. not (is_among [] d)) cs ≡ cs
all_own [] = refl
all_own (c ∷ cs) = ap (λ z. c ∷ z) (all_own cs)

own_alone : {t u : List ℕ} {s : Style} (f : IsFormatting t s u) → own_line_comments (source_of f.normal []) [] ≡ f.normal.comments
own_alone f = ap (filter (λ d. not (is_among [] d))) (firsts f.normal.comments f.normal.on_leaf_line (as_many_notes f)) ∙ all_own f.normal.comments

-- The law.

pub empty_alike : (t u : List ℕ) (s : Style) → IsUtf8 t → IsFormatting t s u → IsEmptyAlike t u
empty_alike t u s utf8 f = record {
  of_nothing = λ r a none alone.
      let m : Lists = f.normal in
      let same : m.documents ≡ r.documents = ap (λ (w : Lists). w.documents) f.is_normal.is ∙ ap (λ (w : Lists). w.documents) (sym (readings_are_one t f.reading r f.reads a)) in
      let comments : m.comments ≡ r.comments = ap (λ (w : Lists). w.comments) f.is_normal.is ∙ ap (λ (w : Lists). w.comments) (sym (readings_are_one t f.reading r f.reads a)) in
      let bare : rows_in f ≡ [] = ap (λ ds. all_rows (setting_of m s) (is_bare m s) ds f.writes.trees) (same ∙ none) ∙ nothing_laid (setting_of m s) (is_bare m s) f.writes.trees in
      f.writes.is ∙ (ap (λ xs. bytes_after at_text_start (lines_with_comments (columns_in f) m xs)) bare ∙ ap (λ cs. bytes_after at_text_start (lines_of (columns_in f) (source_of m []) cs [])) (own_alone f ∙ (comments ∙ alone)));
  of_none_else = λ r a none.
      let m : Lists = f.normal in
      let same : r.documents ≡ m.documents = ap (λ (w : Lists). w.documents) (readings_are_one t f.reading r f.reads a) ∙ sym (ap (λ (w : Lists). w.documents) f.is_normal.is) in
      let comments : r.comments ≡ m.comments = ap (λ (w : Lists). w.comments) (readings_are_one t f.reading r f.reads a) ∙ sym (ap (λ (w : Lists). w.comments) f.is_normal.is) in
      let lines : lines_with_comments (columns_in f) m (rows_in f) ≡ [] = no_lines at_text_start (lines_with_comments (columns_in f) m (rows_in f)) (sym f.writes.is ∙ none) in
      let both = rows_none (columns_in f) (source_in f) (own_line_comments (source_in f) (rows_in f)) (rows_in f) lines in
      let bare : rows_in f ≡ [] = both.0 in (
        same ∙ all_none (setting_of m s) (is_bare m s) m.documents f.writes.trees (formats_fit utf8 f) (formats_bare utf8 f) bare,
        comments ∙ (sym (own_alone f) ∙ (sym (ap (λ xs. own_line_comments (source_of m xs) xs) bare) ∙ both.1)),
      );
}
