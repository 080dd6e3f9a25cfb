-- The rows of a stream are texts that are not document markers, and the markers of documents, which nothing trails; so
-- no other line of a layout is a marker.
use Rattle.std.proofs.Common.{◌≡◌, ℕ, ◌≤◌, ◌⊎◌, inl, inr, Bool, true, false, List, [], ◌∷◌, ◌++◌, get_or, map, replicate, None, refl, sym, ap, ◌∙◌, subst, arith, append-nil}
use Rattle.std.specs.Prelude.{option_to_list, flat_map}
use Rattle.yf_comments.specs.Comment.{CommentValue}
use Rattle.yf_comments.specs.GapLines.{GapLine, blank, remark, AreGapLines}
use Rattle.yf_events.specs.declared.directive.Directive.{Directive}
use Rattle.yf_events.specs.declared.document.Doc.{Doc}
use Rattle.yf_events.specs.Tree.{DocumentTree}
use Rattle.yf_laws.specs.Layouts.RowComments.{AreDecos}
use Rattle.yf_laws.specs.Layouts.Decorated.{Deco, first, comments_left, decos_of}
use Rattle.yf_laws.specs.Layouts.FitDocuments.{FitDirectives, fit_no_directives, fit_directive, FitDocuments, fit_no_documents, fit_document}
use Rattle.yf_laws.specs.Layouts.ReadableTrees.{IsNoMarker}
use Rattle.yf_laws.specs.Layouts.Layout.{Source, trailing, trailing_leaf, first_comment}
use Rattle.yf_forms.specs.Nodes.Lines.{trimmed}
use Rattle.yf_forms.specs.NormalForms.Normal.{LayoutSetting, root_margins}
use Rattle.yf_print.specs.Layouts.Rows.{Row, at_document_start, directive_row, end_rows, beginning_at, begun_at, start_row, all_rows, stream_rows}
use Rattle.yf_laws.proofs.Derived.ClearRows.{AreBodyTexts, no_body_text, body_text, AreRowTexts, no_row_text, row_text, IsRowText, remark_unmarked, trails_bytes, trails_unmarked, unmarked_first, unmarked_indented, unmarked_nothing}
use Rattle.yf_laws.proofs.OutputLines.LaidLines.{gap_lines, laid_lines, own_line, row_lines}
use Rattle.yf_laws.proofs.Derived.RowEnds.{first_deco, after_decos}
use Rattle.yf_laws.proofs.Derived.RowTexts.{row_texts}
use Rattle.yf_laws.proofs.OutputLines.SeenTexts.{seen_ascii}
use Rattle.yf_print.specs.Layouts.KeptColumns.{Columns}
use Rattle.yf_lines.proofs.VisibleLines.{visible_line}

-- Rows.

abbrev pub dashes : List ℕ
dashes = 45 ∷ 45 ∷ 45 ∷ []

abbrev pub dots : List ℕ
dots = 46 ∷ 46 ∷ 46 ∷ []

-- the row of a document marker
pub record IsMarkerRow (x : Row) : Type 0 where
  pub column : x.column ≡ 0
  pub text : (x.text ≡ dashes) ⊎ (x.text ≡ dots)
  pub leaves : x.leaves ≡ []
  pub key : x.key_comment ≡ None
  pub body : x.body ≡ []
  pub starts : x.text ≡ dashes → x.ending ≡ at_document_start
  pub unspaced : x.blank_before ≡ false

pub data KindRow (x : Row) : Type 0 where
  a_text : IsRowText x → KindRow x
  a_marker : IsMarkerRow x → KindRow x

pub data KindRows : List Row → Type 0 where
  no_kind : KindRows []
  kind_more : {x : Row} {xs : List Row} → KindRow x → KindRows xs → KindRows (x ∷ xs)

kinds_append : {xs ys : List Row} → KindRows xs → KindRows ys → KindRows (xs ++ ys)
kinds_append no_kind b = b
kinds_append (kind_more a more) b = kind_more a (kinds_append more b)

text_kinds : {xs : List Row} → AreRowTexts xs → KindRows xs
text_kinds no_row_text = no_kind
text_kinds (row_text a more) = kind_more (a_text a) (text_kinds more)

begun : {x : Row} (start : ℕ) → KindRow x → KindRow (record x { items = start ∷ x.items })
begun start (a_text a) = a_text (record { text = a.text; unmarked = a.unmarked; seen = a.seen; body = a.body })
begun start (a_marker a) = a_marker (record { column = a.column; text = a.text; leaves = a.leaves; key = a.key; body = a.body; starts = a.starts; unspaced = a.unspaced })

beginning_kinds : {xs : List Row} (start : ℕ) → KindRows xs → KindRows (beginning_at start xs)
beginning_kinds start no_kind = no_kind
beginning_kinds start (kind_more a more) = kind_more (begun start a) more

dots_no_dashes : dots ≡ dashes → ⊥
dots_no_dashes e = let f : 46 ≡ 45 = ap (λ w. get_or w 0 0) e in omega (arith, f)

end_kinds : (b : Bool) (dirs : List Directive) → KindRows (end_rows b dirs)
end_kinds true dirs = no_kind
end_kinds false [] = no_kind
end_kinds false (d ∷ ds) = kind_more (a_marker (record { column = refl; text = inr refl; leaves = refl; key = refl; body = refl; starts = λ e. absurd (dots_no_dashes e); unspaced = refl })) no_kind

directive_kinds : {dirs : List Directive} → FitDirectives dirs → KindRows (map directive_row dirs)
directive_kinds fit_no_directives = no_kind
directive_kinds (fit_directive f fs) =
    kind_more (a_text (record {
      text = visible_line 37 (omega arith) (omega arith) f.line;
      unmarked = unmarked_first 37 _ (omega arith) (λ e. omega arith) (λ e. omega arith) (λ e. omega arith);
      seen = seen_ascii 37 _ (omega arith) (omega arith) (λ e. omega arith);
      body = no_body_text;
    })) (directive_kinds fs)

start_kind : KindRow start_row
start_kind = a_marker (record { column = refl; text = inl refl; leaves = refl; key = refl; body = refl; starts = λ e. refl; unspaced = refl })

pub stream_kinds : (c : LayoutSetting) {ds : List Doc} {xs : List DocumentTree} (b : Bool) → FitDocuments c.style ds xs → KindRows (stream_rows c b ds xs)
stream_kinds c b fit_no_documents = no_kind
stream_kinds c b (fit_document {d = d} {x = x} f fit more) =
    let wide : 2 ≤ c.style.indent = c.style.indent_from in
    kinds_append (kinds_append (beginning_kinds d.start (kinds_append (end_kinds b d.directives) (kinds_append (directive_kinds f) (kind_more start_kind no_kind))))
    (text_kinds (row_texts c (root_margins c.style) (omega (arith, wide)) fit))) (stream_kinds c false more)

begun_kinds : {xs : List Row} (start : ℕ) → KindRows xs → KindRows (begun_at start xs)
begun_kinds start no_kind = no_kind
begun_kinds start (kind_more (a_text a) more) = kind_more (a_text (record { text = a.text; unmarked = a.unmarked; seen = a.seen; body = a.body })) more
begun_kinds start (kind_more (a_marker a) more) =
    kind_more (a_marker (record { column = a.column; text = a.text; leaves = a.leaves; key = a.key; body = a.body; starts = a.starts; unspaced = a.unspaced })) more

pub all_kinds : (c : LayoutSetting) (bare : Bool) {ds : List Doc} {xs : List DocumentTree} → FitDocuments c.style ds xs → KindRows (all_rows c bare ds xs)
all_kinds c false fit = stream_kinds c true fit
all_kinds c true fit_no_documents = no_kind
all_kinds c true (fit_document {d = d} {x = x} f fit more) =
    let wide : 2 ≤ c.style.indent = c.style.indent_from in
    kinds_append (begun_kinds d.start (text_kinds (row_texts c (root_margins c.style) (omega (arith, wide)) fit))) (stream_kinds c false more)

-- Lines.

pub data LineKind : List ℕ → Type 0 where
  no_marker : {x : List ℕ} → IsNoMarker x → LineKind x
  document_start : LineKind dashes
  document_end : LineKind dots

pub data LineKinds : List (List ℕ) → Type 0 where
  no_line : LineKinds []
  line_more : {x : List ℕ} {xs : List (List ℕ)} → LineKind x → LineKinds xs → LineKinds (x ∷ xs)

lines_append : {xs ys : List (List ℕ)} → LineKinds xs → LineKinds ys → LineKinds (xs ++ ys)
lines_append no_line b = b
lines_append (line_more a more) b = line_more a (lines_append more b)

gap_kinds : (gap : List GapLine) → AreGapLines gap → LineKinds (gap_lines gap)
gap_kinds [] a = no_line
gap_kinds (blank ∷ gs) a = line_more (no_marker unmarked_nothing) (gap_kinds gs a)
gap_kinds (remark column text ∷ gs) a = line_more (no_marker (unmarked_indented column (remark_unmarked a.0))) (gap_kinds gs a.1)

body_kinds : {xs : List (List ℕ)} → AreBodyTexts xs → LineKinds xs
body_kinds no_body_text = no_line
body_kinds (body_text a n more) = line_more (no_marker n) (body_kinds more)

-- nothing trails a marker
untrailed : (c : Source) (x : Row) → x.leaves ≡ [] → x.key_comment ≡ None → map (λ (d : CommentValue). trimmed d.text) (trailing c x) ≡ []
untrailed c x e f =
    ap (λ w. map (λ (d : CommentValue). trimmed d.text) (option_to_list w ++ flat_map (λ leaf. trailing_leaf c leaf (first_comment c leaf)) x.leaves)) f
    ∙ ap (λ w. map (λ (d : CommentValue). trimmed d.text) (flat_map (λ leaf. trailing_leaf c leaf (first_comment c leaf)) w)) e

own_kind : {x : Row} (d : Deco) → KindRow x → (x.leaves ≡ [] → x.key_comment ≡ None → d.trails ≡ []) → LineKind (own_line x d)
own_kind {x} d (a_text a) n = no_marker (unmarked_indented x.column (trails_unmarked d.trails a.unmarked))
own_kind {x} d (a_marker a) n =
    let bare : own_line x d ≡ x.text =
    ap (λ k. replicate k 32 ++ (x.text ++ trails_bytes d.trails)) a.column ∙ (ap (λ w. x.text ++ trails_bytes w) (n a.leaves a.key) ∙ append-nil x.text) in
    by bare a.text where
      by : {w : List ℕ} → w ≡ x.text → (x.text ≡ dashes) ⊎ (x.text ≡ dots) → LineKind w
      by e (inl f) = subst (λ w. LineKind w) (sym (e ∙ f)) document_start
      by e (inr f) = subst (λ w. LineKind w) (sym (e ∙ f)) document_end

body_of : {x : Row} → KindRow x → LineKinds x.body
body_of (a_text a) = body_kinds a.body
body_of (a_marker a) = subst (λ w. LineKinds w) (sym a.body) no_line

row_kinds : {xs : List Row} (g : Columns) (c : Source) (cs : List CommentValue) → KindRows xs → AreDecos (decos_of g c cs xs) → LineKinds (row_lines xs (decos_of g c cs xs))
row_kinds g c cs no_kind k = no_line
row_kinds g c cs (kind_more {x = x} {xs = xs} a more) k =
    line_more (own_kind (first (decos_of g c cs (x ∷ xs))) a (untrailed c x))
    (lines_append (body_of a) (lines_append (gap_kinds (first (decos_of g c cs (x ∷ xs))).gap (first_deco k).gap) (row_kinds g c (comments_left x cs) more (after_decos k))))

-- of a layout
pub laid_kinds : {xs : List Row} (g : Columns) (gap : List GapLine) (c : Source) (cs : List CommentValue) → AreGapLines gap → KindRows xs → AreDecos (decos_of g c cs xs)
    → LineKinds (laid_lines gap xs (decos_of g c cs xs))
laid_kinds g gap c cs b a k = lines_append (gap_kinds gap b) (row_kinds g c cs a k)
