-- Rows of the same shapes, with the same after each, have the same layout; and the rows of documents that are found in
-- a layout have the shapes of those that were laid out.
use Rattle.std.proofs.Common.{◌≡◌, ℕ, Bool, true, false, List, [], ◌∷◌, ◌++◌, map, replicate, refl, sym, ap, ◌∙◌}
use Rattle.yf_comments.specs.Comment.{CommentValue}
use Rattle.yf_events.specs.Tree.{DocumentTree}
use Rattle.yf_events.specs.declared.directive.Directive.{Directive}
use Rattle.yf_events.specs.declared.document.Doc.{Doc}
use Rattle.yf_forms.specs.declared.style.Style.{Style}
use Rattle.yf_laws.specs.Layouts.Decorated.{Deco, first, after, end_then, lines_then}
use Rattle.yf_laws.specs.Preservation.FoundTrees.{FoundTrees, none_found, one_found, words_of}
use Rattle.yf_laws.specs.Preservation.LayoutKey.{SameDocuments, no_documents, same_document}
use Rattle.yf_forms.specs.NormalForms.Normal.{root_margins}
use Rattle.yf_laws.specs.Layouts.RowShapes.{RowShape, shape_of}
use Rattle.yf_print.specs.Layouts.Rows.{Row, all_rows, bare_rows, beginning_at, begun_at, directive_row, document_rows, end_rows, joined_words, plain_row, rows, start_row, stream_rows}
use Rattle.yf_laws.proofs.SecondRun.AlikeLemmas.{both_shapes, setting, shapes}
use Rattle.yf_laws.proofs.SecondRun.FixedBlocks.{same_block_rows}

shapes_then : List RowShape → List Deco → List ℕ → List ℕ
shapes_then [] ds r = r
shapes_then (x ∷ xs) ds r = replicate x.column 32 ++ (x.text ++ end_then (first ds) x.body (shapes_then xs (after ds) r))

by_shapes : (xs : List Row) (ds : List Deco) (r : List ℕ) → lines_then xs ds r ≡ shapes_then (shapes xs) ds r
unfolding shapes_then
by_shapes [] ds r = refl
by_shapes (x ∷ xs) ds r = ap (λ z. replicate x.column 32 ++ (x.text ++ end_then (first ds) x.body z)) (by_shapes xs (after ds) r)

pub same_lines : (xs ys : List Row) (ds : List Deco) (r : List ℕ) → shapes xs ≡ shapes ys → lines_then xs ds r ≡ lines_then ys ds r
same_lines xs ys ds r e = by_shapes xs ds r ∙ (ap (λ z. shapes_then z ds r) e ∙ sym (by_shapes ys ds r))

-- Documents.

abbrev words_row : List (List ℕ) → RowShape
words_row w = shape_of (plain_row 0 (37 ∷ joined_words w))

directive_shapes : (ds : List Directive) → shapes (map directive_row ds) ≡ map words_row (words_of ds)
directive_shapes [] = refl
directive_shapes (d ∷ ds) = ap (λ z. words_row d.words ∷ z) (directive_shapes ds)

abbrev end_shapes : Bool → List (List (List ℕ)) → List RowShape
end_shapes true ws = []
end_shapes false [] = []
end_shapes false (w ∷ ws) = shape_of (plain_row 0 (46 ∷ 46 ∷ 46 ∷ [])) ∷ []

ends_shaped : (is_first : Bool) (ds : List Directive) → shapes (end_rows is_first ds) ≡ end_shapes is_first (words_of ds)
ends_shaped true ds = refl
ends_shaped false [] = refl
ends_shaped false (d ∷ ds) = refl

beginning_shaped : (start : ℕ) (xs : List Row) → shapes (beginning_at start xs) ≡ shapes xs
beginning_shaped start [] = refl
beginning_shaped start (x ∷ xs) = refl

head_shaped : (is_first : Bool) (start other : ℕ) (ds es : List Directive) → words_of ds ≡ words_of es
    → shapes (beginning_at start (end_rows is_first ds ++ (map directive_row ds ++ (start_row ∷ [])))) ≡ shapes (beginning_at other (end_rows is_first es ++ (map directive_row es ++ (start_row ∷ []))))
head_shaped is_first start other ds es e =
    let ends : shapes (end_rows is_first ds) ≡ shapes (end_rows is_first es) = ends_shaped is_first ds ∙ (ap (end_shapes is_first) e ∙ sym (ends_shaped is_first es)) in
    let words : shapes (map directive_row ds) ≡ shapes (map directive_row es) = directive_shapes ds ∙ (ap (map words_row) e ∙ sym (directive_shapes es)) in
    beginning_shaped start (end_rows is_first ds ++ (map directive_row ds ++ (start_row ∷ [])))
    ∙ (both_shapes (end_rows is_first ds) (map directive_row ds ++ (start_row ∷ [])) (end_rows is_first es) (map directive_row es ++ (start_row ∷ [])) ends
    (both_shapes (map directive_row ds) (start_row ∷ []) (map directive_row es) (start_row ∷ []) words refl)
    ∙ sym (beginning_shaped other (end_rows is_first es ++ (map directive_row es ++ (start_row ∷ [])))))

pub same_rows : {s : Style} {cs es : List CommentValue} {ds fs : List Doc} {xs ys : List DocumentTree} (is_first : Bool) → SameDocuments s cs es ds xs fs ys
    → shapes (stream_rows (setting s cs) is_first ds xs) ≡ shapes (stream_rows (setting s es) is_first fs ys)
same_rows is_first no_documents = refl
same_rows {s} {cs} {es} is_first (same_document {d = d} {e = e} {ds = ds} {fs = fs} {x = x} {y = y} {xs = xs} {ys = ys} w a more) =
    both_shapes (document_rows (setting s cs) is_first d x) (stream_rows (setting s cs) false ds xs) (document_rows (setting s es) is_first e y) (stream_rows (setting s es) false fs ys)
    (both_shapes (beginning_at d.start (end_rows is_first d.directives ++ (map directive_row d.directives ++ (start_row ∷ [])))) (rows (setting s cs) (root_margins s) x.root)
    (beginning_at e.start (end_rows is_first e.directives ++ (map directive_row e.directives ++ (start_row ∷ [])))) (rows (setting s es) (root_margins s) y.root)
    (head_shaped is_first d.start e.start d.directives e.directives w) (same_block_rows s (root_margins s) a))
    (same_rows false more)

pub begun_shaped : (start : ℕ) (xs : List Row) → shapes (begun_at start xs) ≡ shapes xs
begun_shaped start [] = refl
begun_shaped start (x ∷ xs) = refl

pub all_same_rows : {s : Style} {cs es : List CommentValue} {ds fs : List Doc} {xs ys : List DocumentTree} (bare : Bool) → SameDocuments s cs es ds xs fs ys
    → shapes (all_rows (setting s cs) bare ds xs) ≡ shapes (all_rows (setting s es) bare fs ys)
all_same_rows false same = same_rows true same
all_same_rows true no_documents = refl
all_same_rows {s} {cs} {es} true (same_document {d = d} {e = e} {ds = ds} {fs = fs} {x = x} {y = y} {xs = xs} {ys = ys} w a more) =
    both_shapes (bare_rows (setting s cs) d x) (stream_rows (setting s cs) false ds xs) (bare_rows (setting s es) e y) (stream_rows (setting s es) false fs ys)
    (begun_shaped d.start (rows (setting s cs) (root_margins s) x.root) ∙ (same_block_rows s (root_margins s) a ∙ sym (begun_shaped e.start (rows (setting s es) (root_margins s) y.root))))
    (same_rows false more)

found_same : {s : Style} {cs es : List CommentValue} {u : List ℕ} {ds fs : List Doc} {xs ys : List DocumentTree} → FoundTrees s cs u es ds xs fs ys → SameDocuments s cs es ds xs fs ys
found_same none_found = no_documents
found_same (one_found w a f more) = same_document w a (found_same more)

pub found_rows : {s : Style} {cs es : List CommentValue} {u : List ℕ} {ds fs : List Doc} {xs ys : List DocumentTree} (a b : Bool) → b ≡ a → FoundTrees s cs u es ds xs fs ys
    → shapes (all_rows (setting s cs) a ds xs) ≡ shapes (all_rows (setting s es) b fs ys)
found_rows {s = s} {es = es} {fs = fs} {ys = ys} a b e found = all_same_rows a (found_same found) ∙ ap (λ c. shapes (all_rows (setting s es) c fs ys)) (sym e)
