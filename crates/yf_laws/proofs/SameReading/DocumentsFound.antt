-- Each comment of a formatted text is found, in each reading of it, after as many documents as when it was printed.
use Rattle.std.proofs.Common.{◌≡◌, ℕ, ◌+◌, List, [], ◌∷◌, ◌++◌, length, map, refl, sym, ap, ◌∙◌, subst, cond, zero-add}
use Rattle.std.specs.Prelude.{count_by, nat_lt}
use Rattle.std.proofs.lemmas.List.Sums.{sum_by-cons}
use Rattle.std.specs.Str.{IsUtf8}
use Rattle.yf_comments.specs.Comment.{CommentValue}
use Rattle.yf_comments.specs.GapLines.{remarks_of}
use Rattle.yf_events.specs.Reading.{documents_before}
use Rattle.yf_events.specs.Tree.{DocumentTree}
use Rattle.yf_events.specs.declared.document.Doc.{Doc}
use Rattle.yf_events.specs.declared.lists.Lists.{Lists}
use Rattle.yf_stream.specs.ReadingOf.{ReadingOf, doc_of}
use Rattle.yf_stream.specs.Stream.{Document, Documents}
use Rattle.yf_stream.proofs.Offsets.ReadingOrder.{stream_ascends}
use Rattle.yf_stream.proofs.Offsets.ReadingTrees.{TreesStand, no_trees_stand, tree_is_at, reading_is_at}
use Rattle.yf_forms.specs.declared.style.Style.{Style}
use Rattle.yf_laws.proofs.SameReading.RowSteps.{documents_begin, steps_with}
use Rattle.yf_laws.specs.Layouts.Decorated.{first_gap, row_decos, rows_of}
use Rattle.yf_laws.specs.Format.{IsFormatting}
use Rattle.yf_print.specs.Layouts.Rows.{Row}
use Rattle.yf_laws.proofs.Derived.LayoutSteps.{Step, comment_steps, comments_of}
use Rattle.yf_laws.proofs.Derived.FormatsRead.{formats_laid}
use Rattle.yf_laws.proofs.SameReading.FoundAgain.{Unsigned, no_start, a_start, noted_told, stand_told, told_by}
use Rattle.yf_laws.proofs.SameReading.StartsBefore.{starts_before}
use Rattle.yf_laws.proofs.Derived.StepsInText.{Stand}
use Rattle.yf_print.specs.Layouts.KeptColumns.{Columns, columns_of}

-- the comments of a layout and the documents that begin in it, as steps
abbrev pub document_steps : Columns → Lists → List Row → List Step
document_steps g m rows = comment_steps (remarks_of (first_gap g m rows)) ++ steps_with documents_begin rows (row_decos g m rows)

abbrev pub document_starts : List Doc → List ℕ
document_starts ds = map (λ d. d.start) ds

pub documents_are : (ds : List Doc) (o : ℕ) → count_by (λ d. nat_lt d.start o) ds ≡ starts_before (document_starts ds) o
documents_are [] o = refl
documents_are (d ∷ ds) o =
    sum_by-cons (λ (w : Doc). cond (nat_lt w.start o) 1 0) d ds
    ∙ (ap (λ z. cond (nat_lt d.start o) 1 0 + z) (documents_are ds o) ∙ sym (sum_by-cons (λ w. cond (nat_lt w o) 1 0) d.start (document_starts ds)))

starts_unsigned : {t : List ℕ} {i : ℕ} {ds : List Doc} {trees : List DocumentTree} → TreesStand t i ds trees → Unsigned t (document_starts ds)
starts_unsigned (no_trees_stand l) = no_start
starts_unsigned (tree_is_at a b more z) = a_start z.start (starts_unsigned more)

derived_starts : (ds : List Document) → document_starts (map doc_of ds) ≡ map (λ (d : Document). d.start) ds
derived_starts [] = refl
derived_starts (d ∷ ds) = ap (λ w. d.start ∷ w) (derived_starts ds)

pub told_alike : (m n : ℕ → ℕ) (cs : List CommentValue) → ((o : ℕ) → m o ≡ n o) → told_by m cs ≡ told_by n cs
told_alike m n [] e = refl
told_alike m n (c ∷ cs) e = ap (λ z. (c.text, z) ∷ told_by m cs) (e c.offset) ∙ ap (λ z. (c.text, n c.offset) ∷ z) (told_alike m n cs e)

-- for a text with documents and comments in the order of steps
documents_counted : {t : List ℕ} {j : ℕ} {q : Lists} {steps : List Step} → IsUtf8 t → (a : ReadingOf t q) → Stand 0 (map (λ (d : Document). d.start) a.derived.documents) a.derived.comments steps j
    → told_by (documents_before q) q.comments ≡ comments_of 0 steps
documents_counted {t} {j} {q} {steps} u a stand =
    let starts : document_starts q.documents ≡ map (λ (d : Document). d.start) a.derived.documents = ap document_starts a.documents ∙ derived_starts a.derived.documents in
    let unsigned : Unsigned t (document_starts q.documents) = starts_unsigned (reading_is_at u a).stand in
    let here : Stand 0 (document_starts q.documents) a.derived.comments steps j = subst (λ ss. Stand 0 ss a.derived.comments steps j) (sym starts) stand in
    let counted : told_by (λ o. 0 + starts_before (document_starts q.documents) o) a.derived.comments ≡ comments_of 0 steps =
    stand_told here unsigned 0 (length t) (stream_ascends a.reads.shapes.derived) 0 in
    told_alike (documents_before q) (λ o. 0 + starts_before (document_starts q.documents) o) q.comments (λ o. documents_are q.documents o ∙ sym (zero-add (starts_before (document_starts q.documents) o)))
    ∙ (sym (noted_told (λ o. 0 + starts_before (document_starts q.documents) o) a.comments) ∙ counted)

-- for a formatted text
pub documents_found : (t u : List ℕ) (s : Style) (q : Lists) → IsUtf8 t → (f : IsFormatting t s u) → ReadingOf u q
    → told_by (documents_before q) q.comments ≡ comments_of 0 (document_steps (columns_of t s (rows_of f.normal s f.writes.trees)) f.normal (rows_of f.normal s f.writes.trees))
documents_found t u s q utf8 f a =
    let all = formats_laid t u s utf8 f in
    let shapes = a.reads.shapes in
    let steps : List Step = document_steps (columns_of t s (rows_of f.normal s f.writes.trees)) f.normal (rows_of f.normal s f.writes.trees) in
    let derived : a.derived ≡ all.well.documents = all.well.reads.shapes.only shapes.height a.derived shapes.derived shapes.within in
    documents_counted all.well.utf8 a (subst (λ (x : Documents). Stand 0 (map (λ (d : Document). d.start) x.documents) x.comments steps (length u)) (sym derived) all.begun)
