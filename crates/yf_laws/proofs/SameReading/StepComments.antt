-- The steps of a layout whose rows cut the comments determine, for each comment of the reading in order, the number of
-- leaves that begin before it.
use Rattle.std.proofs.Common.{◌≡◌, ℕ, ◌+◌, Bool, List, [], ◌∷◌, ◌++◌, length, map, flat_map, refl, sym, ap, ◌∙◌, arith, zero-add, append_assoc, append-nil}
use Rattle.std.specs.Prelude.{filter, zip}
use Rattle.yf_comments.specs.Comment.{CommentValue}
use Rattle.yf_comments.specs.GapLines.{remarks_of}
use Rattle.yf_events.specs.Event.{EventInText, document_starts, document_ends, stream_ends}
use Rattle.yf_events.specs.Reading.{leaf_starts}
use Rattle.yf_events.specs.Tree.{DocumentTree, flat, flat_document, flat_stream, leaves, unplaced}
use Rattle.yf_events.specs.declared.lists.Lists.{Lists}
use Rattle.yf_laws.proofs.SameReading.RowSteps.{leaves_begin, steps_with}
use Rattle.yf_laws.specs.Layouts.Decorated.{first_gap, row_decos}
use Rattle.yf_laws.specs.Layouts.Layout.{Remark, source_of, trailing}
use Rattle.yf_print.specs.Layouts.Rows.{Row, at_text_start}
use Rattle.yf_laws.proofs.Derived.LayoutSteps.{Step, comment_steps, steps_of, comments_of}
use Rattle.yf_laws.proofs.SameReading.CommentsCut.{each_none, Upward, own_of, Flowing, flowing_over, cuts_made}
use Rattle.yf_laws.proofs.Trails.DocumentTrails.{leaves_of}
use Rattle.yf_laws.proofs.Trails.TrailOthers.{firsts}
use Rattle.yf_laws.proofs.SameReading.PrintSteps.{steps_of_leaves, steps_printed, trimmed_by, printed_steps, cuts_told}
use Rattle.yf_laws.proofs.SameReading.StartsBefore.{starts_before}
use Rattle.yf_laws.proofs.Derived.StepsInText.{starts_of, starts_append, node_starts}
use Rattle.yf_print.specs.Layouts.KeptColumns.{Columns}

without_zero : (ss : List ℕ) (cs : List CommentValue) → trimmed_by (λ o. 0 + starts_before ss o) cs ≡ trimmed_by (starts_before ss) cs
without_zero ss [] = refl
without_zero ss (c ∷ cs) = λ n. trimmed_by (λ o. zero-add (starts_before ss o) n) (c ∷ cs)

-- the steps of a reading with these rows, from what begins on them
pub counts_told : (g : Columns) (f : Row → List Step) (m : Lists) (rows : List Row) (starts : List ℕ) → length m.on_leaf_line ≡ length m.comments → Upward 0 m.comments → Flowing f (source_of m rows) m.comments 0 rows starts
    → comments_of 0 (comment_steps (remarks_of (first_gap g m rows)) ++ steps_with f rows (row_decos g m rows)) ≡ trimmed_by (starts_before starts) m.comments
counts_told g f m rows starts notes up flow =
    let all : List CommentValue = flat_map (trailing (source_of m rows)) rows in
    let own : CommentValue → Bool = own_of all in
    let cuts = cuts_made f (source_of m rows) m.comments all flow 0 [] m.comments [] (omega arith) refl each_none up each_none refl (flowing_over 0 (omega arith) flow) in
    ap (comments_of 0) (steps_printed g f (source_of m rows) at_text_start (filter own (map (λ (r : Remark). r.0) (zip m.comments m.on_leaf_line))) rows)
    ∙ (ap (λ w. comments_of 0 (printed_steps f (source_of m rows) (filter own w) rows)) (firsts m.comments m.on_leaf_line notes)
    ∙ (cuts_told cuts 0 ∙ without_zero starts m.comments))

-- by its leaves
pub comments_told : (g : Columns) (m : Lists) (rows : List Row) (starts : List ℕ) → length m.on_leaf_line ≡ length m.comments → Upward 0 m.comments → Flowing leaves_begin (source_of m rows) m.comments 0 rows starts
    → comments_of 0 (steps_of g m rows) ≡ trimmed_by (starts_before starts) m.comments
comments_told g m rows starts notes up flow =
    ap (λ w. comments_of 0 (comment_steps (remarks_of (first_gap g m rows)) ++ w)) (steps_of_leaves rows (row_decos g m rows)) ∙ counts_told g leaves_begin m rows starts notes up flow

-- The leaves of the trees of a reading.

documents_starts : (trees : List DocumentTree) (rest : List EventInText) → leaf_starts (flat_map flat_document trees ++ rest) ≡ starts_of (leaves_of trees) ++ leaf_starts rest
documents_starts [] rest = refl
documents_starts (d ∷ ds) rest =
    let end : EventInText = unplaced (document_ends d.closed) in
    let more : List EventInText = flat_map flat_document ds in
    ap (λ w. leaf_starts (unplaced (document_starts d.marked) ∷ w)) (append_assoc (flat d.root ++ (end ∷ [])) more rest ∙ append_assoc (flat d.root) (end ∷ []) (more ++ rest))
    ∙ (node_starts d.root (end ∷ (more ++ rest)) ∙ (ap (λ w. starts_of (leaves d.root) ++ w) (documents_starts ds rest)
    ∙ (sym (append_assoc (starts_of (leaves d.root)) (starts_of (leaves_of ds)) (leaf_starts rest)) ∙ ap (λ w. w ++ leaf_starts rest) (sym (starts_append (leaves d.root) (leaves_of ds))))))

pub stream_starts_are : (trees : List DocumentTree) → leaf_starts (flat_stream trees) ≡ starts_of (leaves_of trees)
stream_starts_are trees = documents_starts trees (unplaced stream_ends ∷ []) ∙ append-nil (starts_of (leaves_of trees))
