-- The rows of the documents of a reading of a formatted text carry its notes on blank lines.
use Rattle.std.proofs.Common.{◌≡◌, ℕ, suc, Bool, true, false, List, [], ◌∷◌, ◌++◌, flat_map, length, map, refl, sym, ap, ◌∙◌, subst}
use Rattle.std.proofs.lemmas.List.{length-map}
use Rattle.yf_comments.specs.Comment.{CommentValue}
use Rattle.yf_events.specs.Event.{EventInText, document_ends, document_starts}
use Rattle.yf_events.specs.Tree.{DocumentTree, flat, flat_document, unplaced}
use Rattle.yf_events.specs.declared.directive.Directive.{Directive}
use Rattle.yf_events.specs.declared.document.Doc.{Doc}
use Rattle.yf_laws.specs.Layouts.FitDocuments.{FitDocuments, fit_no_documents, fit_document}
use Rattle.yf_laws.specs.Preservation.FoundTrees.{FoundTrees, none_found, one_found, words_of}
use Rattle.yf_forms.specs.NormalForms.Normal.{LayoutSetting, root_margins}
use Rattle.yf_print.specs.Layouts.Rows.{Row, beginning_at, directive_row, document_rows, end_rows, rows, start_row, stream_rows, all_rows, bare_rows, begun_at}
use Rattle.yf_laws.proofs.SecondRun.AlikeLemmas.{setting}
use Rattle.yf_laws.proofs.RowNodes.BareNodes.{bare, bare_tree}
use Rattle.yf_laws.proofs.RowNodes.FoundTexts.{FoundRoots, no_roots, one_root, AllRoots, marked_roots, bare_root}
use Rattle.yf_laws.proofs.ReadAgain.GapNotes.{HeadNote, bare_head}
use Rattle.yf_laws.proofs.RowNodes.HeadRows.{HeadRows, mark_head, more_heads, heads_before}
use Rattle.yf_laws.proofs.ReadAgain.NoteTrees.{NotesMade, both_made, node_notes, regrouped, start_unlined}
use Rattle.yf_laws.proofs.RowNodes.PlacedRows.{PlacedRow}
use Rattle.yf_laws.proofs.ReadAgain.RowNotes.{AllNoted, RowNotes, no_row_notes, note_kept, notes_join, note_moved}
use Rattle.yf_laws.proofs.ReadAgain.RowsWithNotes.{rows_renoted}
use Rattle.yf_laws.proofs.RowNodes.FoundStreams.{begun_placed}

-- Rows that don't begin with an entry, and have no block scalar.

data PlainRows : ℕ → List Row → Type 0 where
  no_plain_row : PlainRows 0 []
  plain_more : {n : ℕ} {r : Row} {rs : List Row} → r.blank_before ≡ false → r.body ≡ [] → PlainRows n rs → PlainRows (suc n) (r ∷ rs)

plain_directives : (ds : List Directive) → PlainRows (suc (length ds)) (map directive_row ds ++ (start_row ∷ []))
plain_directives [] = plain_more refl refl no_plain_row
plain_directives (d ∷ ds) = plain_more refl refl (plain_directives ds)

plain_beginning : {n : ℕ} {rs : List Row} (start : ℕ) → PlainRows n rs → PlainRows n (beginning_at start rs)
plain_beginning start no_plain_row = no_plain_row
plain_beginning start (plain_more e f a) = plain_more e f a

plain_heads : (is_first : Bool) (ds : List Directive) → PlainRows (suc (heads_before is_first ds)) (end_rows is_first ds ++ (map directive_row ds ++ (start_row ∷ [])))
plain_heads true ds = plain_directives ds
plain_heads false [] = plain_more refl refl no_plain_row
plain_heads false (d ∷ ds) = plain_more refl refl (plain_directives (d ∷ ds))

bare_both : {t : List ℕ} {f q : ℕ} (a b : Bool) → a ≡ false → b ≡ false → HeadNote t f q a b
bare_both {t} {f} {q} a b e g = subst (λ z. HeadNote t f q z b) (sym e) (subst (λ z. HeadNote t f q false z) (sym g) bare_head)

head_notes : {t : List ℕ} {f start n : ℕ} {hs : List PlacedRow} {xs ys : List Row} → HeadRows start n hs → PlainRows (suc n) xs → PlainRows (suc n) ys → RowNotes t f hs xs ys []
head_notes (mark_head k l) (plain_more {r = x} e g no_plain_row) (plain_more {r = y} i j no_plain_row) = note_kept (bare_both x.blank_before y.blank_before e i) j no_row_notes
head_notes (more_heads k more) (plain_more {r = x} e g a) (plain_more {r = y} i j b) = note_kept (bare_both x.blank_before y.blank_before e i) j (head_notes more a b)

as_many_words : (ds es : List Directive) → words_of ds ≡ words_of es → length ds ≡ length es
as_many_words ds es e = sym (length-map ds (λ (d : Directive). d.words)) ∙ (ap length e ∙ length-map es (λ (d : Directive). d.words))

same_heads : (is_first : Bool) (ds es : List Directive) → words_of ds ≡ words_of es → heads_before is_first ds ≡ heads_before is_first es
same_heads true ds es e = as_many_words ds es e
same_heads false [] [] e = refl
same_heads false [] (d ∷ es) e = absurd cc
same_heads false (d ∷ ds) [] e = absurd cc
same_heads false (d ∷ ds) (b ∷ es) e = ap suc (as_many_words (d ∷ ds) (b ∷ es) e)

-- Documents.

abbrev first_root : DocumentTree → List DocumentTree → DocumentTree
first_root other [] = other
first_root other (w ∷ ws) = w

abbrev other_trees : List DocumentTree → List DocumentTree
other_trees [] = []
other_trees (w ∷ ws) = ws

document_made : {t : List ℕ} {f : ℕ} {ps : List PlacedRow} {rest : List EventInText} (c : LayoutSetting) (is_first : Bool) (d b : Doc) (x y : DocumentTree) (cs : List CommentValue) (heads : List PlacedRow) → words_of d.directives ≡ words_of b.directives
    → HeadRows b.start (heads_before is_first b.directives) heads
    → NotesMade t f ps (rows c (root_margins c.style) x.root) (rows (setting c.style cs) (root_margins c.style) y.root) (flat y.root) ((unplaced (document_ends y.closed) ∷ []) ++ rest)
    → NotesMade t f (heads ++ ps) (document_rows c is_first d x) (document_rows (setting c.style cs) is_first b y) (flat_document y) rest
document_made {f = f} c is_first d b x y cs heads e h a = record {
  ends = a.ends;
  rows = notes_join {f = f} {gs = []} (head_notes h (subst (λ z. PlainRows (suc z) (beginning_at d.start (end_rows is_first d.directives ++ (map directive_row d.directives ++ (start_row ∷ []))))) (same_heads is_first d.directives b.directives e)
      (plain_beginning d.start (plain_heads is_first d.directives))) (plain_beginning b.start (plain_heads is_first b.directives))) a.rows;
  notes = a.notes.1;
  at = λ o z. start_unlined (unplaced (document_starts y.marked)) (unplaced (document_ends y.closed)) (λ v p. refl) (λ v p. refl) (flat y.root) o z ∙ a.at o z;
}

pub documents_noted : {t : List ℕ} {c : LayoutSetting} (cs : List CommentValue) (ys : List DocumentTree) {is_first : Bool} {f : ℕ} {ds es : List Doc} {xs zs : List DocumentTree} {ps : List PlacedRow} → FoundRoots t c is_first es xs zs ps
    → map bare_tree zs ≡ map bare_tree ys → FoundTrees c.style c.comments t cs ds xs es ys → FitDocuments c.style ds xs → (rest : List EventInText) → AllNoted t f (flat_map flat_document ys ++ rest)
    → NotesMade t f ps (stream_rows c is_first ds xs) (stream_rows (setting c.style cs) is_first es ys) (flat_map flat_document ys) rest
documents_noted cs [] no_roots e none_found fit_no_documents rest n = record { ends = []; rows = no_row_notes; notes = n; at = λ o z. refl }
documents_noted cs [] (one_root heads h alike r others) e found fit rest n = elim found [ ]
documents_noted cs (y ∷ ys) no_roots e found fit rest n = elim found [ ]
documents_noted {t} {c} cs (y ∷ ys) {is_first} {f} (one_root {z = z} {zs = zs} heads h alike r others) e (one_found {d = d} {e = b} {x = x} words a undisturbed more) (fit_document directives fit fits) rest n =
    let root : bare z.root ≡ bare y.root = ap (λ w. (first_root (bare_tree z) w).root) e in
    let trees : map bare_tree zs ≡ map bare_tree ys = ap other_trees e in
    let last : List EventInText = unplaced (document_ends y.closed) ∷ [] in
    let here : AllNoted t f (flat_document y ++ (flat_map flat_document ys ++ rest)) = regrouped t f (flat_document y) (flat_map flat_document ys) rest n in
    let inner = node_notes cs (root_margins c.style) (root_margins c.style) refl refl a (rows_renoted y.root root r) fit (last ++ (flat_map flat_document ys ++ rest))
    (regrouped t f (flat y.root) last (flat_map flat_document ys ++ rest) here.1) in
    let one = document_made c is_first d b x y cs heads words h inner in
    both_made one (documents_noted cs ys others trees more fits rest one.notes)

-- if the first document has no `---`
begun_notes : {t : List ℕ} {f : ℕ} {ps : List PlacedRow} {xs ys : List Row} {gs : List ℕ} (a b q : ℕ) → RowNotes t f ps xs ys gs → RowNotes t f (begun_placed q ps) (begun_at a xs) (begun_at b ys) gs
begun_notes a b q no_row_notes = no_row_notes
begun_notes a b q (note_kept h e more) = note_kept h e more
begun_notes a b q (note_moved h n l more) = note_moved h n l more

bare_made : {t : List ℕ} {f : ℕ} {ps : List PlacedRow} {rest : List EventInText} (c : LayoutSetting) (d b : Doc) (x y : DocumentTree) (cs : List CommentValue)
    → NotesMade t f ps (rows c (root_margins c.style) x.root) (rows (setting c.style cs) (root_margins c.style) y.root) (flat y.root) ((unplaced (document_ends y.closed) ∷ []) ++ rest)
    → NotesMade t f (begun_placed b.start ps) (bare_rows c d x) (bare_rows (setting c.style cs) b y) (flat_document y) rest
bare_made c d b x y cs a = record {
  ends = a.ends;
  rows = begun_notes d.start b.start b.start a.rows;
  notes = a.notes.1;
  at = λ o z. start_unlined (unplaced (document_starts y.marked)) (unplaced (document_ends y.closed)) (λ v p. refl) (λ v p. refl) (flat y.root) o z ∙ a.at o z;
}

pub all_noted_documents : {t : List ℕ} {c : LayoutSetting} (cs : List CommentValue) (ys : List DocumentTree) {bare_first : Bool} {f : ℕ} {ds es : List Doc} {xs zs : List DocumentTree} {ps : List PlacedRow} → AllRoots t c bare_first es xs zs ps
    → map bare_tree zs ≡ map bare_tree ys → FoundTrees c.style c.comments t cs ds xs es ys → FitDocuments c.style ds xs → (rest : List EventInText) → AllNoted t f (flat_map flat_document ys ++ rest)
    → NotesMade t f ps (all_rows c bare_first ds xs) (all_rows (setting c.style cs) bare_first es ys) (flat_map flat_document ys) rest
all_noted_documents cs ys (marked_roots roots) e found fit rest n = documents_noted cs ys roots e found fit rest n
all_noted_documents cs [] (bare_root alike r others) e found fit rest n = elim found [ ]
all_noted_documents {t} {c} cs (y ∷ ys) {f = f} (bare_root {z = z} {zs = zs} alike r others) e (one_found {d = d} {e = b} {x = x} words a undisturbed more) (fit_document directives fit fits) rest n =
    let root : bare z.root ≡ bare y.root = ap (λ w. (first_root (bare_tree z) w).root) e in
    let trees : map bare_tree zs ≡ map bare_tree ys = ap other_trees e in
    let last : List EventInText = unplaced (document_ends y.closed) ∷ [] in
    let here : AllNoted t f (flat_document y ++ (flat_map flat_document ys ++ rest)) = regrouped t f (flat_document y) (flat_map flat_document ys) rest n in
    let inner = node_notes cs (root_margins c.style) (root_margins c.style) refl refl a (rows_renoted y.root root r) fit (last ++ (flat_map flat_document ys ++ rest))
    (regrouped t f (flat y.root) last (flat_map flat_document ys ++ rest) here.1) in
    let one = bare_made c d b x y cs inner in
    both_made one (documents_noted cs ys others trees more fits rest one.notes)
