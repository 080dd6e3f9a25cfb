-- In each reading of a formatted text, each outermost flow collection is as it is written, at the column of the layout.
use Rattle.std.proofs.Common.{◌≡◌, ℕ, Bool, List, [], ◌∷◌, ◌++◌, map, refl, ap}
use Rattle.std.specs.Str.{IsUtf8}
use Rattle.yf_lines.specs.Basic.{LineStart}
use Rattle.yf_comments.specs.Comment.{CommentValue}
use Rattle.yf_events.specs.Tree.{Node, DocumentTree}
use Rattle.yf_events.specs.declared.document.Doc.{Doc}
use Rattle.yf_events.specs.declared.lists.Lists.{Lists}
use Rattle.yf_stream.specs.ReadingOf.{ReadingOf}
use Rattle.yf_forms.specs.declared.style.Style.{Style}
use Rattle.yf_laws.specs.Layouts.Decorated.{Deco}
use Rattle.yf_laws.specs.Format.{IsFormatting}
use Rattle.yf_forms.specs.NormalForms.Normal.{LayoutSetting, root_margins, setting_of}
use Rattle.yf_print.specs.Layouts.Rows.{Row}
use Rattle.yf_laws.proofs.SecondRun.AlikeLemmas.{setting}
use Rattle.yf_laws.proofs.RowNodes.BareNodes.{bare, bare_tree}
use Rattle.yf_laws.proofs.SecondRun.FixedLawsHold.{roots_read}
use Rattle.yf_laws.proofs.Derived.FormatsRead.{formats_laid}
use Rattle.yf_laws.proofs.RowNodes.FoundKeys.{blocks_found}
use Rattle.yf_laws.proofs.RowNodes.FoundStreams.{StreamIn, no_stream, stream_in, begun_placed}
use Rattle.yf_laws.proofs.RowNodes.FoundTexts.{FoundRoots, no_roots, one_root, Settled, one_settled, AllRoots, marked_roots, bare_root, begun_quiet, begun_linked}
use Rattle.yf_laws.proofs.RowNodes.PlacedRows.{PlacedRow}
use Rattle.yf_laws.proofs.RowNodes.QuietPlaces.{AllQuiet, Linked, quiet_left, quiet_right, linked_left, linked_right}
use Rattle.yf_laws.proofs.Columns.WrittenNodes.{WrittenDocuments, no_written_documents, written_document}
use Rattle.yf_laws.proofs.Columns.WrittenTrees.{AllLined, lined_none, first_begins, lined_left, lined_right, renoted_written, rows_lined, rows_written, lined_row}

stream_lined : {t : List ℕ} {rs : List Row} {ps : List PlacedRow} {ds : List Deco} {i : ℕ} {cs : List CommentValue} → IsUtf8 t → LineStart t i → StreamIn t rs ps ds i cs → AllLined t ps
stream_lined u a no_stream = lined_none
stream_lined u a (stream_in b rows) = rows_lined u (first_begins b a) rows

abbrev first_root : DocumentTree → List DocumentTree → Node
first_root other [] = other.root
first_root other (w ∷ ws) = w.root

abbrev other_trees : List DocumentTree → List DocumentTree
other_trees [] = []
other_trees (w ∷ ws) = ws

documents_written : {u : List ℕ} {c : LayoutSetting} {cs : List CommentValue} {is_first : Bool} {es : List Doc} {xs zs : List DocumentTree} {ps : List PlacedRow} (ys : List DocumentTree) → IsUtf8 u → FoundRoots u c is_first es xs zs ps → map bare_tree zs ≡ map bare_tree ys
    → Settled c xs → AllQuiet cs ps → Linked cs ps → AllLined u ps → WrittenDocuments u (setting c.style cs) ys
documents_written [] utf8 r e h q l a = no_written_documents
documents_written (y ∷ ys) utf8 no_roots e h q l a = absurd cc
documents_written {u} {c} {cs} (y ∷ ys) utf8 (one_root {z = z} {zs = zs} {inner = inner} {qs = qs} heads hr b r others) e (one_settled h hs) q l a =
    let root : bare z.root ≡ bare y.root = ap (first_root (bare_tree z)) e in
    let rest : map bare_tree zs ≡ map bare_tree ys = ap other_trees e in
    let quiet = quiet_right heads inner (quiet_left (heads ++ inner) qs q) in
    let linked = linked_right heads inner (linked_left (heads ++ inner) qs l) in
    let lined = lined_right heads inner (lined_left (heads ++ inner) qs a) in
    written_document (renoted_written y.root root (rows_written c cs utf8 r lined (blocks_found (root_margins c.style) refl h b r quiet linked)))
    (documents_written ys utf8 others rest hs (quiet_right (heads ++ inner) qs q) (linked_right (heads ++ inner) qs l) (lined_right (heads ++ inner) qs a))

begun_lined : {t : List ℕ} {ps : List PlacedRow} (start : ℕ) → AllLined t (begun_placed start ps) → AllLined t ps
begun_lined {ps = []} start a = a
begun_lined {ps = p ∷ ps} start (lined_row o a) = lined_row o a

all_documents_written : {u : List ℕ} {c : LayoutSetting} {cs : List CommentValue} {b : Bool} {es : List Doc} {xs zs : List DocumentTree} {ps : List PlacedRow} (ys : List DocumentTree) → IsUtf8 u → AllRoots u c b es xs zs ps → map bare_tree zs ≡ map bare_tree ys
    → Settled c xs → AllQuiet cs ps → Linked cs ps → AllLined u ps → WrittenDocuments u (setting c.style cs) ys
all_documents_written ys utf8 (marked_roots r) e h q l a = documents_written ys utf8 r e h q l a
all_documents_written [] utf8 r e h q l a = no_written_documents
all_documents_written {u} {c} {cs} (y ∷ ys) utf8 (bare_root {d = d} {z = z} {zs = zs} {inner = inner} {qs = qs} b r others) e (one_settled h hs) q l a =
    let root : bare z.root ≡ bare y.root = ap (first_root (bare_tree z)) e in
    let rest : map bare_tree zs ≡ map bare_tree ys = ap other_trees e in
    let head : List PlacedRow = begun_placed d.start inner in
    let quiet = begun_quiet d.start (quiet_left head qs q) in
    let linked = begun_linked d.start (linked_left head qs l) in
    let lined = begun_lined d.start (lined_left head qs a) in
    written_document (renoted_written y.root root (rows_written c cs utf8 r lined (blocks_found (root_margins c.style) refl h b r quiet linked)))
    (documents_written ys utf8 others rest hs (quiet_right head qs q) (linked_right head qs l) (lined_right head qs a))

pub reading_written : {t u : List ℕ} {s : Style} {q : Lists} → IsUtf8 t → (f : IsFormatting t s u) → (a : ReadingOf u q) → WrittenDocuments u (setting_of q s) a.trees
reading_written {t} {u} {s} {q} utf8 f a =
    let all = formats_laid t u s utf8 f in
    let read = roots_read t u s utf8 f q a in
    all_documents_written a.trees all.well.utf8 read.roots read.same read.settled read.quiet read.linked (stream_lined all.well.utf8 all.starts all.placed)
