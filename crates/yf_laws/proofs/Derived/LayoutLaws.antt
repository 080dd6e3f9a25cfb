-- The laws of layouts, each with a plain sentence. `proofs/Derived/LayoutLawsHold.antt` proves them.
use Rattle.std.specs.Prelude.{◌≡◌, ℕ, ◌≤◌, Bool, List, ◌++◌, map}
use Rattle.std.specs.Str.{IsUtf8}
use Rattle.yf_comments.specs.Comment.{CommentValue}
use Rattle.yf_comments.specs.GapLines.{remarks_of}
use Rattle.yf_events.specs.declared.document.Doc.{Doc}
use Rattle.yf_events.specs.declared.lists.Lists.{Lists}
use Rattle.yf_events.specs.Tree.{DocumentTree}
use Rattle.yf_stream.specs.Stream.{Documents, Stream}
use Rattle.yf_forms.specs.declared.style.Style.{Style}
use Rattle.yf_forms.specs.NormalForms.BareStart.{is_bare}
use Rattle.yf_laws.specs.Layouts.RowComments.{comments_in, AreRemarks, TrailsFit}
use Rattle.yf_laws.specs.Layouts.Decorated.{first_gap, row_decos, rows_of}
use Rattle.yf_laws.specs.Layouts.FitDocuments.{FitDocuments, FitsBare, DocumentsMeant, tall_documents}
use Rattle.yf_laws.specs.Layouts.Layout.{layout, source_of}
use Rattle.yf_print.specs.Layouts.KeptColumns.{columns_of}

-- The text is a stream of documents that mean these trees, with these directives and markers, and its comments have
-- these texts, in order.
pub record StreamMade (t : List ℕ) (bare : Bool) (ds : List Doc) (xs : List DocumentTree) (comments : List (List ℕ)) : Type 0 where
  pub height : ℕ
  pub documents : Documents
  pub derived : Stream t height documents
  pub low : height ≤ tall_documents xs
  pub meant : DocumentsMeant bare ds xs documents.documents
  pub is : map (λ (c : CommentValue). c.text) documents.comments ≡ comments

-- the texts of the comments that a layout prints, in order
abbrev pub printed_comments : List ℕ → Lists → Style → List DocumentTree → List (List ℕ)
printed_comments t m s trees =
    remarks_of (first_gap (columns_of t s (rows_of m s trees)) m (rows_of m s trees)) ++ comments_in (rows_of m s trees) (row_decos (columns_of t s (rows_of m s trees)) m (rows_of m s trees))

-- The layout is a text: the texts of its rows are.
abbrev pub LayoutsAreTexts : Type 0
LayoutsAreTexts = (t : List ℕ) (m : Lists) (s : Style) (trees : List DocumentTree) → FitDocuments s m.documents trees → AreRemarks m.comments
    → TrailsFit (source_of m (rows_of m s trees)) (rows_of m s trees) → IsUtf8 (layout t m s trees)

-- A layout is derived again. If each node on one line reads back, the comments are texts of comments, and at most one
-- of them trails each row, then the layout is a stream of documents that mean the same trees except for offsets, with
-- the same directives, and its comments are those that were printed, in that order.
abbrev pub LayoutsAreDerived : Type 0
LayoutsAreDerived = (t : List ℕ) (m : Lists) (s : Style) (trees : List DocumentTree) → FitDocuments s m.documents trees → FitsBare (is_bare m s) m.documents trees → AreRemarks m.comments
    → TrailsFit (source_of m (rows_of m s trees)) (rows_of m s trees) → StreamMade (layout t m s trees) (is_bare m s) m.documents trees (printed_comments t m s trees)
