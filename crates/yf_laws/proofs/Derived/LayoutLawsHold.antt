-- The laws of layouts hold.
use Rattle.std.proofs.Common.{ℕ, List, sym, subst}
use Rattle.std.specs.Str.{IsUtf8}
use Rattle.yf_events.specs.declared.lists.Lists.{Lists}
use Rattle.yf_events.specs.Tree.{DocumentTree}
use Rattle.yf_forms.specs.declared.style.Style.{Style}
use Rattle.yf_forms.specs.NormalForms.BareStart.{is_bare}
use Rattle.yf_laws.specs.Layouts.RowComments.{AreRemarks, TrailsFit}
use Rattle.yf_laws.specs.Layouts.Decorated.{first_gap, row_decos, rows_of}
use Rattle.yf_laws.specs.Layouts.FitDocuments.{FitDocuments, FitsBare}
use Rattle.yf_laws.specs.Layouts.Layout.{layout, source_of}
use Rattle.yf_laws.proofs.Derived.LayoutLaws.{LayoutsAreTexts, LayoutsAreDerived}
use Rattle.yf_forms.specs.NormalForms.Normal.{setting_of}
use Rattle.yf_laws.proofs.OutputLines.CalmRows.{layout_calm}
use Rattle.yf_laws.proofs.Derived.DecoratedLemmas.{layout_then}
use Rattle.yf_laws.proofs.Derived.GapsFit.{all_fit}
use Rattle.yf_laws.proofs.Derived.RowsUtf8.{layout_utf8}
use Rattle.yf_laws.proofs.Derived.StreamsLaid.{StreamLaid, layout_derived}
use Rattle.yf_print.specs.Layouts.KeptColumns.{columns_of}

pub layouts_are_texts : LayoutsAreTexts
layouts_are_texts t m s trees fit remarks trails =
    let fits = all_fit (columns_of t s (rows_of m s trees)) m (rows_of m s trees) trails remarks in
    subst (λ w. IsUtf8 w) (sym (layout_then t m s trees)) (layout_utf8 (setting_of m s) (is_bare m s) (first_gap (columns_of t s (rows_of m s trees)) m (rows_of m s trees)) (row_decos (columns_of t s (rows_of m s trees)) m (rows_of m s trees)) fit fits.0 fits.1)

-- the layout is derived again, with its leaves and comments in their order
pub layouts_are_laid : (t : List ℕ) (m : Lists) (s : Style) (trees : List DocumentTree) → FitDocuments s m.documents trees → FitsBare (is_bare m s) m.documents trees → AreRemarks m.comments
    → TrailsFit (source_of m (rows_of m s trees)) (rows_of m s trees)
    → StreamLaid (layout t m s trees) (setting_of m s) (is_bare m s) m.documents trees (first_gap (columns_of t s (rows_of m s trees)) m (rows_of m s trees)) (rows_of m s trees) (row_decos (columns_of t s (rows_of m s trees)) m (rows_of m s trees))
layouts_are_laid t m s trees fit bare remarks trails =
    let fits = all_fit (columns_of t s (rows_of m s trees)) m (rows_of m s trees) trails remarks in
    layout_derived (setting_of m s) (is_bare m s) (first_gap (columns_of t s (rows_of m s trees)) m (rows_of m s trees)) (row_decos (columns_of t s (rows_of m s trees)) m (rows_of m s trees)) fit bare (layouts_are_texts t m s trees fit remarks trails) fits.0 fits.1
    (layout_calm t m s trees fit) (layout_then t m s trees)

pub layouts_are_derived : LayoutsAreDerived
layouts_are_derived t m s trees fit bare remarks trails = (layouts_are_laid t m s trees fit bare remarks trails).made
