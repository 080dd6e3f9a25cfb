-- A laid-out text with equal trees is its own formatting.
use Rattle.std.proofs.Common.{◌≡◌, ℕ, List, [], ◌∷◌, map, refl, sym, ap, ◌∙◌}
use Rattle.yf_comments.specs.Comment.{CommentValue}
use Rattle.yf_events.specs.Tree.{DocumentTree, TreesOf, flat_stream}
use Rattle.yf_events.specs.declared.document.Doc.{Doc}
use Rattle.yf_events.specs.declared.lists.Lists.{Lists}
use Rattle.yf_stream.specs.ReadingOf.{ReadingOf}
use Rattle.yf_forms.specs.declared.style.Style.{Style}
use Rattle.yf_laws.specs.Layouts.Decorated.{decorated, first_gap, gap_then, lines_then, row_decos, rows_of}
use Rattle.yf_laws.specs.Format.{IsFormatting}
use Rattle.yf_laws.specs.Layouts.Layout.{layout}
use Rattle.yf_laws.specs.Preservation.FoundTrees.{FoundSame, FoundTrees, none_found, one_found}
use Rattle.yf_forms.specs.NormalForms.Normal.{Normal, LayoutSetting, normal_document, root_margins, setting_of, settled, styled}
use Rattle.yf_laws.proofs.SecondRun.AlikeLemmas.{setting}
use Rattle.yf_laws.proofs.Derived.DecoratedLemmas.{layout_then}
use Rattle.yf_laws.proofs.SecondRun.FixedBlocks.{blocks_alike, settled_blocks}
use Rattle.yf_laws.proofs.SecondRun.FixedNodes.{styled_alike}
use Rattle.yf_laws.proofs.SecondRun.FixedRows.{found_rows, same_lines}
use Rattle.yf_laws.proofs.Trails.FormatTrails.{normal_trees}
use Rattle.yf_laws.proofs.NormalForms.SettledTwice.{settled_twice}
use Rattle.yf_laws.proofs.NormalForms.StyledTwice.{House, normal_house}
use Rattle.yf_forms.specs.NormalForms.BareStart.{is_bare}
use Rattle.yf_print.specs.Layouts.KeptColumns.{Columns, columns_of}
use Rattle.yf_laws.specs.Preservation.CommentsPlaced.{columns_in}

-- the normal form of a tree that is alike to a normal one is itself
abbrev fixed : List ℕ → LayoutSetting → List DocumentTree → Type 0
fixed u d ys = map (normal_document u d) ys ≡ ys

documents_fixed : {s : Style} {cs es : List CommentValue} {u : List ℕ} {ds fs : List Doc} {xs ys : List DocumentTree} (t : List ℕ) (read : List DocumentTree)
    → xs ≡ map (normal_document t (setting s cs)) read → FoundTrees s cs u es ds xs fs ys → fixed u (setting s es) ys
documents_fixed t read e none_found = refl
documents_fixed t [] e (one_found w a f more) = absurd cc
documents_fixed {s} {cs} {es} {u} t (z ∷ read) e (one_found {x = x} {y = y} {xs = xs} {ys = ys} w a f more) =
    let c : LayoutSetting = setting s cs in
    let d : LayoutSetting = setting s es in
    let here : x ≡ normal_document t c z = ap (head_or x) e in
    let rest : xs ≡ map (normal_document t c) read = ap rest_of e in
    let house : House d x.root = ap (λ (w : DocumentTree). styled [] (setting s []) w.root) here ∙ (normal_house t c (root_margins s) z.root ∙ sym (ap (λ (w : DocumentTree). w.root) here)) in
    let settles : settled c (root_margins s) x.root ≡ x.root =
    ap (λ (w : DocumentTree). settled c (root_margins s) w.root) here ∙ (settled_twice c (root_margins s) (root_margins s) (styled t c z.root) (record { entries = refl; column = λ q. refl })
    ∙ sym (ap (λ (w : DocumentTree). w.root) here)) in
    let root : settled d (root_margins s) (styled u d y.root) ≡ y.root =
    ap (λ w. settled d (root_margins s) w) (styled_alike u d (blocks_alike a) house f) ∙ settled_blocks s (root_margins s) a settles in
    ap (λ w. record y { root = w } ∷ map (normal_document u d) ys) root ∙ ap (λ w. y ∷ w) (documents_fixed t read rest more) where
      head_or : DocumentTree → List DocumentTree → DocumentTree
      head_or other [] = other
      head_or other (w ∷ ws) = w

      rest_of : List DocumentTree → List DocumentTree
      rest_of [] = []
      rest_of (w ∷ ws) = ws

pub roots_fixed : {t u : List ℕ} {s : Style} (f : IsFormatting t s u) (q : Lists) (found : List DocumentTree) → FoundTrees s f.normal.comments u q.comments f.normal.documents f.writes.trees q.documents found
    → map (normal_document u (setting_of q s)) found ≡ found
roots_fixed {t} {u} {s} f q found alike =
    let n = normal_trees f in documents_fixed t n.trees (n.same ∙ ap (λ cs. map (normal_document t (setting s cs)) n.trees) (sym n.comments)) alike

-- if equal trees are found, the reading is its own normal form
pub found_normal : {t u : List ℕ} {s : Style} (f : IsFormatting t s u) (q : Lists) (found : List DocumentTree) → TreesOf q found
    → FoundTrees s f.normal.comments u q.comments f.normal.documents f.writes.trees q.documents found → Normal u q s q
found_normal {u = u} {s = s} f q found of_reading alike =
    let roots : map (normal_document u (setting_of q s)) found ≡ found = roots_fixed f q found alike in
    record { trees = found; of_reading = of_reading; is = ap (λ z. record q { events = z }) of_reading.events ∙ ap (λ z. record q { events = flat_stream z }) (sym roots) }

-- the text is the layout of the trees found in it
pub found_layout : {t u : List ℕ} {s : Style} (f : IsFormatting t s u) (q : Lists) (found : List DocumentTree) → FoundSame t f.normal s f.writes.trees u q found → u ≡ layout u q s found
found_layout {t} {u} {s} f q found same =
    let m : Lists = f.normal in
    let trees : List DocumentTree = f.writes.trees in
    let g : Columns = columns_in f in
    let k : Columns = columns_of u s (rows_of q s found) in
    let shaped = found_rows (is_bare m s) (is_bare q s) same.bare same.alike in
    let lines : decorated g m (rows_of m s trees) ≡ decorated k q (rows_of q s found) =
    ap (λ z. gap_then z (lines_then (rows_of m s trees) (row_decos g m (rows_of m s trees)) [])) (sym same.gap)
    ∙ (ap (λ z. gap_then (first_gap k q (rows_of q s found)) (lines_then (rows_of m s trees) z [])) (sym same.decos)
    ∙ ap (λ z. gap_then (first_gap k q (rows_of q s found)) z) (same_lines (rows_of m s trees) (rows_of q s found) (row_decos k q (rows_of q s found)) [] shaped)) in
    f.writes.is ∙ (layout_then t m s trees ∙ (lines ∙ sym (layout_then u q s found)))

pub found_fixed : {t u : List ℕ} {s : Style} (f : IsFormatting t s u) (q : Lists) (found : List DocumentTree) → ReadingOf u q → FoundSame t f.normal s f.writes.trees u q found → IsFormatting u s u
found_fixed f q found a same = record {
  reading = q;
  normal = q;
  reads = a;
  is_normal = found_normal f q found same.of_reading same.alike;
  writes = record { trees = found; of_reading = same.of_reading; is = found_layout f q found same };
}
