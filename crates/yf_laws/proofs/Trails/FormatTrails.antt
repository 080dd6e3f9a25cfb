-- At most one comment trails each row of the layout of the normal form of a text's reading.
use Rattle.std.proofs.Common.{◌≡◌, ℕ, true, List, [], ◌∷◌, map, length, sym, ap, ◌∙◌, subst}
use Rattle.std.proofs.lemmas.List.{length-map}
use Rattle.yf_events.proofs.TreeLemmas.{trees_unique}
use Rattle.yf_events.specs.Tree.{DocumentTree, TreesOf}
use Rattle.yf_events.specs.declared.lists.Lists.{Lists}
use Rattle.yf_stream.proofs.Offsets.ReadingTrees.{TreesStand, reading_is_at}
use Rattle.yf_forms.specs.declared.style.Style.{Style}
use Rattle.yf_forms.specs.NormalForms.BareStart.{is_bare}
use Rattle.yf_laws.specs.Layouts.RowComments.{AreRemarks, TrailsFit}
use Rattle.yf_laws.specs.Layouts.Decorated.{rows_of}
use Rattle.yf_laws.specs.Format.{IsFormatting}
use Rattle.yf_laws.specs.FormatLaws.{FormatsTrailOnce}
use Rattle.yf_forms.specs.NormalForms.Forms.{documents_are_placed}
use Rattle.yf_laws.specs.Layouts.Layout.{source_of}
use Rattle.yf_forms.specs.NormalForms.Normal.{LayoutSetting, normal_document, setting_of}
use Rattle.yf_laws.proofs.Writable.CommentsFit.{reading_remarks}
use Rattle.yf_laws.proofs.Trails.DocumentTrails.{InHouse, all_leaves, leaves_of}
use Rattle.yf_laws.proofs.OfTexts.LeavesRise.{leaves_rise}
use Rattle.yf_laws.proofs.Trails.NodeTrails.{TreesKept, trails_fit}
use Rattle.yf_laws.proofs.NormalForms.NormalParts.{normal_leaves, normal_placed}
use Rattle.yf_laws.proofs.OfTexts.ReadingsOfTexts.{trees_placed}
use Rattle.yf_laws.proofs.Trails.RowLeaves.{leaves_on}
use Rattle.yf_laws.proofs.Trails.StillHolds.{trees_kept}
use Rattle.yf_laws.proofs.Trails.TrailChoice.{rising}

-- The trees of a normal form.

pub record NormalTrees (t : List ℕ) {s : Style} {u : List ℕ} (f : IsFormatting t s u) : Type 0 where
  pub trees : List DocumentTree
  pub of_reading : TreesOf f.reading trees
  pub same : f.writes.trees ≡ map (normal_document t (setting_of f.reading s)) trees
  pub documents : f.normal.documents ≡ f.reading.documents
  pub comments : f.normal.comments ≡ f.reading.comments

pub normal_trees : {t : List ℕ} {s : Style} {u : List ℕ} (f : IsFormatting t s u) → NormalTrees t f
normal_trees {t} {s} f =
    let n = f.is_normal in
    let g : DocumentTree → DocumentTree = normal_document t (setting_of f.reading s) in
    let documents : f.normal.documents ≡ f.reading.documents = ap (λ (w : Lists). w.documents) n.is in
    let of_normal : TreesOf f.normal (map g n.trees) =
    record { events = ap (λ (w : Lists). w.events) n.is; documents = ap length documents ∙ (n.of_reading.documents ∙ sym (length-map n.trees g)) } in
    record {
      trees = n.trees;
      of_reading = n.of_reading;
      same = trees_unique f.normal f.writes.trees (map g n.trees) f.writes.of_reading of_normal;
      documents = documents;
      comments = ap (λ (w : Lists). w.comments) n.is;
    }

-- What trails their rows.

pub kept_house : (c : LayoutSetting) (trees : List DocumentTree) → TreesKept c trees → InHouse c trees
kept_house c [] a = tt
kept_house c (d ∷ ds) a = (a.0.1.0, kept_house c ds a.1)

pub formats_trail : FormatsTrailOnce
formats_trail t u s utf8 f =
    let n = normal_trees f in
    let m : Lists = f.normal in
    let c : LayoutSetting = setting_of f.reading s in
    let trees : List DocumentTree = map (normal_document t c) n.trees in
    let w = reading_is_at utf8 f.reads in
    let stand : TreesStand t 0 f.reading.documents n.trees =
    subst (λ xs. TreesStand t 0 f.reading.documents xs) (trees_unique f.reading w.trees n.trees w.of_reading n.of_reading) w.stand in
    let setting : c ≡ setting_of m s = ap (λ cs. record { style = s; comments = cs }) (sym n.comments) in
    let kept : TreesKept (setting_of m s) trees = subst (λ d. TreesKept d trees) setting (trees_kept utf8 c stand) in
    let remarks : AreRemarks m.comments = subst (λ cs. AreRemarks cs) (sym n.comments) (reading_remarks utf8 f.reads) in
    let placed : documents_are_placed trees ≡ true = normal_placed t c n.trees ∙ trees_placed stand in
    let count : length m.documents ≡ length trees = f.writes.of_reading.documents ∙ ap length n.same in
    let rows : leaves_on (rows_of m s trees) ≡ leaves_of trees = all_leaves (setting_of m s) (is_bare m s) m.documents trees count placed (kept_house (setting_of m s) trees kept) in
    let rises : rising (leaves_on (rows_of m s trees)) ≡ true = ap rising (rows ∙ normal_leaves t c n.trees) ∙ leaves_rise stand in
    subst (λ xs. TrailsFit (source_of m (rows_of m s xs)) (rows_of m s xs)) (sym n.same) (trails_fit m s trees remarks kept rises)
