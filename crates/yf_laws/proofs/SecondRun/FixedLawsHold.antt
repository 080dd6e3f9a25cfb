-- The reading of a formatted text is in normal form.
use Rattle.std.proofs.Common.{◌≡◌, ℕ, ◌<◌, List, [], ◌∷◌, ◌++◌, length, map, sym, ap, ◌∙◌, subst, append-nil, Bool}
use Rattle.std.specs.Str.{IsUtf8}
use Rattle.std.proofs.lemmas.List.{length-map}
use Rattle.yf_comments.specs.Comment.{CommentValue}
use Rattle.yf_events.specs.Event.{stream_starts, stream_ends}
use Rattle.yf_events.specs.Tree.{DocumentTree, flat_stream, unplaced}
use Rattle.yf_events.specs.declared.document.Doc.{Doc}
use Rattle.yf_events.specs.declared.lists.Lists.{Lists}
use Rattle.yf_stream.specs.ReadingOf.{ReadingOf, doc_of}
use Rattle.yf_stream.specs.Stream.{Documents}
use Rattle.yf_forms.specs.declared.style.Style.{Style}
use Rattle.yf_laws.specs.Layouts.Decorated.{Deco, rows_of}
use Rattle.yf_laws.specs.Layouts.FitDocuments.{DocumentsMeant}
use Rattle.yf_laws.specs.FixedLaws.{FormatsAreNormal}
use Rattle.yf_laws.specs.Format.{IsFormatting}
use Rattle.yf_laws.specs.Preservation.FoundTrees.{FoundTrees}
use Rattle.yf_forms.specs.NormalForms.Normal.{LayoutSetting, normal_document, setting_of}
use Rattle.yf_print.specs.Layouts.Rows.{Row}
use Rattle.yf_laws.proofs.RowNodes.BareNodes.{bare_tree, bared, noting_bare}
use Rattle.yf_laws.proofs.RowNodes.BareTrees.{trees_bare}
use Rattle.yf_laws.proofs.SameReading.CommentsCut.{Each, each_none}
use Rattle.yf_laws.proofs.SecondRun.FixedFormats.{found_normal}
use Rattle.yf_laws.proofs.Trails.FormatTrails.{normal_trees}
use Rattle.yf_laws.proofs.Derived.FormatsRead.{FormattedLaid, formats_laid}
use Rattle.yf_laws.proofs.RowNodes.FoundStreams.{StreamIn, no_stream, stream_in, AllFound}
use Rattle.yf_laws.proofs.RowNodes.FoundTexts.{Settled, normal_settled, AllRoots, all_roots_found, all_trees_found}
use Rattle.yf_laws.proofs.RowNodes.PlacedRows.{PlacedRow}
use Rattle.yf_laws.proofs.RowNodes.QuietPlaces.{AllQuiet, quiet_none, ascend_under, Carries, decos_carry, Linked, linked_none, quiet_offsets, linked_offsets, rows_linked, rows_quiet}
use Rattle.yf_forms.specs.NormalForms.BareStart.{is_bare}
use Rattle.yf_laws.proofs.SameReading.BareAgain.{same_bare}

-- Streams.

stream_quiet : {t : List ℕ} {rs : List Row} {ps : List PlacedRow} {ds : List Deco} {i : ℕ} {cs : List CommentValue} (before : List CommentValue) → Each (λ (d : CommentValue). d.offset < i) before → StreamIn t rs ps ds i cs
    → AllQuiet (before ++ cs) ps
stream_quiet before a no_stream = quiet_none
stream_quiet before a (stream_in {ps = ps} {cs = cs} b rows) = subst (λ z. AllQuiet (before ++ z) ps) (append-nil cs) (rows_quiet before [] a each_none rows)

stream_linked : {t : List ℕ} {rs : List Row} {ps : List PlacedRow} {ds : List Deco} {i : ℕ} {cs : List CommentValue} (before : List CommentValue) → Carries rs ds → StreamIn t rs ps ds i cs → Linked (before ++ cs) ps
stream_linked before c no_stream = linked_none
stream_linked before c (stream_in {ps = ps} {cs = cs} b rows) = subst (λ z. Linked (before ++ z) ps) (append-nil cs) (rows_linked before [] c rows)

-- Readings of a formatted text: the trees that are found, which are those of the reading except for notes on blank
-- lines, and their rows.
pub record RootsRead (u : List ℕ) (c : LayoutSetting) (bare : Bool) (cs : List CommentValue) (es : List Doc) (trees read : List DocumentTree) (ps : List PlacedRow) : Type 0 where
  pub found : List DocumentTree
  pub roots : AllRoots u c bare es trees found ps
  pub same : map bare_tree found ≡ map bare_tree read
  pub settled : Settled c trees
  pub quiet : AllQuiet cs ps
  pub linked : Linked cs ps

pub roots_read : (t u : List ℕ) (s : Style) (utf8 : IsUtf8 t) (f : IsFormatting t s u) (q : Lists) (a : ReadingOf u q)
    → RootsRead u (setting_of f.normal s) (is_bare f.normal s) q.comments q.documents f.writes.trees a.trees (formats_laid t u s utf8 f).found_rows
roots_read t u s utf8 f q a =
    let all = formats_laid t u s utf8 f in
    let m : Lists = f.normal in
    let trees : List DocumentTree = f.writes.trees in
    let c : LayoutSetting = setting_of m s in
    let shapes = a.reads.shapes in
    let derived : a.derived ≡ all.well.documents = all.well.reads.shapes.only shapes.height a.derived shapes.derived shapes.within in
    let b : Bool = is_bare m s in
    let found : AllFound u c b trees a.derived.documents all.found_rows = subst (λ (w : Documents). AllFound u c b trees w.documents all.found_rows) (sym derived) all.found in
    let comments : all.firsts ++ all.others ≡ a.derived.comments = sym all.are ∙ ap (λ (w : Documents). w.comments) (sym derived) in
    let roots = all_roots_found found a.events in
    let count : length q.documents ≡ length a.derived.documents = ap length a.documents ∙ length-map a.derived.documents doc_of in
    let events : bared (flat_stream roots.trees) ≡ bared (flat_stream a.trees) =
    ap (λ z. bared (unplaced stream_starts ∷ (z ++ (unplaced stream_ends ∷ [])))) (sym roots.events) ∙ (sym (noting_bare a.noted) ∙ ap bared a.of_reading.events) in
    let n = normal_trees f in
    record {
      found = roots.trees;
      roots = subst (λ z. AllRoots u c b z trees roots.trees all.found_rows) (sym a.documents) roots.roots;
      same = trees_bare q roots.trees a.trees (count ∙ roots.count) a.of_reading.documents events;
      settled = subst (λ z. Settled c z) (sym (n.same ∙ ap (λ cs. map (normal_document t (record { style = s; comments = cs })) n.trees) (sym n.comments))) (normal_settled t c n.trees);
      quiet = quiet_offsets a.comments (subst (λ z. AllQuiet z all.found_rows) comments (stream_quiet all.firsts (ascend_under all.ascend) all.placed));
      linked = linked_offsets a.comments (subst (λ z. Linked z all.found_rows) comments (stream_linked all.firsts (decos_carry _ _ _ (rows_of m s trees)) all.placed));
    }

-- What is found in each reading q of a formatted text: its trees, as they were laid out, on the rows of the layout.
pub record FoundReading {t : List ℕ} {s : Style} {u : List ℕ} (f : IsFormatting t s u) (q : Lists) (a : ReadingOf u q) : Type 0 where
  pub laid : FormattedLaid f
  pub derived : a.derived ≡ laid.well.documents
  pub quiet : AllQuiet q.comments laid.found_rows
  pub trees : List DocumentTree
  pub bare : is_bare q s ≡ is_bare f.normal s
  pub roots : AllRoots u (setting_of f.normal s) (is_bare f.normal s) q.documents f.writes.trees trees laid.found_rows
  pub same : map bare_tree trees ≡ map bare_tree a.trees
  pub alike : FoundTrees s f.normal.comments u q.comments f.normal.documents f.writes.trees q.documents a.trees

pub found_reading : (t u : List ℕ) (s : Style) (q : Lists) → IsUtf8 t → (f : IsFormatting t s u) → (a : ReadingOf u q) → FoundReading f q a
found_reading t u s q utf8 f a =
    let all = formats_laid t u s utf8 f in
    let m : Lists = f.normal in
    let trees : List DocumentTree = f.writes.trees in
    let shapes = a.reads.shapes in
    let derived : a.derived ≡ all.well.documents = all.well.reads.shapes.only shapes.height a.derived shapes.derived shapes.within in
    let meant : DocumentsMeant (is_bare m s) m.documents trees a.derived.documents = subst (λ (w : Documents). DocumentsMeant (is_bare m s) m.documents trees w.documents) (sym derived) all.well.meant in
    let read = roots_read t u s utf8 f q a in
    let here : FoundTrees s m.comments u q.comments m.documents trees (map doc_of a.derived.documents) a.trees = all_trees_found a.trees meant read.roots read.same read.settled read.quiet read.linked in
    record {
      laid = all;
      derived = derived;
      quiet = read.quiet;
      trees = read.found;
      bare = same_bare t u s q utf8 f a;
      roots = read.roots;
      same = read.same;
      alike = subst (λ z. FoundTrees s m.comments u q.comments m.documents trees z a.trees) (sym a.documents) here;
    }

pub formats_normal : FormatsAreNormal
formats_normal t u s utf8 f q a = found_normal f q a.trees a.of_reading (found_reading t u s q utf8 f a).alike
