-- The rows of the normal form of a text's reading, and its comments: the rows are upright.
use Rattle.std.proofs.Common.{◌≡◌, ℕ, ◌+◌, Bool, true, false, List, [], ◌∷◌, ◌++◌, length, map, refl, sym, ap, ◌∙◌, subst, ◌≤◌}
use Rattle.std.specs.Str.{IsUtf8}
use Rattle.std.proofs.lemmas.List.{length-map}
use Rattle.yf_chars.specs.Text.{code}
use Rattle.yf_comments.specs.Comment.{CommentValue}
use Rattle.yf_events.specs.Event.{EventInText}
use Rattle.yf_events.specs.Reading.{leaf_starts, leaves_before}
use Rattle.yf_events.specs.Tree.{DocumentTree, TreesOf, flat_stream, leaves}
use Rattle.yf_events.specs.declared.directive.Directive.{Directive}
use Rattle.yf_events.specs.declared.document.Doc.{Doc}
use Rattle.yf_events.specs.declared.lists.Lists.{Lists}
use Rattle.yf_events.proofs.TreeLemmas.{trees_unique}
use Rattle.yf_grammar.proofs.Documents.CommentOrder.{Ascend, one_more}
use Rattle.yf_stream.specs.ReadingOf.{NotedComments, no_comment, one_comment, ReadingOf}
use Rattle.yf_stream.proofs.Offsets.DirectiveOrder.{directives_order}
use Rattle.yf_stream.proofs.Offsets.ReadingOrder.{stream_ascends}
use Rattle.yf_stream.proofs.Offsets.ReadingTrees.{TreesStand, no_trees_stand, tree_is_at, reading_is_at}
use Rattle.yf_forms.specs.declared.style.Style.{Style}
use Rattle.yf_laws.specs.Layouts.RowComments.{AreRemarks}
use Rattle.yf_forms.specs.NormalForms.Forms.{documents_are_placed}
use Rattle.yf_laws.specs.Layouts.Layout.{source_of}
use Rattle.yf_forms.specs.NormalForms.Normal.{LayoutSetting, normal_document, root_margins, setting_of}
use Rattle.yf_print.specs.Layouts.Rows.{Row, beginning_at, directive_row, end_rows, rows, start_row, stream_rows, all_rows, begun_at}
use Rattle.yf_laws.proofs.Derived.LayoutSteps.{steps_of, comments_of}
use Rattle.yf_laws.proofs.SameReading.CommentsCut.{In, in_first, in_rest, Upward, upward_none, upward_more, upward_of}
use Rattle.yf_laws.proofs.Writable.CommentsFit.{reading_remarks}
use Rattle.yf_laws.proofs.SameReading.StepComments.{comments_told, stream_starts_are}
use Rattle.yf_laws.proofs.Trails.DocumentTrails.{leaves_of, all_leaves}
use Rattle.yf_laws.proofs.SameReading.FoundAgain.{Unsigned, no_start}
use Rattle.yf_laws.proofs.SameReading.ItemsOrder.{items_on, items_append, node_unsigned, unsigned_at, unsigned_join}
use Rattle.yf_laws.proofs.OfTexts.LeavesRise.{leaves_rise}
use Rattle.yf_laws.proofs.OfTexts.MarksOrder.{Rises, no_place, a_place, rises_join, rises_after}
use Rattle.yf_laws.proofs.Trails.NodeTrails.{TreesKept, all_tidy}
use Rattle.yf_laws.proofs.NormalForms.NormalParts.{normal_leaves, normal_placed}
use Rattle.yf_laws.proofs.NormalForms.NormalSame.{root_same}
use Rattle.yf_laws.proofs.OfTexts.PlacedTrees.{node_placed}
use Rattle.yf_laws.proofs.SameReading.PrintSteps.{trimmed_by}
use Rattle.yf_laws.proofs.SameReading.QuietRows.{node_flows}
use Rattle.yf_laws.proofs.SameReading.QuietTrees.{free_at, node_sits}
use Rattle.yf_laws.proofs.OfTexts.ReadingsOfTexts.{trees_placed}
use Rattle.yf_laws.proofs.SameReading.RowFlow.{Upright, rows_flow, starts_are, starts_on}
use Rattle.yf_laws.proofs.Trails.RowLeaves.{leaves_on}
use Rattle.yf_laws.proofs.Trails.RowTrails.{TidyRows}
use Rattle.yf_laws.proofs.SameReading.RowsFit.{none_fits, no_key, RowsFit, no_rows_fit, row_fits, fit_append, begun_fits}
use Rattle.yf_laws.proofs.SameReading.StartsBefore.{starts_before}
use Rattle.yf_laws.proofs.Derived.StepsInText.{starts_of}
use Rattle.yf_laws.proofs.Trails.StillHolds.{trees_kept}
use Rattle.yf_laws.proofs.NormalForms.StyledTwice.{normal_house}
use Rattle.yf_laws.proofs.Trails.TrailChoice.{rising}
use Rattle.yf_laws.proofs.Trails.FormatTrails.{kept_house}
use Rattle.yf_laws.proofs.SameReading.UprightRows.{rows_upright}
use Rattle.yf_forms.specs.NormalForms.BareStart.{is_bare}
use Rattle.yf_print.specs.Layouts.KeptColumns.{Columns}

-- The rows that begin a document.

abbrev pub head_rows : Bool → Doc → List Row
head_rows is_first d = beginning_at d.start (end_rows is_first d.directives ++ (map directive_row d.directives ++ (start_row ∷ [])))

directive_items : (ds : List Directive) → items_on (map directive_row ds ++ (start_row ∷ [])) ≡ []
directive_items [] = refl
directive_items (d ∷ ds) = directive_items ds

head_items : (is_first : Bool) (start : ℕ) (ds : List Directive) → items_on (beginning_at start (end_rows is_first ds ++ (map directive_row ds ++ (start_row ∷ [])))) ≡ start ∷ []
head_items true start [] = refl
head_items true start (d ∷ ds) = ap (λ w. start ∷ w) (directive_items ds)
head_items false start [] = refl
head_items false start (d ∷ ds) = ap (λ w. start ∷ w) (directive_items (d ∷ ds))

directives_fit : (cs : List CommentValue) (ds : List Directive) → RowsFit cs (map directive_row ds ++ (start_row ∷ []))
directives_fit cs [] = row_fits (none_fits []) (no_key refl) no_rows_fit
directives_fit cs (d ∷ ds) = row_fits (none_fits []) (no_key refl) (directives_fit cs ds)

head_fits : (cs : List CommentValue) (is_first : Bool) (start : ℕ) (ds : List Directive) → RowsFit cs (beginning_at start (end_rows is_first ds ++ (map directive_row ds ++ (start_row ∷ []))))
head_fits cs true start [] = row_fits (none_fits (start ∷ [])) (no_key refl) no_rows_fit
head_fits cs true start (d ∷ ds) = row_fits (none_fits (start ∷ [])) (no_key refl) (directives_fit cs ds)
head_fits cs false start [] = row_fits (none_fits (start ∷ [])) (no_key refl) no_rows_fit
head_fits cs false start (d ∷ ds) = row_fits (none_fits (start ∷ [])) (no_key refl) (directives_fit cs (d ∷ ds))

-- Streams.

module _ {t : List ℕ} (u : IsUtf8 t) (c : LayoutSetting) (sign : (d : CommentValue) → In d c.comments → code t d.offset ≡ 35) where
  stream_flows : {i : ℕ} {ds : List Doc} {trees : List DocumentTree} (is_first : Bool) → TreesStand t i ds trees
      → Rises i (items_on (stream_rows c is_first ds (map (normal_document t c) trees))) (length t) × RowsFit c.comments (stream_rows c is_first ds (map (normal_document t c) trees))
  stream_flows is_first (no_trees_stand l) = (no_place l, no_rows_fit)
  stream_flows {i} is_first (tree_is_at {j = j} {d = d} {ds = ds} {tree = tree} {trees = trees} a b more z) =
      let head : List Row = head_rows is_first d in
      let root : List Row = rows c (root_margins c.style) (normal_document t c tree).root in
      let others : List Row = stream_rows c false ds (map (normal_document t c) trees) in
      let node = node_flows c (node_sits u c sign (root_margins c.style) b) ((root_same t c tree).placed ∙ node_placed b) (normal_house t c (root_margins c.style) tree.root) in
      let rest = stream_flows false more in
      let first : Rises i (items_on (head ++ root)) j =
      subst (λ z. Rises i z j) (sym (items_append head root ∙ ap (λ w. w ++ items_on root) (head_items is_first d.start d.directives))) (a_place (directives_order a) (node.rises (root_margins c.style))) in (
        subst (λ z. Rises i z (length t)) (sym (items_append (head ++ root) others)) (rises_join first rest.0),
        fit_append (fit_append (head_fits c.comments is_first d.start d.directives) (node.fits (root_margins c.style))) rest.1,
      )

  begun_rises : {i start j : ℕ} (rs : List Row) → i ≤ start → Rises start (items_on rs) j → Rises i (items_on (begun_at start rs)) j
  begun_rises [] l a = rises_after l a
  begun_rises (r ∷ rs) l a = a_place l a

  all_flows : {i : ℕ} {ds : List Doc} {trees : List DocumentTree} (bare : Bool) → TreesStand t i ds trees
      → Rises i (items_on (all_rows c bare ds (map (normal_document t c) trees))) (length t) × RowsFit c.comments (all_rows c bare ds (map (normal_document t c) trees))
  all_flows false stand = stream_flows true stand
  all_flows true (no_trees_stand l) = (no_place l, no_rows_fit)
  all_flows {i} true (tree_is_at {j = j} {d = d} {ds = ds} {tree = tree} {trees = trees} a b more z) =
      let root : List Row = rows c (root_margins c.style) (normal_document t c tree).root in
      let others : List Row = stream_rows c false ds (map (normal_document t c) trees) in
      let node = node_flows c (node_sits u c sign (root_margins c.style) b) ((root_same t c tree).placed ∙ node_placed b) (normal_house t c (root_margins c.style) tree.root) in
      let rest = stream_flows false more in
      let first : Rises i (items_on (begun_at d.start root)) j = begun_rises root (directives_order a) (node.rises (root_margins c.style)) in
      (subst (λ z. Rises i z (length t)) (sym (items_append (begun_at d.start root) others)) (rises_join first rest.0), fit_append (begun_fits root (node.rises (root_margins c.style)) (node.fits (root_margins c.style))) rest.1)

trees_unsigned : {t : List ℕ} {i : ℕ} {ds : List Doc} {trees : List DocumentTree} → TreesStand t i ds trees → Unsigned t (starts_of (leaves_of trees))
trees_unsigned (no_trees_stand l) = no_start
trees_unsigned (tree_is_at {tree = tree} {trees = trees} a b more z) = unsigned_join (leaves tree.root) (leaves_of trees) (node_unsigned b) (trees_unsigned more)

-- Comments with their notes.

pub noted_upward : {t : List ℕ} {es : List EventInText} {i : ℕ} {xs ys : List CommentValue} → Upward i xs → NotedComments t es xs ys → Upward i ys
noted_upward upward_none no_comment = upward_none
noted_upward (upward_more l a) (one_comment n b) = upward_more l (noted_upward a b)

noted_sign : (d : CommentValue) {t : List ℕ} {es : List EventInText} {xs ys : List CommentValue} → NotedComments t es xs ys → (i j : ℕ) → Ascend t i xs j → In d ys → code t d.offset ≡ 35
noted_sign d (one_comment n b) i j (one_more l s a) in_first = s.sign
noted_sign d (one_comment {c = c} n b) i j (one_more l s a) (in_rest k) = noted_sign d b (c.offset + 1) j a k
noted_sign d no_comment i j a k = elim k [ ]

-- The normal form of a reading, with the trees of the reading.
abbrev pub normal_of : List ℕ → Style → Lists → List DocumentTree → Lists
normal_of t s r trees = record r { events = flat_stream (map (normal_document t (setting_of r s)) trees) }

abbrev pub normal_rows : List ℕ → Style → Lists → List DocumentTree → List Row
normal_rows t s r trees = all_rows (setting_of r s) (is_bare (normal_of t s r trees) s) r.documents (map (normal_document t (setting_of r s)) trees)

pub record SourceIsAt (t : List ℕ) (s : Style) (r : Lists) (trees : List DocumentTree) : Type 0 where
  pub stand : TreesStand t 0 r.documents trees
  pub order : Upward 0 r.comments
  pub sign : (d : CommentValue) → In d r.comments → code t d.offset ≡ 35
  pub leaves_are : leaves_on (normal_rows t s r trees) ≡ leaves_of trees
  pub rises : rising (leaves_on (normal_rows t s r trees)) ≡ true
  pub unsigned : Unsigned t (starts_of (leaves_on (normal_rows t s r trees)))
  pub noted : length r.on_leaf_line ≡ length r.comments
  pub upright : Upright (source_of (normal_of t s r trees) (normal_rows t s r trees)) r.comments 0 (normal_rows t s r trees)

pub source_is_at : (t : List ℕ) (s : Style) (r : Lists) (trees : List DocumentTree) → IsUtf8 t → ReadingOf t r → TreesOf r trees → SourceIsAt t s r trees
source_is_at t s r trees u a of_reading =
    let c : LayoutSetting = setting_of r s in
    let w = reading_is_at u a in
    let stand : TreesStand t 0 r.documents trees = subst (λ xs. TreesStand t 0 r.documents xs) (trees_unique r w.trees trees w.of_reading of_reading) w.stand in
    let ascends = stream_ascends a.reads.shapes.derived in
    let order : Upward 0 r.comments = noted_upward (upward_of ascends) a.comments in
    let sign : (d : CommentValue) → In d r.comments → code t d.offset ≡ 35 = λ d i. noted_sign d a.comments 0 (length t) ascends i in
    let all : List Row = normal_rows t s r trees in
    let kept : TreesKept c (map (normal_document t c) trees) = trees_kept u c stand in
    let remarks : AreRemarks r.comments = reading_remarks u a in
    let placed : documents_are_placed (map (normal_document t c) trees) ≡ true = normal_placed t c trees ∙ trees_placed stand in
    let count : length r.documents ≡ length (map (normal_document t c) trees) = of_reading.documents ∙ sym (length-map trees (normal_document t c)) in
    let leaves_are : leaves_on all ≡ leaves_of trees =
    all_leaves c (is_bare (normal_of t s r trees) s) r.documents (map (normal_document t c) trees) count placed (kept_house c (map (normal_document t c) trees) kept) ∙ normal_leaves t c trees in
    let rises : rising (leaves_on all) ≡ true = ap rising leaves_are ∙ leaves_rise stand in
    let unsigned : Unsigned t (starts_of (leaves_on all)) = subst (λ ls. Unsigned t (starts_of ls)) (sym leaves_are) (trees_unsigned stand) in
    let flows = all_flows u c sign (is_bare (normal_of t s r trees) s) stand in
    let tidy : TidyRows r.comments all [] = all_tidy c (is_bare (normal_of t s r trees) s) r.documents (map (normal_document t c) trees) [] remarks kept in
    record {
      stand = stand;
      order = order;
      sign = sign;
      leaves_are = leaves_are;
      rises = rises;
      unsigned = unsigned;
      noted = ap length a.notes ∙ length-map r.comments _;
      upright = rows_upright (source_of (normal_of t s r trees) all) r.comments r.on_leaf_line refl rises order (λ n b. free_at u r.comments sign (unsigned_at unsigned b)) [] [] all refl refl tidy flows.1 flows.0;
    }

-- So the layout determines for each comment the number of leaves of the reading before it.
pub source_told : (g : Columns) (t : List ℕ) (s : Style) (r : Lists) (trees : List DocumentTree) → IsUtf8 t → ReadingOf t r → TreesOf r trees
    → comments_of 0 (steps_of g (normal_of t s r trees) (normal_rows t s r trees)) ≡ trimmed_by (leaves_before r) r.comments
source_told g t s r trees u a of_reading =
    let w = source_is_at t s r trees u a of_reading in
    let m : Lists = normal_of t s r trees in
    let all : List Row = normal_rows t s r trees in
    let starts : starts_on all ≡ leaf_starts r.events = starts_are all ∙ (ap starts_of w.leaves_are ∙ (sym (stream_starts_are trees) ∙ ap leaf_starts (sym of_reading.events))) in
    comments_told g m all (starts_on all) w.noted w.order (rows_flow (source_of m all) r.comments w.sign w.unsigned w.upright) ∙ ap (λ ss. trimmed_by (starts_before ss) r.comments) starts
