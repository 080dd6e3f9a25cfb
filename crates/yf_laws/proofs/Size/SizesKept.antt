-- A formatted text has at most (n + 1) · (c + 8) bytes; n is the number of bytes of the text, and c the greatest column
-- of a line.
use Rattle.std.proofs.Common.{◌≡◌, ℕ, suc, ◌+◌, ◌*◌, ◌≤◌, List, [], ◌∷◌, length, map, max, flat_map, refl, sym, ap, ◌∙◌, subst, arith}
use Rattle.std.proofs.Math.Nat.{mul_comm, mul-le-mul_right, suc-mul}
use Rattle.std.specs.Prelude.{Bool, true, false, if◌then◌else◌}
use Rattle.std.specs.Str.{IsUtf8}
use Rattle.yf_comments.specs.Comment.{CommentValue}
use Rattle.yf_comments.specs.GapLines.{gap_then, remarks_of}
use Rattle.yf_events.proofs.TreeLemmas.{trees_unique}
use Rattle.yf_events.specs.Reading.{leaves_before}
use Rattle.yf_events.specs.Tree.{DocumentTree, TreesOf, flat_document}
use Rattle.yf_events.specs.declared.lists.Lists.{Lists}
use Rattle.yf_events.specs.declared.reading.TheConstants.{DEPTH}
use Rattle.yf_stream.proofs.LawsHold.{readings_are_one}
use Rattle.yf_stream.proofs.Offsets.ReadingTrees.{reading_is_at}
use Rattle.yf_stream.proofs.Uniqueness.StreamDocuments.{stream_derived}
use Rattle.yf_forms.specs.declared.style.Style.{Style}
use Rattle.yf_laws.specs.Format.{IsFormatting}
use Rattle.yf_forms.specs.NormalForms.BareStart.{is_bare}
use Rattle.yf_laws.specs.Layouts.Decorated.{first_gap, lines_then, row_decos, rows_of}
use Rattle.yf_print.specs.Layouts.CommentColumns.{begins_document}
use Rattle.yf_print.specs.declared.open_blocks.OpenBlock.{OpenBlock}
use Rattle.yf_laws.specs.Layouts.FitDocuments.{tall_documents}
use Rattle.yf_print.specs.Layouts.KeptColumns.{Columns, after_row, column_above, column_among_rows, is_bodyless, keeps_blocks, precedes_item}
use Rattle.yf_laws.specs.Layouts.Layout.{own_line_comments, source_of}
use Rattle.yf_print.specs.Layouts.Rows.{Row, at_text_start}
use Rattle.yf_print.specs.Layouts.SourceColumns.{own_column}
use Rattle.yf_forms.specs.NormalForms.Normal.{LayoutSetting, normal_document, setting_of}
use Rattle.yf_laws.specs.Preservation.CommentsPlaced.{columns_in}
use Rattle.yf_laws.specs.Preservation.SizeKept.{SizeKept}
use Rattle.yf_laws.specs.Preservation.TidyLines.{BlockScalar, block_scalars}
use Rattle.yf_laws.proofs.Derived.DecoratedLemmas.{layout_then}
use Rattle.yf_laws.proofs.Derived.LayoutSteps.{steps_in, steps_of}
use Rattle.yf_laws.proofs.Keeps.RowColumns.{IsStep, Stepped, no_step, none_stepped, row_stepped, all_stepped}
use Rattle.yf_laws.proofs.Keeps.GapColumns.{BlockSteps}
use Rattle.yf_laws.proofs.OutputLines.ColumnsHold.{above_holds, after_blocks, blocks_map, column_holds, if_holds, no_blocks}
use Rattle.yf_laws.proofs.OutputLines.FormattedLines.{formed}
use Rattle.yf_laws.proofs.Derived.FormatsRead.{root_tall}
use Rattle.yf_laws.proofs.SameReading.StepLeaves.{comments_laid, laid_trees}
use Rattle.yf_grammar.specs.Productions.TreesOfMeaning.{tall}
use Rattle.yf_laws.proofs.Size.DocumentRows.{TreesCost, all_size, documents_weight}
use Rattle.yf_laws.proofs.Size.LayoutBytes.{LowColumns, LowRows, no_rows_low, one_row_low, all_steps, comments_cost, rows_size, steps_told, told_cost}
use Rattle.yf_laws.proofs.Size.ReadingBytes.{DocumentsCost, documents_cost, reading_bytes, trees_bulk}
use Rattle.yf_laws.proofs.Size.RowBytes.{price_add, price_is, price_more}
use Rattle.yf_laws.proofs.Size.Weights.{remarks_weight}

step_low : {indent limit column : ℕ} → IsStep indent limit column → column ≤ indent * limit
step_low {indent} {limit} e = let l = mul-le-mul_right indent e.low in let turned = mul_comm limit indent in omega (arith, e.is, l, turned)

stepped_low : {indent limit : ℕ} {bs : List BlockScalar} {xs : List Row} → Stepped indent limit bs xs → LowRows (indent * limit) xs
stepped_low none_stepped = no_rows_low
stepped_low (row_stepped e h b more) = one_row_low (step_low e) (stepped_low more)

-- a comment that is somewhere among the rows, or after them
among_step : {limit : ℕ} (t : List ℕ) (s : Style) {os : List OpenBlock} (may : Bool) {bs : List BlockScalar} {xs : List Row} → BlockSteps s.indent limit os → Stepped s.indent limit bs xs → (d : CommentValue)
    → IsStep s.indent limit (column_among_rows t s os may xs d)
among_step {limit} t s may o none_stepped d =
    column_holds (IsStep s.indent limit) s.indent may 0 (own_column t d.offset) begins_document no_step no_step (blocks_map (λ k p. p.0) o) (λ e. blocks_map (λ k p. p.1) o)
among_step {limit} t s {os} may o (row_stepped {x = x} {xs = xs} a h b more) d = by (precedes_item x d) (among_step t s {os = after_row t x os} (is_bodyless x.body) (after_blocks t x h o) more d) where
  by : (c : Bool) → IsStep s.indent limit (column_among_rows t s (after_row t x os) (is_bodyless x.body) xs d)
      → IsStep s.indent limit (if c then column_above t s os may x d else column_among_rows t s (after_row t x os) (is_bodyless x.body) xs d)
  by true later = above_holds (IsStep s.indent limit) t s may x d a no_step (blocks_map (λ k p. p.0) o) (λ e. blocks_map (λ k p. p.1) o)
  by false later = later

-- no other collections are open in the normal form
normal_tall : (t : List ℕ) (c : LayoutSetting) (trees : List DocumentTree) → tall_documents (map (normal_document t c) trees) ≡ tall_documents trees
normal_tall t c [] = refl
normal_tall t c (x ∷ xs) = ap (λ k. max k (tall_documents (map (normal_document t c) xs))) (root_tall t c x) ∙ ap (λ k. max (tall x.root) k) (normal_tall t c xs)

module _ {t u : List ℕ} {s : Style} (utf8 : IsUtf8 t) (f : IsFormatting t s u) where
  abbrev trees : List DocumentTree
  trees = (reading_is_at utf8 f.reads).trees

  abbrev setting : LayoutSetting
  setting = setting_of f.reading s

  laid : f.writes.trees ≡ map (normal_document t setting) trees
  laid = laid_trees f ∙ ap (map (normal_document t setting)) (trees_unique f.reading f.is_normal.trees trees f.is_normal.of_reading (reading_is_at utf8 f.reads).of_reading)

  cost : DocumentsCost t setting f.reads.reads.shapes.height trees
  cost = documents_cost t setting utf8 (stream_derived f.reads.reads.shapes.derived) (reading_is_at utf8 f.reads).meant

  -- if at most d collections are open at once
  sized : (d : ℕ) → tall_documents trees ≤ d → length u ≤ suc (length t) * (s.indent * suc d + 8)
  sized d l =
      let w : ℕ = s.indent * suc d in
      let m : Lists = f.normal in
      let rows : List Row = rows_of m s f.writes.trees in
      let height : tall_documents f.writes.trees ≡ tall_documents trees = ap tall_documents laid ∙ normal_tall t setting trees in
      let steps : Stepped s.indent (suc d) (block_scalars (flat_map flat_document f.writes.trees)) rows = all_stepped (setting_of m s) (suc d) (is_bare m s) (omega (arith, height, l)) (formed utf8 f).fit in
      let g : Columns = columns_in f in
      let low : LowColumns w g = λ c next k. if_holds (λ n. n ≤ w) (keeps_blocks s) (step_low (among_step t s true no_blocks steps c)) k in
      let lay : u ≡ gap_then (first_gap g m rows) (lines_then rows (row_decos g m rows) []) = f.writes.is ∙ layout_then t m s f.writes.trees in
      let all = rows_size w g at_text_start (source_of m rows) (own_line_comments (source_of m rows) rows) low (stepped_low steps) in
      let costs : TreesCost s (trees_bulk trees) f.writes.trees = subst (λ xs. TreesCost s (trees_bulk trees) xs) (sym laid) cost.costs in
      let fits : tall_documents f.writes.trees * s.indent + s.indent ≤ w =
      (let a = mul-le-mul_right s.indent l in let b = suc-mul d s.indent in let e = mul_comm (suc d) s.indent in let g = ap (λ k. k * s.indent) height in omega (arith, a, b, e, g)) in
      let lines = all_size (setting_of m s) w (is_bare m s) m.documents costs fits in
      let told = ap (told_cost w) (comments_laid utf8 f) in
      let counted = steps_told w 0 (steps_of g m rows) in
      let apart = all_steps w (remarks_of (first_gap g m rows)) (steps_in rows (row_decos g m rows)) in
      let comments = comments_cost w (leaves_before f.reading) f.reading.comments in
      let documents : documents_weight m.documents ≡ documents_weight f.reading.documents = ap (λ (z : Lists). documents_weight z.documents) f.is_normal.is in
      let bytes = reading_bytes utf8 f.reads in
      let sum = price_add w (documents_weight m.documents + trees_bulk trees) (remarks_weight f.reading.comments) in
      let most = price_more w {a = (documents_weight m.documents + trees_bulk trees) + remarks_weight f.reading.comments} {b = suc (length t)} (omega (arith, documents, bytes)) in
      let is = price_is (setting_of m s) w (suc (length t)) in
      omega (arith, ap length lay, all, lines, told, counted, apart, comments, sum, most, is)

pub sizes_kept : (t u : List ℕ) (s : Style) → IsUtf8 t → IsFormatting t s u → SizeKept t s u
sizes_kept t u s utf8 f = record {
  by_depth = λ r a.
      let same : r ≡ f.reading = readings_are_one t f.reading r f.reads a in
      let of_reading : TreesOf f.reading a.trees = subst (λ (z : Lists). TreesOf z a.trees) same a.of_reading in
      let one : trees utf8 f ≡ a.trees = trees_unique f.reading (trees utf8 f) a.trees (reading_is_at utf8 f.reads).of_reading of_reading in
      sized utf8 f (tall_documents a.trees) (let e = ap tall_documents one in omega (arith, e));
  at_most = sized utf8 f DEPTH (let low = (cost utf8 f).low in let within = f.reads.reads.shapes.within in omega (arith, low, within));
}
