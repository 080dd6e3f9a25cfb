-- The collections that are open along the rows of documents, and so of a layout.
use Rattle.std.proofs.Common.{◌≡◌, ℕ, Bool, true, false, List, [], ◌∷◌, ◌++◌, map, refl, sym, ap, ◌∙◌, subst}
use Rattle.yf_events.specs.declared.directive.Directive.{Directive}
use Rattle.yf_events.specs.declared.document.Doc.{Doc}
use Rattle.yf_events.specs.Tree.{DocumentTree}
use Rattle.yf_forms.specs.declared.style.Style.{Style}
use Rattle.yf_forms.specs.NormalForms.BareStart.{is_bare}
use Rattle.yf_print.specs.declared.open_blocks.OpenBlock.{OpenBlock}
use Rattle.yf_laws.specs.Layouts.Decorated.{rows_of}
use Rattle.yf_laws.specs.Layouts.FitDocuments.{FitDocuments, fit_document, fit_no_documents}
use Rattle.yf_print.specs.Layouts.KeptColumns.{after_row, after_starts, beginning, unless_document}
use Rattle.yf_print.specs.Layouts.Rows.{Row, all_rows, plain_row, beginning_at, begun_at, directive_row, end_rows, start_row, stream_rows}
use Rattle.yf_forms.specs.NormalForms.Normal.{LayoutSetting, root_margins, setting_of}
use Rattle.yf_events.specs.declared.lists.Lists.{Lists}
use Rattle.yf_laws.proofs.SecondRun.ColumnsAgain.{InSteps, no_step, NextIsAt, next_document}
use Rattle.yf_laws.proofs.OutputLines.OpenChains.{no_body, Chained, chain_append, chain_over, chain_row}
use Rattle.yf_laws.proofs.OutputLines.ChainedRows.{After, root_run}

module _ (t : List ℕ) (c : LayoutSetting) where
  abbrev w : ℕ
  w = c.style.indent

  head_row : {bs : List OpenBlock} (x : Row) → InSteps w bs → x.starts ≡ [] → x.leaves ≡ [] → x.column ≡ 0 → x.body ≡ [] → Chained t w bs (x ∷ []) []
  head_row {bs} x s e f g h =
      let same : after_row t x bs ≡ [] = ap (λ z. after_starts t z (unless_document z x.leaves bs)) e ∙ ap (λ z. unless_document [] z bs) f in
      chain_row s (subst (λ z. NextIsAt x.column (beginning t z x.leaves)) (sym e) (subst (λ z. NextIsAt x.column (beginning t [] z)) (sym f) (next_document g))) (no_body _ _ h) (subst (λ z. Chained t w z [] []) (sym same) chain_over)

  directives_run : {bs : List OpenBlock} (dirs : List Directive) → InSteps w bs → Chained t w bs (map directive_row dirs ++ (start_row ∷ [])) []
  directives_run [] s = head_row start_row s refl refl refl refl
  directives_run (d ∷ ds) s = chain_append t w (head_row (directive_row d) s refl refl refl refl) (directives_run ds no_step)

  heads_run : {bs : List OpenBlock} (is_first : Bool) (start : ℕ) (dirs : List Directive) → InSteps w bs → Chained t w bs (beginning_at start (end_rows is_first dirs ++ (map directive_row dirs ++ (start_row ∷ [])))) []
  heads_run true start [] s = head_row (record start_row { items = start ∷ [] }) s refl refl refl refl
  heads_run true start (d ∷ ds) s = chain_append t w (head_row (record (directive_row d) { items = start ∷ [] }) s refl refl refl refl) (directives_run ds no_step)
  heads_run false start [] s = head_row (record start_row { items = start ∷ [] }) s refl refl refl refl
  heads_run false start (d ∷ ds) s = chain_append t w (head_row (record (plain_row 0 (46 ∷ 46 ∷ 46 ∷ [])) { items = start ∷ [] }) s refl refl refl refl) (directives_run (d ∷ ds) no_step)

  stream_run : (is_first : Bool) (ds : List Doc) (trees : List DocumentTree) {bs : List OpenBlock} → FitDocuments c.style ds trees → InSteps w bs → After t c bs (stream_rows c is_first ds trees) (λ now. Unit {0})
  stream_run is_first [] [] {bs} fit_no_documents s = record { now = bs; rows = chain_over; steps = s; holds = tt }
  stream_run is_first [] (x ∷ xs) f s = elim f [ ]
  stream_run is_first (d ∷ ds) [] f s = elim f [ ]
  stream_run is_first (d ∷ ds) (x ∷ xs) (fit_document f fit more) s =
      let root = root_run t c x.root fit (root_margins c.style) refl in
      let rest = stream_run false ds xs more root.steps in
      record { now = rest.now; rows = chain_append t w (chain_append t w (heads_run is_first d.start d.directives s) root.rows) rest.rows; steps = rest.steps; holds = tt }

  begun_run : {bs now : List OpenBlock} (start : ℕ) {xs : List Row} → Chained t w bs xs now → Chained t w bs (begun_at start xs) now
  begun_run start chain_over = chain_over
  begun_run start (chain_row s n r a) = chain_row s n r a

  all_run : (bare : Bool) (ds : List Doc) (trees : List DocumentTree) → FitDocuments c.style ds trees → After t c [] (all_rows c bare ds trees) (λ now. Unit {0})
  all_run false ds trees f = stream_run true ds trees f no_step
  all_run true [] [] f = record { now = []; rows = chain_over; steps = no_step; holds = tt }
  all_run true [] (x ∷ xs) f = elim f [ ]
  all_run true (d ∷ ds) [] f = elim f [ ]
  all_run true (d ∷ ds) (x ∷ xs) (fit_document f fit more) =
      let root = root_run t c x.root fit (root_margins c.style) refl in
      let rest = stream_run false ds xs more root.steps in
      record { now = rest.now; rows = chain_append t w (begun_run d.start root.rows) rest.rows; steps = rest.steps; holds = tt }

-- for a layout: the collections open after its last row
pub record Chain (t : List ℕ) (s : Style) (rs : List Row) : Type 0 where
  pub now : List OpenBlock
  pub rows : Chained t s.indent [] rs now
  pub steps : InSteps s.indent now

pub layout_chain : (t : List ℕ) (m : Lists) (s : Style) (trees : List DocumentTree) → FitDocuments s m.documents trees → Chain t s (rows_of m s trees)
layout_chain t m s trees fit = let all = all_run t (setting_of m s) (is_bare m s) m.documents trees fit in record { now = all.now; rows = all.rows; steps = all.steps }
