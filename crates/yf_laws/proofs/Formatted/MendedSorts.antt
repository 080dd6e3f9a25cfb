-- Each line of a formatted text is a blank one between rows, ends visibly, or is a line of a block scalar of the
-- reading.
use Rattle.std.proofs.Common.{◌≡◌, ℕ, zero, suc, ◌+◌, List, ◌∷◌, Some, refl, sym, ◌∙◌, subst, arith}
use Rattle.std.specs.Prelude.{slice_get}
use Rattle.std.specs.Str.{IsUtf8}
use Rattle.std.proofs.lemmas.Option.{same_Some}
use Rattle.yf_lines.specs.Lines.{Table}
use Rattle.yf_lines.specs.declared.line.Line.{Line}
use Rattle.yf_events.specs.declared.lists.Lists.{Lists}
use Rattle.yf_laws.specs.Layouts.Decorated.{row_decos, rows_of}
use Rattle.yf_laws.specs.Layouts.Layout.{own_line_comments, source_of}
use Rattle.yf_forms.specs.NormalForms.Normal.{setting_of}
use Rattle.yf_print.specs.Layouts.Rows.{at_text_start}
use Rattle.yf_forms.specs.declared.style.Style.{Style}
use Rattle.yf_laws.proofs.OutputLines.FormattedHeld.{reading_held}
use Rattle.yf_laws.proofs.OutputLines.FormattedLines.{formed, formed_are, formed_lines}
use Rattle.yf_laws.proofs.OutputLines.GapSpread.{decos_spread, gap_spread}
use Rattle.yf_laws.proofs.OutputLines.LaidLines.{LineIs, line_text}
use Rattle.yf_laws.proofs.OutputLines.LineSorts.{Lined, lined_end, lined_more, Sort}
use Rattle.yf_laws.proofs.OutputLines.LinedRows.{layout_sorted}
use Rattle.yf_laws.proofs.OutputLines.TidyTexts.{decos_tidy, gap_tidy}
use Rattle.yf_laws.specs.Mended.{IsFormatted}
use Rattle.yf_laws.proofs.Derived.RowKinds.{all_kinds}
use Rattle.yf_laws.proofs.OutputLines.LeadRows.{all_leads}
use Rattle.yf_forms.specs.NormalForms.BareStart.{is_bare}
use Rattle.yf_laws.specs.Preservation.CommentsPlaced.{columns_in}

formed_sorts : {src : Table} {r : Lists} {s : Style} (w : IsFormatted src r s) → Lined (λ n l x. Sort src.text r.events src.lines n l x) 0 src.lines (formed_lines w.formats)
formed_sorts {src} {r} {s} w =
    let a = formed w.utf8 w.formats in
    let m : Lists = w.formats.normal in
    let rows = rows_of m s w.formats.writes.trees in
    let cs = own_line_comments (source_of m rows) rows in
    layout_sorted a.utf8 r.events src.lines (row_decos (columns_in w.formats) m rows) (gap_spread (columns_in w.formats) at_text_start cs rows) a.gap (gap_tidy (columns_in w.formats) at_text_start cs rows) a.rows (all_kinds (setting_of m s) (is_bare m s) a.fit)
    (all_leads (setting_of m s) (is_bare m s) a.fit) (decos_spread (columns_in w.formats) (source_of m rows) cs rows) a.decos (decos_tidy (columns_in w.formats) (source_of m rows) cs rows) (reading_held w.utf8 w.formats w.reads).bodies
    (formed_are src.lines w.formats a w.lines)

record LinedAt (P : ℕ → Line → List ℕ → Type 0) (k : ℕ) (xs : List (List ℕ)) (i : ℕ) (l : Line) : Type 0 where
  pub text : List ℕ
  pub among : slice_get xs i ≡ Some text
  pub told : P k l text

lined_at : {P : ℕ → Line → List ℕ → Type 0} {k : ℕ} {ls : List Line} {xs : List (List ℕ)} (i : ℕ) (l : Line) → Lined P k ls xs → slice_get ls i ≡ Some l → LinedAt P (k + i) xs i l
lined_at i l lined_end e = absurd cc
lined_at {P} {k} zero l (lined_more {l = m} {x = x} {xs = xs} a more) e =
    subst (λ n. LinedAt P n (x ∷ xs) 0 l) (none_more k) (subst (λ w. LinedAt P k (x ∷ xs) 0 w) (same e) (record { text = x; among = refl; told = a })) where
      same : {p q : Line} → Some p ≡ Some q → p ≡ q
      same e = cc

      none_more : (k : ℕ) → k ≡ k + 0
      none_more k = omega arith
lined_at {P} {k} (suc i) l (lined_more {x = x} {xs = xs} a more) e =
    let r = lined_at i l more e in
    subst (λ n. LinedAt P n (x ∷ xs) (suc i) l) (one_more k i) (record { text = r.text; among = r.among; told = r.told }) where
      one_more : (k i : ℕ) → suc k + i ≡ k + suc i
      one_more k i = omega arith

-- the line at an index
pub record SortedLine (src : Table) (r : Lists) (k : ℕ) (l : Line) : Type 0 where
  pub utf8 : IsUtf8 src.text
  pub text : List ℕ
  pub is : LineIs src.text l text
  pub sort : Sort src.text r.events src.lines k l text

pub sorted_line : {src : Table} {r : Lists} {s : Style} (k : ℕ) (l : Line) → IsFormatted src r s → slice_get src.lines k ≡ Some l → SortedLine src r k l
sorted_line {src} {r} {s} k l w e =
    let a = formed w.utf8 w.formats in
    let line = line_text k l (formed_are src.lines w.formats a w.lines) e in
    let found = lined_at k l (formed_sorts w) e in
    let same : found.text ≡ line.text = same_Some _ _ (sym found.among ∙ line.among) in
    record {
      utf8 = a.utf8;
      text = line.text;
      is = line.is;
      sort = subst (λ x. Sort src.text r.events src.lines k l x) same (subst (λ n. Sort src.text r.events src.lines n l found.text) (zero_more k) found.told);
    }
  where
    zero_more : (k : ℕ) → 0 + k ≡ k
    zero_more k = omega arith
