-- In a formatted text, only the content lines of block scalars may end with white space.
use Rattle.std.proofs.Common.{◌≡◌, ◌≢◌, ℕ, ◌+◌, ◌-◌, ◌<◌, ◌≤◌, ⊎_elim, true, true≢false, List, [], ◌++◌, length, Some, refl, sym, ap, ◌∙◌, subst, arith}
use Rattle.std.specs.Prelude.{slice_get}
use Rattle.std.specs.Str.{IsUtf8}
use Rattle.std.proofs.lemmas.Bool.{cases_lt}
use Rattle.yf_lines.specs.Lines.{AreLines, IsLine, Table}
use Rattle.yf_lines.specs.declared.line.Line.{Line}
use Rattle.yf_lines.proofs.TableLemmas.{table_line}
use Rattle.yf_events.specs.declared.event.ScalarStyle.{ScalarStyle}
use Rattle.yf_events.specs.declared.event.ScalarStyle.TheVariants.{Plain, Single, Double, Literal, Folded}
use Rattle.yf_events.specs.declared.lists.Lists.{Lists}
use Rattle.yf_forms.specs.Nodes.BlockLines.{block_lines, content_lines, tail_lines}
use Rattle.yf_laws.specs.Layouts.ReadableTrees.{is_block_style as is_block}
use Rattle.yf_forms.specs.declared.style.Style.{Style}
use Rattle.yf_laws.proofs.OutputLines.LaidLines.{LineIs, LinesAre}
use Rattle.yf_laws.proofs.OutputLines.LineSorts.{InScalar, Sort, between_rows, ends_seen, in_scalar, got_drop}
use Rattle.yf_rule_sets.specs.RuleSets.ByLine.{TrailingBlank}
use Rattle.yf_rule_sets.specs.RuleSets.ByLine.BlankEnd.{at_line_end}
use Rattle.yf_rule_sets.specs.RuleSets.ByLine.TrailingBlank.{trailing}
use Rattle.yf_laws.specs.Mended.{FormatsAreMended, IsFormatted}
use Rattle.yf_rule_sets.specs.Rules.{trailing_blanks}
use Rattle.yf_rule_sets.specs.RuleSets.Scalars.{ContentLine, head_count, is_block_style}
use Rattle.yf_rule_sets.specs.RuleSets.Scalars.ContentLine.{of_block}
use Rattle.yf_laws.proofs.Formatted.MendedContents.{first_content, line_long}
use Rattle.yf_laws.proofs.Formatted.MendedLines.{exactly_none}
use Rattle.yf_laws.proofs.Formatted.MendedScalars.{line_of_scalar}
use Rattle.yf_laws.proofs.Formatted.MendedSorts.{sorted_line}
use Rattle.yf_rule_sets.proofs.Texts.WhitesLemmas.{white_within}

block_here : (style : ScalarStyle) → is_block style ≡ true → is_block_style style ≡ true
block_here Plain e = e
block_here Single e = e
block_here Double e = e
block_here Literal e = e
block_here Folded e = e

-- a line with characters that is one of a block scalar's is a content line of it
content_line : (src : Table) (r : Lists) (k : ℕ) (l : Line) (x : List ℕ) → IsUtf8 src.text → AreLines src.text src.lines → slice_get src.lines k ≡ Some l → LineIs src.text l x → x ≢ []
    → InScalar src.text r.events src.lines k x → (i : ℕ) × ContentLine src r k i
content_line src r k l x u lines e is some a =
    let s = line_of_scalar src r u lines k l x a e in
    let body : List (List ℕ) = block_lines a.scalar.style a.column a.scalar.text a.scalar.lines in
    let are : LinesAre src.text a.lines (body ++ a.texts) = subst (λ b. LinesAre src.text a.lines (b ++ a.texts)) a.scalar.are a.are in
    let made : (i : ℕ) (m : Line) → slice_get a.lines i ≡ Some m → IsLine src.text m =
    λ i m g. table_line src.text src.lines (a.head + i) m lines (sym (got_drop a.head i src.lines) ∙ (ap (λ (w : List Line). slice_get w i) a.from ∙ g)) in
    let c = first_content a.texts a.column u made a.scalar.fit are in
    let count : head_count 10 a.scalar.text ≡ c.number = c.is in
    let at : slice_get src.lines (a.head + c.number) ≡ Some c.line = sym (got_drop a.head c.number src.lines) ∙ (ap (λ (w : List Line). slice_get w c.number) a.from ∙ c.at) in
    let there : slice_get src.lines (a.head + head_count 10 a.scalar.text) ≡ Some c.line = ap (λ n. slice_get src.lines (a.head + n)) count ∙ at in
    let nth : slice_get body a.number ≡ Some x = ap (λ b. slice_get b a.number) (sym a.scalar.are) ∙ a.nth in
    let long : a.column < length x = line_long a.column (content_lines a.scalar.style a.scalar.text a.scalar.lines ++ tail_lines a.scalar.text) a.number x nth some in
    let index : k ≡ a.head + a.number = a.index in
    let from : c.number ≤ a.number =
    ⊎_elim (λ (h : a.number < c.number). absurd (some (c.before a.number x h nth))) (λ (h : c.number ≤ a.number). h) (cases_lt a.number c.number) in
    let indent = c.indent in
    let end = is.end in (
      s.index,
      of_block a.head (a.head + head_count 10 a.scalar.text) a.column s.is (block_here a.scalar.style a.scalar.fit.block) s.begun
          (record { some = c.some; empty = refl; line = c.line; at = there; spaces = omega (arith, indent) })
          (record { line = l; at = e; from = omega (arith, from, index, count); to = s.before; longer = omega (arith, long, end) }),
    )

none_trailing : {src : Table} {r : Lists} {s : Style} → IsFormatted src r s → (k o : ℕ) → TrailingBlank src r k o → ⊥
none_trailing {src} {r} w k o (trailing (at_line_end {l = l} e whites short) n) =
    let a = sorted_line k l w e in
    let from = whites.from in
    let end = a.is.end in
    by a.utf8 a.text a.is a.sort (omega (arith, from, short)) where
      some_text : (x : List ℕ) → LineIs src.text l x → l.start < l.end → x ≢ []
      some_text x is m z = let end = is.end in let long : length x ≡ 0 = ap length z in omega (arith, end, m, long)

      by : IsUtf8 src.text → (x : List ℕ) → LineIs src.text l x → Sort src.text r.events src.lines k l x → l.start < l.end → ⊥
      by u x is (between_rows z before after) m = some_text x is m z
      by u x is (ends_seen v h) m = true≢false (sym (white_within (l.end - 1) whites.run (omega (arith, short)) (omega (arith, m))) ∙ v)
      by u x is (in_scalar b) m = let c = content_line src r k l x u w.lines e is (some_text x is m) b in n c.0 c.1

pub trailing_blanks_mended : FormatsAreMended trailing_blanks
trailing_blanks_mended fixable src r s w offsets e = exactly_none offsets (none_trailing w) e
