-- Laws of scalars that need no search, because of their style or because they are on one line.
use Rattle.std.proofs.Common.{◌≡◌, ℕ, ◌<◌, ◌≤◌, true, false, List, Option, Some, None, length, sym, ap, ◌∙◌, ⊎_elim, arith, true≢false}
use Rattle.std.specs.Prelude.{slice_get}
use Rattle.std.proofs.lemmas.Bool.{cases_lt}
use Rattle.std.proofs.lemmas.Option.{slice_get_within, same_Some}
use Rattle.yf_forms.proofs.Texts.GapLemmas.{content_later}
use Rattle.yf_events.specs.Event.{scalar_node}
use Rattle.yf_events.specs.Reading.{events_of}
use Rattle.yf_events.specs.declared.event.ScalarStyle.{ScalarStyle}
use Rattle.yf_events.specs.declared.event.Span.{Span}
use Rattle.yf_events.specs.declared.lists.Lists.{Lists}
use Rattle.yf_lines.specs.declared.line.Line.{Line}
use Rattle.yf_lines.specs.Lines.{AreLines, LinesBegunAt, Table}
use Rattle.yf_props.specs.Props.{PropsValue}
use Rattle.yf_rule_sets.specs.RuleSets.BlankLines.{ScalarLine}
use Rattle.yf_rule_sets.specs.RuleSets.BlankLines.ScalarLine.{of_scalar as line_of_scalar}
use Rattle.yf_rule_sets.specs.Passes.BlockLines.{LinesOfBlock}
use Rattle.yf_rule_sets.specs.Passes.BlockLines.LinesOfBlock.{other_style, same_lines}
use Rattle.yf_rule_sets.specs.RuleSets.Exact.{IsTheOne, Sole}
use Rattle.yf_rule_sets.specs.Passes.IndentFaults.{ContentAt, content_at, content_in}
use Rattle.yf_rule_sets.specs.Passes.ScalarLines.{InSome, wanted_range}
use Rattle.yf_rule_sets.specs.RuleSets.Scalars.{ContentLine, IsScalar, ScalarSpan, is_block_style}
use Rattle.yf_rule_sets.specs.RuleSets.Scalars.ContentLine.{of_block}
use Rattle.yf_rule_sets.specs.RuleSets.Scalars.ScalarSpan.{of_scalar as span_of_scalar}
use Rattle.yf_rule_sets.specs.declared.facts.flagged_lines.WantedLines.TheVariants.{Content}
use Rattle.yf_rule_sets.specs.declared.facts.scalars.ScalarLines.{ScalarLines}
use Rattle.yf_rule_sets.proofs.Texts.BegunLemmas.{starts_order}
use Rattle.yf_rule_sets.proofs.Texts.BlockLemmas.{style_same}
use Rattle.yf_rule_sets.proofs.Texts.ScalarLemmas.{content_told, wanted_told}

-- scalars of other styles
pub passed_style : (src : Table) (r : Lists) (i : ℕ) (p : PropsValue) (v : ScalarStyle) (x : List ℕ) → slice_get (events_of r) i ≡ Some (scalar_node p v x) → is_block_style v ≡ false
    → LinesOfBlock src r i None
passed_style src r i p v x e f = other_style (λ props style text s is y. true≢false (sym y ∙ ap is_block_style (style_same (same_Some _ _ (sym is.event ∙ e))) ∙ f))

abbrev NoBlock : Lists → ℕ → Type 0
NoBlock r i = (props : PropsValue) (style : ScalarStyle) (text : List ℕ) (s : Span) → IsScalar r i props style text s → is_block_style style ≡ true → ⊥

no_content_at : {src : Table} {r : Lists} {i : ℕ} {x : ℕ × ℕ} → NoBlock r i → ContentAt src r i x → ⊥
no_content_at f (content_at {props} {style} {text} {s} b g m h y w c) = f props style text s h y

no_content_line : {src : Table} {r : Lists} {i k : ℕ} → NoBlock r i → ContentLine src r k i → ⊥
no_content_line f (of_block {props} {style} {text} {s} b g m h y w c l) = f props style text s h y

pub block_told : {src : Table} {r : Lists} {i : ℕ} {answer : Option ScalarLines} → LinesOfBlock src r i answer → IsTheOne (ContentAt src r i) (content_in answer)
block_told (other_style f) = λ x h. no_content_at f h
block_told {src} {r} {i} {answer} (same_lines h) = content_told src r i answer h

pub block_wanted : {src : Table} {r : Lists} {i : ℕ} {answer : Option ScalarLines} → LinesOfBlock src r i answer → (k : ℕ)
    → (ContentLine src r k i → InSome src.lines (wanted_range Content answer) k) × (InSome src.lines (wanted_range Content answer) k → ContentLine src r k i)
block_wanted (other_style f) k = (λ h. no_content_line f h, λ p. absurd p)
block_wanted {src} {r} {i} {answer} (same_lines h) k = wanted_told Content src r i answer h k

-- scalars that end before the next line begins
pub no_lines_after : (ls : List Line) (n line end : ℕ) → n ≡ length ls → n ≤ line → (m : ℕ) (l : Line) → slice_get ls m ≡ Some l → line ≤ m → end ≤ l.start
no_lines_after ls n line end e h m l f w = absurd (let k = slice_get_within ls m l f in omega (arith, k, w, h, e))

pub lines_after : (t : List ℕ) (ls : List Line) (line end : ℕ) (a : Line) → AreLines t ls → slice_get ls line ≡ Some a → end ≤ a.start → (m : ℕ) (l : Line) → slice_get ls m ≡ Some l → line ≤ m
    → end ≤ l.start
lines_after t ls line end a h e o m l f w = let q = starts_order t ls line m a l h e f w in omega (arith, q, o)

pub on_one_line : {src : Table} {r : Lists} {i : ℕ} (s : Span) (begun : ℕ) → Sole (ScalarSpan r i) s → LinesBegunAt src.lines s.start begun
    → ((m : ℕ) (l : Line) → slice_get src.lines m ≡ Some l → begun ≤ m → s.end ≤ l.start) → (k : ℕ) → ScalarLine src r k i → ⊥
on_one_line {src} s begun o b f k (line_of_scalar {props} {s = z} {l = l} h e m n) =
    let q = o.only z (span_of_scalar h) in
    let from = content_later src.text z props in
    let start = ap (λ (w : Span). w.start) q in
    let end = ap (λ (w : Span). w.end) q in
    ⊎_elim (λ (x : k < begun). let y = b.before k l e x in omega (arith, y, from, m, start))
    (λ (x : begun ≤ k). let y = f k l e x in omega (arith, y, n, end))
    (cases_lt k begun)

pub no_part : {src : Table} {r : Lists} {i : ℕ} → ((s : Span) → ScalarSpan r i s → ⊥) → (k : ℕ) → ScalarLine src r k i → ⊥
no_part f k (line_of_scalar {s = z} h e m n) = f z (span_of_scalar h)
