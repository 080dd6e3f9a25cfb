-- Laws of the lines of a scalar in the code.
use Rattle.std.proofs.Common.{◌≡◌, ℕ, ◌<◌, ◌≤◌, true, List, Option, Some, None, MatchOption, refl, sym, subst, ◌∙◌, ⊎_elim, arith}
use Rattle.std.specs.Borrow.{Bor}
use Rattle.std.specs.Prelude.{slice_get}
use Rattle.std.proofs.lemmas.Bool.{cases_lt}
use Rattle.std.proofs.lemmas.Option.{same_Some}
use Rattle.yf_forms.specs.Nodes.ContentStart.{content_start}
use Rattle.yf_events.specs.Event.{event_value, scalar_node}
use Rattle.yf_events.specs.Reading.{events_of, spans_of}
use Rattle.yf_events.specs.declared.event.Event.{Event}
use Rattle.yf_events.specs.declared.event.Event.TheVariants.{StreamStart, StreamEnd, DocStart, DocEnd, SeqStart, SeqEnd, MapStart, MapEnd, Scalar, Alias}
use Rattle.yf_events.specs.declared.event.ScalarStyle.{ScalarStyle}
use Rattle.yf_events.specs.declared.event.Span.{Span}
use Rattle.yf_events.specs.declared.lists.Lists.{Lists}
use Rattle.yf_lines.specs.declared.line.Line.{Line}
use Rattle.yf_lines.specs.Lines.{AreLines, LinesBegunAt, Table}
use Rattle.yf_props.specs.Props.{PropsValue}
use Rattle.yf_props.specs.declared.props.Props.{Props}
use Rattle.yf_rule_sets.specs.RuleSets.BlankLines.{ScalarLine}
use Rattle.yf_rule_sets.specs.RuleSets.BlankLines.ScalarLine.{of_scalar}
use Rattle.yf_rule_sets.specs.RuleSets.Exact.{IsTheOne}
use Rattle.yf_rule_sets.specs.Passes.IndentFaults.{ContentAt, content_at, content_in}
use Rattle.yf_rule_sets.specs.Passes.ScalarLines.{InRange, InSome, IsContent, IsLonger, LinesOfScalar, WantedLine, wanted_range}
use Rattle.yf_rule_sets.specs.Passes.ScalarLines.IsContent.{no_block, no_line, of_line}
use Rattle.yf_rule_sets.specs.Passes.ScalarLines.LinesOfScalar.{has_none, has_lines}
use Rattle.yf_rule_sets.specs.RuleSets.Scalars.{BlockContent, ContentLine, InBlock, IsScalar, is_block_style}
use Rattle.yf_rule_sets.specs.RuleSets.Scalars.ContentLine.{of_block}
use Rattle.yf_rule_sets.specs.declared.facts.flagged_lines.LineRange.{LineRange}
use Rattle.yf_rule_sets.specs.declared.facts.flagged_lines.WantedLines.{WantedLines}
use Rattle.yf_rule_sets.specs.declared.facts.flagged_lines.WantedLines.TheVariants.{All, Content}
use Rattle.yf_rule_sets.specs.declared.facts.scalars.ContentStart.{ContentStart}
use Rattle.yf_rule_sets.specs.declared.facts.scalars.ScalarLines.{ScalarLines}
use Rattle.yf_rule_sets.proofs.Texts.BegunLemmas.{starts_order}
use Rattle.yf_rule_sets.proofs.RuleSets.BlankLemmas.{part_lines}
use Rattle.yf_rule_sets.proofs.Texts.BlockLemmas.{block_content, no_block_line, no_content}
use Rattle.yf_rule_sets.proofs.Indentation.FaultLemmas.{content_answers}

-- the result of the code for one scalar
pub block_content_is : (ls : List Line) (style : ScalarStyle) (text : List ℕ) (after : ℕ) (answer : Option ContentStart) → is_block_style style ≡ true
    → MatchOption answer ((first indent : ℕ) → BlockContent ls text after first indent → ⊥) (λ c. BlockContent ls text after c.first c.indent)
    → IsContent ls style text after answer
block_content_is ls style text after None y f = no_line f
block_content_is ls style text after (Some c) y k = of_line y k

pub lines_told : (src : Table) (r : Lists) (i : ℕ) (props : PropsValue) (style : ScalarStyle) (text : List ℕ) (s : Span) → IsScalar r i props style text s
    → (first : ℕ) → LinesBegunAt src.lines (content_start src.text s props) first → (start : ℕ) (content : Option ContentStart) → start ≡ content_start src.text s props
    → IsContent src.lines style text first content
    → LinesOfScalar src r i (Some (record { start = start; first = first; end = s.end; content = content }))
lines_told src r i props style text s is first b start content e c =
    subst (λ o. LinesOfScalar src r i (Some (record { start = o; first = first; end = s.end; content = content }))) (sym e) (has_lines is b c)

-- its result if there is none
no_node : (e : Event) → ((props : Props) (style : ScalarStyle) (text : Bor (List ℕ)) → e ≡ Scalar props style text → ⊥) → {p : PropsValue} {v : ScalarStyle} {x : List ℕ}
    → event_value e ≡ scalar_node p v x → ⊥
no_node StreamStart n h = cc
no_node StreamEnd n h = cc
no_node (DocStart marked) n h = cc
no_node (DocEnd closed) n h = cc
no_node (SeqStart flow props) n h = cc
no_node SeqEnd n h = cc
no_node (MapStart flow props) n h = cc
no_node MapEnd n h = cc
no_node (Scalar props style text) n h = n props style text refl
no_node (Alias name) n h = cc

pub no_scalar_lines : (src : Table) (r : Lists) (i : ℕ) (e : Event) → slice_get (events_of r) i ≡ Some (event_value e)
    → ((props : Props) (style : ScalarStyle) (text : Bor (List ℕ)) → e ≡ Scalar props style text → ⊥) → LinesOfScalar src r i None
no_scalar_lines src r i e q n = has_none (λ props style text s is. no_node e n (same_Some _ _ (sym q ∙ is.event)))

pub no_text_lines : (src : Table) (r : Lists) (i : ℕ) → slice_get (spans_of r) i ≡ Some None → LinesOfScalar src r i None
no_text_lines src r i e = has_none (λ props style text s is. nothing (same_Some _ _ (sym is.part ∙ e))) where
  nothing : {s : Span} → Some s ≡ None → ⊥
  nothing e = cc

-- the start of the content of a block scalar in the result
none_answered : {src : Table} {r : Lists} {i : ℕ} {x : ℕ × ℕ} → ((props : PropsValue) (style : ScalarStyle) (text : List ℕ) (s : Span) → IsScalar r i props style text s → ⊥)
    → ContentAt src r i x → ⊥
none_answered f (content_at {props} {style} {text} {s} b g m h y w c) = f props style text s h

pub content_told : (src : Table) (r : Lists) (i : ℕ) (answer : Option ScalarLines) → LinesOfScalar src r i answer → IsTheOne (ContentAt src r i) (content_in answer)
content_told src r i None (has_none f) = λ x h. none_answered f h
content_told src r i (Some lines) (has_lines {props} {style} {text} {s} {first} {content} is b c) =
    content_answers src r i props style text s is first b (content_start src.text s props) content refl c

-- the wanted lines in the result
no_scalar_line : {src : Table} {r : Lists} {i k : ℕ} → ((props : PropsValue) (style : ScalarStyle) (text : List ℕ) (s : Span) → IsScalar r i props style text s → ⊥)
    → ScalarLine src r k i → ⊥
no_scalar_line f (of_scalar {props} {style} {text} {s} h e m n) = f props style text s h

no_content_line : {src : Table} {r : Lists} {i k : ℕ} → ((props : PropsValue) (style : ScalarStyle) (text : List ℕ) (s : Span) → IsScalar r i props style text s → ⊥)
    → ContentLine src r k i → ⊥
no_content_line f (of_block {props} {style} {text} {s} b g m h y w c l) = f props style text s h

block_range : {ls : List Line} {first indent end k : ℕ} → InBlock ls first indent end k → InRange ls (record { first = first; end = end; indent = Some indent }) k
block_range b = record { line = b.line; at = b.at; from = b.from; to = b.to; longer = b.longer }

range_block : {ls : List Line} {first indent end k : ℕ} → InRange ls (record { first = first; end = end; indent = Some indent }) k → InBlock ls first indent end k
range_block b = record { line = b.line; at = b.at; from = b.from; to = b.to; longer = b.longer }

content_wanted : (src : Table) (r : Lists) (i : ℕ) (props : PropsValue) (style : ScalarStyle) (text : List ℕ) (s : Span) → IsScalar r i props style text s
    → (first : ℕ) → LinesBegunAt src.lines (content_start src.text s props) first → (content : Option ContentStart) → IsContent src.lines style text first content → (k : ℕ)
    → (ContentLine src r k i → InSome src.lines (wanted_range Content (Some (record { start = content_start src.text s props; first = first; end = s.end; content = content }))) k)
    × (InSome src.lines (wanted_range Content (Some (record { start = content_start src.text s props; first = first; end = s.end; content = content }))) k → ContentLine src r k i)
content_wanted src r i props style text s is first b None (no_block n) k = (λ h. no_block_line src r i props style text s is n k h, λ p. absurd p)
content_wanted src r i props style text s is first b None (no_line f) k = (λ h. no_content src r i props style text s is first b f k h, λ p. absurd p)
content_wanted src r i props style text s is first b (Some c) (of_line y w) k =
    let q = block_content src r i props style text s is first b c.first c.indent y w k in
    (λ h. block_range (q.0 h), λ p. q.1 (range_block p))

pub wanted_told : (wanted : WantedLines) (src : Table) (r : Lists) (i : ℕ) (answer : Option ScalarLines) → LinesOfScalar src r i answer → (k : ℕ)
    → (WantedLine wanted src r k i → InSome src.lines (wanted_range wanted answer) k) × (InSome src.lines (wanted_range wanted answer) k → WantedLine wanted src r k i)
wanted_told All src r i None (has_none f) k = (λ h. no_scalar_line f h, λ p. absurd p)
wanted_told Content src r i None (has_none f) k = (λ h. no_content_line f h, λ p. absurd p)
wanted_told All src r i (Some lines) (has_lines {props} {style} {text} {s} {first} {content} is b c) k = part_lines src r i props style text s first is b k
wanted_told Content src r i (Some lines) (has_lines {props} {style} {text} {s} {first} {content} is b c) k = content_wanted src r i props style text s is first b content c k

-- the lines of a range
pub in_range : (ls : List Line) (range : LineRange) (k : ℕ) (l : Line) → slice_get ls k ≡ Some l → range.first ≤ k → l.start < range.end → IsLonger l range.indent
    → InRange ls range k
in_range ls range k l e f s h = record { line = l; at = e; from = f; to = s; longer = h }

pub not_longer : (ls : List Line) (range : LineRange) (k : ℕ) (l : Line) → slice_get ls k ≡ Some l → (IsLonger l range.indent → ⊥) → InRange ls range k → ⊥
not_longer ls range k l e f p = f (subst (λ w. IsLonger w range.indent) (same_Some _ _ (sym p.at ∙ e)) p.longer)

pub past_range : (t : List ℕ) (ls : List Line) (range : LineRange) (k : ℕ) (l : Line) → AreLines t ls → slice_get ls k ≡ Some l → range.end ≤ l.start
    → (m : ℕ) → InRange ls range m → m < k
past_range t ls range k l a e h m b =
    ⊎_elim (λ (x : m < k). x)
    (λ (x : k ≤ m). absurd (let o = starts_order t ls k m l b.line a e b.at x in let s = b.to in omega (arith, o, s, h)))
    (cases_lt m k)
