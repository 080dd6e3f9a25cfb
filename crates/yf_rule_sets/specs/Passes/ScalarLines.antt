-- The lines of a scalar after the one on which it begins, in the code, and which of them a pass flags.
use Rattle.std.specs.Prelude.{◌≡◌, ℕ, ◌+◌, ◌<◌, ◌≤◌, true, false, List, slice_get, Option, Some, None}
use Rattle.yf_forms.specs.Nodes.ContentStart.{content_start}
use Rattle.yf_events.specs.declared.event.ScalarStyle.{ScalarStyle}
use Rattle.yf_events.specs.declared.event.Span.{Span}
use Rattle.yf_events.specs.declared.lists.Lists.{Lists}
use Rattle.yf_lines.specs.Lines.{LinesBegunAt, Table}
use Rattle.yf_lines.specs.declared.line.Line.{Line}
use Rattle.yf_props.specs.Props.{PropsValue}
use Rattle.yf_rule_sets.specs.RuleSets.BlankLines.{ScalarLine}
use Rattle.yf_rule_sets.specs.RuleSets.Scalars.{BlockContent, ContentLine, IsScalar, is_block_style}
use Rattle.yf_rule_sets.specs.declared.facts.flagged_lines.LineRange.{LineRange}
use Rattle.yf_rule_sets.specs.declared.facts.flagged_lines.WantedLines.{WantedLines}
use Rattle.yf_rule_sets.specs.declared.facts.flagged_lines.WantedLines.TheVariants.{All, Content}
use Rattle.yf_rule_sets.specs.declared.facts.scalars.ContentStart.{ContentStart}
use Rattle.yf_rule_sets.specs.declared.facts.scalars.ScalarLines.{ScalarLines}

-- the start of the content of a scalar with this style and text, if it is a block scalar with a content line
pub data IsContent (ls : List Line) (style : ScalarStyle) (text : List ℕ) (after : ℕ) : Option ContentStart → Type 0 where
  no_block : is_block_style style ≡ false → IsContent ls style text after None
  no_line : ((first indent : ℕ) → BlockContent ls text after first indent → ⊥) → IsContent ls style text after None
  of_line : {c : ContentStart} → is_block_style style ≡ true → BlockContent ls text after c.first c.indent → IsContent ls style text after (Some c)

-- the lines of the scalar at the event of index i, or `None` if the event is not a scalar with a span
pub data LinesOfScalar (src : Table) (r : Lists) (i : ℕ) : Option ScalarLines → Type 0 where
  has_none : ((props : PropsValue) (style : ScalarStyle) (text : List ℕ) (s : Span) → IsScalar r i props style text s → ⊥) → LinesOfScalar src r i None
  has_lines : {props : PropsValue} {style : ScalarStyle} {text : List ℕ} {s : Span} {first : ℕ} {content : Option ContentStart} → IsScalar r i props style text s
      → LinesBegunAt src.lines (content_start src.text s props) first → IsContent src.lines style text first content
      → LinesOfScalar src r i (Some (record { start = content_start src.text s props; first = first; end = s.end; content = content }))

-- the line has more characters than the indentation, if there is one
abbrev pub IsLonger : Line → Option ℕ → Type 0
IsLonger l None = Unit {0}
IsLonger l (Some indent) = l.start + indent < l.end

-- the line of the index k is in the range
pub record InRange (ls : List Line) (range : LineRange) (k : ℕ) : Type 0 where
  pub line : Line
  pub at : slice_get ls k ≡ Some line
  pub from : range.first ≤ k
  pub to : line.start < range.end
  pub longer : IsLonger line range.indent

abbrev pub InSome : List Line → Option LineRange → ℕ → Type 0
InSome ls None k = ⊥
InSome ls (Some range) k = InRange ls range k

-- the range of the wanted lines of a scalar, and the lines that it must hold
abbrev pub content_range : ScalarLines → Option ContentStart → Option LineRange
content_range lines None = None
content_range lines (Some content) = Some (record { first = content.first; end = lines.end; indent = Some content.indent })

abbrev pub wanted_range : WantedLines → Option ScalarLines → Option LineRange
wanted_range wanted None = None
wanted_range All (Some lines) = Some (record { first = lines.first; end = lines.end; indent = None })
wanted_range Content (Some lines) = content_range lines lines.content

abbrev pub WantedLine : WantedLines → Table → Lists → ℕ → ℕ → Type 0
WantedLine All src r k i = ScalarLine src r k i
WantedLine Content src r k i = ContentLine src r k i
