-- The start and the end of the fault of a finding, and its detail.
use Rattle.std.specs.Prelude.{◌≡◌, ◌&&◌, ℕ, ◌+◌, ◌==◌, Bool, true, false, if◌then◌else◌, List, length, slice_get, Some, None}
use Rattle.std.specs.Str.{IsCharBoundary}
use Rattle.yf_events.specs.declared.lists.Lists.{Lists}
use Rattle.yf_forms.specs.declared.style.Style.{Style}
use Rattle.yf_lines.specs.Lines.{PlaceOf, Table}
use Rattle.yf_lines.specs.declared.line.Line.{Line}
use Rattle.yf_lines.specs.declared.place.Position.{Position}
use Rattle.yf_ranges.specs.Details.{DetailAt, DetailOf}
use Rattle.yf_ranges.specs.Known.{IsRuleDetail}
use Rattle.yf_ranges.specs.declared.detail.Detail.{Detail}
use Rattle.yf_report.specs.declared.problem.Range.{Range}
use Rattle.yf_rule_sets.specs.RuleSets.Places.{HasColumn}
use Rattle.yf_rule_sets.specs.declared.rules.StyleRule.{StyleRule}
use Rattle.yf_rule_sets.specs.declared.rules.StyleRule.TheVariants.{TrailingBlanks, Indentation, Quoting, DocumentStart, FinalBreak, LineBreaks, ByteOrderMark, BlankLines, FlowLayout, CommentSpace, LineLength, RepeatedKeys, KeyMark, HiddenCharacter}
use Rattle.yf_rules.specs.declared.finding.Finding.{Finding}

-- the rule of a number
abbrev pub rule_of : ℕ → StyleRule
rule_of n =
    if n == 1 then TrailingBlanks else
    (if n == 2 then Indentation else
    (if n == 3 then Quoting else
    (if n == 4 then DocumentStart else
    (if n == 5 then FinalBreak else
    (if n == 6 then LineBreaks else
    (if n == 7 then ByteOrderMark else
    (if n == 8 then BlankLines else
    (if n == 9 then FlowLayout else
    (if n == 10 then CommentSpace else
    (if n == 11 then LineLength else
    (if n == 12 then RepeatedKeys else
    (if n == 13 then KeyMark else HiddenCharacter))))))))))))

abbrev pub is_mark_rule : StyleRule → Bool
is_mark_rule ByteOrderMark = true
is_mark_rule _ = false

-- The start of a fault at a position. Byte order marks that begin a line have the column of the character after them:
-- for the rule about marks it is the first mark, for any other rule the character after them. After the last line it is
-- the end of the text.
pub data StartOf (src : Table) (rule : StyleRule) (place : Position) (offset : ℕ) : Type 0 where
  at_marks : {l : Line} (k : ℕ) → slice_get src.lines k ≡ Some l → place.line ≡ k + 1
      → ((place.column == 1) && is_mark_rule rule) ≡ true → offset ≡ l.start → StartOf src rule place offset
  in_line : {l : Line} (k : ℕ) → slice_get src.lines k ≡ Some l → place.line ≡ k + 1
      → ((place.column == 1) && is_mark_rule rule) ≡ false → HasColumn src.text l.start offset place.column
      → StartOf src rule place offset
  after_lines : place.line ≡ length src.lines + 1 → place.column ≡ 1 → offset ≡ length src.text
      → StartOf src rule place offset

-- the range of a span that begins at a position: it ends at the position of the span's end
pub record RangeOf (t : List ℕ) (place : Position) (end : ℕ) (r : Range) : Type 0 where
  pub line : r.line ≡ place.line
  pub column : r.column ≡ place.column
  pub last : IsCharBoundary t end → PlaceOf t end r.end_line r.end_column

-- the detail of a finding of a rule at an offset: the one with values from the reading, if there is one at the offset,
-- and otherwise the one of the text
pub data FindingDetail (rule : StyleRule) (src : Table) (reading : Lists) (style : Style) (offset : ℕ) (d : Detail) : Type 0 where
  of_reading : IsRuleDetail rule src reading style offset (Some d) → FindingDetail rule src reading style offset d
  of_text : IsRuleDetail rule src reading style offset None → DetailAt (DetailOf rule src.text style) src.text offset d
      → FindingDetail rule src reading style offset d

-- the detail of a finding, and its range
pub record IsLocated (src : Table) (reading : Lists) (style : Style) (f : Finding) (d : Detail) (r : Range) : Type 0 where
  pub start : StartOf src (rule_of f.number) f.place d.span.start
  pub detail : FindingDetail (rule_of f.number) src reading style d.span.start d
  pub range : RangeOf src.text f.place d.span.end r
