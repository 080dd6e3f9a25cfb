-- Which blank lines are at fault. An index counts lines from 0.
use Rattle.std.specs.Prelude.{◌≡◌, ℕ, ◌+◌, ◌<◌, ◌≤◌, true, List, length, slice_get, Some}
use Rattle.yf_forms.specs.Nodes.ContentStart.{content_start}
use Rattle.yf_events.specs.Reading.{events_of}
use Rattle.yf_events.specs.declared.directive.Directive.{Directive}
use Rattle.yf_events.specs.declared.document.Doc.{Doc}
use Rattle.yf_events.specs.declared.event.ScalarStyle.{ScalarStyle}
use Rattle.yf_events.specs.declared.event.Span.{Span}
use Rattle.yf_events.specs.declared.lists.Lists.{Lists}
use Rattle.yf_lines.specs.declared.line.Line.{Line}
use Rattle.yf_lines.specs.Lines.{Table, IsForbiddenLine}
use Rattle.yf_props.specs.Props.{PropsValue}
use Rattle.yf_rule_sets.specs.RuleSets.Documents.{markers_in}
use Rattle.yf_rule_sets.specs.RuleSets.Scalars.{IsScalar}
use Rattle.yf_rule_sets.specs.RuleSets.Whites.{IsAlone, WhitesEnd}

-- the line of index k holds the offset
pub record HasOffset (src : Table) (offset k : ℕ) : Type 0 where
  pub line : Line
  pub at : slice_get src.lines k ≡ Some line
  pub from : line.start ≤ offset
  pub to : offset < line.next

-- a line of the scalar at the event of index i, after the line on which its content begins, or, for a block scalar, its
-- header. A block scalar ends with its last content line, or with the empty lines after it that it keeps
pub data ScalarLine (src : Table) (r : Lists) (k i : ℕ) : Type 0 where
  of_scalar : {props : PropsValue} {style : ScalarStyle} {text : List ℕ} {s : Span} {l : Line} → IsScalar r i props style text s
      → slice_get src.lines k ≡ Some l → content_start src.text s props < l.start → l.start < s.end → ScalarLine src r k i

-- a line of only white space that is part of no scalar
pub record IsBlank (src : Table) (r : Lists) (k : ℕ) : Type 0 where
  pub line : Line
  pub at : slice_get src.lines k ≡ Some line
  pub white : WhitesEnd src.text line.start line.end line.start
  pub outside : (i : ℕ) → ScalarLine src r k i → ⊥

-- a line with a directive: of this list, of the document of index m
pub data DirectiveIn (src : Table) (directives : List Directive) (j k : ℕ) : Type 0 where
  is_directive : {d : Directive} → slice_get directives j ≡ Some d → HasOffset src d.offset k → DirectiveIn src directives j k

pub data DirectiveOf (src : Table) (r : Lists) (m k : ℕ) : Type 0 where
  of_document : {d : Doc} {j : ℕ} → slice_get r.documents m ≡ Some d → DirectiveIn src d.directives j k → DirectiveOf src r m k

-- a line with the `---` of the document of index m, with only white space after it
pub data MarkerOf (src : Table) (r : Lists) (m k : ℕ) : Type 0 where
  has_marker : {d : Doc} → slice_get r.documents m ≡ Some d → slice_get (markers_in (events_of r)) m ≡ Some true → IsAlone src.text d.start
      → HasOffset src d.start k → MarkerOf src r m k

-- a line that must not be blank: the first one, one after a blank line or such a `---`, one before a document marker or
-- a directive, and one with only blank lines after it
pub data WrongPlace (src : Table) (r : Lists) (k : ℕ) : Type 0 where
  is_first : k ≡ 0 → WrongPlace src r k
  after_blank : {j : ℕ} → j + 1 ≡ k → IsBlank src r j → WrongPlace src r k
  after_marker : {j m : ℕ} → j + 1 ≡ k → MarkerOf src r m j → WrongPlace src r k
  before_marker : {l : Line} → slice_get src.lines (k + 1) ≡ Some l → IsForbiddenLine src.text l.start → WrongPlace src r k
  before_directive : {m : ℕ} → DirectiveOf src r m (k + 1) → WrongPlace src r k
  at_text_end : ((m : ℕ) → k < m → m < length src.lines → IsBlank src r m) → WrongPlace src r k

-- blank-lines: the start of a blank line that must not be blank
pub data MisplacedBlank (src : Table) (r : Lists) (k : ℕ) : ℕ → Type 0 where
  misplaced : {l : Line} → slice_get src.lines k ≡ Some l → IsBlank src r k → WrongPlace src r k → MisplacedBlank src r k l.start
