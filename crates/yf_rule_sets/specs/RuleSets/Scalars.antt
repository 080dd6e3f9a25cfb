-- The scalars of a reading in the text: their spans and their lines.
use Rattle.std.specs.Prelude.{◌≡◌, ℕ, suc, ◌+◌, ◌-◌, ◌<◌, ◌≤◌, ◌==◌, if◌then◌else◌, Bool, true, false, List, [], ◌∷◌, length, drop, slice_get, Some}
use Rattle.yf_chars.specs.Text.{code}
use Rattle.yf_forms.specs.Nodes.ContentStart.{content_start}
use Rattle.yf_events.specs.Event.{scalar_node}
use Rattle.yf_events.specs.Reading.{events_of, spans_of}
use Rattle.yf_events.specs.declared.event.ScalarStyle.{ScalarStyle}
use Rattle.yf_events.specs.declared.event.ScalarStyle.TheVariants.{Plain, Single, Double, Literal, Folded}
use Rattle.yf_events.specs.declared.event.Span.{Span}
use Rattle.yf_events.specs.declared.lists.Lists.{Lists}
use Rattle.yf_lines.specs.declared.line.Line.{Line}
use Rattle.yf_lines.specs.Lines.{LinesBegunAt, Table}
use Rattle.yf_props.specs.Props.{PropsValue}

-- the event of that index is a scalar with these parts
pub record IsScalar (r : Lists) (i : ℕ) (props : PropsValue) (style : ScalarStyle) (text : List ℕ) (span : Span) : Type 0 where
  pub event : slice_get (events_of r) i ≡ Some (scalar_node props style text)
  pub part : slice_get (spans_of r) i ≡ Some (Some span)

-- the span of a scalar
pub data ScalarSpan (r : Lists) (i : ℕ) : Span → Type 0 where
  of_scalar : {props : PropsValue} {style : ScalarStyle} {text : List ℕ} {s : Span} → IsScalar r i props style text s → ScalarSpan r i s

-- the offset is in the span
pub record IsWithin (s : Span) (offset : ℕ) : Type 0 where
  pub from : s.start ≤ offset
  pub to : offset < s.end

-- byte-order-mark: a mark outside of scalars. The index of a mark is its offset
pub data LooseMark (t : List ℕ) (r : Lists) (k : ℕ) : ℕ → Type 0 where
  in_no_scalar : code t k ≡ 0xFEFF → ((i : ℕ) (s : Span) → ScalarSpan r i s → IsWithin s k → ⊥) → LooseMark t r k k

abbrev pub is_block_style : ScalarStyle → Bool
is_block_style Plain = false
is_block_style Single = false
is_block_style Double = false
is_block_style Literal = true
is_block_style Folded = true

-- how many of one byte begin a list
abbrev pub head_count : ℕ → List ℕ → ℕ
head_count b [] = 0
head_count b (c ∷ cs) = if c == b then suc (head_count b cs) else 0

-- the content of a block scalar with this text begins on the line of index `first`, after `indent` spaces. From the
-- line after the header on, of index `follows`, there are as many empty lines as line feeds that begin the text. The
-- spaces that follow them in the text are content, and the other spaces of the line are its indentation. A text of only
-- line feeds has no content line
pub record BlockContent (ls : List Line) (text : List ℕ) (follows first indent : ℕ) : Type 0 where
  pub some : head_count 10 text < length text
  pub empty : first ≡ follows + head_count 10 text
  pub line : Line
  pub at : slice_get ls first ≡ Some line
  pub spaces : indent ≡ line.indent - head_count 32 (drop (head_count 10 text) text)

-- the line of the index k is at `first` or after it, begins before the offset `end`, and has more characters than the
-- indentation
pub record InBlock (ls : List Line) (first indent end k : ℕ) : Type 0 where
  pub line : Line
  pub at : slice_get ls k ≡ Some line
  pub from : first ≤ k
  pub to : line.start < end
  pub longer : line.start + indent < line.end

-- a content line of the block scalar at the event of index i. The header is after the properties, and is the last thing
-- on its line
pub data ContentLine (src : Table) (r : Lists) (k i : ℕ) : Type 0 where
  of_block : {props : PropsValue} {style : ScalarStyle} {text : List ℕ} {s : Span} (follows first indent : ℕ)
      → IsScalar r i props style text s → is_block_style style ≡ true
      → LinesBegunAt src.lines (content_start src.text s props) follows → BlockContent src.lines text follows first indent
      → InBlock src.lines first indent s.end k → ContentLine src r k i

-- the last of the first k lines begins at the offset or before it
pub record BegunTo (ls : List Line) (offset k : ℕ) : Type 0 where
  pub within : k ≤ length ls
  pub last : (m : ℕ) (l : Line) → slice_get ls m ≡ Some l → m + 1 ≡ k → l.start ≤ offset
