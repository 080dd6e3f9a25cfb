-- The details of a finding, by its rule: the end of the fault, and the message. The fault begins at the finding's
-- offset.
use Rattle.std.specs.Prelude.{◌≡◌, ℕ, ◌+◌, ◌-◌, ◌<◌, ◌≤◌, ◌==◌, Bool, false, List, Option, length, MatchBool, MatchOption}
use Rattle.std.specs.List.{Contains}
use Rattle.std.specs.Str.{IsCharBoundary}
use Rattle.yf_chars.specs.Signs.{LINE_FEED, TAB}
use Rattle.yf_chars.specs.Text.{CharAt, code, no_char}
use Rattle.yf_events.specs.declared.lists.Lists.{Lists}
use Rattle.yf_forms.specs.declared.style.Style.{Style}
use Rattle.yf_lines.specs.Basic.{ForbiddenLine}
use Rattle.yf_lines.specs.Lines.{Table}
use Rattle.yf_ranges.specs.Spans.{BlankSpan, BreakSpan, CharacterSpan, LineRest, WhiteSpan}
use Rattle.yf_ranges.specs.declared.detail.Detail.{Detail}
use Rattle.yf_ranges.specs.declared.detail.Message.{Message}
use Rattle.yf_ranges.specs.declared.detail.Message.TheVariants as Says
use Rattle.yf_rule_sets.specs.RuleOf.{definition_of}
use Rattle.yf_rule_sets.specs.RuleSets.Whites.{WhitesEnd}
use Rattle.yf_rule_sets.specs.declared.rules.StyleRule.{StyleRule}
use Rattle.yf_rule_sets.specs.declared.rules.StyleRule.TheVariants.{TrailingBlanks, Indentation, Quoting, DocumentStart, FinalBreak, LineBreaks, ByteOrderMark, BlankLines, FlowLayout, CommentSpace, LineLength, RepeatedKeys, KeyMark, HiddenCharacter}

-- `Ends` holds of the fault's span, and the message is this one
pub record EndsBy (Ends : ℕ → ℕ → Type 0) (message : Message) (d : Detail) : Type 0 where
  pub end : Ends d.span.start d.span.end
  pub says : d.message ≡ message

-- nothing: something is missing there
abbrev pub IsEmpty : ℕ → ℕ → Type 0
IsEmpty start end = end ≡ start

-- document-start: the marker, if text is after it; otherwise a marker is missing
pub data MarkerDetail (t : List ℕ) (d : Detail) : Type 0 where
  text_after : ForbiddenLine t d.span.start → d.span.end ≡ d.span.start + 3 → d.message ≡ Says.TextAfterMarker → MarkerDetail t d
  no_marker : (ForbiddenLine t d.span.start → ⊥) → d.span.end ≡ d.span.start → d.message ≡ Says.NoMarker → MarkerDetail t d

-- line-breaks: the break, and whether it has a line feed
pub record BreakDetail (t : List ℕ) (d : Detail) : Type 0 where
  pub end : BreakSpan t d.span.start d.span.end
  pub message : d.message ≡ Says.CarriageReturn (code t (d.span.start + 1) == LINE_FEED)

-- a tab is from one offset to another
pub record HasTab (t : List ℕ) (start end : ℕ) : Type 0 where
  pub at : ℕ
  pub from : start ≤ at
  pub to : at < end
  pub tab : code t at ≡ TAB

-- comment-space: the number sign, and how much white space is directly before it
pub record CommentDetail (t : List ℕ) (d : Detail) : Type 0 where
  pub end : CharacterSpan t d.span.start d.span.end
  pub white : ℕ
  pub whites : WhitesEnd t 0 d.span.start white
  pub has_tab : Bool
  pub tab : MatchBool has_tab (HasTab t white d.span.start) (HasTab t white d.span.start → ⊥)
  pub message : d.message ≡ Says.CommentSpace (d.span.start - white) has_tab

-- line-length: the rest of the line, and its number of characters
pub record LengthDetail (t : List ℕ) (max_line : ℕ) (d : Detail) : Type 0 where
  pub count : ℕ
  pub rest : LineRest t d.span.start d.span.end count
  pub message : d.message ≡ Says.LineLength max_line count

-- hidden-character: the character
pub data HiddenDetail (t : List ℕ) (d : Detail) : Type 0 where
  one : {c : ℕ} → CharAt t d.span.start c d.span.end → d.message ≡ Says.HiddenCharacter c → HiddenDetail t d
  none : code t d.span.start ≡ no_char → d.span.end ≡ d.span.start → d.message ≡ Says.HiddenCharacter 0 → HiddenDetail t d

-- the detail of a rule with its own span; for the other rules, the character at the finding's offset
abbrev pub DetailOf : StyleRule → List ℕ → Style → Detail → Type 0
DetailOf TrailingBlanks t style = EndsBy (WhiteSpan t) Says.TrailingBlanks
DetailOf Indentation t style = EndsBy (CharacterSpan t) Says.Indentation
DetailOf Quoting t style = EndsBy (CharacterSpan t) Says.Quoting
DetailOf DocumentStart t style = MarkerDetail t
DetailOf FinalBreak t style = EndsBy IsEmpty Says.NoFinalBreak
DetailOf LineBreaks t style = BreakDetail t
DetailOf ByteOrderMark t style = EndsBy (CharacterSpan t) Says.ByteOrderMark
DetailOf BlankLines t style = EndsBy (BlankSpan t) Says.BlankLine
DetailOf FlowLayout t style = EndsBy (CharacterSpan t) Says.FlowLayout
DetailOf CommentSpace t style = CommentDetail t
DetailOf LineLength t style = LengthDetail t style.max_line
DetailOf RepeatedKeys t style = EndsBy (CharacterSpan t) Says.RepeatedKey
DetailOf KeyMark t style = EndsBy (CharacterSpan t) Says.KeyMark
DetailOf HiddenCharacter t style = HiddenDetail t

-- a detail at an offset, within the text
pub record DetailAt (Exact : Detail → Type 0) (t : List ℕ) (offset : ℕ) (d : Detail) : Type 0 where
  pub start : d.span.start ≡ offset
  pub order : d.span.start ≤ d.span.end
  pub within : d.span.end ≤ length t
  pub exact : Exact d

-- something is missing at the position, so that the span may be empty
abbrev pub is_missing : Message → Bool
is_missing Says.NoMarker = Bool.true
is_missing Says.NoFinalBreak = Bool.true
is_missing _ = false

-- the span lies in the text. If it is empty, the text ends there, or something is missing there
pub record IsInside (t : List ℕ) (d : Detail) : Type 0 where
  pub order : d.span.start ≤ d.span.end
  pub within : d.span.end ≤ length t
  pub filled : d.span.start < length t → is_missing d.message ≡ false → d.span.start < d.span.end

-- the details of the offsets that are found: each detail is at one of them, and each of them at which a character
-- begins or the text ends has one. An offset within a character has no position, and no detail
pub record DetailsOf (Finds : List ℕ → Type 0) (Exact : Detail → Type 0) (t : List ℕ) (ds : List Detail) : Type 0 where
  pub offsets : List ℕ
  pub found : Finds offsets
  pub only : (d : Detail) → Contains ds d → Contains offsets d.span.start × Exact d × IsInside t d
  pub all : (o : ℕ) → Contains offsets o → IsCharBoundary t o → (d : Detail) × Contains ds d × (d.span.start ≡ o)

-- the details of a rule
abbrev pub RuleDetails : StyleRule → Table → Lists → Style → List Detail → Type 0
RuleDetails rule src r style ds = DetailsOf ((definition_of rule).faults src r style) (DetailOf rule src.text style) src.text ds

-- the detail of one offset, if a character begins there or the text ends there
abbrev pub IsDetailOf : StyleRule → List ℕ → Style → ℕ → Option Detail → Type 0
IsDetailOf rule t style offset result =
    MatchOption result (IsCharBoundary t offset → ⊥) (λ d. IsCharBoundary t offset × DetailAt (DetailOf rule t style) t offset d)
