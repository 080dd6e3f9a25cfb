-- The findings of the rules in a text, whatever its source.
use Rattle.std.specs.Prelude.{◌≡◌, ℕ, List}
use Rattle.std.specs.Str.{IsUtf8}
use Rattle.yf_lines.specs.Lines.{AreLines, Table}
use Rattle.yf_events.specs.declared.lists.Lists.{Lists}
use Rattle.yf_events.specs.declared.reading.TheConstants.{DEPTH}
use Rattle.yf_events.specs.Nested.{IsStream}
use Rattle.yf_events.specs.Reading.{events_of}
use Rattle.yf_laws.specs.Format.{IsFormatting}
use Rattle.yf_forms.specs.declared.style.Style.{Style}
use Rattle.yf_rules.specs.NothingToFix.{NoneFixable}
use Rattle.yf_rules.specs.declared.finding.Finding.{Finding}
use Rattle.yf_stream.specs.StreamReader.{TheReading}

-- The lines are those of the text, and the rules find these findings in the text's reading, whose events are a well
-- nested stream; C relates a reading to its findings. If the text is the formatting of some text in the style, none is
-- fixable.
pub record FoundIn (C : Table → Lists → List Finding → Type 0) (style : Style) (text : List ℕ) (findings : List Finding) : Type 0 where
  pub src : Table
  pub reading : Lists
  pub of_text : src.text ≡ text
  pub lines : AreLines src.text src.lines
  pub nested : IsStream DEPTH (events_of reading)
  pub reads : TheReading text reading
  pub checked : C src reading findings
  pub mends : (source : List ℕ) → IsUtf8 source → IsFormatting source style text → NoneFixable findings
