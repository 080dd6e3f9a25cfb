-- The problems of a text that the editor server publishes.
use Rattle.std.specs.Prelude.{◌≡◌, ◌≢◌, ◌⊎◌, ◌<◌, ℕ, List, [], ◌∷◌, ◌++◌, length, map, Option, None, Some, codes}
use Rattle.std.specs.Str.{IsCharBoundary}
use Rattle.yf_events.specs.declared.lists.Lists.{Lists}
use Rattle.yf_forms.specs.declared.style.Style.{Style}
use Rattle.yf_lines.specs.FaultPlaces.{IsPlaceOf}
use Rattle.yf_lines.specs.Lines.{AreLines, Table}
use Rattle.yf_lines.specs.declared.fault.Fault.{Fault}
use Rattle.yf_lines.specs.declared.fault.Fault.TheVariants.{NotUtf8, Syntax, TooDeep, UnknownHandle, UnknownAlias, RepeatedDirective, BadVersion, EscapeValue, Memory, ReadFailed, WriteFailed, Config}
use Rattle.yf_lines.specs.declared.place.Position.{Position}
use Rattle.yf_ranges.specs.Details.{RuleDetails}
use Rattle.yf_ranges.specs.Known.{IsRuleDetail}
use Rattle.yf_ranges.specs.Spans.{CharacterSpan}
use Rattle.yf_ranges.specs.Words.{message_words}
use Rattle.yf_ranges.specs.declared.detail.Detail.{Detail}
use Rattle.yf_rule_sets.specs.RuleOf.{definition_of}
use Rattle.yf_rule_sets.specs.declared.rules.StyleRule.{StyleRule}
use Rattle.yf_rules.specs.AllRules.{all_rules}
use Rattle.yf_rules.specs.declared.run.TheConstants.{INPUT_LIMIT}
use Rattle.yf_server.specs.Analysis.{Found}
use Rattle.yf_server.specs.declared.analysis.Severity.TheVariants.{Error, Warning}
use Rattle.yf_stream.specs.StreamReader.{StreamFault, TheReading}

-- The problem of a finding: its span, the rule's name and the words of its message. It is a warning.
abbrev pub problem_named : List ℕ → Detail → Found
problem_named id detail = record {
  start = detail.span.start;
  end = detail.span.end;
  severity = Warning;
  code = id;
  message = message_words detail.message;
}

abbrev pub problem_by : StyleRule → Detail → Found
problem_by rule detail = problem_named (definition_of rule).id detail

-- The detail that is shown for a detail of a rule: the one with values from the reading, if there is one at its offset,
-- and otherwise the detail itself.
pub data ShownFor (rule : StyleRule) (src : Table) (reading : Lists) (style : Style) (d s : Detail) : Type 0 where
  with_values : IsRuleDetail rule src reading style d.span.start (Some s) → ShownFor rule src reading style d s
  without_values : IsRuleDetail rule src reading style d.span.start None → s ≡ d → ShownFor rule src reading style d s
  no_position : (IsCharBoundary src.text d.span.start → ⊥) → s ≡ d → ShownFor rule src reading style d s

-- those of several details, in order
pub data AreShown (rule : StyleRule) (src : Table) (reading : Lists) (style : Style) : List Detail → List Detail → Type 0
  where
    none_shown : AreShown rule src reading style [] []
    one_shown : {ds ss : List Detail} {d s : Detail} → AreShown rule src reading style ds ss
        → ShownFor rule src reading style d s → AreShown rule src reading style (ds ++ d ∷ []) (ss ++ s ∷ [])

-- The problems that rules find, rule by rule.
pub data FoundBy (src : Table) (reading : Lists) (style : Style) : List StyleRule → List Found → Type 0 where
  no_rule : FoundBy src reading style [] []
  one_rule : {rules : List StyleRule} {found : List Found} (rule : StyleRule) (details shown : List Detail)
      → FoundBy src reading style rules found → RuleDetails rule src reading style details
      → AreShown rule src reading style details shown
      → FoundBy src reading style (rules ++ rule ∷ []) (found ++ map (problem_by rule) shown)

-- the position of a refusal in its text
abbrev pub refused_at : Fault → Option Position
refused_at (NotUtf8 offset) = None
refused_at (Syntax place what) = Some place
refused_at (TooDeep place) = Some place
refused_at (UnknownHandle place) = Some place
refused_at (UnknownAlias place) = Some place
refused_at (RepeatedDirective place) = Some place
refused_at (BadVersion place) = Some place
refused_at (EscapeValue place) = Some place
refused_at Memory = None
refused_at ReadFailed = None
refused_at WriteFailed = None
refused_at (Config key) = None

-- what a refusal is called
abbrev pub refusal_name : Fault → List ℕ
refusal_name (Syntax place what) = codes "syntax"
refusal_name (TooDeep place) = codes "too-deep"
refusal_name (UnknownHandle place) = codes "unknown-handle"
refusal_name (UnknownAlias place) = codes "unknown-alias"
refusal_name (RepeatedDirective place) = codes "repeated-directive"
refusal_name (BadVersion place) = codes "bad-version"
refusal_name (EscapeValue place) = codes "escape-value"
refusal_name _ = []

-- why a text is refused
abbrev pub refusal_words : Fault → List ℕ
refusal_words (Syntax place what) = what.now
refusal_words (TooDeep place) = codes "more than 1,024 collections would be open here"
refusal_words (UnknownHandle place) = codes "no %TAG directive of this document declares the tag's handle"
refusal_words (UnknownAlias place) = codes "no anchor with this name comes before it in this document"
refusal_words (RepeatedDirective place) = codes "a document has at most one %YAML, and one %TAG for each handle"
refusal_words (BadVersion place) = codes "unsupported YAML version: write 1.2"
refusal_words (EscapeValue place) = codes "this escape is not a Unicode character"
refusal_words _ = []

-- The problem of a refusal: the character at its position, or the end of the text. It is an error.
pub record RefusalFound (text : List ℕ) (why : Fault) (f : Found) : Type 0 where
  pub place : Position
  pub at : refused_at why ≡ Some place
  pub start : IsPlaceOf text f.start place
  pub end : CharacterSpan text f.start f.end
  pub severity : f.severity ≡ Error
  pub code : f.code ≡ refusal_name why
  pub message : f.message ≡ refusal_words why

-- The text is refused, and that is its only problem.
pub record IsRefused (text : List ℕ) (found : List Found) : Type 0 where
  pub why : Fault
  pub refused : StreamFault text why
  pub problem : Found
  pub only : found ≡ problem ∷ []
  pub is : RefusalFound text why problem

-- The text is accepted, and its problems are those that all rules find in its reading.
pub record IsAccepted (style : Style) (text : List ℕ) (found : List Found) : Type 0 where
  pub src : Table
  pub of_text : src.text ≡ text
  pub lines : AreLines src.text src.lines
  pub reading : Lists
  pub reads : TheReading text reading
  pub rules : FoundBy src reading style all_rules found

-- The problems of a text in a style. A text that is too long to be read has none.
abbrev pub FindsProblems : Style → List ℕ → List Found → Type 0
FindsProblems style text found =
    ((INPUT_LIMIT < length text) × (found ≡ [])) ⊎ IsRefused text found ⊎ IsAccepted style text found
