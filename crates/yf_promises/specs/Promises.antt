-- The promises of yamlfmt. `Promises` is the statement for readers: it says what a tool does that accepts, prints,
-- formats and checks texts, over the productions of YAML 1.2.2 with our reading rules. It doesn't say how the tool lays
-- out a text, nor what each rule finds. `yamlfmt` is the tool of this repository. (A command refuses a text of more
-- than 1 GiB, and one whose formatting would be longer; and memory may be refused.)
use Rattle.std.specs.Prelude.{◌≡◌, ℕ, Bool, true, List, []}
use Rattle.std.specs.List.{Contains}
use Rattle.std.specs.Str.{IsUtf8}
use Rattle.yf_lines.specs.Lines.{AreLines, Table}
use Rattle.yf_events.specs.Content.{ContentOf}
use Rattle.yf_events.specs.Notation.{notation, notation_of}
use Rattle.yf_events.specs.declared.lists.Lists.{Lists}
use Rattle.yf_stream.specs.ReadingOf.{ReadingOf}
use Rattle.yf_forms.specs.declared.style.Style.{Style}
use Rattle.yf_rule_sets.specs.RuleOf.{definition_of}
use Rattle.yf_rule_sets.specs.declared.rules.StyleRule.{StyleRule}
use Rattle.yf_laws.specs.Format.{IsFormatting}
use Rattle.yf_standard.specs.Laws.{IsStandardStream}
use Rattle.yf_standard.specs.Readings.{StreamSaid}
use Rattle.yf_promises.specs.Ends.{ends_by}
use Rattle.yf_promises.specs.Said.{ContentSaid, IsAccepted, SameComments, SameContent, StreamEvents, TaggedEvent, said_by}

-- A tool for texts.
pub record Tool : Type 1 where
  -- its styles, and its rules of style
  pub Style : Type 0
  pub Rule : Type 0
  -- the second text is what it prints for the events of a text
  pub Prints : List ℕ → List ℕ → Type 0
  -- the second text is what it gives for a text in a style
  pub Formats : List ℕ → Style → List ℕ → Type 0
  -- a list of exactly the offsets at which a rule finds faults in a text in a style
  pub Finds : Rule → List ℕ → Style → List ℕ → Type 0
  -- formatting fixes the findings of the rule
  pub fixes : Rule → Bool

-- What the tool promises for every UTF-8 text and every style.
pub record Promises (tool : Tool) : Type 0 where
  -- It prints one text for each accepted text, and for no other. This is the notation of the events that each
  -- derivation states, in order, with their resolved tags, and with `---` and `...` of documents.
  pub prints : (t : List ℕ) → IsUtf8 t → IsAccepted t → (out : List ℕ) × tool.Prints t out
  pub prints_accepted : (t out : List ℕ) → IsUtf8 t → tool.Prints t out → IsAccepted t
  pub prints_events : (t out : List ℕ) → IsUtf8 t → tool.Prints t out
      → (d : IsStandardStream t)
      → (es : List TaggedEvent) × StreamEvents (said_by d) (ends_by d) es × (out ≡ notation es)
  pub prints_one : (t out other : List ℕ) → tool.Prints t out → tool.Prints t other → out ≡ other
  -- It formats each accepted text, and no other, as one text, which is accepted too.
  pub formats : (t : List ℕ) (s : tool.Style) → IsUtf8 t → IsAccepted t → (u : List ℕ) × tool.Formats t s u
  pub formats_accepted : (t : List ℕ) (s : tool.Style) (u : List ℕ) → IsUtf8 t → tool.Formats t s u → IsAccepted t
  pub formats_one : (t : List ℕ) (s : tool.Style) (u v : List ℕ) → IsUtf8 t → tool.Formats t s u → tool.Formats t s v
      → u ≡ v
  pub gives_utf8 : (t : List ℕ) (s : tool.Style) (u : List ℕ) → IsUtf8 t → tool.Formats t s u → IsUtf8 u
  pub gives_accepted : (t : List ℕ) (s : tool.Style) (u : List ℕ) → IsUtf8 t → tool.Formats t s u → IsAccepted u
  -- The formatted text has the same content and the same comments.
  pub content : (t : List ℕ) (s : tool.Style) (u : List ℕ) → IsUtf8 t → tool.Formats t s u → SameContent t u
  pub comments : (t : List ℕ) (s : tool.Style) (u : List ℕ) → IsUtf8 t → tool.Formats t s u → SameComments t u
  -- Formatting it again changes nothing.
  pub again : (t : List ℕ) (s : tool.Style) (u : List ℕ) → IsUtf8 t → tool.Formats t s u → tool.Formats u s u
  -- Each rule finds one set of offsets in each accepted text: some list has them (written as a double negation, because
  -- the logic is constructive), and all lists of them have equal members.
  pub finds : (rule : tool.Rule) (t : List ℕ) (s : tool.Style) → IsUtf8 t → IsAccepted t
      → ((offsets : List ℕ) → tool.Finds rule t s offsets → ⊥) → ⊥
  pub finds_one : (rule : tool.Rule) (t : List ℕ) (s : tool.Style) (offsets others : List ℕ) → IsUtf8 t
      → tool.Finds rule t s offsets → tool.Finds rule t s others → (i : ℕ) → Contains offsets i → Contains others i
  -- If formatting fixes the findings of a rule, its set in a formatted text is empty. (That a check prints the findings
  -- of the rules is its own contract.)
  pub clean : (t : List ℕ) (s : tool.Style) (u : List ℕ) → IsUtf8 t → tool.Formats t s u
      → (rule : tool.Rule) → tool.fixes rule ≡ true → tool.Finds rule u s []

-- All derivations of a text state the same documents and comments.
abbrev pub StreamsSayOne : Type 0
StreamsSayOne = (t : List ℕ) → IsUtf8 t → (d e : IsStandardStream t) → said_by d ≡ said_by e

-- They say one content at most.
abbrev pub ContentIsOne : Type 0
ContentIsOne = (s : StreamSaid) (b c : ContentOf) → ContentSaid s b → ContentSaid s c → b ≡ c

-- ---- The tool of this repository, by the relations that the contracts of its commands name

-- The notation of the text's reading.
abbrev pub ReadingPrints : List ℕ → List ℕ → Type 0
ReadingPrints t out = (r : Lists) × ReadingOf t r × (out ≡ notation_of r)

-- The offsets in the rule's set for the lines and the reading of a text.
pub record RuleFinds (rule : StyleRule) (t : List ℕ) (s : Style) (offsets : List ℕ) : Type 0 where
  pub source : Table
  pub reading : Lists
  pub text : source.text ≡ t
  pub lines : AreLines t source.lines
  pub reads : ReadingOf t reading
  pub faults : (definition_of rule).faults source reading s offsets

abbrev pub yamlfmt : Tool
yamlfmt = record {
  Style = Style;
  Rule = StyleRule;
  Prints = ReadingPrints;
  Formats = IsFormatting;
  Finds = RuleFinds;
  fixes = λ rule. (definition_of rule).fixable;
}
