-- The faults of each rule, as byte offsets in any order, for a text with these lines and this reading under this style.
use Rattle.std.specs.Prelude.{◌≡◌, ◌≢◌, ◌==◌, if◌then◌else◌, ℕ, List, [], ◌∷◌, length}
use Rattle.yf_chars.specs.Text.{code}
use Rattle.yf_lines.specs.Basic.{Break}
use Rattle.yf_lines.specs.declared.line.Line.{Line}
use Rattle.yf_lines.specs.Lines.{Table}
use Rattle.yf_events.specs.Tree.{DocumentTree, TreesOf}
use Rattle.yf_events.specs.declared.lists.Lists.{Lists}
use Rattle.yf_forms.specs.NormalForms.Textual.{CommentsAscend, IsTextual}
use Rattle.yf_forms.specs.declared.style.Style.{Style}
use Rattle.yf_rule_sets.specs.RuleSets.BlankLines.{MisplacedBlank}
use Rattle.yf_rule_sets.specs.RuleSets.ByLine.{BeyondLimit, TrailingBlank}
use Rattle.yf_rule_sets.specs.RuleSets.Documents.{NoMarkerLine}
use Rattle.yf_rule_sets.specs.RuleSets.Exact.{Exactly}
use Rattle.yf_rule_sets.specs.RuleSets.HiddenCharacters.{HiddenCharacter}
use Rattle.yf_rule_sets.specs.RuleSets.Indents.{IndentFault}
use Rattle.yf_rule_sets.specs.RuleSets.Layouts.{LayoutFault, NeedlessMark}
use Rattle.yf_rule_sets.specs.RuleSets.Nodes.{RepeatedKey}
use Rattle.yf_rule_sets.specs.RuleSets.Scalars.{LooseMark}
use Rattle.yf_rule_sets.specs.RuleSets.Styles.{QuotingFault}
use Rattle.yf_rule_sets.specs.RuleSets.Whites.{CloseComment}

-- final-break: the end of a text that is not empty and does not end with a line break
pub data WithoutFinalBreak (t : List ℕ) : List ℕ → Type 0 where
  of_empty_text : length t ≡ 0 → WithoutFinalBreak t []
  has_break : {i : ℕ} → Break t i (length t) → WithoutFinalBreak t []
  no_break : length t ≢ 0 → ((i : ℕ) → Break t i (length t) → ⊥) → WithoutFinalBreak t (length t ∷ [])

abbrev pub final_break_at : Table → Lists → Style → List ℕ → Type 0
final_break_at src reading style offsets = WithoutFinalBreak src.text offsets

-- line-breaks: the first break that begins with a carriage return
abbrev pub first_return : List ℕ → List Line → List ℕ
first_return t [] = []
first_return t (l ∷ ls) = if code t l.end == 13 then l.end ∷ [] else first_return t ls

abbrev pub line_breaks_at : Table → Lists → Style → List ℕ → Type 0
line_breaks_at src reading style offsets = offsets ≡ first_return src.text src.lines

abbrev pub trailing_blanks_at : Table → Lists → Style → List ℕ → Type 0
trailing_blanks_at src reading style offsets = Exactly (TrailingBlank src reading) offsets

-- indentation: the faults, if the reading has trees, which it has if and only if it is well placed; otherwise any
-- offsets
abbrev pub indentation_at : Table → Lists → Style → List ℕ → Type 0
indentation_at src reading style offsets = (trees : List DocumentTree) → TreesOf reading trees → Exactly (IndentFault src style trees) offsets

abbrev pub quoting_at : Table → Lists → Style → List ℕ → Type 0
quoting_at src reading style offsets = Exactly (QuotingFault src.text reading style) offsets

abbrev pub document_start_at : Table → Lists → Style → List ℕ → Type 0
document_start_at src reading style offsets = Exactly (NoMarkerLine src.text reading style) offsets

abbrev pub byte_order_mark_at : Table → Lists → Style → List ℕ → Type 0
byte_order_mark_at src reading style offsets = Exactly (LooseMark src.text reading) offsets

abbrev pub blank_lines_at : Table → Lists → Style → List ℕ → Type 0
blank_lines_at src reading style offsets = Exactly (MisplacedBlank src reading) offsets

-- flow-layout: the faults, if the reading has trees and its comments are in the order of the text; otherwise any
-- offsets
abbrev pub flow_layout_at : Table → Lists → Style → List ℕ → Type 0
flow_layout_at src reading style offsets =
    (trees : List DocumentTree) → TreesOf reading trees → CommentsAscend reading → Exactly (LayoutFault src reading style) offsets

abbrev pub comment_space_at : Table → Lists → Style → List ℕ → Type 0
comment_space_at src reading style offsets = Exactly (CloseComment src.text reading) offsets

abbrev pub line_length_at : Table → Lists → Style → List ℕ → Type 0
line_length_at src reading style offsets = Exactly (BeyondLimit src style.max_line) offsets

-- repeated-keys: the faults, if the reading has trees; otherwise any offsets
abbrev pub repeated_keys_at : Table → Lists → Style → List ℕ → Type 0
repeated_keys_at src reading style offsets = (trees : List DocumentTree) → TreesOf reading trees → Exactly (RepeatedKey reading trees) offsets

-- key-mark: the faults, if the reading is like those of texts; otherwise any offsets
abbrev pub key_mark_at : Table → Lists → Style → List ℕ → Type 0
key_mark_at src reading style offsets = (w : IsTextual reading) → Exactly (NeedlessMark src reading style w.trees) offsets

abbrev pub hidden_character_at : Table → Lists → Style → List ℕ → Type 0
hidden_character_at src reading style offsets = Exactly (HiddenCharacter src.text reading style) offsets
