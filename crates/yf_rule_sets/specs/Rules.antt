-- The rules, in the order of their numbers.
use Rattle.std.specs.Prelude.{true, false, codes}
use Rattle.yf_rule_sets.specs.Definition.{RuleDefinition}
use Rattle.yf_rule_sets.specs.Sets.{blank_lines_at, byte_order_mark_at, comment_space_at, document_start_at, final_break_at, flow_layout_at, hidden_character_at, indentation_at, key_mark_at, line_breaks_at, line_length_at, quoting_at, repeated_keys_at, trailing_blanks_at}

abbrev pub trailing_blanks : RuleDefinition
trailing_blanks = record { number = 1; id = codes "trailing-blanks"; fixable = true; faults = trailing_blanks_at }

abbrev pub indentation : RuleDefinition
indentation = record { number = 2; id = codes "indentation"; fixable = true; faults = indentation_at }

abbrev pub quoting : RuleDefinition
quoting = record { number = 3; id = codes "quoting"; fixable = true; faults = quoting_at }

abbrev pub document_start : RuleDefinition
document_start = record { number = 4; id = codes "document-start"; fixable = true; faults = document_start_at }

abbrev pub final_break : RuleDefinition
final_break = record { number = 5; id = codes "final-break"; fixable = true; faults = final_break_at }

abbrev pub line_breaks : RuleDefinition
line_breaks = record { number = 6; id = codes "line-breaks"; fixable = true; faults = line_breaks_at }

abbrev pub byte_order_mark : RuleDefinition
byte_order_mark = record { number = 7; id = codes "byte-order-mark"; fixable = true; faults = byte_order_mark_at }

abbrev pub blank_lines : RuleDefinition
blank_lines = record { number = 8; id = codes "blank-lines"; fixable = true; faults = blank_lines_at }

abbrev pub flow_layout : RuleDefinition
flow_layout = record { number = 9; id = codes "flow-layout"; fixable = true; faults = flow_layout_at }

abbrev pub comment_space : RuleDefinition
comment_space = record { number = 10; id = codes "comment-space"; fixable = true; faults = comment_space_at }

abbrev pub line_length : RuleDefinition
line_length = record { number = 11; id = codes "line-length"; fixable = false; faults = line_length_at }

abbrev pub repeated_keys : RuleDefinition
repeated_keys = record { number = 12; id = codes "repeated-keys"; fixable = false; faults = repeated_keys_at }

abbrev pub key_mark : RuleDefinition
key_mark = record { number = 13; id = codes "key-mark"; fixable = true; faults = key_mark_at }

abbrev pub hidden_character : RuleDefinition
hidden_character = record { number = 14; id = codes "hidden-character"; fixable = false; faults = hidden_character_at }
