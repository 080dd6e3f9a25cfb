-- The definition of each rule.
use Rattle.yf_rule_sets.specs.declared.rules.StyleRule.{StyleRule}
use Rattle.yf_rule_sets.specs.declared.rules.StyleRule.TheVariants.{TrailingBlanks, Indentation, Quoting, DocumentStart, FinalBreak, LineBreaks, ByteOrderMark, BlankLines, FlowLayout, CommentSpace, LineLength, RepeatedKeys, KeyMark, HiddenCharacter}
use Rattle.yf_rule_sets.specs.Definition.{RuleDefinition}
use Rattle.yf_rule_sets.specs.Rules.{blank_lines, byte_order_mark, comment_space, document_start, final_break, flow_layout, hidden_character, indentation, key_mark, line_breaks, line_length, quoting, repeated_keys, trailing_blanks}

abbrev pub definition_of : StyleRule → RuleDefinition
definition_of TrailingBlanks = trailing_blanks
definition_of Indentation = indentation
definition_of Quoting = quoting
definition_of DocumentStart = document_start
definition_of FinalBreak = final_break
definition_of LineBreaks = line_breaks
definition_of ByteOrderMark = byte_order_mark
definition_of BlankLines = blank_lines
definition_of FlowLayout = flow_layout
definition_of CommentSpace = comment_space
definition_of LineLength = line_length
definition_of RepeatedKeys = repeated_keys
definition_of KeyMark = key_mark
definition_of HiddenCharacter = hidden_character
