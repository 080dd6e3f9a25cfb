-- A formatted text has no fixable finding.
use Rattle.std.proofs.Common.{true≢false, sym}
use Rattle.yf_rule_sets.specs.declared.rules.StyleRule.TheVariants.{TrailingBlanks, Indentation, Quoting, DocumentStart, FinalBreak, LineBreaks, ByteOrderMark, BlankLines, FlowLayout, CommentSpace, LineLength, RepeatedKeys, KeyMark, HiddenCharacter}
use Rattle.yf_laws.specs.Mended.{RulesAreMended}
use Rattle.yf_laws.proofs.Formatted.MendedTrailingBlanks.{trailing_blanks_mended}
use Rattle.yf_laws.proofs.Formatted.MendedFlowLayout.{flow_layout_mended}
use Rattle.yf_laws.proofs.Formatted.MendedCommentSpace.{comment_space_mended}
use Rattle.yf_laws.proofs.Formatted.MendedIndentation.{indentation_mended}
use Rattle.yf_laws.proofs.Formatted.MendedLines.{byte_order_mark_mended, final_break_mended, line_breaks_mended}
use Rattle.yf_laws.proofs.Formatted.MendedKeyMark.{key_mark_mended}
use Rattle.yf_laws.proofs.Formatted.MendedQuoting.{quoting_mended}
use Rattle.yf_laws.proofs.Formatted.MendedBlankLines.{blank_lines_mended}
use Rattle.yf_laws.proofs.Formatted.MendedDocumentStart.{document_start_mended}

pub rule_mended : RulesAreMended
rule_mended TrailingBlanks = trailing_blanks_mended
rule_mended Indentation = indentation_mended
rule_mended Quoting = quoting_mended
rule_mended DocumentStart = document_start_mended
rule_mended FinalBreak = final_break_mended
rule_mended LineBreaks = line_breaks_mended
rule_mended ByteOrderMark = byte_order_mark_mended
rule_mended BlankLines = blank_lines_mended
rule_mended FlowLayout = flow_layout_mended
rule_mended CommentSpace = comment_space_mended
rule_mended LineLength = λ fixable. absurd (true≢false (sym fixable))
rule_mended RepeatedKeys = λ fixable. absurd (true≢false (sym fixable))
rule_mended KeyMark = key_mark_mended
rule_mended HiddenCharacter = λ fixable. absurd (true≢false (sym fixable))
