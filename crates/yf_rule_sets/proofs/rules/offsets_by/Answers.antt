use Rattle.std.proofs.Common.{subst, sym}
use Rattle.std.specs.Prelude.{IfOk}
use Rattle.yf_rule_sets.specs.RuleOf.{definition_of}
use Rattle.yf_rule_sets.proofs.rules.offsets_by.Goals as goal

pub returns-in-TrailingBlanks : goal.returns-in-TrailingBlanks
returns-in-TrailingBlanks c = subst (λ rule. IfOk c.offsets.result (λ found. (definition_of rule).faults c.args.src.now c.args.reading.now c.args.style.now found.items)) (sym c.in-TrailingBlanks.is) c.offsets.ensures

pub returns-in-Indentation : goal.returns-in-Indentation
returns-in-Indentation c = subst (λ rule. IfOk c.offsets-in-Indentation.result (λ found. (definition_of rule).faults c.args.src.now c.args.reading.now c.args.style.now found.items)) (sym c.in-Indentation.is) c.offsets-in-Indentation.ensures

pub returns-in-Quoting : goal.returns-in-Quoting
returns-in-Quoting c = subst (λ rule. IfOk c.offsets-in-Quoting.result (λ found. (definition_of rule).faults c.args.src.now c.args.reading.now c.args.style.now found.items)) (sym c.in-Quoting.is) c.offsets-in-Quoting.ensures

pub returns-in-DocumentStart : goal.returns-in-DocumentStart
returns-in-DocumentStart c = subst (λ rule. IfOk c.offsets-in-DocumentStart.result (λ found. (definition_of rule).faults c.args.src.now c.args.reading.now c.args.style.now found.items)) (sym c.in-DocumentStart.is) c.offsets-in-DocumentStart.ensures

pub returns-in-FinalBreak : goal.returns-in-FinalBreak
returns-in-FinalBreak c = subst (λ rule. IfOk c.offsets-in-FinalBreak.result (λ found. (definition_of rule).faults c.args.src.now c.args.reading.now c.args.style.now found.items)) (sym c.in-FinalBreak.is) c.offsets-in-FinalBreak.ensures

pub returns-in-LineBreaks : goal.returns-in-LineBreaks
returns-in-LineBreaks c = subst (λ rule. IfOk c.offsets-in-LineBreaks.result (λ found. (definition_of rule).faults c.args.src.now c.args.reading.now c.args.style.now found.items)) (sym c.in-LineBreaks.is) c.offsets-in-LineBreaks.ensures

pub returns-in-ByteOrderMark : goal.returns-in-ByteOrderMark
returns-in-ByteOrderMark c = subst (λ rule. IfOk c.offsets-in-ByteOrderMark.result (λ found. (definition_of rule).faults c.args.src.now c.args.reading.now c.args.style.now found.items)) (sym c.in-ByteOrderMark.is) c.offsets-in-ByteOrderMark.ensures

pub returns-in-BlankLines : goal.returns-in-BlankLines
returns-in-BlankLines c = subst (λ rule. IfOk c.offsets-in-BlankLines.result (λ found. (definition_of rule).faults c.args.src.now c.args.reading.now c.args.style.now found.items)) (sym c.in-BlankLines.is) c.offsets-in-BlankLines.ensures

pub returns-in-FlowLayout : goal.returns-in-FlowLayout
returns-in-FlowLayout c = subst (λ rule. IfOk c.offsets-in-FlowLayout.result (λ found. (definition_of rule).faults c.args.src.now c.args.reading.now c.args.style.now found.items)) (sym c.in-FlowLayout.is) c.offsets-in-FlowLayout.ensures

pub returns-in-CommentSpace : goal.returns-in-CommentSpace
returns-in-CommentSpace c = subst (λ rule. IfOk c.offsets-in-CommentSpace.result (λ found. (definition_of rule).faults c.args.src.now c.args.reading.now c.args.style.now found.items)) (sym c.in-CommentSpace.is) c.offsets-in-CommentSpace.ensures

pub returns-in-LineLength : goal.returns-in-LineLength
returns-in-LineLength c = subst (λ rule. IfOk c.offsets-in-LineLength.result (λ found. (definition_of rule).faults c.args.src.now c.args.reading.now c.args.style.now found.items)) (sym c.in-LineLength.is) c.offsets-in-LineLength.ensures

pub returns-in-RepeatedKeys : goal.returns-in-RepeatedKeys
returns-in-RepeatedKeys c = subst (λ rule. IfOk c.offsets-in-RepeatedKeys.result (λ found. (definition_of rule).faults c.args.src.now c.args.reading.now c.args.style.now found.items)) (sym c.in-RepeatedKeys.is) c.offsets-in-RepeatedKeys.ensures

pub returns-in-KeyMark : goal.returns-in-KeyMark
returns-in-KeyMark c = subst (λ rule. IfOk c.offsets-in-KeyMark.result (λ found. (definition_of rule).faults c.args.src.now c.args.reading.now c.args.style.now found.items)) (sym c.in-KeyMark.is) c.offsets-in-KeyMark.ensures

pub returns-in-HiddenCharacter : goal.returns-in-HiddenCharacter
returns-in-HiddenCharacter c = subst (λ rule. IfOk c.offsets-in-HiddenCharacter.result (λ found. (definition_of rule).faults c.args.src.now c.args.reading.now c.args.style.now found.items)) (sym c.in-HiddenCharacter.is) c.offsets-in-HiddenCharacter.ensures
