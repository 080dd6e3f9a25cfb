use Rattle.std.proofs.Common.{subst, sym}
use Rattle.yf_ranges.specs.Details.{DetailAt, DetailOf}
use Rattle.yf_ranges.proofs.details.detail_at.Goals as goal

pub returns-in-TrailingBlanks : goal.returns-in-TrailingBlanks
returns-in-TrailingBlanks c =
    subst (λ rule. DetailAt (DetailOf rule c.args.text.now c.args.style.now) c.args.text.now c.args.offset c.trailing_blanks.result)
    (sym c.in-TrailingBlanks.is) c.trailing_blanks.ensures

pub returns-in-Indentation : goal.returns-in-Indentation
returns-in-Indentation c =
    subst (λ rule. DetailAt (DetailOf rule c.args.text.now c.args.style.now) c.args.text.now c.args.offset c.character.result)
    (sym c.in-Indentation.is) c.character.ensures

pub returns-in-Quoting : goal.returns-in-Quoting
returns-in-Quoting c =
    subst (λ rule. DetailAt (DetailOf rule c.args.text.now c.args.style.now) c.args.text.now c.args.offset c.character-in-Quoting.result)
    (sym c.in-Quoting.is) c.character-in-Quoting.ensures

pub returns-in-DocumentStart : goal.returns-in-DocumentStart
returns-in-DocumentStart c =
    subst (λ rule. DetailAt (DetailOf rule c.args.text.now c.args.style.now) c.args.text.now c.args.offset c.document_start.result)
    (sym c.in-DocumentStart.is) c.document_start.ensures

pub returns-in-FinalBreak : goal.returns-in-FinalBreak
returns-in-FinalBreak c =
    subst (λ rule. DetailAt (DetailOf rule c.args.text.now c.args.style.now) c.args.text.now c.args.offset c.final_break.result)
    (sym c.in-FinalBreak.is) c.final_break.ensures

pub returns-in-LineBreaks : goal.returns-in-LineBreaks
returns-in-LineBreaks c =
    subst (λ rule. DetailAt (DetailOf rule c.args.text.now c.args.style.now) c.args.text.now c.args.offset c.line_breaks.result)
    (sym c.in-LineBreaks.is) c.line_breaks.ensures

pub returns-in-ByteOrderMark : goal.returns-in-ByteOrderMark
returns-in-ByteOrderMark c =
    subst (λ rule. DetailAt (DetailOf rule c.args.text.now c.args.style.now) c.args.text.now c.args.offset c.character-in-ByteOrderMark.result)
    (sym c.in-ByteOrderMark.is) c.character-in-ByteOrderMark.ensures

pub returns-in-BlankLines : goal.returns-in-BlankLines
returns-in-BlankLines c =
    subst (λ rule. DetailAt (DetailOf rule c.args.text.now c.args.style.now) c.args.text.now c.args.offset c.blank_lines.result)
    (sym c.in-BlankLines.is) c.blank_lines.ensures

pub returns-in-FlowLayout : goal.returns-in-FlowLayout
returns-in-FlowLayout c =
    subst (λ rule. DetailAt (DetailOf rule c.args.text.now c.args.style.now) c.args.text.now c.args.offset c.character-in-FlowLayout.result)
    (sym c.in-FlowLayout.is) c.character-in-FlowLayout.ensures

pub returns-in-CommentSpace : goal.returns-in-CommentSpace
returns-in-CommentSpace c =
    subst (λ rule. DetailAt (DetailOf rule c.args.text.now c.args.style.now) c.args.text.now c.args.offset c.comment_space.result)
    (sym c.in-CommentSpace.is) c.comment_space.ensures

pub returns-in-LineLength : goal.returns-in-LineLength
returns-in-LineLength c =
    subst (λ rule. DetailAt (DetailOf rule c.args.text.now c.args.style.now) c.args.text.now c.args.offset c.line_length.result)
    (sym c.in-LineLength.is) c.line_length.ensures

pub returns-in-RepeatedKeys : goal.returns-in-RepeatedKeys
returns-in-RepeatedKeys c =
    subst (λ rule. DetailAt (DetailOf rule c.args.text.now c.args.style.now) c.args.text.now c.args.offset c.character-in-RepeatedKeys.result)
    (sym c.in-RepeatedKeys.is) c.character-in-RepeatedKeys.ensures

pub returns-in-KeyMark : goal.returns-in-KeyMark
returns-in-KeyMark c =
    subst (λ rule. DetailAt (DetailOf rule c.args.text.now c.args.style.now) c.args.text.now c.args.offset c.character-in-KeyMark.result)
    (sym c.in-KeyMark.is) c.character-in-KeyMark.ensures

pub returns-in-HiddenCharacter : goal.returns-in-HiddenCharacter
returns-in-HiddenCharacter c =
    subst (λ rule. DetailAt (DetailOf rule c.args.text.now c.args.style.now) c.args.text.now c.args.offset c.hidden_character.result)
    (sym c.in-HiddenCharacter.is) c.hidden_character.ensures
