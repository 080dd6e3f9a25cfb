use Rattle.yf_forms.proofs.Texts.GapLemmas.{gap_feed, gap_return, gap_comment, gap_space, gap_tab, gap_sign, gap_none}
use Rattle.yf_forms.proofs.text.content_start.after_byte.Goals as goal

pub returns-then-byte-eq10 : goal.returns-then-byte-eq10
returns-then-byte-eq10 c = λ bs. gap_feed c.args.in_comment c.args.byte bs c.if-byte-eq10.true

pub returns-then-byte-eq13 : goal.returns-then-byte-eq13
returns-then-byte-eq13 c = λ bs. gap_return c.args.in_comment c.args.byte bs c.if-byte-eq13.true

pub returns-then-in_comment : goal.returns-then-in_comment
returns-then-in_comment c = λ bs. gap_comment c.args.in_comment c.args.byte bs c.if-byte-eq10.false c.if-byte-eq13.false c.if-in_comment.true

pub returns-then-byte-eq32 : goal.returns-then-byte-eq32
returns-then-byte-eq32 c = λ bs. gap_space c.args.in_comment c.args.byte bs c.if-in_comment.false c.if-byte-eq32.true

pub returns-then-byte-eq9 : goal.returns-then-byte-eq9
returns-then-byte-eq9 c = λ bs. gap_tab c.args.in_comment c.args.byte bs c.if-in_comment.false c.if-byte-eq9.true

pub returns-then-byte-eq35 : goal.returns-then-byte-eq35
returns-then-byte-eq35 c = λ bs. gap_sign c.args.in_comment c.args.byte bs c.if-in_comment.false c.if-byte-eq35.true

pub returns : goal.returns
returns c = λ bs. gap_none c.args.in_comment c.args.byte bs c.if-byte-eq10.false c.if-byte-eq13.false c.if-in_comment.false c.if-byte-eq32.false
    c.if-byte-eq9.false c.if-byte-eq35.false
