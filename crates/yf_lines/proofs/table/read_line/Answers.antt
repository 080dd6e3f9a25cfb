use Rattle.std.proofs.Common.{◌≡◌, length, arith}
use Rattle.std.proofs.lemmas.Str.{IsCharBoundary-end}
use Rattle.yf_lines.proofs.LineLemmas.{line_to_break, line_to_end, end_from_stop, apart_at_end, whole_line}
use Rattle.yf_lines.proofs.table.read_line.Goals as goal

pub returns-in-Some-clause-line : goal.returns-in-Some-clause-line
returns-in-Some-clause-line c =
    line_to_break c.args.text.now c.args.start c.skip_spaces-past_spaces.result c.next_break-end.result c.requires.inside c.skip_spaces-past_spaces.ensures.order
    c.skip_spaces-past_spaces.ensures.spaces c.skip_spaces-past_spaces.ensures.all c.next_break-end.ensures.unbroken
    c.in-Some.next c.in-Some.ensures.reads

text_ends : (c : goal.In-None) → c.next_break-end.result ≡ length c.args.text.now
text_ends c =
    end_from_stop c.args.text.now c.args.start c.next_break-end.result c.requires.apart
    (whole_line c.args.text.now c.args.start c.skip_spaces-past_spaces.result c.next_break-end.result c.requires.inside c.skip_spaces-past_spaces.ensures.order
    c.skip_spaces-past_spaces.ensures.spaces c.skip_spaces-past_spaces.ensures.all c.next_break-end.ensures.unbroken)
    c.next_break-end.ensures.stops c.in-None.ensures.reads

pub returns-in-None-clause-line : goal.returns-in-None-clause-line
returns-in-None-clause-line c =
    line_to_end c.args.text.now c.args.start c.skip_spaces-past_spaces.result c.next_break-end.result c.requires.inside c.skip_spaces-past_spaces.ensures.order
    c.skip_spaces-past_spaces.ensures.spaces c.skip_spaces-past_spaces.ensures.all c.next_break-end.ensures.unbroken
    (text_ends c)

pub returns-in-None-clause-order : goal.returns-in-None-clause-order
returns-in-None-clause-order c = let e = text_ends c in omega (arith, c.requires.inside)

pub returns-in-None-clause-boundary : goal.returns-in-None-clause-boundary
returns-in-None-clause-boundary c = rw (text_ends c) (IsCharBoundary-end c.args.text.now)

pub returns-in-None-clause-apart : goal.returns-in-None-clause-apart
returns-in-None-clause-apart c = apart_at_end c.args.text.now _ (text_ends c)
