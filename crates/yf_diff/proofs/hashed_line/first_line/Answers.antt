-- The first line ends after the first line feed, or with the text.
use Rattle.std.proofs.Common.{add-one, length, arith}
use Rattle.std.proofs.lemmas.List.{take_all, drop_all}
use Rattle.yf_diff.proofs.LineLemmas.{line_to_feed, line_to_end}
use Rattle.yf_diff.proofs.hashed_line.first_line.Goals as goal

pub returns-in-Some-clause-line : goal.returns-in-Some-clause-line
returns-in-Some-clause-line c = rw add-one (line_to_feed c.args.text.now c.in-Some.at c.in-Some.ensures.0.high c.in-Some.ensures.0.before c.in-Some.ensures.1)

pub returns-in-None-clause-line : goal.returns-in-None-clause-line
returns-in-None-clause-line c =
    let text = c.args.text.now in
    rw (take_all (length text) text (omega arith), drop_all (length text) text (omega arith)) (line_to_end text c.requires c.in-None.ensures)
