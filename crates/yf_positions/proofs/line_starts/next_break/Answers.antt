use Rattle.std.proofs.lemmas.List.{take_rest}
use Rattle.yf_positions.proofs.StartLemmas.{found_break, found_none}
use Rattle.yf_positions.proofs.line_starts.next_break.Goals as goal

pub returns-in-Some : goal.returns-in-Some
returns-in-Some c =
    let found = rw (take_rest c.args.bytes.now c.args.from) at c.in-Some.ensures in
    found_break c.args.bytes.now c.args.from c.in-Some.index c.requires found.0 found.1

pub returns-in-None : goal.returns-in-None
returns-in-None c =
    let none = rw (take_rest c.args.bytes.now c.args.from) at c.in-None.ensures in
    found_none c.args.bytes.now c.args.from c.requires none
