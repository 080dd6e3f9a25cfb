use Rattle.yf_chars.specs.Class.{is_anchor_char}
use Rattle.yf_props.proofs.NameLemmas.{run_of}
use Rattle.yf_props.proofs.alias.name_after.Goals as goal

pub returns-then-end-start-clause-reads : goal.returns-then-end-start-clause-reads
returns-then-end-start-clause-reads c =
    let run = run_of c.args.s.now is_anchor_char c.name_end-end.ensures.chars.1 c.if-end-start.true c.name_end-end.ensures.all in
    (c.if-is_char_at.ensures.cases.char, run)
