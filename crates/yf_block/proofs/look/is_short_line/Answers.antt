use Rattle.std.proofs.Common.{◌+◌, arith}
use Rattle.std.proofs.lemmas.Bool.{leb-true}
use Rattle.yf_block.proofs.Ends.KeyEndLemmas.{line_upto, short_line}
use Rattle.yf_block.proofs.Ends.ShortLines.{line_through}
use Rattle.yf_block.proofs.look.is_short_line.Goals as goal
use Rattle.yf_grammar.proofs.FlowReader.KeyLines.{line_none}

pub lanes-init : goal.lanes-init
lanes-init c = record { order = omega arith; within = let b = c.requires.0 in omega (arith, b); line = line_none _ _ }

pub returns-then-clear-lt16 : goal.returns-then-clear-lt16
returns-then-clear-lt16 c = λ r b.
    let v = c.lanes.invariant in
    let e = c.as_bytes-bytes.ensures in
    short_line c.utf8.text c.requires (omega (arith, c.if-start-end.false)) (omega (arith, c.if-end-start-gt-SHORT.false))
    (line_through c.lanes.at _ c.args.end c.utf8.text e.value (omega (arith, c.if-bytes-at-lt16.false, v.within, e.len)) c.clear_bytes-clear.ensures (leb-true _ _ r) v.line) b

pub lanes-preserved : goal.lanes-preserved
lanes-preserved c =
    let v = c.lanes.invariant in
    let e = c.as_bytes-bytes.ensures in
    let wide = c.if-bytes-at-lt16.false in
    record {
      order = omega (arith, v.order);
      within = omega (arith, v.within, e.len, wide);
      line = line_through c.lanes.at _ (c.lanes.at + 16) c.utf8.text e.value (omega (arith, wide, v.within, e.len)) c.clear_bytes-clear.ensures (omega (arith, c.if-clear-lt16.false)) v.line;
    }

pub returns : goal.returns
returns c = λ r b.
    let v = c.lanes.invariant in
    let l = c.lanes-test.false in
    short_line c.utf8.text c.requires (omega (arith, c.if-start-end.false)) (omega (arith, c.if-end-start-gt-SHORT.false)) (line_upto v.line l) b
