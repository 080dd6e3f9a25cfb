use Rattle.std.proofs.Common.{arith}
use Rattle.yf_quoted.proofs.SingleReadLemmas.{row_nothing, row_more, row_slice}
use Rattle.yf_quoted.proofs.UnquotedLemmas.{unquoted_char}
use Rattle.yf_quoted.proofs.single.simple_end.Goals as goal

pub chars-init : goal.chars-init
chars-init c = record { row = row_nothing c.args.s.now c.args.at; boundary = c.requires; order = omega arith }

pub returns-then-is_char_at-clause-reads : goal.returns-then-is_char_at-clause-reads
returns-then-is_char_at-clause-reads c = row_slice c.chars.invariant.boundary.0 c.chars.invariant.row

pub chars-preserved-then-is_single_simple_at : goal.chars-preserved-then-is_single_simple_at
chars-preserved-then-is_single_simple_at c =
    let o = c.is_single_simple_at.ensures c.if-is_single_simple_at.true in
    record {
      row = row_more c.utf8.s c.chars.invariant.row o.no_quote (unquoted_char c.utf8.s o);
      boundary = o.reads.boundary;
      order = omega (arith, c.chars.invariant.order);
    }

pub chars-preserved : goal.chars-preserved
chars-preserved c = record {
  row = row_more c.utf8.s c.chars.invariant.row c.if-is_char_at.ensures.cases c.in-Some.ensures.reads;
  boundary = c.in-Some.ensures.boundary;
  order = omega (arith, c.chars.invariant.order, c.in-Some.ensures.order);
}
