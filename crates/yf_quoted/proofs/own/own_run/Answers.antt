use Rattle.std.proofs.Common.{arith}
use Rattle.yf_quoted.proofs.OwnLemmas.{no_run, run_more, run_found}
use Rattle.yf_quoted.proofs.own.own_run.Goals as goal

pub chars-init : goal.chars-init
chars-init c = record { run = no_run c.args.text.now c.args.at; boundary = c.requires; order = omega arith }

pub chars-preserved-then-is_common_at : goal.chars-preserved-then-is_common_at
chars-preserved-then-is_common_at c =
    let o = c.is_common_at.ensures c.if-is_common_at.true in
    record {
      run = run_more c.utf8.text c.chars.invariant.boundary c.chars.invariant.run o;
      boundary = o.reads.boundary;
      order = omega (arith, c.chars.invariant.order);
    }

pub returns-in-None-clause-reads : goal.returns-in-None-clause-reads
returns-in-None-clause-reads c = run_found c.chars.invariant.boundary.0 c.chars.invariant.run

pub chars-preserved : goal.chars-preserved
chars-preserved c =
    let o = c.in-Some.ensures in
    record {
      run = run_more c.utf8.text c.chars.invariant.boundary c.chars.invariant.run o;
      boundary = o.reads.boundary;
      order = omega (arith, c.chars.invariant.order, o.reads.later);
    }
