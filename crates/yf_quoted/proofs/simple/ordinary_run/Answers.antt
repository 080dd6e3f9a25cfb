use Rattle.std.proofs.Common.{arith, ◌∙◌, sym}
use Rattle.yf_chars.specs.Chain.Chain.{done}
use Rattle.yf_chars.proofs.ChainLemmas.{chain_more}
use Rattle.yf_quoted.specs.Body.SimpleChar.{simply}
use Rattle.yf_quoted.proofs.SimpleLemmas.{run_found}
use Rattle.yf_quoted.proofs.simple.ordinary_run.Goals as goal

pub returns-then-text_ends-clause-reads : goal.returns-then-text_ends-clause-reads
returns-then-text_ends-clause-reads c =
    (run_found c.args.s.now c.as_bytes-bytes.result.now c.args.at _ c.as_bytes-bytes.ensures.value c.utf8.s (omega (arith, c.as_bytes-bytes.ensures.len))
    (c.text_ends.ensures c.if-text_ends.true) c.common_lanes.ensures c.requires).reads

pub returns-then-text_ends-clause-boundary : goal.returns-then-text_ends-clause-boundary
returns-then-text_ends-clause-boundary c =
    (run_found c.args.s.now c.as_bytes-bytes.result.now c.args.at _ c.as_bytes-bytes.ensures.value c.utf8.s (omega (arith, c.as_bytes-bytes.ensures.len))
    (c.text_ends.ensures c.if-text_ends.true) c.common_lanes.ensures c.requires).boundary

pub returns-then-bytes-at-ge16-clause-reads : goal.returns-then-bytes-at-ge16-clause-reads
returns-then-bytes-at-ge16-clause-reads c = (_, done)

pub loop-end-init : goal.loop-end-init
loop-end-init c = record { read = (_, done); boundary = c.requires; order = omega arith }

pub loop-end-preserved : goal.loop-end-preserved
loop-end-preserved c =
    let o = c.is_simple_at.ensures c.loop-end-test.true in
    record {
      read = (_, chain_more c.loop-end.invariant.read.1 (simply o));
      boundary = o.reads.boundary;
      order = omega (arith, c.loop-end.invariant.order);
    }
