use Rattle.std.proofs.Common.{arith, ap, ◌∙◌, sym}
use Rattle.yf_chars.specs.Chain.Chain.{done}
use Rattle.yf_chars.specs.Class.{is_ns_char}
use Rattle.yf_chars.proofs.ChainLemmas.{chain_more}
use Rattle.yf_plain.proofs.OrdinaryLemmas.{ordinary_class, outer_class, run_found}
use Rattle.yf_plain.proofs.PlainLemmas.{item_found, plain_is_ns}
use Rattle.yf_plain.proofs.plain.ordinary_run.Goals as goal

pub returns-then-is_block-clause-reads : goal.returns-then-is_block-clause-reads
returns-then-is_block-clause-reads c = (_, done)

pub returns-then-not-is_worth_a_look-clause-reads : goal.returns-then-not-is_worth_a_look-clause-reads
returns-then-not-is_worth_a_look-clause-reads c = (_, done)

pub returns-then-is_inside-clause-reads : goal.returns-then-is_inside-clause-reads
returns-then-is_inside-clause-reads c =
    (run_found (ordinary_class c.args.ctx (sym c.is_block.ensures ∙ c.if-is_block.false)) c.args.s.now c.as_bytes-bytes.result.now c.args.at _ c.as_bytes-bytes.ensures.value c.utf8.s
    (omega (arith, c.as_bytes-bytes.ensures.len)) c.ordinary_lanes.ensures c.requires.follows c.requires.boundary).reads

pub returns-then-is_inside-clause-follows : goal.returns-then-is_inside-clause-follows
returns-then-is_inside-clause-follows c =
    (run_found (ordinary_class c.args.ctx (sym c.is_block.ensures ∙ c.if-is_block.false)) c.args.s.now c.as_bytes-bytes.result.now c.args.at _ c.as_bytes-bytes.ensures.value c.utf8.s
    (omega (arith, c.as_bytes-bytes.ensures.len)) c.ordinary_lanes.ensures c.requires.follows c.requires.boundary).follows

pub returns-then-is_inside-clause-boundary : goal.returns-then-is_inside-clause-boundary
returns-then-is_inside-clause-boundary c =
    (run_found (ordinary_class c.args.ctx (sym c.is_block.ensures ∙ c.if-is_block.false)) c.args.s.now c.as_bytes-bytes.result.now c.args.at _ c.as_bytes-bytes.ensures.value c.utf8.s
    (omega (arith, c.as_bytes-bytes.ensures.len)) c.ordinary_lanes.ensures c.requires.follows c.requires.boundary).boundary

pub returns-then-bytes-at-ge16-clause-reads : goal.returns-then-bytes-at-ge16-clause-reads
returns-then-bytes-at-ge16-clause-reads c =
    (run_found (outer_class c.args.ctx (sym c.is_block.ensures ∙ c.if-is_block.false) (sym c.is_inside.ensures ∙ c.if-is_inside.false)) c.args.s.now c.as_bytes-bytes.result.now c.args.at _ c.as_bytes-bytes.ensures.value c.utf8.s
    (omega (arith, c.as_bytes-bytes.ensures.len)) c.outer_lanes.ensures c.requires.follows c.requires.boundary).reads

pub returns-then-bytes-at-ge16-clause-follows : goal.returns-then-bytes-at-ge16-clause-follows
returns-then-bytes-at-ge16-clause-follows c =
    (run_found (outer_class c.args.ctx (sym c.is_block.ensures ∙ c.if-is_block.false) (sym c.is_inside.ensures ∙ c.if-is_inside.false)) c.args.s.now c.as_bytes-bytes.result.now c.args.at _ c.as_bytes-bytes.ensures.value c.utf8.s
    (omega (arith, c.as_bytes-bytes.ensures.len)) c.outer_lanes.ensures c.requires.follows c.requires.boundary).follows

pub returns-then-bytes-at-ge16-clause-boundary : goal.returns-then-bytes-at-ge16-clause-boundary
returns-then-bytes-at-ge16-clause-boundary c =
    (run_found (outer_class c.args.ctx (sym c.is_block.ensures ∙ c.if-is_block.false) (sym c.is_inside.ensures ∙ c.if-is_inside.false)) c.args.s.now c.as_bytes-bytes.result.now c.args.at _ c.as_bytes-bytes.ensures.value c.utf8.s
    (omega (arith, c.as_bytes-bytes.ensures.len)) c.outer_lanes.ensures c.requires.follows c.requires.boundary).boundary

pub loop-end-init : goal.loop-end-init
loop-end-init c = record { flowing = sym c.is_block.ensures ∙ c.if-is_block.false; so_far = (_, done); follows = c.requires.follows; boundary = c.requires.boundary; order = omega arith }

pub loop-end-preserved : goal.loop-end-preserved
loop-end-preserved c =
    let o = c.is_ordinary_at.ensures c.loop-end-test.true c.args.ctx c.loop-end.invariant.flowing in
    let e = o.plain in
    record {
      flowing = c.loop-end.invariant.flowing;
      so_far = (_, chain_more c.loop-end.invariant.so_far.1 (item_found done e o.reads).1);
      follows = ap is_ns_char o.reads.back ∙ plain_is_ns c.args.s.now c.args.ctx c.loop-end.end e;
      boundary = o.reads.boundary;
      order = omega (arith, c.loop-end.invariant.order);
    }
