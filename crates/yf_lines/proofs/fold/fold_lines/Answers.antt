use Rattle.std.proofs.Common.{◌∷◌, [], pos, subst, arith}
use Rattle.yf_chars.specs.declared.context.Ctx.TheVariants.{FlowIn}
use Rattle.yf_chars.specs.Chain.{Chain}
use Rattle.yf_lines.specs.Basic.{Empty}
use Rattle.yf_lines.proofs.FoldLemmas.{empty_full, empty_short, ends_early, feeds_more, no_content, no_lines, not_empty, prefix_found, tab_early}
use Rattle.yf_lines.proofs.fold.fold_lines.Goals as goal
use Rattle.yf_lines.proofs.fold.fold_lines.Goals.{then-indent-line-2+else-end-indent, else-indent-line-2}
use Rattle.yf_chars.specs.Chain.Chain.{done}
use Rattle.yf_chars.proofs.ChainLemmas.{chain_more}

pub lines-init : goal.lines-init
lines-init c = record { so_far = done; boundary = c.requires; order = omega arith }

pub returns-then-indent-line-clause-reads : goal.returns-then-indent-line-clause-reads
returns-then-indent-line-clause-reads c =
    let i = c.skip_spaces-indent.ensures in
    let e = c.skip_whites-end.ensures in
    no_lines c.lines.invariant.so_far (not_empty i.spaces i.order e.whites e.all c.in-None.ensures.reads) (no_content i.spaces i.order i.all c.if-indent-line.true)

pub returns-in-None-clause-reads : goal.returns-in-None-clause-reads
returns-in-None-clause-reads c =
    let i = c.skip_spaces-indent.ensures in
    let e = c.skip_whites-end.ensures in
    record {
      line = c.lines.line;
      empties = c.lines.invariant.so_far;
      content = record { prefix = prefix_found i.spaces i.order c.if-indent-line.false e.whites; no_white = e.all; no_break = c.in-None.ensures.reads };
    }

pub returns-then-end-indent-clause-reads : goal.returns-then-end-indent-clause-reads
returns-then-end-indent-clause-reads c =
    let i = c.skip_spaces-indent.ensures in
    let e = c.skip_whites-end.ensures in
    no_lines c.lines.invariant.so_far (tab_early i.spaces i.order i.all c.if-indent-line-2.true e.whites e.all c.if-end-indent.true)
    (ends_early i.spaces i.order e.whites e.all c.in-Some.ensures.reads)

pub lines-preserved : goal.lines-preserved
lines-preserved c =
    let i = c.skip_spaces-indent.ensures in
    let e = c.skip_whites-end.ensures in
    let line : Empty c.args.s.now (pos c.args.width) FlowIn c.lines.line c.in-Some.next_line (10 ∷ []) = elim c.if-indent-line-2.branch [
      | then-indent-line-2+else-end-indent w ↦ empty_short i.spaces i.order w.if-indent-line-2.true w.if-end-indent.false c.in-Some.ensures.reads
      | else-indent-line-2 w ↦ empty_full i.spaces i.order w.if-indent-line-2.false e.whites c.in-Some.ensures.reads
    ] in
    record {
      so_far = subst (λ x. Chain (Empty c.args.s.now (pos c.args.width) FlowIn) c.args.at c.in-Some.next_line x) (feeds_more c.lines.feeds)
          (chain_more c.lines.invariant.so_far line);
      boundary = c.in-Some.ensures.boundary;
      order = omega (arith, c.lines.invariant.order, i.order, e.order, c.in-Some.ensures.order);
    }
