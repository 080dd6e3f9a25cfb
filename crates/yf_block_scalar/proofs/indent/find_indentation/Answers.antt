use Rattle.std.proofs.Common.{◌+◌, ◌++◌, ◌∷◌, [], max, refl, ap, sym, ◌∙◌, arith, to_z-of_z}
use Rattle.yf_chars.specs.Chain.Chain.{done}
use Rattle.yf_chars.proofs.ChainLemmas.{chain_more}
use Rattle.yf_block_scalar.specs.Body.EmptyLines.{bare}
use Rattle.yf_block_scalar.proofs.BodyLemmas.{largest-snoc, length-snoc}
use Rattle.yf_block_scalar.proofs.IndentLemmas.{find_from_judge}
use Rattle.yf_block_scalar.proofs.indent.find_indentation.Goals as goal

pub lines-init : goal.lines-init
lines-init c = record { before = ([], (done, refl, refl)); boundary = c.requires.boundary; few = omega arith }

pub lines-preserved : goal.lines-preserved
lines-preserved c =
    let old = c.lines.invariant.before in
    let m = c.in-Some.part.width in
    record {
      before = (old.0 ++ m ∷ [], (chain_more old.1.0 (bare m c.in-Some.ensures.reads), length-snoc old.0 m ∙ ap (λ w. w + 1) old.1.1, largest-snoc old.0 m ∙ ap (λ w. max w m) old.1.2 ∙ sym c.longer-longest.ensures));
      boundary = c.in-Some.ensures.boundary;
      few = omega (arith, c.lines.invariant.few, c.in-Some.ensures.order);
    }

pub returns-in-None-clause-finds : goal.returns-in-None-clause-finds
returns-in-None-clause-finds c =
    let old = c.lines.invariant.before in
    find_from_judge c.args.n old.0 old.1.0 old.1.1 old.1.2 c.judge_line.result (rw (to_z-of_z c.ranges.n) at c.judge_line.ensures.judges)
