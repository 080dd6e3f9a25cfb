use Rattle.std.proofs.Common.{◌∙◌, ◌∷◌, ap, arith, sym}
use Rattle.std.specs.List.{before_first}
use Rattle.std.specs.String.{string_bytes}
use Rattle.yf_forms.specs.Nodes.BlockLines.{cut_at_feeds, is_feed, line_at}
use Rattle.yf_forms.proofs.Texts.BlockLemmas.{cut_at_first, cut_nowhere, one_line, after_feed, if_last_line}
use Rattle.yf_forms.proofs.text.block.push_lines.Goals as goal

pub loop-line-preserved : goal.loop-line-preserved
loop-line-preserved c =
    let found = c.in-Some.ensures.byte (omega arith) (λ w o f. f) in
    record {
      text = after_feed c.loop-line.rest.now c.loop-line.invariant.text found.1 found.2;
      left = one_line (string_bytes c.loop-line.out) (line_at c.args.column) c.in-Some.line.now (cut_at_feeds c.in-Some.follows.now) (cut_at_feeds c.loop-line.rest.now) _
          (cut_at_first c.loop-line.rest.now found.2 ∙ ap (λ w. before_first is_feed c.loop-line.rest.now ∷ cut_at_feeds w) (sym found.1)
          ∙ ap (λ w. w ∷ cut_at_feeds c.in-Some.follows.now) (sym found.0)) c.in_ok-push_line.ensures c.loop-line.invariant.left;
    }

pub returns : goal.returns
returns c =
    let none = c.in_default.ensures.byte (omega arith) (λ w o f. f) in
    if_last_line _ c.push_line-2.result (string_bytes c.loop-line.out) (line_at c.args.column) c.loop-line.rest.now (cut_at_feeds c.loop-line.rest.now) _
    (cut_nowhere c.loop-line.rest.now none) c.push_line-2.ensures c.loop-line.invariant.left
