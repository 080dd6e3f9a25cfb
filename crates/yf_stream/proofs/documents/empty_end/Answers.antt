use Rattle.std.proofs.Common.{MatchOption, subst}
use Rattle.yf_chars.specs.Chain.{Chosen, Stuck}
use Rattle.yf_comments.specs.Comments.{LineEnd}
use Rattle.yf_stream.proofs.Uniqueness.Forward.{line_end_forward}
use Rattle.yf_stream.proofs.documents.empty_end.Goals as goal

pub returns-then-node_ends-clause-order : goal.returns-then-node_ends-clause-order
returns-then-node_ends-clause-order c =
    let t = c.args.source.text.now in
    let i = c.args.at in
    let r = subst (λ z. MatchOption z (Stuck (LineEnd t i)) (λ p. Chosen (LineEnd t i) p.end p.comments)) c.in-Some.is c.in_ok-comments.ensures.reads in
    line_end_forward r.derived
