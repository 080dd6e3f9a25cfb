use Rattle.std.proofs.Common.{◌≡◌, ◌∙◌, ap, chars, subst, sym}
use Rattle.yf_findings.proofs.PieceLemmas.{line_added}
use Rattle.yf_findings.specs.Excerpt.{window_of}
use Rattle.yf_findings.proofs.full.push_line.Goals as goal

pub returns : goal.returns
returns c =
    line_added c.push_marked.result _ _ c.args.problem.now _ _ c.in_ok-window.window
    (c.as_slice-2.ensures.value ∙ (c.in_ok-line.ensures ∙ ap chars c.as_str.ensures))
    (subst (λ x. c.in_ok-window.window ≡ window_of x c.args.problem.now.range) (c.as_slice.ensures.value ∙ sym c.as_slice-2.ensures.value)
    c.in_ok-window.ensures.window)
    c.push_marked.ensures
