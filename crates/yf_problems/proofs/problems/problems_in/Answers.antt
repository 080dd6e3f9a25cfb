use Rattle.std.proofs.Common.{inl, inr, List, ℕ, subst, sym}
use Rattle.std.specs.Prelude.{map}
use Rattle.std.proofs.lemmas.Result.{IfOk-weaker}
use Rattle.yf_lines.specs.Lines.{AreLines}
use Rattle.yf_server.specs.Analysis.{problem_read}
use Rattle.yf_problems.specs.Problems.{IsRefused}
use Rattle.yf_problems.proofs.problems.problems_in.Goals as goal

pub returns-in-Ok : goal.returns-in-Ok
returns-in-Ok c = IfOk-weaker c.found_by_all.result _ _ (λ problems found. inr (inr (record {
  src = c.in_ok-src.src;
  of_text = c.in_ok-src.ensures.text;
  lines = subst (λ (t : List ℕ). AreLines t c.in_ok-src.src.lines) (sym c.in_ok-src.ensures.text) c.in_ok-src.ensures.lines;
  reading = c.in-Ok.reading;
  reads = c.in-Ok.ensures.reads;
  rules = found;
}))) c.found_by_all.ensures

pub returns : goal.returns
returns c = IfOk-weaker c.refused.result _ _ (λ problems is. inr (inl
    (subst (λ (t : List ℕ). IsRefused t (map problem_read problems.items)) c.in_ok-src.ensures.text is))) c.refused.ensures
