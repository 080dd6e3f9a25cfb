use Rattle.std.proofs.Common.{◌∙◌, ◌∷◌, ◌++◌, [], ap}
use Rattle.std.specs.Prelude.{map}
use Rattle.yf_server.specs.Analysis.{problem_read}
use Rattle.yf_problems.proofs.problems.refused.Goals as goal

pub returns : goal.returns
returns c = record {
  why = c.args.fault.now;
  refused = c.requires;
  problem = problem_read c.in_ok-problem.problem;
  only = ap (map problem_read) (c.in_ok-push.ensures.items ∙ ap (λ problems. problems ++ c.in_ok-problem.problem ∷ []) c.new-problems.ensures.items);
  is = c.in_ok-problem.ensures;
}
