use Rattle.std.proofs.Common.{◌∙◌, sym}
use Rattle.yf_problems.proofs.folds.unless_memory.Goals as goal

pub returns : goal.returns
returns c = record {
  why = c.args.fault.now;
  refused = c.requires;
  cause = sym c.is_memory.ensures ∙ c.if-is_memory.false;
}
