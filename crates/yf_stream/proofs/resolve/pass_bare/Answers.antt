use Rattle.std.proofs.Common.{◌-◌, arith}
use Rattle.yf_stream.proofs.TagPass.BareRuns.{bare_run}
use Rattle.yf_stream.proofs.resolve.pass_bare.Goals as goal

pub returns-clause-passed : goal.returns-clause-passed
returns-clause-passed c = record {
  passed = λ ds first names.
      bare_run (c.naming_from-end.result - c.args.at) (omega (arith, c.naming_from-end.ensures.within.0)) c.naming_from-end.ensures.within.1 c.in_ok-push_none.ensures
      c.naming_from-end.ensures.silent;
}
