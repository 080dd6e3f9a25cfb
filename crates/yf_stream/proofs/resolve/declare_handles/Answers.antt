use Rattle.std.proofs.lemmas.Result.{IfOk-weaker}
use Rattle.yf_stream.proofs.TagPass.PassSteps.{declared_found, declared_handles, no_handles, nothing_found}
use Rattle.yf_stream.proofs.resolve.declare_handles.Goals as goal

pub returns-in-Some-clause-handles : goal.returns-in-Some-clause-handles
returns-in-Some-clause-handles c = IfOk-weaker _ _ _ (λ x s. declared_handles c.args.handles.now c.as_slice.ensures c.in-Some.is s) c.declare_all.ensures.handles

pub returns-in-Some-clause-found : goal.returns-in-Some-clause-found
returns-in-Some-clause-found c = IfOk-weaker _ _ _ (λ x s. declared_found c.args.handles.now c.as_slice.ensures c.in-Some.is s) c.declare_all.ensures.found

pub returns-in-None-clause-handles : goal.returns-in-None-clause-handles
returns-in-None-clause-handles c = no_handles c.in-None.is

pub returns-in-None-clause-found : goal.returns-in-None-clause-found
returns-in-None-clause-found c = nothing_found c.args.handles.now c.in-None.is
