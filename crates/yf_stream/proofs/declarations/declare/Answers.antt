use Rattle.std.proofs.Common.{not, sym, ap, ◌∙◌}
use Rattle.yf_stream.specs.WellFormed.{version_of}
use Rattle.yf_stream.proofs.TagPass.DeclaringLemmas.{named_version}
use Rattle.yf_stream.proofs.declarations.declare.Goals as goal

pub returns-in-Some-clause-found : goal.returns-in-Some-clause-found
returns-in-Some-clause-found c =
    named_version c.args.has_version c.args.handles.now c.args.directive.now.offset c.args.directive.now.words
    (ap version_of (sym c.as_slice.ensures) ∙ c.in-Some.ensures) (ap not c.is_version_one.ensures) c.keep_if.ensures c.keep_if-in-Some.ensures
