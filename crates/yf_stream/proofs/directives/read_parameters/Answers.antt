use Rattle.std.proofs.lemmas.Result.{IfOk-weaker}
use Rattle.yf_stream.proofs.Reader.DirectiveWords.{may_reserved}
use Rattle.yf_stream.proofs.directives.read_parameters.Goals as goal

pub returns-in_default-clause-reads : goal.returns-in_default-clause-reads
returns-in_default-clause-reads c = IfOk-weaker _ _ _ (may_reserved _ _ _ c.utf8.text c.in_default.not-YAML c.in_default.not-TAG) c.read_reserved.ensures.reads
