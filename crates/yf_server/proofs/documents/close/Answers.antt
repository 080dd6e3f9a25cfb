use Rattle.std.proofs.Common.{subst}
use Rattle.yf_server.specs.Documents.{IsFirst}
use Rattle.yf_server.proofs.DocumentLemmas.{first_found, was_open}
use Rattle.yf_server.proofs.documents.close.Goals as goal

pub returns-in-Some-clause-outcome : goal.returns-in-Some-clause-outcome
returns-in-Some-clause-outcome c =
    let uri = c.args.uri.now in
    let at = c.in-Some.field-0 in
    let first = subst (λ xs. IsFirst xs uri at) c.as_slice.ensures.value c.in-Some.ensures in
    was_open _ _ (first_found uri c.args.documents.now.items at first)
