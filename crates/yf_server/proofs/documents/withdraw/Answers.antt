use Rattle.std.proofs.Common.{ap, ◌∙◌, subst}
use Rattle.yf_server.specs.Documents.{IsFirst, find}
use Rattle.yf_server.proofs.DocumentLemmas.{removed}
use Rattle.yf_server.proofs.documents.withdraw.Goals as goal

pub places-preserved : goal.places-preserved
places-preserved c = λ other e.
    let first = subst (λ xs. IsFirst xs c.args.uri.now c.in-Some.at) c.as_slice.ensures.value c.in-Some.ensures in
    ap (find other) c.remove.ensures.items
    ∙ removed c.args.uri.now c.places.documents.items c.in-Some.at first other e
    ∙ c.places.invariant other e

-- if the document that is removed has a text
pub places-preserved-in-Some : goal.places-preserved-in-Some
places-preserved-in-Some c = λ other e.
    let first = subst (λ xs. IsFirst xs c.args.uri.now c.in-Some.at) c.as_slice.ensures.value c.in-Some.ensures in
    ap (find other) c.remove.ensures.items
    ∙ removed c.args.uri.now c.places.documents.items c.in-Some.at first other e
    ∙ c.places.invariant other e
