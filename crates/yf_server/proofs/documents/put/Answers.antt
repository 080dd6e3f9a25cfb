use Rattle.std.proofs.Common.{◌≡◌, None, refl, string_bytes, subst}
use Rattle.std.proofs.lemmas.Slice.Eq.{bytes_eq-Decides}
use Rattle.yf_server.specs.Documents.{IsFirst, find}
use Rattle.yf_server.proofs.DocumentLemmas.{pushed, put_first, updates_at}
use Rattle.yf_server.proofs.documents.put.Goals as goal

pub returns-in_ok-push-in-None-clause-done : goal.returns-in_ok-push-in-None-clause-done
returns-in_ok-push-in-None-clause-done c =
    let uri = string_bytes c.args.document.uri in
    let none = subst (λ u. find u c.args.documents.now.items ≡ None) c.as_str.ensures.value
    (subst (λ xs. find c.as_str.result.now xs ≡ None) c.as_slice.ensures.value c.in-None.ensures) in
    updates_at c.args.documents.now.items _ _ uri _ c.in_ok-push-in-None.ensures.items
    (pushed uri c.args.documents.now.items c.args.document none ((bytes_eq-Decides uri uri).1 refl))

pub returns-in-Some-clause-done : goal.returns-in-Some-clause-done
returns-in-Some-clause-done c =
    let uri = string_bytes c.args.document.uri in
    let at = c.in-Some.at in
    let first = subst (λ u. IsFirst c.args.documents.now.items u at) c.as_str.ensures.value
    (subst (λ xs. IsFirst xs c.as_str.result.now at) c.as_slice.ensures.value c.in-Some.ensures) in
    put_first uri c.args.documents.now.items at c.args.document first ((bytes_eq-Decides uri uri).1 refl)
