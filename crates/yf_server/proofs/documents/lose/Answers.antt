use Rattle.std.proofs.Common.{◌≡◌, None, refl, subst}
use Rattle.yf_server.specs.Documents.{IsFirst, find}
use Rattle.yf_server.proofs.DocumentLemmas.{lost_first, lost_none}
use Rattle.yf_server.proofs.documents.lose.Goals as goal

pub returns-in-None : goal.returns-in-None
returns-in-None c = lost_none c.args.uri.now c.args.documents.now.items
    (subst (λ xs. find c.args.uri.now xs ≡ None) c.as_slice.ensures.value c.in-None.ensures)

pub returns-in-Some : goal.returns-in-Some
returns-in-Some c = lost_first c.args.uri.now c.args.documents.now.items c.in-Some.at
    c.index_mut.result.now
    (record { uri = c.index_mut.result.now.uri; version = c.index_mut.result.now.version; document = None })
    (subst (λ xs. IsFirst xs c.args.uri.now c.in-Some.at) c.as_slice.ensures.value c.in-Some.ensures)
    c.index_mut.ensures.value refl refl
