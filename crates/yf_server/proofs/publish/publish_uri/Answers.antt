use Rattle.std.proofs.Common.{Some, IfOk, Option, subst, sym}
use Rattle.serde_json.specs.View.{view}
use Rattle.yf_server.proofs.DocumentLemmas.{found_at}
use Rattle.yf_server.specs.Documents.{OpenText}
use Rattle.yf_server.specs.Publish.{PublishesFor}
use Rattle.yf_server.proofs.publish.publish_uri.Goals as goal

pub returns-in-Some : goal.returns-in-Some
returns-in-Some g c =
    let found = found_at c.args.uri.now c.args.documents.now c.in-Some.at c.index-documents-at.result c.in-Some.ensures
    c.index-documents-at.is in
    subst (λ (was : Option OpenText). IfOk c.publish_open.result (λ value. PublishesFor (g.A.Analysis.claim
    c.args.analysis.now) c.args.encoding c.args.uri.now was (Some (view value)))) (sym found) c.publish_open.ensures
