use Rattle.serde_json.specs.View.{view}
use Rattle.yf_server.proofs.DocumentLemmas.{found_at}
use Rattle.yf_server.proofs.RespondLemmas.{answers_open}
use Rattle.yf_server.specs.Queries.{query_read}
use Rattle.yf_server.proofs.respond.answer_for.Goals as goal

pub returns-in-Some : goal.returns-in-Some
returns-in-Some g c = answers_open (g.A.Analysis.claim c.args.analysis.now) c.args.encoding (view c.args.id.now)
    (query_read c.args.query) c.args.uri.now _ c.index-documents-at.result c.answer_text.result
    (found_at c.args.uri.now c.args.documents.now c.in-Some.at c.index-documents-at.result c.in-Some.ensures
    c.index-documents-at.is) c.answer_text.ensures
