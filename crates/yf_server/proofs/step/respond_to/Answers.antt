use Rattle.std.proofs.Common.{ap, sym, ◌∙◌}
use Rattle.serde_json.specs.View.{view}
use Rattle.yf_json_rpc.specs.Messages.{kind_read}
use Rattle.yf_server.specs.Steps.{id_of}
use Rattle.yf_server.proofs.RespondLemmas.{answers_same, view_null}
use Rattle.yf_server.proofs.step.respond_to.Goals as goal

pub returns-in-Request : goal.returns-in-Request
returns-in-Request g c = answers_same (g.A.Analysis.claim c.args.analysis.now) c.args.encoding c.args.documents.now
    (view c.args.value.now) _ _ _ _ c.respond.result (sym (ap (λ m. id_of (kind_read m)) c.in-Request.is))
    c.method_of-method.ensures c.respond.ensures

pub returns-in-Notification : goal.returns-in-Notification
returns-in-Notification g c = answers_same (g.A.Analysis.claim c.args.analysis.now) c.args.encoding
    c.args.documents.now (view c.args.value.now) _ _ _ _ c.respond-in-Notification.result
    (view_null ∙ sym (ap (λ m. id_of (kind_read m)) c.in-Notification.is)) c.method_of-method.ensures
    c.respond-in-Notification.ensures
