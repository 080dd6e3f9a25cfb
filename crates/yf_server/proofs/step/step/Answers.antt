use Rattle.std.proofs.Common.{Some, option_map, sym, ap, refl, subst, ◌∙◌}
use Rattle.serde_json.specs.View.{view}
use Rattle.yf_json_rpc.specs.Messages.{kind_of, kind_read}
use Rattle.yf_server.proofs.StepLemmas.{steps_answered, steps_notified, steps_requested}
use Rattle.yf_server.specs.Documents.{find}
use Rattle.yf_server.specs.Responses.{AnswersRequest}
use Rattle.yf_server.specs.Lifecycle.{step_of}
use Rattle.yf_server.specs.Steps.{IsAnswer, IsNoteOf, after_notification, event_of, id_of, is_notification, is_request, method_of, terms_after}
use Rattle.yf_server.proofs.step.step.Goals as goal

pub returns-then-is_notification-clause-done : goal.returns-then-is_notification-clause-done
returns-then-is_notification-clause-done g c =
    let server = c.args.server.now in
    let d = view c.args.value.now in
    let kind = c.message_of-message.ensures in
    let next = c.next_step-next.ensures ∙ ap (step_of server.phase) kind in
    let task = ap (λ s. s.task) next in
    let method = c.method_of-method.ensures ∙ ap method_of kind in
    steps_notified (g.A.Analysis.claim c.args.analysis.now) server _ d _ task (ap (λ s. s.phase) next)
    (c.terms_after-terms.ensures ∙ ap (λ t. terms_after server.terms t d) task)
    (ap is_notification (sym task) ∙ sym c.is_notification.ensures ∙ c.if-is_notification.true)
    (λ uri. c.in_ok-note.ensures.done uri
    ∙ ap (λ m. after_notification server.terms.encoding uri (find uri server.documents.items) m d) method)
    (subst (λ m. IsNoteOf server.terms.encoding server.documents.items m (event_of m d)
    (option_map view c.in_ok-note.note))
    method c.in_ok-note.ensures.note)

pub returns-clause-done : goal.returns-clause-done
returns-clause-done g c =
    let server = c.args.server.now in
    let d = view c.args.value.now in
    let kind = c.message_of-message.ensures in
    let next = c.next_step-next.ensures ∙ ap (step_of server.phase) kind in
    let task = ap (λ s. s.task) next in
    let terms = c.terms_after-terms.ensures ∙ ap (λ t. terms_after server.terms t d) task in
    let sent = option_map view c.in_ok-answer.answer in
    steps_answered (g.A.Analysis.claim c.args.analysis.now) server _ d _ task (ap (λ s. s.phase) next) terms
    (ap is_notification (sym task) ∙ sym c.is_notification.ensures ∙ c.if-is_notification.false)
    (ap is_request (sym task) ∙ sym c.is_request.ensures ∙ c.if-is_request.false)
    refl
    (subst (λ t. IsAnswer (id_of (kind_of d))
    (terms_after server.terms (step_of server.phase (kind_of d)).task d).encoding t sent) task
    (subst (λ t. IsAnswer (id_of (kind_of d)) t.encoding c.next_step-next.result.task sent) terms
    (subst (λ k. IsAnswer (id_of k) c.terms_after-terms.result.encoding c.next_step-next.result.task sent) kind
    c.in_ok-answer.ensures)))

pub returns-then-is_request-clause-done : goal.returns-then-is_request-clause-done
returns-then-is_request-clause-done g c =
    let server = c.args.server.now in
    let d = view c.args.value.now in
    let claim = g.A.Analysis.claim c.args.analysis.now in
    let kind = c.message_of-message.ensures in
    let next = c.next_step-next.ensures ∙ ap (step_of server.phase) kind in
    let task = ap (λ s. s.task) next in
    steps_requested claim server _ d _ task (ap (λ s. s.phase) next)
    (c.terms_after-terms.ensures ∙ ap (λ t. terms_after server.terms t d) task)
    (ap is_request (sym task) ∙ sym c.is_request.ensures ∙ c.if-is_request.true)
    refl
    (subst (λ k. AnswersRequest claim server.terms.encoding server.documents.items (id_of k) (method_of k) d
    (Some (view c.in_ok-response.response))) kind
    (subst (λ xs. AnswersRequest claim server.terms.encoding xs (id_of (kind_read c.message_of-message.result))
    (method_of (kind_read c.message_of-message.result)) d (Some (view c.in_ok-response.response)))
    c.as_slice.ensures.value c.in_ok-response.ensures))
