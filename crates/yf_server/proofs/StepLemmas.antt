-- A step of a server, and a run of steps.
use Rattle.std.proofs.Common.{◌≡◌, ℕ, ◌+◌, ◌<◌, ◌≤◌, List, [], ◌∷◌, ◌++◌, length, drop, take, take_all, get_or, map, true, false, Option, None, Some, option_map, option_to_list, refl, sym, ap, subst, ◌∙◌, append_assoc, append-nil, if◌then◌else◌}
use Rattle.std.proofs.lemmas.List.{drop_all, drop_more, map-append, take_more}
use Rattle.serde_json.specs.Data.{Data}
use Rattle.serde_json.specs.declared.value.Value.{Value}
use Rattle.serde_json.specs.View.{view}
use Rattle.yf_json_rpc.specs.Messages.{Kind, request, notification, response, invalid, kind_of}
use Rattle.yf_positions.specs.declared.encoding.Encoding.{Encoding}
use Rattle.yf_server.proofs.LifecycleLemmas.{each_is_answered}
use Rattle.yf_server.proofs.RespondLemmas.{by_test, request_once}
use Rattle.yf_server.specs.declared.documents.OpenDocument.{OpenDocument}
use Rattle.yf_server.specs.declared.documents.Outcome.{Outcome}
use Rattle.yf_server.specs.declared.lifecycle.Phase.{Phase}
use Rattle.yf_server.specs.declared.lifecycle.Task.{Task}
use Rattle.yf_server.specs.declared.lifecycle.Task.TheVariants.{Initialize, Shutdown, Request, Fail, Notification, Ignore, Exit}
use Rattle.yf_server.specs.declared.step.Reaction.{Reaction}
use Rattle.yf_server.specs.declared.step.Server.{Server}
use Rattle.yf_server.specs.Analysis.{TextClaim}
use Rattle.yf_server.specs.Documents.{Event, OpenText, find, outcome_of}
use Rattle.yf_server.specs.Responses.{AnswersRequest}
use Rattle.yf_server.specs.Laws.{is_answer, wants_answer}
use Rattle.yf_server.specs.Lifecycle.{step_of}
use Rattle.yf_server.specs.Steps.{IsAnswer, IsLogged, IsNote, IsNoteOf, Knows, Steps, StepsTo, after_message, after_messages, after_notification, event_of, id_of, is_notification, is_of_document, is_request, knows, method_of, no_step, one_step, response_id, response_ids, terms_after, wanted_id, wanted_ids}

sent_ids : (task : Task) (id : Data) (e : Encoding) (sent : Option Data) → IsAnswer id e task sent
    → response_ids (option_to_list sent) ≡ (if is_answer task then id ∷ [] else [])
sent_ids Initialize id e sent h = rw h refl
sent_ids Shutdown id e sent h = rw h refl
sent_ids Request id e sent h = rw h.is refl
sent_ids (Fail code) id e sent h = rw h.is refl
sent_ids Notification id e sent h = rw h refl
sent_ids Ignore id e sent h = rw h refl
sent_ids (Exit is_success) id e sent h = rw h refl

wanted_is : (kind : Kind) → wanted_id kind ≡ (if wants_answer kind then id_of kind ∷ [] else [])
wanted_is (request id method) = refl
wanted_is (notification method) = refl
wanted_is (response id) = refl
wanted_is invalid = refl

answer_once : (phase : Phase) (kind : Kind) (e : Encoding) (sent : Option Data)
    → IsAnswer (id_of kind) e (step_of phase kind).task sent → response_ids (option_to_list sent) ≡ wanted_id kind
answer_once phase kind e sent h =
    sent_ids (step_of phase kind).task (id_of kind) e sent h
    ∙ ap (λ b. if b then id_of kind ∷ [] else []) (each_is_answered phase kind)
    ∙ sym (wanted_is kind)

notes : (outcome : Outcome) (sent : Option Data) → IsNote outcome sent → response_ids (option_to_list sent) ≡ []
notes Outcome.Done sent h = rw h refl
notes Outcome.NotOpen sent h = rw h.is refl
notes Outcome.OldVersion sent h = rw h.is refl
notes Outcome.ReversedRange sent h = rw h.is refl
notes Outcome.Lost sent h = rw h.is refl

logged_none : (sent : Option Data) → IsLogged sent → response_ids (option_to_list sent) ≡ []
logged_none sent h = rw h.is refl

silent_none : (sent : Option Data) → sent ≡ None → response_ids (option_to_list sent) ≡ []
silent_none sent h = rw h refl

note_none : (e : Encoding) (documents : List OpenDocument) (method : List ℕ) (event : Option Event)
    (sent : Option Data) → IsNoteOf e documents method event sent → response_ids (option_to_list sent) ≡ []
note_none e documents method None sent h =
    by_test (is_of_document method) (IsLogged sent) (sent ≡ None) (logged_none sent) (silent_none sent) h
note_none e documents method (Some event) sent h = notes (outcome_of e (find event.uri documents) event.act) sent h

no_answer : (task : Task) → is_notification task ≡ true → is_answer task ≡ false
no_answer Initialize h = sym h
no_answer Shutdown h = sym h
no_answer Request h = sym h
no_answer (Fail code) h = sym h
no_answer Notification h = refl
no_answer Ignore h = refl
no_answer (Exit is_success) h = refl

none_wanted : (phase : Phase) (kind : Kind) → is_notification (step_of phase kind).task ≡ true → wanted_id kind ≡ []
none_wanted phase kind h =
    wanted_is kind
    ∙ ap (λ b. if b then id_of kind ∷ [] else [])
    (sym (each_is_answered phase kind) ∙ no_answer (step_of phase kind).task h)

knows_is : (uri : List ℕ) (before after : Server) (d : Data) (document : Option OpenText)
    → after.phase ≡ (step_of before.phase (kind_of d)).phase
    → after.terms ≡ terms_after before.terms (step_of before.phase (kind_of d)).task d
    → find uri after.documents.items ≡ document → document ≡ (after_message uri (knows uri before) d).document
    → knows uri after ≡ after_message uri (knows uri before) d
knows_is uri before after d document p e f g = rw (p, e, f, g) refl

pub steps_notified : (claim : TextClaim) (before after : Server) (d : Data) (reaction : Reaction)
    → reaction.task ≡ (step_of before.phase (kind_of d)).task
    → after.phase ≡ (step_of before.phase (kind_of d)).phase
    → after.terms ≡ terms_after before.terms (step_of before.phase (kind_of d)).task d
    → is_notification (step_of before.phase (kind_of d)).task ≡ true
    → ((uri : List ℕ) → find uri after.documents.items ≡ after_notification before.terms.encoding uri
    (find uri before.documents.items) (method_of (kind_of d)) d)
    → IsNoteOf before.terms.encoding before.documents.items (method_of (kind_of d)) (event_of (method_of (kind_of d)) d)
    (option_map view reaction.message) → StepsTo claim before after d reaction
steps_notified claim before after d reaction t p e is docs note =
    record {
      task = t;
      knows = λ uri. knows_is uri before after d _ p e (docs uri) (rw is refl);
      sends = rw is note;
      answers = note_none before.terms.encoding before.documents.items (method_of (kind_of d))
          (event_of (method_of (kind_of d)) d)
          (option_map view reaction.message) note ∙ sym (none_wanted before.phase (kind_of d) is);
    }

pub steps_answered : (claim : TextClaim) (before after : Server) (d : Data) (reaction : Reaction)
    → reaction.task ≡ (step_of before.phase (kind_of d)).task
    → after.phase ≡ (step_of before.phase (kind_of d)).phase
    → after.terms ≡ terms_after before.terms (step_of before.phase (kind_of d)).task d
    → is_notification (step_of before.phase (kind_of d)).task ≡ false
    → is_request (step_of before.phase (kind_of d)).task ≡ false
    → after.documents.items ≡ before.documents.items
    → IsAnswer (id_of (kind_of d)) (terms_after before.terms (step_of before.phase (kind_of d)).task d).encoding
    (step_of before.phase (kind_of d)).task (option_map view reaction.message) → StepsTo claim before after d reaction
steps_answered claim before after d reaction t p e is own docs answer =
    record {
      task = t;
      knows = λ uri. knows_is uri before after d _ p e (ap (find uri) docs) (rw is refl);
      sends = rw (is, own) answer;
      answers = answer_once before.phase (kind_of d)
          (terms_after before.terms (step_of before.phase (kind_of d)).task d).encoding
          (option_map view reaction.message) answer;
    }

is_answered : (task : Task) → is_request task ≡ true → is_answer task ≡ true
is_answered Initialize h = refl
is_answered Shutdown h = refl
is_answered Request h = refl
is_answered (Fail code) h = refl
is_answered Notification h = h
is_answered Ignore h = h
is_answered (Exit is_success) h = h

not_notification : (task : Task) → is_request task ≡ true → is_notification task ≡ false
not_notification Initialize h = refl
not_notification Shutdown h = refl
not_notification Request h = refl
not_notification (Fail code) h = refl
not_notification Notification h = sym h
not_notification Ignore h = refl
not_notification (Exit is_success) h = refl

id_wanted : (phase : Phase) (kind : Kind) → is_request (step_of phase kind).task ≡ true
    → wanted_id kind ≡ id_of kind ∷ []
id_wanted phase kind h =
    wanted_is kind
    ∙ ap (λ b. if b then id_of kind ∷ [] else [])
    (sym (each_is_answered phase kind) ∙ is_answered (step_of phase kind).task h)

pub steps_requested : (claim : TextClaim) (before after : Server) (d : Data) (reaction : Reaction)
    → reaction.task ≡ (step_of before.phase (kind_of d)).task
    → after.phase ≡ (step_of before.phase (kind_of d)).phase
    → after.terms ≡ terms_after before.terms (step_of before.phase (kind_of d)).task d
    → is_request (step_of before.phase (kind_of d)).task ≡ true
    → after.documents.items ≡ before.documents.items
    → AnswersRequest claim before.terms.encoding before.documents.items (id_of (kind_of d)) (method_of (kind_of d)) d
    (option_map view reaction.message) → StepsTo claim before after d reaction
steps_requested claim before after d reaction t p e is docs answer =
    let other = not_notification (step_of before.phase (kind_of d)).task is in
    record {
      task = t;
      knows = λ uri. knows_is uri before after d _ p e (ap (find uri) docs) (rw other refl);
      sends = rw (other, is) answer;
      answers = request_once claim before.terms.encoding before.documents.items (id_of (kind_of d))
          (method_of (kind_of d)) d
          (option_map view reaction.message) answer ∙ sym (id_wanted before.phase (kind_of d) is);
    }

-- one more message
first_left : (vs : List Value) (i : ℕ) (x : Value) → i < length vs → x ≡ get_or vs i x
    → map view (drop i vs) ≡ view x ∷ map view (drop (i + 1) vs)
first_left vs i x l is = ap (map view) (drop_more vs i x l ∙ ap (λ y. y ∷ drop (i + 1) vs) (sym is))

pub knows_more : (uri : List ℕ) (before after : Server) (vs : List Value) (i : ℕ) (x : Value) (all : Knows)
    → i < length vs → x ≡ get_or vs i x → knows uri after ≡ after_message uri (knows uri before) (view x)
    → after_messages uri (knows uri before) (map view (drop i vs)) ≡ all
    → after_messages uri (knows uri after) (map view (drop (i + 1) vs)) ≡ all
knows_more uri before after vs i x all l is e h =
    ap (λ k. after_messages uri k (map view (drop (i + 1) vs))) e
    ∙ sym (ap (after_messages uri (knows uri before)) (first_left vs i x l is))
    ∙ h

ids_append : (xs ys : List Value) → response_ids (map view (xs ++ ys))
    ≡ response_ids (map view xs) ++ response_ids (map view ys)
ids_append [] ys = refl
ids_append (x ∷ xs) ys =
    ap (λ z. response_id (kind_of (view x)) ++ z) (ids_append xs ys)
    ∙ sym (append_assoc (response_id (kind_of (view x))) (response_ids (map view xs)) (response_ids (map view ys)))

as_list : (m : Option Value) → map view (option_to_list m) ≡ option_to_list (option_map view m)
as_list None = refl
as_list (Some x) = refl

pub answers_more : (sent after : List Value) (m : Option Value) (vs : List Value) (i : ℕ) (x : Value) (all : List Data)
    → i < length vs → x ≡ get_or vs i x
    → response_ids (option_to_list (option_map view m)) ≡ wanted_id (kind_of (view x))
    → after ≡ sent ++ option_to_list m
    → response_ids (map view sent) ++ wanted_ids (map view (drop i vs)) ≡ all
    → response_ids (map view after) ++ wanted_ids (map view (drop (i + 1) vs)) ≡ all
answers_more sent after m vs i x all l is once made h =
    let rest = wanted_ids (map view (drop (i + 1) vs)) in
    let front = response_ids (map view sent) in
    ap (λ z. response_ids (map view z) ++ rest) made
    ∙ ap (λ z. z ++ rest) (ids_append sent (option_to_list m))
    ∙ append_assoc front (response_ids (map view (option_to_list m))) rest
    ∙ ap (λ z. front ++ (response_ids z ++ rest)) (as_list m)
    ∙ ap (λ z. front ++ (z ++ rest)) once
    ∙ ap (λ z. front ++ wanted_ids z) (sym (first_left vs i x l is))
    ∙ h

pub all_known : (uri : List ℕ) (k all : Knows) (vs : List Value) (i : ℕ) → length vs ≤ i
    → after_messages uri k (map view (drop i vs)) ≡ all → k ≡ all
all_known uri k all vs i l h = sym (ap (λ z. after_messages uri k (map view z)) (drop_all i vs l)) ∙ h

pub all_answered : (sent : List Value) (all : List Data) (vs : List Value) (i : ℕ) → length vs ≤ i
    → response_ids (map view sent) ++ wanted_ids (map view (drop i vs)) ≡ all → response_ids (map view sent) ≡ all
all_answered sent all vs i l h =
    sym (append-nil (response_ids (map view sent)))
    ∙ sym (ap (λ z. response_ids (map view sent) ++ wanted_ids (map view z)) (drop_all i vs l)) ∙ h

-- one more step, and one more message
steps_push : {claim : TextClaim} {before middle : Server} {xs sent : List Data} (after : Server)
    (d : Data) (reaction : Reaction) → Steps claim before xs sent middle → StepsTo claim middle after d reaction
    → Steps claim before (xs ++ d ∷ []) (sent ++ option_to_list (option_map view reaction.message)) after
steps_push {claim} after d reaction (no_step {server}) step =
    subst (λ z. Steps claim server (d ∷ []) z after) (append-nil (option_to_list (option_map view reaction.message)))
    (one_step reaction step no_step)
steps_push {claim} after d reaction (one_step {before} {d = first} {rest} {sent} own own_step later) step =
    subst (λ z. Steps claim before (first ∷ rest ++ d ∷ []) z after)
    (sym (append_assoc (option_to_list (option_map view own.message)) sent
    (option_to_list (option_map view reaction.message))))
    (one_step own own_step (steps_push after d reaction later step))

pub steps_none : (claim : TextClaim) (server : Server) (sent : List Value) → sent ≡ []
    → Steps claim server [] (map view sent) server
steps_none claim server sent none = subst (λ z. Steps claim server [] (map view z) server) (sym none) no_step

pub steps_more : (claim : TextClaim) (before middle after : Server) (vs sent now : List Value) (i : ℕ)
    (x : Value) (reaction : Reaction) → i < length vs → x ≡ get_or vs i x
    → Steps claim before (map view (take i vs)) (map view sent) middle
    → StepsTo claim middle after (view x) reaction → now ≡ sent ++ option_to_list reaction.message
    → Steps claim before (map view (take (i + 1) vs)) (map view now) after
steps_more claim before middle after vs sent now i x reaction l is steps step made =
    let front : map view (take i vs) ++ view x ∷ [] ≡ map view (take (i + 1) vs) =
    sym (map-append view (take i vs) (x ∷ []))
    ∙ ap (λ z. map view (take i vs ++ z ∷ [])) is ∙ ap (map view) (sym (take_more vs i x l)) in
    let all : map view sent ++ option_to_list (option_map view reaction.message) ≡ map view now =
    ap (λ z. map view sent ++ z) (sym (as_list reaction.message))
    ∙ sym (map-append view sent (option_to_list reaction.message)) ∙ ap (map view) (sym made) in
    subst (λ z. Steps claim before (map view (take (i + 1) vs)) z after) all
    (subst (λ z. Steps claim before z (map view sent ++ option_to_list (option_map view reaction.message)) after) front
    (steps_push after (view x) reaction steps step))

pub steps_all : (claim : TextClaim) (before after : Server) (vs : List Value) (sent : List Data) (i : ℕ)
    → length vs ≤ i → Steps claim before (map view (take i vs)) sent after
    → Steps claim before (map view vs) sent after
steps_all claim before after vs sent i l h =
    subst (λ z. Steps claim before (map view z) sent after) (take_all i vs l) h
