-- The step of a server for a message: its knowledge after it, and the message that it sends.
use Rattle.std.specs.Prelude.{◌≡◌, ◌||◌, ℕ, List, [], ◌∷◌, ◌++◌, codes, bytes_eq, Bool, true, false, MatchBool, Option, None, Some, option_and_then, option_map, option_to_list, if◌then◌else◌}
use Rattle.serde_json.specs.Data.{Data, null, boolean, number, string, array, object, no_items, item, no_members, member, unsigned}
use Rattle.serde_json.specs.Find.{get}
use Rattle.serde_json.specs.View.{view}
use Rattle.yf_json_rpc.specs.declared.error_code.ErrorCode.TheVariants.{MethodNotFound}
use Rattle.yf_json_rpc.specs.Messages.{Kind, request, notification, response, invalid, call, kind_of, reply}
use Rattle.yf_positions.specs.declared.encoding.Encoding.{Encoding}
use Rattle.yf_server.specs.declared.documents.OpenDocument.{OpenDocument}
use Rattle.yf_server.specs.declared.documents.Outcome.{Outcome}
use Rattle.yf_server.specs.declared.handshake.Terms.{Terms}
use Rattle.yf_server.specs.declared.lifecycle.Phase.{Phase}
use Rattle.yf_server.specs.declared.lifecycle.Task.{Task}
use Rattle.yf_server.specs.declared.lifecycle.Task.TheVariants.{Initialize, Shutdown, Request, Fail, Notification, Ignore, Exit}
use Rattle.yf_server.specs.declared.step.Reaction.{Reaction}
use Rattle.yf_server.specs.declared.step.Server.{Server}
use Rattle.yf_server.specs.Analysis.{TextClaim}
use Rattle.yf_server.specs.Documents.{Event, OpenText, after_loss, after_tried, find, outcome_of}
use Rattle.yf_server.specs.Edits.{FailsWith, named_uri}
use Rattle.yf_server.specs.Handshake.{agreed, fresh_terms, name_of}
use Rattle.yf_server.specs.Lifecycle.{step_of}
use Rattle.yf_server.specs.Parameters.{changed, closed, opened}
use Rattle.yf_server.specs.Responses.{AnswersRequest}

-- the id of a response: the id of the request, or null for an invalid message
abbrev pub id_of : Kind → Data
id_of (request id method) = id
id_of (notification method) = null
id_of (response id) = null
id_of invalid = null

abbrev pub method_of : Kind → List ℕ
method_of (request id method) = method
method_of (notification method) = method
method_of (response id) = []
method_of invalid = []

-- the notifications on documents
abbrev pub is_of_document : List ℕ → Bool
is_of_document method = bytes_eq method (codes "textDocument/didOpen")
    || (bytes_eq method (codes "textDocument/didChange") || bytes_eq method (codes "textDocument/didClose"))

-- the event of a notification on a document
abbrev pub event_named : List ℕ → Data → Option Event
event_named method params =
    if bytes_eq method (codes "textDocument/didOpen") then opened params
    else (if bytes_eq method (codes "textDocument/didChange") then changed params
    else (if bytes_eq method (codes "textDocument/didClose") then closed params else None))

abbrev pub event_of : List ℕ → Data → Option Event
event_of method d = option_and_then (event_named method) (get (codes "params") d)

abbrev pub is_initialize : Task → Bool
is_initialize Initialize = true
is_initialize Shutdown = false
is_initialize Request = false
is_initialize (Fail code) = false
is_initialize Notification = false
is_initialize Ignore = false
is_initialize (Exit is_success) = false

abbrev pub is_notification : Task → Bool
is_notification Initialize = false
is_notification Shutdown = false
is_notification Request = false
is_notification (Fail code) = false
is_notification Notification = true
is_notification Ignore = false
is_notification (Exit is_success) = false

abbrev pub is_request : Task → Bool
is_request Initialize = false
is_request Shutdown = false
is_request Request = true
is_request (Fail code) = false
is_request Notification = false
is_request Ignore = false
is_request (Exit is_success) = false

-- what the parameters of `initialize` lead to
abbrev pub chosen : Option Data → Terms
chosen None = fresh_terms
chosen (Some params) = agreed params

abbrev pub terms_after : Terms → Task → Data → Terms
terms_after terms task d = if is_initialize task then chosen (get (codes "params") d) else terms

-- the URI of the document that a message is about, if it is a notification on a document
abbrev pub about_uri : List ℕ → Data → Option (List ℕ)
about_uri method d = if is_of_document method then named_uri d else None

-- The document with a URI after a notification: after its event; or if its parameters are malformed, without its text if
-- the notification is about it. (about: the URI of the document that it is about)
abbrev pub after_any : Encoding → List ℕ → Option OpenText → Option (List ℕ) → Option Event → Option OpenText
after_any e uri was about None = after_loss uri was about
after_any e uri was about (Some event) = after_tried e uri was event

abbrev pub after_notification : Encoding → List ℕ → Option OpenText → List ℕ → Data → Option OpenText
after_notification e uri was method d = after_any e uri was (about_uri method d) (event_of method d)

-- the knowledge of a server that matters for the document with one URI
pub record Knows : Type 0 where
  pub phase : Phase
  pub terms : Terms
  pub document : Option OpenText

abbrev pub knows : List ℕ → Server → Knows
knows uri server = record {
  phase = server.phase;
  terms = server.terms;
  document = find uri server.documents.items;
}

-- that after a message
abbrev pub after_message : List ℕ → Knows → Data → Knows
after_message uri k d = record {
  phase = (step_of k.phase (kind_of d)).phase;
  terms = terms_after k.terms (step_of k.phase (kind_of d)).task d;
  document =
      if is_notification (step_of k.phase (kind_of d)).task
      then after_notification k.terms.encoding uri k.document (method_of (kind_of d)) d else k.document;
}

-- that after messages, one after the other
abbrev pub after_messages : List ℕ → Knows → List Data → Knows
after_messages uri k [] = k
after_messages uri k (d ∷ rest) = after_messages uri (after_message uri k d) rest

-- the code actions that the server has, the problems that it reports on request, and how it follows documents: by
-- changes of ranges, and by a request for edits before each save
abbrev pub action_options : Data
action_options = object (member (codes "codeActionKinds")
    (array (item (string (codes "source.fixAll.yamlfmt")) no_items)) no_members)

abbrev pub diagnostic_options : Data
diagnostic_options = object (member (codes "interFileDependencies") (boolean false)
    (member (codes "workspaceDiagnostics") (boolean false) no_members))

abbrev pub sync_options : Data
sync_options = object (member (codes "change") (number (unsigned 2)) (member (codes "openClose") (boolean true)
    (member (codes "willSaveWaitUntil") (boolean true) no_members)))

-- `ServerCapabilities`
abbrev pub capabilities : Encoding → Data
capabilities e = object (member (codes "codeActionProvider") action_options
    (member (codes "diagnosticProvider") diagnostic_options
    (member (codes "documentFormattingProvider") (boolean true)
    (member (codes "documentRangeFormattingProvider") (boolean true)
    (member (codes "documentSymbolProvider") (boolean true)
    (member (codes "foldingRangeProvider") (boolean true)
    (member (codes "positionEncoding") (string (name_of e))
    (member (codes "selectionRangeProvider") (boolean true)
    (member (codes "textDocumentSync") sync_options no_members)))))))))

-- `InitializeResult`
abbrev pub initialize_result : Encoding → Data
initialize_result e = object (member (codes "capabilities") (capabilities e) no_members)

-- the message that is sent for a task, if any
abbrev pub IsAnswer : Data → Encoding → Task → Option Data → Type 0
IsAnswer id e Initialize sent = sent ≡ Some (reply id (initialize_result e))
IsAnswer id e Shutdown sent = sent ≡ Some (reply id null)
IsAnswer id e Request sent = FailsWith id MethodNotFound sent
IsAnswer id e (Fail code) sent = FailsWith id code sent
IsAnswer id e Notification sent = sent ≡ None
IsAnswer id e Ignore sent = sent ≡ None
IsAnswer id e (Exit is_success) sent = sent ≡ None

-- a warning for the log of the client (`window/logMessage`)
abbrev pub warning_params : List ℕ → Data
warning_params text =
    object (member (codes "message") (string text) (member (codes "type") (number (unsigned 2)) no_members))

abbrev pub log_message : List ℕ → Data
log_message text = call (codes "window/logMessage") (warning_params text)

pub record IsLogged (sent : Option Data) : Type 0 where
  pub text : List ℕ
  pub is : sent ≡ Some (log_message text)

-- the warning to the client if an action failed
abbrev pub IsNote : Outcome → Option Data → Type 0
IsNote Outcome.Done sent = sent ≡ None
IsNote Outcome.NotOpen sent = IsLogged sent
IsNote Outcome.OldVersion sent = IsLogged sent
IsNote Outcome.ReversedRange sent = IsLogged sent
IsNote Outcome.Lost sent = IsLogged sent

-- the warning to the client if a notification could not be handled, or if one on a document has malformed parameters
abbrev pub IsNoteOf : Encoding → List OpenDocument → List ℕ → Option Event → Option Data → Type 0
IsNoteOf e documents method None sent = MatchBool (is_of_document method) (IsLogged sent) (sent ≡ None)
IsNoteOf e documents method (Some event) sent = IsNote (outcome_of e (find event.uri documents) event.act) sent

-- the message that is sent, by the formatting of a text
abbrev pub Sends : TextClaim → Server → Data → Option Data → Type 0
Sends claim server d sent = MatchBool (is_notification (step_of server.phase (kind_of d)).task)
    (IsNoteOf server.terms.encoding server.documents.items (method_of (kind_of d))
    (event_of (method_of (kind_of d)) d) sent)
    (MatchBool (is_request (step_of server.phase (kind_of d)).task)
    (AnswersRequest claim server.terms.encoding server.documents.items (id_of (kind_of d))
    (method_of (kind_of d)) d sent)
    (IsAnswer (id_of (kind_of d)) (terms_after server.terms (step_of server.phase (kind_of d)).task d).encoding
    (step_of server.phase (kind_of d)).task sent))

-- the ids of the responses among messages
abbrev pub response_id : Kind → List Data
response_id (request id method) = []
response_id (notification method) = []
response_id (response id) = id ∷ []
response_id invalid = []

abbrev pub response_ids : List Data → List Data
response_ids [] = []
response_ids (d ∷ rest) = response_id (kind_of d) ++ response_ids rest

-- the ids of the responses that messages want
abbrev pub wanted_id : Kind → List Data
wanted_id (request id method) = id ∷ []
wanted_id (notification method) = []
wanted_id (response id) = []
wanted_id invalid = null ∷ []

abbrev pub wanted_ids : List Data → List Data
wanted_ids [] = []
wanted_ids (d ∷ rest) = wanted_id (kind_of d) ++ wanted_ids rest

-- one step of a server with a message: its knowledge of each document changes as the message says, one response is sent
-- to a request and none to a notification, and no response has another id
pub record StepsTo (claim : TextClaim) (before after : Server) (d : Data) (reaction : Reaction)
    : Type 0 where
  pub task : reaction.task ≡ (step_of before.phase (kind_of d)).task
  pub knows : (uri : List ℕ) → knows uri after ≡ after_message uri (knows uri before) d
  pub sends : Sends claim before d (option_map view reaction.message)
  pub answers : response_ids (option_to_list (option_map view reaction.message)) ≡ wanted_id (kind_of d)

-- nothing has changed
pub record IsSame (before after : Server) : Type 0 where
  pub phase : after.phase ≡ before.phase
  pub terms : after.terms ≡ before.terms
  pub documents : after.documents.items ≡ before.documents.items

-- the messages that a server sends, and the server after them: one step for each message, in order
pub data Steps (claim : TextClaim) : Server → List Data → List Data → Server → Type 0 where
  no_step : {server : Server} → Steps claim server [] [] server
  one_step : {before middle after : Server} {d : Data} {rest sent : List Data} (reaction : Reaction)
      → StepsTo claim before middle d reaction → Steps claim middle rest sent after
      → Steps claim before (d ∷ rest) (option_to_list (option_map view reaction.message) ++ sent) after

-- the run of a server over messages
pub record RunsTo (claim : TextClaim) (before after : Server) (received sent : List Data)
    : Type 0 where
  pub steps : Steps claim before received sent after
  pub knows : (uri : List ℕ) → knows uri after ≡ after_messages uri (knows uri before) received
  pub answers : response_ids sent ≡ wanted_ids received
