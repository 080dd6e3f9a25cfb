-- The open documents of a server, by their URIs, and what a client does with them.
use Rattle.std.specs.Prelude.{◌≡◌, ℕ, ℤ, ◌+◌, ◌<◌, List, [], ◌∷◌, length, take, drop, Bool, true, false, ⊤, bytes_eq, int_lt, string_bytes, Option, None, Some, option_and_then, option_map, if◌then◌else◌}
use Rattle.yf_positions.specs.declared.encoding.Encoding.{Encoding}
use Rattle.yf_positions.specs.declared.position.LspRange.{LspRange}
use Rattle.yf_positions.specs.Changes.{TextChange, all_changed}
use Rattle.yf_server.specs.declared.documents.DocumentAct.{DocumentAct}
use Rattle.yf_server.specs.declared.documents.DocumentAct.TheVariants as Read
use Rattle.yf_server.specs.declared.documents.DocumentEvent.{DocumentEvent}
use Rattle.yf_server.specs.declared.documents.OpenDocument.{OpenDocument}
use Rattle.yf_server.specs.declared.documents.Outcome.{Outcome}
use Rattle.yf_server.specs.declared.documents.Outcome.TheVariants.{Done, NotOpen, OldVersion, ReversedRange, Lost}

-- the version and the text of a document; no text if it is lost: the client's text is another one than the server had
pub record OpenText : Type 0 where
  pub version : ℤ
  pub text : Option (List ℕ)

abbrev pub text_of : OpenDocument → OpenText
text_of x = record { version = x.version; text = x.document }

-- the document with a URI, if it is open
abbrev pub find : List ℕ → List OpenDocument → Option OpenText
find uri [] = None
find uri (x ∷ rest) = if bytes_eq uri (string_bytes x.uri) then Some (text_of x) else find uri rest

-- the document at i has the URI, and none before it has
pub record IsFirst (documents : List OpenDocument) (uri : List ℕ) (i : ℕ) : Type 0 where
  pub within : i < length documents
  pub document : OpenDocument
  pub rest : drop i documents ≡ document ∷ drop (i + 1) documents
  pub named : bytes_eq uri (string_bytes document.uri) ≡ true
  pub before : find uri (take i documents) ≡ None

-- the document with this URI is another one now, and each other document stays
abbrev pub Updates : List OpenDocument → List OpenDocument → List ℕ → Option OpenText → Type 0
Updates before after uri now = (other : List ℕ)
    → find other after ≡ (if bytes_eq other uri then now else find other before)

-- an action of a client on a document: it opens it with a version and a text, changes it, or closes it
pub data Act : Type 0 where
  open_text : ℤ → List ℕ → Act
  change : ℤ → List TextChange → Act
  close : Act

pub record Event : Type 0 where
  pub uri : List ℕ
  pub act : Act

abbrev pub act_read : DocumentAct → Act
act_read (Read.Open version text) = open_text version text.now
act_read (Read.Change version changes) = change version changes.items
act_read Read.Close = close

abbrev pub event_read : DocumentEvent → Event
event_read event = record { uri = event.uri.now; act = act_read event.act }

-- a document with the text that changes left; as it was if there is none
abbrev pub with_text : OpenText → ℤ → Option (List ℕ) → OpenText
with_text was version None = was
with_text was version (Some text) = record { version = version; text = Some text }

-- the text of a document is lost
abbrev pub without_text : OpenText → OpenText
without_text was = record { version = was.version; text = None }

-- The text that changes are made of. If it is lost, there is one only if the first change is of the whole text: then it
-- does not matter.
abbrev pub start_by : Option LspRange → Option (List ℕ)
start_by None = Some []
start_by (Some range) = None

abbrev pub start_of : Option (List ℕ) → List TextChange → Option (List ℕ)
start_of (Some text) changes = Some text
start_of None [] = None
start_of None (x ∷ rest) = start_by x.range

-- the text after changes
abbrev pub text_after : Encoding → Option (List ℕ) → List TextChange → Option (List ℕ)
text_after e was changes = option_and_then (λ text. all_changed e text changes) (start_of was changes)

-- a document is changed only by a version that is higher than its own
abbrev pub changed_by : Encoding → Option OpenText → ℤ → List TextChange → Option OpenText
changed_by e None version changes = None
changed_by e (Some was) version changes =
    if int_lt was.version version then Some (with_text was version (text_after e was.text changes)) else Some was

-- a document after an action
abbrev pub acted : Encoding → Option OpenText → Act → Option OpenText
acted e was (open_text version text) = Some (record { version = version; text = Some text })
acted e was (change version changes) = changed_by e was version changes
acted e was close = None

-- the document with a URI after an event, which may be of another document
abbrev pub after_event : Encoding → List ℕ → Option OpenText → Event → Option OpenText
after_event e uri was event = if bytes_eq uri event.uri then acted e was event.act else was

-- the event changes each document as its action says
abbrev pub FollowsEvent : Encoding → List OpenDocument → List OpenDocument → Event → Type 0
FollowsEvent e before after event = (uri : List ℕ) → find uri after ≡ after_event e uri (find uri before) event

abbrev pub range_outcome : Option (List ℕ) → Outcome
range_outcome None = ReversedRange
range_outcome (Some text) = Done

-- by the text that the changes are made of
abbrev pub text_outcome : Encoding → List TextChange → Option (List ℕ) → Outcome
text_outcome e changes None = Lost
text_outcome e changes (Some text) = range_outcome (all_changed e text changes)

abbrev pub change_outcome : Encoding → Option OpenText → ℤ → List TextChange → Outcome
change_outcome e None version changes = NotOpen
change_outcome e (Some was) version changes =
    if int_lt was.version version then text_outcome e changes (start_of was.text changes) else OldVersion

abbrev pub close_outcome : Option OpenText → Outcome
close_outcome None = NotOpen
close_outcome (Some was) = Done

-- the outcome of an action
abbrev pub outcome_of : Encoding → Option OpenText → Act → Outcome
outcome_of e was (open_text version text) = Done
outcome_of e was (change version changes) = change_outcome e was version changes
outcome_of e was close = close_outcome was

abbrev pub is_done : Outcome → Bool
is_done Done = true
is_done NotOpen = false
is_done OldVersion = false
is_done ReversedRange = false
is_done Lost = false

-- A document after an action. If the action could not be done, its text is lost: the client's text is another one from
-- then on.
abbrev pub tried : Encoding → Option OpenText → Act → Option OpenText
tried e was act = if is_done (outcome_of e was act) then acted e was act else option_map without_text was

-- that with a URI, after an event, which may be of another document
abbrev pub after_tried : Encoding → List ℕ → Option OpenText → Event → Option OpenText
after_tried e uri was event = if bytes_eq uri event.uri then tried e was event.act else was

-- the document with a URI, after the text of another one or of none is lost
abbrev pub after_loss : List ℕ → Option OpenText → Option (List ℕ) → Option OpenText
after_loss uri was None = was
after_loss uri was (Some lost) = if bytes_eq uri lost then option_map without_text was else was

-- documents change only if the outcome is `Done`
abbrev pub StaysAt : Outcome → List OpenDocument → List OpenDocument → Type 0
StaysAt Done before after = ⊤
StaysAt NotOpen before after = after ≡ before
StaysAt OldVersion before after = after ≡ before
StaysAt ReversedRange before after = after ≡ before
StaysAt Lost before after = after ≡ before
