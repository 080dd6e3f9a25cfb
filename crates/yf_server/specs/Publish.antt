-- When problems are published (`textDocument/publishDiagnostics`).
use Rattle.std.specs.Prelude.{◌≡◌, ◌&&◌, ℕ, ℤ, List, codes, not, MatchBool, Option, None, Some}
use Rattle.serde_json.specs.Data.{Data, number, string, array, object, no_items, no_members, member}
use Rattle.serde_json.specs.Find.{of_integer}
use Rattle.yf_json_rpc.specs.Messages.{call, kind_of}
use Rattle.yf_positions.specs.declared.encoding.Encoding.{Encoding}
use Rattle.yf_server.specs.declared.documents.OpenDocument.{OpenDocument}
use Rattle.yf_server.specs.declared.lifecycle.Task.{Task}
use Rattle.yf_server.specs.declared.step.Server.{Server}
use Rattle.yf_server.specs.Analysis.{Found, TextClaim}
use Rattle.yf_server.specs.Diagnostics.{diagnostics}
use Rattle.yf_server.specs.Documents.{OpenText, find}
use Rattle.yf_server.specs.Edits.{named_uri}
use Rattle.yf_server.specs.Steps.{is_notification, is_of_document, method_of}

-- `PublishDiagnosticsParams`
abbrev pub published : List ℕ → ℤ → Data → Data
published uri version listed = object (member (codes "diagnostics") listed (member (codes "uri") (string uri)
    (member (codes "version") (number (of_integer version)) no_members)))

abbrev pub cleared : List ℕ → Data
cleared uri = object (member (codes "diagnostics") (array no_items) (member (codes "uri") (string uri) no_members))

abbrev pub publication : Data → Data
publication params = call (codes "textDocument/publishDiagnostics") params

-- the problems of the text of an open document, with its version
pub record Publishes (claim : TextClaim) (e : Encoding) (uri : List ℕ) (version : ℤ) (text : List ℕ)
    (sent : Option Data) : Type 0 where
  pub found : List Found
  pub finds : claim.Finds uri text found
  pub is : sent ≡ Some (publication (published uri version (diagnostics e text found)))

-- what is published of an open document: no problems if its text is lost
abbrev pub PublishesText : TextClaim → Encoding → List ℕ → ℤ → Option (List ℕ) → Option Data → Type 0
PublishesText claim e uri version None sent = sent ≡ Some (publication (cleared uri))
PublishesText claim e uri version (Some text) sent = Publishes claim e uri version text sent

-- the publication for the document with a URI: no problems if it is not open
abbrev pub PublishesFor : TextClaim → Encoding → List ℕ → Option OpenText → Option Data → Type 0
PublishesFor claim e uri None sent = sent ≡ Some (publication (cleared uri))
PublishesFor claim e uri (Some was) sent = PublishesText claim e uri was.version was.text sent

abbrev pub PublishesUri : TextClaim → Encoding → List OpenDocument → Option (List ℕ) → Option Data → Type 0
PublishesUri claim e documents None sent = sent ≡ None
PublishesUri claim e documents (Some uri) sent = PublishesFor claim e uri (find uri documents) sent

-- What is published after a message: after a notification on a document, what the server knows of it then, but nothing
-- if the client asks for problems itself. (server: the server after the message; task: its task with the message)
abbrev pub IsPublished : TextClaim → Server → Task → Data → Option Data → Type 0
IsPublished claim server task d sent = MatchBool (is_notification task && not server.terms.is_pulling)
    (MatchBool (is_of_document (method_of (kind_of d)))
    (PublishesUri claim server.terms.encoding server.documents.items (named_uri d) sent) (sent ≡ None)) (sent ≡ None)
