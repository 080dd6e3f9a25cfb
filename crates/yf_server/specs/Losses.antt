-- What becomes of documents if a notification cannot be acted on.
use Rattle.std.specs.Prelude.{◌≡◌, ℕ, List, Bool, true, false, Option, None, Some, option_map, if◌then◌else◌}
use Rattle.serde_json.specs.Data.{Data}
use Rattle.yf_json_rpc.specs.Messages.{kind_of}
use Rattle.yf_server.specs.declared.lifecycle.Phase.{Phase}
use Rattle.yf_server.specs.declared.step.Server.{Server}
use Rattle.yf_server.specs.Documents.{Updates, find, without_text}
use Rattle.yf_server.specs.Lifecycle.{step_of}
use Rattle.yf_server.specs.Steps.{IsSame, about_uri, is_notification, method_of}

-- the URI of the document that a message is about, if it is a notification on a document that counts
abbrev pub notified_uri : Phase → Data → Option (List ℕ)
notified_uri phase d =
    if is_notification (step_of phase (kind_of d)).task then about_uri (method_of (kind_of d)) d else None

-- the text of the document with a URI is lost, and nothing else has changed
pub record LosesText (before after : Server) (uri : List ℕ) : Type 0 where
  pub phase : after.phase ≡ before.phase
  pub terms : after.terms ≡ before.terms
  pub documents : Updates before.documents.items after.documents.items uri
      (option_map without_text (find uri before.documents.items))

-- the texts of all documents are lost, and nothing else has changed
pub record LosesAll (before after : Server) : Type 0 where
  pub phase : after.phase ≡ before.phase
  pub terms : after.terms ≡ before.terms
  pub documents : (uri : List ℕ) → find uri after.documents.items
      ≡ option_map without_text (find uri before.documents.items)

-- the text of the document is lost that a message is about, if there is one
abbrev pub Loses : Server → Server → Option (List ℕ) → Bool → Type 0
Loses before after None lost = (lost ≡ false) × IsSame before after
Loses before after (Some uri) lost = (lost ≡ true) × LosesText before after uri
