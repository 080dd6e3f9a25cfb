-- What is done with the content of a message, and what is written for it.
use Rattle.std.specs.Prelude.{◌≡◌, ◌⊎◌, ℕ, List, [], Bool, true, false, Option, None, Some, option_map}
use Rattle.std.specs.Str.{IsUtf8}
use Rattle.serde_json.specs.Data.{Data, null}
use Rattle.serde_json.specs.Read.{read}
use Rattle.serde_json.specs.View.{view}
use Rattle.yf_json_rpc.specs.declared.error_code.ErrorCode.TheVariants.{ParseError, RequestFailed}
use Rattle.yf_json_rpc.specs.Messages.{AddsMessage, kind_of, request}
use Rattle.yf_server.specs.declared.lifecycle.Task.{Task}
use Rattle.yf_server.specs.declared.lifecycle.Task.TheVariants.{Initialize, Shutdown, Request, Fail, Notification, Ignore, Exit}
use Rattle.yf_server.specs.declared.step.Reaction.{Reaction}
use Rattle.yf_server.specs.declared.step.Server.{Server}
use Rattle.yf_server.specs.Analysis.{TextClaim}
use Rattle.yf_server.specs.Edits.{FailsWith}
use Rattle.yf_server.specs.Laws.{wants_answer}
use Rattle.yf_server.specs.Losses.{LosesAll, LosesText, notified_uri}
use Rattle.yf_server.specs.Publish.{IsPublished}
use Rattle.yf_server.specs.Steps.{IsLogged, IsSame, StepsTo, id_of}

-- the JSON value of a content, or none if it is not JSON
abbrev pub Parses : List ℕ → Option Data → Type 0
Parses body None = IsUtf8 body → read body ≡ None
Parses body (Some value) = IsUtf8 body × (read body ≡ Some value)

-- a message is written after bytes, or nothing if there is no message
abbrev pub Adds : List ℕ → List ℕ → Option Data → Type 0
Adds before after None = after ≡ before
Adds before after (Some value) = AddsMessage before after value

-- only this message is written
abbrev pub IsWritten : List ℕ → Data → Type 0
IsWritten bytes value = AddsMessage [] bytes value

-- up to two messages are written, one after the other
pub record AreWritten (bytes : List ℕ) (first second : Option Data) : Type 0 where
  pub front : List ℕ
  pub before : Adds [] front first
  pub after : Adds front bytes second

-- whether a task ends the server, and if so whether with success
abbrev pub exit_of : Task → Option Bool
exit_of Initialize = None
exit_of Shutdown = None
exit_of Request = None
exit_of (Fail code) = None
exit_of Notification = None
exit_of Ignore = None
exit_of (Exit is_success) = Some is_success

-- a content that is not JSON gets an error with the id null, and the texts of all documents are lost
pub record IsRefused (before : Server) (answer : List ℕ) (after : Server) (exit : Option Bool) : Type 0 where
  pub loses : LosesAll before after
  pub goes_on : exit ≡ None
  pub sent : Data
  pub fails : FailsWith null ParseError (Some sent)
  pub written : IsWritten answer sent

-- memory for a request was refused: it gets an error, and the server is unchanged
pub record IsUndone (before : Server) (value : Data) (answer : List ℕ) (after : Server) (exit : Option Bool) : Type 0
  where
    pub same : IsSame before after
    pub goes_on : exit ≡ None
    pub id : Data
    pub method : List ℕ
    pub asks : kind_of value ≡ request id method
    pub sent : Data
    pub fails : FailsWith id RequestFailed (Some sent)
    pub written : IsWritten answer sent

-- memory for a notification on a document was refused: the text of the document is lost, and the client gets a message
-- or nothing
pub record TellsLoss (claim : TextClaim) (after : Server) (value : Data) (answer : List ℕ) : Type 0 where
  pub note : Option Data
  pub logged : IsLogged note
  pub published : Option Data
  pub publishes : IsPublished claim after Notification value published
  pub written : AreWritten answer note published

pub record IsLost (claim : TextClaim) (before : Server) (value : Data) (answer : List ℕ) (after : Server)
    (exit : Option Bool) : Type 0 where
  pub goes_on : exit ≡ None
  pub uri : List ℕ
  pub about : notified_uri before.phase value ≡ Some uri
  pub loses : LosesText before after uri
  pub tells : (answer ≡ []) ⊎ TellsLoss claim after value answer

-- memory for a step was refused
abbrev pub Undoes : TextClaim → Server → Data → List ℕ → Server → Option Bool → Type 0
Undoes claim before value answer after exit =
    IsUndone before value answer after exit ⊎ IsLost claim before value answer after exit

-- what a step sends is written, and then what the server publishes
pub record IsSent (claim : TextClaim) (after : Server) (value : Data) (answer : List ℕ) (reaction : Reaction) : Type 0
  where
    pub published : Option Data
    pub publishes : IsPublished claim after reaction.task value published
    pub written : AreWritten answer (option_map view reaction.message) published

-- memory for that was refused: a request gets an error, and any other message nothing
abbrev pub IsUnsent : Bool → Data → List ℕ → Type 0
IsUnsent true id answer = (sent : Data) × FailsWith id RequestFailed (Some sent) × IsWritten answer sent
IsUnsent false id answer = answer ≡ []

abbrev pub Sends : TextClaim → Server → Data → List ℕ → Reaction → Type 0
Sends claim after value answer reaction = IsSent claim after value answer reaction
    ⊎ IsUnsent (wants_answer (kind_of value)) (id_of (kind_of value)) answer

-- the server takes one step with a message
pub record IsStep (claim : TextClaim) (before : Server) (value : Data) (answer : List ℕ) (after : Server)
    (exit : Option Bool) : Type 0 where
  pub reaction : Reaction
  pub step : StepsTo claim before after value reaction
  pub ends : exit ≡ exit_of reaction.task
  pub sends : Sends claim after value answer reaction

abbrev pub Reacts : TextClaim → Server → Option Data → List ℕ → Server → Option Bool → Type 0
Reacts claim before None answer after exit = IsRefused before answer after exit
Reacts claim before (Some value) answer after exit =
    IsStep claim before value answer after exit ⊎ Undoes claim before value answer after exit

-- The effect of a message's content on a server, the output for it, and whether it ends the session.
pub record Handles (claim : TextClaim) (before : Server) (body answer : List ℕ) (after : Server) (exit : Option Bool)
    : Type 0 where
  pub value : Option Data
  pub parses : Parses body value
  pub reacts : Reacts claim before value answer after exit
