-- The answers to requests that are not of the life cycle.
use Rattle.std.specs.Prelude.{ℕ, List, Option, None, Some, Result, Ok, Err}
use Rattle.serde_json.specs.Data.{Data}
use Rattle.yf_json_rpc.specs.declared.error_code.ErrorCode.{ErrorCode}
use Rattle.yf_json_rpc.specs.declared.error_code.ErrorCode.TheVariants.{InvalidParams, RequestFailed}
use Rattle.yf_positions.specs.declared.encoding.Encoding.{Encoding}
use Rattle.yf_server.specs.declared.documents.OpenDocument.{OpenDocument}
use Rattle.yf_server.specs.Actions.{AreActions}
use Rattle.yf_server.specs.Analysis.{TextClaim}
use Rattle.yf_server.specs.Diagnostics.{IsReport}
use Rattle.yf_server.specs.Documents.{OpenText, find}
use Rattle.yf_server.specs.Edits.{FailsWith, IsFormatting, IsLineFormatting, Replies, named_uri}
use Rattle.yf_server.specs.Folds.{AreFoldsOf}
use Rattle.yf_server.specs.Queries.{Asked, formatting, lines, actions, problems, folds, symbols, selections, query_of}
use Rattle.yf_server.specs.Selections.{AreSelectionsOf}
use Rattle.yf_server.specs.Symbols.{AreSymbolsOf}

-- what a request gets that asks for something of the document with a URI and a text
abbrev pub IsResult : TextClaim → Encoding → Asked → List ℕ → List ℕ → Data → Type 0
IsResult claim e formatting uri text value = IsFormatting claim e uri text value
IsResult claim e (lines range) uri text value = IsLineFormatting claim e range uri text value
IsResult claim e (actions wanted) uri text value = AreActions claim e wanted uri text value
IsResult claim e problems uri text value = IsReport claim e uri text value
IsResult claim e folds uri text value = AreFoldsOf claim text value
IsResult claim e symbols uri text value = AreSymbolsOf claim e text value
IsResult claim e (selections positions) uri text value = AreSelectionsOf claim e positions text value

-- the answer for an open document, or an error if its text is lost
abbrev pub AnswersText : TextClaim → Encoding → Data → Asked → List ℕ → Option (List ℕ) → Option Data → Type 0
AnswersText claim e id query uri None sent = FailsWith id RequestFailed sent
AnswersText claim e id query uri (Some text) sent = Replies (IsResult claim e query uri text) id sent

-- the answer for a document, or an error if it is not open
abbrev pub AnswersFor : TextClaim → Encoding → Data → Asked → List ℕ → Option OpenText → Option Data → Type 0
AnswersFor claim e id query uri None sent = FailsWith id InvalidParams sent
AnswersFor claim e id query uri (Some was) sent = AnswersText claim e id query uri was.text sent

-- the answer for the document of a URI, or an error if the parameters have none
abbrev pub AnswersUri : TextClaim → Encoding → List OpenDocument → Data → Asked → Option (List ℕ) → Option Data → Type 0
AnswersUri claim e documents id query None sent = FailsWith id InvalidParams sent
AnswersUri claim e documents id query (Some uri) sent = AnswersFor claim e id query uri (find uri documents) sent

abbrev pub AnswersQuery : TextClaim → Encoding → List OpenDocument → Data → Option (List ℕ) → Result Asked ErrorCode
    → Option Data → Type 0
AnswersQuery claim e documents id uri (Err code) sent = FailsWith id code sent
AnswersQuery claim e documents id uri (Ok query) sent = AnswersUri claim e documents id query uri sent

-- the answer to a request that is not of the life cycle
abbrev pub AnswersRequest : TextClaim → Encoding → List OpenDocument → Data → List ℕ → Data → Option Data → Type 0
AnswersRequest claim e documents id method d sent =
    AnswersQuery claim e documents id (named_uri d) (query_of method d) sent
