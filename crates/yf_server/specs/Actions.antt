-- Code actions as JSON (`CodeAction` of the Language Server Protocol 3.17), which `textDocument/codeAction` returns.
use Rattle.std.specs.Prelude.{◌≡◌, ℕ, List, codes, bytes_eq, Bool, MatchBool, Option, None, Some}
use Rattle.serde_json.specs.Data.{Data, string, array, object, no_items, item, no_members, member}
use Rattle.yf_positions.specs.declared.encoding.Encoding.{Encoding}
use Rattle.yf_server.specs.Analysis.{TextClaim}
use Rattle.yf_server.specs.Edits.{AreEditsTo}

-- `WorkspaceEdit`: these edits of the document with a URI
abbrev pub workspace_edit : List ℕ → Data → Data
workspace_edit uri edits = object (member (codes "changes") (object (member uri edits no_members)) no_members)

-- `CodeAction`: the edits format the document
abbrev pub fix_all : List ℕ → Data → Data
fix_all uri edits = object (member (codes "edit") (workspace_edit uri edits)
    (member (codes "kind") (string (codes "source.fixAll.yamlfmt"))
    (member (codes "title") (string (codes "Format the document with yamlfmt")) no_members)))

abbrev pub no_actions : Data
no_actions = array no_items

-- one code action, whose edits lead from an old text to a new one
pub record IsFixAll (e : Encoding) (uri old new : List ℕ) (value : Data) : Type 0 where
  pub edits : Data
  pub are : AreEditsTo e old new edits
  pub is : value ≡ array (item (fix_all uri edits) no_items)

-- the code actions, by what the formatting of a text gave; none if it gave nothing, or the text itself
abbrev pub AreActionsFor : Encoding → List ℕ → List ℕ → Option (List ℕ) → Data → Type 0
AreActionsFor e uri old None value = value ≡ no_actions
AreActionsFor e uri old (Some new) value =
    MatchBool (bytes_eq old new) (value ≡ no_actions) (IsFixAll e uri old new value)

pub record OffersFormatting (claim : TextClaim) (e : Encoding) (uri old : List ℕ) (value : Data) : Type 0 where
  pub new : Option (List ℕ)
  pub formats : claim.Formats uri old new
  pub actions : AreActionsFor e uri old new value

-- the result of `textDocument/codeAction` for a text (wanted: whether the client wants such an action)
abbrev pub AreActions : TextClaim → Encoding → Bool → List ℕ → List ℕ → Data → Type 0
AreActions claim e wanted uri old value =
    MatchBool wanted (OffersFormatting claim e uri old value) (value ≡ no_actions)
