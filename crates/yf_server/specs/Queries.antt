-- What a request asks of a document, by its method and its parameters.
use Rattle.std.specs.Prelude.{◌||◌, ℕ, List, codes, bytes_eq, map, Bool, true, false, is_some, Option, None, Some, option_and_then, Result, Ok, Err, if◌then◌else◌}
use Rattle.serde_json.specs.Data.{Data, Items, no_items, item}
use Rattle.serde_json.specs.Find.{as_array, as_str, get}
use Rattle.serde_json.specs.View.{items_of, view}
use Rattle.yf_json_rpc.specs.declared.error_code.ErrorCode.{ErrorCode}
use Rattle.yf_json_rpc.specs.declared.error_code.ErrorCode.TheVariants.{InvalidParams, MethodNotFound}
use Rattle.yf_positions.specs.declared.position.LspRange.{LspRange}
use Rattle.yf_server.specs.declared.query.Query.{Query}
use Rattle.yf_server.specs.declared.query.Query.TheVariants as Read
use Rattle.yf_server.specs.Parameters.{position_of, range_of}

-- what a request asks of a document
pub data Asked : Type 0 where
  formatting : Asked
  lines : LspRange → Asked
  actions : Bool → Asked
  problems : Asked
  folds : Asked
  symbols : Asked
  selections : Items → Asked

abbrev pub query_read : Query → Asked
query_read Read.Formatting = formatting
query_read (Read.Lines range) = lines range
query_read (Read.Actions is_wanted) = actions is_wanted
query_read Read.Problems = problems
query_read Read.Folds = folds
query_read Read.Symbols = symbols
query_read (Read.Selections positions) = selections (items_of (map view positions.now))

abbrev pub read_result : Result Query ErrorCode → Result Asked ErrorCode
read_result (Ok query) = Ok (query_read query)
read_result (Err code) = Err code

-- the kinds of code actions that `source.fixAll.yamlfmt` is one of: this kind, and those above it
abbrev pub covers : List ℕ → Bool
covers kind = bytes_eq kind (codes "") || (bytes_eq kind (codes "source")
    || (bytes_eq kind (codes "source.fixAll") || bytes_eq kind (codes "source.fixAll.yamlfmt")))

abbrev pub covers_by : Option (List ℕ) → Bool
covers_by None = false
covers_by (Some kind) = covers kind

abbrev pub covers_any : Items → Bool
covers_any no_items = false
covers_any (item d rest) = if covers_by (as_str d) then true else covers_any rest

-- Without a list of kinds the client wants code actions of all kinds.
abbrev pub wants : Option Items → Bool
wants None = true
wants (Some kinds) = covers_any kinds

-- the list `only` of `CodeActionParams`
abbrev pub only_of : Data → Option Items
only_of d = option_and_then as_array (option_and_then (get (codes "only"))
    (option_and_then (get (codes "context")) (get (codes "params") d)))

-- the range of `DocumentRangeFormattingParams`
abbrev pub asked_range : Data → Option LspRange
asked_range d = option_and_then range_of (option_and_then (get (codes "range")) (get (codes "params") d))

abbrev pub lines_by : Option LspRange → Result Asked ErrorCode
lines_by None = Err InvalidParams
lines_by (Some range) = Ok (lines range)

-- the positions of `SelectionRangeParams`
abbrev pub asked_positions : Data → Option Items
asked_positions d = option_and_then as_array (option_and_then (get (codes "positions")) (get (codes "params") d))

abbrev pub are_positions : Items → Bool
are_positions no_items = true
are_positions (item d rest) = if is_some (position_of d) then are_positions rest else false

abbrev pub selections_by : Option Items → Result Asked ErrorCode
selections_by None = Err InvalidParams
selections_by (Some positions) = if are_positions positions then Ok (selections positions) else Err InvalidParams

-- what a request asks for, or why it fails
abbrev pub query_of : List ℕ → Data → Result Asked ErrorCode
query_of method d =
    if bytes_eq method (codes "textDocument/formatting") then Ok formatting
    else (if bytes_eq method (codes "textDocument/willSaveWaitUntil") then Ok formatting
    else (if bytes_eq method (codes "textDocument/rangeFormatting") then lines_by (asked_range d)
    else (if bytes_eq method (codes "textDocument/codeAction") then Ok (actions (wants (only_of d)))
    else (if bytes_eq method (codes "textDocument/diagnostic") then Ok problems
    else (if bytes_eq method (codes "textDocument/foldingRange") then Ok folds
    else (if bytes_eq method (codes "textDocument/documentSymbol") then Ok symbols
    else (if bytes_eq method (codes "textDocument/selectionRange") then selections_by (asked_positions d)
    else Err MethodNotFound)))))))
