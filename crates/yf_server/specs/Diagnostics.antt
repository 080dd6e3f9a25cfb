-- Problems as JSON (`Diagnostic` of the Language Server Protocol 3.17), and the answer to `textDocument/diagnostic`.
use Rattle.std.specs.Prelude.{◌≡◌, ℕ, List, map, codes}
use Rattle.serde_json.specs.Data.{Data, number, string, array, object, no_members, member, unsigned}
use Rattle.serde_json.specs.View.{items_of}
use Rattle.yf_positions.specs.declared.encoding.Encoding.{Encoding}
use Rattle.yf_positions.specs.declared.position.LspRange.{LspRange}
use Rattle.yf_positions.specs.Offsets.{position_of}
use Rattle.yf_server.specs.Analysis.{Found, TextClaim, severity_number}
use Rattle.yf_server.specs.Edits.{range_data}

-- the range of a problem of a text
abbrev pub range_of : Encoding → List ℕ → Found → LspRange
range_of e text f = record { start = position_of e text f.start; end = position_of e text f.end }

-- `Diagnostic`
abbrev pub diagnostic_of : Data → Found → Data
diagnostic_of range f = object (member (codes "code") (string f.code) (member (codes "message") (string f.message)
    (member (codes "range") range (member (codes "severity") (number (unsigned (severity_number f.severity)))
    (member (codes "source") (string (codes "yamlfmt")) no_members)))))

abbrev pub diagnostic : Encoding → List ℕ → Found → Data
diagnostic e text f = diagnostic_of (range_data (range_of e text f)) f

abbrev pub diagnostics : Encoding → List ℕ → List Found → Data
diagnostics e text found = array (items_of (map (diagnostic e text) found))

-- `FullDocumentDiagnosticReport`
abbrev pub full_report : Data → Data
full_report listed =
    object (member (codes "items") listed (member (codes "kind") (string (codes "full")) no_members))

-- all problems of the document with a URI and a text
pub record IsReport (claim : TextClaim) (e : Encoding) (uri text : List ℕ) (value : Data) : Type 0 where
  pub found : List Found
  pub finds : claim.Finds uri text found
  pub is : value ≡ full_report (diagnostics e text found)
