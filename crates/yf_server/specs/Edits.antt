-- Text edits as JSON (`TextEdit` of the Language Server Protocol 3.17), and the answers that carry them.
use Rattle.std.specs.Prelude.{◌≡◌, ℕ, ◌-◌, nat_lt, if◌then◌else◌, List, map, codes, true, Option, None, Some, option_and_then}
use Rattle.serde_json.specs.Data.{Data, null, number, string, array, object, no_members, member, unsigned}
use Rattle.serde_json.specs.Find.{get}
use Rattle.serde_json.specs.View.{items_of}
use Rattle.yf_json_rpc.specs.declared.error_code.ErrorCode.{ErrorCode}
use Rattle.yf_json_rpc.specs.Messages.{failure, reply}
use Rattle.yf_positions.specs.declared.encoding.Encoding.{Encoding}
use Rattle.yf_positions.specs.declared.position.LspPosition.{LspPosition}
use Rattle.yf_positions.specs.declared.position.LspRange.{LspRange}
use Rattle.yf_positions.specs.Edits.{EditsOfScript, RangeEdit, edited, in_order}
use Rattle.yf_positions.specs.Offsets.{offset_of}
use Rattle.yf_server.specs.Analysis.{TextClaim}
use Rattle.yf_server.specs.Parameters.{string_in}

abbrev pub position_data : LspPosition → Data
position_data p = object (member (codes "character") (number (unsigned p.character))
    (member (codes "line") (number (unsigned p.line)) no_members))

abbrev pub range_between : Data → Data → Data
range_between start end = object (member (codes "end") end (member (codes "start") start no_members))

abbrev pub range_data : LspRange → Data
range_data r = range_between (position_data r.start) (position_data r.end)

abbrev pub edit_of : Data → List ℕ → Data
edit_of range text = object (member (codes "newText") (string text) (member (codes "range") range no_members))

abbrev pub edit_data : RangeEdit → Data
edit_data x = edit_of (range_data x.range) x.text

abbrev pub edits_data : List RangeEdit → Data
edits_data edits = array (items_of (map edit_data edits))

-- one message says why another one failed
pub record FailsWith (id : Data) (code : ErrorCode) (sent : Option Data) : Type 0 where
  pub text : List ℕ
  pub is : sent ≡ Some (failure id code text)

-- the edits that a client gets: made by the protocol's definition, they turn the old text into the new one; they are in
-- order and do not overlap, and they cover no line that the edit script keeps
pub record AreEditsTo (e : Encoding) (old new : List ℕ) (value : Data) : Type 0 where
  pub edits : List RangeEdit
  pub is : value ≡ edits_data edits
  pub order : in_order e old 0 edits ≡ true
  pub text : edited e old 0 edits ≡ new
  pub script : EditsOfScript e old new edits

-- the edits from an old text to its formatting, or null if it has none
abbrev pub AreEditsFor : Encoding → List ℕ → Option (List ℕ) → Data → Type 0
AreEditsFor e old None value = value ≡ null
AreEditsFor e old (Some new) value = AreEditsTo e old new value

-- the result of `textDocument/formatting` for the document with a URI and a text
pub record IsFormatting (claim : TextClaim) (e : Encoding) (uri old : List ℕ) (value : Data) : Type 0 where
  pub new : Option (List ℕ)
  pub formats : claim.Formats uri old new
  pub edits : AreEditsFor e old new value

-- the offset of the last character of a range, or of its start if it has none
abbrev pub last_offset : ℕ → ℕ → ℕ
last_offset start end = if nat_lt start end then end - 1 else start

-- the result of `textDocument/rangeFormatting` for a document: the edits that format the lines of the range
pub record IsLineFormatting (claim : TextClaim) (e : Encoding) (range : LspRange) (uri old : List ℕ) (value : Data)
    : Type 0 where
  pub new : Option (List ℕ)
  pub formats : claim.FormatsLines uri old (offset_of e old range.start)
      (last_offset (offset_of e old range.start) (offset_of e old range.end)) new
  pub edits : AreEditsFor e old new value

-- one message is the response with this result
pub record Replies (P : Data → Type 0) (id : Data) (sent : Option Data) : Type 0 where
  pub value : Data
  pub is : sent ≡ Some (reply id value)
  pub holds : P value

-- the URI that parameters name
abbrev pub named_uri : Data → Option (List ℕ)
named_uri d = option_and_then (string_in (codes "uri"))
    (option_and_then (get (codes "textDocument")) (get (codes "params") d))
