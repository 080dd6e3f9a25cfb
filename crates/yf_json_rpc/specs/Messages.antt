-- JSON-RPC messages as JSON.
use Rattle.std.specs.Prelude.{◌≡◌, ℕ, ◌≤◌, List, ◌++◌, Bool, true, false, Option, None, Some, option_map, codes, if◌then◌else◌}
use Rattle.serde_json.specs.Data.{Data, null, boolean, number, string, array, object, no_members, member, depth}
use Rattle.serde_json.specs.Find.{as_str, get, of_integer}
use Rattle.serde_json.specs.Read.{max_depth, read}
use Rattle.serde_json.specs.View.{view}
use Rattle.yf_json_rpc.specs.declared.error_code.ErrorCode.{ErrorCode}
use Rattle.yf_json_rpc.specs.ErrorCodes.{number_of}
use Rattle.yf_json_rpc.specs.declared.message.Message.{Message}
use Rattle.yf_json_rpc.specs.declared.message.Message.TheVariants as Variants
use Rattle.yf_json_rpc.specs.Frames.{frame}

-- the kind of a message
pub data Kind : Type 0 where
  request : Data → List ℕ → Kind
  notification : List ℕ → Kind
  response : Data → Kind
  invalid : Kind

-- the id of a request is a string or a number
abbrev pub is_id : Data → Bool
is_id null = false
is_id (boolean b) = false
is_id (number n) = true
is_id (string s) = true
is_id (array ds) = false
is_id (object ms) = false

-- by the member `id`, and by the text of the member `method`, if it has one
abbrev pub kind : Option Data → Option (Option (List ℕ)) → Kind
kind None None = invalid
kind (Some id) None = response id
kind None (Some None) = invalid
kind (Some id) (Some None) = invalid
kind None (Some (Some method)) = notification method
kind (Some id) (Some (Some method)) = if is_id id then request id method else invalid

abbrev pub kind_of : Data → Kind
kind_of d = kind (get (codes "id") d) (option_map as_str (get (codes "method") d))

-- the kind of a message that was read
abbrev pub kind_read : Message → Kind
kind_read (Variants.Request id method) = request (view id.now) method.now
kind_read (Variants.Notification method) = notification method.now
kind_read (Variants.Response id) = response (view id.now)
kind_read Variants.Invalid = invalid

-- a message of these members
abbrev pub reply : Data → Data → Data
reply id value = object (member (codes "id") id (member (codes "jsonrpc") (string (codes "2.0"))
    (member (codes "result") value no_members)))

abbrev pub error_object : ErrorCode → List ℕ → Data
error_object code text = object (member (codes "code") (number (of_integer (number_of code)))
    (member (codes "message") (string text) no_members))

abbrev pub failure : Data → ErrorCode → List ℕ → Data
failure id code text = object (member (codes "error") (error_object code text)
    (member (codes "id") id (member (codes "jsonrpc") (string (codes "2.0")) no_members)))

abbrev pub call : List ℕ → Data → Data
call method params = object (member (codes "jsonrpc") (string (codes "2.0"))
    (member (codes "method") (string method) (member (codes "params") params no_members)))

-- One message is added. Its content is JSON that reads back as the value, if arrays and objects do not nest deeper than
-- the reader allows.
pub record AddsMessage (before after : List ℕ) (value : Data) : Type 0 where
  pub text : List ℕ
  pub added : after ≡ before ++ frame text
  pub reads_back : depth value ≤ max_depth → read text ≡ Some value
