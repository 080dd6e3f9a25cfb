-- What client and server agree on at `initialize`.
use Rattle.std.specs.Prelude.{ℕ, List, Bool, true, false, codes, bytes_eq, Option, None, Some, option_and_then, if◌then◌else◌}
use Rattle.serde_json.specs.Data.{Data, null, boolean, number, string, array, object, Items, no_items, item}
use Rattle.serde_json.specs.Find.{as_array, as_str, get}
use Rattle.yf_positions.specs.declared.encoding.Encoding.{Encoding}
use Rattle.yf_positions.specs.declared.encoding.Encoding.TheVariants.{Utf8, Utf16, Utf32}
use Rattle.yf_server.specs.declared.handshake.Terms.{Terms}

-- the encoding with a name, or another one
abbrev pub named : List ℕ → Encoding → Encoding
named name other = if bytes_eq name (codes "utf-8") then Utf8
    else (if bytes_eq name (codes "utf-16") then Utf16
    else (if bytes_eq name (codes "utf-32") then Utf32 else other))

abbrev pub named_by : Option (List ℕ) → Encoding → Encoding
named_by None other = other
named_by (Some name) other = named name other

-- the first encoding of a list that is known, and UTF-16 if none is
abbrev pub first_known : Items → Encoding
first_known no_items = Utf16
first_known (item d rest) = named_by (as_str d) (first_known rest)

abbrev pub listed : Option Items → Encoding
listed None = Utf16
listed (Some items) = first_known items

-- the client's list, in the parameters of `initialize`
abbrev pub offers : Data → Option Items
offers params = option_and_then as_array (option_and_then (get (codes "positionEncodings"))
    (option_and_then (get (codes "general")) (get (codes "capabilities") params)))

-- the client's first choice that the server knows
abbrev pub negotiated : Data → Encoding
negotiated params = listed (offers params)

abbrev pub is_object : Data → Bool
is_object null = false
is_object (boolean b) = false
is_object (number n) = false
is_object (string s) = false
is_object (array ds) = false
is_object (object ms) = true

abbrev pub has_object : Option Data → Bool
has_object None = false
has_object (Some d) = is_object d

-- the client asks for problems itself (`DiagnosticClientCapabilities`)
abbrev pub is_pulling : Data → Bool
is_pulling params = has_object (option_and_then (get (codes "diagnostic"))
    (option_and_then (get (codes "textDocument")) (get (codes "capabilities") params)))

-- what client and server agree on
abbrev pub agreed : Data → Terms
agreed params = record { encoding = negotiated params; is_pulling = is_pulling params }

-- what they agree on without `initialize`
abbrev pub fresh_terms : Terms
fresh_terms = record { encoding = Utf16; is_pulling = false }

abbrev pub name_of : Encoding → List ℕ
name_of Utf8 = codes "utf-8"
name_of Utf16 = codes "utf-16"
name_of Utf32 = codes "utf-32"
