-- The JSON of a list of problems, and the list of problems that a JSON value holds.
use Rattle.std.specs.Prelude.{ℕ, List, [], ◌∷◌, codes, decimal, bytes_eq}
use Rattle.std.specs.Prelude.{Bool, Option, None, Some, option_map, option_and_then, if◌then◌else◌}
use Rattle.std.specs.Str.Parse.{digits_value}
use Rattle.json.specs.Token.{Token}
use Rattle.json.specs.Json.{Json, null, boolean, number, string, array}
use Rattle.json.specs.Json.{object, Items, no_items, item, Members, no_members, member}
use Rattle.yf_report.specs.Members.{member_tokens}
use Rattle.yf_report.specs.declared.problem.Range.{Range}
use Rattle.yf_report.specs.declared.problem.Severity.{Severity}
use Rattle.yf_report.specs.declared.problem.Severity.TheVariants.{Error, Warning}
use Rattle.yf_report.specs.Problems.{Note, Finding, severity_name}

-- ---- from problems to JSON

abbrev pub text_or_null : Option (List ℕ) → Json
text_or_null None = null
text_or_null (Some s) = string s

-- the four members of a range, before others
abbrev pub range_members : Range → Members → Members
range_members r more =
    member (codes "line") (number (decimal r.line))
    (member (codes "column") (number (decimal r.column))
    (member (codes "end_line") (number (decimal r.end_line))
    (member (codes "end_column") (number (decimal r.end_column)) more)))

abbrev pub note_json : Note → Json
note_json n = object (range_members n.range (member (codes "message") (string n.message) no_members))

-- a problem has the member `related` only if there is another place
abbrev pub related_members : Option Note → Members
related_members None = no_members
related_members (Some n) = member (codes "related") (note_json n) no_members

unfoldable pub finding_json : Finding → Json
finding_json f =
    object (member (codes "file") (text_or_null f.file)
    (range_members f.range
    (member (codes "rule") (string f.rule)
    (member (codes "severity") (string (severity_name f.severity))
    (member (codes "message") (string f.message)
    (member (codes "fixable") (boolean f.fixable)
    (related_members f.related)))))))

abbrev pub finding_items : List Finding → Items
finding_items [] = no_items
finding_items (f ∷ fs) = item (finding_json f) (finding_items fs)

abbrev pub report_json : List Finding → Json
report_json fs = array (finding_items fs)

-- ---- from JSON to problems

-- the value of the first member with a name
abbrev pub member_named : List ℕ → Members → Option Json
member_named k no_members = None
member_named k (member l j ms) = if bytes_eq k l then Some j else member_named k ms

abbrev pub string_in : Json → Option (List ℕ)
string_in null = None
string_in (boolean b) = None
string_in (number s) = None
string_in (string s) = Some s
string_in (array js) = None
string_in (object ms) = None

abbrev pub string_or_null_in : Json → Option (Option (List ℕ))
string_or_null_in null = Some None
string_or_null_in (boolean b) = None
string_or_null_in (number s) = None
string_or_null_in (string s) = Some (Some s)
string_or_null_in (array js) = None
string_or_null_in (object ms) = None

-- the number that decimal digits write
abbrev pub number_in : Json → Option ℕ
number_in null = None
number_in (boolean b) = None
number_in (number s) = Some (digits_value 10 s)
number_in (string s) = None
number_in (array js) = None
number_in (object ms) = None

abbrev pub boolean_in : Json → Option Bool
boolean_in null = None
boolean_in (boolean b) = Some b
boolean_in (number s) = None
boolean_in (string s) = None
boolean_in (array js) = None
boolean_in (object ms) = None

abbrev pub severity_in : Json → Option Severity
severity_in j = option_and_then
    (λ s. if bytes_eq s (codes "error") then
    Some Error else (if bytes_eq s (codes "warning") then Some Warning else None)) (string_in j)

abbrev pub in_member : {A : Type 0} → (Json → Option A) → List ℕ → Members → Option A
in_member f k ms = option_and_then f (member_named k ms)

abbrev pub range_in : Members → Option Range
range_in ms =
    option_and_then (λ line. option_and_then (λ column. option_and_then (λ end_line. option_map (λ end_column.
    record { line = line; column = column; end_line = end_line; end_column = end_column })
    (in_member number_in (codes "end_column") ms))
    (in_member number_in (codes "end_line") ms))
    (in_member number_in (codes "column") ms))
    (in_member number_in (codes "line") ms)

abbrev pub note_in : Json → Option Note
note_in null = None
note_in (boolean b) = None
note_in (number s) = None
note_in (string s) = None
note_in (array js) = None
note_in (object ms) =
    option_and_then (λ range. option_map (λ message. record { range = range; message = message })
    (in_member string_in (codes "message") ms)) (range_in ms)

-- None only if the member is present but no place
abbrev pub related_in : Option Json → Option (Option Note)
related_in None = Some None
related_in (Some j) = option_map (λ n. Some n) (note_in j)

abbrev pub finding_from : Members → Option Finding
finding_from ms =
    option_and_then (λ file. option_and_then
    (λ range. option_and_then
    (λ rule. option_and_then (λ severity. option_and_then (λ message. option_and_then (λ fixable. option_map (λ related.
    record {
      file = file;
      range = range;
      rule = rule;
      severity = severity;
      message = message;
      fixable =
          fixable;
      related = related;
    })
    (related_in (member_named (codes "related") ms)))
    (in_member boolean_in (codes "fixable") ms))
    (in_member string_in (codes "message") ms))
    (in_member severity_in (codes "severity") ms))
    (in_member string_in (codes "rule") ms))
    (range_in ms))
    (in_member string_or_null_in (codes "file") ms)

abbrev pub finding_in : Json → Option Finding
finding_in null = None
finding_in (boolean b) = None
finding_in (number s) = None
finding_in (string s) = None
finding_in (array js) = None
finding_in (object ms) = finding_from ms

abbrev pub findings_from : Items → Option (List Finding)
findings_from no_items = Some []
findings_from (item j js) = option_and_then (λ f. option_map (λ fs. f ∷ fs) (findings_from js)) (finding_in j)

-- the problems that a report holds, in its order
unfoldable pub findings_in : Json → Option (List Finding)
findings_in null = None
findings_in (boolean b) = None
findings_in (number s) = None
findings_in (string s) = None
findings_in (array js) = findings_from js
findings_in (object ms) = None

-- ---- for private clauses: tokens

-- the tokens of a range's members
abbrev pub range_tokens : Range → List Token
range_tokens r =
    Token.key (codes "line") ∷ Token.number (decimal r.line)
    ∷ Token.key (codes "column") ∷ Token.number (decimal r.column)
    ∷ Token.key (codes "end_line") ∷ Token.number (decimal r.end_line)
    ∷ Token.key (codes "end_column") ∷ Token.number (decimal r.end_column) ∷ []

-- the tokens of another place, if there is one
abbrev pub related_tokens : Option Note → List Token
related_tokens None = []
related_tokens (Some n) = member_tokens (codes "related") (note_json n)
