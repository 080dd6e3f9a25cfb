-- The SARIF 2.1.0 log of a list of problems.
use Rattle.std.specs.Prelude.{ℕ, List, [], ◌∷◌, codes, decimal, Bool, Option, None, Some}
use Rattle.percent_encoding.specs.Percent.{percent_encode}
use Rattle.json.specs.Token.{Token}
use Rattle.json.specs.Json.{Json, boolean, number, string, array, object}
use Rattle.json.specs.Json.{Items, no_items, item, Members, no_members, member}
use Rattle.yf_report.specs.declared.problem.Range.{Range}
use Rattle.yf_report.specs.declared.sarif.Rule.{Rule}
use Rattle.yf_report.specs.declared.sarif.TheConstants.{ESCAPED}
use Rattle.yf_report.specs.Members.{member_tokens}
use Rattle.yf_report.specs.Problems.{Note, severity_name}
use Rattle.yf_report.specs.Fixes.{Fixed, Replaced}

-- a rule's id, a sentence about it, and what it requires
pub record Described : Type 0 where
  pub id : List ℕ
  pub summary : List ℕ
  pub help : List ℕ

abbrev pub described : Rule → Described
described r = record { id = r.id.now; summary = r.summary.now; help = r.help.now }

-- a relative reference (RFC 3986) with each byte escaped but letters, digits, `-`, `.`, `_`, `~` and `/`
abbrev pub escaped : List ℕ → List ℕ
escaped name = percent_encode ESCAPED name

abbrev pub uri_of : Option (List ℕ) → List ℕ
uri_of None = codes "stdin"
uri_of (Some name) = escaped name

abbrev pub text_json : List ℕ → Json
text_json text = object (member (codes "text") (string text) no_members)

abbrev pub region_json : Range → Json
region_json r =
    object (member (codes "startLine") (number (decimal r.line))
    (member (codes "startColumn") (number (decimal r.column))
    (member (codes "endLine") (number (decimal r.end_line))
    (member (codes "endColumn") (number (decimal r.end_column)) no_members))))

abbrev pub artifact_json : List ℕ → Json
artifact_json uri = object (member (codes "uri") (string uri) no_members)

abbrev pub physical_json : List ℕ → Range → Json
physical_json uri r =
    object (member (codes "artifactLocation") (artifact_json uri)
    (member (codes "region") (region_json r) no_members))

abbrev pub location_json : List ℕ → Range → Json
location_json uri r = object (member (codes "physicalLocation") (physical_json uri r) no_members)

abbrev pub note_json : List ℕ → Note → Json
note_json uri n =
    object (member (codes "physicalLocation") (physical_json uri n.range)
    (member (codes "message") (text_json n.message) no_members))

-- the other place, if there is one, before other members
abbrev pub related_members : List ℕ → Option Note → Members → Members
related_members uri None more = more
related_members uri (Some n) more = member (codes "relatedLocations") (array (item (note_json uri n) no_items)) more

-- the text that replaces a range, unless it is empty
abbrev pub inserted_members : List ℕ → Members
inserted_members [] = no_members
inserted_members (c ∷ text) = member (codes "insertedContent") (text_json (c ∷ text)) no_members

abbrev pub replacement_json : Replaced → Json
replacement_json r = object (member (codes "deletedRegion") (region_json r.range) (inserted_members r.text))

abbrev pub replacement_items : List Replaced → Items
replacement_items [] = no_items
replacement_items (r ∷ rs) = item (replacement_json r) (replacement_items rs)

abbrev pub change_json : List ℕ → List Replaced → Json
change_json uri rs =
    object (member (codes "artifactLocation") (artifact_json uri)
    (member (codes "replacements") (array (replacement_items rs)) no_members))

abbrev pub fix_json : List ℕ → List Replaced → Json
fix_json uri rs =
    object (member (codes "description") (text_json (codes "format the file"))
    (member (codes "artifactChanges") (array (item (change_json uri rs) no_items)) no_members))

-- the fix, if there is one, before other members
abbrev pub fix_members : List ℕ → List Replaced → Members → Members
fix_members uri [] more = more
fix_members uri (r ∷ rs) more = member (codes "fixes") (array (item (fix_json uri (r ∷ rs)) no_items)) more

abbrev pub properties_json : Bool → Json
properties_json fixable = object (member (codes "fixable") (boolean fixable) no_members)

unfoldable pub result_json : Fixed → Json
result_json f =
    object (member (codes "ruleId") (string f.finding.rule)
    (member (codes "level") (string (severity_name f.finding.severity))
    (member (codes "message") (text_json f.finding.message)
    (member (codes "locations") (array (item (location_json (uri_of f.finding.file) f.finding.range) no_items))
    (related_members (uri_of f.finding.file) f.finding.related
    (fix_members (uri_of f.finding.file) f.fix
    (member (codes "properties") (properties_json f.finding.fixable) no_members)))))))

abbrev pub result_items : List Fixed → Items
result_items [] = no_items
result_items (f ∷ fs) = item (result_json f) (result_items fs)

unfoldable pub rule_json : Described → Json
rule_json r =
    object (member (codes "id") (string r.id)
    (member (codes "shortDescription") (text_json r.summary)
    (member (codes "help") (text_json r.help) no_members)))

abbrev pub rule_items : List Described → Items
rule_items [] = no_items
rule_items (r ∷ rs) = item (rule_json r) (rule_items rs)

abbrev pub driver_json : List Described → Json
driver_json rs =
    object (member (codes "name") (string (codes "yamlfmt"))
    (member (codes "rules") (array (rule_items rs)) no_members))

abbrev pub tool_json : List Described → Json
tool_json rs = object (member (codes "driver") (driver_json rs) no_members)

abbrev pub run_json : List Described → List Fixed → Json
run_json rs fs =
    object (member (codes "tool") (tool_json rs)
    (member (codes "columnKind") (string (codes "unicodeCodePoints"))
    (member (codes "results") (array (result_items fs)) no_members)))

abbrev pub log_json : List Described → List Fixed → Json
log_json rs fs =
    object (member (codes "$schema") (string (codes "https://json.schemastore.org/sarif-2.1.0.json"))
    (member (codes "version") (string (codes "2.1.0"))
    (member (codes "runs") (array (item (run_json rs fs) no_items)) no_members)))

-- ---- for private clauses: tokens

abbrev pub related_tokens : List ℕ → Option Note → List Token
related_tokens uri None = []
related_tokens uri (Some n) = member_tokens (codes "relatedLocations") (array (item (note_json uri n) no_items))

abbrev pub inserted_tokens : List ℕ → List Token
inserted_tokens [] = []
inserted_tokens (c ∷ text) = member_tokens (codes "insertedContent") (text_json (c ∷ text))

abbrev pub fix_tokens : List ℕ → List Replaced → List Token
fix_tokens uri [] = []
fix_tokens uri (r ∷ rs) = member_tokens (codes "fixes") (array (item (fix_json uri (r ∷ rs)) no_items))

-- the tokens before the members of the run
abbrev pub head_tokens : List Token
head_tokens =
    Token.begin_object
    ∷ Token.key (codes "$schema") ∷ Token.string (codes "https://json.schemastore.org/sarif-2.1.0.json")
    ∷ Token.key (codes "version") ∷ Token.string (codes "2.1.0")
    ∷ Token.key (codes "runs") ∷ Token.begin_array ∷ Token.begin_object ∷ []
