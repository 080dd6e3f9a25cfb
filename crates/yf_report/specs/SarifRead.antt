-- The problems in a SARIF log.
use Rattle.std.specs.Prelude.{ℕ, List, [], ◌∷◌, codes, Bool, Option, None, Some, option_map, option_and_then}
use Rattle.std.specs.Prelude.{bytes_eq, if◌then◌else◌}
use Rattle.json.specs.Json.{Json, null, boolean, number, string, array, object, Items, no_items, item, Members}
use Rattle.yf_report.specs.declared.problem.Range.{Range}
use Rattle.yf_report.specs.Problems.{Note}
use Rattle.yf_report.specs.Fixes.{Fixed, Replaced}
use Rattle.yf_report.specs.ProblemsJson.{member_named, in_member, string_in, number_in, boolean_in, severity_in}
use Rattle.yf_report.specs.Sarif.{uri_of}

-- a problem as a log has it: its file is a URI
abbrev pub logged : Fixed → Fixed
logged f = record f { finding = record f.finding { file = Some (uri_of f.finding.file) } }

abbrev pub members_in : Json → Option Members
members_in null = None
members_in (boolean b) = None
members_in (number s) = None
members_in (string s) = None
members_in (array js) = None
members_in (object ms) = Some ms

abbrev pub items_in : Json → Option Items
items_in null = None
items_in (boolean b) = None
items_in (number s) = None
items_in (string s) = None
items_in (array js) = Some js
items_in (object ms) = None

abbrev pub first_in : Items → Option Json
first_in no_items = None
first_in (item j js) = Some j

-- the result of f on the members of the object with a name
abbrev pub in_object : {A : Type 0} → (Members → Option A) → List ℕ → Members → Option A
in_object f k ms = option_and_then f (in_member members_in k ms)

-- the result of f on the members of the first object of a list
abbrev pub in_first : {A : Type 0} → (Members → Option A) → Json → Option A
in_first f j = option_and_then f (option_and_then members_in (option_and_then first_in (items_in j)))

abbrev pub text_in : Members → Option (List ℕ)
text_in ms = in_member string_in (codes "text") ms

abbrev pub region_in : Members → Option Range
region_in ms =
    option_and_then (λ line. option_and_then (λ column. option_and_then (λ end_line. option_map (λ end_column.
    record { line = line; column = column; end_line = end_line; end_column = end_column })
    (in_member number_in (codes "endColumn") ms))
    (in_member number_in (codes "endLine") ms))
    (in_member number_in (codes "startColumn") ms))
    (in_member number_in (codes "startLine") ms)

-- the URI and the region
abbrev pub physical_in : Members → Option (List ℕ × Range)
physical_in ms =
    option_and_then (λ uri. option_map (λ range. (uri, range)) (in_object region_in (codes "region") ms))
    (in_object (in_member string_in (codes "uri")) (codes "artifactLocation") ms)

abbrev pub place_in : Members → Option (List ℕ × Range)
place_in ms = in_object physical_in (codes "physicalLocation") ms

abbrev pub note_in : Members → Option Note
note_in ms =
    option_and_then (λ place. option_map (λ message. record { range = place.1; message = message })
    (in_object text_in (codes "message") ms)) (place_in ms)

-- None only if the member is present but no place
abbrev pub notes_in : Option Json → Option (Option Note)
notes_in None = Some None
notes_in (Some j) = option_map (λ n. Some n) (in_first note_in j)

-- the text of a member, or nothing if the member is absent
abbrev pub inserted_in : Option Json → Option (List ℕ)
inserted_in None = Some []
inserted_in (Some j) = option_and_then text_in (members_in j)

abbrev pub replaced_in : Members → Option Replaced
replaced_in ms =
    option_and_then (λ range. option_map (λ text. record { range = range; text = text })
    (inserted_in (member_named (codes "insertedContent") ms))) (in_object region_in (codes "deletedRegion") ms)

abbrev pub all_replaced_in : Items → Option (List Replaced)
all_replaced_in no_items = Some []
all_replaced_in (item j js) =
    option_and_then (λ r. option_map (λ rs. r ∷ rs) (all_replaced_in js)) (option_and_then replaced_in (members_in j))

-- the replacements of a change of the file with a URI; None for another file
abbrev pub change_in : List ℕ → Members → Option (List Replaced)
change_in uri ms =
    option_and_then (λ changed. if bytes_eq changed uri then
    option_and_then all_replaced_in (in_member items_in (codes "replacements") ms) else None)
    (in_object (in_member string_in (codes "uri")) (codes "artifactLocation") ms)

-- the replacements of the first change of the first fix, or nothing if the member is absent
abbrev pub fix_in : List ℕ → Option Json → Option (List Replaced)
fix_in uri None = Some []
fix_in uri (Some j) = in_first (λ fix. in_member (in_first (change_in uri)) (codes "artifactChanges") fix) j

abbrev pub fixable_in : Members → Option Bool
fixable_in ms = in_member boolean_in (codes "fixable") ms

abbrev pub result_from : Members → Option Fixed
result_from ms =
    option_and_then (λ rule. option_and_then (λ severity. option_and_then (λ message. option_and_then (λ place.
    option_and_then (λ related. option_and_then (λ fix. option_map (λ fixable.
    record {
      finding = record {
        file = Some place.0;
        range = place.1;
        rule = rule;
        severity = severity;
        message = message;
        fixable = fixable;
        related = related;
      };
      fix = fix;
    })
    (in_object fixable_in (codes "properties") ms))
    (fix_in place.0 (member_named (codes "fixes") ms)))
    (notes_in (member_named (codes "relatedLocations") ms)))
    (in_member (in_first place_in) (codes "locations") ms))
    (in_object text_in (codes "message") ms))
    (in_member severity_in (codes "level") ms))
    (in_member string_in (codes "ruleId") ms)

abbrev pub results_from : Items → Option (List Fixed)
results_from no_items = Some []
results_from (item j js) =
    option_and_then (λ f. option_map (λ fs. f ∷ fs) (results_from js)) (option_and_then result_from (members_in j))

-- the problems of the first run of a log, in its order
unfoldable pub results_in : Json → Option (List Fixed)
results_in j =
    option_and_then (λ log. option_and_then (in_first (λ run. option_and_then results_from
    (in_member items_in (codes "results") run))) (member_named (codes "runs") log)) (members_in j)
