-- The Code Quality report of a list of problems.
use Rattle.std.specs.Prelude.{◌≡◌, ℕ, ◌+◌, List, [], ◌∷◌, ◌++◌, codes, decimal, bytes_eq, String}
use Rattle.std.specs.Prelude.{if◌then◌else◌}
use Rattle.std.specs.Option.{unwrap_or}
use Rattle.std.specs.HashMap.{HashMap, get_by_text}
use Rattle.sha2.specs.Sha256.{sha256}
use Rattle.hex.specs.Hex.{encode_lower}
use Rattle.json.specs.Json.{Json, number, string, array, object, Items, no_items, item, no_members, member}
use Rattle.yf_report.specs.declared.problem.Problem.{Problem}
use Rattle.yf_report.specs.declared.problem.Severity.{Severity}
use Rattle.yf_report.specs.declared.problem.Severity.TheVariants.{Error, Warning}
use Rattle.yf_report.specs.Problems.{Finding, finding_of}
use Rattle.yf_report.specs.Checkstyle.{name_or_stdin}

-- a problem with the line of the text on which it begins
pub record Entry : Type 0 where
  pub finding : Finding
  pub line : List ℕ

abbrev pub entry_of : Problem → Entry
entry_of p = record { finding = finding_of p; line = p.line_text.now }

-- ---- fingerprints

-- the parts of a problem that stay if lines are added before it: the file, the rule and the text of the line
abbrev pub place_text : Entry → List ℕ
place_text e = (((name_or_stdin e.finding.file ++ 0 ∷ []) ++ e.finding.rule) ++ 0 ∷ []) ++ e.line

unfoldable pub place_digest : Entry → List ℕ
place_digest e = encode_lower (sha256 (place_text e))

-- the number of earlier digests equal to this one
abbrev pub occurrences : List ℕ → List (List ℕ) → ℕ
occurrences digest [] = 0
occurrences digest (other ∷ more) = (if bytes_eq digest other then 1 else 0) + occurrences digest more

-- the fingerprint of a problem after n others with its digest
unfoldable pub fingerprint : List ℕ → ℕ → List ℕ
fingerprint digest n = encode_lower (sha256 (digest ++ decimal n))

-- ---- the report

abbrev pub gitlab_severity : Severity → List ℕ
gitlab_severity Error = codes "major"
gitlab_severity Warning = codes "minor"

abbrev pub position_json : ℕ → ℕ → Json
position_json line column =
    object (member (codes "line") (number (decimal line))
    (member (codes "column") (number (decimal column)) no_members))

abbrev pub positions_json : Finding → Json
positions_json f =
    object (member (codes "begin") (position_json f.range.line f.range.column)
    (member (codes "end") (position_json f.range.end_line f.range.end_column) no_members))

abbrev pub location_json : Finding → Json
location_json f =
    object (member (codes "path") (string (name_or_stdin f.file))
    (member (codes "positions") (positions_json f) no_members))

unfoldable pub entry_json : Finding → List ℕ → Json
entry_json f mark =
    object (member (codes "description") (string f.message)
    (member (codes "check_name") (string f.rule)
    (member (codes "fingerprint") (string mark)
    (member (codes "severity") (string (gitlab_severity f.severity))
    (member (codes "location") (location_json f) no_members)))))

-- the problems after others with these digests
abbrev pub entry_items : List (List ℕ) → List Entry → Items
entry_items seen [] = no_items
entry_items seen (e ∷ es) =
    item (entry_json e.finding (fingerprint (place_digest e) (occurrences (place_digest e) seen)))
    (entry_items (place_digest e ∷ seen) es)

abbrev pub quality_json : List Entry → Json
quality_json es = array (entry_items [] es)

-- ---- for private clauses: a map that counts digests

module _ {Y S : Type 0} where
  -- the count of a digest, and 0 for one that isn't listed
  abbrev pub count_of : HashMap (String Y) ℕ S → List ℕ → ℕ
  count_of m digest = unwrap_or (get_by_text m digest) 0

  -- the map counts one digest once more, and no other one differently
  abbrev pub CountsOneMore : HashMap (String Y) ℕ S → HashMap (String Y) ℕ S → List ℕ → Type 0
  CountsOneMore old new digest =
      (other : List ℕ) → count_of new other ≡ (if bytes_eq other digest then 1 else 0) + count_of old other
