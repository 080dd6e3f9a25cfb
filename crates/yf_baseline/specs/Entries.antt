-- The entries of findings, which identify findings after lines have moved.
use Rattle.std.specs.Prelude.{ℕ, List, [], ◌∷◌, ◌++◌}
use Rattle.sha2.specs.Sha256.{sha256}
use Rattle.hex.specs.Hex.{encode_lower}
use Rattle.yf_baseline.specs.SeenTexts.{occurrences}
use Rattle.yf_baseline.specs.declared.entry.Entry.{Entry}
use Rattle.yf_baseline.specs.declared.entry.Found.{Found}

-- the hash of the text of a line
unfoldable pub line_hash : List ℕ → List ℕ
line_hash text = encode_lower (sha256 text)

-- the parts of a finding that its entry keeps beside the file: its rule, and the hash of the text of its line
pub record Kept : Type 0 where
  pub rule : List ℕ
  pub hash : List ℕ

abbrev pub kept : List ℕ → List ℕ → Kept
kept rule hash = record { rule = rule; hash = hash }

abbrev pub kept_of : Found → Kept
kept_of finding = kept finding.rule.now (line_hash finding.text.now)

-- one text for a rule and a hash, which has 64 digits
abbrev pub mark : Kept → List ℕ
mark k = k.hash ++ k.rule

abbrev pub entry_at : List ℕ → Kept → ℕ → Entry
entry_at file k ordinal = record { file = file; rule = k.rule; hash = k.hash; ordinal = ordinal }

-- the entries of findings after others with these marks: an ordinal is the number of earlier equal marks
abbrev pub entries_after : List ℕ → List (List ℕ) → List Kept → List Entry
entries_after file seen [] = []
entries_after file seen (k ∷ ks) =
    entry_at file k (occurrences (mark k) seen) ∷ entries_after file (seen ++ mark k ∷ []) ks

-- the entries of all findings of a file, in order
abbrev pub entries_of : List ℕ → List Kept → List Entry
entries_of file ks = entries_after file [] ks
