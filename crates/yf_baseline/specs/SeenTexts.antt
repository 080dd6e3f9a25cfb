-- Texts that were seen: how often each came, and maps and sets that know them.
use Rattle.std.specs.Prelude.{◌≡◌, ℕ, ◌+◌, Bool, List, bytes_eq, String, if◌then◌else◌}
use Rattle.std.specs.List.{count_by, list_any}
use Rattle.std.specs.Option.{unwrap_or}
use Rattle.std.specs.BTreeMap.{BTreeMap, get_by_text}
use Rattle.std.specs.BTreeSet.{BTreeSet, contains_text}

-- the number of these texts that are equal to this one
abbrev pub occurrences : List ℕ → List (List ℕ) → ℕ
occurrences text seen = count_by (λ other. bytes_eq text other) seen

-- the text is one of the texts
abbrev pub is_among : List (List ℕ) → List ℕ → Bool
is_among texts text = list_any (λ other. bytes_eq text other) texts

module _ {Y : Type 0} where
  -- the count of a text, and 0 for one that isn't listed
  abbrev pub count_of : BTreeMap (String Y) ℕ → List ℕ → ℕ
  count_of counts text = unwrap_or (get_by_text counts text) 0

  -- the map counts one text once more, and every other one as often
  abbrev pub CountsOneMore : BTreeMap (String Y) ℕ → BTreeMap (String Y) ℕ → List ℕ → Type 0
  CountsOneMore old new text =
      (other : List ℕ) → count_of new other ≡ count_of old other + (if bytes_eq other text then 1 else 0)

  -- the map counts these texts
  abbrev pub IsCounted : BTreeMap (String Y) ℕ → List (List ℕ) → Type 0
  IsCounted counts seen = (text : List ℕ) → count_of counts text ≡ occurrences text seen

  -- the set has just these texts
  abbrev pub Holds : BTreeSet (String Y) → List (List ℕ) → Type 0
  Holds set texts = (text : List ℕ) → contains_text set text ≡ is_among texts text
