-- The names of the rules to leave out, as the words of a command line give them.
use Rattle.std.specs.Prelude.{ℕ, Bool, List, ◌==◌}
use Rattle.std.specs.List.{flat_map, list_all, list_any, slice_split}
use Rattle.std.specs.Str.{bytes_eq}

-- The texts between the commas of a text. There is one more text than there are commas.
abbrev pub between_commas : List ℕ → List (List ℕ)
between_commas word = slice_split (λ b. b == 44) word

-- The names in some words, word by word.
abbrev pub names_in : List (List ℕ) → List (List ℕ)
names_in words = flat_map between_commas words

-- Whether a name is the name of a rule.
abbrev pub is_rule : List (List ℕ) → List ℕ → Bool
is_rule rules name = list_any (λ rule. bytes_eq rule name) rules

-- Whether each of the names is the name of a rule.
abbrev pub are_rules : List (List ℕ) → List (List ℕ) → Bool
are_rules rules names = list_all (λ name. is_rule rules name) names
