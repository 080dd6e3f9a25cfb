-- The entries of a baseline that no longer occur.
use Rattle.std.specs.Prelude.{ℕ, ◌&&◌, Bool, not, List, filter}
use Rattle.yf_baseline.specs.Baselines.{entry_line}
use Rattle.yf_baseline.specs.SeenTexts.{is_among}
use Rattle.yf_baseline.specs.declared.entry.Entry.{Entry}

-- the entry isn't among those with these lines
abbrev pub is_new : List (List ℕ) → Entry → Bool
is_new lines e = not (is_among lines (entry_line e))

-- the entry has the name of a checked file, and isn't among the entries with these lines
abbrev pub is_missing : List (List ℕ) → List (List ℕ) → Entry → Bool
is_missing names lines e = is_among names e.file && is_new lines e

-- the entries of files with these names that no longer occur, in order; `lines` has the entries that occur
abbrev pub missing : List (List ℕ) → List (List ℕ) → List Entry → List Entry
missing names lines baseline = filter (λ e. is_missing names lines e) baseline
