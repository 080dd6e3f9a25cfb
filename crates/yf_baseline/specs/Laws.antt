-- Consequences of the definitions.
use Rattle.std.specs.Prelude.{◌≡◌, ◌<◌, ◌^◌, ◌⊎◌, List, [], ◌∷◌, ◌++◌, ℕ, Bool, true, false, length, map, ⊤, if◌then◌else◌}
use Rattle.std.specs.List.Sorted.{IsPermutation}
use Rattle.yf_baseline.specs.Baselines.{entry_line}
use Rattle.yf_baseline.specs.Entries.{Kept, entries_of}
use Rattle.yf_baseline.specs.SeenTexts.{is_among}
use Rattle.yf_baseline.specs.declared.entry.Entry.{Entry}

-- one of the lines is among those before it, or among others that were seen
abbrev pub repeats_after : List (List ℕ) → List (List ℕ) → Bool
repeats_after seen [] = false
repeats_after seen (line ∷ lines) =
    if is_among seen line then true else repeats_after (seen ++ line ∷ []) lines

abbrev pub repeats : List (List ℕ) → Bool
repeats lines = repeats_after [] lines

-- Each entry of the findings of a file occurs once, so it leaves out one finding.
abbrev pub EntriesComeOnce : Type 0
EntriesComeOnce = (file : List ℕ) (ks : List Kept) → length ks < 2 ^ 64
    → repeats (map (λ e. entry_line e) (entries_of file ks)) ≡ false

-- an entry is one of these
abbrev pub Has : List Entry → Entry → Type 0
Has [] e = ⊥
Has (x ∷ xs) e = (e ≡ x) ⊎ Has xs e

-- each hash has 64 digits, as a SHA-256 hash does
abbrev pub HashesAreLong : List Kept → Type 0
HashesAreLong [] = ⊤
HashesAreLong (k ∷ ks) = (length k.hash ≡ 64) × HashesAreLong ks

-- The entries of findings don't depend on the order of the findings.
abbrev pub EntriesIgnoreOrder : Type 0
EntriesIgnoreOrder = (file : List ℕ) (some others : List Kept) → HashesAreLong some × HashesAreLong others
    → IsPermutation some others → (e : Entry) → Has (entries_of file some) e → Has (entries_of file others) e
