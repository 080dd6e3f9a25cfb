-- The requested lines, and the hunks that touch them.
use Rattle.std.specs.Prelude.{◌≡◌, ℕ, ◌+◌, ◌-◌, ◌==◌, Bool, true, false, ◌&&◌, ◌||◌, nat_le, nat_lt, List, [], ◌∷◌}
use Rattle.std.specs.Prelude.{if◌then◌else◌}
use Rattle.yf_line_ranges.specs.Ranges.{is_asked}
use Rattle.yf_line_ranges.specs.declared.range.LineRange.{LineRange}
use Rattle.yf_parts.specs.declared.hunks.Hunk.{Hunk}

-- A hunk touches the lines of the text in it. If it has none, it touches the line before it and the line after it.
-- Numbers of lines begin at 1.
abbrev pub touches : Hunk → ℕ → Bool
touches h n = if h.start.lines == h.end.lines then nat_le h.start.lines n && nat_le n (h.start.lines + 1)
    else nat_lt h.start.lines n && nat_le n h.end.lines

-- the hunk touches no line of the ranges
abbrev pub IsUntouched : List LineRange → Hunk → Type 0
IsUntouched asked h = (n : ℕ) → is_asked asked n ≡ true → touches h n ≡ false

abbrev pub AllUntouched : List LineRange → List Hunk → Type 0
AllUntouched asked [] = Unit {0}
AllUntouched asked (h ∷ hunks) = IsUntouched asked h × AllUntouched asked hunks

-- each hunk has a flag, and a hunk without its flag set touches no line of the ranges
abbrev pub Settled : List LineRange → List Hunk → List Bool → Type 0
Settled asked [] [] = Unit {0}
Settled asked (h ∷ hunks) (flag ∷ flags) = (flag ≡ false → IsUntouched asked h) × Settled asked hunks flags
Settled asked [] (flag ∷ flags) = ⊥
Settled asked (h ∷ hunks) [] = ⊥

-- How a hunk is tested against a range.
abbrev pub meets : LineRange → Hunk → Bool
meets r h = if nat_lt r.last r.first then false
    else if h.start.lines == h.end.lines then nat_le (r.first - 1) h.start.lines && nat_le h.start.lines r.last
    else (nat_lt h.start.lines h.end.lines && nat_le r.first h.end.lines) && nat_lt h.start.lines r.last

abbrev pub touched_by : List LineRange → Hunk → Bool
touched_by [] h = false
touched_by (r ∷ asked) h = meets r h || touched_by asked h

abbrev pub has_true : List Bool → Bool
has_true [] = false
has_true (flag ∷ flags) = flag || has_true flags

-- the lists have equal lengths, and flags that were set are still set
abbrev pub Covers : List Bool → List Bool → Type 0
Covers [] [] = Unit {0}
Covers (a ∷ before) (b ∷ after) = (a ≡ true → b ≡ true) × Covers before after
Covers [] (b ∷ after) = ⊥
Covers (a ∷ before) [] = ⊥
