-- The comment that trails a leaf, as a number.
use Rattle.std.specs.Prelude.{ℕ, ◌-◌, ◌==◌, if◌then◌else◌, Option, Some, None}

-- the index of a comment plus one, or 0 for none
abbrev pub counted : ℕ → Option ℕ
counted n = if n == 0 then None else Some (n - 1)
