-- The names of a path.
use Rattle.std.specs.Prelude.{◌≡◌, ℕ, ◌+◌, Bool, true, false, ◌==◌, ◌&&◌, if◌then◌else◌, List, [], ◌∷◌, ◌++◌, length, take, drop, map, position, Option, Some, None}
use Rattle.yf_excludes.specs.Signs.{DOT, SLASH}
use Rattle.yf_excludes.specs.Paths.{Lent}
use Rattle.yf_excludes.specs.Segments.{is_slash, begins}

-- `.`, and a part with no byte, count for nothing
abbrev pub is_nothing : List ℕ → Bool
is_nothing [] = true
is_nothing (a ∷ []) = a == DOT
is_nothing (a ∷ b ∷ bs) = false

abbrev pub is_dots : List ℕ → Bool
is_dots [] = false
is_dots (a ∷ []) = false
is_dots (a ∷ b ∷ []) = (a == DOT) && (b == DOT)
is_dots (a ∷ b ∷ c ∷ cs) = false

-- the names without the last one; none if there is no name
abbrev pub above : List (List ℕ) → Option (List (List ℕ))
above [] = None
above (n ∷ ns) = Some (take (length ns) (n ∷ ns))

-- the names after one part more: `..` leads to the folder above, or out of the first one
abbrev pub after_part : List (List ℕ) → List ℕ → Option (List (List ℕ))
after_part names p = if is_nothing p then Some names else (if is_dots p then above names else Some (names ++ p ∷ []))

-- the names of the parts of a text, between slashes, after these names, or none if `..` leads out of the first folder
pub data Leads : List (List ℕ) → List ℕ → Option (List (List ℕ)) → Type 0 where
  last_part : {names : List (List ℕ)} {t : List ℕ} {o : Option (List (List ℕ))}
      → position is_slash t ≡ None → o ≡ after_part names t → Leads names t o
  more_parts : {names next : List (List ℕ)} {t : List ℕ} {k : ℕ} {o : Option (List (List ℕ))}
      → position is_slash t ≡ Some k → after_part names (take k t) ≡ Some next → Leads next (drop (k + 1) t) o
      → Leads names t o
  out : {names : List (List ℕ)} {t : List ℕ} {k : ℕ} {o : Option (List (List ℕ))}
      → position is_slash t ≡ Some k → after_part names (take k t) ≡ None → o ≡ None → Leads names t o

-- the texts of names that are lent
abbrev pub texts : List Lent → List (List ℕ)
texts names = map (λ n. n.now) names

-- the names of a path, or none of a path that begins with a slash or leads out of its folder
pub data NamesOf (path : List ℕ) (o : Option (List (List ℕ))) : Type 0 where
  absolute : begins SLASH path ≡ true → o ≡ None → NamesOf path o
  relative : begins SLASH path ≡ false → Leads [] path o → NamesOf path o
