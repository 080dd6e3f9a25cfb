-- The files that a settings file excludes, by the names of both. A name is relative to the current folder, or begins
-- with a slash.
use Rattle.std.specs.Prelude.{◌≡◌, ℕ, List, [], ◌∷◌, ◌++◌, Some, if◌then◌else◌}
use Rattle.yf_excludes.specs.declared.pattern.Pattern.{Pattern}
use Rattle.yf_excludes.specs.Signs.{SLASH}
use Rattle.yf_excludes.specs.Segments.{begins}
use Rattle.yf_excludes.specs.Paths.{Lent}
use Rattle.yf_excludes.specs.Names.{Leads, texts}
use Rattle.yf_excludes.specs.Excluded.{IsExcluded}

-- the path from the root
abbrev pub from_root : List ℕ → List ℕ → List ℕ
from_root current path = if begins SLASH path then path else current ++ SLASH ∷ path

-- the path is that of a file in a folder with these names
pub record LeadsToFile (path : List ℕ) (folder : List (List ℕ)) : Type 0 where
  pub own : List ℕ
  pub leads : Leads [] path (Some (folder ++ own ∷ []))

-- the path is not that of a file in a folder
abbrev pub IsNoFolder : List ℕ → Type 0
IsNoFolder path = (folder : List (List ℕ)) → ¬ (LeadsToFile path folder)

-- the file is in the folder of the settings file, or below it, and its path from there is excluded
pub record ExcludesFile (patterns : List Pattern) (current settings file : List ℕ) : Type 0 where
  pub folder : List (List ℕ)
  pub settings_in : LeadsToFile (from_root current settings) folder
  pub path : List Lent
  pub file_below : Leads [] (from_root current file) (Some (folder ++ texts path))
  pub excluded : IsExcluded patterns path
