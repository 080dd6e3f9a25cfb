-- The nearest settings file at or above the current folder, or the folder of a file.
-- (Shows: the possible results of a look at a name; above: the number of folders above the current one)
use Rattle.std.specs.Prelude.{◌≡◌, ◌⊎◌, ℕ, zero, suc, ◌<◌, ◌≤◌, ◌==◌, List, [], ◌++◌, codes}
use Rattle.std.specs.Str.{NoCharPasses}
use Rattle.yf_discovery.specs.declared.folders.There.{There}
use Rattle.yf_discovery.specs.declared.folders.There.TheVariants as there
use Rattle.yf_discovery.specs.declared.nearest.Discovery.{Discovery}
use Rattle.yf_discovery.specs.declared.nearest.Discovery.TheVariants as discovery

-- the possible results of a look at a name
abbrev pub Looks : Type 1
Looks = List ℕ → There → Type 0

-- the name of a folder, with a slash at its end: folder 0 is the current one, and each next one is above it
abbrev pub folder : ℕ → List ℕ
folder zero = []
folder (suc k) = folder k ++ codes "../"

-- the settings file of a folder, and the mark of the top of a work tree
abbrev pub settings_in : List ℕ → List ℕ
settings_in at = at ++ codes ".yamlfmt.toml"

abbrev pub repository_in : List ℕ → List ℕ
repository_in at = at ++ codes ".git"

-- the folder has no settings file, and the search goes on above it
pub record Passes (Shows : Looks) (at : List ℕ) : Type 0 where
  pub settings : Shows (settings_in at) there.Nothing
  pub repository : Shows (repository_in at) there.Nothing

-- the search ends in the folder
pub data EndsIn (Shows : Looks) (at : List ℕ) (d : Discovery) : Type 0 where
  -- the folder has a settings file
  has_settings : Shows (settings_in at) there.File → d ≡ discovery.Settings (settings_in at) → EndsIn Shows at d
  -- a folder has the name of a settings file
  is_folder : Shows (settings_in at) there.Folder → d ≡ discovery.Fault (settings_in at) → EndsIn Shows at d
  -- there may be a settings file
  is_unknown : Shows (settings_in at) there.Unknown → d ≡ discovery.Fault (settings_in at) → EndsIn Shows at d
  -- the folder has no settings file, and it is the top of a work tree
  is_top : Shows (settings_in at) there.Nothing
      → Shows (repository_in at) there.Folder ⊎ Shows (repository_in at) there.File
      → d ≡ discovery.Nothing → EndsIn Shows at d
  -- the folder has no settings file, and may be the top of a work tree
  may_be_top : Shows (settings_in at) there.Nothing → Shows (repository_in at) there.Unknown
      → d ≡ discovery.Fault (repository_in at) → EndsIn Shows at d

-- the search passes each of the first k folders
abbrev pub PassesFirst : Looks → ℕ → Type 0
PassesFirst Shows k = (j : ℕ) → j < k → Passes Shows (folder j)

-- the search ends in the first folder that it doesn't pass; or it passes all folders, and there is no settings file
pub data IsNearest (Shows : Looks) (above : ℕ) (d : Discovery) : Type 0 where
  ends : (k : ℕ) → k ≤ above → PassesFirst Shows k → EndsIn Shows (folder k) d → IsNearest Shows above d
  passes_all : PassesFirst Shows (suc above) → d ≡ discovery.Nothing → IsNearest Shows above d

abbrev pub HasNoSlash : List ℕ → Type 0
HasNoSlash path = NoCharPasses (λ c. c == 47) path

-- the path of the folder of a file: the part of the file's path before its last slash
pub record IsFolderOf (path at : List ℕ) : Type 0 where
  pub own : List ℕ
  pub is : path ≡ at ++ (codes "/" ++ own)
  pub last : HasNoSlash own

-- the search begins in the folder of a file, goes up folder by folder, and ends in the first one that it doesn't pass;
-- or it passes all folders, and there is no settings file
pub data IsNearestTo (Shows : Looks) : List ℕ → Discovery → Type 0 where
  no_folder : {path : List ℕ} → HasNoSlash path → IsNearestTo Shows path discovery.Nothing
  ends_in : {path : List ℕ} {d : Discovery} (at : List ℕ) → IsFolderOf path at → EndsIn Shows (at ++ codes "/") d
      → IsNearestTo Shows path d
  goes_up : {path : List ℕ} {d : Discovery} (at : List ℕ) → IsFolderOf path at → Passes Shows (at ++ codes "/")
      → IsNearestTo Shows at d → IsNearestTo Shows path d
