-- What the calls of a file system do. Each call is a relation of the states before and after it.
use Rattle.std.specs.Prelude.{◌≡◌, ◌≢◌, ◌⊎◌, ℕ, ◌+◌, ◌<◌, Option, Some, None}
use Rattle.yf_files.specs.Tree.{Name, Node, FilesState, folder_of}

-- a call has failed between the two states
abbrev pub HasFailed : FilesState → FilesState → Type 0
HasFailed old new = old.failures < new.failures + new.uncounted

-- nothing changes, and nothing else may be found
pub record Stays (old new : FilesState) : Type 0 where
  pub entry : (q : Name) → new.entry q ≡ old.entry q
  pub node : (i : ℕ) → new.node i ≡ old.node i
  pub is_there : (q : Name) (o : Option ℕ) → new.is_there q o → old.is_there q o
  pub holds : (i : ℕ) (n : Node) → new.holds i n → old.holds i n
  pub made : new.made ≡ old.made

-- nothing is at the name afterwards, and no file has changed (`unlink`)
pub record FileRemoved (old new : FilesState) (name : Name) : Type 0 where
  pub gone : new.entry name ≡ None
  pub entry : (q : Name) → q ≢ name → new.entry q ≡ old.entry q
  pub node : (i : ℕ) → new.node i ≡ old.node i
  pub is_there : (q : Name) (o : Option ℕ) → q ≢ name → new.is_there q o → old.is_there q o
  pub holds : (i : ℕ) (n : Node) → new.holds i n → old.holds i n
  pub made : new.made ≡ old.made

-- the name was free, and now a new file is there, which no name had before (`open` with `O_CREAT` and `O_EXCL`)
pub record FileMade (old new : FilesState) (name : Name) : Type 0 where
  pub was : old.entry name ≡ None
  pub is : new.entry name ≡ Some new.made
  pub fresh : old.used new.made → ⊥
  pub entry : (q : Name) → q ≢ name → new.entry q ≡ old.entry q
  pub node : (i : ℕ) → i ≢ new.made → new.node i ≡ old.node i
  pub is_there : (q : Name) (o : Option ℕ) → q ≢ name → new.is_there q o → old.is_there q o
  pub holds : (i : ℕ) (n : Node) → i ≢ new.made → new.holds i n → old.holds i n

-- the file that was made last may hold anything; no other file and no name has changed (`write`)
pub record WriteChanges (old new : FilesState) : Type 0 where
  pub entry : (q : Name) → new.entry q ≡ old.entry q
  pub node : (i : ℕ) → i ≢ old.made → new.node i ≡ old.node i
  pub is_there : (q : Name) (o : Option ℕ) → new.is_there q o → old.is_there q o
  pub holds : (i : ℕ) (n : Node) → i ≢ old.made → new.holds i n → old.holds i n
  pub made : new.made ≡ old.made

-- only the current contents of the file that was made last may be found in it (`fsync` of the file)
pub record FileStored (old new : FilesState) : Type 0 where
  pub stays : Stays old new
  pub only : (n : Node) → new.holds new.made n → n ≡ new.node new.made

-- `to` has the inode that `from` had, unless both had one inode before; at any moment both names have changed, or
-- neither has (`rename`)
pub record FileRenamed (old new : FilesState) (from to : Name) : Type 0 where
  pub gone : new.entry from ≡ None
  pub is : new.entry to ≡ old.entry from
  pub entry : (q : Name) → q ≢ from → q ≢ to → new.entry q ≡ old.entry q
  pub node : (i : ℕ) → new.node i ≡ old.node i
  pub is_there : (q : Name) (o : Option ℕ) → q ≢ from → new.is_there q o → old.is_there q o ⊎ ((q ≡ to) × (o ≡ old.entry from))
  pub holds : (i : ℕ) (n : Node) → new.holds i n → old.holds i n
  pub made : new.made ≡ old.made

abbrev pub RenameCall : FilesState → FilesState → Name → Name → Type 0
RenameCall old new from to = old.entry from ≢ old.entry to → FileRenamed old new from to

-- only the current names of the folder may be found in it (`fsync` of the folder)
pub record FolderStored (old new : FilesState) (name : Name) : Type 0 where
  pub stays : Stays old new
  pub only : (q : Name) (o : Option ℕ) → folder_of q ≡ folder_of name → new.is_there q o → o ≡ new.entry q
