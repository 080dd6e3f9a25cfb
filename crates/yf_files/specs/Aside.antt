-- The changes of a run while it works only on its new file.
use Rattle.std.specs.Prelude.{◌≡◌, ◌≢◌, ◌⊎◌, ℕ, ◌≤◌, ◌+◌, List, Option, Some, None}
use Rattle.yf_files.specs.Tree.{Name, Node, regular, FilesState}
use Rattle.yf_files.specs.declared.replacing.ReplaceError.{ReplaceError}
use Rattle.yf_files.specs.declared.replacing.ReplaceError.TheVariants.{Untouched, Left, Unsure}

-- Since old, only the name and the files that were made later have changed. Nothing else could ever be found.
pub record Aside (old new : FilesState) (name : Name) : Type 0 where
  pub later : old.moment ≤ new.moment
  pub failures : old.failures ≤ new.failures
  pub uncounted : old.failures + old.uncounted ≤ new.failures + new.uncounted
  pub used : (i : ℕ) → old.used i → new.used i
  pub entry : (q : Name) → q ≢ name → new.entry q ≡ old.entry q
  pub node : (i : ℕ) → old.used i → new.node i ≡ old.node i
  pub is_there : (q : Name) (o : Option ℕ) → q ≢ name → new.is_there q o → old.is_there q o
  pub holds : (i : ℕ) (n : Node) → old.used i → new.holds i n → old.holds i n
  pub since : (t : ℕ) (q : Name) (x : Option Node) → t ≤ old.moment → q ≢ name → new.since t q x → old.since t q x

-- The file at the name is the one that was made last. No name had it at old. It has the text, also after a crash.
pub record IsReady (old new : FilesState) (name : Name) (text : List ℕ) : Type 0 where
  pub fresh : old.used new.made → ⊥
  pub entry : new.entry name ≡ Some new.made
  pub node : new.node new.made ≡ regular text
  pub only : (n : Node) → new.holds new.made n → n ≡ regular text

-- Nothing is at the name, or the file that was there at old.
abbrev pub IsBack : FilesState → FilesState → Name → Type 0
IsBack old new name = (new.entry name ≡ None) ⊎ (new.entry name ≡ old.entry name)

-- how a new file was removed: nothing of it is left, or it could not be removed
abbrev pub NewFileWithdrawn : FilesState → Name → ReplaceError → Type 0
NewFileWithdrawn new name Untouched = new.entry name ≡ None
NewFileWithdrawn new name Left = Unit {0}
NewFileWithdrawn new name Unsure = ⊥

-- as above, or no new file was made
abbrev pub Withdraws : FilesState → FilesState → Name → ReplaceError → Type 0
Withdraws old new name Untouched = IsBack old new name
Withdraws old new name Left = Unit {0}
Withdraws old new name Unsure = ⊥
