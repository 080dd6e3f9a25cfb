-- What may be found at any moment of a file while its text is replaced.
use Rattle.std.specs.Prelude.{◌≡◌, ◌≢◌, ◌⊎◌, ℕ, ◌≤◌, List, Option, Some, None}
use Rattle.yf_files.specs.Tree.{Name, Node, regular, FilesState, MayBeFound, at}
use Rattle.yf_files.specs.declared.replacing.ReplaceError.{ReplaceError}
use Rattle.yf_files.specs.declared.replacing.ReplaceError.TheVariants.{Untouched, Left, Unsure}

-- At any moment since old, and at each name except the new one, only two things could be found: a node that might have
-- been found there at old, or a node that P allows.
pub record AtAnyMoment (old new : FilesState) (new_name : Name) (P : Name → Option Node → Type 0) : Type 0 where
  pub later : old.moment ≤ new.moment
  pub each : (q : Name) (x : Option Node) → q ≢ new_name → new.since old.moment q x → MayBeFound old q x ⊎ P q x
  -- this also holds for all moments since an earlier one, for a caller that began then
  pub earlier : (t : ℕ) (q : Name) (x : Option Node) → t ≤ old.moment → q ≢ new_name → new.since t q x → old.since t q x ⊎ P q x

-- the name is the file's, and the whole text is found there
abbrev pub IsText : Name → List ℕ → Name → Option Node → Type 0
IsText file text q x = (q ≡ file) × (x ≡ Some (regular text))

-- The file has the text, and after a crash too. Nothing is at the new name, and after a crash nothing is found there.
-- Each other name has what it had.
pub record FileReplaced (old new : FilesState) (file new_name : Name) (text : List ℕ) : Type 0 where
  pub holds : at new file ≡ Some (regular text)
  pub durable : (x : Option Node) → MayBeFound new file x → x ≡ Some (regular text)
  pub gone : (x : Option Node) → MayBeFound new new_name x → x ≡ None
  pub others : (q : Name) → q ≢ file → q ≢ new_name → at new q ≡ at old q

-- Each name except the new one has what it had.
abbrev pub Same : FilesState → FilesState → Name → Type 0
Same old new new_name = (q : Name) → q ≢ new_name → at new q ≡ at old q

-- what an error leaves
abbrev pub ErrorLeaves : FilesState → FilesState → Name → Name → List ℕ → ReplaceError → Type 0
-- everything is as it was, except that nothing may be at the new name even if something was there
ErrorLeaves old new file new_name text Untouched = Same old new new_name × ((at new new_name ≡ None) ⊎ (at new new_name ≡ at old new_name))
-- everything is as it was, except that our file is at the new name
ErrorLeaves old new file new_name text Left = Same old new new_name
-- the file has the text, but a crash may bring back the old text
ErrorLeaves old new file new_name text Unsure = (at new file ≡ Some (regular text)) × (at new new_name ≡ None)
    × ((q : Name) → q ≢ file → q ≢ new_name → at new q ≡ at old q)
