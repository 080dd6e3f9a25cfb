-- What may be found at any moment of a file while a formatter rewrites it.
use Rattle.std.specs.Prelude.{◌≡◌, ◌≢◌, ◌⊎◌, ℕ, ◌≤◌, List, ◌++◌, Option, Some, codes}
use Rattle.yf_files.specs.Tree.{Name, Node, regular, FilesState, MayBeFound, at}
use Rattle.yf_files.specs.Calls.{Stays, HasFailed}
use Rattle.yf_files.specs.Replaced.{ErrorLeaves, FileReplaced}
use Rattle.yf_files.specs.declared.rewriting.RewriteError.{RewriteError}
use Rattle.yf_files.specs.declared.rewriting.RewriteError.TheVariants.{Memory, Unreadable, Refused, Unwritten}

-- the name of the new file, which is in the file's folder
abbrev pub new_name_of : Name → Name
new_name_of file = file ++ codes ".yamlfmt-new"

-- the name is the file's, and a whole formatting of the text that the file held at old is found there
abbrev pub IsFormatting : (List ℕ → List ℕ → Type 0) → FilesState → Name → Name → Option Node → Type 0
IsFormatting Formats old file q x = (q ≡ file)
    × ((t u : List ℕ) × (at old file ≡ Some (regular t)) × Formats t u × (x ≡ Some (regular u)))

-- Nothing was touched: everything is as it was, and nothing else could ever be found at any name.
pub record IsUntouched (old new : FilesState) : Type 0 where
  pub stays : Stays old new
  pub since : (t : ℕ) (q : Name) (x : Option Node) → t ≤ old.moment → new.since t q x → old.since t q x

-- The file held the text already, and nothing was touched. The file still holds it. A crash leaves in the file only
-- what an earlier crash might have left: only the text, if the text was stored.
pub record HeldAlready (old new : FilesState) (file : Name) (text : List ℕ) : Type 0 where
  pub untouched : IsUntouched old new
  pub holds : at new file ≡ Some (regular text)
  pub after_crash : (x : Option Node) → MayBeFound new file x → MayBeFound old file x

-- The text that the file held is its own formatting, and the file still holds it. Or the file has its formatting, which
-- is another text.
abbrev pub Rewrote : (List ℕ → List ℕ → Type 0) → FilesState → FilesState → Name → Type 0
Rewrote Formats old new file = (t : List ℕ) × (at old file ≡ Some (regular t))
    × ((Formats t t × HeldAlready old new file t)
    ⊎ ((u : List ℕ) × Formats t u × (t ≢ u) × FileReplaced old new file (new_name_of file) u))

-- what an error leaves, and the reason for it
abbrev pub LeavesRefused : {E : Type 0} → (List ℕ → List ℕ → Type 0) → (List ℕ → E → Type 0) → FilesState → FilesState → Name → RewriteError E → Type 0
LeavesRefused Formats Refuses old new file Memory = IsUntouched old new
LeavesRefused Formats Refuses old new file Unreadable = IsUntouched old new × HasFailed old new
LeavesRefused Formats Refuses old new file (Refused e) = IsUntouched old new × ((t : List ℕ) × (at old file ≡ Some (regular t)) × Refuses t e)
LeavesRefused Formats Refuses old new file (Unwritten e) = HasFailed old new
    × ((t u : List ℕ) × (at old file ≡ Some (regular t)) × Formats t u × ErrorLeaves old new file (new_name_of file) u e)

-- why a formatter refuses; this holds even if nothing is known of the file system
abbrev pub WhyRefused : {E : Type 0} → (List ℕ → E → Type 0) → RewriteError E → Type 0
WhyRefused Refuses (Refused e) = (t : List ℕ) × Refuses t e
WhyRefused Refuses _ = Unit {0}
