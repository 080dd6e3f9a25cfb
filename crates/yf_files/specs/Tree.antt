-- A file system as one run sees it: the node at each name, the bytes of each file, and what may be found after the run
-- or the machine stops.
use Rattle.std.specs.Prelude.{◌≡◌, ◌⊎◌, ℕ, ◌≤◌, ◌+◌, ◌==◌, Bool, true, false, if◌then◌else◌, List, [], ◌∷◌, Option, Some, None, option_map}

-- the bytes of a name: an entry of a folder, however a path spells it
abbrev pub Name : Type 0
Name = List ℕ

-- the contents of an inode: a regular file with its bytes, or anything else (a link, a FIFO, a device or a folder),
-- with what it is or leads to
pub data Node : Type 0 where
  regular : List ℕ → Node
  other : List ℕ → Node

-- A file system at a moment. A stop is a crash of the machine, the end of the run by a signal, or another process that
-- looks.
pub record FilesState : Type 1 where
  -- the inode at a name; several names may share one inode
  pub entry : Name → Option ℕ
  pub node : ℕ → Node
  -- the inodes that may be at a name, and the contents that an inode may have, once everything has stopped at this
  -- moment
  pub is_there : Name → Option ℕ → Type 0
  pub holds : ℕ → Node → Type 0
  -- the inodes that were at some name so far: no number is used twice
  pub used : ℕ → Type 0
  -- the number of failed calls that are counted, and how many more may have failed: 0 as long as all are counted
  pub failures : ℕ
  pub uncounted : ℕ
  -- the inode of the file that was made last
  pub made : ℕ
  -- a number that never falls, and what may have been found at a name if everything stopped at some moment from that
  -- number on
  pub moment : ℕ
  pub since : ℕ → Name → Option Node → Type 0

-- the folder of a name: the bytes up to its last slash
abbrev pub has_slash : Name → Bool
has_slash [] = false
has_slash (b ∷ bs) = if b == 47 then true else has_slash bs

abbrev pub folder_of : Name → Name
folder_of [] = []
folder_of (b ∷ bs) = if has_slash (b ∷ bs) then b ∷ folder_of bs else []

-- the node at a name
abbrev pub at : FilesState → Name → Option Node
at s name = option_map s.node (s.entry name)

abbrev pub IsAt : (ℕ → Node → Type 0) → Option ℕ → Option Node → Type 0
IsAt holds None x = x ≡ None
IsAt holds (Some i) None = ⊥
IsAt holds (Some i) (Some n) = holds i n

-- the nodes that may be found at a name, once everything has stopped at this moment
abbrev pub MayBeFound : FilesState → Name → Option Node → Type 0
MayBeFound s name x = (o : Option ℕ) × s.is_there name o × IsAt s.holds o x

-- Time passes. What may have been found since a moment might have been found before, or may be found now.
pub record TimePasses (old new : FilesState) : Type 0 where
  pub later : old.moment ≤ new.moment
  pub failures : old.failures ≤ new.failures
  pub uncounted : old.failures + old.uncounted ≤ new.failures + new.uncounted
  pub used : (i : ℕ) → old.used i → new.used i
  pub nothing_else : (t : ℕ) (name : Name) (x : Option Node) → t ≤ old.moment → new.since t name x → old.since t name x ⊎ MayBeFound new name x
  pub keeps : (t : ℕ) (name : Name) (x : Option Node) → t ≤ old.moment → old.since t name x → new.since t name x

-- The properties of each state. Its names and files may be found as they are, and nothing else since this moment. What
-- may be found now is also among what may have been found since an earlier moment.
pub record IsSound (s : FilesState) : Type 0 where
  pub is_at_now : (name : Name) → s.is_there name (s.entry name)
  pub holds_now : (i : ℕ) → s.holds i (s.node i)
  pub stood : (name : Name) (i : ℕ) → s.is_there name (Some i) → s.used i
  pub only_now : (name : Name) (x : Option Node) → s.since s.moment name x → MayBeFound s name x
  pub counts_now : (t : ℕ) (name : Name) (x : Option Node) → t ≤ s.moment → MayBeFound s name x → s.since t name x

-- the state of an unknown system
abbrev pub unknown : FilesState
unknown = record {
  entry = λ _. None;
  node = λ _. other [];
  is_there = λ _ _. ⊥;
  holds = λ _ _. ⊥;
  used = λ _. ⊥;
  failures = 0;
  uncounted = 0;
  made = 0;
  moment = 0;
  since = λ _ _ _. ⊥;
}
