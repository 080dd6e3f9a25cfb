-- Links among files in memory, and where they lead.
use Rattle.std.specs.Prelude.{◌≡◌, ◌≢◌, ℕ, zero, suc, Option, Some, None}
use Rattle.std.specs.Option.{option_map_or}
use Rattle.yf_files.specs.Memory.{state_of, target_of}
use Rattle.yf_files.specs.Tree.{FilesState, Name, Node, at}
use Rattle.yf_files.specs.declared.memory.MemoryFiles.{MemoryFiles}
use Rattle.yf_files.specs.declared.memory.TheConstants.{LINKS}

-- The name to which a name leads over at most so many links: itself if no link is there. None if there are more links.
abbrev pub led : FilesState → ℕ → Name → Option Name
led s zero name = option_map_or (λ target. None) (target_of (at s name)) (Some name)
led s (suc most) name = option_map_or (λ target. led s most target) (target_of (at s name)) (Some name)

-- the state of files in memory
abbrev pub memory_state : MemoryFiles → FilesState
memory_state files = state_of files.logs

-- The name leads to the file, over no more links than are followed.
abbrev pub LeadsTo : MemoryFiles → Name → Name → Type 0
LeadsTo files name file = led (memory_state files) LINKS name ≡ Some file

-- Nothing was at the name, and now this is; each other name has what it had.
pub record NodeMade (old new : FilesState) (name : Name) (node : Node) : Type 0 where
  pub was : at old name ≡ None
  pub is : at new name ≡ Some node
  pub others : (q : Name) → q ≢ name → at new q ≡ at old q
