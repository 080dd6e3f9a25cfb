-- The state of a file system in memory. It is a log of the names that were assigned and removed, and a log of the
-- contents that inodes were given. After a stop, a prefix of each log is found, at least as long as the stored part of
-- the log.
use Rattle.std.specs.Prelude.{◌≡◌, ◌⊎◌, ℕ, ◌+◌, ◌<◌, ◌≤◌, ◌==◌, Bool, true, false, if◌then◌else◌, List, [], ◌∷◌, ◌++◌, length, take, Option, Some, None, string_bytes, slice_get}
use Rattle.std.specs.Borrow.{Bor}
use Rattle.std.specs.Str.{bytes_eq}
use Rattle.yf_files.specs.Tree.{Name, Node, regular, other, FilesState, IsAt}
use Rattle.yf_files.specs.declared.logs.Change.{Change}
use Rattle.yf_files.specs.declared.logs.FileContent.{FileContent}
use Rattle.yf_files.specs.declared.logs.Held.{Held}
use Rattle.yf_files.specs.declared.logs.Held.TheVariants as held
use Rattle.yf_files.specs.declared.logs.Logs.{Logs}
use Rattle.yf_files.specs.declared.logs.Moment.{Moment}

-- the inode at a name after a change, given the inode that was there before
abbrev pub changed : Change → Name → Option ℕ → Option ℕ
changed c q before = if bytes_eq (string_bytes c.name) q then c.inode else (if bytes_eq (string_bytes c.freed) q then None else before)

abbrev pub entry_from : Option ℕ → Name → List Change → Option ℕ
entry_from before q [] = before
entry_from before q (c ∷ changes) = entry_from (changed c q before) q changes

-- the inode at a name after all changes
abbrev pub entry_of : List Change → Name → Option ℕ
entry_of changes q = entry_from None q changes

-- A link to a name.
abbrev pub link_to : Name → Node
link_to target = other (1 ∷ target)

-- A folder.
abbrev pub folder : Node
folder = other []

-- The node of an inode that was given this content.
abbrev pub node_in : Held → Node
node_in (held.Text bytes) = regular bytes.items
node_in (held.Link target) = link_to (string_bytes target)
node_in held.Folder = folder

abbrev pub node_from : Node → ℕ → List FileContent → Node
node_from before i [] = before
node_from before i (c ∷ contents) = node_from (if c.inode == i then node_in c.held else before) i contents

-- The node of an inode after all contents that inodes were given. At first an inode is an empty regular file.
abbrev pub node_of : List FileContent → ℕ → Node
node_of contents i = node_from (regular []) i contents

-- The node of an inode, by the last content that it was given.
abbrev pub node_seen : Option (Bor Held) → Node
node_seen None = regular []
node_seen (Some held) = node_in held.now

-- Whether this is a regular file.
abbrev pub is_regular : Option Node → Bool
is_regular (Some (regular bytes)) = true
is_regular _ = false

-- Whether this is a folder.
abbrev pub is_folder : Option Node → Bool
is_folder (Some (other [])) = true
is_folder _ = false

-- The name to which a link leads.
abbrev pub target_of : Option Node → Option Name
target_of (Some (other (kind ∷ target))) = Some target
target_of _ = None

-- a prefix of a log, at least as long as the stored part
abbrev pub IsFront : ℕ → ℕ → ℕ → Type 0
IsFront stored all k = (stored ≤ k) × (k ≤ all)

abbrev pub IsFileAt : List Change → Moment → Name → Option ℕ → Type 0
IsFileAt changes m q o = (k : ℕ) × IsFront m.stored_changes m.changes k × (o ≡ entry_of (take k changes) q)

abbrev pub HoldsContent : List FileContent → Moment → ℕ → Node → Type 0
HoldsContent contents m i n = (k : ℕ) × IsFront m.stored_contents m.contents k × (n ≡ node_of (take k contents) i)

abbrev pub FoundAt : List Change → List FileContent → Moment → Name → Option Node → Type 0
FoundAt changes contents m q x = (o : Option ℕ) × IsFileAt changes m q o × IsAt (HoldsContent contents m) o x

-- now, or at an earlier moment
abbrev pub FoundSince : List Change → List FileContent → List Moment → Moment → ℕ → Name → Option Node → Type 0
FoundSince changes contents moments now t q x = FoundAt changes contents now q x
    ⊎ ((j : ℕ) × (m : Moment) × (t ≤ j) × (slice_get moments j ≡ Some m) × FoundAt changes contents m q x)

abbrev pub now_of : Logs → Moment
now_of l = record {
  changes = length l.changes.items;
  contents = length l.contents.items;
  stored_changes = l.stored_changes;
  stored_contents = l.stored_contents;
}

abbrev pub state_of : Logs → FilesState
state_of l = record {
  entry = entry_of l.changes.items;
  node = node_of l.contents.items;
  is_there = IsFileAt l.changes.items (now_of l);
  holds = HoldsContent l.contents.items (now_of l);
  used = λ i. i < l.next;
  failures = l.failures;
  uncounted = l.uncounted;
  made = l.made;
  moment = length l.moments.items;
  since = FoundSince l.changes.items l.contents.items l.moments.items (now_of l);
}

-- No log is shorter than its stored part or than it was at an earlier moment. An inode that was ever at a name is not
-- used again.
pub record IsWell (l : Logs) : Type 0 where
  pub changes : l.stored_changes ≤ length l.changes.items
  pub contents : l.stored_contents ≤ length l.contents.items
  pub past_changes : (j : ℕ) (m : Moment) → slice_get l.moments.items j ≡ Some m → m.changes ≤ length l.changes.items
  pub past_contents : (j : ℕ) (m : Moment) → slice_get l.moments.items j ≡ Some m → m.contents ≤ length l.contents.items
  pub used : (k : ℕ) (q : Name) (i : ℕ) → entry_of (take k l.changes.items) q ≡ Some i → i < l.next

-- a moment has passed, and nothing happened in it
pub record MomentPasses (old new : Logs) : Type 0 where
  pub changes : new.changes.items ≡ old.changes.items
  pub contents : new.contents.items ≡ old.contents.items
  pub moments : new.moments.items ≡ old.moments.items ++ now_of old ∷ []
  pub stored_changes : new.stored_changes ≡ old.stored_changes
  pub stored_contents : new.stored_contents ≡ old.stored_contents
  pub next : new.next ≡ old.next
  pub made : new.made ≡ old.made
  pub failures : new.failures ≡ old.failures
  pub uncounted : new.uncounted ≡ old.uncounted

-- nothing has happened, except that a call failed
pub record CallFails (old new : Logs) : Type 0 where
  pub changes : new.changes.items ≡ old.changes.items
  pub contents : new.contents.items ≡ old.contents.items
  pub moments : new.moments.items ≡ old.moments.items
  pub stored_changes : new.stored_changes ≡ old.stored_changes
  pub stored_contents : new.stored_contents ≡ old.stored_contents
  pub next : new.next ≡ old.next
  pub made : new.made ≡ old.made
  pub failures : old.failures ≤ new.failures
  pub uncounted : old.failures + old.uncounted ≤ new.failures + new.uncounted
  pub one_more : old.failures < new.failures + new.uncounted

-- one more change
pub record LogChanged (old new : Logs) (name freed : Name) (inode : Option ℕ) : Type 0 where
  pub change : Change
  pub named : string_bytes change.name ≡ name
  pub frees : string_bytes change.freed ≡ freed
  pub inode_is : change.inode ≡ inode
  pub changes : new.changes.items ≡ old.changes.items ++ change ∷ []
  pub contents : new.contents.items ≡ old.contents.items
  pub moments : new.moments.items ≡ old.moments.items
  pub stored_changes : new.stored_changes ≡ old.stored_changes
  pub stored_contents : new.stored_contents ≡ old.stored_contents
  pub next : new.next ≡ old.next
  pub made : new.made ≡ old.made
  pub failures : new.failures ≡ old.failures
  pub uncounted : new.uncounted ≡ old.uncounted

-- a free name gets an unused inode
pub record InodeMade (old new : Logs) (name : Name) : Type 0 where
  pub was : entry_of old.changes.items name ≡ None
  pub change : Change
  pub named : string_bytes change.name ≡ name
  pub frees : string_bytes change.freed ≡ name
  pub inode_is : change.inode ≡ Some old.next
  pub changes : new.changes.items ≡ old.changes.items ++ change ∷ []
  pub contents : new.contents.items ≡ old.contents.items
  pub moments : new.moments.items ≡ old.moments.items
  pub stored_changes : new.stored_changes ≡ old.stored_changes
  pub stored_contents : new.stored_contents ≡ old.stored_contents
  pub next : new.next ≡ old.next + 1
  pub made : new.made ≡ old.next
  pub failures : new.failures ≡ old.failures
  pub uncounted : new.uncounted ≡ old.uncounted

-- one more content
pub record ContentAdded (old new : Logs) (i : ℕ) (node : Node) : Type 0 where
  pub content : FileContent
  pub inode_is : content.inode ≡ i
  pub has : node_in content.held ≡ node
  pub changes : new.changes.items ≡ old.changes.items
  pub contents : new.contents.items ≡ old.contents.items ++ content ∷ []
  pub moments : new.moments.items ≡ old.moments.items
  pub stored_changes : new.stored_changes ≡ old.stored_changes
  pub stored_contents : new.stored_contents ≡ old.stored_contents
  pub next : new.next ≡ old.next
  pub made : new.made ≡ old.made
  pub failures : new.failures ≡ old.failures
  pub uncounted : new.uncounted ≡ old.uncounted
