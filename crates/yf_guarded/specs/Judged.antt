-- The verdict on a text: what makes it no data, and the finding that says so.
use Rattle.std.specs.Prelude.{◌≡◌, ◌≤◌, ◌++◌, ◌∷◌, ℕ, List, [], length, Bool, true, false, Option, Some, None, codes}
use Rattle.std.specs.Str.{IsCharBoundary, IsUtf8}
use Rattle.yf_events.specs.Tree.{DocumentTree, TreesOf}
use Rattle.yf_events.specs.declared.lists.Lists.{Lists}
use Rattle.yf_guard.specs.Guards.{IsVault, first_guarded}
use Rattle.yf_guard.specs.declared.guarded.Guarded.{Guarded}
use Rattle.yf_guard.specs.declared.guarded.Guarded.TheVariants.{Vault, NoData, Template}
use Rattle.yf_guarded.specs.declared.read.Verdict.{Verdict}
use Rattle.yf_guarded.specs.declared.read.Verdict.TheVariants as verdict
use Rattle.yf_lines.specs.FaultPlaces.{IsPlaceOf}
use Rattle.yf_lines.specs.declared.fault.Fault.{Fault}
use Rattle.yf_lines.specs.declared.fault.Fault.TheVariants as fault
use Rattle.yf_rules.specs.Check.{SortedFrom}
use Rattle.yf_rules.specs.Runs.Run.{Gave}
use Rattle.yf_rules.specs.declared.finding.Finding.{Finding}
use Rattle.yf_rules.specs.declared.run.TheConstants.{INPUT_LIMIT}
use Rattle.yf_stream.specs.StreamReader.{TheReading}

-- The text has one reading, with these trees, and `found` is the fault in them with the least offset, if there is one.
pub record ReadGuard (t : List ℕ) (found : Option Guarded) : Type 0 where
  pub reading : Lists
  pub reads : TheReading t reading
  pub trees : List DocumentTree
  pub of_reading : TreesOf reading trees
  pub first : found ≡ first_guarded t trees

-- Why the text is no data, if it is none. If the text is not read, only an encrypted text is found.
pub data Guards (reads : Bool) (t : List ℕ) (found : Option Guarded) : Type 0 where
  encrypted : IsVault t → found ≡ Some Vault → Guards reads t found
  not_read : ¬ (IsVault t) → reads ≡ false → found ≡ None → Guards reads t found
  by_reading : ¬ (IsVault t) → reads ≡ true → ReadGuard t found → Guards reads t found

-- A finding with this name at an offset. It is not fixable, and is sorted before the findings of rules at its position.
-- (An offset within a character has no position. No reading has such an offset.)
pub record IsFinding (t name : List ℕ) (offset : ℕ) (f : Finding) : Type 0 where
  pub place : IsCharBoundary t offset → IsPlaceOf t offset f.place
  pub number : f.number ≡ 0
  pub id : f.id.now ≡ name
  pub fixable : f.fixable ≡ false

-- The finding of a fault. An encrypted text has none.
abbrev pub FindingOf : List ℕ → Option Guarded → Option Finding → Type 0
FindingOf t None None = Unit {0}
FindingOf t None (Some f) = ⊥
FindingOf t (Some Vault) None = Unit {0}
FindingOf t (Some Vault) (Some f) = ⊥
FindingOf t (Some (NoData offset)) None = ⊥
FindingOf t (Some (NoData offset)) (Some f) = IsFinding t (codes "no-data") offset f
FindingOf t (Some (Template offset)) None = ⊥
FindingOf t (Some (Template offset)) (Some f) = IsFinding t (codes "template") offset f

-- The findings with one more among them, sorted by line, column and number.
abbrev pub SortedWith : List Finding → Option Finding → List Finding → Type 0
SortedWith findings None all = all ≡ findings
SortedWith findings (Some f) all = SortedFrom (findings ++ f ∷ []) all

-- The findings with the finding of the fault among them.
abbrev pub WithFault : List ℕ → List Finding → Option Guarded → List Finding → Type 0
WithFault t findings fault all = (finding : Option Finding) × FindingOf t fault finding × SortedWith findings finding all

-- The verdict on a text with a fault.
abbrev pub IsShownAs : List ℕ → Guarded → Verdict → Type 0
IsShownAs t g verdict.Passed = ⊥
IsShownAs t g verdict.Encrypted = FindingOf t (Some g) None
IsShownAs t g (verdict.NoData f) = FindingOf t (Some g) (Some f)

-- The verdict on a text.
abbrev pub IsJudged : Bool → List ℕ → Verdict → Type 0
IsJudged reads t verdict.Passed = Guards reads t None
IsJudged reads t verdict.Encrypted = IsVault t
IsJudged reads t (verdict.NoData f) = (g : Guarded) × Guards reads t (Some g) × FindingOf t (Some g) (Some f)

-- A fault of the bytes, and not of the stream in them: they are not UTF-8, a read failed, or memory was refused.
abbrev pub IsByteFault : Fault → Type 0
IsByteFault (fault.NotUtf8 offset) = Unit {0}
IsByteFault fault.ReadFailed = Unit {0}
IsByteFault fault.Memory = Unit {0}
IsByteFault why = ⊥

-- The reader gave a text of which P holds.
pub record Gives (P : List ℕ → Type 0) (known : Option (List ℕ)) (t : List ℕ) : Type 0 where
  pub gave : Gave known t
  pub within : length t ≤ INPUT_LIMIT
  pub utf8 : IsUtf8 t
  pub holds : P t

-- The reader gave this text.
abbrev pub GivesText : Option (List ℕ) → List ℕ → Type 0
GivesText known t = Gives (λ u. Unit {0}) known t

-- The reader gave a text, and this is the verdict on it.
abbrev pub GivesJudged : Bool → Option (List ℕ) → List ℕ → Verdict → Type 0
GivesJudged reads known t v = Gives (λ u. IsJudged reads u v) known t
