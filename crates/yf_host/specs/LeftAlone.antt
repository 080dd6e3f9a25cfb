-- Files that the program skips, since their text is no data.
use Rattle.std.specs.Prelude.{ℕ, List, codes, ◌≡◌, Bool, true, false, Option, None}
use Rattle.std.specs.Str.{IsUtf8}
use Rattle.yf_guard.specs.declared.guarded.Guarded.TheVariants.{NoData, Template, Vault}
use Rattle.yf_guard.specs.declared.guarded.Guarded.{Guarded}
use Rattle.yf_guarded.specs.Judged.{Guards}

-- The line and the status of a file that the program skips.
abbrev pub left_line : Guarded → List ℕ
left_line Vault = codes "left alone: encrypted\n"
left_line (NoData offset) = codes "left alone: no data\n"
left_line (Template offset) = codes "left alone: template\n"

abbrev pub left_status : Guarded → ℕ
left_status Vault = 0
left_status (NoData offset) = 1
left_status (Template offset) = 1

-- Why a rewriting skips bytes, if it does. With `--any-text` it skips none.
abbrev pub LeavesBytes : Bool → List ℕ → Option Guarded → Type 0
LeavesBytes true bytes found = found ≡ None
LeavesBytes false bytes found = IsUtf8 bytes × Guards true bytes found
