-- The lemmas, grouped by the function that needs them.

-- `first_line`
pub mod LineLemmas
-- `script`
pub mod ScriptLemmas
pub mod OrderLemmas
-- `push_hunks`
pub mod HunkLemmas
-- `push_diff`
pub mod ScriptsKept
pub mod SilentDiffs
-- examples of the definitions, written out by hand
mod ShownDiffs
-- `scripts_apply`
pub mod AppliedLemmas
