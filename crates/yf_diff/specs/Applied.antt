-- The result of applying the hunks of a unified diff to a text.
use Rattle.std.specs.Prelude.{ℕ, ◌+◌, List, [], ◌∷◌, ◌++◌, length}
use Rattle.yf_diff.specs.Script.{Edit, olds, news}
use Rattle.yf_diff.specs.Unified.{edit_text, hunk_line, hunks}

-- the edits of a hunk, as they are written below its first line
abbrev pub edits_text : List Edit → List ℕ
edits_text [] = []
edits_text (x ∷ rest) = edit_text x ++ edits_text rest

-- The written hunks lead from the old lines to the new ones; the two numbers are the lines of each text before these.
-- Outside the hunks the lines stay. A hunk is at the lines that its numbers give, contains the old lines there, and
-- replaces them by its new lines.
pub data ScriptApplied : ℕ → ℕ → List (List ℕ) → List (List ℕ) → List ℕ → Type 0 where
  ended : {a b : ℕ} → ScriptApplied a b [] [] []
  stays : {a b : ℕ} {line : List ℕ} {old new : List (List ℕ)} {text : List ℕ} → ScriptApplied (a + 1) (b + 1) old new text → ScriptApplied a b (line ∷ old) (line ∷ new) text
  replaced : {a b : ℕ} (edits : List Edit) (old new : List (List ℕ)) (text : List ℕ) → ScriptApplied (a + length (olds edits)) (b + length (news edits)) old new text → ScriptApplied a b (olds edits ++ old) (news edits ++ new) (hunk_line a b edits ++ (edits_text edits ++ text))

-- The written hunks of a script lead from its old lines to its new ones.
abbrev pub ScriptsApply : Type 0
ScriptsApply = (script : List Edit) → ScriptApplied 0 0 (olds script) (news script) (hunks script 0 0 0 script)
