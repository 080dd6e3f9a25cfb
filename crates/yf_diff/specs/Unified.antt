-- Unified diffs: the notation of an edit script with three lines of context.
use Rattle.std.specs.Prelude.{ℕ, ◌+◌, ◌-◌, ◌==◌, Bool, false, ◌||◌, not, List, [], ◌∷◌, ◌++◌, length, slice_index, slice_range, codes, decimal, if◌then◌else◌}
use Rattle.yf_diff.specs.Script.{Edit, kept, dropped, added, olds, news, old_part, new_part, has_change}

-- the sign before a line
abbrev pub sign_of : Edit → ℕ
sign_of (kept _) = 32
sign_of (dropped _) = 45
sign_of (added _) = 43

abbrev pub line_of : Edit → List ℕ
line_of (kept line) = line
line_of (dropped line) = line
line_of (added line) = line

-- the note that the last line has no line feed, after a line feed that ends it here
unfoldable pub no_feed_note : List ℕ
no_feed_note = codes "\n\\ No newline at end of file\n"

-- the text after a line: nothing if it ends with a line feed
abbrev pub line_end : List ℕ → List ℕ
line_end line = if slice_index line (length line - 1) == 10 then [] else no_feed_note

abbrev pub edit_text : Edit → List ℕ
edit_text x = sign_of x ∷ line_of x ++ line_end (line_of x)

-- An edit is shown if a change is at most three edits before or after it.
abbrev pub is_shown : List Edit → ℕ → Bool
is_shown script at = has_change (slice_range script (at - 3) (at + 4))

-- A shown edit begins a hunk if it is the first edit, or if the edit before it isn't shown.
abbrev pub begins : List Edit → ℕ → Bool
begins script at = at == 0 || not (is_shown script (at - 1))

-- The edits of a hunk that begins at the first of the rest: all up to the next one that isn't shown.
abbrev pub hunk : List Edit → ℕ → List Edit → List Edit
hunk script at [] = []
hunk script at (x ∷ rest) = if is_shown script at then x ∷ hunk script (at + 1) rest else []

-- A range of lines after `before` lines of its text: the number of its first line and the number of lines. A range of
-- one line is only its number. An empty range has the number of the line before it.
abbrev pub range : ℕ → ℕ → List ℕ
range before count = if count == 1 then decimal (before + 1) else decimal (if count == 0 then before else before + 1) ++ codes "," ++ decimal count

-- the line before a hunk: its ranges in the old and in the new text
abbrev pub hunk_line : ℕ → ℕ → List Edit → List ℕ
hunk_line old_before new_before edits = codes "@@ -" ++ range old_before (length (olds edits)) ++ codes " +" ++ range new_before (length (news edits)) ++ codes " @@\n"

-- the text before the first edit of the rest
abbrev pub head_text : List Edit → ℕ → ℕ → ℕ → List Edit → List ℕ
head_text script at old_before new_before rest = if begins script at then hunk_line old_before new_before (hunk script at rest) else []

-- the text at the first edit of the rest, after the given numbers of lines of both texts
abbrev pub text_at : List Edit → ℕ → ℕ → ℕ → List Edit → List ℕ
text_at script at old_before new_before [] = []
text_at script at old_before new_before (x ∷ rest) = if is_shown script at then head_text script at old_before new_before (x ∷ rest) ++ edit_text x else []

-- the text of the rest of a script, from the edit with that index on
abbrev pub hunks : List Edit → ℕ → ℕ → ℕ → List Edit → List ℕ
hunks script at old_before new_before [] = []
hunks script at old_before new_before (x ∷ rest) = text_at script at old_before new_before (x ∷ rest) ++ hunks script (at + 1) (old_before + length (old_part x)) (new_before + length (new_part x)) rest

abbrev pub has_space : List ℕ → Bool
has_space [] = false
has_space (c ∷ rest) = c == 32 || has_space rest

-- the name of a text; a tab follows a name with a space, which would otherwise end at the space
abbrev pub name_text : List ℕ → List ℕ
name_text name = name ++ (if has_space name then codes "\t" else [])

-- A script without changes has an empty text.
abbrev pub unified : List ℕ → List ℕ → List Edit → List ℕ
unified old_name new_name script = if has_change script then codes "--- " ++ name_text old_name ++ codes "\n+++ " ++ name_text new_name ++ codes "\n" ++ hunks script 0 0 0 script else []
