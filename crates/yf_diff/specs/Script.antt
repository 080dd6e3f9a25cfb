-- Edit scripts: lists of lines that are kept, dropped or added.
use Rattle.std.specs.Prelude.{ℕ, Bool, true, false, not, ◌&&◌, ◌||◌, List, [], ◌∷◌, ◌++◌}

-- a line that is kept, dropped or added, with its line feed
pub data Edit : Type 0 where
  kept : List ℕ → Edit
  dropped : List ℕ → Edit
  added : List ℕ → Edit

-- the line of the old text, if the edit has one
abbrev pub old_part : Edit → List (List ℕ)
old_part (kept line) = line ∷ []
old_part (dropped line) = line ∷ []
old_part (added line) = []

-- the line of the new text, if the edit has one
abbrev pub new_part : Edit → List (List ℕ)
new_part (kept line) = line ∷ []
new_part (dropped line) = []
new_part (added line) = line ∷ []

-- the lines of the old text: those kept or dropped
abbrev pub olds : List Edit → List (List ℕ)
olds [] = []
olds (x ∷ rest) = old_part x ++ olds rest

-- the lines of the new text: those kept or added
abbrev pub news : List Edit → List (List ℕ)
news [] = []
news (x ∷ rest) = new_part x ++ news rest

abbrev pub is_change : Edit → Bool
is_change (kept _) = false
is_change (dropped _) = true
is_change (added _) = true

-- one of the edits is a change
abbrev pub has_change : List Edit → Bool
has_change [] = false
has_change (x ∷ rest) = is_change x || has_change rest

abbrev pub is_dropped : Edit → Bool
is_dropped (kept _) = false
is_dropped (dropped _) = true
is_dropped (added _) = false

abbrev pub is_added : Edit → Bool
is_added (kept _) = false
is_added (dropped _) = false
is_added (added _) = true

-- no line is dropped directly after an added one; the flag says whether a line was added just before
abbrev pub in_order_after : Bool → List Edit → Bool
in_order_after came [] = true
in_order_after came (x ∷ rest) = not (came && is_dropped x) && in_order_after (is_added x) rest

-- Between two kept lines, all dropped lines come first.
abbrev pub in_order : List Edit → Bool
in_order script = in_order_after false script

-- whether the last line was added
abbrev pub came_last : Bool → List Edit → Bool
came_last came [] = came
came_last came (x ∷ rest) = came_last (is_added x) rest
