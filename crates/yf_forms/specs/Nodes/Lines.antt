-- Lines of text: their ends, and comments at their ends.
use Rattle.std.specs.Prelude.{ℕ, Bool, true, false, if◌then◌else◌, List, [], ◌∷◌, ◌++◌}
use Rattle.std.specs.List.{list_all}
use Rattle.yf_chars.specs.Class.{is_white}
use Rattle.yf_comments.specs.Comment.{CommentValue}

abbrev pub is_empty_text : List ℕ → Bool
is_empty_text [] = true
is_empty_text (b ∷ bs) = false

abbrev pub ended : List ℕ → List ℕ
ended text = text ++ (10 ∷ [])

-- a comment's text without the white space at its end
abbrev pub trimmed : List ℕ → List ℕ
trimmed [] = []
trimmed (b ∷ bs) = if list_all is_white (b ∷ bs) then [] else b ∷ trimmed bs

abbrev pub after_two_spaces : CommentValue → List ℕ
after_two_spaces c = 32 ∷ 32 ∷ trimmed c.text
