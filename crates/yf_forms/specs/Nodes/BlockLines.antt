-- The text of a literal or folded scalar (YAML 1.2.2, section 8.1): its header, and its lines at a column. 10 is the
-- line feed.
use Rattle.std.specs.Prelude.{ℕ, zero, suc, ◌+◌, ◌-◌, Bool, true, false, ◌==◌, if◌then◌else◌, List, [], ◌∷◌, ◌++◌, codes, length, map, replicate}
use Rattle.std.specs.List.{list_all}
use Rattle.yf_events.specs.declared.event.ScalarStyle.{ScalarStyle}
use Rattle.yf_events.specs.declared.event.ScalarStyle.TheVariants.{Folded}

abbrev pub is_feed : ℕ → Bool
is_feed b = b == 10

-- a text up to its last character other than a line feed, and the number of line feeds after it
abbrev pub without_final_feeds : List ℕ → List ℕ
without_final_feeds [] = []
without_final_feeds (b ∷ bs) = if list_all is_feed (b ∷ bs) then [] else b ∷ without_final_feeds bs

abbrev pub final_feeds : List ℕ → ℕ
final_feeds text = length text - length (without_final_feeds text)

-- a text cut at its line feeds
abbrev pub into_first : ℕ → List (List ℕ) → List (List ℕ)
into_first b [] = (b ∷ []) ∷ []
into_first b (l ∷ ls) = (b ∷ l) ∷ ls

abbrev pub cut_at_feeds : List ℕ → List (List ℕ)
cut_at_feeds [] = [] ∷ []
cut_at_feeds (b ∷ bs) = if b == 10 then [] ∷ cut_at_feeds bs else into_first b (cut_at_feeds bs)

-- the lines up to the last content line: a literal scalar has those of its text
abbrev pub content_lines : ScalarStyle → List ℕ → List (List ℕ) → List (List ℕ)
content_lines Folded text lines = lines
content_lines style text lines = cut_at_feeds (without_final_feeds text)

-- the empty lines after them, one for each line feed after the first that ends the text
abbrev pub tail_lines : List ℕ → List (List ℕ)
tail_lines text = replicate (final_feeds text - 1) []

abbrev pub is_kept_tail : ℕ → Bool
is_kept_tail zero = false
is_kept_tail (suc zero) = false
is_kept_tail (suc (suc n)) = true

-- the sign by the number of line feeds that end the text: none, one, more
abbrev pub chomping_sign : ℕ → List ℕ
chomping_sign zero = codes "-"
chomping_sign (suc zero) = []
chomping_sign (suc (suc n)) = codes "+"

-- the first character other than a line feed is a space, so that the indentation can't be detected
abbrev pub begins_with_space : List ℕ → Bool
begins_with_space [] = false
begins_with_space (b ∷ bs) = if b == 10 then begins_with_space bs else b == 32

abbrev pub style_sign : ScalarStyle → List ℕ
style_sign Folded = codes ">"
style_sign style = codes "|"

-- the digit of the indentation, if the content begins with a space
abbrev pub digit_text : ℕ → List ℕ → List ℕ
digit_text indent text = if begins_with_space text then (48 + indent) ∷ [] else []

-- the header, with the lines `indent` columns to the right of the indentation around
abbrev pub header_text : ScalarStyle → ℕ → List ℕ → List ℕ
header_text style indent text =
    style_sign style ++ (digit_text indent text ++ chomping_sign (final_feeds text))

-- a line at the column; an empty one has no spaces
abbrev pub line_at : ℕ → List ℕ → List ℕ
line_at column [] = []
line_at column (b ∷ bs) = replicate column 32 ++ (b ∷ bs)

abbrev pub block_lines : ScalarStyle → ℕ → List ℕ → List (List ℕ) → List (List ℕ)
block_lines style column text lines = map (line_at column) (content_lines style text lines ++ tail_lines text)
