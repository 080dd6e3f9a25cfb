-- The content of a block scalar (YAML 1.2.2, sections 8.1.1.2, 8.1.2 and 8.1.3) as a function of its lines: those from
-- the first one after the header to the last content line, without their indentation and breaks; an empty line is [].
-- Texts are bytes of UTF-8; 10 is the line feed.
use Rattle.std.specs.Prelude.{ℕ, ◌+◌, ◌==◌, Bool, true, false, ◌||◌, List, [], ◌∷◌, ◌++◌, if◌then◌else◌, replicate}
use Rattle.yf_chars.specs.Signs.{LINE_FEED, SPACE}
use Rattle.yf_chars.specs.Class.{is_white}
use Rattle.yf_block_scalar.specs.declared.header.Header.{Header}
use Rattle.yf_block_scalar.specs.declared.header.Chomp.{Chomp}
use Rattle.yf_block_scalar.specs.declared.header.Chomp.TheVariants.{Strip, Clip, Keep}

-- e line feeds
abbrev pub feeds : ℕ → List ℕ
feeds e = replicate e LINE_FEED

-- a content line that begins with white space is spaced: it is more indented than the others, or begins with a tab
abbrev pub is_spaced : List ℕ → Bool
is_spaced [] = false
is_spaced (c ∷ x) = is_white c

-- the separation of two content lines with e empty lines between them; the flag says whether one of the two is spaced
abbrev pub joint : Bool → ℕ → List ℕ
joint true e = feeds (e + 1)
joint false e = if e == 0 then SPACE ∷ [] else feeds e

-- the folded lines after a content line and e empty lines; the flag says whether that content line is spaced
abbrev pub folded_after : Bool → ℕ → List (List ℕ) → List ℕ
folded_after s e [] = []
folded_after s e ([] ∷ ls) = folded_after s (e + 1) ls
folded_after s e ((c ∷ x) ∷ ls) = joint (s || is_white c) e ++ (c ∷ x) ++ folded_after (is_white c) 0 ls

-- folded lines: each empty line before the first content line is a line feed
abbrev pub folded : List (List ℕ) → List ℕ
folded [] = []
folded ([] ∷ ls) = LINE_FEED ∷ folded ls
folded ((c ∷ x) ∷ ls) = (c ∷ x) ++ folded_after (is_white c) 0 ls

-- literal lines: joined by line feeds
abbrev pub literal_after : List (List ℕ) → List ℕ
literal_after [] = []
literal_after (x ∷ ls) = LINE_FEED ∷ (x ++ literal_after ls)

abbrev pub literal : List (List ℕ) → List ℕ
literal [] = []
literal (x ∷ ls) = x ++ literal_after ls

-- the line feeds after the last content line, which the tail's empty lines follow
abbrev pub ending : Chomp → ℕ → List ℕ
ending Strip tail = []
ending Clip tail = LINE_FEED ∷ []
ending Keep tail = feeds (tail + 1)

-- the line feeds of a scalar without a content line
abbrev pub lone_tail : Chomp → ℕ → List ℕ
lone_tail Strip tail = []
lone_tail Clip tail = []
lone_tail Keep tail = feeds tail

-- the content of a scalar with that header, those lines and `tail` empty lines after them; a last content line that
-- ends at the end of the text adds no line feed
abbrev pub content_of : Header → List (List ℕ) → ℕ → Bool → List ℕ
content_of h [] tail open_end = lone_tail h.chomp tail
content_of h (x ∷ ls) tail open_end =
    (if h.folded then folded (x ∷ ls) else literal (x ∷ ls)) ++ (if open_end then [] else ending h.chomp tail)
