-- Example texts with and without a blank line before a comment.
use Rattle.std.proofs.Common.{◌≡◌, ℕ, List, [], ◌∷◌, refl, arith}
use Rattle.std.specs.Str.{chars, IsUtf8}
use Rattle.yf_chars.specs.Text.{code, next, begins}
use Rattle.yf_chars.specs.Class.{is_white, is_break_char}
use Rattle.yf_lines.specs.Basic.{Break}
use Rattle.yf_lines.specs.Basic.Break.{lone_lf}
use Rattle.yf_comments.specs.Comments.{is_gap, BlankBefore}
use Rattle.yf_comments.proofs.NoteKnown.{blank_after, none_after}

-- a, an empty line, a comment
with_blank : List ℕ
with_blank = 97 ∷ 10 ∷ 10 ∷ 35 ∷ []

first_break : Break with_blank 1 2
unfolding with_blank code begins chars
first_break = lone_lf refl (λ e. let q : 97 ≡ 13 = e in omega arith)

second_break : Break with_blank 2 3
unfolding with_blank code begins chars
second_break = lone_lf refl (λ e. let q : 10 ≡ 13 = e in omega arith)

blank_shown : BlankBefore with_blank 3
blank_shown = blank_after first_break second_break

-- a, a comment
without_blank : List ℕ
without_blank = 97 ∷ 10 ∷ 35 ∷ []

only_break : Break without_blank 1 2
unfolding without_blank code begins chars
only_break = lone_lf refl (λ e. let q : 97 ≡ 13 = e in omega arith)

none_shown : IsUtf8 without_blank → BlankBefore without_blank 2 → ⊥
unfolding without_blank code begins chars next is_gap is_white is_break_char
none_shown u = none_after 0 u (omega arith) refl refl only_break
