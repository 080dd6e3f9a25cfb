-- Examples: how the definitions split texts and write small scripts.
use Rattle.std.proofs.Common.{◌≡◌, ℕ, List, [], ◌∷◌, ◌++◌, refl}
use Rattle.std.specs.Prelude.{codes}
use Rattle.std.specs.Fmt.{digits}
use Rattle.yf_diff.specs.Script.{Edit, kept, dropped, added}
use Rattle.yf_diff.specs.Texts.{lines_of}
use Rattle.yf_diff.specs.Unified.{unified, no_feed_note}

shown : List Edit → List ℕ
shown = unified (codes "o") (codes "n")

-- the lines `1` to `6`
six_lines : List Edit
six_lines = kept (codes "1\n") ∷ kept (codes "2\n") ∷ kept (codes "3\n") ∷ kept (codes "4\n") ∷ kept (codes "5\n") ∷ kept (codes "6\n") ∷ []

a_line_has_its_feed : lines_of (codes "a\nb\n") ≡ codes "a\n" ∷ codes "b\n" ∷ []
a_line_has_its_feed = refl

a_last_line_may_lack_it : lines_of (codes "\n\nb\r") ≡ codes "\n" ∷ codes "\n" ∷ codes "b\r" ∷ []
a_last_line_may_lack_it = refl

no_text_has_no_line : lines_of [] ≡ []
no_text_has_no_line = refl

a_return_ends_no_line : lines_of (codes "a\rb\r\nc") ≡ codes "a\rb\r\n" ∷ codes "c" ∷ []
a_return_ends_no_line = refl

-- a range of one line is its number; a note follows a line without a line feed
one_line : shown (dropped (codes "a") ∷ added (codes "b\n") ∷ []) ≡ codes "--- o\n+++ n\n@@ -1 +1 @@\n-a\n\\ No newline at end of file\n+b\n"
unfolding shown no_feed_note digits
one_line = refl

no_lines_before : shown (added (codes "a\n") ∷ added (codes "b\n") ∷ []) ≡ codes "--- o\n+++ n\n@@ -0,0 +1,2 @@\n+a\n+b\n"
unfolding shown no_feed_note digits
no_lines_before = refl

no_lines_after : shown (dropped (codes "a\n") ∷ []) ≡ codes "--- o\n+++ n\n@@ -1 +0,0 @@\n-a\n"
unfolding shown no_feed_note digits
no_lines_after = refl

-- the fourth line from a change is not shown
three_lines_of_context :
    shown (kept (codes "0\n") ∷ [] ++ six_lines ++ dropped (codes "7\n") ∷ [] ++ six_lines)
    ≡ codes "--- o\n+++ n\n@@ -5,7 +5,6 @@\n 4\n 5\n 6\n-7\n 1\n 2\n 3\n"
unfolding shown six_lines no_feed_note digits
three_lines_of_context = refl

-- six lines between two changes are one hunk
six_lines_between :
    shown (dropped (codes "a\n") ∷ six_lines ++ dropped (codes "b\n") ∷ added (codes "c\n") ∷ [])
    ≡ codes "--- o\n+++ n\n@@ -1,8 +1,7 @@\n-a\n 1\n 2\n 3\n 4\n 5\n 6\n-b\n+c\n"
unfolding shown six_lines no_feed_note digits
six_lines_between = refl

-- seven are not
seven_lines_between :
    shown (dropped (codes "a\n") ∷ six_lines ++ kept (codes "7\n") ∷ dropped (codes "b") ∷ added (codes "b\n") ∷ added (codes "c") ∷ [])
    ≡ codes "--- o\n+++ n\n@@ -1,4 +1,3 @@\n-a\n 1\n 2\n 3\n@@ -6,4 +5,5 @@\n 5\n 6\n 7\n-b\n\\ No newline at end of file\n+b\n+c\n\\ No newline at end of file\n"
unfolding shown six_lines no_feed_note digits
seven_lines_between = refl

nothing_where_nothing_changes : shown six_lines ≡ []
unfolding shown six_lines no_feed_note digits
nothing_where_nothing_changes = refl

a_tab_ends_a_name_with_a_space : unified (codes "a b") (codes "c") (added (codes "1\n") ∷ []) ≡ codes "--- a b\t\n+++ c\n@@ -0,0 +1 @@\n+1\n"
unfolding no_feed_note digits
a_tab_ends_a_name_with_a_space = refl
