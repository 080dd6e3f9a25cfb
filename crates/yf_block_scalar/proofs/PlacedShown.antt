-- A scalar by hand: its bytes among other lines, and its derivation there, with its comments, up to the next line.
use Rattle.std.proofs.Common.{◌≡◌, ◌≢◌, ℕ, pos, false, suc, List, [], ◌∷◌, length, Some, None, codes, refl, ap, arith}
use Rattle.std.specs.Str.{IsUtf8}
use lib.Utf8.{encode}
use Rattle.yf_chars.specs.Class.{is_ns_char, is_nb_char, is_printable, is_between, is_break_char, is_white}
use Rattle.yf_lines.proofs.RestLemmas.{Rest}
use Rattle.yf_lines.specs.LineText.{IsLineText}
use Rattle.yf_comments.specs.GapLines.{GapLine, blank, remark, gap_then, IsRemark}
use Rattle.yf_block_scalar.specs.declared.header.Header.{Header}
use Rattle.yf_block_scalar.specs.declared.header.Chomp.TheVariants.{Clip}
use Rattle.yf_block_scalar.specs.Content.{content_of}
use Rattle.yf_block_scalar.specs.Placed.{scalar_then, Below, line_below}
use Rattle.yf_block_scalar.proofs.PlacedScalar.{PlacedAt, placed}

clipped : Header
clipped = record { folded = false; digit = None; chomp = Clip }

shown_lines : List (List ℕ)
shown_lines = codes "a" ∷ [] ∷ codes " b" ∷ []

shown_gap : List GapLine
shown_gap = blank ∷ remark 0 (codes "# d") ∷ []

-- the value of a key at column 0, and the next key after it
shown_bytes : scalar_then clipped 2 (Some (codes "# c")) 2 shown_lines 0 (gap_then shown_gap (codes "k: v")) ≡ codes "|  # c\n  a\n\n   b\n\n# d\nk: v"
unfolding clipped shown_lines shown_gap
shown_bytes = refl

shown_content : content_of clipped shown_lines 0 false ≡ codes "a\n\n b\n"
unfolding clipped shown_lines
shown_content = refl

line_a : IsLineText (codes "a")
unfolding encode is_nb_char is_printable is_between is_break_char
line_a = record { chars = codes "a"; bytes = refl; each = (refl, tt) }

line_b : IsLineText (codes " b")
unfolding encode is_nb_char is_printable is_between is_break_char
line_b = record { chars = codes " b"; bytes = refl; each = (refl, (refl, tt)) }

line_empty : IsLineText []
line_empty = record { chars = []; bytes = refl; each = tt }

remark_c : IsRemark (codes "# c")
unfolding encode is_nb_char is_printable is_between is_break_char
remark_c = record { follows = codes " c"; is = refl; line = record { chars = codes " c"; bytes = refl; each = (refl, (refl, tt)) } }

remark_d : IsRemark (codes "# d")
unfolding encode is_nb_char is_printable is_between is_break_char
remark_d = record { follows = codes " d"; is = refl; line = record { chars = codes " d"; bytes = refl; each = (refl, (refl, tt)) } }

some_line : (c : ℕ) (x : List ℕ) → c ∷ x ≢ []
some_line c x e = let long : suc (length x) ≡ 0 = ap length e in omega arith

next_key : Below 2 (codes "k: v")
unfolding encode is_ns_char is_nb_char is_printable is_between is_break_char is_white
next_key = line_below 0 107 (codes ": v") (omega arith) refl (λ e. omega arith)

shown_placed : (t : List ℕ) (q : ℕ) → IsUtf8 t → Rest t q (codes "|  # c\n  a\n\n   b\n\n# d\nk: v")
    → PlacedAt t (pos 0) clipped shown_lines 0 (codes "# c" ∷ codes "# d" ∷ []) q (codes "k: v")
unfolding clipped shown_lines shown_gap
shown_placed t q u s = placed (pos 0) 2 clipped (Some (codes "# c")) shown_lines 0 shown_gap u (omega arith) (omega arith)
    (line_a, (line_empty, (line_b, tt))) (some_line 32 (codes "b")) (λ e. λ h. omega arith) remark_c (remark_d, tt) (omega arith, tt) tt next_key s
