-- A tidy text has as many lines that end with white space as its block scalars have. So no other line does, not even
-- one that equals a scalar's line.
use Rattle.std.proofs.Common.{◌≡◌, ◌≢◌, ℕ, suc, ◌*◌, Bool, false, List, [], ◌∷◌, ◌++◌, map, flat_map, replicate, refl, ap, ◌∙◌, arith, length, length-append}
use Rattle.std.specs.Prelude.{codes, encode_utf8, if◌then◌else◌}
use Rattle.std.proofs.lemmas.Str.{len_utf8_bounds, length-encode}
use Rattle.yf_chars.specs.Class.{is_white}
use Rattle.yf_chars.specs.Text.{last_or}
use Rattle.yf_events.specs.declared.event.ScalarStyle.TheVariants.{Literal}
use Rattle.yf_forms.specs.Nodes.BlockLines.{content_lines, line_at, tail_lines}
use Rattle.yf_laws.specs.Preservation.TidyLines.{BlockScalar, IsStripped, TidyLines, no_more_lines, a_blank_line, a_text_line, scalar_lines}
use Rattle.yf_laws.proofs.OutputLines.TidyTexts.{last_append}
use Rattle.yf_laws.proofs.Writable.ReadFits.{filled as some}

abbrev counted : Bool → ℕ → ℕ
counted white n = if white then suc n else n

abbrev pub white_ends : List (List ℕ) → ℕ
white_ends [] = 0
white_ends (x ∷ xs) = counted (is_white (last_or 0 x)) (white_ends xs)

-- the lines of block scalars, without their indentation
abbrev pub lines_of_scalars : List BlockScalar → List (List ℕ)
lines_of_scalars bs = flat_map (λ (b : BlockScalar). content_lines b.style b.text b.lines ++ tail_lines b.text) bs

same_end : (column : ℕ) (l : List ℕ) → is_white (last_or 0 (line_at column l)) ≡ is_white (last_or 0 l)
same_end column [] = refl
same_end column (c ∷ l) = ap is_white (last_append 0 (replicate column 32) (c ∷ l) (some c l))

indented : (column : ℕ) (ls xs ys : List (List ℕ)) → white_ends xs ≡ white_ends ys → white_ends (map (line_at column) ls ++ xs) ≡ white_ends (ls ++ ys)
indented column [] xs ys e = e
indented column (l ∷ ls) xs ys e =
    ap (λ b. counted b (white_ends (map (line_at column) ls ++ xs))) (same_end column l) ∙ ap (counted (is_white (last_or 0 l))) (indented column ls xs ys e)

filled : {x : List ℕ} → IsStripped x → x ≢ []
filled {x} a e =
    let l = ap length a.is in
    let b = len_utf8_bounds a.char in
    let n : length x ≡ 0 = ap length e in
    omega (arith, l, length-append (encode_utf8 a.char) a.follows, length-encode a.char, b, n)

stripped : {x : List ℕ} (column : ℕ) → IsStripped x → is_white (last_or 0 (replicate column 32 ++ x)) ≡ false
stripped {x} column a = ap is_white (last_append 0 (replicate column 32) x (filled a)) ∙ a.ends

pub whites_told : {indent limit : ℕ} {Token : List ℕ → Type 0} {bs : List BlockScalar} {xs : List (List ℕ)} → TidyLines indent limit Token bs xs → white_ends xs ≡ white_ends (lines_of_scalars bs)
unfolding is_white
whites_told no_more_lines = refl
whites_told (a_blank_line more) = whites_told more
whites_told {indent} (a_text_line {xs = xs} n l a t more) = ap (λ b. counted b (white_ends xs)) (stripped (n * indent) a) ∙ whites_told more
whites_told {indent} (scalar_lines {b = b} {bs = bs} {xs = xs} n m k l a t h more) =
    let lines : List (List ℕ) = content_lines b.style b.text b.lines ++ tail_lines b.text in
    ap (λ w. counted w (white_ends (map (line_at (m * indent)) lines ++ xs))) (stripped (n * indent) a) ∙ indented (m * indent) lines xs (lines_of_scalars bs) (whites_told more)

-- a literal scalar of one line, which ends with a space
abbrev spaced_scalar : BlockScalar
spaced_scalar = record { style = Literal; text = codes "a \n"; lines = [] }

-- its line once more
once_more : (limit : ℕ) (Token : List ℕ → Type 0) → TidyLines 2 limit Token (spaced_scalar ∷ []) (codes "- |" ∷ codes "  a " ∷ codes "  a " ∷ []) → ⊥
unfolding is_white
once_more limit Token a = let e : 2 ≡ 1 = whites_told a in omega (arith, e)
