-- The comments after a scalar, and `blank_before` of the first.
use Rattle.std.proofs.Common.{◌≡◌, ◌≢◌, ℕ, ◌+◌, ◌-◌, ◌<◌, ◌≤◌, Bool, List, [], ◌∷◌, length, drop, get_or, map, refl, sym, ap, ◌∙◌, arith}
use Rattle.std.proofs.Math.ListN.{drop_of_length-le}
use Rattle.yf_chars.specs.Text.{code}
use Rattle.yf_chars.specs.Chain.{Chosen, Stuck}
use Rattle.yf_chars.specs.Chain.Chain.{done}
use Rattle.yf_lines.specs.Basic.{Spaces, LineStart}
use Rattle.yf_comments.specs.declared.comment.Comment.{Comment}
use Rattle.yf_comments.specs.Comment.{CommentValue, comment_value}
use Rattle.yf_block_scalar.specs.Body.{Trail, first_noted}
use Rattle.yf_comments.specs.Comments.{LineEnd}
use Rattle.yf_comments.specs.Comments.LineEnd.{from_start}
use Rattle.yf_block_scalar.specs.Body.Trail.{no_comment, comments}
use Rattle.yf_block_scalar.proofs.BodyLemmas.{spaces_unique}

pub noted_first : (b : Bool) (cs : List Comment) (d : Comment) → length cs ≢ 0
    → record (comment_value (get_or cs 0 d)) { blank_before = b } ∷ map comment_value (drop 1 cs) ≡ first_noted b (map comment_value cs)
noted_first b [] d n = absurd (n refl)
noted_first b (c ∷ cs) d n = refl

pub noted_last : (cs : List Comment) (i : ℕ) → length cs ≤ i → map comment_value (drop i cs) ≡ []
noted_last cs i l = ap (map comment_value) (drop_of_length-le cs l)

-- no comment with fewer than k spaces before it, because k spaces or another character precede it
pub no_trail_deep : {t : List ℕ} (i m k : ℕ) → Spaces t i m → k ≤ m → Trail t k i i []
no_trail_deep {t} i m k s l = no_comment (λ d h _ e. let space : code t (i + d) ≡ 32 = s.each d (omega arith) in absurd (omega arith))

pub no_trail_here : {t : List ℕ} (i first k : ℕ) → i ≤ first → Spaces t i (first - i) → code t first ≢ 32 → code t first ≢ 35 → Trail t k i i []
no_trail_here {t} i first k l s n no_hash = no_comment (λ d h q e.
    let same : i + (first - i) ≡ first = omega arith in
    let width : d ≡ first - i = spaces_unique q (λ w. absurd (omega arith)) s (rw same n) in
    no_hash (ap (code t) (sym same) ∙ ap (λ w. code t (i + w)) (sym width) ∙ e))

-- comment lines begin at a # after fewer than k spaces
pub trail_there : {t : List ℕ} {j : ℕ} {x : List CommentValue} (i first k : ℕ) → i ≤ first → Spaces t i (first - i) → first - i < k → code t first ≡ 35
    → Chosen (LineEnd t i) j x → Trail t k i j x
trail_there {t} i first k l s few e c =
    let same : i + (first - i) ≡ first = omega arith in
    comments (first - i) few s (ap (code t) same ∙ e) c

-- the start of a line begins comment lines, possibly none
pub line_end_there : {t : List ℕ} {i : ℕ} → LineStart t i → Stuck (LineEnd t i) → ⊥
line_end_there {t} {i} s n = n.none i [] (from_start s done)
