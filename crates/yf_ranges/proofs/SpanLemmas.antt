-- Laws of the spans of details.
use Rattle.std.proofs.Common.{◌≡◌, ℕ, ◌+◌, ◌<◌, ◌≤◌, true, ◌&&◌, ◌||◌, List, length, arith, eqb, ⊎_elim}
use Rattle.std.specs.Str.{IsCharBoundary, IsUtf8}
use Rattle.std.proofs.lemmas.Bool.{and_parts, eqb-true, or_cases}
use Rattle.yf_chars.specs.Class.{is_white_or_end}
use Rattle.yf_chars.specs.Text.{code, no_char}
use Rattle.yf_chars.proofs.TextLemmas.{code_at_boundary, within_from_code}
use Rattle.yf_lines.specs.Basic.{is_marker, is_three}
use Rattle.yf_ranges.specs.Spans.{CharacterSpan}
use Rattle.yf_ranges.specs.Spans.CharacterSpan.{one as one_character, none as no_character}

three_within : (t : List ℕ) (i c : ℕ) → c < no_char → is_three t i c ≡ true → i + 3 ≤ length t
unfolding is_three
three_within t i c b e =
    let p = and_parts (eqb (code t i) c) (eqb (code t (i + 1)) c && eqb (code t (i + 2)) c) e in
    let q = and_parts (eqb (code t (i + 1)) c) (eqb (code t (i + 2)) c) p.1 in
    let k : code t (i + 2) ≡ c = eqb-true (code t (i + 2)) c q.1 in
    let w : i + 2 < length t = within_from_code t (i + 2) (omega (arith, k, b)) in
    omega (arith, w)

-- a document marker lies in the text
pub marker_within : (t : List ℕ) (i : ℕ) → is_marker t i ≡ true → i + 3 ≤ length t
unfolding is_marker
marker_within t i e =
    ⊎_elim (three_within t i 45 (omega arith)) (three_within t i 46 (omega arith))
    (or_cases (is_three t i 45) (is_three t i 46) (and_parts (is_three t i 45 || is_three t i 46) (is_white_or_end (code t (i + 3))) e).0)

-- the character at an offset of the text has bytes
pub character_filled : {t : List ℕ} {s e : ℕ} → IsUtf8 t → IsCharBoundary t s → s < length t → CharacterSpan t s e → s < e
character_filled u b l (one_character r) = r.later
character_filled {t} {s} u b l (no_character n) = let h = code_at_boundary t s u b l in absurd (omega (arith, h, n))
