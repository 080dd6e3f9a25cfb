-- The end of an implicit key: a `:` on its line, within the limit of characters.
use Rattle.std.proofs.Common.{◌≡◌, ℕ, ◌-◌, ◌<◌, ◌≤◌, Bool, true, false, List, length, take, drop, MatchBool, ap, arith, ⊎_elim}
use Rattle.std.proofs.lemmas.Bool.{cases_Bool}
use Rattle.std.proofs.lemmas.List.{length-take}
use Rattle.std.proofs.lemmas.Str as S
use Rattle.std.proofs.lemmas.Str.{length-le-encodes, encodes-chars}
use Rattle.std.specs.Str.{IsUtf8, IsCharBoundary, chars}
use Rattle.yf_chars.specs.Text.{begins, code, no_char}
use Rattle.yf_chars.proofs.TextLemmas.{boundary_from_begins, code-nowhere}
use Rattle.yf_grammar.specs.Productions.Grammar.{characters_between}
use Rattle.yf_grammar.specs.BlockReader.BlockParser.{SignAt}
use Rattle.yf_grammar.specs.FlowReader.Parser.{OnOneLine}
use Rattle.yf_flow.specs.Leaves.{KeyLine}
use Rattle.yf_block.specs.InlineAnswers.{KeyEnds}
use Rattle.yf_grammar.proofs.FlowReader.KeyLines.{line_none}

-- an offset with a character is a boundary
pub boundary_there : (t : List ℕ) (i : ℕ) → code t i < no_char → IsCharBoundary t i
boundary_there t i l = ⊎_elim
    (λ (e : begins t i ≡ true). boundary_from_begins t i e)
    (λ (e : begins t i ≡ false). let n = code-nowhere t i e in absurd (omega arith))
    (cases_Bool (begins t i))

pub sign_boundary : {t : List ℕ} {i : ℕ} → SignAt t 58 i → IsCharBoundary t i
sign_boundary {t} {i} s = let c = s.sign_is_at in boundary_there t i (omega arith)

pub line_upto : {t : List ℕ} {i j k : ℕ} → OnOneLine t i j → k ≤ j → OnOneLine t i k
line_upto o l = record { each = λ h a b. o.each h a (omega arith) }

-- a number of bytes has at most as many characters
short_between : {t : List ℕ} {i j : ℕ} → IsUtf8 t → IsCharBoundary t i → IsCharBoundary t j → i ≤ j → characters_between t i j ≤ j - i
unfolding characters_between
short_between {t} {i} {j} u a b l =
    let part : IsUtf8 (take (j - i) (drop i t)) = S.IsUtf8-between t i j u l a b in
    let short = length-le-encodes (chars (take (j - i) (drop i t))) in
    let same = ap length (encodes-chars (take (j - i) (drop i t)) part) in
    let most = length-take (j - i) (drop i t) in
    omega arith

pub short_line : {t : List ℕ} {i j : ℕ} → IsUtf8 t → IsCharBoundary t i → i ≤ j → j - i ≤ 1024 → OnOneLine t i j → IsCharBoundary t j → KeyLine t i j
short_line u a l s o b = record { line = o; short = let m = short_between u a b l in omega arith }

-- a key ends there, by its sign and its line
pub key_there : {t : List ℕ} {i j : ℕ} → SignAt t 58 j → KeyLine t i j → KeyEnds t i j
key_there c l = record { colon = c; line = l }

pub key_cases : {t : List ℕ} {j : ℕ} (i : ℕ) (b : Bool) → SignAt t 58 j → MatchBool b (KeyLine t i j) (KeyLine t i j → ⊥) → MatchBool b (KeyEnds t i j) (KeyEnds t i j → ⊥)
key_cases i true c l = key_there c l
key_cases i false c l = λ k. l k.line
