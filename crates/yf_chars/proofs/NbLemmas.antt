-- Printable ASCII among the characters within a line.
use Rattle.std.proofs.Common.{◌≡◌, ℕ, ◌+◌, ◌<◌, ◌≤◌, true, List, [], ◌∷◌, ◌++◌, length, get_or, sym, ap, ◌∙◌, subst, arith}
use Rattle.std.proofs.lemmas.Bool.Decides.{nat_tests}
use Rattle.std.specs.Str.{IsUtf8}
use Rattle.yf_chars.specs.Class.{is_nb_char, is_printable, is_between, is_break_char}
use Rattle.yf_chars.specs.Text.{code, CharAt}
use Rattle.yf_chars.specs.Chain.{Many}
use Rattle.yf_chars.proofs.ChainLemmas.{many_more}
use Rattle.yf_chars.proofs.TextLemmas.{reads_ascii, code_from_byte}

ascii_nb : (c : ℕ) → 32 ≤ c → c ≤ 126 → is_nb_char c ≡ true
unfolding is_nb_char is_printable is_between is_break_char
ascii_nb c l h = grind (arith, nat_tests)

pub ascii_class : (t : List ℕ) (i : ℕ) → IsUtf8 t → i < length t → 32 ≤ get_or t i 0 → get_or t i 0 ≤ 126 → is_nb_char (code t i) ≡ true
ascii_class t i u l a b = ap is_nb_char (code_from_byte t i u l (omega arith)) ∙ ascii_nb (get_or t i 0) a b

pub ascii_reads : (t : List ℕ) (i : ℕ) → IsUtf8 t → i < length t → get_or t i 0 ≤ 126 → CharAt t i (code t i) (i + 1)
ascii_reads t i u l b =
    subst (λ c. CharAt t i c (i + 1)) (sym (code_from_byte t i u l (omega arith))) (reads_ascii t i u l (omega arith))

-- one more character of a run
pub nb_more : {t : List ℕ} {i j c k : ℕ} → (x : List ℕ) × Many t is_nb_char i j x → CharAt t j c k → is_nb_char c ≡ true → (y : List ℕ) × Many t is_nb_char i k y
nb_more {t} {i} {j} w r e =
    let more = many_more t is_nb_char w.1 (ap is_nb_char r.char ∙ e) in
    (w.0 ++ code t j ∷ [], subst (λ v. Many t is_nb_char i v (w.0 ++ code t j ∷ [])) r.end more)
