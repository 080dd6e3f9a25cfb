-- What quoted scalars (7.3.1, 7.3.2) add to content, between their quotes.
use Rattle.std.proofs.Common.{◌≡◌, ℕ, ℤ, List, [], ◌∷◌, ◌++◌, refl, sym, ap, subst, arith}
use Rattle.yf_chars.specs.declared.context.Ctx.{Ctx}
use Rattle.yf_chars.specs.Text.{code, next}
use Rattle.yf_chars.specs.Escape.{NoLow}
use Rattle.yf_lines.specs.Basic.{Clear}
use Rattle.yf_quoted.specs.Quoted.{SingleQuoted, DoubleQuoted}
use Rattle.yf_standard.specs.Characters.{x}
use Rattle.yf_standard.specs.Contents.{Mark, marks, one_char, pieces, but_first, but_last}
use Rattle.yf_standard.specs.Contents.Mark.{char}
use Rattle.yf_standard.proofs.Meant.{Then, Character}
use Rattle.yf_standard.proofs.Meant.Then.{both}
use Rattle.yf_standard.proofs.Meant.Character.{character}
use Rattle.yf_standard.proofs.Basics.{char_is}
use Rattle.yf_standard.proofs.BasicsMeant.{Spells, spells}
use Rattle.yf_standard.proofs.BasicsMeant.Spells.{spelled}
use Rattle.yf_standard.proofs.QuotedRead.{SingleInside, DoubleInside}
use Rattle.yf_standard.proofs.Doubles.{no_low_of}

pub without_last : (y : List Mark) (m : Mark) → but_last (y ++ m ∷ []) ≡ y
unfolding but_last
without_last [] m = refl
without_last (a ∷ []) m = refl
without_last (a ∷ b ∷ y) m = ap (λ z. a ∷ z) (without_last (b ∷ y) m)

pub between : (a b : Mark) (y : List Mark) → but_last (but_first (a ∷ (y ++ b ∷ []))) ≡ y
unfolding but_first
between a b y = without_last y b

-- [120]
pub single_quoted_spells : {t : List ℕ} {n : ℤ} {c : Ctx} {i j : ℕ} {y : List Mark} → Clear t i j → Then (Character t one_char (x 39)) (Then (Spells (SingleInside t n c)) (Character t one_char (x 39))) i j y
    → Spells (SingleQuoted t n c) i j (but_last (but_first y))
single_quoted_spells {t} {n} {c} w (both a (both r b)) = go w a r b where
  go : {i g k j : ℕ} {u y v : List Mark} → Clear t i j → Character t one_char (x 39) i g u → Spells (SingleInside t n c) g k y → Character t one_char (x 39) k j v
      → Spells (SingleQuoted t n c) i j (but_last (but_first (u ++ (y ++ v))))
  go {i = i} {k = k} w (character e) (spelled {x = y} r) (character f) =
      let a = char_is t i (next t i) 39 (omega arith) (e, refl) in
      let b = char_is t k (next t k) 39 (omega arith) (f, refl) in
      spells y (record { close = k; opening = a.0; inside = subst (λ z. SingleInside t n c z k y) (sym a.1) r; closing = b.0; end = b.1; clear = w })
      (sym (between (char (code t i)) (char (code t k)) (marks y)))

-- [109]
pub double_quoted_pieces : {t : List ℕ} {n : ℤ} {c : Ctx} {i j : ℕ} {y : List Mark} → Clear t i j
    → Then (Character t one_char (x 34)) (Then (λ i j y. NoLow t j → DoubleInside t n c i j (pieces y)) (Character t one_char (x 34))) i j y
    → DoubleQuoted t n c i j (pieces (but_last (but_first y)))
double_quoted_pieces {t} {n} {c} w (both a (both r b)) = go _ w a r b where
  go : {i g k j : ℕ} {u v : List Mark} (y : List Mark) → Clear t i j → Character t one_char (x 34) i g u → (NoLow t k → DoubleInside t n c g k (pieces y)) → Character t one_char (x 34) k j v
      → DoubleQuoted t n c i j (pieces (but_last (but_first (u ++ (y ++ v)))))
  go {i = i} {k = k} {j = j} y w (character e) r (character f) =
      let a = char_is t i (next t i) 34 (omega arith) (e, refl) in
      let b = char_is t k (next t k) 34 (omega arith) (f, refl) in
      let q = r (no_low_of (λ z. absurd (omega (arith, z, b.0)))) in
      let d : DoubleQuoted t n c i (next t k) (pieces y) = record { close = k; opening = a.0; inside = subst (λ z. DoubleInside t n c z k (pieces y)) (sym a.1) q; closing = b.0; end = b.1; clear = w } in
      subst (λ z. DoubleQuoted t n c i (next t k) (pieces z)) (sym (between (char (code t i)) (char (code t k)) y)) d
