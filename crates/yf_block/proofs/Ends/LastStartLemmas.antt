-- A walk over the breaks of a text, which keeps the last line start before an offset.
use Rattle.std.proofs.Common.{◌≡◌, ℕ, ◌+◌, ◌-◌, ◌<◌, ◌≤◌, List, Option, Some, None, length, ap, ◌∙◌, subst, arith, ⊎_elim}
use Rattle.std.proofs.lemmas.Bool.{cases_lt}
use Rattle.std.specs.Str.{IsUtf8}
use Rattle.yf_chars.specs.Chain.{Nowhere}
use Rattle.yf_chars.specs.Text.{code, no_char, CharAt}
use Rattle.yf_chars.proofs.TextLemmas.{code-past}
use Rattle.yf_lines.specs.Basic.{Break, cr_lf, lone_cr, lone_lf}
use Rattle.yf_lines.proofs.BasicLemmas.{break_char, break_forward, break_unique}
use Rattle.yf_lines.proofs.ClearLemmas.{code_inside}
use Rattle.yf_block.specs.LastStarts.{LastStartIs}

-- of the breaks that begin before an offset
pub record StartSoFar (t : List ℕ) (from end at p : ℕ) : Type 0 where
  pub begins : ℕ
  pub later : from ≤ begins
  pub ended : Break t begins p
  pub earlier : p < end
  pub last : (i q : ℕ) → from ≤ i → i < at → Break t i q → q < end → q ≤ p

abbrev pub SoFar : List ℕ → ℕ → ℕ → ℕ → Option ℕ → Type 0
SoFar t from end at None = (i q : ℕ) → from ≤ i → i < at → Break t i q → q < end → ⊥
SoFar t from end at (Some p) = StartSoFar t from end at p

-- a break begins with a character
no_break_there : {t : List ℕ} {i q : ℕ} → code t i ≡ no_char → Break t i q → ⊥
no_break_there e b = ⊎_elim (λ c. omega (arith, e, c)) (λ c. omega (arith, e, c)) (break_char b)

-- a break ends at most two characters after its start
break_short : {t : List ℕ} {i q : ℕ} → Break t i q → q ≤ i + 2
break_short (cr_lf a b) = omega arith
break_short (lone_cr a b) = omega arith
break_short (lone_lf a b) = omega arith

-- no break begins within a break
none_within : {t : List ℕ} {i j k q : ℕ} → Break t i j → i < k → k < j → Break t k q → ⊥
none_within {t} {i = i} {k = k} (cr_lf a b) l m n = go n (let e : k ≡ i + 1 = omega (arith, l, m) in e) where
  go : {k q : ℕ} → Break t k q → k ≡ i + 1 → ⊥
  go (cr_lf c d) e = let f = ap (λ (z : ℕ). code t z) e in omega (arith, b, c, f)
  go (lone_cr c d) e = let f = ap (λ (z : ℕ). code t z) e in omega (arith, b, c, f)
  go {k = h} (lone_lf c d) e = d (ap (λ (z : ℕ). code t z) (let f : h - 1 ≡ i = omega (arith, e) in f) ∙ a)
none_within (lone_cr a b) l m n = omega (arith, l, m)
none_within (lone_lf a b) l m n = omega (arith, l, m)

pub none_walked : (t : List ℕ) (from end : ℕ) → SoFar t from end from None
none_walked t from end i q a b n l = omega (arith, a, b)

-- a break that ends too late
late : {t : List ℕ} {end at j i q : ℕ} → Break t at j → end ≤ j → at ≤ i → i < j → Break t i q → q < end → ⊥
late {t} {end} {at} {j} {i} {q} b l e d n m = ⊎_elim
    (λ (f : at < i). none_within b f d n)
    (λ (f : i ≤ at).
    let g : i ≡ at = omega (arith, e, f) in
    let h = break_unique (subst (λ (z : ℕ). Break t z q) g n) b in
    omega (arith, h, l, m))
    (cases_lt at i)

-- a character that begins no break
no_break_from : {t : List ℕ} {at c j i q : ℕ} → IsUtf8 t → CharAt t at c j → Nowhere (Break t at) → at ≤ i → i < j → Break t i q → ⊥
no_break_from {t} {at} {i = i} {q} u r n e d b = ⊎_elim
    (λ (f : at < i). no_break_there (code_inside u r f d) b)
    (λ (f : i ≤ at). let g : i ≡ at = omega (arith, e, f) in n.none q (subst (λ (z : ℕ). Break t z q) g b))
    (cases_lt at i)

module _ (t : List ℕ) (from end at : ℕ) where
  -- over a break before the other offset; and over one that ends at it, or later
  pub walk_break : {j : ℕ} (o : Option ℕ) → SoFar t from end at o → from ≤ at → Break t at j → j < end → SoFar t from end j (Some j)
  walk_break {j} o s a b l = record {
    begins = at;
    later = a;
    ended = b;
    earlier = l;
    last = λ i q c d n m. ⊎_elim
        (λ (e : i < at). let f = break_short n in let g = break_forward b in omega (arith, e, f, g))
        (λ (e : at ≤ i). before i q e d n)
        (cases_lt i at);
  } where
    before : (i q : ℕ) → at ≤ i → i < j → Break t i q → q ≤ j
    before i q e d n = ⊎_elim
        (λ (f : at < i). absurd (none_within b f d n))
        (λ (f : i ≤ at).
        let g : i ≡ at = omega (arith, e, f) in
        let h = break_unique (subst (λ (z : ℕ). Break t z q) g n) b in
        omega (arith, h))
        (cases_lt at i)

  pub walk_late : {j : ℕ} (o : Option ℕ) → SoFar t from end at o → Break t at j → end ≤ j → SoFar t from end j o
  walk_late {j} None s b l = λ i q c d n m. ⊎_elim (λ (e : i < at). s i q c e n m) (λ (e : at ≤ i). late b l e d n m) (cases_lt i at)
  walk_late {j} (Some p) s b l = record {
    begins = s.begins;
    later = s.later;
    ended = s.ended;
    earlier = s.earlier;
    last = λ i q c d n m. ⊎_elim (λ (e : i < at). s.last i q c e n m) (λ (e : at ≤ i). absurd (late b l e d n m)) (cases_lt i at);
  }

  -- over a character that begins no break
  pub walk_char : {c j : ℕ} (o : Option ℕ) → SoFar t from end at o → IsUtf8 t → CharAt t at c j → Nowhere (Break t at) → SoFar t from end j o
  walk_char None s u r n = λ i q k d b m. ⊎_elim (λ (e : i < at). s i q k e b m) (λ (e : at ≤ i). no_break_from u r n e d b) (cases_lt i at)
  walk_char (Some p) s u r n = record {
    begins = s.begins;
    later = s.later;
    ended = s.ended;
    earlier = s.earlier;
    last = λ i q k d b m. ⊎_elim (λ (e : i < at). s.last i q k e b m) (λ (e : at ≤ i). absurd (no_break_from u r n e d b)) (cases_lt i at);
  }

  -- the walk has passed all breaks
  all_walked : (o : Option ℕ) → SoFar t from end at o → ((i q : ℕ) → Break t i q → q < end → i < at) → LastStartIs t from end o
  all_walked None s a = λ i q k b m. s i q k (a i q b m) b m
  all_walked (Some p) s a = record { begins = s.begins; later = s.later; ended = s.ended; earlier = s.earlier; last = λ i q k b m. s.last i q k (a i q b m) b m }

  pub walk_ends : (o : Option ℕ) → SoFar t from end at o → end ≤ at → LastStartIs t from end o
  walk_ends o s l = all_walked o s (λ i q b m. let f = break_forward b in omega (arith, f, m, l))

  pub walk_stops : (o : Option ℕ) → SoFar t from end at o → at ≡ length t → LastStartIs t from end o
  walk_stops o s e = all_walked o s (λ i q b m. ⊎_elim (λ (f : i < at). f) (λ (f : at ≤ i). absurd (no_break_there (code-past t i (omega (arith, e, f))) b)) (cases_lt i at))
