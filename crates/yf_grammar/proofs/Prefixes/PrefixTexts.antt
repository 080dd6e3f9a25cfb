-- Two texts that are alike up to an offset at which a line begins, since a break ends there in both. A text and its
-- prefix up to the end of a break are such texts.
use Rattle.std.proofs.Common.{◌≡◌, ◌≢◌, ℕ, ◌+◌, ◌-◌, ◌<◌, ◌≤◌, ◌⊎◌, inl, inr, ⊎_elim, true, false, List, ◌++◌, length, take, drop, get_or-take, refl, sym, ap, ◌∙◌, subst, arith, append_assoc, lt-ltb}
use Rattle.std.proofs.lemmas.Bool.{cases_Bool, cases_eq, cases_lt}
use Rattle.std.proofs.lemmas.List.{take-take, drop-take, length-take-le, take-append-drop, drop-append-le}
use Rattle.std.proofs.lemmas.Str as S
use Rattle.std.specs.List.{slice_range}
use Rattle.std.specs.Char.{len_utf8}
use Rattle.std.specs.Str.{chars, IsCharBoundary, IsUtf8}
use lib.Utf8.{encode}
use Rattle.yf_chars.specs.Text.{no_char, begins, code, next, before, last_or}
use Rattle.yf_chars.proofs.TextLemmas.{boundary_from_begins, reads_char, drop_there, code-nowhere, code-past}
use Rattle.yf_lines.specs.Basic.{Break}
use Rattle.yf_lines.proofs.BasicLemmas.{break_end, break_forward}
use Rattle.yf_lines.proofs.LineLemmas.{break_boundary}

-- the last character of a break: a line feed, or a carriage return
abbrev pub FeedOrReturn : ℕ → Type 0
FeedOrReturn c = (c ≡ 10) ⊎ (c ≡ 13)

pub record Alike (t s : List ℕ) (k : ℕ) : Type 0 where
  pub utf8 : IsUtf8 t
  pub utf8_there : IsUtf8 s
  pub within : k ≤ length t
  pub within_there : k ≤ length s
  pub later : 0 < k
  pub bytes : take k t ≡ take k s
  pub codes : (i : ℕ) → i < k → code t i ≡ code s i
  pub last : FeedOrReturn (code t (k - 1))
  pub apart : code t (k - 1) ≡ 13 → code t k ≢ 10
  pub apart_there : code s (k - 1) ≡ 13 → code s k ≢ 10

module _ {t s : List ℕ} {k : ℕ} (a : Alike t s k) where
  alike_last : FeedOrReturn (code s (k - 1))
  alike_last = let l = a.later in subst FeedOrReturn (a.codes (k - 1) (omega arith)) a.last

  pub alike_back : Alike s t k
  alike_back = record {
    utf8 = a.utf8_there;
    utf8_there = a.utf8;
    within = a.within_there;
    within_there = a.within;
    later = a.later;
    bytes = sym a.bytes;
    codes = λ i l. sym (a.codes i l);
    last = alike_last;
    apart = a.apart_there;
    apart_there = a.apart;
  }

  pub alike_next : (i : ℕ) → i < k → next t i ≡ next s i
  unfolding next
  alike_next i l = ap (λ c. i + len_utf8 c) (a.codes i l)

  alike_take : (i : ℕ) → i ≤ k → take i t ≡ take i s
  alike_take i l = sym (take-take i k t l) ∙ ap (take i) a.bytes ∙ take-take i k s l

  pub alike_before : (i : ℕ) → i ≤ k → before t i ≡ before s i
  unfolding before
  alike_before i l = ap (λ w. last_or no_char (chars w)) (alike_take i l)

  pub alike_between : (i j : ℕ) → j ≤ k → take (j - i) (drop i t) ≡ take (j - i) (drop i s)
  alike_between i j l = ⊎_elim
      (λ (h : i ≤ j).
      let m : i + (j - i) ≡ j = omega arith in
      sym (drop-take i (j - i) t) ∙ ap (λ w. drop i (take w t)) m ∙ ap (drop i) (alike_take j l)
      ∙ ap (λ w. drop i (take w s)) (sym m) ∙ drop-take i (j - i) s)
      (λ (h : j < i).
      let m : j - i ≡ 0 = omega arith in
      ap (λ w. take w (drop i t)) m ∙ ap (λ w. take w (drop i s)) (sym m))
      (cases_le i j) where
        cases_le : (i j : ℕ) → (i ≤ j) ⊎ (j < i)
        cases_le i j = ⊎_elim (λ (h : j < i). inr h) (λ (h : i ≤ j). inl h) (cases_lt j i)

  pub alike_slice : (i j : ℕ) → j ≤ k → slice_range t i j ≡ slice_range s i j
  alike_slice i j l = alike_between i j l

  -- a character that ends no line is not the last one
  pub goes_on : (i : ℕ) → i < k → code t i ≢ 10 → code t i ≢ 13 → i + 1 < k
  goes_on i l m n = ⊎_elim
      (λ (e : i ≡ k - 1). absurd (⊎_elim (λ (q : code t (k - 1) ≡ 10). m (ap (code t) e ∙ q)) (λ (q : code t (k - 1) ≡ 13). n (ap (code t) e ∙ q)) a.last))
      (λ (e : i ≢ k - 1). omega arith)
      (cases_eq i (k - 1))

  pub goes_on_at : (c : ℕ) (i : ℕ) → i < k → code t i ≡ c → c ≢ 10 → c ≢ 13 → i + 1 < k
  goes_on_at c i l e m n = goes_on i l (λ q. m (sym e ∙ q)) (λ q. n (sym e ∙ q))

-- parts of a text are in its prefix
module _ (t : List ℕ) (k : ℕ) (u : IsUtf8 t) (b : IsCharBoundary t k) where
  prefix_utf8 : IsUtf8 (take k t)
  prefix_utf8 = S.IsUtf8-take t k u b

  prefix_length : length (take k t) ≡ k
  prefix_length = length-take-le k t b.0

  begins_in_prefix : (i : ℕ) → i < k → begins (take k t) i ≡ begins t i
  unfolding begins
  begins_in_prefix i l =
      let n = prefix_length in
      let w = b.0 in
      rw (get_or-take k t i 0 l, lt-ltb i (length (take k t)) (omega arith), lt-ltb i (length t) (omega arith)) refl

  code_in_prefix : (i : ℕ) → i < k → code t i ≡ code (take k t) i
  code_in_prefix i l = ⊎_elim
      (λ (e : begins (take k t) i ≡ true).
      let cut = drop_there (take k t) i prefix_utf8 e in
      let n = prefix_length in
      let all : drop i t ≡ drop i (take k t) ++ drop k t =
      ap (drop i) (sym (take-append-drop k t)) ∙ drop-append-le i (take k t) (drop k t) (omega arith) in
      let is : drop i t ≡ encode (code (take k t) i) ++ (cut.0 ++ drop k t) =
      all ∙ ap (λ w. w ++ drop k t) cut.1 ∙ append_assoc (encode (code (take k t) i)) cut.0 (drop k t) in
      let there : begins t i ≡ true = sym (begins_in_prefix i l) ∙ e in
      (reads_char t i (code (take k t) i) (cut.0 ++ drop k t) u (boundary_from_begins t i there) (omega (arith, b.0)) is).char)
      (λ (e : begins (take k t) i ≡ false).
      code-nowhere t i (sym (begins_in_prefix i l) ∙ e) ∙ sym (code-nowhere (take k t) i e))
      (cases_Bool (begins (take k t) i))

  last_before : {i : ℕ} → Break t i k → FeedOrReturn (code t (k - 1))
  last_before d = ⊎_elim (λ (e : code t (k - 1) ≡ 10). inl e) (λ (e : (code t (k - 1) ≡ 13) × (code t k ≢ 10)). inr e.0) (break_end d)

  prefix_alike : {i : ℕ} → Break t i k → Alike t (take k t) k
  prefix_alike {i} d = let n = prefix_length in let f = break_forward d in record {
    utf8 = u;
    utf8_there = prefix_utf8;
    within = b.0;
    within_there = omega arith;
    later = omega arith;
    bytes = sym (take-take k k t (omega arith));
    codes = λ i l. code_in_prefix i l;
    last = last_before d;
    apart = λ e. ⊎_elim (λ (q : code t (k - 1) ≡ 10). absurd (omega arith)) (λ (q : (code t (k - 1) ≡ 13) × (code t k ≢ 10)). q.1) (break_end d);
    apart_there = λ e q. let past = code-past (take k t) k (omega arith) in absurd (omega arith);
  }

-- a text and its prefix up to the end of a break
pub prefix : {t : List ℕ} {i j : ℕ} → IsUtf8 t → Break t i j → Alike t (take j t) j
prefix {t} {i} {j} u d = prefix_alike t j u (break_boundary u d) d

pub prefix_end : {t : List ℕ} {i j : ℕ} → IsUtf8 t → Break t i j → length (take j t) ≡ j
prefix_end {t} {i} {j} u d = prefix_length t j u (break_boundary u d)
