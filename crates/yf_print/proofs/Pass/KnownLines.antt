-- The starts of lines in the source, searched back step by step, give the columns of the definition.
use Rattle.std.proofs.Common.{◌≡◌, ℕ, zero, suc, ◌+◌, ◌-◌, ◌<◌, ◌≤◌, Bool, true, false, List, [], ◌∷◌, Option, Some, None, refl, sym, ap, ◌∙◌, arith, add-zero, zero-add}
use Rattle.std.specs.Prelude.{◌==◌, nat_lt, option_map, if◌then◌else◌}
use Rattle.std.proofs.lemmas.Bool.{ne_eqb}
use Rattle.std.proofs.lemmas.Bool.Decides.{nat_tests}
use Rattle.std.proofs.lemmas.Option.{same_Some}
use Rattle.yf_chars.specs.Class.{is_break_char, is_white}
use Rattle.yf_chars.specs.Signs.{BYTE_ORDER_MARK}
use Rattle.yf_chars.specs.Text.{code}
use Rattle.yf_print.specs.declared.source_columns.KnownLine.{KnownLine}
use Rattle.yf_print.specs.Layouts.KeptColumns.{block_of}
use Rattle.yf_print.specs.Layouts.Rows.{Start}
use Rattle.yf_print.specs.Layouts.SourceColumns.{column_by, is_white_or_sign, own_column, source_column}
use Rattle.yf_print.specs.Passes.Drafts.{block_since}
use Rattle.yf_print.specs.Passes.KnownLines.{column_if, known_after, known_before, start_after, start_on, start_since, text_start}

-- One character back.

module _ (p : ℕ → Bool) (t : List ℕ) (k : KnownLine) (end at : ℕ) (l : k.offset < end) (e : at ≡ end - 1) where
  by_parts : (b q m : Bool) → is_break_char (code t at) ≡ b → p (code t at) ≡ q → (code t (at - 2) == BYTE_ORDER_MARK) ≡ m
      → start_on p t k (end - k.offset) ≡ (if b then Some end else if q then start_on p t k (at - k.offset) else if m then Some end else None)
  unfolding start_on
  by_parts b q m f g h =
      let n : ℕ = at - k.offset in
      let one : end - k.offset ≡ suc n = omega (arith, l, e) in
      let there : k.offset + n ≡ at = omega (arith, l, e) in
      let next : suc at ≡ end = omega (arith, l, e) in
      ap (start_on p t k) one
      ∙ (ap (λ z. start_after p (code t z) (code t (z - 2)) (suc z) (start_on p t k n)) there
      ∙ (ap (λ z. start_after p (code t at) (code t (at - 2)) z (start_on p t k n)) next
      ∙ (ap (λ z. if z then Some end else if p (code t at) then start_on p t k n else if code t (at - 2) == BYTE_ORDER_MARK then Some end else None) f
      ∙ (ap (λ z. if b then Some end else if z then start_on p t k n else if code t (at - 2) == BYTE_ORDER_MARK then Some end else None) g
      ∙ ap (λ z. if b then Some end else if q then start_on p t k n else if z then Some end else None) h))))

  module _ (all : Option ℕ) (h : start_on p t k (end - k.offset) ≡ all) where
    pub after_break : is_break_char (code t at) ≡ true → Some end ≡ all
    after_break f = sym (by_parts true (p (code t at)) (code t (at - 2) == BYTE_ORDER_MARK) f refl refl) ∙ h

    pub after_counted : is_break_char (code t at) ≡ false → p (code t at) ≡ true → start_on p t k (at - k.offset) ≡ all
    after_counted f g = sym (by_parts false true (code t (at - 2) == BYTE_ORDER_MARK) f g refl) ∙ h

    pub after_mark : is_break_char (code t at) ≡ false → p (code t at) ≡ false → (code t (at - 2) == BYTE_ORDER_MARK) ≡ true
        → Some end ≡ all
    after_mark f g m = sym (by_parts false false true f g m) ∙ h

    pub after_other : is_break_char (code t at) ≡ false → p (code t at) ≡ false → (code t (at - 2) == BYTE_ORDER_MARK) ≡ false → None ≡ all
    after_other f g m = sym (by_parts false false false f g m) ∙ h

pub at_known : (p : ℕ → Bool) (t : List ℕ) (k : KnownLine) (end : ℕ) (all : Option ℕ) → end ≤ k.offset
    → start_on p t k (end - k.offset) ≡ all → k.start ≡ all
unfolding start_on
at_known p t k end all l h = let none : 0 ≡ end - k.offset = omega (arith, l) in ap (start_on p t k) none ∙ h

pub is_mark : (t : List ℕ) (at k : ℕ) → k ≡ at - 2 → code t k ≡ BYTE_ORDER_MARK → (code t (at - 2) == BYTE_ORDER_MARK) ≡ true
is_mark t at k e f = ap (λ z. code t z == BYTE_ORDER_MARK) (sym e) ∙ (ap (λ z. z == BYTE_ORDER_MARK) f ∙ refl)

pub not_mark : (t : List ℕ) (at k : ℕ) → k ≡ at - 2 → (code t k ≡ BYTE_ORDER_MARK → ⊥) → (code t (at - 2) == BYTE_ORDER_MARK) ≡ false
not_mark t at k e f = ap (λ z. code t z == BYTE_ORDER_MARK) (sym e) ∙ ne_eqb (code t k) BYTE_ORDER_MARK f

-- Columns.

start_within : (p : ℕ → Bool) (t : List ℕ) (n s : ℕ) → start_on p t text_start n ≡ Some s → s ≤ n
unfolding start_on
start_within p t zero s e = let same : 0 ≡ s = same_Some 0 s e in omega (arith, same)
start_within p t (suc n) s e = go (is_break_char (code t (0 + n))) (p (code t (0 + n))) (code t (0 + n - 2) == BYTE_ORDER_MARK) (start_within p t n s) e where
  next : Some (suc (0 + n)) ≡ Some s → s ≤ suc n
  next f = let same : suc (0 + n) ≡ s = same_Some (suc (0 + n)) s f in omega (arith, same)

  go : (b q m : Bool) → (start_on p t text_start n ≡ Some s → s ≤ n)
      → (if b then Some (suc (0 + n)) else if q then start_on p t text_start n else if m then Some (suc (0 + n)) else None) ≡ Some s
      → s ≤ suc n
  go true q m rest f = next f
  go false true m rest f = let within : s ≤ n = rest f in omega (arith, within)
  go false false true rest f = next f
  go false false false rest f = absurd cc

-- the column from the start of the line
pub column_is : (p : ℕ → Bool) (t : List ℕ) (i : ℕ) → option_map (λ s. i - s) (start_on p t text_start i) ≡ column_by p t i
unfolding start_on column_by
column_is p t zero = refl
column_is p t (suc i) =
    ap (λ z. option_map (λ s. suc i - s) (start_after p (code t z) (code t (z - 2)) (suc z) (start_on p t text_start i))) (zero-add i)
    ∙ go (is_break_char (code t i)) (p (code t i)) (code t (i - 2) == BYTE_ORDER_MARK) (start_on p t text_start i) (λ s e. start_within p t i s e) (column_is p t i) where
      begins : option_map (λ s. suc i - s) (Some (suc i)) ≡ Some 0
      begins = let none : suc i - suc i ≡ 0 = omega arith in ap Some none

      further : (o : Option ℕ) → ((s : ℕ) → o ≡ Some s → s ≤ i) → option_map (λ s. suc i - s) o ≡ option_map suc (option_map (λ s. i - s) o)
      further None within = refl
      further (Some s) within = let l : s ≤ i = within s refl in let one : suc i - s ≡ suc (i - s) = omega (arith, l) in ap Some one

      go : (b q m : Bool) (o : Option ℕ) → ((s : ℕ) → o ≡ Some s → s ≤ i) → option_map (λ s. i - s) o ≡ column_by p t i
          → option_map (λ s. suc i - s) (if b then Some (suc i) else if q then o else if m then Some (suc i) else None) ≡ (if b then Some 0 else if q then option_map suc (column_by p t i) else if m then Some 0 else None)
      go true q m o within h = begins
      go false true m o within h = further o within ∙ ap (option_map suc) h
      go false false true o within h = begins
      go false false false o within h = refl

pub own_is : (t : List ℕ) (i : ℕ) (start : Option ℕ) → start ≡ start_since is_white t text_start i
    → option_map (λ s. i - s) start ≡ own_column t i
own_is t i start e =
    let all : i - 0 ≡ i = omega arith in
    ap (option_map (λ s. i - s)) (e ∙ ap (start_on is_white t text_start) all) ∙ column_is is_white t i

-- The known lines of entries.

pub record IsKnown (t : List ℕ) (k : KnownLine) : Type 0 where
  pub is : k.start ≡ start_on is_white_or_sign t text_start k.offset

pub text_known : (t : List ℕ) → IsKnown t text_start
unfolding start_on
text_known t = record { is = refl }

on_again : (t : List ℕ) (k : KnownLine) (n : ℕ) → IsKnown t k
    → start_on is_white_or_sign t k n ≡ start_on is_white_or_sign t text_start (k.offset + n)
unfolding start_on
on_again t k zero a = a.is ∙ ap (start_on is_white_or_sign t text_start) (sym (add-zero k.offset))
on_again t k (suc n) a =
    let more : suc (k.offset + n) ≡ k.offset + suc n = omega arith in
    ap (λ o. start_after is_white_or_sign (code t (k.offset + n)) (code t (k.offset + n - 2)) (suc (k.offset + n)) o) (on_again t k n a)
    ∙ (ap (λ z. start_after is_white_or_sign (code t z) (code t (z - 2)) (suc z) (start_on is_white_or_sign t text_start (k.offset + n))) (sym (zero-add (k.offset + n)))
    ∙ ap (start_on is_white_or_sign t text_start) more)

start_is : (t : List ℕ) (k : KnownLine) (i : ℕ) → IsKnown t k
    → start_since is_white_or_sign t (known_before k i) i ≡ start_on is_white_or_sign t text_start i
start_is t k i a = go (nat_lt i k.offset) refl where
  go : (v : Bool) → nat_lt i k.offset ≡ v
      → start_since is_white_or_sign t (if v then text_start else k) i ≡ start_on is_white_or_sign t text_start i
  go true e = let all : i - 0 ≡ i = omega arith in ap (start_on is_white_or_sign t text_start) all
  go false e =
      let from : k.offset ≤ i = not_below i k.offset e in
      let there : k.offset + (i - k.offset) ≡ i = omega (arith, from) in
      on_again t k (i - k.offset) a ∙ ap (start_on is_white_or_sign t text_start) there where
        not_below : (m n : ℕ) → nat_lt m n ≡ false → n ≤ m
        not_below m n f = grind (arith, nat_tests)

pub known_on : (t : List ℕ) (k : KnownLine) (is : List ℕ) → IsKnown t k → IsKnown t (known_after t k is)
known_on t k [] a = a
known_on t k (i ∷ is) a = record { is = start_is t k i a }

source_is : (t : List ℕ) (k : KnownLine) (is : List ℕ) → IsKnown t k → column_if (known_after t k is) is ≡ source_column t is
source_is t k [] a = refl
source_is t k (i ∷ is) a = ap (option_map (λ s. i - s)) (start_is t k i a) ∙ column_is is_white_or_sign t i

pub block_is : (t : List ℕ) (k : KnownLine) (s : Start) → IsKnown t k → block_since t k s ≡ block_of t s
block_is t k s a = ap (λ o. record { source = o; printed = s.column; is_sequence = s.is_item }) (source_is t k s.offsets a)
