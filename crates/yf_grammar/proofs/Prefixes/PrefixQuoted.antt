-- A prefix derives escapes and quoted scalars as the text does.
use Rattle.std.proofs.Common.{◌≡◌, ℕ, zero, suc, ◌+◌, ◌*◌, ◌<◌, ◌≤◌, ℤ, ⊎_elim, false, List, refl, sym, ap, ◌∙◌, subst, arith}
use Rattle.std.proofs.lemmas.Bool.{cases_lt}
use Rattle.std.specs.Char.{digit_value}
use Rattle.yf_chars.specs.Text.{code, no_char}
use Rattle.yf_chars.specs.Class.{is_white, is_nb_json}
use Rattle.yf_chars.specs.Escape.{named, number, Digits, NumericEscape, NoLow, Escape, by_letter, by_two, by_four, by_half, by_pair, by_eight}
use Rattle.yf_chars.specs.declared.context.Ctx.{Ctx}
use Rattle.yf_chars.proofs.EscapeLemmas.{digit_below, escape_forward}
use Rattle.yf_chars.proofs.TextLemmas.{next_later, code-past}
use Rattle.yf_lines.proofs.BasicLemmas.{break_forward}
use Rattle.yf_quoted.specs.Quoted.{Item, Rest, Inside, QuotedScalar, SingleChar, doubled, unquoted, as_they_are, SingleQuoted, Piece, goods, DoubleChar, unescaped, escaped, wrong, DoubleBreak, folded_break, escaped_break, DoubleQuoted}
use Rattle.yf_quoted.specs.Quoted as Q
use Rattle.yf_grammar.proofs.Ends.Forward.{Onward, quoted_rest_order}
use Rattle.yf_grammar.proofs.Prefixes.PrefixTexts.{Alike, alike_back, alike_next}
use Rattle.yf_grammar.proofs.Prefixes.PrefixLines.{Carried, chain_order, chain_there, passes_there, char_there, not_there, run_there, run_order, break_there, prefix_there, prefix_order, empties_there, empties_order, fold_carried, clear_there}
use Rattle.yf_grammar.proofs.Prefixes.PrefixComments.{PrefixText}
use Rattle.yf_chars.proofs.CharFacts.{end_no_white}

module _ {t s : List ℕ} {k : ℕ} (a : Alike t s k) where
  number_there : (i m : ℕ) → i + m ≤ k → number t i m ≡ number s i m
  unfolding number
  number_there i zero l = refl
  number_there i (suc m) l =
      let e = number_there i m (omega arith) in
      let c = a.codes (i + m) (omega arith) in
      ap (λ w. w * 16 + digit_value (code t (i + m))) e ∙ ap (λ w. number s i m * 16 + digit_value w) c

  digits_there : {i m v : ℕ} → Digits t i m v → i + m ≤ k → Digits s i m v
  digits_there {i} {m} {v} d l = record {
    each = λ q h. subst (λ c. digit_value c < 16) (a.codes (i + q) (omega arith)) (d.each q h);
    value = sym (number_there i m l) ∙ d.value;
  }

  numbered_there : {i c m v : ℕ} → NumericEscape t i c m v → i + 2 + m ≤ k → NumericEscape s i c m v
  numbered_there {i} {c} {m} {v} d l = record {
    backslash = char_there a i (omega arith) d.backslash;
    letter = char_there a (i + 1) (omega arith) d.letter;
    digits = digits_there d.digits l;
  }

module _ {t s : List ℕ} {k : ℕ} (f : PrefixText t s k) where
  no_low_in_prefix : {i : ℕ} → NoLow t i → NoLow s i
  no_low_in_prefix {i} n = record { none = λ v d e. n.none v (back v d) e } where
    back : (v : ℕ) → NumericEscape s i 117 4 v → NumericEscape t i 117 4 v
    back v d =
        let low = digit_below (code s (i + 2 + 3)) (d.digits.each 3 (omega arith)) in
        let c = f.closed in
        let w : i + 2 + 3 < k = ⊎_elim (λ (l : i + 2 + 3 < k). l) (λ (l : k ≤ i + 2 + 3). let p = code-past s (i + 2 + 3) (omega arith) in absurd (omega arith)) (cases_lt (i + 2 + 3) k) in
        numbered_there (alike_back f.alike) d (omega arith)

  escape_in_prefix : {i j v : ℕ} → Escape t i j v → j ≤ k → Escape s i j v
  escape_in_prefix (by_letter {i = i} {v = v} e d) l =
      let c = f.alike.codes (i + 1) (omega arith) in
      by_letter (char_there f.alike i (omega arith) e) (ap named (sym c) ∙ d)
  escape_in_prefix (by_two d) l = by_two (numbered_there f.alike d (omega arith))
  escape_in_prefix (by_four d e) l = by_four (numbered_there f.alike d (omega arith)) e
  escape_in_prefix (by_half d e n) l = by_half (numbered_there f.alike d (omega arith)) e (no_low_in_prefix n)
  escape_in_prefix (by_pair d e g h) l = by_pair (numbered_there f.alike d (omega arith)) e (numbered_there f.alike g (omega arith)) h
  escape_in_prefix (by_eight d) l = by_eight (numbered_there f.alike d (omega arith))

  single_carried : Carried k (SingleChar t) (SingleChar s)
  single_carried = record { order = λ i j x d. order d; there = λ i j x d l. there d l } where
    order : {i j : ℕ} {x : List ℕ} → SingleChar t i j x → i ≤ j
    order (doubled e d) = omega arith
    order (unquoted {i = i} e n) = let g = next_later t i in omega arith

    there : {i j : ℕ} {x : List ℕ} → SingleChar t i j x → j ≤ k → SingleChar s i j x
    there (doubled {i = i} e d) l = doubled (char_there f.alike i (omega arith) e) (char_there f.alike (i + 1) (omega arith) d)
    there (unquoted {i = i} e n) l =
        let g = next_later t i in
        let m : i < k = omega arith in
        rw (alike_next f.alike i m, f.alike.codes i m) (unquoted (passes_there f.alike is_nb_json i m e) (not_there f.alike i m n))

  double_carried : Carried k (DoubleChar t) (DoubleChar s)
  double_carried = record { order = λ i j x d. order d; there = λ i j x d l. there d l } where
    order : {i j : ℕ} {x : List Piece} → DoubleChar t i j x → i ≤ j
    order (unescaped {i = i} e n m) = let g = next_later t i in omega arith
    order (escaped e v) = let g = escape_forward e in omega arith
    order (wrong e v) = let g = escape_forward e in omega arith

    there : {i j : ℕ} {x : List Piece} → DoubleChar t i j x → j ≤ k → DoubleChar s i j x
    there (unescaped {i = i} e n m) l =
        let g = next_later t i in
        let q : i < k = omega arith in
        rw (alike_next f.alike i q, f.alike.codes i q) (unescaped (passes_there f.alike is_nb_json i q e) (not_there f.alike i q n) (not_there f.alike i q m))
    there (escaped e v) l = escaped (escape_in_prefix e l) v
    there (wrong e v) l = wrong (escape_in_prefix e l) v

  double_break_carried : (n : ℤ) → Carried k (DoubleBreak t n) (DoubleBreak s n)
  double_break_carried n = record { order = λ i j x d. order d; there = λ i j x d l. there d l } where
    order : {i j : ℕ} {x : List Piece} → DoubleBreak t n i j x → i ≤ j
    order (folded_break {i = i} {j = j} {x = x} d) = (fold_carried f.alike n).order i j x d
    order (escaped_break m e b c p) =
        let g = run_order f.alike m in let h = break_forward b in let o = empties_order f.alike c in let q = prefix_order p in omega arith

    there : {i j : ℕ} {x : List Piece} → DoubleBreak t n i j x → j ≤ k → DoubleBreak s n i j x
    there (folded_break {i = i} {j = j} {x = x} d) l = folded_break ((fold_carried f.alike n).there i j x d l)
    there (escaped_break {h = at} m e b c p) l =
        let h = break_forward b in let o = empties_order f.alike c in let q = prefix_order p in
        escaped_break (run_there f.alike m (omega arith)) (char_there f.alike at (omega arith) e) (break_there f.alike b (omega arith)) (empties_there f.alike c (omega arith)) (prefix_there f.alike p l)

  pub no_white_in_prefix : (i : ℕ) → is_white (code t i) ≡ false → is_white (code s i) ≡ false
  no_white_in_prefix i e = ⊎_elim
      (λ (l : i < k). ap is_white (sym (f.alike.codes i l)) ∙ e)
      (λ (l : k ≤ i). let c = f.closed in ap is_white (code-past s i (omega arith)) ∙ end_no_white)
      (cases_lt i k)

onward : {A : Type 0} {k : ℕ} {S R : ℕ → ℕ → List A → Type 0} → Carried k S R → Onward S
onward c = record { order = λ i j x d. c.order i j x d }

module _ {A : Type 0} {t s : List ℕ} {k : ℕ} {put : List ℕ → List A} {C D B E : ℕ → ℕ → List A → Type 0} (f : PrefixText t s k) (c : Carried k C D) (b : Carried k B E) where
  quoted_item_carried : Carried k (Item t put C) (Item s put D)
  quoted_item_carried = record { order = λ i j x d. order d; there = λ i j x d l. there d l } where
    order : {i j : ℕ} {x : List A} → Item t put C i j x → i ≤ j
    order (Q.set_off {h = h} {j = j} {y = y} m n d) = let g = run_order f.alike m in let o = c.order h j y d in omega arith

    there : {i j : ℕ} {x : List A} → Item t put C i j x → j ≤ k → Item s put D i j x
    there (Q.set_off {h = h} {j = j} {y = y} m n d) l =
        let o = c.order h j y d in
        Q.set_off (run_there f.alike m (omega arith)) (no_white_in_prefix f h n) (c.there h j y d l)

  quoted_rest_in_prefix : {i j : ℕ} {x : List A} → Rest t put C B i j x → j ≤ k → Rest s put D E i j x
  quoted_rest_in_prefix (Q.blank m) l = Q.blank (run_there f.alike m l)
  quoted_rest_in_prefix (Q.last_break {i = i} {j = j} {x = x} d) l = Q.last_break (b.there i j x d l)
  quoted_rest_in_prefix (Q.next_line {i = i} {h = h} {k = g} {x = x} {y = y} d n e m r) l =
      let p = c.order h g y e in let q = chain_order quoted_item_carried m in let w = quoted_rest_order (onward c) (onward b) r in
      Q.next_line (b.there i h x d (omega arith)) (no_white_in_prefix f h n) (c.there h g y e (omega arith)) (chain_there quoted_item_carried m (omega arith)) (quoted_rest_in_prefix r l)

  inside_order : {o : Ctx} {i j : ℕ} {x : List A} → Inside t put C B o i j x → i ≤ j
  inside_order (Q.as_key q m) = chain_order c m
  inside_order (Q.as_lines q m r) = let g = chain_order quoted_item_carried m in let h = quoted_rest_order (onward c) (onward b) r in omega arith

  inside_in_prefix : {o : Ctx} {i j : ℕ} {x : List A} → Inside t put C B o i j x → j ≤ k → Inside s put D E o i j x
  inside_in_prefix (Q.as_key q m) l = Q.as_key q (chain_there c m l)
  inside_in_prefix (Q.as_lines q m r) l =
      let h = quoted_rest_order (onward c) (onward b) r in
      Q.as_lines q (chain_there quoted_item_carried m (omega arith)) (quoted_rest_in_prefix r l)

  quoted_in_prefix : {o : Ctx} {quote i j : ℕ} {x : List A} → QuotedScalar t put C B o quote i j x → j ≤ k → QuotedScalar s put D E o quote i j x
  quoted_in_prefix {i = i} q l =
      let g = inside_order q.inside in
      let e = q.end in
      record {
        close = q.close;
        opening = char_there f.alike i (omega arith) q.opening;
        inside = inside_in_prefix q.inside (omega arith);
        closing = char_there f.alike q.close (omega arith) q.closing;
        end = q.end;
        clear = clear_there f.alike q.clear l;
      }

module _ {t s : List ℕ} {k : ℕ} (f : PrefixText t s k) where
  pub single_in_prefix : {n : ℤ} {c : Ctx} {i j : ℕ} {x : List ℕ} → SingleQuoted t n c i j x → j ≤ k → SingleQuoted s n c i j x
  single_in_prefix {n} q l = quoted_in_prefix f (single_carried f) (fold_carried f.alike n) q l

  pub double_in_prefix : {n : ℤ} {c : Ctx} {i j : ℕ} {x : List Piece} → DoubleQuoted t n c i j x → j ≤ k → DoubleQuoted s n c i j x
  double_in_prefix {n} q l = quoted_in_prefix f (double_carried f) (double_break_carried f n) q l
