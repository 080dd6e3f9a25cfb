-- A prefix derives plain scalars as the text does.
use Rattle.std.proofs.Common.{◌≡◌, ℕ, ◌+◌, ◌<◌, ◌≤◌, ℤ, true, true≢false, List, sym, ap, ◌∙◌, subst, arith}
use Rattle.yf_chars.specs.Text.{code}
use Rattle.yf_chars.specs.Chain.{Chain}
use Rattle.yf_chars.specs.Class.{is_ns_char}
use Rattle.yf_chars.specs.declared.context.Ctx.{Ctx}
use Rattle.yf_chars.proofs.TextLemmas.{next_later}
use Rattle.yf_plain.specs.Plain.{is_plain_first, is_plain_char, PlainItem, set_off, PlainLine, one_line, PlainNext, next_line, PlainText, as_key, as_lines}
use Rattle.yf_plain.proofs.PlainLemmas.{plain_is_ns, first_is_ns, ns_cr}
use Rattle.yf_grammar.proofs.Prefixes.PrefixTexts.{Alike, goes_on, alike_next, alike_before}
use Rattle.yf_grammar.proofs.Prefixes.PrefixLines.{Carried, chain_there, fold_carried, run_order, run_there}
use Rattle.yf_chars.proofs.CharFacts.{feed_no_ns}
use Rattle.yf_plain.proofs.PlainOrder.{items_forward, nexts_forward}

module _ {t s : List ℕ} {k : ℕ} (a : Alike t s k) where
  -- a character that is visible is not the last one
  ns_goes_on : (i : ℕ) → i < k → is_ns_char (code t i) ≡ true → i + 1 < k
  ns_goes_on i l e = goes_on a i l
      (λ q. true≢false (sym e ∙ ap is_ns_char q ∙ feed_no_ns))
      (λ q. true≢false (sym e ∙ ap is_ns_char q ∙ ns_cr))

  pub plain_char_there : (c : Ctx) (i : ℕ) → i < k → is_plain_char t c i ≡ true → is_plain_char s c i ≡ true
  unfolding is_plain_char
  plain_char_there c i l e =
      let m = ns_goes_on i l (plain_is_ns t c i e) in
      rw (sym (a.codes i l), sym (a.codes (i + 1) m), sym (alike_before a i (omega arith))) e

  plain_first_there : (c : Ctx) (i : ℕ) → i < k → is_plain_first t c i ≡ true → is_plain_first s c i ≡ true
  unfolding is_plain_first
  plain_first_there c i l e =
      let m = ns_goes_on i l (first_is_ns t c i e) in
      rw (sym (a.codes i l), sym (a.codes (i + 1) m)) e

  item_carried : (c : Ctx) → Carried k (PlainItem t c) (PlainItem s c)
  item_carried c = record { order = λ i j x d. order d; there = λ i j x d l. there d l } where
    order : {i j : ℕ} {x : List ℕ} → PlainItem t c i j x → i ≤ j
    order (set_off {h = h} m e) = let f = run_order a m in let g = next_later t h in omega arith

    there : {i j : ℕ} {x : List ℕ} → PlainItem t c i j x → j ≤ k → PlainItem s c i j x
    there (set_off {h = h} m e) l =
        let g = next_later t h in
        let n : h < k = omega arith in
        rw (alike_next a h n, a.codes h n) (set_off (run_there a m (omega arith)) (plain_char_there c h n e))

  items_there : {c : Ctx} {i j : ℕ} {x : List ℕ} → Chain (PlainItem t c) i j x → j ≤ k → Chain (PlainItem s c) i j x
  items_there {c = c} m l = chain_there (item_carried c) m l

  line_there : {c : Ctx} {i j : ℕ} {x : List ℕ} → PlainLine t c i j x → j ≤ k → PlainLine s c i j x
  line_there {c = c} (one_line {i = i} {j = j} {x = x} e m) l =
      let g = next_later t i in let f = items_forward m in
      let n : i < k = omega arith in
      rw (a.codes i n) (one_line (plain_first_there c i n e) (subst (λ h. Chain (PlainItem s c) h j x) (alike_next a i n) (items_there m l)))

  next_carried : (n : ℤ) (c : Ctx) → Carried k (PlainNext t n c) (PlainNext s n c)
  next_carried n c = record { order = λ i j x d. order d; there = λ i j x d l. there d l } where
    order : {i j : ℕ} {x : List ℕ} → PlainNext t n c i j x → i ≤ j
    order (next_line {i = i} {h = h} {x = x} d e m) = let f = (fold_carried a n).order i h x d in let g = next_later t h in let o = items_forward m in omega arith

    there : {i j : ℕ} {x : List ℕ} → PlainNext t n c i j x → j ≤ k → PlainNext s n c i j x
    there (next_line {i = i} {h = h} {j = j} {x = x} {y = y} d e m) l =
        let g = next_later t h in let o = items_forward m in
        let q : h < k = omega arith in
        rw (a.codes h q) (next_line ((fold_carried a n).there i h x d (omega arith)) (plain_char_there c h q e) (subst (λ w. Chain (PlainItem s c) w j y) (alike_next a h q) (items_there m l)))

  pub plain_there : {n : ℤ} {c : Ctx} {i j : ℕ} {x : List ℕ} → PlainText t n c i j x → j ≤ k → PlainText s n c i j x
  plain_there (as_key b d) l = as_key b (line_there d l)
  plain_there {n} {c} (as_lines b d m) l = let g = nexts_forward m in as_lines b (line_there d (omega arith)) (chain_there (next_carried n c) m l)
