-- An explicit entry: its key may have no value only if no `:` of the entry is on the next line, so a longer key does
-- not always make a longer entry.
use Rattle.std.proofs.Common.{◌≡◌, ℕ, max, ◌+◌, pos, true, false, List, ◌∷◌, Option, Some, None, refl, sym, subst, arith}
use Rattle.yf_chars.specs.declared.context.Ctx.TheVariants.{BlockOut}
use Rattle.yf_grammar.specs.Productions.Grammar.{ColonLine}
use Rattle.yf_grammar.specs.Productions.Meaning.{Meaning, ◌⊕◌, empty_node, entering}
use Rattle.yf_grammar.specs.FlowReader.Parser.{ParsedNode}
use Rattle.yf_grammar.specs.BlockReader.BlockParser.{SignAt, Indicator, Origin, Awaited, Item, Whole, pair_found}
use Rattle.yf_grammar.specs.BlockReader.BlockParser.Whole.{question_missed, question_alone, question_and_value, question_value_missed, colon_read, colon_missed, key_read, key_value_missed, no_key, key_too_deep}
use Rattle.yf_grammar.specs.BlockReader.Halts.{NoColonAt, one_open, Halts}
use Rattle.yf_grammar.specs.BlockReader.Halts.Halts.{halts_question, halts_before_value, halts_value, halts_colon, halts_key, halts_no_key, halts_key_too_deep}
use Rattle.yf_grammar.proofs.FlowReader.Longest.{Longest}
use Rattle.yf_grammar.proofs.BlockOutcomes.BlockClaims.{IsFound, Exact, HaltsReach}
use Rattle.yf_grammar.proofs.BlockOutcomes.HaltsLater.{halts_later}
use Rattle.yf_grammar.proofs.BlockOutcomes.BlockHalts.{WholePlain, then_is}
use Rattle.yf_grammar.proofs.BlockOutcomes.BlockItems.{exact_end, exact_height, exact_meaning, never_none, longest_some, whole_order, none_after}
use Rattle.yf_grammar.proofs.BlockOutcomes.OutcomeMade.{makes_exact, makes_longest, makes_further, makes_lone_key, makes_pair, pair_exact, pair_longest}

module _ {t : List ℕ} where
  -- an offset has one sign
  pub one_sign : {i : ℕ} → SignAt t 63 i → SignAt t 58 i → ⊥
  one_sign a b = let x = a.sign_is_at in let y = b.sign_is_at in absurd (omega arith)

  colon_moved : {m j k : ℕ} → j ≡ k → ColonLine t m j → ColonLine t m k
  colon_moved {m} e c = subst (λ w. ColonLine t m w) e c

  value_moved : {e m j k : ℕ} {o : Option ParsedNode} → j ≡ k → Whole t e (Awaited true (pos m) BlockOut (Indicator (j + m + 1)) (j + m + 1)) o
      → Whole t e (Awaited true (pos m) BlockOut (Indicator (k + m + 1)) (k + m + 1)) o
  value_moved {e} {m} {j} {k} {o} p r = subst (λ w. Whole t e (Awaited true (pos m) BlockOut (Indicator (w + m + 1)) (w + m + 1)) o) p r

  pub question_alone_exact : {e h m i j : ℕ} {q : Origin} {x : Meaning} {o : Option ParsedNode} → SignAt t 63 i → (ColonLine t m j → ⊥)
      → Exact t e (Awaited true (pos m) BlockOut (Indicator (i + 1)) (i + 1)) j h x → Whole t e (Item false m q i) o
      → IsFound o j h (entering i None x ⊕ empty_node x.finish)
  question_alone_exact g n c (question_missed s r) = never_none (c None r)
  question_alone_exact {i = i} g n c (question_alone {f = f} s r v) = makes_exact (makes_lone_key i) (c (Some f) r)
  question_alone_exact g n c (question_and_value {f = f} s r l v) = absurd (n (colon_moved (exact_end (c (Some f) r)) l))
  question_alone_exact g n c (question_value_missed {f = f} s r l v) = absurd (n (colon_moved (exact_end (c (Some f) r)) l))
  question_alone_exact g n c (colon_read s r) = absurd (one_sign g s)
  question_alone_exact g n c (colon_missed s r) = absurd (one_sign g s)
  question_alone_exact g n c (key_read a b p l d r) = absurd (a g)
  question_alone_exact g n c (key_value_missed a b p l d r) = absurd (a g)
  question_alone_exact g n c (no_key a b k) = absurd (a g)
  question_alone_exact g n c (key_too_deep a b p l d) = absurd (a g)

  pub question_value_exact : {e h d m i k j : ℕ} {q : Origin} {x y : Meaning} {o : Option ParsedNode} → SignAt t 63 i → ColonLine t m k
      → Exact t e (Awaited true (pos m) BlockOut (Indicator (i + 1)) (i + 1)) k h x
      → Exact t e (Awaited true (pos m) BlockOut (Indicator (k + m + 1)) (k + m + 1)) j d y → Whole t e (Item false m q i) o
      → IsFound o j (max h d) (entering i (Some (k + m)) x ⊕ y)
  question_value_exact g l c v (question_missed s r) = never_none (c None r)
  question_value_exact g l c v (question_alone {f = f} s r n) = absurd (n (colon_moved (sym (exact_end (c (Some f) r))) l))
  question_value_exact {h = h} {d = d} {m = m} {i = i} {k = k} {j = j} {x = x} {y = y} g l c v (question_and_value {f = f} {g = z} s r w u) =
      let p = c (Some f) r in
      let b = pair_exact i (f.end + m) f (exact_height p) (exact_meaning p) (v (Some z) (value_moved (exact_end p) u)) in
      subst (λ a. IsFound (pair_found i (f.end + m) f z) j (max h d) (entering i (Some (a + m)) x ⊕ y)) (exact_end p) b
  question_value_exact g l c v (question_value_missed {f = f} s r w u) = never_none (v None (value_moved (exact_end (c (Some f) r)) u))
  question_value_exact g l c v (colon_read s r) = absurd (one_sign g s)
  question_value_exact g l c v (colon_missed s r) = absurd (one_sign g s)
  question_value_exact g l c v (key_read a b p f d r) = absurd (a g)
  question_value_exact g l c v (key_value_missed a b p f d r) = absurd (a g)
  question_value_exact g l c v (no_key a b k) = absurd (a g)
  question_value_exact g l c v (key_too_deep a b p f d) = absurd (a g)

  pub question_alone_reached : {e m i j : ℕ} {q : Origin} {x : Meaning} {ws : List ℕ} {o : Option ParsedNode} → WholePlain t → SignAt t 63 i → (ColonLine t m j → ⊥)
      → HaltsReach t e (Awaited true (pos m) BlockOut (Indicator (i + 1)) (i + 1)) j x → NoColonAt t j ws → Halts t e ws (Item false m q i) o
      → Longest o j (entering i None x ⊕ empty_node x.finish)
  question_alone_reached {m = m} {i = i} {ws = ws} p g n c w (halts_question {o = o} s r z y) = makes_longest (makes_lone_key i) (c (m ∷ ws) (one_open n w) o y)
  question_alone_reached {m = m} {i = i} {ws = ws} p g n c w (halts_before_value {o = o} s r l v y) = makes_longest (makes_lone_key i) (c (m ∷ ws) (one_open n w) o y)
  question_alone_reached {m = m} {i = i} {j = j} {x = x} p g n c w (halts_value {f = f} {g = z} s r l v) =
      let a = whole_order p c r in
      let b = halts_later v refl in
      makes_further z j (entering i None x ⊕ empty_node x.finish) (makes_pair i (f.end + m) f) (omega arith)
  question_alone_reached p g n c w (halts_colon s r) = absurd (one_sign g s)
  question_alone_reached p g n c w (halts_key a b f l d r) = absurd (a g)
  question_alone_reached p g n c w (halts_no_key a b k) = absurd (a g)
  question_alone_reached p g n c w (halts_key_too_deep a b f l d) = absurd (a g)

  halt_moved : {e m j k : ℕ} {ws : List ℕ} {o : Option ParsedNode} → j ≡ k → Halts t e ws (Awaited true (pos m) BlockOut (Indicator (j + m + 1)) (j + m + 1)) o
      → Halts t e ws (Awaited true (pos m) BlockOut (Indicator (k + m + 1)) (k + m + 1)) o
  halt_moved {e} {m} {j} {k} {ws} {o} p r = subst (λ w. Halts t e ws (Awaited true (pos m) BlockOut (Indicator (w + m + 1)) (w + m + 1)) o) p r

  pub question_value_reached : {e h m i k j : ℕ} {q : Origin} {x y : Meaning} {ws : List ℕ} {o : Option ParsedNode} → SignAt t 63 i → ColonLine t m k
      → Exact t e (Awaited true (pos m) BlockOut (Indicator (i + 1)) (i + 1)) k h x
      → HaltsReach t e (Awaited true (pos m) BlockOut (Indicator (k + m + 1)) (k + m + 1)) j y → NoColonAt t j ws → Halts t e ws (Item false m q i) o
      → Longest o j (entering i (Some (k + m)) x ⊕ y)
  question_value_reached g l c v w (halts_question {r = None} s r z y) = never_none (c None r)
  question_value_reached g l c v w (halts_question {r = Some f} s r z y) = absurd (none_after z (colon_moved (sym (exact_end (c (Some f) r))) l))
  question_value_reached {ws = ws} g l c v w (halts_before_value {f = f} s r b u y) = longest_some (v ws w None (halt_moved (exact_end (c (Some f) r)) u)) refl
  question_value_reached {m = m} {i = i} {k = k} {j = j} {x = x} {y = y} {ws = ws} g l c v w (halts_value {f = f} {g = z} s r b u) =
      let p = c (Some f) r in
      let a = subst (λ n. Longest n j (entering i (Some (f.end + m)) x ⊕ y)) (then_is (pair_found i (f.end + m) f) z) (pair_longest i (f.end + m) f (exact_meaning p) (v ws w (Some z) (halt_moved (exact_end p) u))) in
      subst (λ n. Longest (pair_found i (f.end + m) f z) j (entering i (Some (n + m)) x ⊕ y)) (exact_end p) a
  question_value_reached g l c v w (halts_colon s r) = absurd (one_sign g s)
  question_value_reached g l c v w (halts_key a b f z d r) = absurd (a g)
  question_value_reached g l c v w (halts_no_key a b k) = absurd (a g)
  question_value_reached g l c v w (halts_key_too_deep a b f z d) = absurd (a g)
