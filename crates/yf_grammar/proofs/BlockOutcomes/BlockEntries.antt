-- One entry of a block collection: after `-`, after `:`, and with a key.
use Rattle.std.proofs.Common.{◌≡◌, ℕ, max, ◌+◌, ◌≤◌, ℤ, pos, Bool, true, false, List, Option, Some, None, sym, ap, ◌∙◌, subst, arith}
use Rattle.std.specs.Str.{IsUtf8}
use Rattle.yf_chars.specs.declared.context.Ctx.TheVariants.{BlockOut, BlockIn, FlowOut, BlockKey}
use Rattle.yf_chars.proofs.Tests.{none_some}
use Rattle.yf_lines.specs.Basic.{Clear}
use Rattle.yf_grammar.specs.Productions.Grammar.{KeyOf, Derives}
use Rattle.yf_grammar.specs.Productions.Meaning.{Meaning, ◌⊕◌, empty_node, entering}
use Rattle.yf_grammar.specs.FlowReader.Parser.{ParsedNode, Parses, ANode}
use Rattle.yf_grammar.specs.BlockReader.BlockParser.{DashAt, SignAt, Indicator, NoKey, key_missed, key_unfit, KeyBefore, Keyless, node_unfit, properties_end_line, Origin, Later, First, key_limit, Awaited, Item, Whole, pair_found}
use Rattle.yf_grammar.specs.BlockReader.BlockParser.Whole.{item_read, item_missed, item_undashed, question_missed, question_alone, question_and_value, question_value_missed, colon_read, colon_missed, key_read, key_value_missed, no_key, key_too_deep}
use Rattle.yf_grammar.specs.BlockReader.Halts.{NoColonAt, then_found, Halts}
use Rattle.yf_grammar.specs.BlockReader.Halts.Halts.{halts_dash, halts_undashed, halts_question, halts_before_value, halts_value, halts_colon, halts_key, halts_no_key, halts_key_too_deep}
use Rattle.yf_grammar.proofs.FlowReader.Longest.{Longest}
use Rattle.yf_grammar.proofs.BlockOutcomes.BlockClaims.{IsFound, Exact, HaltsReach}
use Rattle.yf_grammar.proofs.BlockOutcomes.BlockFirst.{KeyFound, key_is, key_one, key_no_question, key_no_colon_sign, key_no_line}
use Rattle.yf_grammar.proofs.BlockOutcomes.BlockItems.{never_none}
use Rattle.yf_grammar.proofs.BlockOutcomes.BlockQuestions.{one_sign}
use Rattle.yf_grammar.proofs.BlockOutcomes.OutcomeMade.{makes_exact, makes_longest, makes_item, makes_lone_value, pair_exact, pair_longest}

module _ {t : List ℕ} where
  pub dash_exact : {e h m i j : ℕ} {q : Origin} {x : Meaning} {o : Option ParsedNode} → DashAt t i → Exact t e (Awaited true (pos m) BlockIn (Indicator (i + 1)) (i + 1)) j h x
      → Whole t e (Item true m q i) o → IsFound o j h (entering i None x)
  dash_exact {i = i} d c (item_read {f = f} s r) = makes_exact (makes_item i) (c (Some f) r)
  dash_exact d c (item_missed s r) = never_none (c None r)
  dash_exact d c (item_undashed n) = absurd (n d)

  pub dash_reached : {e m i j : ℕ} {q : Origin} {x : Meaning} {ws : List ℕ} {o : Option ParsedNode} → DashAt t i
      → HaltsReach t e (Awaited true (pos m) BlockIn (Indicator (i + 1)) (i + 1)) j x → NoColonAt t j ws → Halts t e ws (Item true m q i) o → Longest o j (entering i None x)
  dash_reached {i = i} {ws = ws} d c w (halts_dash {o = o} s r) = makes_longest (makes_item i) (c ws w o r)
  dash_reached d c w (halts_undashed n) = absurd (n d)

  pub colon_exact : {e h m i j : ℕ} {q : Origin} {x : Meaning} {o : Option ParsedNode} → SignAt t 58 i → Exact t e (Awaited false (pos m) BlockOut (Indicator (i + 1)) (i + 1)) j h x
      → Whole t e (Item false m q i) o → IsFound o j h (entering i (Some i) (empty_node i) ⊕ x)
  colon_exact g c (question_missed s r) = absurd (one_sign s g)
  colon_exact g c (question_alone s r n) = absurd (one_sign s g)
  colon_exact g c (question_and_value s r l v) = absurd (one_sign s g)
  colon_exact g c (question_value_missed s r l v) = absurd (one_sign s g)
  colon_exact {i = i} g c (colon_read {f = f} s r) = makes_exact (makes_lone_value i) (c (Some f) r)
  colon_exact g c (colon_missed s r) = never_none (c None r)
  colon_exact g c (key_read a b p l d r) = absurd (b g)
  colon_exact g c (key_value_missed a b p l d r) = absurd (b g)
  colon_exact g c (no_key a b k) = absurd (b g)
  colon_exact g c (key_too_deep a b p l d) = absurd (b g)

  pub colon_reached : {e m i j : ℕ} {q : Origin} {x : Meaning} {ws : List ℕ} {o : Option ParsedNode} → SignAt t 58 i
      → HaltsReach t e (Awaited false (pos m) BlockOut (Indicator (i + 1)) (i + 1)) j x → NoColonAt t j ws → Halts t e ws (Item false m q i) o
      → Longest o j (entering i (Some i) (empty_node i) ⊕ x)
  colon_reached g c w (halts_question s r z y) = absurd (one_sign s g)
  colon_reached g c w (halts_before_value s r l v y) = absurd (one_sign s g)
  colon_reached g c w (halts_value s r l v) = absurd (one_sign s g)
  colon_reached {i = i} {ws = ws} g c w (halts_colon {o = o} s r) = makes_longest (makes_lone_value i) (c ws w o r)
  colon_reached g c w (halts_key a b p l d r) = absurd (b g)
  colon_reached g c w (halts_no_key a b k) = absurd (b g)
  colon_reached g c w (halts_key_too_deep a b p l d) = absurd (b g)

  value_moved : {e m j k : ℕ} {o : Option ParsedNode} → j ≡ k → Whole t e (Awaited false (pos m) BlockOut (Indicator (j + 1)) (j + 1)) o
      → Whole t e (Awaited false (pos m) BlockOut (Indicator (k + 1)) (k + 1)) o
  value_moved {e} {m} {j} {k} {o} p r = subst (λ w. Whole t e (Awaited false (pos m) BlockOut (Indicator (w + 1)) (w + 1)) o) p r

  halt_moved : {e m j k : ℕ} {ws : List ℕ} {o : Option ParsedNode} → j ≡ k → Halts t e ws (Awaited false (pos m) BlockOut (Indicator (j + 1)) (j + 1)) o
      → Halts t e ws (Awaited false (pos m) BlockOut (Indicator (k + 1)) (k + 1)) o
  halt_moved {e} {m} {j} {k} {ws} {o} p r = subst (λ w. Halts t e ws (Awaited false (pos m) BlockOut (Indicator (w + 1)) (w + 1)) o) p r

-- the flow node that was read is the key
record IsKey (t : List ℕ) (h i k l : ℕ) (x : Meaning) (f : ParsedNode) : Type 0 where
  place : l ≡ k
  height : f.height ≡ h
  meaning : f.meaning ≡ x

within_limit : {h e : ℕ} (q : Origin) → h ≤ e → h ≤ key_limit e q
within_limit Later l = l
within_limit (First n) l = omega arith

module _ {t : List ℕ} (u : IsUtf8 t) where
  key_read_is : {h e i k l : ℕ} {json : Bool} {n : ℤ} {x : Meaning} {f : ParsedNode} → Derives t h (KeyOf json BlockKey) i k x → SignAt t 58 k → Clear t i k → h ≤ e
      → Parses t e (ANode n FlowOut i) (Some f) → KeyBefore t i f l → IsKey t h i k l x f
  key_read_is {i = i} {l = l} {f = f} d s c b r y =
      let a = key_is u d s c b r in
      let same : f ≡ a.answer = one_some (a.is) in
      record {
        place = key_one a.key (subst (λ w. KeyBefore t i w l) same y);
        height = ap (λ w. w.height) same ∙ a.height;
        meaning = ap (λ w. w.meaning) same ∙ a.meaning;
      }
    where
      one_some : {g : ParsedNode} → Some f ≡ Some g → f ≡ g
      one_some e = cc

  pub not_unfit : {h i k : ℕ} {x : Meaning} {o : Option ParsedNode} → KeyFound t h i k x o → NoKey t i o → ⊥
  not_unfit a key_missed = none_some a.is
  not_unfit {i = i} {k = k} a (key_unfit {f = f} n) = n k (subst (λ w. KeyBefore t i w k) (sym (one_some a.is)) a.key) where
    one_some : {g : ParsedNode} → Some f ≡ Some g → f ≡ g
    one_some e = cc

  not_keyless : {h e i k : ℕ} {json : Bool} {n : ℤ} {x : Meaning} → Derives t h (KeyOf json BlockKey) i k x → SignAt t 58 k → Clear t i k → h ≤ e → Keyless t e n i → ⊥
  not_keyless d s c b (node_unfit r n) = not_unfit (key_is u d s c b r) n
  not_keyless d s c b (properties_end_line p y) = key_no_line u d s p y

  pub key_exact : {e h g m i k j : ℕ} {q : Origin} {json : Bool} {x y : Meaning} {o : Option ParsedNode} → Derives t h (KeyOf json BlockKey) i k x → SignAt t 58 k → Clear t i k → h ≤ e
      → Exact t e (Awaited false (pos m) BlockOut (Indicator (k + 1)) (k + 1)) j g y → Whole t e (Item false m q i) o → IsFound o j (max h g) (entering i (Some k) x ⊕ y)
  key_exact d s c b v (question_missed z r) = absurd (key_no_question d z)
  key_exact d s c b v (question_alone z r n) = absurd (key_no_question d z)
  key_exact d s c b v (question_and_value z r l w) = absurd (key_no_question d z)
  key_exact d s c b v (question_value_missed z r l w) = absurd (key_no_question d z)
  key_exact d s c b v (colon_read z r) = absurd (key_no_colon_sign d z)
  key_exact d s c b v (colon_missed z r) = absurd (key_no_colon_sign d z)
  key_exact {h = h} {g = g} {i = i} {k = k} {j = j} {x = x} {y = y} d s c b v (key_read {k = l} {q = q} {f = f} {g = z} n p r a w y') =
      let e = key_read_is d s c (within_limit q b) r w in
      let f' = pair_exact i l f e.height e.meaning (v (Some z) (value_moved e.place y')) in
      subst (λ a. IsFound (pair_found i l f z) j (max h g) (entering i (Some a) x ⊕ y)) e.place f'
  key_exact d s c b v (key_value_missed {q = q} n p r a w y) = let e = key_read_is d s c (within_limit q b) r w in never_none (v None (value_moved e.place y))
  key_exact d s c b v (no_key {q = q} n p k) = absurd (not_keyless d s c (within_limit q b) k)
  key_exact d s c b v (key_too_deep {q = q} n p r a w) = let e = key_read_is d s c (within_limit q b) r w in let z = e.height in absurd (omega arith)

  pub key_reached : {e h m i k j : ℕ} {q : Origin} {json : Bool} {x y : Meaning} {ws : List ℕ} {o : Option ParsedNode} → Derives t h (KeyOf json BlockKey) i k x → SignAt t 58 k → Clear t i k
      → h ≤ e → HaltsReach t e (Awaited false (pos m) BlockOut (Indicator (k + 1)) (k + 1)) j y → NoColonAt t j ws → Halts t e ws (Item false m q i) o
      → Longest o j (entering i (Some k) x ⊕ y)
  key_reached d s c b v z (halts_question w r n y) = absurd (key_no_question d w)
  key_reached d s c b v z (halts_before_value w r l n y) = absurd (key_no_question d w)
  key_reached d s c b v z (halts_value w r l n) = absurd (key_no_question d w)
  key_reached d s c b v z (halts_colon w r) = absurd (key_no_colon_sign d w)
  key_reached {i = i} {j = j} {x = x} {y = y} {ws = ws} d s c b v z (halts_key {k = l} {q = q} {f = f} {o = o} n p r a w y') =
      let e = key_read_is d s c (within_limit q b) r w in
      let f' = pair_longest i l f e.meaning (v ws z o (halt_moved e.place y')) in
      subst (λ a. Longest (then_found (pair_found i l f) o) j (entering i (Some a) x ⊕ y)) e.place f'
  key_reached d s c b v z (halts_no_key {q = q} n p k) = absurd (not_keyless d s c (within_limit q b) k)
  key_reached d s c b v z (halts_key_too_deep {q = q} n p r a w) = let e = key_read_is d s c (within_limit q b) r w in let y = e.height in absurd (omega arith)
