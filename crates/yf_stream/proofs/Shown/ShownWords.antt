-- In small texts, a word `a` that ends its line, before nothing or a comment: as a flow node it is one plain scalar,
-- however derived.
use Rattle.std.proofs.Common.{◌≡◌, ℕ, ℤ, ◌+◌, Bool, true, false, List, [], ◌∷◌, codes, refl, sym, ap, ◌∙◌, ◌⊎◌, ⊎_elim, arith, subst}
use Rattle.std.proofs.lemmas.Bool.{true≢false}
use Rattle.yf_chars.specs.declared.context.Ctx.{Ctx}
use Rattle.yf_chars.specs.declared.context.Ctx.TheVariants.{FlowIn}
use Rattle.yf_chars.specs.Text.{before, code, next, no_char}
use Rattle.yf_chars.specs.Class.{is_ns_char, is_white}
use Rattle.yf_chars.specs.Chain.{Chain, Many}
use Rattle.yf_chars.specs.Chain.Chain.{done, step}
use Rattle.yf_chars.specs.Chain.One.{one}
use Rattle.yf_chars.proofs.TextLemmas.{next_ascii}
use Rattle.yf_lines.specs.Basic.{Break, Empty, FlowFolded, FlowPrefix, FoldedBreak}
use Rattle.yf_lines.specs.Basic.Break.{lone_lf}
use Rattle.yf_lines.specs.Basic.Empty.{prefixed, shorter}
use Rattle.yf_lines.specs.Basic.FoldedBreak.{as_space, trimmed}
use Rattle.yf_lines.specs.Basic.FlowFolded.{at_break, past_whites}
use Rattle.yf_lines.specs.Basic.IndentLess.{fewer}
use Rattle.yf_lines.specs.Basic.LinePrefix.{in_block, in_flow}
use Rattle.yf_lines.proofs.BasicLemmas.{break_char, break_unique}
use Rattle.yf_comments.proofs.RowLemmas.{separate_whites}
use Rattle.yf_comments.proofs.SeparateLemmas.{prefix_whites, spaces_whites}
use Rattle.yf_plain.specs.Plain.{PlainItem, PlainLine, PlainNext, PlainText, is_plain_char}
use Rattle.yf_plain.specs.Plain.PlainItem.{set_off}
use Rattle.yf_plain.specs.Plain.PlainLine.{one_line}
use Rattle.yf_plain.specs.Plain.PlainNext.{next_line}
use Rattle.yf_plain.specs.Plain.PlainText.{as_key, as_lines}
use Rattle.yf_plain.proofs.PlainLemmas.{plain_at_end, plain_hash, plain_is_ns}
use Rattle.yf_events.specs.declared.event.ScalarStyle.TheVariants.{Plain}
use Rattle.yf_grammar.specs.Productions.Grammar.{Derives, FlowNode, NodeOf}
use Rattle.yf_grammar.specs.Productions.Grammar.Derives.{flow_node, an_alias, a_plain, a_plain_with, properties_alone, a_json, a_json_with}
use Rattle.yf_grammar.specs.Productions.Meaning.{Meaning, scalar}
use Rattle.yf_stream.proofs.Shown.ShownPlain.{is_sign, no_alias, no_json, no_properties}
use Rattle.yf_chars.proofs.CharFacts.{feed_no_ns, hash_no_white, end_no_white, feed_no_white}

-- the word at q
pub record WordAt (t : List ℕ) (q : ℕ) : Type 0 where
  pub sign : (i c : ℕ) → is_sign c ≡ true → code t i ≡ c → ⊥
  pub word : code t q ≡ 97
  pub feed : code t (q + 1) ≡ 10
  pub follows : (code t (q + 1 + 1) ≡ no_char) ⊎ ((code t (q + 1 + 1) ≡ 35) × (before t (q + 1 + 1) ≡ 10))

abbrev pub word_at : ℕ → Meaning
word_at q = scalar Plain (codes "a") [] q (q + 1)

pub whites_stay : {t : List ℕ} {i j : ℕ} {w : List ℕ} → is_white (code t i) ≡ false → Many t is_white i j w → j ≡ i
whites_stay n done = refl
whites_stay n (step (one e) c) = absurd (true≢false (sym e ∙ n))

module _ {t : List ℕ} {q : ℕ} (w : WordAt t q) where
  feed_break : Break t (q + 1) (q + 1 + 1)
  feed_break = lone_lf w.feed (λ e. let f : code t q ≡ 13 = subst (λ k. code t k ≡ 13) (omega arith) e in let g = w.word in omega arith)

  feed_white : is_white (code t (q + 1)) ≡ false
  feed_white = ap is_white w.feed ∙ feed_no_white

  dead_white : is_white (code t (q + 1 + 1)) ≡ false
  dead_white = ⊎_elim (λ (e : code t (q + 1 + 1) ≡ no_char). ap is_white e ∙ end_no_white) (λ e. ap is_white e.0 ∙ hash_no_white) w.follows

  no_break_there : {i j : ℕ} → i ≡ q + 1 + 1 → Break t i j → ⊥
  no_break_there {i} e b =
      let there : code t i ≡ code t (q + 1 + 1) = ap (code t) e in
      ⊎_elim (λ (f : code t (q + 1 + 1) ≡ no_char). ⊎_elim (λ (r : code t i ≡ 13). omega arith) (λ (r : code t i ≡ 10). omega arith) (break_char b))
      (λ f. ⊎_elim (λ (r : code t i ≡ 13). omega (arith, f.0)) (λ (r : code t i ≡ 10). omega (arith, f.0)) (break_char b)) w.follows

  white_there : {i : ℕ} → i ≡ q + 1 + 1 → is_white (code t i) ≡ false
  white_there e = ap is_white (ap (code t) e) ∙ dead_white

  prefix_there : {n : ℤ} {i j : ℕ} → i ≡ q + 1 + 1 → FlowPrefix t n i j → j ≡ q + 1 + 1
  prefix_there e p = whites_stay (white_there e) (prefix_whites p).1 ∙ e

  no_empty_line : {n : ℤ} {i j : ℕ} {x : List ℕ} → i ≡ q + 1 + 1 → Empty t n FlowIn i j x → ⊥
  no_empty_line e (prefixed (in_block k p) b) = true≢false (sym k)
  no_empty_line e (prefixed (in_flow k p) b) = no_break_there (prefix_there e p) b
  no_empty_line e (shorter (fewer {i = i} k l s) b) = no_break_there (whites_stay (white_there e) (spaces_whites t i k s).1 ∙ e) b

  folded_there : {n : ℤ} {i j : ℕ} {x : List ℕ} → i ≡ q + 1 → FoldedBreak t n FlowIn i j x → j ≡ q + 1 + 1
  folded_there {n} e (trimmed {h = h} b m c) = absurd (no_empty_line (break_unique (subst (λ i. Break t i h) e b) feed_break) m)
  folded_there {j = j} e (as_space b) = break_unique (subst (λ i. Break t i j) e b) feed_break

  fold_there : {n : ℤ} {j : ℕ} {x : List ℕ} → FlowFolded t n (q + 1) j x → j ≡ q + 1 + 1
  fold_there (at_break f p) = prefix_there (folded_there refl f) p
  fold_there (past_whites s f p) = prefix_there (folded_there (whites_stay feed_white (separate_whites s).1) f) p

  -- the plain scalar
  no_plain_feed : (c : Ctx) (i : ℕ) → i ≡ q + 1 → is_plain_char t c i ≡ true → ⊥
  no_plain_feed c i e p = true≢false (sym (plain_is_ns t c i p) ∙ ap is_ns_char (ap (code t) e ∙ w.feed) ∙ feed_no_ns)

  no_plain_there : (c : Ctx) (i : ℕ) → i ≡ q + 1 + 1 → is_plain_char t c i ≡ true → ⊥
  no_plain_there c i e p = ⊎_elim
      (λ (f : code t (q + 1 + 1) ≡ no_char). true≢false (sym p ∙ plain_at_end t c i (ap (code t) e ∙ f)))
      (λ f. true≢false (sym p ∙ plain_hash t c i (ap (code t) e ∙ f.0) ∙ ap (λ k. is_ns_char (before t k)) e ∙ ap is_ns_char f.1 ∙ feed_no_ns)) w.follows

  items_stay : {c : Ctx} {i j : ℕ} {x : List ℕ} → i ≡ q + 1 → Chain (PlainItem t c) i j x → (j ≡ q + 1) × (x ≡ [])
  items_stay e done = (e, refl)
  items_stay {c} {i} e (step (set_off {h = h} m f) r) =
      absurd (no_plain_feed c h (whites_stay (ap is_white (ap (code t) e) ∙ feed_white) m ∙ e) f)

  next_lines_stay : {n : ℤ} {c : Ctx} {i j : ℕ} {x : List ℕ} → i ≡ q + 1 → Chain (PlainNext t n c) i j x → (j ≡ q + 1) × (x ≡ [])
  next_lines_stay e done = (e, refl)
  next_lines_stay {n} {c} e (step (next_line {h = h} {x = x} f p r) d) =
      absurd (no_plain_there c h (fold_there (subst (λ i. FlowFolded t n i h x) e f)) p)

  word_next : next t q ≡ q + 1
  word_next = next_ascii t q (let a = w.word in omega arith)

  line_is : {c : Ctx} {j : ℕ} {x : List ℕ} → PlainLine t c q j x → (j ≡ q + 1) × (x ≡ 97 ∷ [])
  line_is (one_line f r) = let a = items_stay word_next r in (a.0, rw (w.word, a.1) refl)

  text_is : {n : ℤ} {c : Ctx} {j : ℕ} {x : List ℕ} → PlainText t n c q j x → (j ≡ q + 1) × (x ≡ 97 ∷ [])
  text_is (as_key k l) = line_is l
  text_is (as_lines f l r) = let a = line_is l in let b = next_lines_stay a.0 r in (b.0, rw (a.1, b.1) refl)

  -- the node
  pub node_is : {h j : ℕ} {json : Bool} {n : ℤ} {c : Ctx} {x : Meaning} → Derives t h (NodeOf json n c) q j x → (j ≡ q + 1) × (x ≡ word_at q)
  unfolding lib.Utf8.encode
  node_is (an_alias b d) = absurd (no_alias t w.sign d)
  node_is (a_plain p) = let a = text_is p in (a.0, rw (a.0, a.1) refl)
  node_is (a_plain_with p s x) = absurd (no_properties t w.sign p)
  node_is (properties_alone b p) = absurd (no_properties t w.sign p)
  node_is (a_json d) = absurd (no_json t w.sign d)
  node_is (a_json_with p s d) = absurd (no_properties t w.sign p)

  pub flow_is : {h j : ℕ} {n : ℤ} {c : Ctx} {x : Meaning} → Derives t h (FlowNode n c) q j x → (j ≡ q + 1) × (x ≡ word_at q)
  flow_is (flow_node d) = node_is d
