-- Plain scalars: their first characters, and that one is the longest if no character of a plain scalar follows it.
use Rattle.std.proofs.Common.{◌≡◌, ℕ, ℤ, ◌+◌, ◌<◌, ◌≤◌, Bool, true, false, ◌||◌, ◌==◌, ⊎_elim, List, [], ◌++◌, refl, sym, ap, ◌∙◌, subst, arith, true≢false}
use Rattle.std.proofs.lemmas.Bool.{cases_Bool}
use Rattle.std.proofs.lemmas.Bool.Decides.{nat_tests}
use Rattle.std.proofs.Math.Bool.{and-false}
use Rattle.std.specs.Str.{IsUtf8}
use Rattle.yf_chars.specs.declared.context.Ctx.{Ctx}
use Rattle.yf_chars.specs.Text.{code, next, before}
use Rattle.yf_chars.specs.Class.{is_ns_char, is_plain_safe, is_indicator, is_flow_indicator}
use Rattle.yf_chars.specs.Chain.{Chain, Functional, Stuck, Chosen}
use Rattle.yf_chars.specs.Chain.Chain.{done, step}
use Rattle.yf_chars.proofs.TextLemmas.{reads_real, next_later}
use Rattle.yf_chars.proofs.ChainLemmas.{chain_append, chain_forward, chain_chosen}
use Rattle.yf_lines.specs.Basic.{Clear}
use Rattle.yf_plain.specs.Plain.{is_plain_first, is_plain_char, is_sign, PlainItem, PlainLine, PlainNext, PlainText, Plain}
use Rattle.yf_plain.specs.Plain.PlainItem.{set_off}
use Rattle.yf_plain.specs.Plain.PlainLine.{one_line}
use Rattle.yf_plain.specs.Plain.PlainNext.{next_line}
use Rattle.yf_plain.specs.Plain.PlainText.{as_key, as_lines}
use Rattle.yf_plain.proofs.PlainLemmas.{plain_is_ns, first_is_ns, first_sign, first_other, plain_hash, ns_below}
use Rattle.yf_comments.specs.Comment.{CommentValue}
use Rattle.yf_grammar.specs.Productions.Grammar.{MaySeparate}
use Rattle.yf_grammar.specs.Productions.Grammar.MaySeparate.{unseparated, separated}
use Rattle.yf_grammar.specs.FlowReader.Parser.{begins_alias, begins_properties, begins_content, begins_plain}
use Rattle.yf_grammar.proofs.Ends.BlankRuns.{is_blank, blank_of_hash, ns_not_blank, Blanks, no_blanks, blanks_unique, blanks_of_whites, blanks_of_fold, blanks_forward, blanks_after, Front, separate_front, ContentBefore, no_start_past}
use Rattle.yf_grammar.proofs.Ends.BlankRuns.Front.{all_blank, hash_at}

-- one more character of a plain scalar, after white space or a fold, without its meaning
pub data Leap (t : List ℕ) (c : Ctx) : ℕ → ℕ → List ℕ → Type 0 where
  leap : {i h : ℕ} → Blanks t i h → is_plain_char t c h ≡ true → Leap t c i (next t h) []

record LeapParts (t : List ℕ) (c : Ctx) (i j : ℕ) (x : List ℕ) : Type 0 where
  at : ℕ
  blanks : Blanks t i at
  char : is_plain_char t c at ≡ true
  end : next t at ≡ j
  empty : x ≡ []

abbrev pub Leaps : List ℕ → Ctx → ℕ → ℕ → Type 0
Leaps t c i j = (x : List ℕ) × Chain (Leap t c) i j x

plain_not_blank : (t : List ℕ) (c : Ctx) (h : ℕ) → is_plain_char t c h ≡ true → is_blank (code t h) ≡ false
plain_not_blank t c h e = ns_not_blank (code t h) (plain_is_ns t c h e)

plain_char_after : (t : List ℕ) (h : ℕ) → IsUtf8 t → is_ns_char (code t h) ≡ true → ContentBefore t (next t h)
plain_char_after t h u n = record { at = h; char = code t h; reads = reads_real t h u (ns_below (code t h) n); ns = n }

module _ {t : List ℕ} {c : Ctx} where
  leap_parts : {i j : ℕ} {x : List ℕ} → Leap t c i j x → LeapParts t c i j x
  leap_parts (leap {h = h} b e) = record { at = h; blanks = b; char = e; end = refl; empty = refl }

  leap_end : {i j k : ℕ} {x y : List ℕ} → Leap t c i j x → Leap t c i k y → j ≡ k
  leap_end a b =
      let p = leap_parts a in
      let q = leap_parts b in
      let same : p.at ≡ q.at = blanks_unique p.blanks (plain_not_blank t c p.at p.char) q.blanks (plain_not_blank t c q.at q.char) in
      sym p.end ∙ ap (next t) same ∙ q.end

  leap_forward : {i j : ℕ} {x : List ℕ} → Leap t c i j x → i < j
  leap_forward a = let p = leap_parts a in let f = blanks_forward p.blanks in let g = next_later t p.at in let e = p.end in omega arith

  leap_functional : Functional (Leap t c)
  leap_functional = record {
    one_end = λ a b. leap_end a b;
    one_meaning = λ a b. (leap_parts a).empty ∙ sym (leap_parts b).empty;
    forward = λ a. leap_forward a;
  }

  no_leaps : {i : ℕ} → Leaps t c i i
  no_leaps = ([], done)

  leaps_join : {i j k : ℕ} → Leaps t c i j → Leaps t c j k → Leaps t c i k
  leaps_join a b = (a.0 ++ b.0, chain_append a.1 b.1)

  leap_then : {i h j : ℕ} → Blanks t i h → is_plain_char t c h ≡ true → Leaps t c (next t h) j → Leaps t c i j
  leap_then b e r = ([] ++ r.0, step (leap b e) r.1)

  items_leaps : {i j : ℕ} {x : List ℕ} → Chain (PlainItem t c) i j x → Leaps t c i j
  items_leaps done = no_leaps
  items_leaps (step (set_off w e) d) = leap_then (blanks_of_whites w) e (items_leaps d)

  next_leaps : {n : ℤ} {i j : ℕ} {x : List ℕ} → PlainNext t n c i j x → Leaps t c i j
  next_leaps (next_line f e d) = leap_then (blanks_of_fold f) e (items_leaps d)

  nexts_leaps : {n : ℤ} {i j : ℕ} {x : List ℕ} → Chain (PlainNext t n c) i j x → Leaps t c i j
  nexts_leaps done = no_leaps
  nexts_leaps (step s d) = leaps_join (next_leaps s) (nexts_leaps d)

  line_leaps : {i j : ℕ} {x : List ℕ} → PlainLine t c i j x → (is_plain_first t c i ≡ true) × Leaps t c (next t i) j
  line_leaps (one_line e d) = (e, items_leaps d)

  pub plain_leaps : {n : ℤ} {i j : ℕ} {x : List ℕ} → PlainText t n c i j x → (is_plain_first t c i ≡ true) × Leaps t c (next t i) j
  plain_leaps (as_key k l) = line_leaps l
  plain_leaps (as_lines f l d) = let a = line_leaps l in (a.0, leaps_join a.1 (nexts_leaps d))

  leaps_forward : {i j : ℕ} → Leaps t c i j → i ≤ j
  leaps_forward a = chain_forward leap_functional a.1

  pub plain_later : {n : ℤ} {i j : ℕ} {x : List ℕ} → PlainText t n c i j x → i < j
  plain_later {i = i} p = let a = leaps_forward (plain_leaps p).1 in let b = next_later t i in omega arith

  leaps_longest : {i j k : ℕ} → Leaps t c i j → Stuck (Leap t c j) → Leaps t c i k → k ≤ j
  leaps_longest {k = k} a s b = (chain_chosen leap_functional a.1 s).longest k b.0 b.1

  leap_after : {i j : ℕ} {x : List ℕ} → IsUtf8 t → Leap t c i j x → ContentBefore t j
  leap_after u (leap {h = h} b e) = plain_char_after t h u (plain_is_ns t c h e)

  leaps_after : {i j : ℕ} {x : List ℕ} → IsUtf8 t → ContentBefore t i → Chain (Leap t c) i j x → ContentBefore t j
  leaps_after u b done = b
  leaps_after u b (step s d) = leaps_after u (leap_after u s) d

  pub plain_after : {n : ℤ} {i j : ℕ} {x : List ℕ} → IsUtf8 t → PlainText t n c i j x → ContentBefore t j
  plain_after {i = i} u p = let a = plain_leaps p in leaps_after u (plain_char_after t i u (first_is_ns t c i a.0)) a.1.1

pub hash_not_blank : (c : ℕ) → c ≡ 35 → is_blank c ≡ false
hash_not_blank c e = ap is_blank e ∙ blank_of_hash

module _ {t : List ℕ} where
  -- if no character of a plain scalar follows a separation, none follows its first blanks
  blocked : {j l h : ℕ} (c : Ctx) → IsUtf8 t → ContentBefore t j → Front t j l → is_blank (code t l) ≡ false → is_plain_char t c l ≡ false
      → Blanks t j h → is_plain_char t c h ≡ true → ⊥
  blocked {h = h} c u b (all_blank d) n m a e =
      let same = blanks_unique d n a (plain_not_blank t c h e) in
      true≢false (sym e ∙ ap (is_plain_char t c) (sym same) ∙ m)
  blocked {j} {h = h} c u b (hash_at g d f s) n m a e =
      let same : g ≡ h = blanks_unique d (hash_not_blank (code t g) f) a (plain_not_blank t c h e) in
      let here : code t h ≡ 35 = ap (code t) (sym same) ∙ f in
      let ns : is_ns_char (before t h) ≡ true = sym (plain_hash t c h here) ∙ e in
      ⊎_elim (λ (q : j ≡ h). no_start_past u b (s (q ∙ sym same)))
      (λ (q : is_ns_char (before t h) ≡ false). true≢false (sym ns ∙ q))
      (blanks_after u a.1)

  leap_blocked : {c : Ctx} {j l k : ℕ} {x : List ℕ} → IsUtf8 t → ContentBefore t j → Front t j l → is_blank (code t l) ≡ false → is_plain_char t c l ≡ false
      → Leap t c j k x → ⊥
  leap_blocked {c} u b f n m (leap d e) = blocked c u b f n m d e

pub may_front : {t : List ℕ} {n : ℤ} {c : Ctx} {j l : ℕ} {cs : List CommentValue} → MaySeparate t n c j l cs → Front t j l
may_front unseparated = all_blank no_blanks
may_front (separated s) = separate_front s

-- a plain scalar is the longest one if no character of a plain scalar is after the separation that follows it
pub plain_ends : {t : List ℕ} {n m : ℤ} {c d : Ctx} {i j k l : ℕ} {x y : List ℕ} {cs : List CommentValue} → IsUtf8 t → PlainText t n c i j x → Clear t i j
    → MaySeparate t m d j l cs → is_ns_char (code t l) ≡ true → is_plain_char t c l ≡ false → Chosen (Plain t n c i) k y → (k ≡ j) × (y ≡ x)
plain_ends {t} {n} {c = c} {i = i} {j = j} {k = k} {l = l} {x = x} u p a s v e best =
    let stuck : Stuck (Leap t c j) = record { none = λ h z q. leap_blocked u (plain_after u p) (may_front s) (ns_not_blank (code t l) v) e q } in
    let d : Plain t n c i j x = record { text = p; clear = a } in
    let f = best.longest j x d in
    let g = leaps_longest (plain_leaps p).1 stuck (plain_leaps best.derived.text).1 in
    let same : k ≡ j = omega arith in
    (same, sym (best.only x (subst (λ w. Plain t n c i w x) (sym same) d)))

-- the indicators that begin no plain scalar
unfoldable pub is_bar : ℕ → Bool
is_bar c = (c == 42) || (c == 38) || (c == 33) || (c == 39) || (c == 34) || (c == 91) || (c == 123) || (c == 35) || (c == 44) || (c == 93) || (c == 125)

bar_indicator : (c : ℕ) → is_bar c ≡ true → is_indicator c ≡ true
unfolding is_bar is_indicator is_flow_indicator
bar_indicator c e = grind (arith, nat_tests)

bar_no_sign : (c : ℕ) → is_bar c ≡ true → is_sign c ≡ false
unfolding is_bar is_sign
bar_no_sign c e = grind (arith, nat_tests)

pub first_no_bar : (t : List ℕ) (c : Ctx) (i : ℕ) → is_plain_first t c i ≡ true → is_bar (code t i) ≡ false
first_no_bar t c i e = ⊎_elim
    (λ (b : is_bar (code t i) ≡ true).
    let f = first_other t c i (bar_no_sign (code t i) b) in
    let g = bar_indicator (code t i) b in
    absurd (true≢false (sym e ∙ f ∙ rw (g, and-false (is_ns_char (code t i))) refl)))
    (λ (b : is_bar (code t i) ≡ false). b)
    (cases_Bool (is_bar (code t i)))

pub no_bar_plain : (c : ℕ) → is_bar c ≡ false → begins_plain c ≡ true
unfolding is_bar begins_plain begins_alias begins_properties begins_content
no_bar_plain c e = grind (arith, nat_tests)

pub no_bar_content : (c : ℕ) → is_bar c ≡ false → begins_content c ≡ false
unfolding is_bar begins_content
no_bar_content c e = grind (arith, nat_tests)

pub no_bar_properties : (c : ℕ) → is_bar c ≡ false → begins_properties c ≡ false
unfolding is_bar begins_properties
no_bar_properties c e = grind (arith, nat_tests)

pub no_bar_at : (c d : ℕ) → is_bar c ≡ false → c ≡ d → is_bar d ≡ true → ⊥
no_bar_at c d e f g = true≢false (sym g ∙ ap is_bar (sym f) ∙ e)

pub bars : (is_bar 42 ≡ true) × (is_bar 44 ≡ true) × (is_bar 93 ≡ true) × (is_bar 125 ≡ true) × (is_bar 35 ≡ true)
unfolding is_bar
bars = (refl, refl, refl, refl, refl)

-- a sign begins a plain scalar only before a safe character
sign_colon : is_sign 58 ≡ true
unfolding is_sign
sign_colon = refl

sign_question : is_sign 63 ≡ true
unfolding is_sign
sign_question = refl

pub first_colon : (t : List ℕ) (c : Ctx) (i : ℕ) → code t i ≡ 58 → is_plain_first t c i ≡ is_plain_safe (code t (i + 1)) c
first_colon t c i e = first_sign t c i (ap is_sign e ∙ sign_colon)

pub first_question : (t : List ℕ) (c : Ctx) (i : ℕ) → code t i ≡ 63 → is_plain_first t c i ≡ is_plain_safe (code t (i + 1)) c
first_question t c i e = first_sign t c i (ap is_sign e ∙ sign_question)
