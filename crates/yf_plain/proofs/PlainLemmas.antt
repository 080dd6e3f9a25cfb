-- Laws of plain scalars.
use Rattle.std.proofs.Common.{◌≡◌, ◌≢◌, ℕ, ◌+◌, ◌<◌, ◌≤◌, Bool, true, false, ◌&&◌, not, List, [], ◌∷◌, ◌++◌, refl, sym, ap, ◌∙◌, subst, inl, inr, ◌⊎◌, ⊎_elim, arith, eqb}
use Rattle.std.proofs.lemmas.Bool.{cases_eq, cases_Bool, true≢false, and_parts, eq-eqb, ne_eqb}
use Rattle.std.proofs.Math.Bool.{and-false, and-true, or-false}
use Rattle.std.proofs.lemmas.Bool.Decides.{nat_tests}
use Rattle.std.specs.Str.{IsUtf8}
use Rattle.yf_chars.specs.declared.context.Ctx.{Ctx}
use Rattle.yf_chars.specs.declared.context.Ctx.TheVariants.{BlockOut, BlockIn, FlowOut, FlowIn, BlockKey, FlowKey}
use Rattle.yf_chars.specs.Text.{code, next, before, CharAt, no_char}
use Rattle.yf_chars.specs.Class.{is_ns_char, is_nb_char, is_printable, is_between, is_indicator, is_white, is_plain_safe, is_break_char, is_flow_indicator}
use Rattle.yf_chars.specs.Chain.{Chain, Many, Functional, Stuck, Chosen}
use Rattle.yf_chars.specs.Chain.Chain.{done, step}
use Rattle.yf_chars.specs.Chain.One.{one}
use Rattle.yf_chars.specs.ClassEnds.{no_ns_char}
use Rattle.yf_chars.proofs.ChainLemmas.{chain_chosen, chain_forward, many_unique, one_functional}
use Rattle.yf_chars.proofs.TextLemmas.{reads_real, next_ascii, next_later}
use Rattle.yf_lines.specs.Basic.{ForbiddenLine}
use Rattle.yf_lines.proofs.BasicLemmas.{white_below}
use Rattle.yf_lines.proofs.ClearLemmas.{Quiet, quiet_nothing, quiet_join, quiet_char, quiet_whites, clear_quiet}
use Rattle.yf_plain.specs.Plain.{is_plain_first, is_plain_char, is_sign, PlainItem, PlainLine, PlainFront}
use Rattle.yf_plain.specs.Plain.PlainItem.{set_off}
use Rattle.yf_plain.specs.Plain.PlainLine.{one_line}
use Rattle.yf_chars.proofs.CharFacts.{feed_no_ns, colon_ns, hash_ns, mark_no_ns}
use Rattle.yf_chars.proofs.Tests.{turned_false}

pub ns_not_white : (c : ℕ) → is_ns_char c ≡ true → is_white c ≡ false
unfolding is_ns_char
ns_not_white c e = turned_false (is_white c) ((and_parts (is_nb_char c) (not (is_white c)) e).1)

pub white_not_ns : (c : ℕ) → is_white c ≡ true → is_ns_char c ≡ false
unfolding is_ns_char
white_not_ns c e = rw (e, and-false (is_nb_char c)) refl

pub ns_below : (c : ℕ) → is_ns_char c ≡ true → c < no_char
unfolding is_ns_char is_nb_char is_printable is_between
ns_below c e = grind (arith, nat_tests)

pub safe_is_ns : (c : ℕ) (x : Ctx) → is_plain_safe c x ≡ true → is_ns_char c ≡ true
unfolding is_plain_safe
safe_is_ns c BlockOut e = absurd (true≢false (sym e))
safe_is_ns c BlockIn e = absurd (true≢false (sym e))
safe_is_ns c FlowOut e = e
safe_is_ns c BlockKey e = e
safe_is_ns c FlowIn e = (and_parts (is_ns_char c) (not (is_flow_indicator c)) e).0
safe_is_ns c FlowKey e = (and_parts (is_ns_char c) (not (is_flow_indicator c)) e).0

pub safe_at_end : (x : Ctx) → is_plain_safe no_char x ≡ false
unfolding is_plain_safe is_ns_char is_nb_char is_printable is_between
safe_at_end BlockOut = refl
safe_at_end BlockIn = refl
safe_at_end FlowOut = refl
safe_at_end BlockKey = refl
safe_at_end FlowIn = refl
safe_at_end FlowKey = refl

-- the test for a character of a plain scalar, by that character
pub plain_colon : (t : List ℕ) (c : Ctx) (i : ℕ) → code t i ≡ 58 → is_plain_char t c i ≡ is_plain_safe (code t (i + 1)) c
unfolding is_plain_char
plain_colon t c i e = rw (e, and-false (is_plain_safe 58 c)) refl

pub plain_hash : (t : List ℕ) (c : Ctx) (i : ℕ) → code t i ≡ 35 → is_plain_char t c i ≡ is_ns_char (before t i)
unfolding is_plain_char
plain_hash t c i e = rw (e, and-false (is_plain_safe 35 c), or-false (is_ns_char (before t i))) refl

pub plain_other : (t : List ℕ) (c : Ctx) (i : ℕ) → code t i ≢ 58 → code t i ≢ 35 → is_plain_char t c i ≡ is_plain_safe (code t i) c
unfolding is_plain_char
plain_other t c i n m =
    rw (ne_eqb (code t i) 58 n, ne_eqb (code t i) 35 m, and-true (is_plain_safe (code t i) c), or-false (is_plain_safe (code t i) c), or-false (is_plain_safe (code t i) c)) refl

pub plain_at_end : (t : List ℕ) (c : Ctx) (i : ℕ) → code t i ≡ no_char → is_plain_char t c i ≡ false
plain_at_end t c i e = plain_other t c i (λ q. absurd (omega arith)) (λ q. absurd (omega arith)) ∙ ap (λ w. is_plain_safe w c) e ∙ safe_at_end c

-- the test for the first one
sign_is_indicator : (c : ℕ) → is_sign c ≡ true → is_indicator c ≡ true
unfolding is_sign is_indicator is_flow_indicator
sign_is_indicator c e = grind (arith, nat_tests)

pub first_sign : (t : List ℕ) (c : Ctx) (i : ℕ) → is_sign (code t i) ≡ true → is_plain_first t c i ≡ is_plain_safe (code t (i + 1)) c
unfolding is_plain_first
first_sign t c i e = rw (sign_is_indicator (code t i) e, e, and-false (is_ns_char (code t i))) refl

pub first_other : (t : List ℕ) (c : Ctx) (i : ℕ) → is_sign (code t i) ≡ false → is_plain_first t c i ≡ (is_ns_char (code t i) && not (is_indicator (code t i)))
unfolding is_plain_first
first_other t c i e = rw (e, or-false (is_ns_char (code t i) && not (is_indicator (code t i)))) refl

pub ns_sign : (c : ℕ) → is_sign c ≡ true → is_ns_char c ≡ true
unfolding is_sign is_ns_char is_nb_char is_printable is_between is_break_char is_white
ns_sign c e = grind (arith, nat_tests)

pub sign_below : (c : ℕ) → is_sign c ≡ true → c < 128
unfolding is_sign
sign_below c e = grind (arith, nat_tests)

pub plain_is_ns : (t : List ℕ) (c : Ctx) (i : ℕ) → is_plain_char t c i ≡ true → is_ns_char (code t i) ≡ true
plain_is_ns t c i e =
    ⊎_elim (λ (h : code t i ≡ 58). ap is_ns_char h ∙ colon_ns) (λ (n : code t i ≢ 58).
    ⊎_elim (λ (h : code t i ≡ 35). ap is_ns_char h ∙ hash_ns) (λ (m : code t i ≢ 35).
    safe_is_ns (code t i) c (sym (plain_other t c i n m) ∙ e))
    (cases_eq (code t i) 35)) (cases_eq (code t i) 58)

pub first_is_ns : (t : List ℕ) (c : Ctx) (i : ℕ) → is_plain_first t c i ≡ true → is_ns_char (code t i) ≡ true
first_is_ns t c i e =
    ⊎_elim (λ (h : is_sign (code t i) ≡ true). ns_sign (code t i) h)
    (λ (h : is_sign (code t i) ≡ false). (and_parts (is_ns_char (code t i)) (not (is_indicator (code t i))) (sym (first_other t c i h) ∙ e)).0)
    (cases_Bool (is_sign (code t i)))

-- those tests, by the character that was read
pub ascii_end : {t : List ℕ} {i c j : ℕ} → CharAt t i c j → c < 128 → i + 1 ≡ j
ascii_end {t} {i} r l = sym (next_ascii t i (rw r.char l)) ∙ r.end

pub reads_code : {t : List ℕ} {i c j : ℕ} → CharAt t i c j → CharAt t i (code t i) j
reads_code {t} {i} {c} {j} r = subst (λ d. CharAt t i d j) (sym r.char) r

pub colon_read : {t : List ℕ} {i c j : ℕ} (x : Ctx) → CharAt t i c j → c ≡ 58 → is_plain_char t x i ≡ is_plain_safe (code t j) x
colon_read {t} {i} x r e = plain_colon t x i (r.char ∙ e) ∙ ap (λ k. is_plain_safe (code t k) x) (ascii_end r (omega arith))

pub hash_read : {t : List ℕ} {i c j : ℕ} (x : Ctx) → CharAt t i c j → c ≡ 35 → is_plain_char t x i ≡ is_ns_char (before t i)
hash_read {t} {i} x r e = plain_hash t x i (r.char ∙ e)

pub other_read : {t : List ℕ} {i c j : ℕ} (x : Ctx) → CharAt t i c j → c ≢ 58 → c ≢ 35 → is_plain_char t x i ≡ is_plain_safe c x
other_read {t} {i} x r n m =
    plain_other t x i (λ e. n (sym r.char ∙ e)) (λ e. m (sym r.char ∙ e)) ∙ ap (λ w. is_plain_safe w x) r.char

pub sign_read : {t : List ℕ} {i c j : ℕ} (x : Ctx) → CharAt t i c j → is_sign c ≡ true → is_plain_first t x i ≡ is_plain_safe (code t j) x
sign_read {t} {i} {c} x r e =
    first_sign t x i (ap is_sign r.char ∙ e) ∙ ap (λ k. is_plain_safe (code t k) x) (ascii_end r (sign_below c e))

pub first_read : {t : List ℕ} {i c j : ℕ} (x : Ctx) → CharAt t i c j → is_sign c ≡ false → is_plain_first t x i ≡ (is_ns_char c && not (is_indicator c))
first_read {t} {i} x r e = first_other t x i (ap is_sign r.char ∙ e) ∙ ap (λ w. is_ns_char w && not (is_indicator w)) r.char

pub indicator_first : (b : Bool) {a : Bool} → a ≡ true → (b && not a) ≡ false
indicator_first b e = rw (e, and-false b) refl

pub char_first : {b a : Bool} → b ≡ true → a ≡ false → (b && not a) ≡ true
char_first e f = rw (e, f) refl

pub no_char_first : {b : Bool} (a : Bool) → b ≡ false → (b && not a) ≡ false
no_char_first a e = rw e refl

pub first_at_end : (t : List ℕ) (c : Ctx) (i : ℕ) → code t i ≡ no_char → is_plain_first t c i ≡ false
first_at_end t c i e =
    ⊎_elim (λ (h : is_plain_first t c i ≡ true). absurd (true≢false (sym (first_is_ns t c i h) ∙ ap is_ns_char e ∙ no_ns_char)))
    (λ (h : is_plain_first t c i ≡ false). h) (cases_Bool (is_plain_first t c i))

-- white space ends with white space
pub after_whites : {t : List ℕ} {i j : ℕ} {x : List ℕ} → IsUtf8 t → Many t is_white i j x → (i ≡ j) ⊎ (is_white (before t j) ≡ true)
after_whites u done = inl refl
after_whites {t} {j = j} u (step (one {i = i} e) c) =
    let low = white_below (code t i) e in
    let r : CharAt t i (code t i) (next t i) = reads_real t i u (omega arith) in
    ⊎_elim (λ (h : next t i ≡ j). inr (subst (λ k. is_white (before t k) ≡ true) h (ap is_white r.back ∙ e)))
    (λ (h : is_white (before t j) ≡ true). inr h) (after_whites u c)

pub lookbehind : {t : List ℕ} {i j : ℕ} {x : List ℕ} → IsUtf8 t → is_ns_char (before t i) ≡ true → Many t is_white i j x → i ≤ j
    → is_ns_char (before t j) ≡ eqb j i
lookbehind {t} {i} {j} u b w l =
    ⊎_elim (λ (e : j ≡ i). rw (eq-eqb j i e) (ap (λ k. is_ns_char (before t k)) e ∙ b))
    (λ (n : j ≢ i). rw (ne_eqb j i n) (⊎_elim (λ (e : i ≡ j). absurd (n (sym e))) (λ (h : is_white (before t j) ≡ true). white_not_ns (before t j) h) (after_whites u w)))
    (cases_eq j i)

-- a character of content stays within its line
ns_not : (c d : ℕ) → is_ns_char c ≡ true → is_ns_char d ≡ false → c ≢ d
ns_not c d e n q = true≢false (sym e ∙ ap is_ns_char q ∙ n)

pub ns_cr : is_ns_char 13 ≡ false
unfolding is_ns_char is_nb_char is_printable is_between is_break_char
ns_cr = refl

pub quiet_ns : {t : List ℕ} {i : ℕ} → IsUtf8 t → is_ns_char (code t i) ≡ true → Quiet t i (next t i)
quiet_ns {t} {i} u e =
    quiet_char u (reads_real t i u (ns_below (code t i) e)) (ns_not (code t i) 10 e feed_no_ns) (ns_not (code t i) 13 e ns_cr) (ns_not (code t i) 0xFEFF e mark_no_ns)

-- one character with the white space before it
record Parts (t : List ℕ) (c : Ctx) (i j : ℕ) (x : List ℕ) : Type 0 where
  pub at : ℕ
  pub blank : List ℕ
  pub whites : Many t is_white i at blank
  pub char : is_plain_char t c at ≡ true
  pub end : next t at ≡ j
  pub text : x ≡ blank ++ code t at ∷ []

parts : {t : List ℕ} {c : Ctx} {i j : ℕ} {x : List ℕ} → PlainItem t c i j x → Parts t c i j x
parts (set_off {h = h} {x = x} w e) = record { at = h; blank = x; whites = w; char = e; end = refl; text = refl }

stop : {t : List ℕ} {c : Ctx} {i j : ℕ} {x : List ℕ} (p : Parts t c i j x) → is_white (code t p.at) ≡ false
stop {t} {c} p = ns_not_white (code t p.at) (plain_is_ns t c p.at p.char)

same_place : {t : List ℕ} {c : Ctx} {i j k : ℕ} {x y : List ℕ} (p : Parts t c i j x) (q : Parts t c i k y) → (p.at ≡ q.at) × (p.blank ≡ q.blank)
same_place {t} p q = many_unique t is_white p.whites (stop p) q.whites (stop q)

item_end : {t : List ℕ} {c : Ctx} {i j k : ℕ} {x y : List ℕ} → PlainItem t c i j x → PlainItem t c i k y → j ≡ k
item_end {t} a b = let p = parts a in let q = parts b in sym p.end ∙ ap (next t) (same_place p q).0 ∙ q.end

item_meaning : {t : List ℕ} {c : Ctx} {i j k : ℕ} {x y : List ℕ} → PlainItem t c i j x → PlainItem t c i k y → x ≡ y
item_meaning {t} a b =
    let p = parts a in let q = parts b in let s = same_place p q in
    p.text ∙ ap (λ w. w ++ code t p.at ∷ []) s.1 ∙ ap (λ h. q.blank ++ code t h ∷ []) s.0 ∙ sym q.text

item_forward : {t : List ℕ} {c : Ctx} {i j : ℕ} {x : List ℕ} → PlainItem t c i j x → i < j
item_forward {t} (set_off {h = h} w e) = let a = chain_forward (one_functional t is_white) w in let b = next_later t h in omega arith

pub item_functional : (t : List ℕ) (c : Ctx) → Functional (PlainItem t c)
item_functional t c = record { one_end = λ a b. item_end a b; one_meaning = λ a b. item_meaning a b; forward = λ a. item_forward a }

pub item_found : {t : List ℕ} {c : Ctx} {i h j : ℕ} {x : List ℕ} → Many t is_white i h x → is_plain_char t c h ≡ true → CharAt t h (code t h) j
    → (y : List ℕ) × PlainItem t c i j y
item_found {t} {c} {i} {h} {j} {x} w e r =
    (x ++ code t h ∷ [], subst (λ k. PlainItem t c i k (x ++ code t h ∷ [])) r.end (set_off w e))

pub item_stuck : {t : List ℕ} {c : Ctx} {i h : ℕ} {x : List ℕ} → Many t is_white i h x → is_white (code t h) ≡ false → is_plain_char t c h ≡ false
    → Stuck (PlainItem t c i)
item_stuck {t} {c} {i} {h} w s n = record { none = λ j y d. go (parts d) } where
  go : {j : ℕ} {y : List ℕ} → Parts t c i j y → ⊥
  go p = let same = many_unique t is_white w s p.whites (stop p) in true≢false (sym p.char ∙ ap (is_plain_char t c) (sym same.0) ∙ n)

-- the part on the first line
pub item_quiet : {t : List ℕ} {c : Ctx} {i j : ℕ} {x : List ℕ} → IsUtf8 t → PlainItem t c i j x → Quiet t i j
item_quiet {t} {c} u (set_off {h = h} w e) = quiet_join (quiet_whites u w) (quiet_ns u (plain_is_ns t c h e))

pub items_quiet : {t : List ℕ} {c : Ctx} {i j : ℕ} {x : List ℕ} → IsUtf8 t → Chain (PlainItem t c) i j x → Quiet t i j
items_quiet {t} {i = i} u done = quiet_nothing t i
items_quiet u (step s c) = quiet_join (item_quiet u s) (items_quiet u c)

pub line_forward : {t : List ℕ} {c : Ctx} {i j : ℕ} {x : List ℕ} → PlainLine t c i j x → i < j
line_forward {t} {c} {i} (one_line e d) = let a = next_later t i in let b = chain_forward (item_functional t c) d in omega arith

pub forbidden_front : {t : List ℕ} {c : Ctx} {i : ℕ} → ForbiddenLine t i → Stuck (PlainFront t c i)
forbidden_front {t} {c} {i} f = record { none = λ j x d. d.clear.none i (omega arith) (line_forward d.text) f }

pub no_front : {t : List ℕ} {c : Ctx} {i : ℕ} → is_plain_first t c i ≡ false → Stuck (PlainFront t c i)
no_front {t} {c} {i} n = record { none = λ j x d. go n d.text } where
  go : {j : ℕ} {x : List ℕ} → is_plain_first t c i ≡ false → PlainLine t c i j x → ⊥
  go n (one_line e d) = true≢false (sym e ∙ n)

data LineRest (t : List ℕ) (c : Ctx) (i : ℕ) : ℕ → List ℕ → Type 0 where
  rest_is : {j : ℕ} {x : List ℕ} → Chain (PlainItem t c) (next t i) j x → LineRest t c i j (code t i ∷ x)

line_rest : {t : List ℕ} {c : Ctx} {i j : ℕ} {x : List ℕ} → PlainLine t c i j x → LineRest t c i j x
line_rest (one_line e d) = rest_is d

pub line_chosen : {t : List ℕ} {c : Ctx} {i j : ℕ} {x : List ℕ} → is_plain_first t c i ≡ true → Chain (PlainItem t c) (next t i) j x → Stuck (PlainItem t c j)
    → Chosen (PlainLine t c i) j (code t i ∷ x)
line_chosen {t} {c} {i} {j} {x} e d s = record {
  derived = one_line e d;
  longest = λ k y f. long (line_rest f);
  only = λ y f. one (line_rest f);
} where
  best : Chosen (Chain (PlainItem t c) (next t i)) j x
  best = chain_chosen (item_functional t c) d s

  long : {k : ℕ} {y : List ℕ} → LineRest t c i k y → k ≤ j
  long (rest_is {j = k} {x = y} f) = best.longest k y f

  one : {y : List ℕ} → LineRest t c i j y → y ≡ code t i ∷ x
  one (rest_is {x = y} f) = ap (λ w. code t i ∷ w) (best.only y f)

pub front_chosen : {t : List ℕ} {c : Ctx} {i j k : ℕ} {x : List ℕ} → IsUtf8 t → (ForbiddenLine t i → ⊥) → is_plain_first t c i ≡ true → CharAt t i (code t i) k
    → Chain (PlainItem t c) k j x → Stuck (PlainItem t c j) → (y : List ℕ) × Chosen (PlainFront t c i) j y
front_chosen {t} {c} {i} {j} {k} {x} u n e r d s =
    let d' : Chain (PlainItem t c) (next t i) j x = subst (λ m. Chain (PlainItem t c) m j x) (sym r.end) d in
    let best = line_chosen e d' s in
    let quiet : Quiet t i j = quiet_join (quiet_ns u (first_is_ns t c i e)) (items_quiet u d') in (
      code t i ∷ x,
      record {
        derived = record { text = best.derived; clear = clear_quiet n quiet };
        longest = λ m y f. best.longest m y f.text;
        only = λ y f. best.only y f.text;
      },
    )
