-- Plain scalars may contain ordinary characters.
use Rattle.std.proofs.Common.{◌≡◌, ◌≢◌, ℕ, zero, suc, ◌+◌, ◌<◌, ◌≤◌, ⊎_elim, Bool, true, false, List, [], ◌∷◌, refl, sym, ap, ◌∙◌, subst, arith, get_or, length}
use Rattle.std.proofs.lemmas.Bool.{cases_Bool, true≢false}
use Rattle.std.proofs.lemmas.Bool.Decides.{nat_tests}
use Rattle.std.specs.Str.{IsCharBoundary, IsUtf8}
use Rattle.yf_chars.specs.declared.context.Ctx.{Ctx}
use Rattle.yf_chars.specs.declared.context.Ctx.TheVariants.{BlockOut, BlockIn, FlowOut, FlowIn, BlockKey, FlowKey}
use Rattle.yf_chars.specs.Class.{is_indicator, is_ns_char, is_nb_char, is_printable, is_between, is_break_char, is_white, is_plain_safe, is_flow_indicator}
use Rattle.yf_chars.specs.Lanes.{LaneRun}
use Rattle.yf_chars.specs.Text.{before, code, CharAt}
use Rattle.yf_chars.proofs.ChainLemmas.{chain_more, many_more}
use Rattle.yf_chars.proofs.TextLemmas.{byte_from_code, reads_ascii}
use Rattle.yf_chars.specs.Chain.{Chain, Many}
use Rattle.yf_chars.specs.Chain.Chain.{done}
use Rattle.yf_lines.specs.Basic.{is_block}
use Rattle.yf_lines.proofs.ClearLemmas.{not_forbidden}
use Rattle.yf_plain.specs.Kept.{is_inside}
use Rattle.yf_plain.specs.Ordinary.{is_letter, is_ordinary, is_outer, EndAt, LetterAt, OrdinaryAt}
use Rattle.yf_plain.specs.Plain.{is_sign, PlainItem}
use Rattle.yf_plain.proofs.PlainLemmas.{plain_other, plain_colon, first_other, char_first, safe_is_ns, item_stuck, item_found, plain_is_ns}
use Rattle.yf_chars.proofs.CharFacts.{feed_no_ns, feed_no_white, space_white, colon_no_white, space_no_ns}

-- a class of characters that a plain scalar in the context may contain beside any character
pub record Ordinary (test : ℕ → Bool) (x : Ctx) : Type 0 where
  pub below : (c : ℕ) → test c ≡ true → c < 128
  pub no_colon : (c : ℕ) → test c ≡ true → c ≢ 58
  pub no_sign : (c : ℕ) → test c ≡ true → c ≢ 35
  pub safe : (c : ℕ) → test c ≡ true → is_plain_safe c x ≡ true

outer_below : (c : ℕ) → is_outer c ≡ true → c < 128
unfolding is_outer is_between
outer_below c e = grind (arith, nat_tests)

outer_no_colon : (c : ℕ) → is_outer c ≡ true → c ≢ 58
unfolding is_outer is_between
outer_no_colon c e q = grind (arith, nat_tests)

outer_no_sign : (c : ℕ) → is_outer c ≡ true → c ≢ 35
unfolding is_outer is_between
outer_no_sign c e q = grind (arith, nat_tests)

outer_content : (c : ℕ) → is_outer c ≡ true → is_ns_char c ≡ true
unfolding is_outer is_between is_ns_char is_nb_char is_printable is_break_char is_white
outer_content c e = grind (arith, nat_tests)

outer_safe : (c : ℕ) (x : Ctx) → is_block x ≡ false → is_inside x ≡ false → is_outer c ≡ true → is_plain_safe c x ≡ true
unfolding is_plain_safe
outer_safe c BlockOut n o e = absurd (true≢false n)
outer_safe c BlockIn n o e = absurd (true≢false n)
outer_safe c FlowOut n o e = outer_content c e
outer_safe c BlockKey n o e = outer_content c e
outer_safe c FlowIn n o e = absurd (true≢false o)
outer_safe c FlowKey n o e = absurd (true≢false o)

pub outer_class : (x : Ctx) → is_block x ≡ false → is_inside x ≡ false → Ordinary is_outer x
outer_class x n o = record { below = outer_below; no_colon = outer_no_colon; no_sign = outer_no_sign; safe = λ c e. outer_safe c x n o e }

ordinary_outer : (c : ℕ) → is_ordinary c ≡ true → is_outer c ≡ true
unfolding is_ordinary is_outer is_between
ordinary_outer c e = grind (arith, nat_tests)

ordinary_no_bracket : (c : ℕ) → is_ordinary c ≡ true → is_flow_indicator c ≡ false
unfolding is_ordinary is_between is_flow_indicator
ordinary_no_bracket c e = grind (arith, nat_tests)

ordinary_safe : (c : ℕ) (x : Ctx) → is_block x ≡ false → is_ordinary c ≡ true → is_plain_safe c x ≡ true
unfolding is_plain_safe
ordinary_safe c BlockOut n e = absurd (true≢false n)
ordinary_safe c BlockIn n e = absurd (true≢false n)
ordinary_safe c FlowOut n e = outer_content c (ordinary_outer c e)
ordinary_safe c BlockKey n e = outer_content c (ordinary_outer c e)
ordinary_safe c FlowIn n e = rw (outer_content c (ordinary_outer c e), ordinary_no_bracket c e) refl
ordinary_safe c FlowKey n e = rw (outer_content c (ordinary_outer c e), ordinary_no_bracket c e) refl

pub ordinary_class : (x : Ctx) → is_block x ≡ false → Ordinary is_ordinary x
ordinary_class x n = record {
  below = λ c e. outer_below c (ordinary_outer c e);
  no_colon = λ c e. outer_no_colon c (ordinary_outer c e);
  no_sign = λ c e. outer_no_sign c (ordinary_outer c e);
  safe = λ c e. ordinary_safe c x n e;
}

-- bytes of ordinary characters
pub ordinary_at : {test : ℕ → Bool} {x : Ctx} → Ordinary test x → (t : List ℕ) (i : ℕ) → IsUtf8 t → i < length t → test (get_or t i 0) ≡ true
    → OrdinaryAt t x i
ordinary_at {test} {x} s t i u l e =
    let r = reads_ascii t i u l (s.below (get_or t i 0) e) in
    let o : test (code t i) ≡ true = ap test r.char ∙ e in
    record {
      reads = subst (λ c. CharAt t i c (i + 1)) (sym r.char) r;
      plain = plain_other t x i (s.no_colon (code t i) o) (s.no_sign (code t i) o) ∙ s.safe (code t i) o;
    }

-- such characters up to j, after a character of content
pub record OrdinaryRun (t : List ℕ) (c : Ctx) (i j : ℕ) : Type 0 where
  pub reads : (x : List ℕ) × Chain (PlainItem t c) i j x
  pub follows : is_ns_char (before t j) ≡ true
  pub boundary : IsCharBoundary t j

run_more : {t : List ℕ} {c : Ctx} {i j : ℕ} → OrdinaryRun t c i j → OrdinaryAt t c j → OrdinaryRun t c i (j + 1)
run_more {t} {c} {j = j} r o = record {
  reads = (_, chain_more r.reads.1 (item_found done o.plain o.reads).1);
  follows = ap is_ns_char o.reads.back ∙ plain_is_ns t c j o.plain;
  boundary = o.reads.boundary;
}

run_on : {test : ℕ → Bool} {c : Ctx} → Ordinary test c → (t : List ℕ) (i n : ℕ) → IsUtf8 t → i + n ≤ length t
    → ((k : ℕ) → i ≤ k → k < i + n → test (get_or t k 0) ≡ true) → OrdinaryRun t c i i → OrdinaryRun t c i (i + n)
run_on {c = c} s t i zero u w p r = subst (λ j. OrdinaryRun t c i j) (omega arith) r
run_on {c = c} s t i (suc n) u w p r =
    let here : OrdinaryRun t c i (i + n) = run_on s t i n u (omega arith) (λ k l m. p k l (omega arith)) r in
    let next : i + n + 1 ≡ i + suc n = omega arith in
    subst (λ j. OrdinaryRun t c i j) next (run_more here (ordinary_at s t (i + n) u (omega arith) (p (i + n) (omega arith) (omega arith))))

pub run_found : {test : ℕ → Bool} {c : Ctx} → Ordinary test c → (t b : List ℕ) (i n : ℕ) → b ≡ t → IsUtf8 t → i + 16 ≤ length t → LaneRun test b i n
    → is_ns_char (before t i) ≡ true → IsCharBoundary t i → OrdinaryRun t c i (i + n)
run_found {test} s t b i n e u w r a z =
    let few = r.few in
    run_on s t i n u (omega arith) (λ k l m. sym (ap (λ v. test (get_or v k 0)) e) ∙ r.pass k l m) (record { reads = (_, done); follows = a; boundary = z })

-- bytes of letters, digits and _
letter_outer : (c : ℕ) → is_letter c ≡ true → is_outer c ≡ true
unfolding is_letter is_outer is_between
letter_outer c e = grind (arith, nat_tests)

letter_above : (c : ℕ) → is_letter c ≡ true → 48 ≤ c
unfolding is_letter is_between
letter_above c e = grind (arith, nat_tests)

letter_no_sign : (c : ℕ) → is_letter c ≡ true → is_sign c ≡ false
unfolding is_letter is_between is_sign
letter_no_sign c e = grind (arith, nat_tests)

letter_no_indicator : (c : ℕ) → is_letter c ≡ true → is_indicator c ≡ false
unfolding is_letter is_between is_indicator is_flow_indicator
letter_no_indicator c e = grind (arith, nat_tests)

pub letter_at : (t : List ℕ) (i : ℕ) → IsUtf8 t → i < length t → is_letter (get_or t i 0) ≡ true → LetterAt t i
letter_at t i u l e =
    let r = reads_ascii t i u l (outer_below (get_or t i 0) (letter_outer (get_or t i 0) e)) in
    let f : is_letter (code t i) ≡ true = ap is_letter r.char ∙ e in
    let d : 48 ≤ code t i = letter_above (code t i) f in
    record {
      reads = subst (λ c. CharAt t i c (i + 1)) (sym r.char) r;
      first = λ c. first_other t c i (letter_no_sign (code t i) f) ∙ char_first (outer_content (code t i) (letter_outer (code t i) f)) (letter_no_indicator (code t i) f);
      allowed = not_forbidden t i (λ q. absurd (omega arith)) (λ q. absurd (omega arith));
    }

-- a byte above : isn't white space
white_upto : (c : ℕ) → is_white c ≡ true → c ≤ 32
unfolding is_white
white_upto c e = grind (arith, nat_tests)

pub no_white_above : (t : List ℕ) (i : ℕ) → IsUtf8 t → 58 < get_or t i 0 → is_white (code t i) ≡ false
no_white_above t i u l =
    ⊎_elim
    (λ (h : is_white (code t i) ≡ true).
    let w = white_upto (code t i) h in
    let b = (byte_from_code t i u (omega (arith, w))).1 in
    absurd (omega (arith, b, w, l)))
    (λ (h : is_white (code t i) ≡ false). h) (cases_Bool (is_white (code t i)))

pub word_item : (t : List ℕ) (c : Ctx) (i : ℕ) → CharAt t i 32 (i + 1) → OrdinaryAt t c (i + 1) → (y : List ℕ) × PlainItem t c i (i + 2) y
word_item t c i r o =
    let white : is_white (code t i) ≡ true = ap is_white r.char ∙ space_white in
    let space : Many t is_white i (i + 1) (code t i ∷ []) = subst (λ k. Many t is_white i k (code t i ∷ [])) r.end (many_more t is_white done white) in
    let end : i + 1 + 1 ≡ i + 2 = omega arith in
    item_found space o.plain (subst (λ k. CharAt t (i + 1) (code t (i + 1)) k) end o.reads)

pub word_after : (t : List ℕ) (c : Ctx) (i : ℕ) → OrdinaryAt t c (i + 1) → is_ns_char (before t (i + 2)) ≡ true
word_after t c i o =
    let end : i + 1 + 1 ≡ i + 2 = omega arith in
    subst (λ k. is_ns_char (before t k) ≡ true) end (ap is_ns_char o.reads.back ∙ plain_is_ns t c (i + 1) o.plain)

pub word_boundary : (t : List ℕ) (c : Ctx) (i : ℕ) → OrdinaryAt t c (i + 1) → IsCharBoundary t (i + 2)
word_boundary t c i o =
    let end : i + 1 + 1 ≡ i + 2 = omega arith in
    subst (λ k. IsCharBoundary t k) end o.reads.boundary

-- a character that isn't a character of content is not safe
no_content_unsafe : (c : ℕ) (x : Ctx) → is_ns_char c ≡ false → is_plain_safe c x ≡ false
no_content_unsafe c x n =
    ⊎_elim (λ (h : is_plain_safe c x ≡ true). absurd (true≢false (sym (safe_is_ns c x h) ∙ n))) (λ (h : is_plain_safe c x ≡ false). h)
    (cases_Bool (is_plain_safe c x))

pub feed_ends : (t : List ℕ) (i : ℕ) → code t i ≡ 10 → EndAt t i
feed_ends t i e = record {
  ends = λ c. item_stuck done (ap is_white e ∙ feed_no_white)
      (plain_other t c i (λ q. absurd (omega arith)) (λ q. absurd (omega arith)) ∙ ap (λ w. is_plain_safe w c) e ∙ no_content_unsafe 10 c feed_no_ns);
}

pub colon_ends : (t : List ℕ) (i x : ℕ) → code t i ≡ 58 → code t (i + 1) ≡ x → is_ns_char x ≡ false → EndAt t i
colon_ends t i x e f n = record {
  ends = λ c. item_stuck done (ap is_white e ∙ colon_no_white) (plain_colon t c i e ∙ ap (λ w. is_plain_safe w c) f ∙ no_content_unsafe x c n);
}

pub colon_space : (t : List ℕ) (i : ℕ) → code t i ≡ 58 → code t (i + 1) ≡ 32 → EndAt t i
colon_space t i e f = colon_ends t i 32 e f space_no_ns

pub colon_feed : (t : List ℕ) (i : ℕ) → code t i ≡ 58 → code t (i + 1) ≡ 10 → EndAt t i
colon_feed t i e f = colon_ends t i 10 e f feed_no_ns
