-- Whole quoted scalars of either kind: the reader of the inside finds the scalar.
use Rattle.std.proofs.Common.{◌≡◌, ℕ, ◌+◌, ◌<◌, ◌≤◌, ℤ, pos, negsuc, ◌<ℤ◌, true, false, List, Option, Some, None, refl, sym, ap, ◌∙◌, subst, inl, inr, ◌⊎◌, ⊎_elim, arith}
use Rattle.std.proofs.lemmas.Bool.{cases_Bool}
use Rattle.std.proofs.lemmas.Int.{ints}
use Rattle.std.specs.Str.{IsUtf8}
use Rattle.yf_chars.specs.declared.context.Ctx.{Ctx}
use Rattle.yf_chars.specs.Text.{code}
use Rattle.yf_chars.specs.Class.{is_white}
use Rattle.yf_chars.specs.Chain.{Chain, Stuck}
use Rattle.yf_chars.specs.Chain.Chain.{done, step}
use Rattle.yf_chars.proofs.ChainLemmas.{chain_forward}
use Rattle.yf_chars.proofs.TextLemmas.{reads_byte}
use Rattle.yf_lines.specs.Basic.{Indent, FlowPrefix, FlowFolded, Clear, is_block, is_flow, is_key}
use Rattle.yf_lines.specs.Basic.Indent.{exactly}
use Rattle.yf_lines.specs.Basic.FlowPrefix.{indented, set_off}
use Rattle.yf_lines.specs.Basic.FlowFolded.{at_break, past_whites}
use Rattle.yf_lines.proofs.BasicLemmas.{clear_join, clear_front, clear_back}
use Rattle.yf_lines.proofs.ClearLemmas.{clear_char, not_forbidden}
use Rattle.yf_lines.proofs.ContextFacts.{key_not_flow, block_alone, not_others}
use Rattle.yf_quoted.specs.Quoted.{Rest, Inside, QuotedScalar}
use Rattle.yf_quoted.specs.Quoted.Rest.{blank, last_break, next_line}
use Rattle.yf_quoted.specs.Quoted.Inside.{as_key, as_lines}
use Rattle.yf_quoted.specs.Body.{Gap, Step, Body, WidthOf}
use Rattle.yf_quoted.specs.Body.Gap.{by_whites, by_break}
use Rattle.yf_quoted.specs.Body.WidthOf.{of_key, of_lines, of_negative}
use Rattle.yf_quoted.proofs.BodyLemmas.{Laws, Means, items_order, rest_order, lines_body, body_lines, body_clear, body_chars, chars_body}

pub some_width : (n : ℤ) (c : Ctx) → is_block c ≡ false → (o : Option ℕ) × WidthOf n c o
some_width n c b =
    ⊎_elim (λ (k : is_key c ≡ true). (None, of_key k))
    (λ (k : is_key c ≡ false). by_sign n (not_others c b k))
    (cases_Bool (is_key c))
  where
    by_sign : (n : ℤ) → is_flow c ≡ true → (o : Option ℕ) × WidthOf n c o
    by_sign (pos w) f = (Some w, of_lines w f refl)
    by_sign (negsuc w) f = (None, of_negative f (omega (arith, ints)))

-- other breaks
module _ {A : Type 0} {t : List ℕ} {put : List ℕ → List A} {B D : ℕ → ℕ → List A → Type 0} where
  gap_map : {i j : ℕ} {x : List A} → ((i j : ℕ) (x : List A) → B i j x → D i j x) → Gap t put B i j x → Gap t put D i j x
  gap_map f (by_whites w n) = by_whites w n
  gap_map f (by_break {i = i} {j = j} {x = x} b n) = by_break (f i j x b) n

module _ {A : Type 0} {t : List ℕ} {put : List ℕ → List A} {C B D : ℕ → ℕ → List A → Type 0} where
  rest_map : {i j : ℕ} {x : List A} → ((i j : ℕ) (x : List A) → B i j x → D i j x) → Rest t put C B i j x → Rest t put C D i j x
  rest_map f (blank w) = blank w
  rest_map f (last_break {i = i} {j = j} {x = x} b) = last_break (f i j x b)
  rest_map f (next_line {i = i} {h = h} {x = x} b n c d r) = next_line (f i h x b) n c d (rest_map f r)

  inside_map : {i j : ℕ} {x : List A} (c : Ctx) → ((i j : ℕ) (x : List A) → B i j x → D i j x) → Inside t put C B c i j x → Inside t put C D c i j x
  inside_map c f (as_key k d) = as_key k d
  inside_map c f (as_lines e d r) = as_lines e d (rest_map f r)

  steps_map : {i j : ℕ} {x : List A} → ((i j : ℕ) (x : List A) → B i j x → D i j x) → Chain (Step t put C B) i j x → Chain (Step t put C D) i j x
  steps_map f done = done
  steps_map f (step s c) =
      step (record { at = s.at; front = s.front; char = s.char; gap = gap_map f s.gap; is = s.is; clear = s.clear; text = s.text }) (steps_map f c)

  pub body_map : {i j q : ℕ} {x : List A} → ((i j : ℕ) (x : List A) → B i j x → D i j x) → Body t put C B q i j x → Body t put C D q i j x
  body_map f b = record { at = b.at; front = b.front; last = b.last; steps = steps_map f b.steps; gap = gap_map f b.gap; clear = b.clear; closing = b.closing; text = b.text }

-- no line has a negative indentation
pub no_negative_prefix : {t : List ℕ} {n : ℤ} {i j : ℕ} → n <ℤ pos 0 → FlowPrefix t n i j → ⊥
no_negative_prefix {t} {n} l p = go p where
  indent : {i j : ℕ} → Indent t n i j → ⊥
  indent (exactly k e s) = omega (arith, ints)

  go : {i j : ℕ} → FlowPrefix t n i j → ⊥
  go (indented d) = indent d
  go (set_off d s) = indent d

pub no_negative_fold : {t : List ℕ} {n : ℤ} {i j : ℕ} {x : List ℕ} → n <ℤ pos 0 → FlowFolded t n i j x → ⊥
no_negative_fold l (at_break d p) = no_negative_prefix l p
no_negative_fold l (past_whites s d p) = no_negative_prefix l p

pub clear_byte : {t : List ℕ} {i b : ℕ} → IsUtf8 t → code t i ≡ b → b < 45 → Clear t i (i + 1)
clear_byte {t} {i} {b} u q l = clear_char u (reads_byte t i b u q (omega arith)) (not_forbidden t i (λ e. omega arith) (λ e. omega arith))

-- a kind of quotes: its characters C, its breaks D at an indentation, and its breaks B at a width
pub record Kind {A : Type 0} (t : List ℕ) (put : List ℕ → List A) (C : ℕ → ℕ → List A → Type 0) (D : ℤ → ℕ → ℕ → List A → Type 0)
    (B : Option ℕ → ℕ → ℕ → List A → Type 0) (quote : ℕ) : Type 0 where
  pub laws : (o : Option ℕ) → Laws t put C (B o) quote
  pub means : Means t put C quote
  pub on_line : (i j : ℕ) (x : List A) → B None i j x → ⊥
  pub to_width : (w i j : ℕ) (x : List A) → D (pos w) i j x → B (Some w) i j x
  pub from_width : (w i j : ℕ) (x : List A) → B (Some w) i j x → D (pos w) i j x
  pub negative : (n : ℤ) (i j : ℕ) (x : List A) → n <ℤ pos 0 → D n i j x → ⊥
  pub low : quote < 45

module _ {A : Type 0} {t : List ℕ} {put : List ℕ → List A} {C : ℕ → ℕ → List A → Type 0} {D : ℤ → ℕ → ℕ → List A → Type 0} {B : Option ℕ → ℕ → ℕ → List A → Type 0} {quote : ℕ} where
  to_lines : {n : ℤ} {w : ℕ} → Kind t put C D B quote → n ≡ pos w → (i j : ℕ) (x : List A) → D n i j x → B (Some w) i j x
  to_lines {w = w} k s i j x b = k.to_width w i j x (subst (λ m. D m i j x) s b)

  from_lines : {n : ℤ} {w : ℕ} → Kind t put C D B quote → n ≡ pos w → (i j : ℕ) (x : List A) → B (Some w) i j x → D n i j x
  from_lines {w = w} k s i j x b = subst (λ m. D m i j x) (sym s) (k.from_width w i j x b)

  no_lines : {n : ℤ} → Kind t put C D B quote → n <ℤ pos 0 → (i j : ℕ) (x : List A) → D n i j x → B None i j x
  no_lines {n} k l i j x b = absurd (k.negative n i j x l b)

  -- the inside as a body, and back
  inside_body : {n : ℤ} {c : Ctx} {o : Option ℕ} {i j : ℕ} {x : List A} → Kind t put C D B quote → WidthOf n c o → Inside t put C (D n) c i j x
      → code t j ≡ quote → Clear t i j → Body t put C (B o) quote i j x
  inside_body k (of_key e) (as_key f d) q a = chars_body (k.laws None).chars k.means k.on_line d q a
  inside_body {c = c} k (of_key e) (as_lines f d r) q a = absurd (key_not_flow c e f)
  inside_body {c = c} k (of_lines w f s) (as_key e d) q a = absurd (key_not_flow c e f)
  inside_body k (of_lines w f s) (as_lines e d r) q a = lines_body (k.laws (Some w)) k.means d (rest_map (to_lines k s) r) q a
  inside_body {c = c} k (of_negative f l) (as_key e d) q a = absurd (key_not_flow c e f)
  inside_body k (of_negative f l) (as_lines e d r) q a = lines_body (k.laws None) k.means d (rest_map (no_lines k l) r) q a

  body_inside : {n : ℤ} {c : Ctx} {o : Option ℕ} {i j : ℕ} {x : List A} → Kind t put C D B quote → WidthOf n c o → Body t put C (B o) quote i j x
      → Inside t put C (D n) c i j x
  body_inside k (of_key e) b = as_key e (body_chars k.means k.on_line b)
  body_inside {c = c} k (of_lines w f s) b = inside_map c (from_lines k s) (body_lines c f b)
  body_inside {c = c} k (of_negative f l) b = inside_map c (λ i j x d. absurd (k.on_line i j x d)) (body_lines c f b)

  inside_order : {n : ℤ} {c : Ctx} {o : Option ℕ} {i j : ℕ} {x : List A} → Kind t put C D B quote → WidthOf n c o → Inside t put C (D n) c i j x
      → code t j ≡ quote → i ≤ j
  inside_order k w (as_key e d) q = chain_forward (k.laws None).chars d
  inside_order {c = c} k (of_key f) (as_lines e d r) q = absurd (key_not_flow c f e)
  inside_order k (of_lines w f s) (as_lines e d r) q =
      let a = items_order (k.laws (Some w)) d in
      let b = rest_order (k.laws (Some w)) (ap is_white q ∙ k.means.no_white) (rest_map (to_lines k s) r) in
      omega arith
  inside_order k (of_negative f l) (as_lines e d r) q =
      let a = items_order (k.laws None) d in
      let b = rest_order (k.laws None) (ap is_white q ∙ k.means.no_white) (rest_map (no_lines k l) r) in
      omega arith

  pub quoted_body : {n : ℤ} {c : Ctx} {o : Option ℕ} {i j : ℕ} {x : List A} → Kind t put C D B quote → WidthOf n c o → (q : QuotedScalar t put C (D n) c quote i j x)
      → Body t put C (B o) quote (i + 1) q.close x
  quoted_body {i = i} k w q = let e = q.end in let l = inside_order k w q.inside q.closing in inside_body k w q.inside q.closing (clear_front (omega arith) (clear_back (omega arith) q.clear))

  pub body_quoted : {n : ℤ} {c : Ctx} {o : Option ℕ} {i j : ℕ} {x : List A} → Kind t put C D B quote → IsUtf8 t → WidthOf n c o → code t i ≡ quote
      → Body t put C (B o) quote (i + 1) j x → QuotedScalar t put C (D n) c quote i (j + 1) x
  body_quoted {j = j} k u w q b = record {
    close = j;
    opening = q;
    inside = body_inside k w b;
    closing = b.closing;
    end = refl;
    clear = clear_join (clear_byte u q k.low) (clear_join (body_clear b) (clear_byte u b.closing k.low));
  }

-- no scalar
module _ {A : Type 0} {t : List ℕ} {put : List ℕ → List A} {C B : ℕ → ℕ → List A → Type 0} {quote : ℕ} where
  pub no_opening : {c : Ctx} {i : ℕ} → (code t i ≡ quote → ⊥) → Stuck (QuotedScalar t put C B c quote i)
  no_opening n = record { none = λ j y d. n d.opening }

  pub block_stuck : {c : Ctx} {i : ℕ} → is_block c ≡ true → Stuck (QuotedScalar t put C B c quote i)
  block_stuck {c} b = record { none = λ j y d. go d.inside } where
    go : {i j : ℕ} {x : List A} → Inside t put C B c i j x → ⊥
    go (as_key k d) = block_alone c b (inl k)
    go (as_lines f d r) = block_alone c b (inr f)
