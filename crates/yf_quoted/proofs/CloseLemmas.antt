-- Closing quotes that can also be half of a character: the bodies from one offset, and the longest of them.
use Rattle.std.proofs.Common.{◌≡◌, ◌≢◌, ℕ, ◌<◌, ◌≤◌, List, [], ◌++◌, Option, Some, None, refl, sym, ap, ◌∙◌, subst, inl, inr, ◌⊎◌, ⊎_elim, arith, append_assoc}
use Rattle.std.proofs.lemmas.Option.{same_Some}
use Rattle.yf_chars.specs.Text.{code}
use Rattle.yf_chars.specs.Chain.{Chain, Stuck}
use Rattle.yf_chars.specs.Chain.Chain.{done, step}
use Rattle.yf_chars.proofs.ChainLemmas.{chain_forward, chain_meet, Meets}
use Rattle.yf_chars.proofs.ChainLemmas.Meets.{goes_on, falls_short}
use Rattle.yf_lines.specs.Basic.{Clear}
use Rattle.yf_lines.proofs.BasicLemmas.{clear_front}
use Rattle.yf_quoted.specs.Body.{Gap, Step, Body}
use Rattle.yf_quoted.proofs.BodyLemmas.{Laws, step_functional}

-- the body up to k with the text y isn't longer than the body up to j with the text x
pub record NoLonger {A : Type 0} (j : ℕ) (x : List A) (k : ℕ) (y : List A) : Type 0 where
  pub within : k ≤ j
  pub same : k ≡ j → y ≡ x

module _ {A : Type 0} {t : List ℕ} {put : List ℕ → List A} {C B : ℕ → ℕ → List A → Type 0} {quote : ℕ} where
  -- no body goes on after the end of another one if no character begins there
  goes_nowhere : {m p j k : ℕ} {last other z : List A} → Laws t put C B quote → Stuck (C j) → Gap t put B m j last → code t j ≡ quote
      → Chain (Step t put C B) m p z → Gap t put B p k other → code t k ≡ quote → (k ≡ j) × (z ++ other ≡ last)
  goes_nowhere {m} {j = j} {k = k} {last = last} {other = other} l s g q done h r = l.ends m k j other last h (inr r) g (inr q)
  goes_nowhere {m} {j = j} {last = last} l s g q (step {h = n} a c) h r =
      let same = l.ends m a.at j a.front last a.gap (inl (n, a.char, a.is)) g (inr q) in
      absurd (s.none n a.char (subst (λ d. C d n a.char) same.0 a.is))

  -- a body that closes earlier in the steps of another one
  closes_early : {m p j k : ℕ} {last other z : List A} → Laws t put C B quote → Gap t put B p j last → code t j ≡ quote
      → Chain (Step t put C B) m p z → Gap t put B m k other → code t k ≡ quote → (k < j) ⊎ ((k ≡ j) × (other ≡ z ++ last))
  closes_early {m} {j = j} {k = k} {last = last} {other = other} l g q done h r = inr (l.ends m k j other last h (inr r) g (inr q))
  closes_early {m} {p} {j} {k} {last} {other} l g q (step {h = n} a c) h r =
      let same = l.ends m k a.at other a.front h (inr r) a.gap (inl (n, a.char, a.is)) in
      let f = l.chars.forward a.is in
      let e = chain_forward (step_functional l) c in
      let o = l.order p j last g in
      inl (omega (arith, same.0))

  -- a body is the longest if no character begins at its closing quote
  pub close_longest : {i j k : ℕ} {x y : List A} → Laws t put C B quote → Stuck (C j) → Body t put C B quote i j x → Body t put C B quote i k y
      → NoLonger j x k y
  close_longest {i} {j} {k} {x} {y} l s a b = go (chain_meet (step_functional l) a.steps b.steps) where
    go : Meets (Step t put C B) a.at b.at a.front b.front → NoLonger j x k y
    go (goes_on z c e) =
        let r = goes_nowhere l s a.gap a.closing c b.gap b.closing in
        record {
          within = omega (arith, r.0);
          same = λ q. b.text ∙ ap (λ w. w ++ b.last) e ∙ append_assoc a.front z b.last ∙ ap (λ w. a.front ++ w) r.1 ∙ sym a.text;
        }
    go (falls_short z c e) =
        ⊎_elim
        (λ (f : k < j). record { within = omega arith; same = λ q. absurd (omega arith) })
        (λ (f : (k ≡ j) × (b.last ≡ z ++ a.last)). record {
          within = omega (arith, f.0);
          same = λ q. b.text ∙ ap (λ w. b.front ++ w) f.1 ∙ sym (append_assoc b.front z a.last) ∙ ap (λ w. w ++ a.last) (sym e) ∙ sym a.text;
        })
        (closes_early l a.gap a.closing c b.gap b.closing)

-- a known body: its closing quote and its text
pub record Closed (A : Type 0) : Type 0 where
  pub close : ℕ
  pub text : List A

pub data Within {A : Type 0} (k : ℕ) (y : List A) : Option (Closed A) → Type 0 where
  known : {c : Closed A} → NoLonger c.close c.text k y → Within k y (Some c)

-- a body that goes on from e, after the text x
pub record Later {A : Type 0} (t : List ℕ) (put : List ℕ → List A) (C B : ℕ → ℕ → List A → Type 0) (quote e : ℕ) (x : List A) (k : ℕ) (y : List A) : Type 0 where
  pub rest : List A
  pub body : Body t put C B quote e k rest
  pub text : y ≡ x ++ rest

-- the longest body that closes before e, if one exists; every other body goes on from e
pub record Best {A : Type 0} (t : List ℕ) (put : List ℕ → List A) (C B : ℕ → ℕ → List A → Type 0) (quote i e : ℕ) (x : List A) (best : Option (Closed A)) : Type 0 where
  pub derived : (c : Closed A) → best ≡ Some c → Body t put C B quote i c.close c.text × (c.close < e)
  pub every : (k : ℕ) (y : List A) → Body t put C B quote i k y → Later t put C B quote e x k y ⊎ Within k y best

module _ {A : Type 0} {t : List ℕ} {put : List ℕ → List A} {C B : ℕ → ℕ → List A → Type 0} {quote : ℕ} where
  pub best_nothing : (i : ℕ) → Best t put C B quote i i [] None
  best_nothing i = record { derived = λ c e. cc; every = λ k y b. inl (record { rest = y; body = b; text = refl }) }

  -- a body either closes with the gap of a step, or goes on after the step
  after_steps : {e h m k : ℕ} {z f last : List A} → Laws t put C B quote → (s : Step t put C B e h z) → Chain (Step t put C B) e m f → Gap t put B m k last
      → Clear t m k → code t k ≡ quote → ((k ≡ s.at) × (f ++ last ≡ s.front)) ⊎ Later t put C B quote h z k (f ++ last)
  after_steps {e} {h} {k = k} {last = last} l s done g a q = inl (l.ends e k s.at last s.front g (inr q) s.gap (inl (h, s.char, s.is)))
  after_steps {e} {h} {m} {k} {z} {f} {last} l s (step {h = n} {x = x} {y = y} r c) g a q =
      let u = step_functional l in
      let place : n ≡ h = u.one_end r s in
      let meant : x ≡ z = u.one_meaning r s in
      inr (record {
        rest = y ++ last;
        body = record { at = m; front = y; last = last; steps = subst (λ d. Chain (Step t put C B) d m y) place c; gap = g; clear = a; closing = q; text = refl };
        text = append_assoc x y last ∙ ap (λ w. w ++ (y ++ last)) meant;
      })

  after_step : {e h k : ℕ} {z y : List A} → Laws t put C B quote → (s : Step t put C B e h z) → Body t put C B quote e k y
      → ((k ≡ s.at) × (y ≡ s.front)) ⊎ Later t put C B quote h z k y
  after_step {e} {h} {k} {z} {y} l s b = ⊎_elim
      (λ (r : (k ≡ s.at) × (b.front ++ b.last ≡ s.front)). inl (r.0, b.text ∙ r.1))
      (λ (r : Later t put C B quote h z k (b.front ++ b.last)). inr (record { rest = r.rest; body = r.body; text = b.text ∙ r.text }))
      (after_steps l s b.steps b.gap b.clear b.closing)

  later_more : {e h k : ℕ} {x z y : List A} (l : Later t put C B quote e x k y) → Later t put C B quote h z k l.rest → Later t put C B quote h (x ++ z) k y
  later_more {x = x} {z = z} l m = record { rest = m.rest; body = m.body; text = l.text ∙ ap (λ w. x ++ w) m.text ∙ sym (append_assoc x z m.rest) }

  -- a step with a character that doesn't begin with a quote
  pub best_more : {i e h : ℕ} {x z : List A} {best : Option (Closed A)} → Laws t put C B quote → Best t put C B quote i e x best → (s : Step t put C B e h z)
      → code t s.at ≢ quote → Best t put C B quote i h (x ++ z) best
  best_more {i} {e} {h} {x} {z} {best} l b s n = record {
    derived = λ c q. let d = b.derived c q in let f = (step_functional l).forward s in (d.0, omega (arith, d.1));
    every = λ k y d. ⊎_elim
        (λ (r : Later t put C B quote e x k y). ⊎_elim
        (λ (m : (k ≡ s.at) × (r.rest ≡ s.front)). absurd (n (ap (code t) (sym m.0) ∙ r.body.closing)))
        (λ (m : Later t put C B quote h z k r.rest). inl (later_more r m))
        (after_step l s r.body))
        (λ (w : Within k y best). inr w)
        (b.every k y d);
  }

  -- a step with a character that begins with a quote and closes a body
  pub best_mark : {i e h : ℕ} {x z : List A} {best : Option (Closed A)} → Laws t put C B quote → Chain (Step t put C B) i e x → Best t put C B quote i e x best
      → (s : Step t put C B e h z) → code t s.at ≡ quote → Best t put C B quote i h (x ++ z) (Some (record { close = s.at; text = x ++ s.front }))
  best_mark {i} {e} {h} {x} {z} {best} l a b s q = record {
    derived = λ c r. let same = same_Some _ _ r in subst (λ (d : Closed A). Body t put C B quote i d.close d.text × (d.close < h)) same (body, l.chars.forward s.is);
    every = λ k y d. ⊎_elim
        (λ (r : Later t put C B quote e x k y). ⊎_elim
        (λ (m : (k ≡ s.at) × (r.rest ≡ s.front)). inr (known (record { within = omega (arith, m.0); same = λ p. r.text ∙ ap (λ w. x ++ w) m.1 })))
        (λ (m : Later t put C B quote h z k r.rest). inl (later_more r m))
        (after_step l s r.body))
        (λ (w : Within k y best). inr (before w (λ c p. (b.derived c p).1)))
        (b.every k y d);
  } where
    o : e ≤ s.at
    o = l.order e s.at s.front s.gap

    body : Body t put C B quote i s.at (x ++ s.front)
    body = let f = l.chars.forward s.is in record {
      at = e;
      front = x;
      last = s.front;
      steps = a;
      gap = s.gap;
      clear = clear_front (omega arith) s.clear;
      closing = q;
      text = refl;
    }

    before : {k : ℕ} {y : List A} {best : Option (Closed A)} → Within k y best → ((c : Closed A) → best ≡ Some c → c.close < e)
        → Within k y (Some (record { close = s.at; text = x ++ s.front }))
    before (known {c = c} w) early =
        let f = early c refl in
        known (record { within = omega (arith, o, w.within); same = λ p. absurd (omega (arith, o, w.within)) })

  -- if no body goes on, all are known
  pub best_last : {i e k : ℕ} {x y : List A} {best : Option (Closed A)} → Best t put C B quote i e x best → ((k : ℕ) (z : List A) → Body t put C B quote e k z → ⊥)
      → Body t put C B quote i k y → Within k y best
  best_last {e = e} {k = k} {x = x} {y = y} {best = best} b n d = ⊎_elim
      (λ (r : Later t put C B quote e x k y). absurd (n k r.rest r.body))
      (λ (w : Within k y best). w)
      (b.every k y d)
