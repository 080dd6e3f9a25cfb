-- Quoted scalars: their ends, their meanings in other contexts, and that one of a key is on one line.
use Rattle.std.proofs.Common.{◌≡◌, ℕ, ℤ, ◌+◌, ◌<◌, ◌≤◌, true, false, inl, inr, List, Option, sym, ap, ◌∙◌, subst, arith}
use Rattle.std.specs.Str.{IsUtf8}
use Rattle.yf_chars.specs.declared.context.Ctx.{Ctx}
use Rattle.yf_chars.specs.Text.{code}
use Rattle.yf_chars.specs.Chain.{Chain}
use Rattle.yf_chars.specs.Chain.Chain.{done, step}
use Rattle.yf_chars.proofs.ChainLemmas.{chain_forward, chain_meet, Meets}
use Rattle.yf_chars.proofs.ChainLemmas.Meets.{goes_on, falls_short}
use Rattle.yf_lines.specs.Basic.{is_block, is_key}
use Rattle.yf_quoted.specs.Quoted.{QuotedScalar, SingleChar, SingleQuoted, DoubleQuoted, Piece}
use Rattle.yf_quoted.specs.Quoted.SingleChar.{doubled, unquoted}
use Rattle.yf_quoted.specs.Body.{Gap, Step, Body}
use Rattle.yf_quoted.specs.Body.WidthOf.{of_key}
use Rattle.yf_quoted.proofs.BodyLemmas.{Laws, step_functional, body_unique}
use Rattle.yf_quoted.proofs.ScalarLemmas.{Kind, some_width, quoted_body, body_quoted, body_map}
use Rattle.yf_quoted.proofs.SingleLemmas.{single_laws, single_kind}
use Rattle.yf_quoted.proofs.DoubleLemmas.{double_laws, no_quote_char}
use Rattle.yf_quoted.proofs.QuotedLemmas.{double_kind}

doubled_there : {t : List ℕ} {i j : ℕ} {x : List ℕ} → SingleChar t i j x → code t i ≡ 39 → code t (i + 1) ≡ 39
doubled_there (doubled a b) e = b
doubled_there (unquoted a n) e = absurd (n e)

module _ {A : Type 0} {t : List ℕ} {put : List ℕ → List A} {C B : ℕ → ℕ → List A → Type 0} {quote : ℕ} where
  body_order : {i j : ℕ} {x : List A} → Laws t put C B quote → Body t put C B quote i j x → i ≤ j
  body_order {j = j} l b =
      let f = chain_forward (step_functional l) b.steps in
      let g = l.order b.at j b.last b.gap in omega arith

  -- if a body continues after the closing quote of another one, it has a character there
  longer_body : {m p j k : ℕ} {last other z : List A} → Laws t put C B quote → Gap t put B m j last → code t j ≡ quote
      → Chain (Step t put C B) m p z → Gap t put B p k other → code t k ≡ quote → j < k → (h : ℕ) × (w : List A) × C j h w
  longer_body {m} {j = j} {k = k} {last = last} {other = other} l g q done h r o =
      let same = l.ends m j k last other g (inr q) h (inr r) in absurd (omega (arith, same.0))
  longer_body {m} {j = j} {last = last} l g q (step {h = n} s c) h r o =
      let same = l.ends m s.at j s.front last s.gap (inl (n, s.char, s.is)) g (inr q) in
      (n, s.char, subst (λ d. C d n s.char) same.0 s.is)

  shorter_body : {m p j k : ℕ} {last other z : List A} → Laws t put C B quote → Gap t put B p j last → code t j ≡ quote
      → Chain (Step t put C B) m p z → Gap t put B m k other → code t k ≡ quote → k ≤ j
  shorter_body {m} {j = j} {k = k} {last = last} {other = other} l g q done h r =
      let same = l.ends m j k last other g (inr q) h (inr r) in omega (arith, same.0)
  shorter_body {m} {p} {j} {k} {last} {other} l g q (step {h = n} s c) h r =
      let same = l.ends m k s.at other s.front h (inr r) s.gap (inl (n, s.char, s.is)) in
      let f = l.chars.forward s.is in
      let e = chain_forward (step_functional l) c in
      let o = l.order p j last g in omega (arith, same.0)

  body_beyond : {i j k : ℕ} {x y : List A} → Laws t put C B quote → Body t put C B quote i j x → Body t put C B quote i k y → j < k
      → (h : ℕ) × (w : List A) × C j h w
  body_beyond {j = j} {k = k} l a b o = go (chain_meet (step_functional l) a.steps b.steps) where
    go : Meets (Step t put C B) a.at b.at a.front b.front → (h : ℕ) × (w : List A) × C j h w
    go (goes_on z c e) = longer_body l a.gap a.closing c b.gap b.closing o
    go (falls_short z c e) = let f = shorter_body l a.gap a.closing c b.gap b.closing in absurd (omega arith)

module _ {A : Type 0} {t : List ℕ} {put : List ℕ → List A} {C : ℕ → ℕ → List A → Type 0} {D : ℤ → ℕ → ℕ → List A → Type 0} {B : Option ℕ → ℕ → ℕ → List A → Type 0} {quote : ℕ} where
  quoted_later : {n : ℤ} {c : Ctx} {i j : ℕ} {x : List A} → Kind t put C D B quote → is_block c ≡ false → QuotedScalar t put C (D n) c quote i j x → i < j
  quoted_later {n} {c} k b q =
      let w = some_width n c b in
      let f = body_order (k.laws w.0) (quoted_body k w.1 q) in
      let e = q.end in omega arith

  -- a quoted scalar of a key is one in each context of flow nodes
  quoted_widened : {n m : ℤ} {c d : Ctx} {i j : ℕ} {x : List A} → Kind t put C D B quote → IsUtf8 t → is_key c ≡ true → is_block d ≡ false
      → QuotedScalar t put C (D n) c quote i j x → QuotedScalar t put C (D m) d quote i j x
  quoted_widened {m = m} {d = d} {i = i} {x = x} k u e b q =
      let w = some_width m d b in
      let body = body_map (λ g h z a. absurd (k.on_line g h z a)) (quoted_body k (of_key e) q) in
      subst (λ z. QuotedScalar t put C (D m) d quote i z x) q.end (body_quoted k u w.1 q.opening body)

module _ {t : List ℕ} where
  pub single_later : {n : ℤ} {c : Ctx} {i j : ℕ} {x : List ℕ} → is_block c ≡ false → SingleQuoted t n c i j x → i < j
  single_later b q = quoted_later (single_kind t) b q

  pub double_later : {n : ℤ} {c : Ctx} {i j : ℕ} {x : List Piece} → is_block c ≡ false → DoubleQuoted t n c i j x → i < j
  double_later b q = quoted_later (double_kind t) b q

  pub single_widened : {n m : ℤ} {c d : Ctx} {i j : ℕ} {x : List ℕ} → IsUtf8 t → is_key c ≡ true → is_block d ≡ false → SingleQuoted t n c i j x → SingleQuoted t m d i j x
  single_widened u e b q = quoted_widened (single_kind t) u e b q

  pub double_widened : {n m : ℤ} {c d : Ctx} {i j : ℕ} {x : List Piece} → IsUtf8 t → is_key c ≡ true → is_block d ≡ false → DoubleQuoted t n c i j x → DoubleQuoted t m d i j x
  double_widened u e b q = quoted_widened (double_kind t) u e b q

  -- a quoted scalar that is shorter than another one ends before a quote
  pub single_before_quote : {n : ℤ} {c : Ctx} {i j k : ℕ} {x y : List ℕ} → is_block c ≡ false → SingleQuoted t n c i j x → SingleQuoted t n c i k y → j < k → code t j ≡ 39
  single_before_quote {n} {c} b p q l =
      let w = some_width n c b in
      let e = p.end in
      let f = q.end in
      let r = body_beyond (single_laws t w.0) (quoted_body (single_kind t) w.1 p) (quoted_body (single_kind t) w.1 q) (omega arith) in
      ap (code t) (sym e) ∙ doubled_there r.2 p.closing

  -- a double-quoted scalar has one end
  pub double_same : {n : ℤ} {c : Ctx} {i j k : ℕ} {x y : List Piece} → is_block c ≡ false → DoubleQuoted t n c i j x → DoubleQuoted t n c i k y → (k ≡ j) × (y ≡ x)
  double_same {n} {c} b p q =
      let w = some_width n c b in
      let same = body_unique (double_laws t w.0) no_quote_char (quoted_body (double_kind t) w.1 q) (quoted_body (double_kind t) w.1 p) in
      (sym q.end ∙ ap (λ z. z + 1) same.0 ∙ p.end, same.1)
