-- The inside of quoted scalars can be read in only one way, character by character.
use Rattle.std.proofs.Common.{◌≡◌, ℕ, ◌<◌, ◌≤◌, true, false, List, [], ◌∷◌, ◌++◌, refl, sym, ap, ◌∙◌, subst, inl, inr, ◌⊎◌, ⊎_elim, arith, append_assoc}
use Rattle.std.proofs.lemmas.Bool.{cases_Bool}
use Rattle.yf_chars.specs.declared.context.Ctx.{Ctx}
use Rattle.yf_chars.specs.Text.{code, next}
use Rattle.yf_chars.specs.Class.{is_white}
use Rattle.yf_chars.specs.Chain.{Chain, Many, Functional, Stuck}
use Rattle.yf_chars.specs.Chain.Chain.{done, step}
use Rattle.yf_chars.specs.Chain.One.{one}
use Rattle.yf_chars.proofs.ChainLemmas.{chain_append, chain_forward, chain_more, stuck_unique}
use Rattle.yf_lines.specs.Basic.{Clear, is_flow}
use Rattle.yf_lines.proofs.BasicLemmas.{clear_join, clear_front, clear_back, clear_nothing}
use Rattle.yf_quoted.specs.Quoted.{Item, Rest, Inside}
use Rattle.yf_quoted.specs.Quoted.Item.{set_off}
use Rattle.yf_quoted.specs.Quoted.Rest.{blank, last_break, next_line}
use Rattle.yf_quoted.specs.Quoted.Inside.{as_lines}
use Rattle.yf_quoted.specs.Body.{Gap, Step, Body}
use Rattle.yf_quoted.specs.Body.Gap.{by_whites, by_break}

-- the laws of a kind of quotes: something can be read at the end of a gap, and only one gap ends so
pub record Laws {A : Type 0} (t : List ℕ) (put : List ℕ → List A) (C B : ℕ → ℕ → List A → Type 0) (quote : ℕ) : Type 0 where
  pub chars : Functional C
  pub ends : (i j k : ℕ) (x y : List A) → Gap t put B i j x → ((l : ℕ) × (z : List A) × C j l z) ⊎ (code t j ≡ quote)
      → Gap t put B i k y → ((l : ℕ) × (z : List A) × C k l z) ⊎ (code t k ≡ quote) → (j ≡ k) × (x ≡ y)
  pub order : (i j : ℕ) (x : List A) → Gap t put B i j x → i ≤ j

module _ {A : Type 0} {t : List ℕ} {put : List ℕ → List A} {C B : ℕ → ℕ → List A → Type 0} {quote : ℕ} where
  same_place : {i j k : ℕ} {x y : List A} → Laws t put C B quote → (a : Step t put C B i j x) → (b : Step t put C B i k y)
      → (a.at ≡ b.at) × (a.front ≡ b.front)
  same_place {i} {j} {k} l a b = l.ends i a.at b.at a.front b.front a.gap (inl (j, a.char, a.is)) b.gap (inl (k, b.char, b.is))

  same_char : {i j k : ℕ} {x y : List A} → Laws t put C B quote → (a : Step t put C B i j x) → (b : Step t put C B i k y) → C a.at k b.char
  same_char {k = k} l a b = subst (λ h. C h k b.char) (sym (same_place l a b).0) b.is

  step_forward : {i j : ℕ} {x : List A} → Laws t put C B quote → Step t put C B i j x → i < j
  step_forward {i} l a = let f = l.order i a.at a.front a.gap in let g = l.chars.forward a.is in omega arith

  pub step_functional : Laws t put C B quote → Functional (Step t put C B)
  step_functional l = record {
    one_end = λ a b. l.chars.one_end a.is (same_char l a b);
    one_meaning = λ a b. a.text ∙ ap (λ w. w ++ a.char) (same_place l a b).1 ∙ ap (λ w. b.front ++ w) (l.chars.one_meaning a.is (same_char l a b)) ∙ sym b.text;
    forward = λ a. step_forward l a;
  }

  -- no step goes on before the closing quote if the quote begins no character
  pub gap_stuck : {i j : ℕ} {x : List A} → Laws t put C B quote → ((k l : ℕ) (z : List A) → code t k ≡ quote → C k l z → ⊥) → Gap t put B i j x → code t j ≡ quote
      → Stuck (Step t put C B i)
  gap_stuck {i} {j} {x} l no_char g q = record {
    none = λ k y s.
        let same = l.ends i s.at j s.front x s.gap (inl (k, s.char, s.is)) g (inr q) in
        no_char s.at k s.char (ap (code t) same.0 ∙ q) s.is;
  }

  pub body_unique : {i j k : ℕ} {x y : List A} → Laws t put C B quote → ((k l : ℕ) (z : List A) → code t k ≡ quote → C k l z → ⊥)
      → Body t put C B quote i j x → Body t put C B quote i k y → (j ≡ k) × (x ≡ y)
  body_unique {i} {j} {k} {x} {y} l no_char a b =
      let same = stuck_unique (step_functional l) a.steps (gap_stuck l no_char a.gap a.closing) b.steps (gap_stuck l no_char b.gap b.closing) in
      let g : Gap t put B a.at k b.last = subst (λ h. Gap t put B h k b.last) (sym same.0) b.gap in
      let ends = l.ends a.at j k a.last b.last a.gap (inr a.closing) g (inr b.closing) in
      (ends.0, a.text ∙ ap (λ w. w ++ a.last) same.1 ∙ ap (λ w. b.front ++ w) ends.1 ∙ sym b.text)

  -- no body exists if neither a step nor the closing quote follows
  pub no_body : {i j : ℕ} {x : List A} → Laws t put C B quote → ((k l : ℕ) (z : List A) → code t k ≡ quote → C k l z → ⊥)
      → Chain (Step t put C B) i j x → Stuck (Step t put C B j)
      → ((k : ℕ) (y : List A) → Gap t put B j k y → code t k ≡ quote → ⊥) → (k : ℕ) (y : List A) → Body t put C B quote i k y → ⊥
  no_body {i} {j} {x} l no_char c s no_gap k y b =
      let same = stuck_unique (step_functional l) c s b.steps (gap_stuck l no_char b.gap b.closing) in
      no_gap k b.last (subst (λ h. Gap t put B h k b.last) (sym same.0) b.gap) b.closing

-- the meanings of plain characters and white space
pub record Means {A : Type 0} (t : List ℕ) (put : List ℕ → List A) (C : ℕ → ℕ → List A → Type 0) (quote : ℕ) : Type 0 where
  pub nothing : put [] ≡ []
  pub append : (x y : List ℕ) → put (x ++ y) ≡ put x ++ put y
  pub white : (i j : ℕ) (x : List A) → is_white (code t i) ≡ true → C i j x → (next t i ≡ j) × (x ≡ put (code t i ∷ []))
  pub is_char : (i : ℕ) → is_white (code t i) ≡ true → C i (next t i) (put (code t i ∷ []))
  pub no_white : is_white quote ≡ false

-- lines as steps
record Going {A : Type 0} (t : List ℕ) (put : List ℕ → List A) (C B : ℕ → ℕ → List A → Type 0) (i j : ℕ) (x : List A) : Type 0 where
  pub at : ℕ
  pub front : List A
  pub last : List A
  pub steps : Chain (Step t put C B) i at front
  pub gap : Gap t put B at j last
  pub clear : Clear t at j
  pub text : x ≡ front ++ last

module _ {A : Type 0} {t : List ℕ} {put : List ℕ → List A} {C B : ℕ → ℕ → List A → Type 0} {quote : ℕ} where
  item_order : {i j : ℕ} {x : List A} → Laws t put C B quote → Item t put C i j x → i ≤ j
  item_order l (set_off {i = i} {h = h} {x = x} w n c) =
      let f = l.order i h (put x) (by_whites w n) in let g = l.chars.forward c in omega arith

  pub items_order : {i j : ℕ} {x : List A} → Laws t put C B quote → Chain (Item t put C) i j x → i ≤ j
  items_order l done = omega arith
  items_order l (step s c) = let f = item_order l s in let g = items_order l c in omega arith

  pub rest_order : {i j : ℕ} {x : List A} → Laws t put C B quote → is_white (code t j) ≡ false → Rest t put C B i j x → i ≤ j
  rest_order l q (blank {i = i} {j = j} {x = x} w) = l.order i j (put x) (by_whites w q)
  rest_order l q (last_break {i = i} {j = j} {x = x} b) = l.order i j x (by_break b q)
  rest_order l q (next_line {i = i} {h = h} {x = x} b n c d r) =
      let f = l.order i h x (by_break b n) in let g = l.chars.forward c in let k = items_order l d in let m = rest_order l q r in omega arith

  items_steps : {i j : ℕ} {x : List A} → Laws t put C B quote → Chain (Item t put C) i j x → Clear t i j → Chain (Step t put C B) i j x
  items_steps l done a = done
  items_steps l (step (set_off {i = i} {h = h} {j = k} {x = x} {y = y} w n c) d) a =
      let f = items_order l d in
      let g = l.order i h (put x) (by_whites w n) in
      let m = l.chars.forward c in
      step (record { at = h; front = put x; char = y; gap = by_whites w n; is = c; clear = clear_front f a; text = refl })
      (items_steps l d (clear_back (omega arith) a))

  rest_steps : {i j : ℕ} {x : List A} → Laws t put C B quote → is_white (code t j) ≡ false → Rest t put C B i j x → Clear t i j → Going t put C B i j x
  rest_steps l q (blank {i = i} {x = x} w) a = record { at = i; front = []; last = put x; steps = done; gap = by_whites w q; clear = a; text = refl }
  rest_steps l q (last_break {i = i} {x = x} b) a = record { at = i; front = []; last = x; steps = done; gap = by_break b q; clear = a; text = refl }
  rest_steps l q (next_line {i = i} {h = h} {k = k} {x = x} {y = y} {z = z} b n c d r) a =
      let f = l.order i h x (by_break b n) in
      let g = l.chars.forward c in
      let e = items_order l d in
      let m = rest_order l q r in
      let rest = rest_steps l q r (clear_back (omega arith) a) in
      let first : Step t put C B i k (x ++ y) = record { at = h; front = x; char = y; gap = by_break b n; is = c; clear = clear_front (omega arith) a; text = refl } in
      record {
        at = rest.at;
        front = (x ++ y) ++ (z ++ rest.front);
        last = rest.last;
        steps = step first (chain_append (items_steps l d (clear_front (omega arith) (clear_back (omega arith) a))) rest.steps);
        gap = rest.gap;
        clear = rest.clear;
        text = ap (λ w. x ++ (y ++ (z ++ w))) rest.text ∙ simp append_assoc;
      }

  pub lines_body : {i h j : ℕ} {x y : List A} → Laws t put C B quote → Means t put C quote → Chain (Item t put C) i h x → Rest t put C B h j y
      → code t j ≡ quote → Clear t i j → Body t put C B quote i j (x ++ y)
  lines_body {x = x} l m d r q a =
      let n = ap is_white q ∙ m.no_white in
      let f = items_order l d in
      let g = rest_order l n r in
      let rest = rest_steps l n r (clear_back f a) in
      record {
        at = rest.at;
        front = x ++ rest.front;
        last = rest.last;
        steps = chain_append (items_steps l d (clear_front g a)) rest.steps;
        gap = rest.gap;
        clear = rest.clear;
        closing = q;
        text = ap (λ w. x ++ w) rest.text ∙ sym (append_assoc x rest.front rest.last);
      }

-- steps as lines
record Lines {A : Type 0} (t : List ℕ) (put : List ℕ → List A) (C B : ℕ → ℕ → List A → Type 0) (i j : ℕ) (x : List A) : Type 0 where
  pub mid : ℕ
  pub front : List A
  pub back : List A
  pub items : Chain (Item t put C) i mid front
  pub rest : Rest t put C B mid j back
  pub text : x ≡ front ++ back

module _ {A : Type 0} {t : List ℕ} {put : List ℕ → List A} {C B : ℕ → ℕ → List A → Type 0} where
  last_lines : {i j : ℕ} {x : List A} → Gap t put B i j x → Lines t put C B i j x
  last_lines (by_whites {i = i} {x = x} w n) = record { mid = i; front = []; back = put x; items = done; rest = blank w; text = refl }
  last_lines (by_break {i = i} {x = x} b n) = record { mid = i; front = []; back = x; items = done; rest = last_break b; text = refl }

  step_lines : {i h k j : ℕ} {x z : List A} (y : List A) → Gap t put B i h x → C h k y → Lines t put C B k j z → Lines t put C B i j ((x ++ y) ++ z)
  step_lines y (by_whites {x = x} w n) c l = record {
    mid = l.mid;
    front = (put x ++ y) ++ l.front;
    back = l.back;
    items = step (set_off w n c) l.items;
    rest = l.rest;
    text = ap (λ v. (put x ++ y) ++ v) l.text ∙ sym (append_assoc (put x ++ y) l.front l.back);
  }
  step_lines y (by_break {i = i} {x = x} b n) c l = record {
    mid = i;
    front = [];
    back = x ++ (y ++ (l.front ++ l.back));
    items = done;
    rest = next_line b n c l.items l.rest;
    text = ap (λ v. (x ++ y) ++ v) l.text ∙ append_assoc x y (l.front ++ l.back);
  }

  steps_lines : {i m j : ℕ} {x y : List A} → Chain (Step t put C B) i m x → Gap t put B m j y → Lines t put C B i j (x ++ y)
  steps_lines done g = last_lines g
  steps_lines {i} {j = j} {y = y} (step {x = x} {y = z} s c) g =
      let q : (s.front ++ s.char) ++ (z ++ y) ≡ (x ++ z) ++ y = ap (λ v. v ++ (z ++ y)) (sym s.text) ∙ sym (append_assoc x z y) in
      subst (λ v. Lines t put C B i j v) q (step_lines s.char s.gap s.is (steps_lines c g))

  steps_clear : {i j : ℕ} {x : List A} → Chain (Step t put C B) i j x → Clear t i j
  steps_clear {i} done = clear_nothing t i
  steps_clear (step s c) = clear_join s.clear (steps_clear c)

-- on one line
module _ {A : Type 0} {t : List ℕ} {put : List ℕ → List A} {C : ℕ → ℕ → List A → Type 0} {quote : ℕ} where
  whites_chars : {i j : ℕ} {x : List ℕ} → Means t put C quote → Many t is_white i j x → Chain C i j (put x)
  whites_chars {i} m done = subst (λ v. Chain C i i v) (sym m.nothing) done
  whites_chars {j = j} m (step {x = x} {y = y} (one {i = i} e) c) =
      subst (λ v. Chain C i j v) (sym (m.append (code t i ∷ []) y)) (step (m.is_char i e) (whites_chars m c))

module _ {A : Type 0} {t : List ℕ} {put : List ℕ → List A} {C B : ℕ → ℕ → List A → Type 0} {quote : ℕ} where
  pub body_lines : {i j : ℕ} {x : List A} → (c : Ctx) → is_flow c ≡ true → Body t put C B quote i j x → Inside t put C B c i j x
  body_lines {i} {j} c f b =
      let l = steps_lines b.steps b.gap in
      subst (λ v. Inside t put C B c i j v) (sym (b.text ∙ l.text)) (as_lines f l.items l.rest)

  pub body_clear : {i j : ℕ} {x : List A} → Body t put C B quote i j x → Clear t i j
  body_clear b = clear_join (steps_clear b.steps) b.clear

  gap_chars : {i j : ℕ} {x : List A} → Means t put C quote → ((i j : ℕ) (x : List A) → B i j x → ⊥) → Gap t put B i j x → Chain C i j x
  gap_chars m n (by_whites w e) = whites_chars m w
  gap_chars m n (by_break {i = i} {j = j} {x = x} b e) = absurd (n i j x b)

  steps_chars : {i j : ℕ} {x : List A} → Means t put C quote → ((i j : ℕ) (x : List A) → B i j x → ⊥) → Chain (Step t put C B) i j x → Chain C i j x
  steps_chars m n done = done
  steps_chars {i} {j} m n (step {h = h} {y = y} s c) =
      let one : Chain C i h (s.front ++ s.char) = chain_more (gap_chars m n s.gap) s.is in
      chain_append (subst (λ v. Chain C i h v) (sym s.text) one) (steps_chars m n c)

  pub body_chars : {i j : ℕ} {x : List A} → Means t put C quote → ((i j : ℕ) (x : List A) → B i j x → ⊥) → Body t put C B quote i j x → Chain C i j x
  body_chars {i} {j} m n b = subst (λ v. Chain C i j v) (sym b.text) (chain_append (steps_chars m n b.steps) (gap_chars m n b.gap))

module _ {A : Type 0} {t : List ℕ} {put : List ℕ → List A} {C B : ℕ → ℕ → List A → Type 0} {quote : ℕ} where
  -- white space before a gap without breaks, and before steps that begin with such a gap
  white_gap : {g i j : ℕ} {x : List A} → Means t put C quote → ((i j : ℕ) (x : List A) → B i j x → ⊥) → is_white (code t g) ≡ true → next t g ≡ i
      → Gap t put B i j x → Gap t put B g j (put (code t g ∷ []) ++ x)
  white_gap {g} m no_break e q (by_whites {i = i} {j = j} {x = x} w n) =
      let w' : Many t is_white g j (code t g ∷ [] ++ x) = step (one e) (subst (λ k. Many t is_white k j x) (sym q) w) in
      subst (λ v. Gap t put B g j v) (m.append (code t g ∷ []) x) (by_whites w' n)
  white_gap m no_break e q (by_break {i = i} {j = j} {x = x} b n) = absurd (no_break i j x b)

  white_going : {g i m j : ℕ} {x y : List A} → Means t put C quote → ((i j : ℕ) (x : List A) → B i j x → ⊥) → is_white (code t g) ≡ true → next t g ≡ i
      → Clear t g i → Chain (Step t put C B) i m x → Gap t put B m j y → Clear t m j → Going t put C B g j (put (code t g ∷ []) ++ (x ++ y))
  white_going {g} {y = y} l no_break e q a done gap b =
      record { at = g; front = []; last = put (code t g ∷ []) ++ y; steps = done; gap = white_gap l no_break e q gap; clear = clear_join a b; text = refl }
  white_going {g} {m = m} {y = y} l no_break e q a (step {h = h} {x = x} {y = z} s c) gap b =
      let p = put (code t g ∷ []) in
      let first : Step t put C B g h (p ++ x) = record {
        at = s.at;
        front = p ++ s.front;
        char = s.char;
        gap = white_gap l no_break e q s.gap;
        is = s.is;
        clear = clear_join a s.clear;
        text = ap (λ v. p ++ v) s.text ∙ sym (append_assoc p s.front s.char);
      } in
      record { at = m; front = (p ++ x) ++ z; last = y; steps = step first c; gap = gap; clear = b; text = simp append_assoc }

  chars_going : {i j : ℕ} {x : List A} → Functional C → Means t put C quote → ((i j : ℕ) (x : List A) → B i j x → ⊥) → Chain C i j x → code t j ≡ quote
      → Clear t i j → Going t put C B i j x
  chars_going {i} f m no_break done q a =
      record { at = i; front = []; last = put []; steps = done; gap = by_whites done (ap is_white q ∙ m.no_white); clear = a; text = sym m.nothing }
  chars_going {i} {j} f m no_break (step {h = h} {x = x} {y = y} c d) q a =
      let o = chain_forward f d in
      let fw = f.forward c in
      let rest = chars_going f m no_break d q (clear_back (omega arith) a) in
      ⊎_elim
      (λ (e : is_white (code t i) ≡ true).
      let w = m.white i h x e c in
      subst (λ v. Going t put C B i j v) (ap (λ v. v ++ (rest.front ++ rest.last)) (sym w.1) ∙ ap (λ v. x ++ v) (sym rest.text))
      (white_going m no_break e w.0 (clear_front o a) rest.steps rest.gap rest.clear))
      (λ (n : is_white (code t i) ≡ false).
      let first : Step t put C B i h x = record { at = i; front = put []; char = x; gap = by_whites done n; is = c; clear = clear_front o a; text = ap (λ v. v ++ x) (sym m.nothing) } in
      record {
        at = rest.at;
        front = x ++ rest.front;
        last = rest.last;
        steps = step first rest.steps;
        gap = rest.gap;
        clear = rest.clear;
        text = ap (λ v. x ++ v) rest.text ∙ sym (append_assoc x rest.front rest.last);
      })
      (cases_Bool (is_white (code t i)))

  pub chars_body : {i j : ℕ} {x : List A} → Functional C → Means t put C quote → ((i j : ℕ) (x : List A) → B i j x → ⊥) → Chain C i j x → code t j ≡ quote
      → Clear t i j → Body t put C B quote i j x
  chars_body f m no_break c q a =
      let g = chars_going f m no_break c q a in
      record { at = g.at; front = g.front; last = g.last; steps = g.steps; gap = g.gap; clear = g.clear; closing = q; text = g.text }
