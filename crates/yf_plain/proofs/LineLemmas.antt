-- Laws of plain scalars over several lines, which can be read in only one way, character by character.
use Rattle.std.proofs.lemmas.Str.{encodes-append}
use Rattle.std.proofs.Common.{◌≡◌, ◌≢◌, ℕ, ◌<◌, ◌≤◌, ℤ, pos, ◌<ℤ◌, true, false, List, [], ◌∷◌, ◌++◌, refl, sym, ap, ◌∙◌, subst, inl, inr, ◌⊎◌, ⊎_elim, arith, append_assoc, append-nil, encode_utf8_all}
use Rattle.std.proofs.lemmas.Bool.{true≢false}
use Rattle.std.specs.Str.{IsUtf8}
use Rattle.yf_chars.specs.declared.context.Ctx.{Ctx}
use Rattle.yf_chars.specs.Text.{code, next, before, CharAt}
use Rattle.yf_chars.specs.Class.{is_ns_char, is_white}
use Rattle.yf_chars.specs.Chain.{Chain, Functional, Stuck, Chosen, Nowhere}
use Rattle.yf_chars.specs.Chain.Chain.{done, step}
use Rattle.yf_chars.proofs.ChainLemmas.{chain_chosen, chain_append, chain_forward, chain_meet, Meets}
use Rattle.yf_chars.proofs.ChainLemmas.Meets.{goes_on, falls_short}
use Rattle.yf_chars.proofs.TextLemmas.{reads_real, next_later}
use Rattle.yf_lines.specs.Basic.{Break, ForbiddenLine, Clear, FlowFolded, is_block, is_flow, is_key}
use Rattle.yf_lines.specs.Basic.LineStart.{after_break}
use Rattle.yf_lines.specs.Fold.{FoldsTo, fold_text}
use Rattle.yf_lines.proofs.BasicLemmas.{clear_join, clear_front, clear_back, clear_nothing, break_forward, no_break_here}
use Rattle.yf_lines.proofs.ClearLemmas.{Quiet, quiet_join, clear_quiet, line_start_after, Spelled, spelled_join, spelled_char, spelled_whites, spelled_nothing}
use Rattle.yf_lines.proofs.FoldLemmas.{folds_functional, folds_forward, clear_fold, fold_line, FoldLine, no_fold_indent, fold_not_item}
use Rattle.yf_lines.proofs.ContextFacts.{key_not_flow, block_alone}
use Rattle.yf_lines.proofs.FoldBytes.{fold_bytes}
use Rattle.yf_plain.specs.Plain.{is_plain_first, is_plain_char, PlainItem, PlainLine, PlainNext, PlainText, PlainFront, Plain, NextLine, NoNextLine}
use Rattle.yf_plain.specs.Plain.PlainItem.{set_off}
use Rattle.yf_plain.specs.Plain.PlainLine.{one_line}
use Rattle.yf_plain.specs.Plain.PlainNext.{next_line}
use Rattle.yf_plain.specs.Plain.PlainText.{as_key, as_lines}
use Rattle.yf_plain.proofs.PlainLemmas.{item_functional, items_quiet, plain_is_ns, first_is_ns, quiet_ns, after_whites, ns_below, ns_not_white, ns_cr, white_not_ns}
use Rattle.yf_chars.proofs.CharFacts.{feed_no_ns, mark_no_ns}

-- one more character: on its line, or the first one of a next line
pub data PlainStep (t : List ℕ) (n : ℤ) (c : Ctx) : ℕ → ℕ → List ℕ → Type 0 where
  stay : {i j : ℕ} {x : List ℕ} → PlainItem t c i j x → PlainStep t n c i j x
  move : {i h : ℕ} {x : List ℕ} → FlowFolded t n i h x → is_plain_char t c h ≡ true → PlainStep t n c i (next t h) (x ++ code t h ∷ [])

-- one more character, without a forbidden line
pub record ClearStep (t : List ℕ) (n : ℤ) (c : Ctx) (i j : ℕ) (x : List ℕ) : Type 0 where
  pub go : PlainStep t n c i j x
  pub clear : Clear t i j

-- a character of content begins no break
ns_not : {c d : ℕ} → is_ns_char c ≡ true → is_ns_char d ≡ false → c ≢ d
ns_not e n q = true≢false (sym e ∙ ap is_ns_char q ∙ n)

pub content_no_break : {t : List ℕ} {h : ℕ} → is_ns_char (code t h) ≡ true → Nowhere (Break t h)
content_no_break {t} {h} n = no_break_here t h (ns_not n ns_cr) (ns_not n feed_no_ns)

pub folds_to : {t : List ℕ} {n : ℤ} {i h : ℕ} {x : List ℕ} → FlowFolded t n i h x → is_ns_char (code t h) ≡ true → FoldsTo t n i h x
folds_to {t} {h = h} f e = record { folded = f; no_white = ns_not_white (code t h) e; no_break = content_no_break e }

-- the two kinds of step, by their parts
record Moved (t : List ℕ) (n : ℤ) (c : Ctx) (i j : ℕ) (x : List ℕ) : Type 0 where
  pub at : ℕ
  pub front : List ℕ
  pub folded : FoldsTo t n i at front
  pub char : is_plain_char t c at ≡ true
  pub end : next t at ≡ j
  pub text : x ≡ front ++ code t at ∷ []

data Kind (t : List ℕ) (n : ℤ) (c : Ctx) (i j : ℕ) (x : List ℕ) : Type 0 where
  stays : PlainItem t c i j x → Kind t n c i j x
  moves : Moved t n c i j x → Kind t n c i j x

kind : {t : List ℕ} {n : ℤ} {c : Ctx} {i j : ℕ} {x : List ℕ} → PlainStep t n c i j x → Kind t n c i j x
kind (stay s) = stays s
kind {t} {c = c} (move {h = h} {x = x} f e) = moves (record { at = h; front = x; folded = folds_to f (plain_is_ns t c h e); char = e; end = refl; text = refl })

never_both : {t : List ℕ} {n : ℤ} {c : Ctx} {i j k : ℕ} {x y : List ℕ} → PlainItem t c i j x → FoldsTo t n i k y → ⊥
never_both {t} {n} {c} {i} {j} {k} {y = y} (set_off {h = h} w e) f =
    let n' = plain_is_ns t c h e in fold_not_item w (content_no_break n') (ns_not_white (code t h) n') f

step_unique : {t : List ℕ} {n : ℤ} {c : Ctx} {i j k : ℕ} {x y : List ℕ} → Kind t n c i j x → Kind t n c i k y → (j ≡ k) × (x ≡ y)
step_unique {t} {n} {c} (stays a) (stays b) = let f = item_functional t c in (f.one_end a b, f.one_meaning a b)
step_unique (stays a) (moves b) = absurd (never_both a b.folded)
step_unique (moves a) (stays b) = absurd (never_both b a.folded)
step_unique {t} {n} (moves a) (moves b) =
    let f = folds_functional t n in
    let at = f.one_end a.folded b.folded in
    let text = f.one_meaning a.folded b.folded in (
      sym a.end ∙ ap (next t) at ∙ b.end,
      a.text ∙ ap (λ w. w ++ code t a.at ∷ []) text ∙ ap (λ h. b.front ++ code t h ∷ []) at ∙ sym b.text,
    )

step_forward : {t : List ℕ} {n : ℤ} {c : Ctx} {i j : ℕ} {x : List ℕ} → Kind t n c i j x → i < j
step_forward {t} {n} {c} (stays a) = (item_functional t c).forward a
step_forward {t} (moves a) = let f = folds_forward a.folded in let g = next_later t a.at in let e = a.end in omega arith

raw_functional : (t : List ℕ) (n : ℤ) (c : Ctx) → Functional (PlainStep t n c)
raw_functional t n c = record {
  one_end = λ a b. (step_unique (kind a) (kind b)).0;
  one_meaning = λ a b. (step_unique (kind a) (kind b)).1;
  forward = λ a. step_forward (kind a);
}

step_functional : (t : List ℕ) (n : ℤ) (c : Ctx) → Functional (ClearStep t n c)
step_functional t n c = record {
  one_end = λ a b. (step_unique (kind a.go) (kind b.go)).0;
  one_meaning = λ a b. (step_unique (kind a.go) (kind b.go)).1;
  forward = λ a. step_forward (kind a.go);
}

-- a range is clear if each step in it is
clear_split : {t : List ℕ} {n : ℤ} {c : Ctx} {i j : ℕ} {x : List ℕ} → Chain (PlainStep t n c) i j x → Clear t i j → Chain (ClearStep t n c) i j x
clear_split done a = done
clear_split {t} {n} {c} (step s d) a =
    let f = chain_forward (raw_functional t n c) d in
    let g = step_forward (kind s) in
    step (record { go = s; clear = clear_front f a }) (clear_split d (clear_back (omega arith) a))

clear_whole : {t : List ℕ} {n : ℤ} {c : Ctx} {i j : ℕ} {x : List ℕ} → Chain (ClearStep t n c) i j x → Clear t i j
clear_whole {t} {i = i} done = clear_nothing t i
clear_whole (step s d) = clear_join s.clear (clear_whole d)

raw : {t : List ℕ} {n : ℤ} {c : Ctx} {i j : ℕ} {x : List ℕ} → Chain (ClearStep t n c) i j x → Chain (PlainStep t n c) i j x
raw done = done
raw (step s d) = step s.go (raw d)

-- lines as steps
pub items_stay : {t : List ℕ} {n : ℤ} {c : Ctx} {i j : ℕ} {x : List ℕ} → Chain (PlainItem t c) i j x → Chain (PlainStep t n c) i j x
items_stay done = done
items_stay (step s d) = step (stay s) (items_stay d)

next_steps : {t : List ℕ} {n : ℤ} {c : Ctx} {i j : ℕ} {x : List ℕ} → PlainNext t n c i j x → Chain (PlainStep t n c) i j x
next_steps {t} {n} {c} {i} {j} (next_line {h = h} {x = x} {y = y} f e d) =
    let q : (x ++ code t h ∷ []) ++ y ≡ x ++ code t h ∷ y = append_assoc x (code t h ∷ []) y in
    subst (λ w. Chain (PlainStep t n c) i j w) q (step (move f e) (items_stay d))

pub nexts_steps : {t : List ℕ} {n : ℤ} {c : Ctx} {i j : ℕ} {x : List ℕ} → Chain (PlainNext t n c) i j x → Chain (PlainStep t n c) i j x
nexts_steps done = done
nexts_steps (step s d) = chain_append (next_steps s) (nexts_steps d)

-- steps as lines
record Lines (t : List ℕ) (n : ℤ) (c : Ctx) (i j : ℕ) (x : List ℕ) : Type 0 where
  pub mid : ℕ
  pub front : List ℕ
  pub rest : List ℕ
  pub items : Chain (PlainItem t c) i mid front
  pub nexts : Chain (PlainNext t n c) mid j rest
  pub text : x ≡ front ++ rest

lines : {t : List ℕ} {n : ℤ} {c : Ctx} {i j : ℕ} {x : List ℕ} → Chain (PlainStep t n c) i j x → Lines t n c i j x
lines {i = i} done = record { mid = i; front = []; rest = []; items = done; nexts = done; text = refl }
lines (step (stay {x = x} s) d) =
    let l = lines d in
    record {
      mid = l.mid;
      front = x ++ l.front;
      rest = l.rest;
      items = step s l.items;
      nexts = l.nexts;
      text = ap (λ w. x ++ w) l.text ∙ sym (append_assoc x l.front l.rest);
    }
lines {t} {i = i} (step (move {h = h} {x = x} f e) d) =
    let l = lines d in
    record {
      mid = i;
      front = [];
      rest = (x ++ code t h ∷ l.front) ++ l.rest;
      items = done;
      nexts = step (next_line f e l.items) l.nexts;
      text = ap (λ w. (x ++ code t h ∷ []) ++ w) l.text ∙ simp append_assoc;
    }

-- a plain scalar as its first character and steps
pub record PlainSteps (t : List ℕ) (n : ℤ) (c : Ctx) (i j : ℕ) (x : List ℕ) : Type 0 where
  pub first : is_plain_first t c i ≡ true
  pub allowed : Clear t i (next t i)
  pub rest : List ℕ
  pub steps : Chain (ClearStep t n c) (next t i) j rest
  pub text : x ≡ code t i ∷ rest

from_steps : {t : List ℕ} {n : ℤ} {c : Ctx} {i j : ℕ} {x : List ℕ} → is_flow c ≡ true → PlainSteps t n c i j x → Plain t n c i j x
from_steps {t} {n} {c} {i} {j} {x} f s =
    let l = lines (raw s.steps) in
    let q : code t i ∷ (l.front ++ l.rest) ≡ x = ap (λ w. code t i ∷ w) (sym l.text) ∙ sym s.text in
    record {
      text = subst (λ w. PlainText t n c i j w) q (as_lines f (one_line s.first l.items) l.nexts);
      clear = clear_join s.allowed (clear_whole s.steps);
    }

chain_order : {t : List ℕ} {n : ℤ} {c : Ctx} {i j : ℕ} {x : List ℕ} → Chain (PlainStep t n c) i j x → i ≤ j
chain_order {t} {n} {c} d = chain_forward (raw_functional t n c) d

make_steps : {t : List ℕ} {n : ℤ} {c : Ctx} {i j : ℕ} {x : List ℕ} → is_plain_first t c i ≡ true → Chain (PlainStep t n c) (next t i) j x → Clear t i j
    → PlainSteps t n c i j (code t i ∷ x)
make_steps {t} {i = i} {x = x} e d a =
    let f = chain_order d in
    let g = next_later t i in
    record { first = e; allowed = clear_front f a; rest = x; steps = clear_split d (clear_back (omega arith) a); text = refl }

to_steps : {t : List ℕ} {n : ℤ} {c : Ctx} {i j : ℕ} {x : List ℕ} → is_flow c ≡ true → Plain t n c i j x → PlainSteps t n c i j x
to_steps {t} {n} {c} {i} f p = go f p.text p.clear where
  with_line : {h j : ℕ} {x y : List ℕ} → PlainLine t c i h x → Chain (PlainNext t n c) h j y → Clear t i j → PlainSteps t n c i j (x ++ y)
  with_line (one_line e d) g a = make_steps e (chain_append (items_stay d) (nexts_steps g)) a

  go : {j : ℕ} {x : List ℕ} → is_flow c ≡ true → PlainText t n c i j x → Clear t i j → PlainSteps t n c i j x
  go f (as_key e d) a = absurd (key_not_flow c e f)
  go f (as_lines e d g) a = with_line d g a

pub plain_chosen : {t : List ℕ} {n : ℤ} {c : Ctx} {i j : ℕ} {x : List ℕ} → is_flow c ≡ true → PlainSteps t n c i j x → Stuck (ClearStep t n c j)
    → Chosen (Plain t n c i) j x
plain_chosen {t} {n} {c} {i} {j} {x} f s stuck =
    let best = chain_chosen (step_functional t n c) s.steps stuck in
    record {
      derived = from_steps f s;
      longest = λ k y p. let q = to_steps f p in best.longest k q.rest q.steps;
      only = λ y p. let q = to_steps f p in q.text ∙ ap (λ w. code t i ∷ w) (best.only q.rest q.steps) ∙ sym s.text;
    }

pub steps_stuck : {t : List ℕ} {n : ℤ} {c : Ctx} {i : ℕ} → Stuck (PlainItem t c i) → NoNextLine t n c i → Stuck (ClearStep t n c i)
steps_stuck {t} {n} {c} {i} s l = record { none = λ j x d. go (kind d.go) d.clear } where
  go : {j : ℕ} {x : List ℕ} → Kind t n c i j x → Clear t i j → ⊥
  go {j} {x} (stays d) a = s.none j x d
  go (moves m) a =
      let f = folds_forward m.folded in let g = next_later t m.at in let e = m.end in
      l.none m.at m.front m.folded m.char (λ q. a.none m.at (omega arith) (omega arith) q)

pub front_steps : {t : List ℕ} {n : ℤ} {c : Ctx} {i j : ℕ} {x : List ℕ} → PlainFront t c i j x → PlainSteps t n c i j x
front_steps {t} {n} {c} {i} p = go p.text p.clear where
  go : {j : ℕ} {x : List ℕ} → PlainLine t c i j x → Clear t i j → PlainSteps t n c i j x
  go (one_line e d) a = make_steps e (items_stay d) a

pub more_steps : {t : List ℕ} {n : ℤ} {c : Ctx} {i j k : ℕ} {x y : List ℕ} → PlainSteps t n c i j x → Chain (ClearStep t n c) j k y
    → PlainSteps t n c i k (x ++ y)
more_steps {t} {i = i} {y = y} s d = record { first = s.first; allowed = s.allowed; rest = s.rest ++ y; steps = chain_append s.steps d; text = ap (λ w. w ++ y) s.text }

pub line_steps : {t : List ℕ} {n : ℤ} {c : Ctx} {i feeds start j : ℕ} → IsUtf8 t → (l : NextLine t n c i feeds start j)
    → Chain (ClearStep t n c) i j (fold_text feeds ++ code t start ∷ l.text)
line_steps {t} {n} {c} {i} {feeds} {start} {j} u l =
    let quiet : Quiet t start j = quiet_join (quiet_ns u (plain_is_ns t c start l.first)) (items_quiet u l.items) in
    clear_split (next_steps (next_line l.folded.folded l.first l.items)) (clear_join (clear_fold u l.folded) (clear_quiet l.allowed quiet))

enders : (d : ℕ) → (d ≡ 10) ⊎ ((d ≡ 13) ⊎ (d ≡ 0xFEFF)) → is_ns_char d ≡ false
enders d e = ⊎_elim (λ (f : d ≡ 10). ap is_ns_char f ∙ feed_no_ns)
    (λ (g : (d ≡ 13) ⊎ (d ≡ 0xFEFF)). ⊎_elim (λ (f : d ≡ 13). ap is_ns_char f ∙ ns_cr) (λ (f : d ≡ 0xFEFF). ap is_ns_char f ∙ mark_no_ns) g) e

-- no character of content is before the first character of a next line
pub fold_before : {t : List ℕ} {n : ℤ} {i h : ℕ} {x : List ℕ} → IsUtf8 t → FoldsTo t n i h x → is_ns_char (before t h) ≡ false
fold_before {t} {n} {i} {h} u f = go (fold_line f) where
  at_start : {l g : ℕ} → Break t g l → is_ns_char (before t l) ≡ false
  at_start {l} {g} b = ⊎_elim (λ (z : l ≡ 0). let k = break_forward b in absurd (omega arith))
      (λ (w : (k : ℕ) × (d : ℕ) × CharAt t k d l × ((d ≡ 10) ⊎ ((d ≡ 13) ⊎ (d ≡ 0xFEFF)))). ap is_ns_char w.2.back ∙ enders w.1 w.3)
      (line_start_after u (after_break b))

  go : FoldLine t h → is_ns_char (before t h) ≡ false
  go l = ⊎_elim (λ (e : l.line ≡ h). ap (λ k. is_ns_char (before t k)) (sym e) ∙ at_start l.ends)
      (λ (e : is_white (before t h) ≡ true). white_not_ns (before t h) e) (after_whites u l.whites)

pub no_next_at : {t : List ℕ} {n : ℤ} {c : Ctx} {i h : ℕ} {x : List ℕ} → FoldsTo t n i h x → (is_plain_char t c h ≡ true → (ForbiddenLine t h → ⊥) → ⊥) → NoNextLine t n c i
no_next_at {t} {n} {c} {i} {h} f refuse = record {
  none = λ k y g e a. let same : k ≡ h = (folds_functional t n).one_end g f in
      refuse (subst (λ m. is_plain_char t c m ≡ true) same e) (λ q. a (subst (λ m. ForbiddenLine t m) (sym same) q));
}

pub no_next_fold : {t : List ℕ} {n : ℤ} {c : Ctx} {i : ℕ} → Stuck (FoldsTo t n i) → NoNextLine t n c i
no_next_fold s = record { none = λ k y g e a. s.none k y g }

-- the characters of a line are those of the text there
item_spelled : {t : List ℕ} {c : Ctx} {i j : ℕ} {x : List ℕ} → IsUtf8 t → PlainItem t c i j x → Spelled t i j x
item_spelled {t} {c} u (set_off {h = h} w e) = spelled_join (spelled_whites u w) (spelled_char (reads_real t h u (ns_below (code t h) (plain_is_ns t c h e))))

items_spelled : {t : List ℕ} {c : Ctx} {i j : ℕ} {x : List ℕ} → IsUtf8 t → Chain (PlainItem t c) i j x → Spelled t i j x
items_spelled {t} {i = i} u done = spelled_nothing t i
items_spelled u (step s d) = spelled_join (item_spelled u s) (items_spelled u d)

pub char_spelled : {t : List ℕ} {c : Ctx} {i j : ℕ} {x : List ℕ} → IsUtf8 t → is_ns_char (code t i) ≡ true → Chain (PlainItem t c) (next t i) j x → Spelled t i j (code t i ∷ x)
char_spelled {t} {i = i} u e d = spelled_join (spelled_char (reads_real t i u (ns_below (code t i) e))) (items_spelled u d)

pub front_spelled : {t : List ℕ} {c : Ctx} {i j : ℕ} {x : List ℕ} → IsUtf8 t → PlainFront t c i j x → Spelled t i j x
front_spelled {t} {c} {i} u p = go p.text where
  go : {j : ℕ} {x : List ℕ} → PlainLine t c i j x → Spelled t i j x
  go (one_line e d) = char_spelled u (first_is_ns t c i e) d

-- a key is the first line
pub key_chosen : {t : List ℕ} {n : ℤ} {c : Ctx} {i j : ℕ} {x : List ℕ} → is_key c ≡ true → Chosen (PlainFront t c i) j x → Chosen (Plain t n c i) j x
key_chosen {t} {n} {c} {i} k best = record {
  derived = record { text = as_key k best.derived.text; clear = best.derived.clear };
  longest = λ m y p. best.longest m y (front k p.text p.clear);
  only = λ y p. best.only y (front k p.text p.clear);
} where
  front : {j : ℕ} {x : List ℕ} → is_key c ≡ true → PlainText t n c i j x → Clear t i j → PlainFront t c i j x
  front k (as_key e d) a = record { text = d; clear = a }
  front k (as_lines e d g) a = absurd (key_not_flow c k e)

pub block_stuck : {t : List ℕ} {n : ℤ} {c : Ctx} {i : ℕ} → is_block c ≡ true → Stuck (Plain t n c i)
block_stuck {t} {n} {c} {i} b = record { none = λ j x p. go b p.text } where
  go : {j : ℕ} {x : List ℕ} → is_block c ≡ true → PlainText t n c i j x → ⊥
  go b (as_key k d) = block_alone c b (inl k)
  go b (as_lines f d g) = block_alone c b (inr f)

pub no_plain : {t : List ℕ} {n : ℤ} {c : Ctx} {i : ℕ} → Stuck (PlainFront t c i) → Stuck (Plain t n c i)
no_plain {t} {n} {c} {i} s = record { none = λ j x p. go p.text p.clear } where
  with_line : {h j : ℕ} {x y : List ℕ} → PlainLine t c i h x → Chain (PlainNext t n c) h j y → Clear t i j → ⊥
  with_line {h} {x = x} d g a = s.none h x (record { text = d; clear = clear_front (chain_order (nexts_steps g)) a })

  go : {j : ℕ} {x : List ℕ} → PlainText t n c i j x → Clear t i j → ⊥
  go {j} {x} (as_key e d) a = s.none j x (record { text = d; clear = a })
  go (as_lines e d g) a = with_line d g a

-- the bytes of a scalar so far, with one more line
pub more_bytes : {b f l : List ℕ} (x y : List ℕ) (k : ℕ) → b ≡ encode_utf8_all x → l ≡ encode_utf8_all y → f ≡ b ++ fold_text k
    → f ++ l ≡ encode_utf8_all (x ++ (fold_text k ++ y))
more_bytes {b} {f} {l} x y k e g h =
    let w : encode_utf8_all (fold_text k ++ y) ≡ fold_text k ++ l =
    encodes-append (fold_text k) y ∙ ap (λ v. v ++ encode_utf8_all y) (fold_bytes k) ∙ ap (λ v. fold_text k ++ v) (sym g) in
    ap (λ v. v ++ l) (h ∙ ap (λ v. v ++ fold_text k) e) ∙ append_assoc (encode_utf8_all x) (fold_text k) l
    ∙ ap (λ v. encode_utf8_all x ++ v) (sym w) ∙ sym (encodes-append x (fold_text k ++ y))

-- a scalar that does not go on after its first line
pub one_line_chosen : {t : List ℕ} {n : ℤ} {c : Ctx} {i j : ℕ} {x : List ℕ} → is_flow c ≡ true → Chosen (PlainFront t c i) j x → Stuck (PlainItem t c j)
    → NoNextLine t n c j → Chosen (Plain t n c i) j x
one_line_chosen f best s l = plain_chosen f (front_steps best.derived) (steps_stuck s l)

pub no_next_negative : {t : List ℕ} {n : ℤ} {c : Ctx} {i : ℕ} → n <ℤ pos 0 → NoNextLine t n c i
no_next_negative l = no_next_fold (no_fold_indent l)

-- a scalar that is a longer one's front goes on after its end: with a character of the line, or with a next line
pub data Onward (t : List ℕ) (n : ℤ) (c : Ctx) (k l : ℕ) : Type 0 where
  on_line : {j : ℕ} {x : List ℕ} → PlainItem t c k j x → Onward t n c k l
  on_next : {h : ℕ} {x : List ℕ} → FoldsTo t n k h x → is_plain_char t c h ≡ true → (ForbiddenLine t h → ⊥) → h < l → Onward t n c k l

step_onward : {t : List ℕ} {n : ℤ} {c : Ctx} {k j l : ℕ} {x : List ℕ} → ClearStep t n c k j x → j ≤ l → Onward t n c k l
step_onward {t} {n} {c} {k} {l = l} s m = go (kind s.go) s.clear m where
  go : {j : ℕ} {x : List ℕ} → Kind t n c k j x → Clear t k j → j ≤ l → Onward t n c k l
  go (stays d) a m = on_line d
  go (moves v) a m =
      let f = folds_forward v.folded in let g = next_later t v.at in let e = v.end in
      on_next v.folded v.char (λ q. a.none v.at (omega arith) (omega arith) q) (omega arith)

chain_onward : {t : List ℕ} {n : ℤ} {c : Ctx} {k l : ℕ} {x : List ℕ} → Chain (ClearStep t n c) k l x → k < l → Onward t n c k l
chain_onward done m = absurd (omega arith)
chain_onward {t} {n} {c} (step s d) m = step_onward s (chain_forward (step_functional t n c) d)

pub plain_onward : {t : List ℕ} {n : ℤ} {c : Ctx} {i k l : ℕ} {x y : List ℕ} → is_flow c ≡ true → Plain t n c i k x → Plain t n c i l y → k < l → Onward t n c k l
plain_onward {t} {n} {c} {k = k} {l = l} f p q m =
    let a = to_steps f p in
    let b = to_steps f q in
    go (chain_meet (step_functional t n c) a.steps b.steps)
  where
    go : {x y : List ℕ} → Meets (ClearStep t n c) k l x y → Onward t n c k l
    go (goes_on z d e) = chain_onward d m
    go (falls_short z d e) = let g = chain_forward (step_functional t n c) d in absurd (omega arith)

-- up to one end it means one text
chain_still : {t : List ℕ} {n : ℤ} {c : Ctx} {k l : ℕ} {x : List ℕ} → Chain (ClearStep t n c) k l x → l ≤ k → x ≡ []
chain_still done m = refl
chain_still {t} {n} {c} (step s d) m = let f = (step_functional t n c).forward s in let g = chain_forward (step_functional t n c) d in absurd (omega arith)

pub plain_unique : {t : List ℕ} {n : ℤ} {c : Ctx} {i k : ℕ} {x y : List ℕ} → is_flow c ≡ true → Plain t n c i k x → Plain t n c i k y → y ≡ x
plain_unique {t} {n} {c} {i} {k} {x} {y} f p q =
    let a = to_steps f p in
    let b = to_steps f q in
    b.text ∙ ap (λ w. code t i ∷ w) (go (chain_meet (step_functional t n c) a.steps b.steps)) ∙ sym a.text
  where
    go : {x y : List ℕ} → Meets (ClearStep t n c) k k x y → y ≡ x
    go {x} (goes_on z d e) = e ∙ ap (λ w. x ++ w) (chain_still d (omega arith)) ∙ append-nil x
    go {y = y} (falls_short z d e) = sym (e ∙ ap (λ w. y ++ w) (chain_still d (omega arith)) ∙ append-nil y)
