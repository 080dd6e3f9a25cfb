-- The longest separation ends in the last line with enough indentation.
use Rattle.std.proofs.Common.{◌≡◌, ◌≢◌, ℕ, ℤ, pos, ◌<ℤ◌, suc, zero, ◌+◌, ◌<◌, ◌≤◌, true, false, ◌⊎◌, inl, inr, ⊎_elim, List, [], ◌∷◌, ◌++◌, length, refl, sym, ap, ◌∙◌, subst, arith, append-nil, add-zero, true≢false}
use Rattle.std.proofs.lemmas.Bool.{cases_lt, cases_Bool}
use Rattle.std.proofs.lemmas.Int.{ints}
use Rattle.yf_chars.specs.declared.context.Ctx.{Ctx}
use Rattle.yf_chars.specs.Text.{code, next, no_char}
use Rattle.yf_chars.specs.Class.{is_white}
use Rattle.yf_chars.specs.Chain.{Chain, Stuck, Chosen, Nowhere, Farthest, One, Many}
use Rattle.yf_chars.specs.Chain.Chain.{done, step}
use Rattle.yf_chars.proofs.TextLemmas.{next_ascii, code-end}
use Rattle.yf_chars.proofs.ChainLemmas.{Meets, chain_append, chain_more, chain_forward, chain_chosen, chain_meet, one_functional, many_chosen, many_more}
use Rattle.yf_chars.proofs.ChainLemmas.Meets.{goes_on, falls_short}
use Rattle.yf_lines.specs.Basic.{is_key, LineStart, Spaces, Indent, SeparateInLine, FlowPrefix}
use Rattle.yf_lines.specs.Basic.SeparateInLine.{by_whites, at_start}
use Rattle.yf_lines.specs.Basic.Indent.{exactly}
use Rattle.yf_lines.specs.Basic.FlowPrefix.{indented, set_off}
use Rattle.yf_lines.proofs.BasicLemmas.{white_of_space, break_forward}
use Rattle.yf_comments.specs.Comment.{CommentValue}
use Rattle.yf_comments.specs.Comments.{BreakOrEnd, LineRest, LineEnd, Row, SeparateLines, Separate, Upto}
use Rattle.yf_comments.specs.Comments.BreakOrEnd.{by_break, by_end}
use Rattle.yf_comments.specs.Comments.LineRest.{nothing, whites, comment}
use Rattle.yf_comments.specs.Comments.LineEnd.{past_rest, from_start}
use Rattle.yf_comments.specs.Comments.SeparateLines.{in_line, over_lines}
use Rattle.yf_comments.specs.Comments.Separate.{in_key, in_node}
use Rattle.yf_comments.specs.Comments.Upto.{upto_line, upto_lines}
use Rattle.yf_comments.proofs.RowLemmas.{rest_tail, row_functional, separate_whites, no_separation, end_white, rest_moves, stuck_at_solid}
use Rattle.yf_comments.proofs.LineEndLemmas.{line_end_rows, lines_rows, rows_ended, rows_line_end, row_stuck}

-- spaces, indentation and the prefix of a flow line are white space
module _ (t : List ℕ) where
  pub spaces_whites : (i k : ℕ) → Spaces t i k → (w : List ℕ) × Many t is_white i (i + k) w
  spaces_whites i zero s = ([], subst (λ v. Many t is_white i v []) (sym (add-zero i)) done)
  spaces_whites i (suc k) s =
      let front = spaces_whites i k (record { each = λ m l. s.each m (omega arith) }) in
      let last : code t (i + k) ≡ 32 = s.each k (omega arith) in
      let more = many_more t is_white front.1 (white_of_space (code t (i + k)) last) in
      let e : next t (i + k) ≡ i + suc k = next_ascii t (i + k) (omega arith) ∙ omega arith in
      (_, subst (λ v. Many t is_white i v (front.0 ++ code t (i + k) ∷ [])) e more)

module _ {t : List ℕ} {n : ℤ} where
  indent_whites : {i j : ℕ} → Indent t n i j → (w : List ℕ) × Many t is_white i j w
  indent_whites {i} (exactly k e s) = spaces_whites t i k s

  pub prefix_whites : {i j : ℕ} → FlowPrefix t n i j → (w : List ℕ) × Many t is_white i j w
  prefix_whites (indented d) = indent_whites d
  prefix_whites (set_off d s) =
      let a = indent_whites d in
      let b = separate_whites s in
      (a.0 ++ b.0, chain_append a.1 b.1)

module _ {t : List ℕ} where
  tail_from : {h j q e : ℕ} {w v : List ℕ} {z : List CommentValue} → Many t is_white h j w → Chain (Row t) h q z
      → Many t is_white q e v → is_white (code t e) ≡ false → (j ≤ e) × (j ≡ e → z ≡ [])
  tail_from {j = j} {w = w} m done n s = ((many_chosen t is_white n s).longest j w m, λ _. refl)
  tail_from {j = j} {q = q} {e = e} m (step {h = k} {x = x} {y = y} r c) n s =
      let a = rest_tail m r.rest in
      let b = chain_forward row_functional c in
      let d = chain_forward (one_functional t is_white) n in
      (omega arith, λ (same : j ≡ e). joined (a.1 (omega arith)) c)
    where
      joined : {k q : ℕ} {x y : List CommentValue} → (x ≡ []) × (k ≡ length t) → Chain (Row t) k q y → x ++ y ≡ []
      joined {y = y} f c = let g = rows_ended c f.1 in ap (λ v. v ++ y) f.0 ∙ g.1

  still : {h q : ℕ} {z : List CommentValue} → Chain (Row t) q h z → h ≤ q → (q ≡ h) × (z ≡ [])
  still done l = (refl, refl)
  still (step r c) l = let a = r.later in let b = chain_forward row_functional c in absurd (omega arith)

  -- the tail after an earlier row ends no later; if it ends at the later one's end, it has the same comments
  tail_after : {h j q e : ℕ} {w v : List ℕ} {y z : List CommentValue} → Many t is_white h j w → h ≤ q → Many t is_white q e v
      → is_white (code t e) ≡ false → Meets (Row t) h q y z → (j ≤ e) × (j ≡ e → z ≡ y)
  tail_after {y = y} m l n s (goes_on x c f) =
      let a = tail_from m c n s in
      (a.0, λ same. f ∙ ap (λ v. y ++ v) (a.1 same) ∙ append-nil y)
  tail_after {h = h} {j = j} {q = q} {w = w} {z = z} m l n s (falls_short x c f) =
      let a = still c l in
      let m' : Many t is_white q j w = subst (λ v. Many t is_white v j w) (sym a.0) m in
      ((many_chosen t is_white n s).longest j w m', λ _. sym (f ∙ ap (λ v. z ++ v) a.1 ∙ append-nil z))

  -- rows from one offset pass the same offsets
  past : {p q h : ℕ} {x' z : List CommentValue} → Row t p q x' → Chain (Row t) p h z → (h ≤ p) ⊎ (q ≤ h)
  past r done = inl (omega arith)
  past r (step s c) =
      let a = row_functional.one_end r s in
      let b = chain_forward row_functional c in
      inr (omega arith)

  split : {p q h : ℕ} {x x' y : List CommentValue} → Row t p q x' → Meets (Row t) h p y x → (h ≤ p) ⊎ (q ≤ h)
  split r (goes_on z c e) = inl (chain_forward row_functional c)
  split r (falls_short z c e) = past r c

-- a tail of white space after rows
record Tail (t : List ℕ) (i p j : ℕ) (y : List CommentValue) : Type 0 where
  place : ℕ
  rows : Chain (Row t) i place y
  within : place ≤ p
  run : List ℕ
  whites : Many t is_white place j run

module _ {t : List ℕ} {n : ℤ} {i : ℕ} where
  upto_tail : {p j : ℕ} {y : List CommentValue} → i ≤ p → Upto t n i p j y → Tail t i p j y
  upto_tail l (upto_line s) = let w = separate_whites s in record { place = i; rows = done; within = l; run = w.0; whites = w.1 }
  upto_tail l (upto_lines {h = h} d b f) =
      let w = prefix_whites f in record { place = h; rows = line_end_rows d; within = b; run = w.0; whites = w.1 }

  upto_best : {q e : ℕ} {z : List CommentValue} {v : List ℕ} → Upto t n i q e z → Chain (Row t) i q z
      → Many t is_white q e v → is_white (code t e) ≡ false → Chosen (Upto t n i q) e z
  upto_best {q} {e} {z} u c w s = record {
    derived = u;
    longest = λ k y d. let a = upto_tail (chain_forward row_functional c) d in
        (tail_after a.whites a.within w s (chain_meet row_functional a.rows c)).0;
    only = λ y d. let a = upto_tail (chain_forward row_functional c) d in
        sym ((tail_after a.whites a.within w s (chain_meet row_functional a.rows c)).1 refl);
  }

  upto_more : {p q j : ℕ} {y : List CommentValue} → p ≤ q → Upto t n i p j y → Upto t n i q j y
  upto_more l (upto_line s) = upto_line s
  upto_more l (upto_lines d b f) = upto_lines d (omega arith) f

  upto_less : {p q j : ℕ} {x x' y : List CommentValue} → Chain (Row t) i p x → Row t p q x' → Nowhere (FlowPrefix t n q)
      → Upto t n i q j y → Upto t n i p j y
  upto_less c r none (upto_line s) = upto_line s
  upto_less {p} {q} {j} {y = y} c r none (upto_lines {h = h} d b f) =
      ⊎_elim (λ (l : h ≤ p). upto_lines d l f)
      (λ (l : q ≤ h). let e : h ≡ q = omega arith in absurd (none.none j (subst (λ v. FlowPrefix t n v j) e f)))
      (split r (chain_meet row_functional (line_end_rows d) c))

  upto_separate : {p j : ℕ} {y : List CommentValue} → Upto t n i p j y → SeparateLines t n i j y
  upto_separate (upto_line s) = in_line s
  upto_separate (upto_lines d b f) = over_lines d f

  separate_upto : {p j : ℕ} {x y : List CommentValue} → Chain (Row t) i p x → Stuck (Row t p) → SeparateLines t n i j y → Upto t n i p j y
  separate_upto c s (in_line a) = upto_line a
  separate_upto c s (over_lines {h = h} {x = y} d f) =
      upto_lines d ((chain_chosen row_functional c s).longest h y (line_end_rows d)) f

-- equivalent relations have the same chosen results
chosen_along : {X : Type 0} {P Q : ℕ → X → Type 0} {j : ℕ} {x : X} → ((k : ℕ) (y : X) → P k y → Q k y) → ((k : ℕ) (y : X) → Q k y → P k y)
    → Chosen P j x → Chosen Q j x
chosen_along {j = j} {x = x} f g c = record {
  derived = f j x c.derived;
  longest = λ k y d. c.longest k y (g k y d);
  only = λ y d. c.only y (g j y d);
}

stuck_along : {X : Type 0} {P Q : ℕ → X → Type 0} → ((k : ℕ) (y : X) → Q k y → P k y) → Stuck P → Stuck Q
stuck_along g s = record { none = λ k y d. s.none k y (g k y d) }

-- indentation and white space, as a reader reads them
module _ {t : List ℕ} where
  -- white space after a part of them
  rest_of_whites : {i h e : ℕ} {x y : List ℕ} → Many t is_white i h x → Many t is_white i e y → is_white (code t e) ≡ false
      → (w : List ℕ) × Many t is_white h e w
  rest_of_whites {i} {h} {e} {x} {y} m n s = follows (chain_meet (one_functional t is_white) m n) where
    follows : Meets (One t is_white) h e x y → (w : List ℕ) × Many t is_white h e w
    follows (goes_on z c f) = (z, c)
    follows (falls_short z c f) =
        let a = (many_chosen t is_white (done {i = e}) s).longest h z c in
        let b = chain_forward (one_functional t is_white) c in
        let same : h ≡ e = omega arith in
        ([], subst (λ v. Many t is_white h v []) same done)

  pub prefix_from : {n : ℤ} {i e : ℕ} {y : List ℕ} (k : ℕ) → n ≡ pos k → Spaces t i k → Many t is_white i e y → is_white (code t e) ≡ false
      → FlowPrefix t n i e
  prefix_from {n} {i} {e} k f s m w =
      let rest = rest_of_whites (spaces_whites t i k s).1 m w in
      let l = chain_forward (one_functional t is_white) rest.1 in
      let d : Indent t n i (i + k) = exactly k f s in
      ⊎_elim (λ (a : i + k < e). set_off d (by_whites rest.1 a))
      (λ (a : e ≤ i + k). let same : i + k ≡ e = omega arith in indented (subst (λ v. Indent t n i v) same d))
      (cases_lt (i + k) e)

  pub fewer_spaces : {i k : ℕ} (m : ℕ) → m ≤ k → Spaces t i k → Spaces t i m
  fewer_spaces m l s = record { each = λ h a. s.each h (omega arith) }

  no_indent : {n : ℤ} {i j : ℕ} (k m : ℕ) → n ≡ pos k → m < k → code t (i + m) ≢ 32 → Indent t n i j → ⊥
  no_indent k m e l c (exactly h f s) =
      let p : pos k ≡ pos h = sym e ∙ f in
      let same : k ≡ h = cc in
      c (s.each m (omega arith))

  no_prefix_of : {n : ℤ} {i j : ℕ} (k m : ℕ) → n ≡ pos k → m < k → code t (i + m) ≢ 32 → FlowPrefix t n i j → ⊥
  no_prefix_of k m e l c (indented d) = no_indent k m e l c d
  no_prefix_of k m e l c (set_off d s) = no_indent k m e l c d

  pub no_prefix : {n : ℤ} {i : ℕ} (k m : ℕ) → n ≡ pos k → m < k → code t (i + m) ≢ 32 → Nowhere (FlowPrefix t n i)
  no_prefix k m e l c = record { none = λ j p. no_prefix_of k m e l c p }

  -- the longest separation in a line
  pub in_line_farthest : {i e : ℕ} → SeparateInLine t i e → is_white (code t e) ≡ false → Farthest (SeparateInLine t i) e
  in_line_farthest s w = record {
    derived = s;
    longest = λ k a. let m = separate_whites a in (many_chosen t is_white (separate_whites s).1 w).longest k m.0 m.1;
  }

  pub in_line_nowhere : {i : ℕ} → is_white (code t i) ≡ false → (LineStart t i → ⊥) → Nowhere (SeparateInLine t i)
  in_line_nowhere w n = record { none = λ j s. no_separation w n s }

  -- at the first offset
  pub upto_first : {n : ℤ} {i e : ℕ} → SeparateInLine t i e → is_white (code t e) ≡ false → Chosen (Upto t n i i) e []
  upto_first s w = upto_best (upto_line s) done (separate_whites s).1 w

  no_upto : {n : ℤ} {i j : ℕ} {x : List CommentValue} → Nowhere (SeparateInLine t i) → ((h : ℕ) (y : List CommentValue) → LineEnd t i h y → h ≤ i → (k : ℕ) → FlowPrefix t n h k → ⊥) → Upto t n i i j x → ⊥
  no_upto {j = j} s f (upto_line a) = s.none j a
  no_upto {j = j} s f (upto_lines {h = h} {y = y} d l p) = f h y d l j p

  -- an empty end of a line
  rest_stays : {i j : ℕ} {x : List CommentValue} → Nowhere (SeparateInLine t i) → LineRest t i j x → j ≤ i → i ≡ length t
  rest_stays s (nothing (by_break b)) l = let f = break_forward b in absurd (omega arith)
  rest_stays s (nothing (by_end e)) l = e
  rest_stays s (whites {h = h} a e) l = absurd (s.none h a)
  rest_stays s (comment {h = h} a c e) l = absurd (s.none h a)

  end_stays : {i j : ℕ} {x : List CommentValue} → Nowhere (SeparateInLine t i) → LineEnd t i j x → j ≤ i → i ≡ length t
  end_stays s (past_rest r c) l = let f = chain_forward row_functional (lines_rows c) in rest_stays s r (omega arith)
  end_stays {i} s (from_start a c) l = absurd (s.none i (at_start a))

  indent_at_end : {n : ℤ} {i j : ℕ} → i ≡ length t → Indent t n i j → n ≡ pos 0
  indent_at_end {i = i} e (exactly zero f s) = f
  indent_at_end {i = i} e (exactly (suc k) f s) =
      let a : code t (i + 0) ≡ 32 = s.each 0 (omega arith) in
      let b : code t i ≡ no_char = ap (code t) e ∙ code-end t in
      let c : code t i ≡ 32 = ap (code t) (sym (add-zero i)) ∙ a in
      absurd (omega arith)

  prefix_at_end : {n : ℤ} {i j : ℕ} → i ≡ length t → FlowPrefix t n i j → n ≡ pos 0
  prefix_at_end {n} {i} e (indented d) = indent_at_end e d
  prefix_at_end e (set_off d s) = indent_at_end e d

  -- neither white space nor the start of a line, and a character
  pub stuck_first : {n : ℤ} {i : ℕ} → Nowhere (SeparateInLine t i) → i ≢ length t → Stuck (Upto t n i i)
  stuck_first s f = record { none = λ j x d. no_upto s (λ h y e l k p. f (end_stays s e l)) d }

  -- at the end of the text
  pub stuck_at_end : {n : ℤ} {i : ℕ} → Nowhere (SeparateInLine t i) → n ≢ pos 0 → Stuck (Upto t n i i)
  stuck_at_end {n} {i} s f = record {
    none = λ j x d. no_upto s (λ h y e l k p.
        let same = end_stays s e l in
        let m = chain_forward row_functional (line_end_rows e) in
        let at : h ≡ length t = omega arith in
        f (prefix_at_end at p)) d;
  }

  pub upto_at_end : {n : ℤ} {i : ℕ} → i ≡ length t → n ≡ pos 0 → Chosen (Upto t n i i) i []
  upto_at_end {n} {i} e f =
      let d : LineEnd t i i [] = past_rest (nothing (by_end e)) done in
      let none : Spaces t i 0 = record { each = λ m l. absurd (omega arith) } in
      let p : FlowPrefix t n i i = subst (λ v. FlowPrefix t n i v) (add-zero i) (indented (exactly 0 f none)) in
      upto_best (upto_lines d (omega arith) p) done (done {i = i}) (end_white (by_end e))

  pub prefix_farthest : {n : ℤ} {i e : ℕ} → FlowPrefix t n i e → is_white (code t e) ≡ false → Farthest (FlowPrefix t n i) e
  prefix_farthest p w = record {
    derived = p;
    longest = λ k q. let m = prefix_whites q in (many_chosen t is_white (prefix_whites p).1 w).longest k m.0 m.1;
  }

-- a reader's walk over rows
pub rows_next : {t : List ℕ} {i p q : ℕ} {b c : List CommentValue} → Chain (Row t) i p b → p < length t
    → (x : List CommentValue) × LineRest t p q x × (c ≡ b ++ x) → Chain (Row t) i q c
rows_next {t} {i} {q = q} c l f = subst (λ v. Chain (Row t) i q v) (sym f.2) (chain_more c (record { rest = f.1; later = rest_moves f.1 l }))

module _ {t : List ℕ} {n : ℤ} {i : ℕ} where
  pub best_here : {p q e : ℕ} {b c : List CommentValue} → Chain (Row t) i p b → p < length t
      → (x : List CommentValue) × LineRest t p q x × (c ≡ b ++ x) → Farthest (FlowPrefix t n q) e → is_white (code t e) ≡ false
      → Chosen (Upto t n i q) e c
  best_here k l f p w =
      let rows = rows_next k l f in
      let a = rest_moves f.1 l in
      let b = chain_forward row_functional k in
      upto_best (upto_lines (rows_line_end rows (omega arith)) (omega arith) p.derived) rows (prefix_whites p.derived).1 w

  pub best_still : {p q e : ℕ} {b c w : List CommentValue} → Chain (Row t) i p b → p < length t
      → (x : List CommentValue) × LineRest t p q x × (c ≡ b ++ x) → Nowhere (FlowPrefix t n q) → Chosen (Upto t n i p) e w → Chosen (Upto t n i q) e w
  best_still k l f none d =
      let a = rest_moves f.1 l in
      chosen_along (λ j y u. upto_more (omega arith) u) (λ j y u. upto_less k (record { rest = f.1; later = a }) none u) d

  pub stuck_still : {p q : ℕ} {b c : List CommentValue} → Chain (Row t) i p b → p < length t
      → (x : List CommentValue) × LineRest t p q x × (c ≡ b ++ x) → Nowhere (FlowPrefix t n q) → Stuck (Upto t n i p) → Stuck (Upto t n i q)
  stuck_still k l f none d =
      let a = rest_moves f.1 l in
      stuck_along (λ j y u. upto_less k (record { rest = f.1; later = a }) none u) d

  pub lines_chosen : {p e : ℕ} {x w : List CommentValue} → Chain (Row t) i p x → Stuck (Row t p) → Chosen (Upto t n i p) e w
      → Chosen (SeparateLines t n i) e w
  lines_chosen k s d = chosen_along (λ j y u. upto_separate u) (λ j y u. separate_upto k s u) d

  pub lines_stuck : {p : ℕ} {x : List CommentValue} → Chain (Row t) i p x → Stuck (Row t p) → Stuck (Upto t n i p) → Stuck (SeparateLines t n i)
  lines_stuck k s d = stuck_along (λ j y u. separate_upto k s u) d

-- no line is passed
indent_negative : {t : List ℕ} {n : ℤ} {i j : ℕ} → n <ℤ pos 0 → Indent t n i j → ⊥
indent_negative l (exactly k e s) = let h = rw e at l in omega (arith, ints)

prefix_negative : {t : List ℕ} {n : ℤ} {i j : ℕ} → n <ℤ pos 0 → FlowPrefix t n i j → ⊥
prefix_negative l (indented d) = indent_negative l d
prefix_negative l (set_off d s) = indent_negative l d

module _ {t : List ℕ} {n : ℤ} {c : Ctx} {i : ℕ} where
  alone : {j : ℕ} {x : List CommentValue} → (is_key c ≡ true) ⊎ (n <ℤ pos 0) → Separate t n c i j x → SeparateInLine t i j × (x ≡ [])
  alone o (in_key k s) = (s, refl)
  alone (inl e) (in_node k d) = absurd (true≢false (sym e ∙ k))
  alone (inr l) (in_node k d) = negative l d where
    negative : {j : ℕ} {x : List CommentValue} → n <ℤ pos 0 → SeparateLines t n i j x → SeparateInLine t i j × (x ≡ [])
    negative l (in_line s) = (s, refl)
    negative l (over_lines d f) = absurd (prefix_negative l f)

  from_line : {j : ℕ} → SeparateInLine t i j → Separate t n c i j []
  from_line s = ⊎_elim (λ (k : is_key c ≡ true). in_key k s) (λ (k : is_key c ≡ false). in_node k (in_line s)) (cases_Bool (is_key c))

  pub alone_chosen : {e : ℕ} → (is_key c ≡ true) ⊎ (n <ℤ pos 0) → Farthest (SeparateInLine t i) e → Chosen (Separate t n c i) e []
  alone_chosen o f = record {
    derived = from_line f.derived;
    longest = λ k y d. f.longest k (alone o d).0;
    only = λ y d. (alone o d).1;
  }

  pub alone_stuck : (is_key c ≡ true) ⊎ (n <ℤ pos 0) → Nowhere (SeparateInLine t i) → Stuck (Separate t n c i)
  alone_stuck o f = record { none = λ k y d. f.none k (alone o d).0 }

  by_lines : {j : ℕ} {x : List CommentValue} → is_key c ≡ false → Separate t n c i j x → SeparateLines t n i j x
  by_lines k (in_key e s) = absurd (true≢false (sym e ∙ k))
  by_lines k (in_node e d) = d

  pub node_chosen : {e : ℕ} {w : List CommentValue} → is_key c ≡ false → Chosen (SeparateLines t n i) e w → Chosen (Separate t n c i) e w
  node_chosen k d = chosen_along (λ j y u. in_node k u) (λ j y u. by_lines k u) d

  pub node_stuck : is_key c ≡ false → Stuck (SeparateLines t n i) → Stuck (Separate t n c i)
  node_stuck k d = stuck_along (λ j y u. by_lines k u) d

-- a character that begins neither white space nor a comment nor the end of a line
pub record Solid (t : List ℕ) (k : ℕ) : Type 0 where
  pub not_white : is_white (code t k) ≡ false
  pub no_comment : code t k ≢ 35
  pub no_end : Nowhere (BreakOrEnd t k)

-- a separation as a tail of white space after rows
record Separated (t : List ℕ) (i j : ℕ) (y : List CommentValue) : Type 0 where
  place : ℕ
  rows : Chain (Row t) i place y
  run : List ℕ
  whites_run : Many t is_white place j run

module _ {t : List ℕ} {n : ℤ} {i : ℕ} where
  lines_separated : {j : ℕ} {y : List CommentValue} → SeparateLines t n i j y → Separated t i j y
  lines_separated (in_line s) = let w = separate_whites s in record { place = i; rows = done; run = w.0; whites_run = w.1 }
  lines_separated (over_lines {h = h} d f) = let w = prefix_whites f in record { place = h; rows = line_end_rows d; run = w.0; whites_run = w.1 }

module _ {t : List ℕ} {n : ℤ} {c : Ctx} {i : ℕ} where
  separated : {j : ℕ} {y : List CommentValue} → Separate t n c i j y → Separated t i j y
  separated (in_key k s) = let w = separate_whites s in record { place = i; rows = done; run = w.0; whites_run = w.1 }
  separated (in_node k d) = lines_separated d

  -- a separation that ends before such a character is the longest
  solid_longest : {k j : ℕ} {x y : List CommentValue} → Solid t k → Separate t n c i k x → Separate t n c i j y → j ≤ k
  solid_longest {k} {j} {x} {y} s d e =
      let a = separated d in
      let b = separated e in
      let stuck = row_stuck (stuck_at_solid a.whites_run s.not_white s.no_comment s.no_end) in
      let l = (chain_chosen row_functional a.rows stuck).longest b.place y b.rows in
      (tail_after b.whites_run l a.whites_run s.not_white (chain_meet row_functional b.rows a.rows)).0

  pub separate_solid : {k e : ℕ} {x y : List CommentValue} → Solid t k → Separate t n c i k x → Chosen (Separate t n c i) e y → (k ≡ e) × (x ≡ y)
  separate_solid {k} {e} {x} {y} s d f =
      let a = solid_longest s d f.derived in
      let b = f.longest k x d in
      let same : k ≡ e = omega arith in
      (same, f.only x (subst (λ v. Separate t n c i v x) same d))
