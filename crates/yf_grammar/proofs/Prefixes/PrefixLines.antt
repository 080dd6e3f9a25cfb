-- Two texts that are alike up to an offset have the same breaks, starts of lines, indentation, folds and document
-- markers there.
use Rattle.std.proofs.Common.{◌≡◌, ◌≢◌, ℕ, ◌+◌, ◌-◌, ◌<◌, ◌≤◌, ℤ, ⊎_elim, Bool, true, false, List, sym, ap, ◌∙◌, subst, arith, eqb, true≢false, ◌&&◌, ◌||◌}
use Rattle.std.proofs.lemmas.Bool.{cases_Bool, cases_eq, and_parts, eqb-true, or_right}
use Rattle.yf_chars.specs.Text.{code}
use Rattle.yf_chars.specs.Chain.{Chain, Many, One}
use Rattle.yf_chars.specs.Chain.Chain.{done, step}
use Rattle.yf_chars.specs.Chain.One.{one}
use Rattle.yf_chars.specs.Class.{is_white_or_end}
use Rattle.yf_chars.specs.declared.context.Ctx.{Ctx}
use Rattle.yf_chars.proofs.TextLemmas.{next_later}
use Rattle.yf_lines.specs.Basic.{Break, cr_lf, lone_cr, lone_lf, LineStart, at_text, after_break, after_mark, Spaces, Indent, exactly, IndentLess, fewer, SeparateInLine, by_whites, at_start, FlowPrefix, indented, set_off, LinePrefix, in_block, in_flow, Empty, prefixed, shorter, FoldedBreak, trimmed, as_space, FlowFolded, at_break, past_whites, is_three, is_marker, ForbiddenLine, Clear}
use Rattle.yf_lines.proofs.BasicLemmas.{break_forward}
use Rattle.yf_grammar.proofs.Ends.Forward.{in_line_forward}
use Rattle.yf_grammar.proofs.Prefixes.PrefixTexts.{Alike, alike_back, alike_next, goes_on_at}

-- a step never leads back, and one up to the offset is one in the other text
pub record Carried {A : Type 0} (k : ℕ) (S R : ℕ → ℕ → List A → Type 0) : Type 0 where
  pub order : (i j : ℕ) (x : List A) → S i j x → i ≤ j
  pub there : (i j : ℕ) (x : List A) → S i j x → j ≤ k → R i j x

module _ {A : Type 0} {k : ℕ} {S R : ℕ → ℕ → List A → Type 0} (c : Carried k S R) where
  pub chain_order : {i j : ℕ} {x : List A} → Chain S i j x → i ≤ j
  chain_order done = omega arith
  chain_order (step {i = i} {h = h} {x = x} s m) = let f = c.order i h x s in let g = chain_order m in omega arith

  pub chain_there : {i j : ℕ} {x : List A} → Chain S i j x → j ≤ k → Chain R i j x
  chain_there done l = done
  chain_there (step {i = i} {h = h} {x = x} s m) l =
      let g = chain_order m in
      step (c.there i h x s (omega arith)) (chain_there m l)

  pub chain_carried : Carried k (Chain S) (Chain R)
  chain_carried = record { order = λ i j x m. chain_order m; there = λ i j x m l. chain_there m l }

-- orders
indent_order : {t : List ℕ} {n : ℤ} {i j : ℕ} → Indent t n i j → i ≤ j
indent_order (exactly m e s) = omega arith

less_order : {t : List ℕ} {n : ℤ} {i j : ℕ} → IndentLess t n i j → i ≤ j
less_order (fewer m e s) = omega arith

pub prefix_order : {t : List ℕ} {n : ℤ} {i j : ℕ} → FlowPrefix t n i j → i ≤ j
prefix_order (indented d) = indent_order d
prefix_order (set_off d e) = let f = indent_order d in let g = in_line_forward e in omega arith

line_prefix_order : {t : List ℕ} {n : ℤ} {c : Ctx} {i j : ℕ} → LinePrefix t n c i j → i ≤ j
line_prefix_order (in_block b d) = indent_order d
line_prefix_order (in_flow b d) = prefix_order d

empty_order : {t : List ℕ} {n : ℤ} {c : Ctx} {i j : ℕ} {x : List ℕ} → Empty t n c i j x → i ≤ j
empty_order (prefixed p b) = let f = line_prefix_order p in let g = break_forward b in omega arith
empty_order (shorter p b) = let f = less_order p in let g = break_forward b in omega arith

module _ {t s : List ℕ} {k : ℕ} (a : Alike t s k) where
  pub passes_there : (p : ℕ → Bool) (i : ℕ) → i < k → p (code t i) ≡ true → p (code s i) ≡ true
  passes_there p i l e = ap p (sym (a.codes i l)) ∙ e

  pub char_there : {c : ℕ} (i : ℕ) → i < k → code t i ≡ c → code s i ≡ c
  char_there i l e = sym (a.codes i l) ∙ e

  pub not_there : {c : ℕ} (i : ℕ) → i < k → code t i ≢ c → code s i ≢ c
  not_there i l n e = n (a.codes i l ∙ e)

  pub one_carried : (p : ℕ → Bool) → Carried k (One t p) (One s p)
  one_carried p = record { order = λ i j x o. order o; there = λ i j x o l. there o l } where
    order : {i j : ℕ} {x : List ℕ} → One t p i j x → i ≤ j
    order (one {i = i} e) = let f = next_later t i in omega arith

    there : {i j : ℕ} {x : List ℕ} → One t p i j x → j ≤ k → One s p i j x
    there (one {i = i} e) l =
        let f = next_later t i in
        let m : i < k = omega arith in
        rw (alike_next a i m, a.codes i m) (one (passes_there p i m e))

  pub run_there : {p : ℕ → Bool} {i j : ℕ} {x : List ℕ} → Many t p i j x → j ≤ k → Many s p i j x
  run_there {p = p} m l = chain_there (one_carried p) m l

  pub run_order : {p : ℕ → Bool} {i j : ℕ} {x : List ℕ} → Many t p i j x → i ≤ j
  run_order {p = p} m = chain_order (one_carried p) m

  pub break_there : {i j : ℕ} → Break t i j → j ≤ k → Break s i j
  break_there (cr_lf {i = i} p q) l = cr_lf (char_there i (omega arith) p) (char_there (i + 1) (omega arith) q)
  break_there (lone_cr {i = i} p q) l = lone_cr (char_there i (omega arith) p) (λ e.
      ⊎_elim
      (λ (z : i ≡ k - 1).
      let y : i + 1 ≡ k = omega arith in
      a.apart_there (ap (code s) (sym z) ∙ char_there i (omega arith) p) (ap (code s) (sym y) ∙ e))
      (λ (z : i ≢ k - 1). q (a.codes (i + 1) (omega arith) ∙ e))
      (cases_eq i (k - 1)))
  break_there (lone_lf {i = i} p q) l = lone_lf (char_there i (omega arith) p) (not_there (i - 1) (omega arith) q)

  pub start_there : {i : ℕ} → LineStart t i → i ≤ k → LineStart s i
  start_there at_text l = at_text
  start_there (after_break b) l = after_break (break_there b l)
  start_there (after_mark {i = i} d e) l =
      let f = next_later t i in
      let m : i < k = omega arith in
      subst (λ j. LineStart s j) (sym (alike_next a i m)) (after_mark (start_there d (omega arith)) (char_there i m e))

  pub spaces_there : {i m : ℕ} → Spaces t i m → i + m ≤ k → Spaces s i m
  spaces_there {i} d l = record { each = λ q h. char_there (i + q) (omega arith) (d.each q h) }

  pub indent_there : {n : ℤ} {i j : ℕ} → Indent t n i j → j ≤ k → Indent s n i j
  indent_there (exactly m e d) l = exactly m e (spaces_there d l)

  pub less_there : {n : ℤ} {i j : ℕ} → IndentLess t n i j → j ≤ k → IndentLess s n i j
  less_there (fewer m e d) l = fewer m e (spaces_there d l)

  pub in_line_there : {i j : ℕ} → SeparateInLine t i j → j ≤ k → SeparateInLine s i j
  in_line_there (by_whites m f) l = by_whites (run_there m l) f
  in_line_there (at_start d) l = at_start (start_there d l)

  pub prefix_there : {n : ℤ} {i j : ℕ} → FlowPrefix t n i j → j ≤ k → FlowPrefix s n i j
  prefix_there (indented d) l = indented (indent_there d l)
  prefix_there (set_off d e) l = let f = in_line_forward e in set_off (indent_there d (omega arith)) (in_line_there e l)

  line_prefix_there : {n : ℤ} {c : Ctx} {i j : ℕ} → LinePrefix t n c i j → j ≤ k → LinePrefix s n c i j
  line_prefix_there (in_block b d) l = in_block b (indent_there d l)
  line_prefix_there (in_flow b d) l = in_flow b (prefix_there d l)

  empty_there : {n : ℤ} {c : Ctx} {i j : ℕ} {x : List ℕ} → Empty t n c i j x → j ≤ k → Empty s n c i j x
  empty_there (prefixed p b) l = let f = break_forward b in prefixed (line_prefix_there p (omega arith)) (break_there b l)
  empty_there (shorter p b) l = let f = break_forward b in shorter (less_there p (omega arith)) (break_there b l)

  pub empty_carried : (n : ℤ) (c : Ctx) → Carried k (Empty t n c) (Empty s n c)
  empty_carried n c = record { order = λ i j x e. empty_order e; there = λ i j x e l. empty_there e l }

  pub empties_order : {n : ℤ} {c : Ctx} {i j : ℕ} {x : List ℕ} → Chain (Empty t n c) i j x → i ≤ j
  empties_order {n = n} {c = c} m = chain_order (empty_carried n c) m

  pub empties_there : {n : ℤ} {c : Ctx} {i j : ℕ} {x : List ℕ} → Chain (Empty t n c) i j x → j ≤ k → Chain (Empty s n c) i j x
  empties_there {n = n} {c = c} m l = chain_there (empty_carried n c) m l

  folded_order : {n : ℤ} {c : Ctx} {i j : ℕ} {x : List ℕ} → FoldedBreak t n c i j x → i ≤ j
  folded_order (trimmed b e m) = let f = break_forward b in let g = empty_order e in let h = empties_order m in omega arith
  folded_order (as_space b) = let f = break_forward b in omega arith

  folded_there : {n : ℤ} {c : Ctx} {i j : ℕ} {x : List ℕ} → FoldedBreak t n c i j x → j ≤ k → FoldedBreak s n c i j x
  folded_there (trimmed b e m) l =
      let g = empty_order e in let h = empties_order m in
      trimmed (break_there b (omega arith)) (empty_there e (omega arith)) (empties_there m l)
  folded_there (as_space b) l = as_space (break_there b l)

  flow_folded_order : {n : ℤ} {i j : ℕ} {x : List ℕ} → FlowFolded t n i j x → i ≤ j
  flow_folded_order (at_break d p) = let f = folded_order d in let g = prefix_order p in omega arith
  flow_folded_order (past_whites e d p) = let h = in_line_forward e in let f = folded_order d in let g = prefix_order p in omega arith

  flow_folded_there : {n : ℤ} {i j : ℕ} {x : List ℕ} → FlowFolded t n i j x → j ≤ k → FlowFolded s n i j x
  flow_folded_there (at_break d p) l = let g = prefix_order p in at_break (folded_there d (omega arith)) (prefix_there p l)
  flow_folded_there (past_whites e d p) l =
      let f = folded_order d in let g = prefix_order p in
      past_whites (in_line_there e (omega arith)) (folded_there d (omega arith)) (prefix_there p l)

  pub fold_carried : (n : ℤ) → Carried k (FlowFolded t n) (FlowFolded s n)
  fold_carried n = record { order = λ i j x d. flow_folded_order d; there = λ i j x d l. flow_folded_there d l }

  -- three copies of a character that ends no line, and the text after them
  three_there : (c i : ℕ) → c ≢ 10 → c ≢ 13 → i < k → is_three t i c ≡ true → (is_three s i c ≡ true) × (i + 3 < k)
  unfolding is_three
  three_there c i m n l e =
      let p = and_parts (eqb (code t i) c) (eqb (code t (i + 1)) c && eqb (code t (i + 2)) c) e in
      let q = and_parts (eqb (code t (i + 1)) c) (eqb (code t (i + 2)) c) p.1 in
      let first = eqb-true (code t i) c p.0 in
      let second = eqb-true (code t (i + 1)) c q.0 in
      let third = eqb-true (code t (i + 2)) c q.1 in
      let l1 = goes_on_at a c i l first m n in
      let l2 = goes_on_at a c (i + 1) l1 second m n in
      let w : i + 2 < k = omega arith in
      let l3 = goes_on_at a c (i + 2) w third m n in
      (rw (sym (a.codes i l), sym (a.codes (i + 1) l1), sym (a.codes (i + 2) w)) e, omega arith)

  pub marker_there : (i : ℕ) → i < k → is_marker t i ≡ true → is_marker s i ≡ true
  unfolding is_marker
  marker_there i l e =
      let p = and_parts (is_three t i 45 || is_three t i 46) (is_white_or_end (code t (i + 3))) e in
      ⊎_elim
      (λ (d : is_three t i 45 ≡ true).
      let w = three_there 45 i (λ z. absurd (omega arith)) (λ z. absurd (omega arith)) l d in
      rw (w.0, sym (a.codes (i + 3) w.1)) p.1)
      (λ (d : is_three t i 45 ≡ false).
      let d' : is_three t i 46 ≡ true = rw d at p.0 in
      let w = three_there 46 i (λ z. absurd (omega arith)) (λ z. absurd (omega arith)) l d' in
      rw (or_right (is_three s i 45) (is_three s i 46) w.0, sym (a.codes (i + 3) w.1)) p.1)
      (cases_Bool (is_three t i 45))

  pub forbidden_there : {h : ℕ} → ForbiddenLine t h → h < k → ForbiddenLine s h
  forbidden_there {h} f l = record { start = start_there f.start (omega arith); marker = marker_there h l f.marker }

module _ {t s : List ℕ} {k : ℕ} (a : Alike t s k) where
  pub no_marker_there : (i : ℕ) → i < k → is_marker t i ≡ false → is_marker s i ≡ false
  no_marker_there i l e = ⊎_elim
      (λ (d : is_marker s i ≡ true). absurd (true≢false (sym (marker_there (alike_back a) i l d) ∙ e)))
      (λ (d : is_marker s i ≡ false). d)
      (cases_Bool (is_marker s i))

  pub clear_there : {i j : ℕ} → Clear t i j → j ≤ k → Clear s i j
  clear_there c l = record { none = λ h m n f. c.none h m n (forbidden_there (alike_back a) f (omega arith)) }
