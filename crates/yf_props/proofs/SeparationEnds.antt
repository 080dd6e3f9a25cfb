-- A separation that ends before a character at which none goes on is the longest. No separation is between a character
-- of a tag and another one.
use Rattle.std.proofs.Common.{◌≡◌, ◌≢◌, ℕ, ℤ, ◌+◌, ◌<◌, ◌≤◌, true, false, ⊎_elim, List, [], refl, sym, ap, ◌∙◌, subst, arith, get_or}
use Rattle.std.proofs.lemmas.Bool.{cases_Bool}
use Rattle.std.specs.Str.{IsUtf8}
use Rattle.yf_chars.specs.declared.context.Ctx.{Ctx}
use Rattle.yf_chars.specs.Text.{code, next, no_char}
use Rattle.yf_chars.specs.Class.{is_white}
use Rattle.yf_chars.specs.Chain.{Chain, Stuck, Nowhere, Many}
use Rattle.yf_chars.specs.Chain.Chain.{done, step}
use Rattle.yf_chars.proofs.TextLemmas.{code-end, code-inside, next-mark, bytes_from_mark}
use Rattle.yf_chars.proofs.ChainLemmas.{Meets, chain_forward, chain_meet, one_functional, many_chosen, many_unique}
use Rattle.yf_chars.proofs.ChainLemmas.Meets.{goes_on, falls_short}
use Rattle.yf_lines.specs.Basic.{Break, LineStart, SeparateInLine}
use Rattle.yf_lines.specs.Basic.Break.{cr_lf, lone_cr, lone_lf}
use Rattle.yf_lines.specs.Basic.LineStart.{at_text, after_break, after_mark}
use Rattle.yf_lines.proofs.BasicLemmas.{white_cases, break_char}
use Rattle.yf_comments.specs.Comment.{CommentValue}
use Rattle.yf_comments.specs.Comments.{BreakOrEnd, LineRest, SeparateLines, Separate, Row}
use Rattle.yf_comments.specs.Comments.BreakOrEnd.{by_break, by_end}
use Rattle.yf_comments.specs.Comments.LineRest.{nothing, whites, comment}
use Rattle.yf_comments.specs.Comments.SeparateLines.{in_line, over_lines}
use Rattle.yf_comments.specs.Comments.Separate.{in_key, in_node}
use Rattle.yf_comments.proofs.RowLemmas.{end_white, text_hash, separate_whites, row_functional, rest_tail, no_separation, stuck_alone}
use Rattle.yf_comments.proofs.LineEndLemmas.{line_end_rows, line_end_stuck}
use Rattle.yf_comments.proofs.SeparateLemmas.{prefix_whites}
pub use Rattle.yf_comments.proofs.LineOrder.{separate_forward}

-- no separation goes on at the character, and no line ends there
pub record Apparent (t : List ℕ) (k : ℕ) : Type 0 where
  pub white : is_white (code t k) ≡ false
  pub hash : code t k ≢ 35
  pub ends : Nowhere (BreakOrEnd t k)

-- a visible ASCII character
pub record Solid (c : ℕ) : Type 0 where
  pub low : 33 ≤ c
  pub high : c < 127

no_white : (c : ℕ) → 33 ≤ c → is_white c ≡ false
no_white c l = ⊎_elim
    (λ (e : is_white c ≡ true). ⊎_elim (λ (f : c ≡ 32). absurd (omega arith)) (λ (f : c ≡ 9). absurd (omega arith)) (white_cases c e))
    (λ (e : is_white c ≡ false). e)
    (cases_Bool (is_white c))

module _ {t : List ℕ} where
  no_end : {k j : ℕ} → Solid (code t k) → BreakOrEnd t k j → ⊥
  no_end {k} s (by_break b) = ⊎_elim (λ (f : code t k ≡ 13). let l = s.low in absurd (omega arith)) (λ (f : code t k ≡ 10). let l = s.low in absurd (omega arith)) (break_char b)
  no_end {k} s (by_end e) = let f : code t k ≡ no_char = ap (code t) e ∙ code-end t in let l = s.high in absurd (omega arith)

  pub solid_apparent : {k : ℕ} → Solid (code t k) → code t k ≢ 35 → Apparent t k
  solid_apparent {k} s n = record { white = no_white (code t k) s.low; hash = n; ends = record { none = λ j e. no_end s e } }

-- rows of comments, and white space after them
record Tailed (t : List ℕ) (h k : ℕ) (x : List CommentValue) : Type 0 where
  place : ℕ
  rows : Chain (Row t) h place x
  run : List ℕ
  whites_to : Many t is_white place k run

module _ {t : List ℕ} where
  in_line_tail : {h k : ℕ} → SeparateInLine t h k → Tailed t h k []
  in_line_tail {h} s = let w = separate_whites s in record { place = h; rows = done; run = w.0; whites_to = w.1 }

  lines_tail : {n : ℤ} {h k : ℕ} {x : List CommentValue} → SeparateLines t n h k x → Tailed t h k x
  lines_tail (in_line s) = in_line_tail s
  lines_tail (over_lines {h = p} d f) = let w = prefix_whites f in record { place = p; rows = line_end_rows d; run = w.0; whites_to = w.1 }

  tail : {n : ℤ} {c : Ctx} {h k : ℕ} {x : List CommentValue} → Separate t n c h k x → Tailed t h k x
  tail (in_key e s) = in_line_tail s
  tail (in_node e s) = lines_tail s

  -- no line's rest goes past such a character after white space
  blocked : {p r k : ℕ} {w : List ℕ} {z : List CommentValue} → Many t is_white p k w → Apparent t k → LineRest t p r z → ⊥
  blocked {r = r} m a (nothing e) =
      let same = (many_unique t is_white done (end_white e) m a.white).0 in
      a.ends.none r (subst (λ v. BreakOrEnd t v r) same e)
  blocked {r = r} m a (whites s e) =
      let same = (many_unique t is_white (separate_whites s).1 (end_white e) m a.white).0 in
      a.ends.none r (subst (λ v. BreakOrEnd t v r) same e)
  blocked m a (comment {h = g} s d e) =
      let f : code t g ≡ 35 = text_hash d in
      let same = (many_unique t is_white (separate_whites s).1 (no_white (code t g) (omega arith)) m a.white).0 in
      a.hash (ap (code t) (sym same) ∙ f)

  rows_blocked : {p q k : ℕ} {w : List ℕ} {z : List CommentValue} → Many t is_white p k w → Apparent t k → Chain (Row t) p q z → p ≡ q
  rows_blocked m a done = refl
  rows_blocked m a (step r c) = absurd (blocked m a r.rest)

  whites_within : {p k l : ℕ} {v w : List ℕ} → Many t is_white p k v → Apparent t k → Many t is_white p l w → l ≤ k
  whites_within {l = l} {w = w} m a n = (many_chosen t is_white m a.white).longest l w n

  rows_beyond : {p q k l : ℕ} {v w : List ℕ} {z : List CommentValue} → Many t is_white p k v → Apparent t k → Chain (Row t) q p z → Many t is_white q l w → l ≤ k
  rows_beyond m a done n = whites_within m a n
  rows_beyond m a (step r c) n =
      let b = (rest_tail n r.rest).0 in
      let d = chain_forward row_functional c in
      let e = chain_forward (one_functional t is_white) m in
      omega arith

  within : {p q k l : ℕ} {v w : List ℕ} {x y : List CommentValue} → Many t is_white p k v → Apparent t k → Many t is_white q l w
      → Meets (Row t) p q x y → l ≤ k
  within {p} {q} {k} {l} {v} {w} m a n (goes_on z c e) =
      let same : p ≡ q = rows_blocked m a c in
      whites_within m a (subst (λ u. Many t is_white u l w) (sym same) n)
  within m a n (falls_short z c e) = rows_beyond m a c n

  -- a separation that ends before such a character is the longest
  pub apparent_last : {n : ℤ} {c : Ctx} {h k l : ℕ} {x y : List CommentValue} → Separate t n c h k x → Apparent t k → Separate t n c h l y → l ≤ k
  apparent_last s a r =
      let d = tail s in
      let e = tail r in
      within d.whites_to a e.whites_to (chain_meet row_functional d.rows e.rows)

-- no line begins after a visible character, and no separation is between two of them
module _ (t : List ℕ) (u : IsUtf8 t) (i h : ℕ) (q : h ≡ i + 1) (s : Solid (code t i)) where
  break_not_after : {k e : ℕ} → Break t k e → e ≡ h → ⊥
  break_not_after (cr_lf {i = k} a b) r =
      let e : i ≡ k + 1 = omega arith in
      let f : code t i ≡ 10 = ap (code t) e ∙ b in
      let l = s.low in absurd (omega arith)
  break_not_after (lone_cr {i = k} a b) r =
      let e : i ≡ k = omega arith in
      let f : code t i ≡ 13 = ap (code t) e ∙ a in
      let l = s.low in absurd (omega arith)
  break_not_after (lone_lf {i = k} a b) r =
      let e : i ≡ k = omega arith in
      let f : code t i ≡ 10 = ap (code t) e ∙ a in
      let l = s.low in absurd (omega arith)

  mark_not_after : (k : ℕ) → next t k ≡ h → code t k ≡ 0xFEFF → ⊥
  mark_not_after k r e =
      let n : next t k ≡ k + 3 = next-mark t k e in
      let same : i ≡ k + 2 = omega arith in
      let b : get_or t (k + 2) 0 ≡ 191 = (bytes_from_mark t k u e).3 in
      let f : code t (k + 2) ≡ no_char = code-inside t (k + 2) (omega arith) (omega arith) in
      let g : code t i ≡ no_char = ap (code t) same ∙ f in
      let l = s.high in absurd (omega arith)

  line_start_cases : {k : ℕ} → LineStart t k → k ≡ h → ⊥
  line_start_cases at_text r = absurd (omega arith)
  line_start_cases (after_break b) r = break_not_after b r
  line_start_cases (after_mark {i = k} d e) r = mark_not_after k r e

  pub no_line_after : LineStart t h → ⊥
  no_line_after l = line_start_cases l refl

  alone : Solid (code t h) → (k : ℕ) → SeparateInLine t h k → ⊥
  alone a k d = no_separation (no_white (code t h) a.low) no_line_after d

  lines_inside : {n : ℤ} {k : ℕ} {x : List CommentValue} → Solid (code t h) → SeparateLines t n h k x → ⊥
  lines_inside a (in_line {j = k} d) = alone a k d
  lines_inside a (over_lines {h = p} {x = x} d f) =
      let ends : Nowhere (BreakOrEnd t h) = record { none = λ k e. no_end a e } in
      (line_end_stuck no_line_after (stuck_alone (alone a) ends)).none p x d

  inside : {n : ℤ} {c : Ctx} {k : ℕ} {x : List CommentValue} → Solid (code t h) → Separate t n c h k x → ⊥
  inside a (in_key {j = k} e d) = alone a k d
  inside a (in_node e d) = lines_inside a d

  pub no_separation_inside : {n : ℤ} {c : Ctx} → Solid (code t h) → Stuck (Separate t n c h)
  no_separation_inside a = record { none = λ k x d. inside a d }
