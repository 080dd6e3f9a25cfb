-- The comments of a block scalar: its header's before its lines, and those after it, which note whether a blank line is
-- between.
use Rattle.std.proofs.Common.{◌≡◌, ℕ, ◌+◌, ◌-◌, ◌<◌, ◌≤◌, Bool, true, false, nat_lt, ⊎_elim, List, ◌++◌, length, refl, sym, ap, ◌∙◌, subst, arith}
use Rattle.std.proofs.lemmas.Bool.Decides.{nat_tests}
use Rattle.std.specs.Str.{IsUtf8}
use Rattle.yf_chars.specs.Chain.{Chain, Many, one}
use Rattle.yf_chars.specs.Chain.Chain.{done, step}
use Rattle.yf_chars.specs.Class.{is_nb_char, is_white, is_break_char}
use Rattle.yf_chars.specs.Text.{code, no_char}
use Rattle.yf_chars.proofs.ChainLemmas.{chain_forward, one_functional, many_unique}
use Rattle.yf_chars.proofs.TextLemmas.{next_later, code-end}
use Rattle.yf_lines.specs.Basic.{SeparateInLine, by_whites, at_start, Spaces}
use Rattle.yf_lines.proofs.BasicLemmas.{break_forward, break_char}
use Rattle.yf_lines.proofs.LineLemmas.{break_within}
use Rattle.yf_comments.specs.Comment.{CommentValue}
use Rattle.yf_comments.specs.Comments.{is_gap, Blank, BreakOrEnd, by_break, by_end, CommentText, LineRest, Row}
use Rattle.yf_comments.specs.Comments.Blank.{break_ends, white_ends}
use Rattle.yf_comments.specs.Comments.CommentText.{comment_text}
use Rattle.yf_comments.specs.Comments.LineRest.{nothing, whites, comment}
use Rattle.yf_comments.proofs.BlankLemmas.{gap_of_white}
use Rattle.yf_comments.proofs.LineEndLemmas.{line_end_rows}
use Rattle.yf_comments.proofs.RowLemmas.{break_or_end_forward, end_white}
use Rattle.yf_comments.proofs.SeparateLemmas.{spaces_whites}
use Rattle.yf_block_scalar.specs.declared.header.Chomp.{Chomp}
use Rattle.yf_block_scalar.specs.declared.header.Chomp.TheVariants.{Clip, Keep, Strip}
use Rattle.yf_block_scalar.specs.Body.{EmptyLines, Trail, is_gap_tail, first_noted}
use Rattle.yf_block_scalar.specs.Body.EmptyLines.{bare}
use Rattle.yf_block_scalar.specs.Body.Trail.{comments, no_comment}
use Rattle.yf_block_scalar.proofs.LinesMade.{LinesTo}
use Rattle.yf_grammar.specs.Productions.BlockScalar.{LinesBetween, reach}
use Rattle.yf_grammar.specs.Productions.BlockScalar.LinesBetween.{counted}
use Rattle.yf_grammar.specs.Productions.ReadParts.{BlankSince, NotedSince}
use Rattle.yf_grammar.specs.Productions.ReadParts.BlankSince.{blank_line, past_gap}
use Rattle.yf_grammar.specs.Productions.ReadParts.NotedSince.{noted, not_noted}
use Rattle.yf_grammar.proofs.BlockOutcomes.OneScalars.{lines_one}
use Rattle.yf_grammar.proofs.Prefixes.PrefixEnds.{Closed, at_break, at_text}
use Rattle.yf_stream.proofs.BlankNotes.CommentNotes.{Each, no_element, one_element, each_weaker, NotedComment, guarded, told_since, rows_told}
use Rattle.yf_chars.proofs.CharFacts.{hash_no_white}

hash_solid : is_gap 35 ≡ false
unfolding is_gap is_white is_break_char
hash_solid = refl

positive : (n : ℕ) → 0 < n → nat_lt 0 n ≡ true
positive n l = grind (arith, nat_tests)

-- the end of a scalar, and the note of the next comment
pub record TailEnd (t : List ℕ) (e i q : ℕ) (b : Bool) : Type 0 where
  pub order : i ≤ e
  pub upto : e ≤ q
  pub first : (m : ℕ) → Spaces t q m → NotedSince t e (q + m) b

module _ {t : List ℕ} where
  -- white space after a blank line, and within one
  whites_since : {f i j : ℕ} {w : List ℕ} → Many t is_white i j w → BlankSince t f i → BlankSince t f j
  whites_since done b = b
  whites_since (step (one {i = i} e) c) b = whites_since c (past_gap b (gap_of_white (code t i) e))

  whites_blank : {i j : ℕ} {w : List ℕ} → Many t is_white i j w → Blank t i → Blank t j
  whites_blank done b = b
  whites_blank (step (one e) c) b = whites_blank c (white_ends b e)

  spaces_since : {f i m : ℕ} → Spaces t i m → BlankSince t f i → BlankSince t f (i + m)
  spaces_since {i = i} {m = m} s b = whites_since (spaces_whites t i m s).1 b

  spaces_blank : {i m : ℕ} → Spaces t i m → Blank t i → Blank t (i + m)
  spaces_blank {i} {m} s b = whites_blank (spaces_whites t i m s).1 b

  -- a run of spaces has no blank line
  space_there : {q m : ℕ} (i : ℕ) → Spaces t q m → q ≤ i → i < q + m → code t i ≡ 32
  space_there {q} {m} i s l o =
      let k : i - q < m = omega arith in
      let e : q + (i - q) ≡ i = omega arith in
      sym (ap (code t) e) ∙ s.each (i - q) k

  spaces_none : {q m j : ℕ} → Spaces t q m → BlankSince t q j → j ≤ q + m → ⊥
  spaces_none {q} {m} s (blank_line {i = i} l b k) o =
      let f = break_forward k in
      let c = space_there i s l (omega arith) in
      ⊎_elim (λ (h : code t i ≡ 13). absurd (omega arith)) (λ (h : code t i ≡ 10). absurd (omega arith)) (break_char k)
  spaces_none s (past_gap {i = i} d g) o = let n = next_later t i in spaces_none s d (omega arith)

  -- bare lines from the start of a line on end with a blank line
  bares_since : {f i h j : ℕ} {x y : List ℕ} → f ≤ i → Blank t i → EmptyLines t i h x → Chain (EmptyLines t) h j y → BlankSince t f j
  bares_since l b (bare m a) done = blank_line (omega arith) (spaces_blank a.spaces b) a.ends
  bares_since l b (bare m a) (step s c) = let f = break_forward a.ends in bares_since (omega arith) (break_ends a.ends) s c

  closed_blank : {p q : ℕ} {x : List ℕ} → Closed t p → EmptyLines t p q x → Blank t p
  closed_blank (at_break b) s = break_ends b
  closed_blank (at_text e) (bare m a) = let f = break_forward a.ends in let g = break_within a.ends in absurd (omega arith)

  -- if the tail is no part of the scalar, a blank line is between its lines and the comment after it
  pub tail_since : {p q m count : ℕ} {xs : List ℕ} → Chain (EmptyLines t) p q xs → length xs ≡ count → Closed t p → Spaces t q m → NotedSince t p (q + m) (nat_lt 0 count)
  tail_since {q = q} {m = m} done e c s = subst (λ k. NotedSince t q (q + m) (nat_lt 0 k)) e (not_noted (λ d. spaces_none s d (omega arith)))
  tail_since {p} {q} {m} {count} (step {y = y} (bare w a) r) e c s =
      let some : 0 < count = omega (arith, e) in
      subst (λ z. NotedSince t p (q + m) z) (sym (positive count some)) (noted (spaces_since s (bares_since (omega arith) (closed_blank c (bare w a)) (bare w a) r)))

  pub tail_end : {p q e lines all i : ℕ} {xs : List ℕ} (count : ℕ) (c : Chomp) → LinesTo t i p lines → LinesTo t i q all → all ≡ lines + count → i ≤ p → p ≤ q → Closed t p
      → LinesBetween t (reach c lines count) i e → Chain (EmptyLines t) p q xs → length xs ≡ count → TailEnd t e i q (is_gap_tail c count)
  tail_end {p} {q} {e} {i = i} count Strip a b s l n k d c w =
      let same : e ≡ p = lines_one refl (counted a.chain a.counts) d in
      record { order = omega arith; upto = omega arith; first = λ m x. subst (λ z. NotedSince t z (q + m) (nat_lt 0 count)) (sym same) (tail_since c w k x) }
  tail_end {p} {q} {e} {i = i} count Clip a b s l n k d c w =
      let same : e ≡ p = lines_one refl (counted a.chain a.counts) d in
      record { order = omega arith; upto = omega arith; first = λ m x. subst (λ z. NotedSince t z (q + m) (nat_lt 0 count)) (sym same) (tail_since c w k x) }
  tail_end {p} {q} {e} {i = i} count Keep a b s l n k d c w =
      let same : e ≡ q = lines_one s (counted b.chain b.counts) d in
      record { order = omega arith; upto = omega arith; first = λ m x. subst (λ z. NotedSince t z (q + m) false) (sym same) (not_noted (λ y. spaces_none x y (omega arith))) }

-- a comment after a scalar that ends at an offset
pub record AfterEnd (t : List ℕ) (e : ℕ) (c : CommentValue) : Type 0 where
  pub after : e ≤ c.offset
  pub note : NotedSince t e c.offset c.blank_before

-- the comments after a scalar
module _ {t : List ℕ} (u : IsUtf8 t) where
  end_hash : {i j : ℕ} → code t i ≡ 35 → BreakOrEnd t i j → ⊥
  end_hash {i} e (by_break b) = ⊎_elim (λ (h : code t i ≡ 13). absurd (omega arith)) (λ (h : code t i ≡ 10). absurd (omega arith)) (break_char b)
  end_hash {i} e (by_end f) = let g : code t i ≡ no_char = ap (code t) f ∙ code-end t in absurd (omega arith)

  -- white space before a comment's sign is the spaces before it
  spaces_to : {q m h : ℕ} {w : List ℕ} → Spaces t q m → code t (q + m) ≡ 35 → Many t is_white q h w → is_white (code t h) ≡ false → h ≡ q + m
  spaces_to {q} {m} s e c n = (many_unique t is_white c n (spaces_whites t q m s).1 (ap is_white e ∙ hash_no_white)).0

  in_line_to : {q m h : ℕ} → Spaces t q m → code t (q + m) ≡ 35 → SeparateInLine t q h → is_white (code t h) ≡ false → h ≡ q + m
  in_line_to s e (by_whites c l) n = spaces_to s e c n
  in_line_to s e (at_start l) n = spaces_to s e done n

  module _ {q m e : ℕ} {b : Bool} (s : Spaces t q m) (sign : code t (q + m) ≡ 35) (l : e ≤ q) (first : NotedSince t e (q + m) b) where
    row_notes : {h j : ℕ} {x y : List CommentValue} → LineRest t q h x → Each (NotedComment t h j) y → q < h → Each (AfterEnd t e) (first_noted b (x ++ y))
    row_notes (nothing z) r n = absurd (end_hash (ap (code t) (spaces_to s sign done (end_white z)) ∙ sign) z)
    row_notes (whites w z) r n = absurd (end_hash (ap (code t) (in_line_to s sign w (end_white z)) ∙ sign) z)
    row_notes {h = h} {j = j} (comment {h = g} {k = k} w c z) r n = go c r where
      go : {x y : List CommentValue} → CommentText t g k x → Each (NotedComment t h j) y → Each (AfterEnd t e) (first_noted b (x ++ y))
      go (comment_text a chars v) r =
          let same = in_line_to s sign w (ap is_white a ∙ hash_no_white) in
          let f = chain_forward (one_functional t is_nb_char) chars in
          let o = break_or_end_forward z in
          one_element (record { after = omega arith; note = subst (λ k. NotedSince t e k b) (sym same) first })
          (each_weaker (λ d y. let p = y.after in
          record { after = omega arith; note = told_since d u (guarded g (omega arith) (ap is_gap a ∙ hash_solid) (omega arith) (omega arith)) y }) r)

    rows_notes : {j : ℕ} {x : List CommentValue} → Chain (Row t) q j x → Each (AfterEnd t e) (first_noted b x)
    rows_notes done = no_element
    rows_notes (step r c) = row_notes r.rest (rows_told c) r.later

  pub trail_notes : {k q j e : ℕ} {x : List CommentValue} {b : Bool} → Trail t k q j x → e ≤ q → ((m : ℕ) → Spaces t q m → NotedSince t e (q + m) b)
      → Each (AfterEnd t e) (first_noted b x)
  trail_notes (comments m l s h d) o f = rows_notes s h o (f m s) (line_end_rows d.derived)
  trail_notes (no_comment n) o f = no_element
