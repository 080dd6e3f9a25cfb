-- Comments that are well set: each is after white space at the start of a line, or two spaces after another character.
use Rattle.std.proofs.Common.{◌≡◌, ℕ, ◌+◌, ◌-◌, ◌<◌, inl, inr, ⊎_elim, false, true≢false, List, [], ◌∷◌, ◌++◌, length, sym, ap, ◌∙◌, subst, arith}
use Rattle.std.specs.Str.{IsUtf8}
use Rattle.yf_chars.specs.Chain.{Chain, Many}
use Rattle.yf_chars.specs.Chain.Chain.{done, step}
use Rattle.yf_chars.specs.Class.{is_white}
use Rattle.yf_chars.specs.Text.{code, before}
use Rattle.yf_chars.proofs.ChainLemmas.{many_unique}
use Rattle.yf_chars.proofs.TextLemmas.{within_from_code}
use Rattle.yf_lines.specs.Basic.{LineStart, SeparateInLine, Spaces}
use Rattle.yf_lines.specs.Basic.LineStart.{after_break}
use Rattle.yf_lines.specs.Basic.SeparateInLine.{by_whites, at_start}
use Rattle.yf_lines.specs.Rest.{Rest}
use Rattle.yf_lines.proofs.BasicLemmas.{reads_white}
use Rattle.yf_lines.proofs.RestLemmas.{rest_ascii, rest_spaces}
use Rattle.yf_comments.specs.Comment.{CommentValue}
use Rattle.yf_comments.specs.Comments.{BreakOrEnd, CommentLine, CommentText, LineEnd, LineRest}
use Rattle.yf_comments.specs.Comments.BreakOrEnd.{by_break, by_end}
use Rattle.yf_comments.specs.Comments.CommentLine.{whites_line, comment_line}
use Rattle.yf_comments.specs.Comments.CommentText.{comment_text}
use Rattle.yf_comments.specs.Comments.LineEnd.{past_rest, from_start}
use Rattle.yf_comments.specs.Comments.LineRest.{nothing, whites, comment}
use Rattle.yf_comments.proofs.GapLinesLemmas.{spaces_whites}
use Rattle.yf_plain.proofs.PlainLemmas.{ns_not_white}
use Rattle.yf_grammar.proofs.Ends.BlankRuns.{ContentBefore, no_start_past}
use Rattle.yf_grammar.proofs.BlockOutcomes.BlockEnds.{LineOrEnd}
use Rattle.yf_laws.specs.Layouts.RowComments.{AreTrails, IsDeco}
use Rattle.yf_laws.specs.Layouts.Decorated.{Deco, trails_then, end_then, body_then, gap_then}
use Rattle.yf_chars.proofs.Tests.{not_true}
use Rattle.yf_chars.proofs.CharFacts.{feed_no_white, hash_no_white}
use Rattle.yf_block_scalar.proofs.HeaderLemmas.{many_white}

-- an offset at which a comment may begin
pub data WellSet (t : List ℕ) (o : ℕ) : Type 0 where
  at_line : {k : ℕ} {x : List ℕ} → LineStart t k → Many t is_white k o x → WellSet t o
  after_two : {k : ℕ} → is_white (code t (k - 1)) ≡ false → Spaces t k 2 → o ≡ k + 2 → WellSet t o

abbrev pub AllSet : List ℕ → List CommentValue → Type 0
AllSet t [] = Unit {0}
AllSet t (c ∷ cs) = WellSet t c.offset × AllSet t cs

pub set_append : (t : List ℕ) (xs ys : List CommentValue) → AllSet t xs → AllSet t ys → AllSet t (xs ++ ys)
set_append t [] ys a b = b
set_append t (x ∷ xs) ys a b = (a.0, set_append t xs ys a.1 b)

module _ {t : List ℕ} where
  text_set : {i j : ℕ} {cs : List CommentValue} → CommentText t i j cs → WellSet t i → AllSet t cs
  text_set (comment_text e m n) w = (w, tt)

  text_sign : {i j : ℕ} {cs : List CommentValue} → CommentText t i j cs → code t i ≡ 35
  text_sign (comment_text e m n) = e

  end_of_rest : {i j : ℕ} → BreakOrEnd t i j → LineOrEnd t j
  end_of_rest (by_break b) = inl (after_break b)
  end_of_rest (by_end e) = inr e

  pub rest_next : {i j : ℕ} {cs : List CommentValue} → LineRest t i j cs → LineOrEnd t j
  rest_next (nothing e) = end_of_rest e
  rest_next (whites s e) = end_of_rest e
  rest_next (comment s c e) = end_of_rest e

  -- after white space from the start of a line
  past_whites : {i h : ℕ} → LineOrEnd t i → SeparateInLine t i h → code t h ≡ 35 → WellSet t h
  past_whites l (at_start s) e = at_line s done
  past_whites {i} {h} l (by_whites m n) e =
      ⊎_elim (λ (s : LineStart t i). at_line s m)
      (λ (q : i ≡ length t). absurd (let w : h < length t = within_from_code t h (omega (arith, e)) in omega (arith, n, q, w))) l

  pub rest_at_line : {i j : ℕ} {cs : List CommentValue} → LineOrEnd t i → LineRest t i j cs → AllSet t cs
  rest_at_line l (nothing e) = tt
  rest_at_line l (whites s e) = tt
  rest_at_line l (comment s c e) = text_set c (past_whites l s (text_sign c))

  pub lines_set : {i j : ℕ} {cs : List CommentValue} → LineOrEnd t i → Chain (CommentLine t) i j cs → AllSet t cs
  lines_set l done = tt
  lines_set l (step (whites_line s e) c) = lines_set (end_of_rest e) c
  lines_set l (step {x = x} {y = y} (comment_line s m e) c) = set_append t x y (text_set m (past_whites l s (text_sign m))) (lines_set (end_of_rest e) c)

  pub end_at_line : {i j : ℕ} {cs : List CommentValue} → LineOrEnd t i → LineEnd t i j cs → AllSet t cs
  end_at_line l (past_rest {x = x} {y = y} r c) = set_append t x y (rest_at_line l r) (lines_set (rest_next r) c)
  end_at_line l (from_start s c) = lines_set (inl s) c

-- After a character that isn't white space.

pub after_no_white : {t : List ℕ} {q : ℕ} → IsUtf8 t → ContentBefore t q → is_white (code t (q - 1)) ≡ false
after_no_white {t} {q} u b = not_true (is_white (code t (q - 1))) (λ e.
    let read = reads_white t (q - 1) u e in
    let later = b.reads.later in
    let place : q - 1 + 1 ≡ q = omega (arith, later) in
    let same : code t (q - 1) ≡ b.char = sym read.back ∙ (ap (before t) place ∙ b.reads.back) in
    true≢false (sym e ∙ (ap is_white same ∙ ns_not_white b.char b.ns)))

-- two spaces before the comment that trails a row
trailing_set : {t : List ℕ} {q j : ℕ} {cs : List CommentValue} (xs : List (List ℕ)) (r : List ℕ) → IsUtf8 t → is_white (code t (q - 1)) ≡ false → (LineStart t q → ⊥) → AreTrails xs
    → Rest t q (trails_then xs (10 ∷ r)) → LineRest t q j cs → AllSet t cs
trailing_set xs r u n s a w (nothing e) = tt
trailing_set xs r u n s a w (whites p e) = tt
trailing_set xs r u n s a w (comment (at_start l) c e) = absurd (s l)
trailing_set {t} {q} [] r u n s a w (comment (by_whites m l) c e) =
    let feed : code t q ≡ 10 = (rest_ascii 10 u (omega arith) (λ z. absurd (omega arith)) w).0.char in
    absurd (true≢false (sym (many_white m l) ∙ (ap is_white feed ∙ feed_no_white)))
trailing_set {t} {q} (x ∷ []) r u n s a w (comment {h = h} (by_whites m l) c e) =
    let spaces = rest_spaces 2 q u w in
    let hash : code t (q + 2) ≡ 35 = (rest_ascii 35 u (omega arith) (λ z. absurd (omega arith)) (subst (λ z. Rest t (q + 2) (z ++ (10 ∷ r))) a.is spaces.1)).0.char in
    let same : h ≡ q + 2 = (many_unique t is_white m (ap is_white (text_sign c) ∙ hash_no_white) (spaces_whites 2 q spaces.0).1 (ap is_white hash ∙ hash_no_white)).0 in
    text_set c (after_two n spaces.0 same)
trailing_set (x ∷ y ∷ zs) r u n s a w (comment (by_whites m l) c e) = absurd a

-- what a row carries, from the end of its text on
pub row_set : {t : List ℕ} {q j : ℕ} {cs : List CommentValue} (d : Deco) (body : List (List ℕ)) (r : List ℕ) → IsUtf8 t → ContentBefore t q → IsDeco d → Rest t q (end_then d body r) → LineEnd t q j cs
    → AllSet t cs
row_set {t} d body r u b a w (past_rest {x = x} {y = y} p c) =
    set_append t x y (trailing_set d.trails (body_then body (gap_then d.gap r)) u (after_no_white u b) (no_start_past u b) a.trails w p) (lines_set (rest_next p) c)
row_set d body r u b a w (from_start s c) = absurd (no_start_past u b s)

-- this holds for the rest of the row's own line
pub own_set : {t : List ℕ} {q j : ℕ} {cs : List CommentValue} (d : Deco) (body : List (List ℕ)) (r : List ℕ) → IsUtf8 t → ContentBefore t q → IsDeco d → Rest t q (end_then d body r) → LineRest t q j cs
    → AllSet t cs
own_set d body r u b a w p = trailing_set d.trails (body_then body (gap_then d.gap r)) u (after_no_white u b) (no_start_past u b) a.trails w p
