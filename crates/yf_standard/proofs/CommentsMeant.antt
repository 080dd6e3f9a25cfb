-- The comments in separation (6.6 and 6.7) are those that are read.
use Rattle.std.proofs.Common.{◌≡◌, ℕ, ℤ, true, false, List, [], ◌∷◌, ◌++◌, length, slice_range, refl, sym, ap, subst, append-nil}
use Rattle.yf_chars.specs.declared.context.Ctx.{Ctx}
use Rattle.yf_chars.specs.Chain.{Chain}
use Rattle.yf_chars.specs.Chain.Chain.{done, step}
use Rattle.yf_lines.specs.Basic.{Break, LineStart, SeparateInLine, FlowPrefix, is_key}
use Rattle.yf_comments.specs.Comment.{CommentValue}
use Rattle.yf_comments.specs.Comments.{CommentText, BreakOrEnd, LineRest, CommentLine, LineEnd, SeparateLines, Separate}
use Rattle.yf_comments.specs.Comments.CommentText.{comment_text}
use Rattle.yf_comments.specs.Comments.BreakOrEnd.{by_break, by_end}
use Rattle.yf_comments.specs.Comments.LineRest.{nothing as empty_rest, whites, comment}
use Rattle.yf_comments.specs.Comments.CommentLine.{whites_line, comment_line}
use Rattle.yf_comments.specs.Comments.LineEnd.{past_rest, from_start}
use Rattle.yf_comments.specs.Comments.SeparateLines.{in_line, over_lines}
use Rattle.yf_comments.specs.Comments.Separate.{in_key, in_node}
use Rattle.yf_standard.specs.Tokens.{Token, notes}
use Rattle.yf_standard.specs.Tokens.Token.{a_comment}
use Rattle.yf_standard.proofs.Meant.{Then, Either, Perhaps, Here}
use Rattle.yf_standard.proofs.Meant.Then.{both}
use Rattle.yf_standard.proofs.Meant.Either.{left, right}
use Rattle.yf_standard.proofs.Meant.Perhaps.{missing, given}
use Rattle.yf_standard.proofs.Meant.Here.{here}
use Rattle.yf_standard.proofs.Basics.{SomeOf}
use Rattle.yf_standard.proofs.BasicsMeant.{Quiet}
use Rattle.yf_standard.proofs.BasicsMeant.Puts.{puts}

-- with the tokens of its comments
pub data Noted (S : ℕ → ℕ → List CommentValue → Type 0) (i j : ℕ) : List Token → Type 0 where
  noted : {x : List CommentValue} → S i j x → Noted S i j (notes x)

pub notes_append : (x y : List CommentValue) → notes (x ++ y) ≡ notes x ++ notes y
notes_append [] y = refl
notes_append (c ∷ x) y = ap (λ z. a_comment c.offset c.text ∷ z) (notes_append x y)

pub with_notes : {S : ℕ → ℕ → List CommentValue → Type 0} {i j : ℕ} {y : List Token} (x : List CommentValue) → S i j x → notes x ≡ y → Noted S i j y
with_notes {S = S} {i = i} {j = j} x s e = subst (λ z. Noted S i j z) e (noted s)

-- [75]
pub text_noted : {t : List ℕ} {i j : ℕ} → SomeOf (CommentText t) i j → Noted (CommentText t) i j (a_comment i (slice_range t i j) ∷ [])
text_noted {t} {i} {j} d = with_notes d.0 d.1 (same d.1) where
  same : {i j : ℕ} {x : List CommentValue} → CommentText t i j x → notes x ≡ a_comment i (slice_range t i j) ∷ []
  same (comment_text e m n) = refl

-- [76]
pub end_quiet : {t : List ℕ} {i j : ℕ} {y : List Token} → Either (Quiet (Break t)) (Here (λ i. i ≡ length t)) i j y → Quiet (BreakOrEnd t) i j y
end_quiet (left (puts b)) = puts (by_break b)
end_quiet (right (here e)) = puts (by_end e)

-- [77]
pub rest_noted : {t : List ℕ} {i j : ℕ} {y : List Token} → Then (Perhaps (Then (Quiet (SeparateInLine t)) (Perhaps (Noted (CommentText t))))) (Quiet (BreakOrEnd t)) i j y → Noted (LineRest t) i j y
rest_noted (both missing (puts b)) = noted (empty_rest b)
rest_noted (both (given (both (puts s) missing)) (puts b)) = noted (whites s b)
rest_noted (both (given (both (puts s) (given (noted {x = x} c)))) (puts b)) = with_notes x (comment s c b) (sym (append-nil (notes x)))

-- [78]
pub line_noted : {t : List ℕ} {i j : ℕ} {y : List Token} → Then (Quiet (SeparateInLine t)) (Then (Perhaps (Noted (CommentText t))) (Quiet (BreakOrEnd t))) i j y → Noted (CommentLine t) i j y
line_noted (both (puts s) (both missing (puts b))) = noted (whites_line s b)
line_noted (both (puts s) (both (given (noted {x = x} c)) (puts b))) = with_notes x (comment_line s c b) (sym (append-nil (notes x)))

pub lines_noted : {t : List ℕ} {i j : ℕ} {y : List Token} → Chain (Noted (CommentLine t)) i j y → Noted (Chain (CommentLine t)) i j y
lines_noted done = noted done
lines_noted {t} (step l r) = go l (lines_noted r) where
  go : {i h j : ℕ} {x y : List Token} → Noted (CommentLine t) i h x → Noted (Chain (CommentLine t)) h j y → Noted (Chain (CommentLine t)) i j (x ++ y)
  go (noted {x = x} l) (noted {x = y} r) = with_notes (x ++ y) (step l r) (notes_append x y)

-- [79]
pub end_noted : {t : List ℕ} {i j : ℕ} {y : List Token} → Then (Either (Noted (LineRest t)) (Here (LineStart t))) (Chain (Noted (CommentLine t))) i j y → Noted (LineEnd t) i j y
end_noted {t} (both e r) = go e (lines_noted r) where
  go : {i h j : ℕ} {x y : List Token} → Either (Noted (LineRest t)) (Here (LineStart t)) i h x → Noted (Chain (CommentLine t)) h j y → Noted (LineEnd t) i j (x ++ y)
  go (left (noted {x = x} d)) (noted {x = y} r) = with_notes (x ++ y) (past_rest d r) (notes_append x y)
  go (right (here s)) (noted r) = noted (from_start s r)

-- [81] and [80]
pub lines_separate_noted : {t : List ℕ} {n : ℤ} {i j : ℕ} {y : List Token}
    → Either (Then (Noted (LineEnd t)) (Quiet (FlowPrefix t n))) (Quiet (SeparateInLine t)) i j y → Noted (SeparateLines t n) i j y
lines_separate_noted (left (both (noted {x = x} e) (puts p))) = with_notes x (over_lines e p) (sym (append-nil (notes x)))
lines_separate_noted (right (puts s)) = noted (in_line s)

pub separate_noted : {t : List ℕ} {n : ℤ} {c : Ctx} {i j : ℕ} {y : List Token} → is_key c ≡ false → Noted (SeparateLines t n) i j y → Noted (Separate t n c) i j y
separate_noted e (noted s) = noted (in_node e s)

pub key_separate_noted : {t : List ℕ} {n : ℤ} {c : Ctx} {i j : ℕ} {y : List Token} → is_key c ≡ true → Quiet (SeparateInLine t) i j y → Noted (Separate t n c) i j y
key_separate_noted e (puts s) = noted (in_key e s)
