-- The comments of a separation are within it.
use Rattle.std.proofs.Common.{ℕ, ℤ, ◌+◌, ◌-◌, ◌≤◌, Bool, true, false, List, length, arith}
use Rattle.std.specs.Prelude.{drop, slice_range}
use Rattle.std.proofs.lemmas.List.{length-take}
use Rattle.yf_chars.specs.declared.context.Ctx.{Ctx}
use Rattle.yf_chars.specs.Chain.{Chain}
use Rattle.yf_chars.specs.Chain.Chain.{done, step}
use Rattle.yf_chars.specs.Class.{is_nb_char, is_white}
use Rattle.yf_chars.proofs.ChainLemmas.{chain_forward, one_functional}
use Rattle.yf_comments.specs.Comment.{CommentValue}
use Rattle.yf_comments.specs.Comments.{CommentText, CommentLine, LineRest, LineEnd, SeparateLines, Separate}
use Rattle.yf_comments.specs.Comments.CommentText.{comment_text}
use Rattle.yf_comments.specs.Comments.CommentLine.{whites_line, comment_line}
use Rattle.yf_comments.specs.Comments.LineRest.{nothing, whites, comment}
use Rattle.yf_comments.specs.Comments.LineEnd.{past_rest, from_start}
use Rattle.yf_comments.specs.Comments.SeparateLines.{in_line, over_lines}
use Rattle.yf_comments.specs.Comments.Separate.{in_key, in_node}
use Rattle.yf_comments.proofs.RowLemmas.{break_or_end_forward}
use Rattle.yf_comments.proofs.SeparateLemmas.{prefix_whites}
use Rattle.yf_grammar.specs.Productions.Grammar.{MaySeparate, ValueSeparate}
use Rattle.yf_grammar.specs.Productions.Grammar.MaySeparate.{unseparated, separated}
use Rattle.yf_grammar.proofs.Ends.Forward.{in_line_forward}
use Rattle.yf_laws.proofs.Size.Weights.{remark_high, remark_weight, remarks_append, remarks_weight}

-- a part of a text is no longer than the distance between its ends
pub slice_short : (t : List ℕ) (i j : ℕ) → i ≤ j → length (slice_range t i j) + i ≤ j
slice_short t i j l = omega (arith, l, length-take (j - i) (drop i t))

module _ {t : List ℕ} where
  text_remarks : {i j : ℕ} {x : List CommentValue} → CommentText t i j x → remarks_weight x + i ≤ j
  text_remarks {i} {j} (comment_text e m b) =
      let l = chain_forward (one_functional t is_nb_char) m in
      let short = slice_short t i j (omega (arith, l)) in
      let high : remark_weight (slice_range t i j) ≤ j - i = remark_high (slice_range t i j) (j - i) (omega (arith, l)) (omega (arith, short)) in
      omega (arith, high, l)

  pub rest_remarks : {i j : ℕ} {x : List CommentValue} → LineRest t i j x → remarks_weight x + i ≤ j
  rest_remarks (nothing b) = let l = break_or_end_forward b in omega (arith, l)
  rest_remarks (whites s b) = let l = in_line_forward s in let m = break_or_end_forward b in omega (arith, l, m)
  rest_remarks (comment s c b) = let l = in_line_forward s in let m = text_remarks c in let n = break_or_end_forward b in omega (arith, l, m, n)

  pub line_remarks : {i j : ℕ} {x : List CommentValue} → CommentLine t i j x → remarks_weight x + i ≤ j
  line_remarks (whites_line s b) = let l = in_line_forward s in let m = break_or_end_forward b in omega (arith, l, m)
  line_remarks (comment_line s c b) = let l = in_line_forward s in let m = text_remarks c in let n = break_or_end_forward b in omega (arith, l, m, n)

  pub lines_remarks : {i j : ℕ} {x : List CommentValue} → Chain (CommentLine t) i j x → remarks_weight x + i ≤ j
  lines_remarks done = omega arith
  lines_remarks (step {x = x} {y = y} s c) = let l = line_remarks s in let m = lines_remarks c in omega (arith, l, m, remarks_append x y)

  pub end_remarks : {i j : ℕ} {x : List CommentValue} → LineEnd t i j x → remarks_weight x + i ≤ j
  end_remarks (past_rest {x = x} {y = y} r c) = let l = rest_remarks r in let m = lines_remarks c in omega (arith, l, m, remarks_append x y)
  end_remarks (from_start s c) = lines_remarks c

  separated_lines : {n : ℤ} {i j : ℕ} {x : List CommentValue} → SeparateLines t n i j x → remarks_weight x + i ≤ j
  separated_lines (in_line s) = let l = in_line_forward s in omega (arith, l)
  separated_lines (over_lines d f) =
      let l = end_remarks d in let m = chain_forward (one_functional t is_white) (prefix_whites f).1 in omega (arith, l, m)

  pub separate_remarks : {n : ℤ} {c : Ctx} {i j : ℕ} {x : List CommentValue} → Separate t n c i j x → remarks_weight x + i ≤ j
  separate_remarks (in_key e s) = let l = in_line_forward s in omega (arith, l)
  separate_remarks (in_node e s) = separated_lines s

  pub may_remarks : {n : ℤ} {c : Ctx} {i j : ℕ} {x : List CommentValue} → MaySeparate t n c i j x → remarks_weight x + i ≤ j
  may_remarks unseparated = omega arith
  may_remarks (separated s) = separate_remarks s

pub value_remarks : (t : List ℕ) (n : ℤ) (c : Ctx) (i j : ℕ) (x : List CommentValue) (json : Bool) → ValueSeparate json t n c i j x → remarks_weight x + i ≤ j
value_remarks t n c i j x true s = may_remarks s
value_remarks t n c i j x false s = separate_remarks s
