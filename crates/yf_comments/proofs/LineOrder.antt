-- The end of a line and a separation end at or after their start.
use Rattle.std.proofs.Common.{ℕ, ℤ, ◌≤◌, List, arith}
use Rattle.yf_chars.specs.declared.context.Ctx.{Ctx}
use Rattle.yf_chars.specs.Class.{is_white}
use Rattle.yf_chars.specs.Chain.Chain.{done}
use Rattle.yf_chars.proofs.ChainLemmas.{chain_forward, one_functional}
use Rattle.yf_lines.specs.Basic.{SeparateInLine}
use Rattle.yf_comments.specs.Comment.{CommentValue}
use Rattle.yf_comments.specs.Comments.{LineEnd, LineRest, Separate, SeparateLines}
use Rattle.yf_comments.specs.Comments.LineEnd.{past_rest}
use Rattle.yf_comments.specs.Comments.Separate.{in_key, in_node}
use Rattle.yf_comments.specs.Comments.SeparateLines.{in_line, over_lines}
use Rattle.yf_comments.proofs.LineEndLemmas.{line_end_rows}
use Rattle.yf_comments.proofs.RowLemmas.{row_functional, separate_whites}
use Rattle.yf_comments.proofs.SeparateLemmas.{prefix_whites}

module _ {t : List ℕ} where
  pub line_end_forward : {i j : ℕ} {x : List CommentValue} → LineEnd t i j x → i ≤ j
  line_end_forward e = chain_forward row_functional (line_end_rows e)

  pub rest_forward : {i j : ℕ} {x : List CommentValue} → LineRest t i j x → i ≤ j
  rest_forward r = line_end_forward (past_rest r done)

  in_line_forward : {i j : ℕ} → SeparateInLine t i j → i ≤ j
  in_line_forward s = chain_forward (one_functional t is_white) (separate_whites s).1

  lines_forward : {n : ℤ} {i j : ℕ} {x : List CommentValue} → SeparateLines t n i j x → i ≤ j
  lines_forward (in_line s) = in_line_forward s
  lines_forward (over_lines d f) =
      let l = line_end_forward d in
      let m = chain_forward (one_functional t is_white) (prefix_whites f).1 in
      omega arith

  pub separate_forward : {n : ℤ} {c : Ctx} {i j : ℕ} {x : List CommentValue} → Separate t n c i j x → i ≤ j
  separate_forward (in_key e s) = in_line_forward s
  separate_forward (in_node e s) = lines_forward s
