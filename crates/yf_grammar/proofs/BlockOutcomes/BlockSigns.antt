-- White space, a break or the end of the text follows the sign of an entry of a block mapping.
use Rattle.std.proofs.Common.{◌≡◌, ℕ, ℤ, ◌+◌, ◌<◌, true, List, arith}
use Rattle.std.specs.Str.{IsUtf8}
use Rattle.yf_chars.specs.declared.context.Ctx.{Ctx}
use Rattle.yf_chars.specs.Text.{code}
use Rattle.yf_chars.specs.Class.{is_white, is_white_or_end}
use Rattle.yf_chars.specs.Chain.{Many}
use Rattle.yf_chars.specs.Chain.Chain.{done, step}
use Rattle.yf_chars.specs.Chain.One.{one}
use Rattle.yf_lines.specs.Basic.{LineStart, SeparateInLine}
use Rattle.yf_lines.specs.Basic.SeparateInLine.{by_whites, at_start}
use Rattle.yf_lines.proofs.BasicLemmas.{ends_by_white}
use Rattle.yf_comments.specs.Comment.{CommentValue}
use Rattle.yf_comments.specs.Comments.{LineEnd, SeparateLines, Separate}
use Rattle.yf_comments.specs.Comments.LineEnd.{past_rest, from_start}
use Rattle.yf_comments.specs.Comments.SeparateLines.{in_line, over_lines}
use Rattle.yf_comments.specs.Comments.Separate.{in_key, in_node}
use Rattle.yf_block_scalar.proofs.HeaderLemmas.{rest_stop, inside_line}
use Rattle.yf_grammar.specs.BlockReader.BlockParser.{SignAt}
use Rattle.yf_grammar.specs.Productions.Meaning.{Meaning}
use Rattle.yf_grammar.specs.Productions.Grammar.{BlockNode, BlockValue, Derives}
use Rattle.yf_grammar.specs.Productions.Grammar.Derives.{a_block_scalar, a_block_scalar_with, a_block_collection, a_block_collection_with, flow_in_block, a_block_value, an_empty_block_value}

module _ {t : List ℕ} where
  many_white : {i j : ℕ} {x : List ℕ} → Many t is_white i j x → i < j → is_white (code t i) ≡ true
  many_white done l = absurd (omega arith)
  many_white (step (one e) c) l = e

  line_stop : {i j : ℕ} → (LineStart t i → ⊥) → SeparateInLine t i j → is_white_or_end (code t i) ≡ true
  line_stop {i} n (by_whites m l) = ends_by_white (code t i) (many_white m l)
  line_stop n (at_start s) = absurd (n s)

  -- inside a line, a separation begins with white space or with the end of the line
  pub line_end_stop : {i j : ℕ} {x : List CommentValue} → (LineStart t i → ⊥) → LineEnd t i j x → is_white_or_end (code t i) ≡ true
  line_end_stop n (past_rest r c) = rest_stop n r
  line_end_stop n (from_start s c) = absurd (n s)

  lines_stop : {m : ℤ} {i j : ℕ} {x : List CommentValue} → (LineStart t i → ⊥) → SeparateLines t m i j x → is_white_or_end (code t i) ≡ true
  lines_stop n (in_line s) = line_stop n s
  lines_stop n (over_lines d p) = line_end_stop n d

  pub separate_stop : {m : ℤ} {c : Ctx} {i j : ℕ} {x : List CommentValue} → (LineStart t i → ⊥) → Separate t m c i j x → is_white_or_end (code t i) ≡ true
  separate_stop n (in_key e s) = line_stop n s
  separate_stop n (in_node e s) = lines_stop n s

  pub node_stop : {h i j : ℕ} {m : ℤ} {c : Ctx} {x : Meaning} → (LineStart t i → ⊥) → Derives t h (BlockNode m c) i j x → is_white_or_end (code t i) ≡ true
  node_stop n (a_block_scalar b s d) = separate_stop n s
  node_stop n (a_block_scalar_with b s p q d) = separate_stop n s
  node_stop n (a_block_collection b e s l d) = line_end_stop n e
  node_stop n (a_block_collection_with b s p e q l d) = separate_stop n s
  node_stop n (flow_in_block b s d e) = separate_stop n s

  colon_inside : (i : ℕ) → IsUtf8 t → code t i ≡ 58 → LineStart t (i + 1) → ⊥
  colon_inside i u e = inside_line t i u (omega arith) (omega arith)

  -- the `:` of a value is a sign
  pub value_sign : {h m i j : ℕ} {x : Meaning} → IsUtf8 t → Derives t h (BlockValue m) i j x → SignAt t 58 i
  value_sign {i = i} u (a_block_value e d) = record { sign_is_at = e; follows = node_stop (colon_inside i u e) d }
  value_sign {i = i} u (an_empty_block_value e g) = record { sign_is_at = e; follows = line_end_stop (colon_inside i u e) g }
