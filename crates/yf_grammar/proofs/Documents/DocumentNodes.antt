-- A document's node and the comment lines after it, up to an offset at which no line of it can begin: the reader takes
-- them with the node, unless it ends with a block scalar.
use Rattle.std.proofs.Common.{◌≡◌, ℕ, ℤ, ◌<◌, ◌≤◌, Bool, true, false, ⊎_elim, List, [], Option, refl, sym, ap, ◌∙◌, subst, arith, true≢false}
use Rattle.std.proofs.lemmas.Bool.{cases_lt}
use Rattle.std.specs.Str.{IsUtf8}
use Rattle.yf_chars.specs.declared.context.Ctx.{Ctx}
use Rattle.yf_chars.specs.Chain.{Chain, Stuck}
use Rattle.yf_chars.specs.Chain.Chain.{done, step}
use Rattle.yf_chars.proofs.ChainLemmas.{chain_forward}
use Rattle.yf_lines.specs.Basic.{Clear}
use Rattle.yf_lines.proofs.BasicLemmas.{clear_join, clear_nothing}
use Rattle.yf_comments.specs.Comment.{CommentValue}
use Rattle.yf_comments.specs.Comments.{Row}
use Rattle.yf_comments.proofs.RowLemmas.{row_functional}
use Rattle.yf_grammar.specs.Productions.Meaning.{Meaning, noting}
use Rattle.yf_grammar.specs.Productions.Grammar.{BlockNode, Derives}
use Rattle.yf_grammar.specs.FlowReader.Parser.{ParsedNode, found}
use Rattle.yf_grammar.specs.BlockReader.BlockParser.{LinesEnd, LineText, Nothing, Awaited, Whole}
use Rattle.yf_grammar.proofs.BlockOutcomes.BlockClaims.{Follow, nothing_ahead, line_still, colon_line}
use Rattle.yf_grammar.proofs.BlockOutcomes.BlockExtended.{by_scalar, MoreLines, extended}
use Rattle.yf_grammar.proofs.BlockOutcomes.BlockStatements.{node_is_found}
use Rattle.yf_grammar.proofs.FlowReader.ClearLemmas.{clear_rest}
use Rattle.yf_grammar.proofs.WrittenTexts.LeafBack.{noting_nothing}

-- the outcome for a node that ends at j, with comment lines after it up to k
pub data DocumentFound (h j k : ℕ) (es : List CommentValue) (x : Meaning) (o : Option ParsedNode) : Bool → Type 0 where
  takes_lines : o ≡ found k h false (noting x es) → DocumentFound h j k es x o false
  leaves_lines : o ≡ found j h false x → DocumentFound h j k es x o true

module _ {t : List ℕ} where
  clear_rows : {i j : ℕ} {x : List CommentValue} → IsUtf8 t → Chain (Row t) i j x → Clear t i j
  clear_rows {i} u done = clear_nothing t i
  clear_rows u (step r c) = clear_join (clear_rest u r.rest) (clear_rows u c)

  -- no line of a node begins at comment lines, nor at an offset with `LinesEnd`
  no_line_there : {j k m p : ℕ} {es : List CommentValue} → Chain (Row t) j k es → LinesEnd t k → LineText t j m p → ⊥
  no_line_there done l w = w.goes_on l
  no_line_there (step {h = h} {x = x} r c) l w = (line_still w).none h x r

  still_rows : {j k : ℕ} {es : List CommentValue} → Chain (Row t) j k es → k ≤ j → (k ≡ j) × (es ≡ [])
  still_rows done l = (refl, refl)
  still_rows (step r c) l = let f = r.later in let g = chain_forward row_functional c in absurd (omega arith)

  follow_end : {v : Bool} {n : ℤ} {c : Ctx} {j k : ℕ} {es : List CommentValue} → (v ≡ false → Stuck (Row t j)) → Chain (Row t) j k es → LinesEnd t k → Follow t v n c j
  follow_end s r l = record { still = s; shallow = λ m p w q. no_line_there r l w; no_dash = λ m p w y q z. no_line_there r l w }

module _ {t : List ℕ} (u : IsUtf8 t) {h e i j k : ℕ} {n : ℤ} {c : Ctx} {x : Meaning} {es : List CommentValue} {o : Option ParsedNode} (d : Derives t h (BlockNode n c) i j x) (within : h ≤ e)
    (clear : Clear t i j) (rows : Chain (Row t) j k es) (last : Stuck (Row t k)) (ends : LinesEnd t k) (read : Whole t e (Awaited false n c Nothing i) o) where
  takes : by_scalar d ≡ false → o ≡ found k h false (noting x es)
  takes f = ⊎_elim
      (λ (l : j < k).
      let more : MoreLines t j k es = record { rows = rows; some = l; no_colon = λ m w. (colon_line w).goes_on ends } in
      node_is_found u (extended d f k es more) within (clear_join clear (clear_rows u rows)) (follow_end (λ q. last) (done {i = k}) ends) nothing_ahead read)
      (λ (l : k ≤ j).
      let s = still_rows rows l in
      let there : o ≡ found j h false x = node_is_found u d within clear (follow_end (λ q. subst (λ w. Stuck (Row t w)) s.0 last) rows ends) nothing_ahead read in
      there ∙ ap (λ w. found w h false x) (sym s.0) ∙ ap (λ w. found k h false w) (sym (noting_nothing x)) ∙ ap (λ w. found k h false (noting x w)) (sym s.1))
      (cases_lt j k)

  leaves : by_scalar d ≡ true → o ≡ found j h false x
  leaves f = node_is_found u d within clear (follow_end (λ q. absurd (true≢false (sym f ∙ q))) rows ends) nothing_ahead read

  pub document_node : DocumentFound h j k es x o (by_scalar d)
  document_node = go (by_scalar d) takes leaves where
    go : (b : Bool) → (b ≡ false → o ≡ found k h false (noting x es)) → (b ≡ true → o ≡ found j h false x) → DocumentFound h j k es x o b
    go true f g = leaves_lines (g refl)
    go false f g = takes_lines (f refl)
