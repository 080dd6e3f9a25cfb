-- The node of a document without `---` begins at the first character of the line that is no white space.
use Rattle.std.proofs.Common.{◌≡◌, ℕ, ℤ, ◌+◌, false, List, refl, sym, subst}
use Rattle.yf_chars.specs.declared.context.Ctx.{Ctx}
use Rattle.yf_chars.specs.Text.{code}
use Rattle.yf_chars.specs.Class.{is_white}
use Rattle.yf_chars.specs.Chain.{Many, Stuck}
use Rattle.yf_chars.proofs.ChainLemmas.{many_unique}
use Rattle.yf_lines.specs.Basic.{LineStart}
use Rattle.yf_comments.specs.Comment.{CommentValue}
use Rattle.yf_comments.specs.Comments.{Row, Separate}
use Rattle.yf_comments.specs.Comments.Separate.{in_key, in_node}
use Rattle.yf_comments.specs.Comments.SeparateLines.{in_line, over_lines}
use Rattle.yf_comments.proofs.LineEndLemmas.{line_end_rows}
use Rattle.yf_comments.proofs.RowLemmas.{separate_from, separate_whites}
use Rattle.yf_grammar.specs.Productions.Grammar.{BlockNode, Derives}
use Rattle.yf_grammar.specs.Productions.Grammar.Derives.{a_block_scalar, a_block_scalar_with, a_block_collection, a_block_collection_with, flow_in_block}
use Rattle.yf_grammar.specs.Productions.Meaning.{Meaning}
use Rattle.yf_grammar.proofs.BlockContent.BlockScalars.{scalar_visible}
use Rattle.yf_grammar.proofs.BlockOutcomes.BlockStarts.{block_starts}
use Rattle.yf_grammar.proofs.FlowReader.FlowStarts.{flow_starts}
use Rattle.yf_grammar.proofs.Ends.GapLemmas.{Visible}
use Rattle.yf_grammar.proofs.NodesInText.PlacedLeaves.{properties_visible}
use Rattle.yf_grammar.proofs.FlowReader.PropertiesEnds.{properties_begin}
use Rattle.yf_comments.proofs.SeparateLemmas.{prefix_whites, spaces_whites}
use Rattle.yf_plain.proofs.PlainLemmas.{ns_not_white}
use Rattle.yf_stream.specs.Stream.{ContentAt}
use Rattle.yf_stream.specs.Stream.ContentAt.{content_at}
use Rattle.yf_stream.proofs.Reader.PathsThrough.{stays}

-- white space, and a visible character after it
record WhitesTo (t : List ℕ) (k : ℕ) : Type 0 where
  place : ℕ
  whites : List ℕ
  run : Many t is_white k place whites
  visible : Visible t place

module _ {t : List ℕ} where
  whites_over : {n : ℤ} {c : Ctx} {k l : ℕ} {cs : List CommentValue} → Stuck (Row t k) → Separate t n c k l cs → (w : List ℕ) × Many t is_white k l w
  whites_over r (in_key e s) = separate_whites s
  whites_over r (in_node e (in_line s)) = separate_whites s
  whites_over {l = l} r (in_node e (over_lines d p)) =
      let w = prefix_whites p in (w.0, subst (λ z. Many t is_white z l w.0) (sym (stays r (line_end_rows d))) w.1)

  there : {k l : ℕ} → (w : List ℕ) × Many t is_white k l w → Visible t l → WhitesTo t k
  there {l = l} w v = record { place = l; whites = w.0; run = w.1; visible = v }

  node_there : {h k j : ℕ} {n : ℤ} {c : Ctx} {x : Meaning} → Stuck (Row t k) → Derives t h (BlockNode n c) k j x → WhitesTo t k
  node_there r (a_block_scalar b s d) = there (whites_over r s) (scalar_visible d)
  node_there r (a_block_scalar_with {f = f} b s q e d) = there (whites_over r s) (properties_visible (properties_begin q))
  node_there r (a_block_collection {k = l} {m = m} b d s o y) =
      let w = spaces_whites t l m s in
      there (w.0, subst (λ z. Many t is_white z (l + m) w.0) (sym (stays r (line_end_rows d))) w.1) (block_starts y).visible
  node_there r (a_block_collection_with {f = f} b s q e a o y) = there (whites_over r s) (properties_visible (properties_begin q))
  node_there r (flow_in_block b s d e) = there (whites_over r s) (flow_starts d refl).starts.visible

  pub bare_start : {h k p j : ℕ} {n : ℤ} {c : Ctx} {w : List ℕ} {x : Meaning} → LineStart t k → Stuck (Row t k) → Many t is_white k p w → is_white (code t p) ≡ false
      → Derives t h (BlockNode n c) k j x → ContentAt t k p
  bare_start {k = k} {p = p} s r m e d =
      let a = node_there r d in
      let same = (many_unique t is_white a.run (ns_not_white (code t a.place) a.visible.ns) m e).0 in
      subst (λ z. ContentAt t k z) same (content_at (separate_from a.run s) a.visible.ns a.visible.no_hash)
