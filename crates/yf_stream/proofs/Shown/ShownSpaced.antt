-- In small texts a word `a` after one space: the block nodes that begin at the space.
use Rattle.std.proofs.Common.{◌≡◌, ◌≢◌, ℕ, ℤ, pos, ◌+◌, ◌-◌, ◌+ℤ◌, ◌<◌, ◌≤◌, List, [], ◌∷◌, refl, sym, ap, ◌∙◌, arith, subst}
use Rattle.yf_chars.specs.declared.context.Ctx.{Ctx}
use Rattle.yf_chars.specs.declared.context.Ctx.TheVariants.{FlowOut}
use Rattle.yf_chars.specs.Text.{code}
use Rattle.yf_chars.specs.Class.{is_white}
use Rattle.yf_chars.specs.Chain.{Many}
use Rattle.yf_chars.specs.Chain.Chain.{done, step}
use Rattle.yf_chars.specs.Chain.One.{one}
use Rattle.yf_chars.proofs.TextLemmas.{next_ascii}
use Rattle.yf_lines.specs.Basic.{LineStart}
use Rattle.yf_lines.specs.Basic.SeparateInLine.{by_whites}
use Rattle.yf_lines.proofs.BasicLemmas.{no_break_end, no_start, white_of_space}
use Rattle.yf_comments.specs.Comment.{CommentValue}
use Rattle.yf_comments.specs.Comments.{LineEnd, Separate}
use Rattle.yf_comments.specs.Comments.LineEnd.{from_start, past_rest}
use Rattle.yf_comments.specs.Comments.Separate.{in_node}
use Rattle.yf_comments.specs.Comments.SeparateLines.{in_line}
use Rattle.yf_comments.proofs.RowLemmas.{stuck_at_solid}
use Rattle.yf_grammar.specs.Productions.Grammar.{BlockNode, Derives, FlowNode}
use Rattle.yf_grammar.specs.Productions.Grammar.Derives.{a_block_scalar, a_block_scalar_with, a_block_collection, a_block_collection_with, flow_in_block}
use Rattle.yf_grammar.specs.Productions.Meaning.{Meaning, meaning_after, noting, scalar}
use Rattle.yf_grammar.proofs.BlockOutcomes.BlockStarts.{block_starts, line_end_forward}
use Rattle.yf_grammar.proofs.FlowReader.FlowStarts.{flow_starts}
use Rattle.yf_grammar.proofs.Ends.GapLemmas.{Visible, same_end, visible_solid}
use Rattle.yf_stream.proofs.Shown.ShownPlain.{entries_dash, no_block_scalar, no_properties}
use Rattle.yf_stream.proofs.Shown.ShownNotes.{OneComment, Takes, end_takes, same_side, separate_takes, takes_two}
use Rattle.yf_stream.proofs.Shown.ShownWords.{WordAt, flow_is, word_at}

-- a block node that is the word at q, with comments round it
pub record Node (p : ℕ) (remark : CommentValue) (q i j : ℕ) (x : Meaning) : Type 0 where
  pub events : x.events ≡ (word_at q).events
  pub escapes : x.escapes ≡ (word_at q).escapes
  pub finish : x.finish ≡ (word_at q).finish
  pub takes : Takes p remark i j x.comments
  pub later : i < j

module _ {t : List ℕ} {p e d : ℕ} {remark : CommentValue} (o : OneComment t p e d remark) where
  other_place : {q : ℕ} → WordAt t q → q ≢ p
  other_place w f = let a = ap (code t) f ∙ o.sign in let b = w.word in omega (arith, sym b ∙ a)

  pub word_takes : {q : ℕ} → WordAt t q → Takes p remark q (q + 1) []
  word_takes w = same_side remark (omega arith) (λ l. let f = other_place w in omega (arith, f))

  -- a space that begins no line is at g, and all dashes are before it
  module _ (g : ℕ) (w : WordAt t (g + 1)) (seen : Visible t (g + 1)) (space : code t g ≡ 32) (dashes : d ≤ g) (some : g ≢ 0)
      (solid : code t (g - 1) ≢ 10) (other : code t (g - 1) ≢ 13) where
    inner : LineStart t g → ⊥
    inner = no_start t g some (λ l. o.chars.mark _) (no_break_end t g solid (λ f c. other f))

    whites_there : Many t is_white g (g + 1) (code t g ∷ [])
    whites_there = subst (λ k. Many t is_white g k (code t g ∷ [])) (next_ascii t g (omega arith)) (step (one (white_of_space (code t g) space)) done)

    pub no_end : {j : ℕ} {cs : List CommentValue} → LineEnd t g j cs → ⊥
    no_end (past_rest {h = h} {x = x} r c) = let s = visible_solid seen in (stuck_at_solid whites_there s.not_white s.no_comment s.no_end).none h x r
    no_end (from_start l c) = inner l

    separation : (n : ℤ) → Separate t n FlowOut g (g + 1) []
    separation n = in_node refl (in_line (by_whites whites_there (omega arith)))

    pub block_is : {h j : ℕ} {n : ℤ} {c : Ctx} {x : Meaning} → Derives t h (BlockNode n c) g j x → Node p remark (g + 1) g j x
    unfolding meaning_after noting scalar
    block_is (a_block_scalar b s r) = absurd (no_block_scalar t o.chars.sign r)
    block_is (a_block_scalar_with b s f r k) = absurd (no_properties t o.chars.sign f)
    block_is (a_block_collection {k = k} {m = m} b l s a r) =
        let f = o.chars.dash (k + m) (entries_dash t o.chars.sign r) in let u = line_end_forward l in absurd (omega arith)
    block_is (a_block_collection_with b s f l k m r) = absurd (no_properties t o.chars.sign f)
    block_is {j = j} (flow_in_block {h = h} {k = k} {l = l} {n = n} {c = c} {cs = cs} {ds = ds} {x = x} b s r f) =
        let v = (flow_starts r refl).starts.visible in
        let at : k ≡ g + 1 = same_end seen (separation (n +ℤ pos 1)) v s in
        let a = flow_is w (subst (λ k. Derives t h (FlowNode (n +ℤ pos 1) FlowOut) k l x) at r) in
        let front : Takes p remark g (g + 1) cs = subst (λ k. Takes p remark g k cs) at (separate_takes o s) in
        let rest : Takes p remark (g + 1 + 1) j ds = subst (λ l. Takes p remark l j ds) a.0 (end_takes o f) in
        record {
          events = ap (λ m. m.events) a.1;
          escapes = ap (λ m. m.escapes) a.1;
          finish = ap (λ m. m.finish) a.1;
          takes = rw a.1 (takes_two front (takes_two (word_takes w) rest));
          later = block_starts (flow_in_block {n = n} {c = c} b s r f);
        }
