-- The reader finds a flow node without properties in a block node as it is derived, and reaches its end.
use Rattle.std.proofs.Common.{ℕ, ℤ, pos, ◌+ℤ◌, ◌<◌, ◌≤◌, false, List, Option, refl, sym, ◌∙◌, arith, true≢false}
use Rattle.std.specs.Str.{IsUtf8}
use Rattle.yf_chars.specs.declared.context.Ctx.{Ctx}
use Rattle.yf_chars.specs.declared.context.Ctx.TheVariants.{FlowOut}
use Rattle.yf_chars.specs.Chain.{Chosen}
use Rattle.yf_lines.specs.Basic.{Clear}
use Rattle.yf_lines.proofs.BasicLemmas.{clear_front, clear_back}
use Rattle.yf_comments.specs.Comment.{CommentValue}
use Rattle.yf_comments.specs.Comments.{Separate, LineEnd}
use Rattle.yf_props.specs.Names.{Properties, PropertiesValue}
use Rattle.yf_props.proofs.SeparationEnds.{separate_forward}
use Rattle.yf_grammar.specs.Productions.Meaning.{Meaning, meaning_after, noting}
use Rattle.yf_grammar.specs.FlowReader.Parser.{ParsedNode}
use Rattle.yf_grammar.specs.BlockReader.BlockParser.{Ahead, Leaf, Whole}
use Rattle.yf_grammar.specs.BlockReader.Halts.{Halts}
use Rattle.yf_grammar.proofs.BlockOutcomes.BlockClaims.{NodeExact, NodeHaltsReach}
use Rattle.yf_grammar.proofs.BlockOutcomes.BlockFirst.{node_no_question, node_no_colon_sign}
use Rattle.yf_grammar.proofs.BlockContent.BlockLeaves.{gap_exact, gap_longest}
use Rattle.yf_grammar.proofs.BlockOutcomes.BlockStarts.{node_no_dash, line_end_forward}
use Rattle.yf_grammar.proofs.BlockContent.FlowLeaves.{BareNode, bare_node, bare_no_properties, may_leaf, bare_leaf}
use Rattle.yf_grammar.proofs.FlowReader.FlowStarts.{flow_starts, Starts}
use Rattle.yf_grammar.proofs.BlockContent.InlineViews.{NotKey, NoSignAt, Reader, InlineView, view_leaf, view_below, view_line, view_missed, view_apart, whole_view, halts_view}
use Rattle.yf_grammar.proofs.BlockContent.LeafKeys.{node_no_key}
use Rattle.yf_grammar.proofs.BlockContent.LeafHalts.{bare_leaf_reached}
use Rattle.yf_grammar.proofs.FlowReader.PropertiesEnds.{properties_begin}

module _ {t : List ℕ} where
  pub bare_starts : {n : ℤ} {h k l : ℕ} {x : Meaning} → BareNode t n h k l x → Starts t k l
  bare_starts b = (flow_starts (bare_node b).1 refl).starts

  pub bare_no_sign : {n : ℤ} {h k l : ℕ} {x : Meaning} → BareNode t n h k l x → NoSignAt t k
  bare_no_sign b = let d = (bare_node b).1 in record { no_dash = λ s. node_no_dash refl d s; no_question = λ s. node_no_question refl d s; no_colon = λ s. node_no_colon_sign refl d s }

  no_properties_there : {n m : ℤ} {c : Ctx} {h k l g : ℕ} {x : Meaning} {q : PropertiesValue} → BareNode t n h k l x → Chosen (Properties t m c k) g q → ⊥
  no_properties_there b d = true≢false (sym (properties_begin d.derived) ∙ bare_no_properties b)

  -- it is a leaf there
  pub bare_view : {R : Reader} {n m : ℤ} {c : Ctx} {h k l : ℕ} {a : Ahead} {x : Meaning} {o : Option ParsedNode} → BareNode t m h k l x → InlineView t R n c a k o → R (Leaf n a k) o
  bare_view b (view_leaf s r) = r
  bare_view b (view_below d e j r) = absurd (no_properties_there b d)
  bare_view b (view_line d s m l w j r) = absurd (no_properties_there b d)
  bare_view b (view_missed d s w e) = absurd (no_properties_there b d)
  bare_view b (view_apart d y e) = absurd (no_properties_there b d)

module _ {t : List ℕ} (u : IsUtf8 t) where
  pub bare_not_key : {n : ℤ} {e h k l j : ℕ} {x : Meaning} {ds : List CommentValue} → BareNode t (n +ℤ pos 1) h k l x → Clear t k l → h ≤ e → LineEnd t l j ds → NotKey t e n k
  bare_not_key b c m d = node_no_key u (bare_node b).1 d c m

  pub bare_owed : {h i k l j : ℕ} {n : ℤ} {c : Ctx} {cs ds : List CommentValue} {x : Meaning} → Separate t (n +ℤ pos 1) FlowOut i k cs → BareNode t (n +ℤ pos 1) h k l x
      → LineEnd t l j ds → NodeExact t false h n c i j (meaning_after cs (noting x ds))
  bare_owed {i = i} {k = k} {l = l} {j = j} {ds = ds} {x = x} s b d e m z f flag a v o r =
      let p : i ≤ k = separate_forward s in
      let q : k < l = (bare_starts b).later in
      let g : l ≤ j = line_end_forward d in
      let c = clear_front g (clear_back p z) in
      gap_exact (noting x ds) FlowOut refl s (bare_starts b).visible z (omega arith) v
      (λ cols y w r h. bare_leaf u b c m d (f.still refl) f.shallow (may_leaf w b) (bare_view {R = Whole t e} b (whole_view (bare_no_sign b) (bare_not_key b c m d) h))) r

  pub bare_halting : {h i k l j : ℕ} {n : ℤ} {c : Ctx} {cs ds : List CommentValue} {x : Meaning} → Separate t (n +ℤ pos 1) FlowOut i k cs → BareNode t (n +ℤ pos 1) h k l x
      → LineEnd t l j ds → NodeHaltsReach t h n c i j (meaning_after cs (noting x ds))
  bare_halting {i = i} {k = k} {l = l} {j = j} {ds = ds} {x = x} s b d e m z flag a v ws y o r =
      let p : i ≤ k = separate_forward s in
      let q : k < l = (bare_starts b).later in
      let g : l ≤ j = line_end_forward d in
      let c = clear_front g (clear_back p z) in
      gap_longest (noting x ds) FlowOut refl s (bare_starts b).visible z (omega arith) v
      (λ cols f w r h. bare_leaf_reached u b c m (record { line = d; allowed = y }) (may_leaf w b)
      (bare_view {R = Halts t e ws} b (halts_view (bare_no_sign b) (bare_not_key b c m d) h))) r
