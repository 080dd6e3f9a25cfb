-- A flow node on one line, outside of brackets, is derived in a key of a block mapping.
use Rattle.std.proofs.Common.{◌≡◌, ℕ, ℤ, pos, ◌≤◌, Bool, List, ◌++◌, refl, sym, ap, ◌∙◌, subst, arith, true≢false, append-nil}
use Rattle.std.specs.Str.{IsUtf8}
use Rattle.yf_chars.specs.declared.context.Ctx.{Ctx}
use Rattle.yf_chars.specs.declared.context.Ctx.TheVariants.{FlowOut, FlowKey, BlockKey}
use Rattle.yf_comments.specs.Comment.{CommentValue}
use Rattle.yf_comments.specs.Comments.{Separate}
use Rattle.yf_plain.specs.Plain.{PlainLine, PlainText}
use Rattle.yf_plain.specs.Plain.PlainText.{as_key, as_lines}
use Rattle.yf_plain.proofs.PlainLemmas.{line_forward}
use Rattle.yf_props.specs.Names.{Properties, PropertiesValue}
use Rattle.yf_props.proofs.SeparationEnds.{separate_forward}
use Rattle.yf_grammar.specs.Productions.Meaning.{Meaning}
use Rattle.yf_grammar.specs.Productions.Grammar.{NodeOf, JsonContent, Derives, MaySeparate}
use Rattle.yf_grammar.specs.Productions.Grammar.MaySeparate.{unseparated, separated}
use Rattle.yf_grammar.specs.Productions.Grammar.Derives.{an_alias, a_plain, a_plain_with, properties_alone, a_json, a_json_with, a_single, a_double, an_empty_collection, a_collection}
use Rattle.yf_grammar.proofs.FlowReader.FlowStarts.{flow_starts, may_forward}
use Rattle.yf_grammar.proofs.FlowReader.PlainEnds.{plain_later}
use Rattle.yf_grammar.proofs.FlowReader.QuotedEnds.{single_widened, double_widened}
use Rattle.yf_grammar.proofs.FlowReader.OneLine.{AllOnLine, separate_key, gap_key, properties_key, no_nexts, single_key, double_key, entries_of_key}
use Rattle.yf_grammar.proofs.Ends.WiderLemmas.{key_separate, key_properties, line_same, block_first, block_char}
use Rattle.yf_props.proofs.NameOrder.{properties_forward}

module _ {t : List ℕ} {a z : ℕ} (o : AllOnLine t a z) where
  separate_block : {n : ℤ} {c : Ctx} {i j : ℕ} {x : List CommentValue} → a ≤ i → j ≤ z → Separate t n c i j x → Separate t (pos 0) BlockKey i j x
  separate_block l m s = key_separate (pos 0) BlockKey refl (separate_key o l m s)

  key_may : {n : ℤ} {i j : ℕ} {x : List CommentValue} → MaySeparate t n FlowKey i j x → MaySeparate t (pos 0) BlockKey i j x
  key_may unseparated = unseparated
  key_may (separated s) = separated (key_separate (pos 0) BlockKey refl s)

  gap_block : {n : ℤ} {c : Ctx} {i j : ℕ} {x : List CommentValue} → a ≤ i → j ≤ z → MaySeparate t n c i j x → MaySeparate t (pos 0) BlockKey i j x
  gap_block l m s = key_may (gap_key o l m s)

  properties_block : {n : ℤ} {c : Ctx} {i j : ℕ} {p : PropertiesValue} → a ≤ i → j ≤ z → Properties t n c i j p → Properties t (pos 0) BlockKey i j p
  properties_block l m p = key_properties (pos 0) BlockKey refl (properties_key o l m p)

  plain_block : {n : ℤ} {i j : ℕ} {x : List ℕ} → a ≤ i → j ≤ z → PlainText t n FlowOut i j x → PlainText t (pos 0) BlockKey i j x
  plain_block l m (as_key e d) = absurd (true≢false (sym e))
  plain_block {i = i} {j = j} l m (as_lines {h = h} {x = x} {y = y} e d c) =
      let f = line_forward d in
      let rest = no_nexts o (omega arith) m c in
      let text : x ≡ x ++ y = sym (append-nil x) ∙ ap (λ w. x ++ w) (sym rest.1) in
      let line : PlainLine t BlockKey i h x = line_same (λ k. sym (block_first t k)) (λ k. sym (block_char t k)) d in
      let there : PlainLine t BlockKey i j x = subst (λ k. PlainLine t BlockKey i k x) rest.0 line in
      as_key refl (subst (λ w. PlainLine t BlockKey i j w) text there)

  content_keyed : {h i j : ℕ} {n : ℤ} {x : Meaning} → IsUtf8 t → a ≤ i → j ≤ z → Derives t h (JsonContent n FlowOut) i j x → Derives t h (JsonContent (pos 0) BlockKey) i j x
  content_keyed u l m (a_single d) = a_single (single_widened u refl refl (single_key o l m d))
  content_keyed u l m (a_double d) = a_double (double_widened u refl refl (double_key o l m d))
  content_keyed u l m (an_empty_collection s b e g f) = an_empty_collection s refl e (gap_block (omega arith) (omega arith) g) f
  content_keyed u l m (a_collection s b e g d f) =
      let h = may_forward g in let k = (flow_starts d refl).later in
      a_collection s refl e (gap_block (omega arith) (omega arith) g) (entries_of_key o refl (omega arith) (omega arith) d) f

  pub node_keyed : {h i j : ℕ} {json : Bool} {n : ℤ} {x : Meaning} → IsUtf8 t → a ≤ i → j ≤ z → Derives t h (NodeOf json n FlowOut) i j x
      → Derives t h (NodeOf json (pos 0) BlockKey) i j x
  node_keyed u l m (an_alias b d) = an_alias refl d
  node_keyed u l m (a_plain d) = a_plain (plain_block l m d)
  node_keyed u l m (a_plain_with p s d) =
      let f = properties_forward p in let g = separate_forward s in let h = plain_later d in
      a_plain_with (properties_block l (omega arith) p) (separate_block (omega arith) (omega arith) s) (plain_block (omega arith) m d)
  node_keyed u l m (properties_alone b p) = properties_alone refl (properties_block l m p)
  node_keyed u l m (a_json d) = a_json (content_keyed u l m d)
  node_keyed u l m (a_json_with p s d) =
      let f = properties_forward p in let g = separate_forward s in let h = (flow_starts d refl).later in
      a_json_with (properties_block l (omega arith) p) (separate_block (omega arith) (omega arith) s) (content_keyed u (omega arith) m d)
