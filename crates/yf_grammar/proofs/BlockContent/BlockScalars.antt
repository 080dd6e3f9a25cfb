-- The reader finds a block scalar in a block node as it is derived, and reaches its end: it has one end and one
-- meaning, and nothing else begins with its sign.
use Rattle.std.proofs.Common.{◌≡◌, ◌≢◌, ℕ, ℤ, pos, ◌+ℤ◌, Bool, true, false, ◌||◌, ◌==◌, List, [], Option, None, refl, sym, ap, ◌∙◌, arith, true≢false}
use Rattle.std.proofs.lemmas.Bool.Decides.{nat_tests}
use Rattle.std.proofs.Math.Bool.{and-false}
use Rattle.std.specs.Str.{IsUtf8}
use Rattle.yf_chars.specs.declared.context.Ctx.{Ctx}
use Rattle.yf_chars.specs.Text.{code}
use Rattle.yf_chars.specs.Class.{is_ns_char, is_nb_char, is_printable, is_between, is_break_char, is_white, is_indicator, is_flow_indicator}
use Rattle.yf_chars.specs.Chain.{Chosen, Stuck}
use Rattle.yf_chars.proofs.Tests.{none_some}
use Rattle.yf_lines.specs.Basic.{is_block}
use Rattle.yf_comments.specs.Comment.{CommentValue}
use Rattle.yf_comments.specs.Comments.{Separate}
use Rattle.yf_plain.specs.Plain.{is_plain_first, is_sign}
use Rattle.yf_plain.proofs.PlainLemmas.{first_other}
use Rattle.yf_props.specs.Names.{Properties, PropertiesValue}
use Rattle.yf_block_scalar.specs.Header.{BlockHeader, HeaderValue, Style}
use Rattle.yf_block_scalar.specs.Header.BlockHeader.{block_header}
use Rattle.yf_block_scalar.specs.Header.Style.{literal_sign, folded_sign}
use Rattle.yf_grammar.specs.Productions.BlockScalar.{BlockScalar}
use Rattle.yf_grammar.specs.Productions.BlockScalar.BlockScalar.{block_scalar}
use Rattle.yf_grammar.specs.Productions.Grammar.{NodeOf, Derives}
use Rattle.yf_grammar.specs.Productions.Grammar.Derives.{an_alias, a_plain, a_plain_with, properties_alone, a_json, a_json_with}
use Rattle.yf_grammar.proofs.FlowReader.FlowStarts.{flow_starts}
use Rattle.yf_grammar.specs.Productions.Meaning.{Meaning, meaning_after}
use Rattle.yf_grammar.specs.FlowReader.Parser.{ParsedNode, found, ANode, Parses, begins_alias, begins_properties, begins_content}
use Rattle.yf_grammar.specs.FlowReader.Parser.Parses.{alias_read, alias_missed, plain_read, plain_missed, content_read, properties_missed, properties_content, properties_plain, properties_end, properties_before_broken, properties_before_other}
use Rattle.yf_grammar.specs.BlockReader.BlockParser.{DashAt, Columns, Ahead, headed, MappingAt, by_question, by_colon, by_key, leaf_found, Inline, Leaf, Whole}
use Rattle.yf_grammar.specs.BlockReader.BlockParser.Whole.{sequence_read, sequence_missed, sequence_too_deep, mapping_read, mapping_missed, mapping_too_deep, properties_below, properties_leaf, properties_alone_missed, properties_apart_below, properties_apart, leaf_there, scalar_read, leaf_read, leaf_unended, leaf_missed, leaf_refused}
use Rattle.yf_grammar.specs.BlockReader.Halts.{NoColonAt, Halts}
use Rattle.yf_grammar.specs.BlockReader.Halts.Halts.{halts_sequence, halts_sequence_too_deep, halts_mapping, halts_mapping_too_deep, halts_properties_below, halts_properties_leaf, halts_properties_missed, halts_properties_apart_below, halts_properties_apart, halts_leaf, halts_scalar, halts_scalar_before, halts_plain, halts_plain_missed, halts_content, halts_content_unended, halts_content_missed, halts_refused}
use Rattle.yf_grammar.proofs.Ends.GapLemmas.{Visible}
use Rattle.yf_grammar.proofs.Ends.NodeExits.{alias_begins}
use Rattle.yf_grammar.proofs.FlowReader.PlainEnds.{plain_leaps}
use Rattle.yf_grammar.proofs.FlowReader.PropertiesEnds.{properties_begin}
use Rattle.yf_grammar.proofs.BlockOutcomes.OneScalars.{scalar_one}
use Rattle.yf_grammar.proofs.BlockOutcomes.BlockClaims.{IsFound, NodeExact, NodeHaltsReach}
use Rattle.yf_grammar.proofs.BlockOutcomes.BlockGaps.{block_no_key}
use Rattle.yf_grammar.proofs.BlockOutcomes.BlockStarts.{scalar_later}
use Rattle.yf_grammar.proofs.BlockContent.BlockLeaves.{gap_exact, gap_longest, longest_found}
use Rattle.yf_grammar.proofs.BlockOutcomes.OutcomeEnds.{leaf_is}
use Rattle.yf_grammar.proofs.WrittenTexts.LeafBack.{noting_nothing}

-- the sign of a block scalar
unfoldable pub is_bar_sign : ℕ → Bool
is_bar_sign c = (c == 124) || (c == 62)

sign_cases : (is_bar_sign 124 ≡ true) × (is_bar_sign 62 ≡ true)
unfolding is_bar_sign
sign_cases = (refl, refl)

sign_visible : (c : ℕ) → is_bar_sign c ≡ true → is_ns_char c ≡ true
unfolding is_bar_sign is_ns_char is_nb_char is_printable is_between is_break_char is_white
sign_visible c e = grind (arith, nat_tests)

pub sign_others : (c : ℕ) → is_bar_sign c ≡ true → (c ≢ 35) × (c ≢ 45) × (c ≢ 58) × (c ≢ 63)
unfolding is_bar_sign
sign_others c e = (λ q. grind (arith, nat_tests), λ q. grind (arith, nat_tests), λ q. grind (arith, nat_tests), λ q. grind (arith, nat_tests))

pub sign_begins : (c : ℕ) → is_bar_sign c ≡ true → (begins_alias c ≡ true → ⊥) × (begins_properties c ≡ true → ⊥) × (begins_content c ≡ true → ⊥)
unfolding is_bar_sign begins_alias begins_properties begins_content
sign_begins c e = (λ f. grind (arith, nat_tests), λ f. grind (arith, nat_tests), λ f. grind (arith, nat_tests))

sign_no_sign : (c : ℕ) → is_bar_sign c ≡ true → is_sign c ≡ false
unfolding is_bar_sign is_sign
sign_no_sign c e = grind (arith, nat_tests)

sign_indicator : (c : ℕ) → is_bar_sign c ≡ true → is_indicator c ≡ true
unfolding is_bar_sign is_indicator is_flow_indicator
sign_indicator c e = grind (arith, nat_tests)

pub sign_no_first : (t : List ℕ) (c : Ctx) (i : ℕ) → is_bar_sign (code t i) ≡ true → is_plain_first t c i ≡ false
sign_no_first t c i e =
    first_other t c i (sign_no_sign (code t i) e) ∙ rw (sign_indicator (code t i) e, and-false (is_ns_char (code t i))) refl

same_leaf : (a : Ahead) {j k : ℕ} {x y : Meaning} → (k ≡ j) × (y ≡ x) → IsFound (leaf_found a k 0 y []) j 0 (headed a x)
same_leaf a {j} {k} {x} {y} s = record {
  is = leaf_is a k 0 y [] ∙ ap (λ w. found k 0 false (headed a w)) (noting_nothing y) ∙ ap (λ w. found w 0 false (headed a y)) s.0 ∙ ap (λ w. found j 0 false (headed a w)) s.1;
}

module _ {t : List ℕ} where
  style_sign : {i j : ℕ} {f : Bool} → Style t i j f → is_bar_sign (code t i) ≡ true
  style_sign (literal_sign e) = ap is_bar_sign e ∙ sign_cases.0
  style_sign (folded_sign e) = ap is_bar_sign e ∙ sign_cases.1

  header_sign : {i j : ℕ} {h : HeaderValue} → BlockHeader t i j h → is_bar_sign (code t i) ≡ true
  header_sign (block_header s m r) = style_sign s

  pub scalar_sign : {n : ℤ} {i j : ℕ} {x : Meaning} → BlockScalar t n i j x → is_bar_sign (code t i) ≡ true
  scalar_sign (block_scalar h b l) = header_sign h

  pub scalar_visible : {n : ℤ} {i j : ℕ} {x : Meaning} → BlockScalar t n i j x → Visible t i
  scalar_visible {i = i} d = let e = scalar_sign d in record { ns = sign_visible (code t i) e; no_hash = (sign_others (code t i) e).0 }

  -- no flow node begins with it
  pub no_flow_node : {e i : ℕ} {n : ℤ} {c : Ctx} {o : Option ParsedNode} → is_bar_sign (code t i) ≡ true → Parses t e (ANode n c i) o → o ≡ None
  no_flow_node {i = i} q (alias_read a) = absurd ((sign_begins (code t i) q).0 (alias_begins a.derived))
  no_flow_node q (alias_missed b s) = refl
  no_flow_node {i = i} {c = c} q (plain_read b d) = absurd (true≢false (sym (plain_leaps d.derived.text).0 ∙ sign_no_first t c i q))
  no_flow_node q (plain_missed b s) = refl
  no_flow_node {i = i} q (content_read b r) = absurd ((sign_begins (code t i) q).2 b)
  no_flow_node q (properties_missed b s) = refl
  no_flow_node {i = i} q (properties_content d s b r) = absurd ((sign_begins (code t i) q).1 (properties_begin d.derived))
  no_flow_node {i = i} q (properties_plain d s b r) = absurd ((sign_begins (code t i) q).1 (properties_begin d.derived))
  no_flow_node {i = i} q (properties_end d s) = absurd ((sign_begins (code t i) q).1 (properties_begin d.derived))
  no_flow_node {i = i} q (properties_before_broken d s b r) = absurd ((sign_begins (code t i) q).1 (properties_begin d.derived))
  no_flow_node {i = i} q (properties_before_other d s b r) = absurd ((sign_begins (code t i) q).1 (properties_begin d.derived))

  sign_no_dash : {i : ℕ} → is_bar_sign (code t i) ≡ true → DashAt t i → ⊥
  sign_no_dash {i} q d = (sign_others (code t i) q).1 d.dash

  sign_no_mapping : {e i : ℕ} {n : ℤ} → is_bar_sign (code t i) ≡ true → MappingAt t e n i → ⊥
  sign_no_mapping {i = i} q (by_question s) = (sign_others (code t i) q).3 s.sign_is_at
  sign_no_mapping {i = i} q (by_colon s) = (sign_others (code t i) q).2 s.sign_is_at
  sign_no_mapping q (by_key r k) = none_some (sym (no_flow_node q r))

  sign_no_properties : {n : ℤ} {c : Ctx} {i g : ℕ} {p : PropertiesValue} → is_bar_sign (code t i) ≡ true → Chosen (Properties t n c i) g p → ⊥
  sign_no_properties {i = i} q d = (sign_begins (code t i) q).1 (properties_begin d.derived)

module _ {t : List ℕ} (u : IsUtf8 t) where
  -- a leaf, and the content of a line
  pub scalar_leaf : {e p j : ℕ} {n : ℤ} {a : Ahead} {x : Meaning} {o : Option ParsedNode} → BlockScalar t n p j x → Whole t e (Leaf n a p) o → IsFound o j 0 (headed a x)
  scalar_leaf {a = a} d (scalar_read b) = same_leaf a (scalar_one u d b.derived)
  scalar_leaf {j = j} {x = x} d (leaf_read s m r l) = absurd (s.none j x d)
  scalar_leaf {j = j} {x = x} d (leaf_unended s m r l) = absurd (s.none j x d)
  scalar_leaf {j = j} {x = x} d (leaf_missed s m r) = absurd (s.none j x d)
  scalar_leaf {j = j} {x = x} d (leaf_refused s m) = absurd (s.none j x d)

  pub scalar_inline : {e p j : ℕ} {n : ℤ} {c : Ctx} {cols : Columns} {a : Ahead} {x : Meaning} {o : Option ParsedNode} → BlockScalar t n p j x → Whole t e (Inline n c cols a p) o
      → IsFound o j 0 (headed a x)
  scalar_inline d (sequence_read q y r) = absurd (sign_no_dash (scalar_sign d) y)
  scalar_inline d (sequence_missed q y r) = absurd (sign_no_dash (scalar_sign d) y)
  scalar_inline d (sequence_too_deep q y) = absurd (sign_no_dash (scalar_sign d) y)
  scalar_inline d (mapping_read y q k r) = absurd (sign_no_mapping (scalar_sign d) k)
  scalar_inline d (mapping_missed y q k r) = absurd (sign_no_mapping (scalar_sign d) k)
  scalar_inline d (mapping_too_deep y q k) = absurd (sign_no_mapping (scalar_sign d) k)
  scalar_inline d (properties_below y p b g r) = absurd (sign_no_properties (scalar_sign d) p)
  scalar_inline d (properties_leaf y q p b g s k i r) = absurd (sign_no_properties (scalar_sign d) p)
  scalar_inline d (properties_alone_missed y q p b g) = absurd (sign_no_properties (scalar_sign d) p)
  scalar_inline d (properties_apart_below y p b g) = absurd (sign_no_properties (scalar_sign d) p)
  scalar_inline d (properties_apart y q p b g) = absurd (sign_no_properties (scalar_sign d) p)
  scalar_inline d (leaf_there y q p r) = scalar_leaf d r

  pub scalar_leaf_halts : {e p j : ℕ} {ws : List ℕ} {n : ℤ} {a : Ahead} {x : Meaning} {o : Option ParsedNode} → BlockScalar t n p j x → NoColonAt t j ws → Halts t e ws (Leaf n a p) o
      → IsFound o j 0 (headed a x)
  scalar_leaf_halts {a = a} d w (halts_scalar b) = same_leaf a (scalar_one u d b.derived.scalar)
  scalar_leaf_halts {j = j} {x = x} d w (halts_scalar_before b s) = absurd (s.none j x (record { scalar = d; allowed = w }))
  scalar_leaf_halts {j = j} {x = x} d w (halts_plain s m b r) = absurd (s.none j x d)
  scalar_leaf_halts {j = j} {x = x} d w (halts_plain_missed s m b r) = absurd (s.none j x d)
  scalar_leaf_halts {j = j} {x = x} d w (halts_content s m b r l) = absurd (s.none j x d)
  scalar_leaf_halts {j = j} {x = x} d w (halts_content_unended s m b r l) = absurd (s.none j x d)
  scalar_leaf_halts {j = j} {x = x} d w (halts_content_missed s m b r) = absurd (s.none j x d)
  scalar_leaf_halts {j = j} {x = x} d w (halts_refused s m) = absurd (s.none j x d)

  pub scalar_inline_halts : {e p j : ℕ} {ws : List ℕ} {n : ℤ} {c : Ctx} {cols : Columns} {a : Ahead} {x : Meaning} {o : Option ParsedNode} → BlockScalar t n p j x → NoColonAt t j ws
      → Halts t e ws (Inline n c cols a p) o → IsFound o j 0 (headed a x)
  scalar_inline_halts d w (halts_sequence q y r) = absurd (sign_no_dash (scalar_sign d) y)
  scalar_inline_halts d w (halts_sequence_too_deep q y) = absurd (sign_no_dash (scalar_sign d) y)
  scalar_inline_halts d w (halts_mapping y q k r) = absurd (sign_no_mapping (scalar_sign d) k)
  scalar_inline_halts d w (halts_mapping_too_deep y q k) = absurd (sign_no_mapping (scalar_sign d) k)
  scalar_inline_halts d w (halts_properties_below y p b g r) = absurd (sign_no_properties (scalar_sign d) p)
  scalar_inline_halts d w (halts_properties_leaf y q p b g s k i r) = absurd (sign_no_properties (scalar_sign d) p)
  scalar_inline_halts d w (halts_properties_missed y q p b g) = absurd (sign_no_properties (scalar_sign d) p)
  scalar_inline_halts d w (halts_properties_apart_below y p b g) = absurd (sign_no_properties (scalar_sign d) p)
  scalar_inline_halts d w (halts_properties_apart y q p b g) = absurd (sign_no_properties (scalar_sign d) p)
  scalar_inline_halts d w (halts_leaf y q p r) = scalar_leaf_halts d w r

-- no flow node is derived at a block scalar
module _ {t : List ℕ} where
  node_no_sign_bar : {h i j : ℕ} {json : Bool} {n : ℤ} {c : Ctx} {x : Meaning} → is_block c ≡ false → Derives t h (NodeOf json n c) i j x → is_bar_sign (code t i) ≡ true → ⊥
  node_no_sign_bar {i = i} b (an_alias f a) q = (sign_begins (code t i) q).0 (alias_begins a)
  node_no_sign_bar {i = i} {c = c} b (a_plain p) q = true≢false (sym (plain_leaps p).0 ∙ sign_no_first t c i q)
  node_no_sign_bar {i = i} b (a_plain_with p s d) q = (sign_begins (code t i) q).1 (properties_begin p)
  node_no_sign_bar {i = i} b (properties_alone f p) q = (sign_begins (code t i) q).1 (properties_begin p)
  node_no_sign_bar {i = i} b (a_json d) q = (sign_begins (code t i) q).2 (flow_starts d b).content
  node_no_sign_bar {i = i} b (a_json_with p s d) q = (sign_begins (code t i) q).1 (properties_begin p)

  pub node_no_scalar : {h i j : ℕ} {json : Bool} {n : ℤ} {c : Ctx} {x : Meaning} (m : ℤ) → is_block c ≡ false → Derives t h (NodeOf json n c) i j x → Stuck (BlockScalar t m i)
  node_no_scalar m b d = record { none = λ k y s. node_no_sign_bar b d (scalar_sign s) }

module _ {t : List ℕ} (u : IsUtf8 t) where
  -- the node of a block scalar
  pub scalar_owed : {i k j : ℕ} {n : ℤ} {c : Ctx} {cs : List CommentValue} {x : Meaning} → is_block c ≡ true → Separate t (n +ℤ pos 1) c i k cs → BlockScalar t n k j x
      → NodeExact t true 0 n c i j (meaning_after cs x)
  scalar_owed {c = c} {x = x} b s d e l z f q a n o r = gap_exact x c (block_no_key c b) s (scalar_visible d) z (scalar_later d) n (λ cols y m v w. scalar_inline u d w) r

  pub scalar_halting : {i k j : ℕ} {n : ℤ} {c : Ctx} {cs : List CommentValue} {x : Meaning} → is_block c ≡ true → Separate t (n +ℤ pos 1) c i k cs → BlockScalar t n k j x
      → NodeHaltsReach t 0 n c i j (meaning_after cs x)
  scalar_halting {c = c} {x = x} b s d e l z q a n ws y o r =
      gap_longest x c (block_no_key c b) s (scalar_visible d) z (scalar_later d) n (λ cols g m v w. longest_found (scalar_inline_halts u d y w)) r
