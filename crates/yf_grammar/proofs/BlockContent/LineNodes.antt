-- A flow node whose properties end on its line, before content: the reader finds it from the properties of the line and
-- the content after them.
use Rattle.std.proofs.Common.{◌≡◌, ℕ, ℤ, pos, ◌<◌, ◌≤◌, true, false, List, [], Some, None, refl, sym, subst, arith, true≢false, encode_utf8_all}
use Rattle.std.specs.Str.{IsUtf8}
use Rattle.yf_chars.specs.declared.context.Ctx.TheVariants.{FlowOut, FlowKey}
use Rattle.yf_chars.specs.Text.{code}
use Rattle.yf_chars.specs.Class.{is_white}
use Rattle.yf_chars.specs.Chain.{Chosen, Stuck, Many}
use Rattle.yf_chars.specs.Chain.Chain.{done}
use Rattle.yf_chars.proofs.ChainLemmas.{many_chosen}
use Rattle.yf_lines.specs.Basic.{SeparateInLine}
use Rattle.yf_lines.specs.Basic.SeparateInLine.{by_whites, at_start}
use Rattle.yf_comments.specs.Comment.{CommentValue}
use Rattle.yf_comments.specs.Comments.{LineEnd, SeparateLines, Separate}
use Rattle.yf_comments.specs.Comments.SeparateLines.{in_line, over_lines}
use Rattle.yf_comments.specs.Comments.Separate.{in_key, in_node}
use Rattle.yf_comments.proofs.RowLemmas.{separate_whites}
use Rattle.yf_events.specs.declared.event.ScalarStyle.TheVariants.{Plain as PlainStyle}
use Rattle.yf_plain.specs.Plain.{Plain}
use Rattle.yf_props.specs.Names.{Properties, PropertiesValue}
use Rattle.yf_grammar.specs.FlowReader.Parser.{ParsedNode, Parses, ANode, AContent, begins_content, propertied, lone_properties}
use Rattle.yf_grammar.specs.FlowReader.Parser.Parses.{properties_content, properties_plain, properties_end, properties_before_broken, properties_before_other}
use Rattle.yf_grammar.specs.Productions.Meaning.{scalar}
use Rattle.yf_grammar.proofs.BlockOutcomes.NodesAfter.{properties_no_start}
use Rattle.yf_grammar.proofs.BlockContent.PropertiesLines.{Spread, on_one_line, on_two_lines, spread, line_properties, line_ends_after}
use Rattle.yf_grammar.proofs.Ends.WiderLemmas.{key_properties}

module _ {t : List ℕ} (u : IsUtf8 t) {p g : ℕ} {q : PropertiesValue} (line : Chosen (Properties t (pos 0) FlowKey p) g q) (goes_on : Stuck (LineEnd t g)) where
  -- properties over lines end their line before the second one
  spread_here : {n : ℤ} {k : ℕ} {r : PropertiesValue} → Spread t n p k r → Properties t (pos 0) FlowKey p k r
  spread_here (on_one_line a) = a
  spread_here (on_two_lines {l = l} {cs = cs} a e f b m) =
      let same = line_properties u a (line_ends_after e) line in
      absurd (goes_on.none l cs (subst (λ w. LineEnd t w l cs) (sym same.0) e))

  -- the properties of the line are the node's
  pub node_chosen : (n : ℤ) → Chosen (Properties t n FlowOut p) g q
  node_chosen n = record {
    derived = key_properties n FlowOut refl line.derived;
    longest = λ k r a. line.longest k r (spread_here (spread FlowOut refl a));
    only = λ r a. line.only r (spread_here (spread FlowOut refl a));
  }

  line_far : {k j : ℕ} {w : List ℕ} → Many t is_white g k w → is_white (code t k) ≡ false → SeparateInLine t g j → j ≤ k
  line_far {k} {j} m f s = let v = separate_whites s in (many_chosen t is_white m f).longest j v.0 v.1

  lines_far : {n : ℤ} {k j : ℕ} {w : List ℕ} {x : List CommentValue} → Many t is_white g k w → is_white (code t k) ≡ false → SeparateLines t n g j x → (j ≤ k) × (x ≡ [])
  lines_far m f (in_line s) = (line_far m f s, refl)
  lines_far m f (over_lines {h = h} {x = x} d e) = absurd (goes_on.none h x d)

  node_far : {n : ℤ} {k j : ℕ} {w : List ℕ} {x : List CommentValue} → Many t is_white g k w → is_white (code t k) ≡ false → Separate t n FlowOut g j x → (j ≤ k) × (x ≡ [])
  node_far m f (in_key e s) = absurd (true≢false (sym e))
  node_far m f (in_node e s) = lines_far m f s

  -- white space after them is the separation
  pub gap_chosen : {k : ℕ} {w : List ℕ} (n : ℤ) → Many t is_white g k w → g < k → is_white (code t k) ≡ false → Chosen (Separate t n FlowOut g) k []
  gap_chosen n m l f = record {
    derived = in_node refl (in_line (by_whites m l));
    longest = λ j x s. (node_far m f s).0;
    only = λ x s. (node_far m f s).1;
  }

  line_nowhere : {j : ℕ} → is_white (code t g) ≡ false → SeparateInLine t g j → ⊥
  line_nowhere f (by_whites {j = j} m l) = let a = line_far (done {i = g}) f (by_whites m l) in omega arith
  line_nowhere f (at_start s) = properties_no_start u line.derived s

  node_nowhere : {n : ℤ} {j : ℕ} {x : List CommentValue} → is_white (code t g) ≡ false → Separate t n FlowOut g j x → ⊥
  node_nowhere f (in_key e s) = true≢false (sym e)
  node_nowhere f (in_node e (in_line s)) = line_nowhere f s
  node_nowhere f (in_node e (over_lines {h = h} {x = x} d v)) = goes_on.none h x d

  -- if neither white space nor the line's end follows them, the node is only the properties
  pub line_alone : {e : ℕ} {n : ℤ} → is_white (code t g) ≡ false → Parses t e (ANode n FlowOut p) (lone_properties q p g)
  line_alone {n = n} f = properties_end (node_chosen n) (record { none = λ j x s. node_nowhere f s })

  module _ {e k : ℕ} {n : ℤ} {w : List ℕ} (m : Many t is_white g k w) (l : g < k) (f : is_white (code t k) ≡ false) where
    pub line_content : {v : ParsedNode} → begins_content (code t k) ≡ true → Parses t e (AContent n FlowOut k) (Some v) → Parses t e (ANode n FlowOut p) (propertied q [] p g v)
    line_content b r = properties_content (node_chosen n) (gap_chosen n m l f) b r

    pub line_broken : begins_content (code t k) ≡ true → Parses t e (AContent n FlowOut k) None → Parses t e (ANode n FlowOut p) (lone_properties q p g)
    line_broken b r = properties_before_broken (node_chosen n) (gap_chosen n m l f) b r

    pub line_other : begins_content (code t k) ≡ false → Stuck (Plain t n FlowOut k) → Parses t e (ANode n FlowOut p) (lone_properties q p g)
    line_other b s = properties_before_other (node_chosen n) (gap_chosen n m l f) b s

    pub line_plain : {j : ℕ} {x : List ℕ} → begins_content (code t k) ≡ false → Chosen (Plain t n FlowOut k) j x
        → Parses t e (ANode n FlowOut p) (propertied q [] p g (record { end = j; height = 0; json = false; meaning = scalar PlainStyle (encode_utf8_all x) [] k j }))
    line_plain b d = properties_plain (node_chosen n) (gap_chosen n m l f) b d
