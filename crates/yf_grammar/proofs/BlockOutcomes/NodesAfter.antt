-- Properties and flow nodes end with a character of content, so no line begins at their ends.
use Rattle.std.proofs.Common.{◌≡◌, ℕ, ℤ, ◌+◌, ◌-◌, Bool, true, false, List, refl, subst, arith}
use Rattle.std.proofs.lemmas.Bool.Decides.{nat_tests}
use Rattle.std.specs.Str.{IsUtf8}
use Rattle.yf_chars.specs.declared.context.Ctx.{Ctx}
use Rattle.yf_chars.specs.Text.{code, next}
use Rattle.yf_chars.specs.Class.{is_ns_char, is_nb_char, is_printable, is_between, is_break_char, is_white}
use Rattle.yf_chars.specs.Chain.{Chain}
use Rattle.yf_chars.specs.Chain.Chain.{done, step}
use Rattle.yf_chars.specs.Chain.One.{one}
use Rattle.yf_chars.proofs.TextLemmas.{reads_real}
use Rattle.yf_lines.specs.Basic.{LineStart}
use Rattle.yf_plain.proofs.PlainLemmas.{ns_below}
use Rattle.yf_props.specs.Names.{Alias, Anchor, AnchorChar, TagProperty, Properties, PropertiesValue}
use Rattle.yf_props.specs.Names.Alias.{asterisk_name}
use Rattle.yf_props.specs.Names.Anchor.{ampersand_name}
use Rattle.yf_props.specs.Names.Properties.{by_tag, by_anchor, tag_first, anchor_first}
use Rattle.yf_props.specs.Props.{TagValue}
use Rattle.yf_props.proofs.SolidLemmas.{tag_all_solid}
use Rattle.yf_props.proofs.SeparationEnds.{Solid}
use Rattle.yf_props.proofs.TagLemmas.{tag_later}
use Rattle.yf_grammar.specs.Productions.Meaning.{Meaning}
use Rattle.yf_grammar.specs.Productions.Grammar.{NodeOf, JsonContent, Derives, closing}
use Rattle.yf_grammar.specs.Productions.Grammar.Derives.{an_alias, a_plain, a_plain_with, properties_alone, a_json, a_json_with, a_single, a_double, an_empty_collection, a_collection}
use Rattle.yf_grammar.proofs.Ends.BlankRuns.{ContentBefore, after_byte, no_start_past}
use Rattle.yf_grammar.proofs.FlowReader.PlainEnds.{plain_after}
use Rattle.yf_grammar.proofs.FlowReader.KeyLines.{anchor_ns}

pub solid_ns : (c : ℕ) → Solid c → is_ns_char c ≡ true
unfolding is_ns_char is_nb_char is_printable is_between is_break_char is_white
solid_ns c s = let l = s.low in let h = s.high in grind (arith, nat_tests)

ns_chars : (is_ns_char 38 ≡ true) × (is_ns_char 42 ≡ true) × (is_ns_char 39 ≡ true) × (is_ns_char 34 ≡ true) × (is_ns_char 93 ≡ true) × (is_ns_char 125 ≡ true)
unfolding is_ns_char is_nb_char is_printable is_between is_break_char is_white
ns_chars = (refl, refl, refl, refl, refl, refl)

module _ {t : List ℕ} (u : IsUtf8 t) where
  char_after : (i : ℕ) → is_ns_char (code t i) ≡ true → ContentBefore t (next t i)
  char_after i n = record { at = i; char = code t i; reads = reads_real t i u (ns_below (code t i) n); ns = n }

  names_after : {i j : ℕ} {x : List ℕ} → ContentBefore t i → Chain (AnchorChar t) i j x → ContentBefore t j
  names_after b done = b
  names_after b (step (one {i = i} e) c) = names_after (char_after i (anchor_ns (code t i) e)) c

  pub alias_after : {i j : ℕ} {x : List ℕ} → Alias t i j x → ContentBefore t j
  alias_after (asterisk_name {i = i} e r) = names_after (after_byte i u e (omega arith) ns_chars.1) r.chain

  anchor_after : {i j : ℕ} {x : List ℕ} → Anchor t i j x → ContentBefore t j
  anchor_after (ampersand_name {i = i} e r) = names_after (after_byte i u e (omega arith) ns_chars.0) r.chain

  tag_after : {i j : ℕ} {x : TagValue} → TagProperty t i j x → ContentBefore t j
  tag_after {i} {j} d =
      let l = tag_later d in
      let s = (tag_all_solid d).each (j - 1) (omega arith) (omega arith) in
      let e : (j - 1) + 1 ≡ j = omega arith in
      subst (λ k. ContentBefore t k) e (after_byte (j - 1) u refl (omega (arith, s.high)) (solid_ns (code t (j - 1)) s))

  pub properties_after : {n : ℤ} {c : Ctx} {i j : ℕ} {p : PropertiesValue} → Properties t n c i j p → ContentBefore t j
  properties_after (by_tag d) = tag_after d
  properties_after (by_anchor a) = anchor_after a
  properties_after (tag_first d s a) = anchor_after a
  properties_after (anchor_first a s d) = tag_after d

  pub properties_no_start : {n : ℤ} {c : Ctx} {i j : ℕ} {p : PropertiesValue} → Properties t n c i j p → LineStart t j → ⊥
  properties_no_start p = no_start_past u (properties_after p)

  closing_after : (j : ℕ) (s : Bool) → code t j ≡ closing s → ContentBefore t (j + 1)
  closing_after j true e = after_byte j u e (omega arith) ns_chars.4
  closing_after j false e = after_byte j u e (omega arith) ns_chars.5

  pub content_after : {h i j : ℕ} {n : ℤ} {c : Ctx} {x : Meaning} → Derives t h (JsonContent n c) i j x → ContentBefore t j
  content_after (a_single q) = subst (λ k. ContentBefore t k) q.end (after_byte q.close u q.closing (omega arith) ns_chars.2)
  content_after (a_double q) = subst (λ k. ContentBefore t k) q.end (after_byte q.close u q.closing (omega arith) ns_chars.3)
  content_after (an_empty_collection {j = j} s b e m f) = closing_after j s f
  content_after (a_collection {j = j} s b e m d f) = closing_after j s f

  pub node_next : {h i j : ℕ} {json : Bool} {n : ℤ} {c : Ctx} {x : Meaning} → Derives t h (NodeOf json n c) i j x → ContentBefore t j
  node_next (an_alias b a) = alias_after a
  node_next (a_plain p) = plain_after u p
  node_next (a_plain_with p s q) = plain_after u q
  node_next (properties_alone b p) = properties_after p
  node_next (a_json d) = content_after d
  node_next (a_json_with p s d) = content_after d
