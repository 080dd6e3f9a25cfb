-- The reader reads an implicit key of a block mapping as a flow node: a part that is derived in a key, before its `:`,
-- is found in a flow node outside of brackets, at any indentation.
use Rattle.std.proofs.Common.{◌≡◌, ℕ, ℤ, ◌+◌, ◌≤◌, Bool, true, false, List, [], Option, refl, ◌∙◌, arith}
use Rattle.std.proofs.lemmas.Bool.Decides.{nat_tests}
use Rattle.std.specs.Str.{IsUtf8}
use Rattle.yf_chars.specs.declared.context.Ctx.TheVariants.{FlowOut, BlockKey}
use Rattle.yf_chars.specs.Text.{code}
use Rattle.yf_chars.specs.Class.{is_ns_char, is_nb_char, is_printable, is_between, is_break_char, is_white, is_white_or_end, is_plain_safe}
use Rattle.yf_chars.specs.Chain.{Chosen}
use Rattle.yf_lines.specs.Basic.{Clear}
use Rattle.yf_lines.proofs.BasicLemmas.{clear_back}
use Rattle.yf_plain.specs.Plain.{PlainText, Plain}
use Rattle.yf_plain.proofs.PlainLemmas.{plain_colon}
use Rattle.yf_props.proofs.SeparationEnds.{separate_forward}
use Rattle.yf_grammar.specs.BlockReader.BlockParser.{SignAt}
use Rattle.yf_grammar.specs.Productions.Meaning.{Meaning}
use Rattle.yf_grammar.specs.Productions.Grammar.{NodeOf, Derives, MaySeparateInLine, MayBeColon}
use Rattle.yf_grammar.specs.Productions.Grammar.Derives.{an_alias, a_plain, a_plain_with, properties_alone, a_json, a_json_with}
use Rattle.yf_grammar.specs.FlowReader.Parser.{ParsedNode, found, ANode, Parses}
use Rattle.yf_grammar.proofs.FlowReader.PropertiesEnds.{stop_ns}
use Rattle.yf_grammar.proofs.FlowReader.PlainEnds.{plain_ends}
use Rattle.yf_grammar.proofs.FlowReader.FlowStarts.{flow_starts}
use Rattle.yf_grammar.proofs.Ends.WiderLemmas.{from_block_key, wider_plain, wider_properties, wider_separate, may_line_separate}
use Rattle.yf_grammar.proofs.Ends.NodeExits.{node_alias, node_content}
use Rattle.yf_grammar.proofs.FlowReader.NodeExact.{Followed, plain_agreed, plain_with_agreed, alone_exact}
use Rattle.yf_grammar.proofs.FlowReader.CompleteSteps.{stop_of_colon, json_with_exact, reaches_exact}
use Rattle.yf_grammar.proofs.FlowReader.Complete.{complete}
use Rattle.yf_props.proofs.NameOrder.{properties_forward}

pub safe_out : (c : ℕ) → is_plain_safe c FlowOut ≡ is_ns_char c
unfolding is_plain_safe
safe_out c = refl

-- white space, a break or the end of the text is no character of content
pub end_not_ns : (c : ℕ) → is_white_or_end c ≡ true → is_ns_char c ≡ false
unfolding is_white_or_end is_ns_char is_nb_char is_printable is_between is_break_char is_white
end_not_ns c e = grind (arith, nat_tests)

module _ {t : List ℕ} where
  colon_unsafe : {j : ℕ} → SignAt t 58 j → is_plain_safe (code t (j + 1)) FlowOut ≡ false
  colon_unsafe {j} s = safe_out (code t (j + 1)) ∙ end_not_ns (code t (j + 1)) s.follows

  colon_after : {j : ℕ} (json : Bool) → SignAt t 58 j → MayBeColon json t (j + 1) FlowOut
  colon_after true s = tt
  colon_after false s = colon_unsafe s

  key_followed : {n : ℤ} {k j : ℕ} (json : Bool) → MaySeparateInLine t k j → SignAt t 58 j → Followed t n FlowOut json k
  key_followed {n} {k} {j} json m s = record {
    place = j;
    comments = [];
    gap = may_line_separate n FlowOut m;
    stop = stop_of_colon (code t j) s.sign_is_at;
    colon = λ q. colon_after json s;
  }

  -- a plain scalar before such a `:` is the longest
  plain_before : {n : ℤ} {i k j l : ℕ} {x y : List ℕ} → IsUtf8 t → PlainText t n FlowOut i k x → Clear t i k → MaySeparateInLine t k j → SignAt t 58 j
      → Chosen (Plain t n FlowOut i) l y → (l ≡ k) × (y ≡ x)
  plain_before {n} {j = j} u p c m s d =
      plain_ends u p c (may_line_separate n FlowOut m) (stop_ns (code t j) (stop_of_colon (code t j) s.sign_is_at))
      (plain_colon t FlowOut j s.sign_is_at ∙ colon_unsafe s) d

module _ {t : List ℕ} (u : IsUtf8 t) where
  pub node_before_colon : {h e i k j : ℕ} {json : Bool} {m n : ℤ} {x : Meaning} {o : Option ParsedNode} → Derives t h (NodeOf json m BlockKey) i k x
      → MaySeparateInLine t k j → SignAt t 58 j → Clear t i k → h ≤ e → Parses t e (ANode n FlowOut i) o → o ≡ found k h json x
  node_before_colon (an_alias b a) z s c l r = node_alias a r
  node_before_colon (a_plain p) z s c l r =
      let p' = wider_plain from_block_key p in plain_agreed u p' c (λ g y d. plain_before u p' c z s d) r
  node_before_colon (a_plain_with q v p) z s c l r =
      let p' = wider_plain from_block_key p in
      let a = properties_forward q in
      let b = separate_forward v in
      let c' = clear_back (omega arith) c in
      plain_with_agreed u (wider_properties from_block_key q) (wider_separate from_block_key v) p' c' (λ g y d. plain_before u p' c' z s d) r
  node_before_colon (properties_alone b q) z s c l r = alone_exact u (wider_properties from_block_key q) (key_followed false z s) r
  node_before_colon {h} {k = k} {n = n} {x = x} (a_json d) z s c l r =
      node_content (λ q. q ≡ found k h true x) (flow_starts d refl).content
      (λ q p. reaches_exact (key_followed {n = n} true z s) (complete u d n FlowOut refl from_block_key c _ l q p)) r
  node_before_colon {h} {e} {k = k} {n = n} (a_json_with {x = x} q v d) z s c l r =
      let a = properties_forward q in
      let b = separate_forward v in
      json_with_exact k h x u (wider_properties from_block_key q) (wider_separate from_block_key v) (flow_starts (a_json d) refl).starts.visible (flow_starts d refl).content
      (λ y p. reaches_exact (key_followed {n = n} true z s) (complete u d n FlowOut refl from_block_key (clear_back (omega arith) c) e l y p)) r
