-- In the two block contexts no flow node is derived.
use Rattle.std.proofs.Common.{◌≡◌, ℕ, ℤ, Bool, true, false, List, sym, ◌∙◌, true≢false, refl}
use Rattle.yf_chars.specs.declared.context.Ctx.{Ctx}
use Rattle.yf_chars.specs.declared.context.Ctx.TheVariants.{BlockOut, BlockIn, FlowOut, FlowIn, BlockKey, FlowKey}
use Rattle.yf_chars.specs.Chain.{Stuck}
use Rattle.yf_lines.specs.Basic.{is_block, is_flow, is_key}
use Rattle.yf_plain.specs.Plain.{PlainText, as_key, as_lines}
use Rattle.yf_quoted.specs.Quoted.{Inside, as_key as inside_key, as_lines as inside_lines}
use Rattle.yf_grammar.specs.Productions.Meaning.{Meaning}
use Rattle.yf_grammar.specs.Productions.ReadParts.{FlowNodePart}
use Rattle.yf_grammar.specs.Productions.Grammar.{FlowNode, NodeOf, JsonContent, Derives}
use Rattle.yf_grammar.specs.Productions.Grammar.Derives.{flow_node, an_alias, a_plain, a_plain_with, properties_alone, a_json, a_json_with, a_single, a_double, an_empty_collection, a_collection}
use Rattle.yf_grammar.proofs.FlowReader.NodesAnswered.{flow_not_block}

key_is_no_block : (c : Ctx) → is_key c ≡ true → is_block c ≡ false
key_is_no_block BlockOut e = absurd (true≢false (sym e))
key_is_no_block BlockIn e = absurd (true≢false (sym e))
key_is_no_block FlowOut e = refl
key_is_no_block FlowIn e = refl
key_is_no_block BlockKey e = refl
key_is_no_block FlowKey e = refl

plain_context : {t : List ℕ} {i j : ℕ} {n : ℤ} (c : Ctx) {x : List ℕ} → PlainText t n c i j x → is_block c ≡ false
plain_context c (as_key k l) = key_is_no_block c k
plain_context c (as_lines f l s) = flow_not_block c f

inside_context : {A : Type 0} {t : List ℕ} {put : List ℕ → List A} {C B : ℕ → ℕ → List A → Type 0} (c : Ctx) {i j : ℕ} {x : List A} → Inside t put C B c i j x → is_block c ≡ false
inside_context c (inside_key k l) = key_is_no_block c k
inside_context c (inside_lines f l s) = flow_not_block c f

module _ {t : List ℕ} where
  json_context : {h i j : ℕ} {n : ℤ} {c : Ctx} {x : Meaning} → Derives t h (JsonContent n c) i j x → is_block c ≡ false
  json_context {c = c} (a_single q) = inside_context c q.inside
  json_context {c = c} (a_double q) = inside_context c q.inside
  json_context (an_empty_collection s b o m e) = b
  json_context (a_collection s b o m d e) = b

  node_context : {h i j : ℕ} {json : Bool} {n : ℤ} {c : Ctx} {x : Meaning} → Derives t h (NodeOf json n c) i j x → is_block c ≡ false
  node_context (an_alias b a) = b
  node_context {c = c} (a_plain p) = plain_context c p
  node_context {c = c} (a_plain_with p s q) = plain_context c q
  node_context (properties_alone b p) = b
  node_context (a_json d) = json_context d
  node_context (a_json_with p s d) = json_context d

  flow_node_context : {h i j : ℕ} {n : ℤ} {c : Ctx} {x : Meaning} → Derives t h (FlowNode n c) i j x → is_block c ≡ false
  flow_node_context (flow_node d) = node_context d

pub no_flow_node : {t : List ℕ} {limit i : ℕ} {n : ℤ} {c : Ctx} → is_block c ≡ true → Stuck (FlowNodePart t limit n c i)
no_flow_node b = record { none = λ j part d. true≢false (sym b ∙ flow_node_context d.derived) }
