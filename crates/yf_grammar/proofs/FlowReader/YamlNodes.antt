-- The reader finds nodes like those of YAML as they are derived, inside of a flow collection and before text that can
-- follow them.
use Rattle.std.proofs.Common.{◌≡◌, ℕ, ℤ, Bool, true, false, List, Option, None, sym, ◌∙◌, arith}
use Rattle.std.specs.Str.{IsUtf8}
use Rattle.yf_chars.specs.declared.context.Ctx.{Ctx}
use Rattle.yf_chars.specs.Text.{code}
use Rattle.yf_lines.specs.Basic.{Clear}
use Rattle.yf_lines.proofs.BasicLemmas.{clear_back}
use Rattle.yf_comments.specs.Comment.{CommentValue}
use Rattle.yf_props.proofs.SeparationEnds.{separate_forward}
use Rattle.yf_props.specs.Names.{PropertiesValue}
use Rattle.yf_plain.specs.Kept.{is_inside}
use Rattle.yf_grammar.specs.Productions.Meaning.{Meaning, alias_to}
use Rattle.yf_grammar.specs.Productions.Grammar.{NodeOf, Derives}
use Rattle.yf_grammar.specs.Productions.Grammar.Derives.{an_alias, a_plain, a_plain_with, properties_alone}
use Rattle.yf_grammar.specs.FlowReader.Parser.{ParsedNode, found, ANode, Parses, propertied, lone_properties, plain_found}
use Rattle.yf_grammar.proofs.Ends.NodeExits.{node_alias, node_plain, node_properties, PastProperties, past_to_content, past_to_plain, past_to_nothing, past_to_broken, past_to_other}
use Rattle.yf_grammar.proofs.FlowReader.PlainEnds.{plain_leaps, first_no_bar, no_bar_plain}
use Rattle.yf_grammar.proofs.FlowReader.NodeExact.{Followed, plain_exact, plain_with_exact, alone_exact}
use Rattle.yf_props.proofs.NameOrder.{properties_forward}

-- the reader finds a node like YAML's, inside of a flow collection and before text that can follow it, as it is derived
pub yaml_node_is_found : {t : List ℕ} {n : ℤ} {c : Ctx} {h e i j : ℕ} {x : Meaning} {o : Option ParsedNode} → IsUtf8 t → is_inside c ≡ true
    → Derives t h (NodeOf false n c) i j x → Clear t i j → Followed t n c false j → Parses t e (ANode n c i) o → o ≡ found j h false x
yaml_node_is_found u s (an_alias b a) k f r = node_alias a r
yaml_node_is_found u s (a_plain p) k f r = plain_exact u s p k f r
yaml_node_is_found u s (a_plain_with d z p) k f r =
    let a = properties_forward d in
    let b = separate_forward z in
    plain_with_exact u s d z p (clear_back (omega arith) k) f r
yaml_node_is_found u s (properties_alone b d) k f r = alone_exact u d f r

no_propertied : (p : PropertiesValue) (cs : List CommentValue) (i g : ℕ) (f : ParsedNode) → propertied p cs i g f ≡ None → ⊥
unfolding propertied
no_propertied p cs i g f e = cc

no_lone : (p : PropertiesValue) (i g : ℕ) → lone_properties p i g ≡ None → ⊥
unfolding lone_properties found
no_lone p i g e = cc

no_found : (j h : ℕ) (b : Bool) (x : Meaning) → found j h b x ≡ None → ⊥
unfolding found
no_found j h b x e = cc

no_plain : (x : List ℕ) (i j : ℕ) → plain_found x i j ≡ None → ⊥
unfolding plain_found found
no_plain x i j e = cc

past_none : {t : List ℕ} {e : ℕ} {n : ℤ} {c : Ctx} {i g : ℕ} {p : PropertiesValue} {o : Option ParsedNode} → PastProperties t e n c i g p o → o ≡ None → ⊥
past_none {i = i} {g = g} {p = p} (past_to_content k cs f a b r q) z = no_propertied p cs i g f (sym q ∙ z)
past_none (past_to_plain k j cs x a b r q) z = no_found j 0 false _ (sym q ∙ z)
past_none {i = i} {g = g} {p = p} (past_to_nothing a q) z = no_lone p i g (sym q ∙ z)
past_none {i = i} {g = g} {p = p} (past_to_broken k cs a b r q) z = no_lone p i g (sym q ∙ z)
past_none {i = i} {g = g} {p = p} (past_to_other k cs a b r q) z = no_lone p i g (sym q ∙ z)

-- if a node like YAML's is derived, the reader finds one, in each context
pub yaml_node_is_not_missed : {t : List ℕ} {n : ℤ} {c : Ctx} {h e i j : ℕ} {x : Meaning} {o : Option ParsedNode} → Derives t h (NodeOf false n c) i j x → Clear t i j
    → Parses t e (ANode n c i) o → o ≡ None → ⊥
yaml_node_is_not_missed {i = i} {j = j} (an_alias {name = x} b a) k r z = no_found j 0 false (alias_to x i j) (sym (node_alias a r) ∙ z)
yaml_node_is_not_missed {t} {c = c} {i = i} (a_plain p) k r z =
    node_plain (λ q. q ≡ None → ⊥) (no_bar_plain (code t i) (first_no_bar t c i (plain_leaps p).0)) (record { text = p; clear = k }) (λ m y d q. no_plain y i m q) r z
yaml_node_is_not_missed (a_plain_with d s p) k r z = let a = node_properties d r in past_none a.3 z
yaml_node_is_not_missed (properties_alone b d) k r z = let a = node_properties d r in past_none a.3 z
